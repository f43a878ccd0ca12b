use Rattle.wcv_instantiate.proofs.ascribing.check_ascribed.Given as goal

abbrev pub ghosts-matches_by : goal.ghosts-matches_by
ghosts-matches_by a = record { name = a.blank.name; parts = a.blank.parts }
