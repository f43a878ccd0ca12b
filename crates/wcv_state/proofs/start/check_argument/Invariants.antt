use Rattle.wcv_state.proofs.start.check_argument.Given as goal

abbrev pub ghosts-value_matches : goal.ghosts-value_matches
ghosts-value_matches a = record { name = a.blank.name; parts = a.blank.parts }
