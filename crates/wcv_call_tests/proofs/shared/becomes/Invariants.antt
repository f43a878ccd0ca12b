use Rattle.wcv_call_tests.proofs.shared.becomes.Given as goal

abbrev pub ghosts-replaced_by : goal.ghosts-replaced_by
ghosts-replaced_by a = record { name = a.blank.name; parts = a.blank.parts }
