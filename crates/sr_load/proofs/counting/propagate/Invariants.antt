use Rattle.sr_load.proofs.counting.propagate.Given as goal

abbrev pub ghosts-count_and_propagate : goal.ghosts-count_and_propagate
ghosts-count_and_propagate a = record { name = a.blank.name; parts = a.blank.parts }
