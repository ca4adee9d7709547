use Rattle.sr_load.proofs.counting.lits_at.Given as goal

abbrev pub ghosts-count_and_read : goal.ghosts-count_and_read
ghosts-count_and_read a = record { name = a.blank.name; parts = a.blank.parts }
