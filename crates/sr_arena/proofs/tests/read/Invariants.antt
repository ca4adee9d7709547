use Rattle.sr_arena.proofs.tests.read.Given as goal

abbrev pub ghosts-told_once : goal.ghosts-told_once
ghosts-told_once a = record { name = a.blank.name; parts = a.blank.parts }
