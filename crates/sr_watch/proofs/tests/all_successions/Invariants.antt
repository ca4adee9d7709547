use Rattle.sr_watch.proofs.tests.all_successions.Given as goal

abbrev pub ghosts-successions_once : goal.ghosts-successions_once
ghosts-successions_once a = record { name = a.blank.name; parts = a.blank.parts }
