use Rattle.sr_watch.proofs.tests.follows_nothing.Given as goal

abbrev pub ghosts-is_still_once : goal.ghosts-is_still_once
ghosts-is_still_once a = record { name = a.blank.name; parts = a.blank.parts }
