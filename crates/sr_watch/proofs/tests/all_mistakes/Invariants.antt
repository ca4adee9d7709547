use Rattle.sr_watch.proofs.tests.all_mistakes.Given as goal

abbrev pub ghosts-mistakes_of : goal.ghosts-mistakes_of
ghosts-mistakes_of a = record { name = a.blank.name; parts = a.blank.parts }
