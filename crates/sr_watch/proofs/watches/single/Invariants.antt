use Rattle.sr_watch.proofs.watches.single.Given as goal

abbrev pub ghosts-single_counted : goal.ghosts-single_counted
ghosts-single_counted a = record { name = a.blank.name; parts = a.blank.parts }
