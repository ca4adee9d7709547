use Rattle.sr_watch.proofs.reasons.forces.Given as goal

abbrev pub ghosts-forces_counted : goal.ghosts-forces_counted
ghosts-forces_counted a = record { name = a.blank.name; parts = a.blank.parts }
