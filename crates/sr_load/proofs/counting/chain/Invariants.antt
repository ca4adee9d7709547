use Rattle.sr_load.proofs.counting.chain.Given as goal

abbrev pub ghosts-count_and_chain : goal.ghosts-count_and_chain
ghosts-count_and_chain a = record { name = a.blank.name; parts = a.blank.parts }
