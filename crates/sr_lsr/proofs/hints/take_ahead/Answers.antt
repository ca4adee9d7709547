use Rattle.sr_lsr.proofs.hints.take_ahead.Goals as goal

pub returns-in-Text-clause-spells : goal.returns-in-Text-clause-spells
returns-in-Text-clause-spells c = rw c.in-Text.is c.take_text.ensures.spells

pub returns-in-Binary-clause-spells : goal.returns-in-Binary-clause-spells
returns-in-Binary-clause-spells c = rw c.in-Binary.is c.take_binary.ensures.spells
