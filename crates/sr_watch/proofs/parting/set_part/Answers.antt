use Rattle.sr_watch.specs.Parts.{is_core}
use Rattle.std.proofs.Common.{true, false, Some, None, refl, ap}
use Rattle.sr_watch.proofs.Slots.{part_set, core_or_all}
use Rattle.sr_watch.proofs.parting.set_part.Goals as goal

pub returns-in-None-clause-slots : goal.returns-in-None-clause-slots
returns-in-None-clause-slots c = rw (c.set_mark.ensures.value, c.set_flag.ensures.value, c.in-None.is) (part_set c.args.memory.now c.args.at None false true refl c.requires)

pub returns-in-Some-clause-slots : goal.returns-in-Some-clause-slots
returns-in-Some-clause-slots c = rw (c.set_mark-in-Some.ensures.value, c.set_flag-in-Some.ensures.value, c.in-Some.is, c.is_core.ensures) (part_set c.args.memory.now c.args.at (Some c.in-Some.part) true (is_core c.in-Some.part) (ap Some (core_or_all c.in-Some.part)) c.requires)
