use Rattle.std.proofs.Common.{◌≡◌, Some, true, subst, arith, take}
use Rattle.std.proofs.lemmas.Bool.Decides.{nat_tests}
use Rattle.sr_arena.specs.Cells.{cell_at}
use Rattle.sr_watch.specs.Attaching.{AreOpenWatches}
use Rattle.sr_watch.specs.Resting.{is_pending}
use Rattle.sr_watch.proofs.Choosing.{open_less}
use Rattle.sr_watch.proofs.attaching.hold.Goals as goal

pub returns-clause-others : goal.returns-clause-others
returns-clause-others g c r ne _ z =
    let is : c.in-Some.other ≡ r = (let t : is_pending (Some c.in-Some.other) r ≡ true = subst (λ p. is_pending p r ≡ true) c.in-Some.is z in grind (arith, nat_tests)) in
    let o : AreOpenWatches (cell_at c.args.memory.now c.in-Some.other).lits (take c.open_length-other_low.result c.args.trail.now.lits) = subst (λ x. AreOpenWatches x (take c.open_length-other_low.result c.args.trail.now.lits)) c.lits.ensures.value c.open_length-other_low.ensures.open_here in
    subst (λ j. AreOpenWatches (cell_at c.args.memory.now j).lits (take c.min-watches.result c.args.trail.now.lits)) is
    (open_less c.min-watches.result c.open_length-other_low.result (cell_at c.args.memory.now c.in-Some.other).lits c.args.trail.now.lits (omega (arith, c.min-watches.ensures)) o)
