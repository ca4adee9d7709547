use Rattle.std.proofs.Common.{subst}
use Rattle.sr_load.specs.Loaded.{LoadedState}
use Rattle.sr_load.specs.Finding.{PartTests}
use Rattle.sr_load.proofs.Alike.{keeps_derived, part_tests, if_ok_map}
use Rattle.sr_load.proofs.timeline.Timeline.test.Goals as goal

pub invariant_of-self : goal.invariant_of-self
invariant_of-self c = (keeps_derived _ _ _ _ _ _ _ _ c.self.invariant.0 c.test.ensures.derives c.test.ensures.cells c.test.ensures.sound, c.self.invariant.1)

pub returns-clause-ok : goal.returns-clause-ok
returns-clause-ok c =
    let k = keeps_derived _ _ _ _ _ _ _ _ c.self.invariant.0 c.test.ensures.derives c.test.ensures.cells c.test.ensures.sound in
    if_ok_map c.test.result _ _ (λ b h. subst (λ (st : LoadedState). PartTests st c.args.part b c.test.new.numbers) c.self.view_is (part_tests _ _ _ _ _ _ _ c.args.part b c.test.new.numbers k c.test.ensures.sound h)) c.test.ensures.ok
