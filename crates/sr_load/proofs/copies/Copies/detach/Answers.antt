use Rattle.std.proofs.Common.{◌≡◌, true, false, ◌≢◌, ◌-◌, arith, ap, ◌∙◌, sym}
use Rattle.std.proofs.lemmas.List.{get_or_read}
use Rattle.sr_watch.specs.State.{slot_in}
use Rattle.sr_load.specs.Numbers.{entry_of}
use Rattle.sr_load.specs.Copies.{Copied}
use Rattle.sr_load.proofs.Copying.{keeps_detached}
use Rattle.sr_load.proofs.copies.Copies.detach.Goals as goal

pub invariant_of-self : goal.invariant_of-self
invariant_of-self c =
    let refs = c.self.inside.refs.items in
    let here : c.in-Some.at ≡ entry_of refs c.args.id = c.in-Some.ensures.value ∙ get_or_read refs (c.args.id - 1) c.index.result.now (omega (arith, c.if-i-len.false, c.len.ensures)) c.index.ensures 0 in
    let some : entry_of refs c.args.id ≢ 0 = λ z. let bad : true ≡ false = c.in-Some.ensures.none.1 (sym c.in-Some.ensures.value ∙ here ∙ z) in absurd cc in
    keeps_detached _ _ _ _ _ _ c.detach.ensures.value.0 (ap (λ (x : Copied). x.assumed) c.self.view_is ∙ c.requires.none) (ap (λ r. (slot_in c.self.inside.propagator.slots r).held) here ∙ c.self.invariant.led.held c.args.id c.requires.low some) c.detach.ensures.value.1 c.self.invariant
