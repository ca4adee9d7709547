use Rattle.std.proofs.Common.{◌≡◌, Bool, true, false, sym, subst}
use Rattle.std.specs.Prelude.{IsTrue, ◌↔◌}
use Rattle.sr_watch.specs.declared.parts.Found.{Found}
use Rattle.sr_watch.specs.declared.parts.Found.TheVariants.{Still}
use Rattle.sr_watch.specs.State.{State}
use Rattle.sr_load.specs.Finding.{AreAttachedOrNone}
use Rattle.sr_load.proofs.Conflicts.{asked_of, asked_chain}
use Rattle.sr_load.proofs.finding.test.Goals as goal

not_still : (b : Bool) (f : Found) → (IsTrue b ↔ (f ≡ Still)) → b ≡ false → f ≡ Still → ⊥
not_still b f h none e = let t : b ≡ true = h.1 e in cc

pub write_numbers-requires-clause-attached : goal.write_numbers-requires-clause-attached
write_numbers-requires-clause-attached c =
    let s = c.propagate-found.new.propagator in
    let asked = asked_of c.args.part s c.propagate-found.result c.propagate-found.ensures.means (not_still c.is_still.result c.propagate-found.result c.is_still.ensures c.if-is_still.false) in
    subst (λ (t : State). AreAttachedOrNone t c.as_slice.result.now) (sym c.chain.ensures.same)
    (rw c.as_slice.ensures (asked_chain s c.propagate-found.result c.chain.new.chain c.propagate-found.ensures.sound asked c.in_ok-chain.ensures.ok.of))
