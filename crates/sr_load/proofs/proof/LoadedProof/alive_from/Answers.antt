use Rattle.std.proofs.Common.{◌≡◌, ◌≤◌, ℕ, false, ◌∙◌, sym, subst}
use Rattle.sr_load.specs.Loaded.{LoadedState, alive_in, next_of}
use Rattle.sr_load.specs.Numbers.{has_clause}
use Rattle.sr_load.proofs.Loads.{gone_more, zero_gone, gone_past}
use Rattle.sr_load.proofs.proof.LoadedProof.alive_from.Goals.{else-id-gt0-via-then-id-gt0+else-is_alive, else-id-gt0-via-else-id-gt0}
use Rattle.sr_load.proofs.proof.LoadedProof.alive_from.Goals as goal

pub loop-id-preserved : goal.loop-id-preserved
loop-id-preserved c = gone_more c.self.inside.timeline c.args.from c.loop-id.id c.loop-id.invariant (elim c.else-id-gt0.branch [ else-id-gt0-via-then-id-gt0+else-is_alive w ↦ sym w.is_alive.ensures ∙ w.if-is_alive.false | else-id-gt0-via-else-id-gt0 w ↦ zero_gone c.self.inside.timeline c.loop-id.id w.if-id-gt0.false ])

pub returns : goal.returns
returns c =
    let past : next_of c.self.inside.timeline ≤ c.loop-id.id = subst (λ m. m ≤ c.loop-id.id) c.next-next.ensures.value c.loop-id-test.false in
    subst (λ (l : LoadedState). (n : ℕ) → c.args.from ≤ n → has_clause (alive_in l) n ≡ false) c.self.view_is (gone_past c.self.inside.timeline c.args.from c.loop-id.id c.loop-id.invariant past)
