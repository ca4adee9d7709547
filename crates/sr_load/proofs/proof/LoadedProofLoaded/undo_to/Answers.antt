use Rattle.std.proofs.Common.{◌≤◌, refl, sym, subst, length, take}
use Rattle.sr_load.specs.Loaded.{LoadedState}
use Rattle.sr_load.specs.Copies.{Copied, AreCopies, Begins, CoversFirst}
use Rattle.sr_load.proofs.Asking.{copies_same, copies_undone}
use Rattle.sr_load.proofs.Copying.{begins_both}
use Rattle.sr_load.proofs.proof.LoadedProofLoaded.undo_to.Goals as goal

pub invariant_of-self : goal.invariant_of-self
invariant_of-self c =
    let P : LoadedState → Copied → Type 0 = λ st d. AreCopies st d × CoversFirst st d c.self.inside.copied × (c.self.inside.copied ≤ length st.cited) × Begins d.assumed st.assumed in
    let st : LoadedState = c.self.inside.timeline in let m = c.args.mark in
    subst (λ x. P x c.undo_to-2.new.self) (sym c.undo_to.ensures) (subst (P (record st { assumed = take m st.assumed })) (sym c.undo_to-2.ensures) (
      copies_same _ _ _ refl refl refl (copies_undone st c.self.inside.copies (take m c.self.inside.copies.assumed) c.self.invariant.0),
      c.self.invariant.1,
      c.self.invariant.2,
      begins_both m c.self.inside.copies.assumed st.assumed c.self.invariant.3,
    ))
