use Rattle.std.proofs.Common.{◌≤◌, refl, sym, subst, length}
use Rattle.sr_load.specs.Loaded.{LoadedState}
use Rattle.sr_load.specs.Copies.{AreCopies, Begins, CoversFirst}
use Rattle.sr_load.proofs.Asking.{either, copies_same}
use Rattle.sr_load.proofs.Copying.{begins_push}
use Rattle.sr_load.proofs.proof.LoadedProofLoaded.assume.Goals as goal

pub invariant_of-self : goal.invariant_of-self
invariant_of-self c =
    let P : LoadedState → Type 0 = λ st. AreCopies st c.self.inside.copies × CoversFirst st c.self.inside.copies c.self.inside.copied × (c.self.inside.copied ≤ length st.cited) × Begins c.self.inside.copies.assumed st.assumed in
    let st : LoadedState = c.self.inside.timeline in
    either c.assume.result c.assume.ensures.ok c.assume.ensures.err
    (λ e. subst P (sym e) (copies_same _ _ c.self.inside.copies refl refl refl c.self.invariant.0, c.self.invariant.1, c.self.invariant.2, begins_push c.self.inside.copies.assumed st.assumed c.args.l c.self.invariant.3))
    (λ e. subst P (sym e) c.self.invariant)
