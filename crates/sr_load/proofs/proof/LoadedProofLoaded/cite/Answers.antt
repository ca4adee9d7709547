use Rattle.std.proofs.Common.{◌≤◌, sym, subst, length, arith}
use Rattle.std.proofs.lemmas.List.{length_push}
use Rattle.sr_load.specs.Loaded.{LoadedState}
use Rattle.sr_load.specs.Copies.{AreCopies, Begins, CoversFirst}
use Rattle.sr_load.proofs.Asking.{either, copies_cite, covers_cite}
use Rattle.sr_load.proofs.proof.LoadedProofLoaded.cite.Goals as goal

pub invariant_of-self : goal.invariant_of-self
invariant_of-self c =
    let P : LoadedState → Type 0 = λ st. AreCopies st c.self.inside.copies × CoversFirst st c.self.inside.copies c.self.inside.copied × (c.self.inside.copied ≤ length st.cited) × Begins c.self.inside.copies.assumed st.assumed in
    let st = c.self.inside.timeline in
    either c.cite.result c.cite.ensures.ok c.cite.ensures.err
    (λ e. subst P (sym e) (copies_cite st c.self.inside.copies c.args.id c.self.invariant.0, covers_cite st c.self.inside.copies c.args.id c.self.inside.copied c.self.invariant.2 c.self.invariant.1, omega (arith, c.self.invariant.2, length_push st.cited c.args.id), c.self.invariant.3))
    (λ e. subst P (sym e) c.self.invariant)
