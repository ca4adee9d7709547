use Rattle.std.proofs.Common.{◌≡◌, ◌∙◌, arith, ap, sym}
use Rattle.std.proofs.lemmas.Bool.Decides.{nat_tests}
use Rattle.sr_watch.specs.State.{State, held_cells}
use Rattle.sr_watch.proofs.Keeping.{cells_are}
use Rattle.sr_watch.proofs.propagator.Propagator.has_cells.Goals as goal

pub returns-then-free-ge4 : goal.returns-then-free-ge4
returns-then-free-ge4 c =
    let most : c.self.inside.most ≡ c.args.self.now.most = c.self.invariant.1 ∙ ap (λ (s : State). s.most) c.self.view_is in
    let held : c.held_cells.result ≡ held_cells c.args.self.now = c.held_cells.ensures.value ∙ sym (cells_are c.self.inside.trail.vars c.self.inside.memory c.self.inside.trail.lits c.self.inside.trail.reasons) ∙ ap held_cells c.self.view_is in
    let t = c.if-free-ge4.true in
    (λ h. grind (arith, nat_tests), λ h. grind (arith, nat_tests))

pub returns-else-free-ge4 : goal.returns-else-free-ge4
returns-else-free-ge4 c =
    let most : c.self.inside.most ≡ c.args.self.now.most = c.self.invariant.1 ∙ ap (λ (s : State). s.most) c.self.view_is in
    let held : c.held_cells.result ≡ held_cells c.args.self.now = c.held_cells.ensures.value ∙ sym (cells_are c.self.inside.trail.vars c.self.inside.memory c.self.inside.trail.lits c.self.inside.trail.reasons) ∙ ap held_cells c.self.view_is in
    let t = c.if-free-ge4.false in
    (λ h. grind (arith, nat_tests), λ h. grind (arith, nat_tests))
