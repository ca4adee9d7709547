use Rattle.std.proofs.Common.{◌≡◌, ◌∙◌, sym, ap, subst, arith, length, take, take_all}
use Rattle.sr_watch.specs.Trail.{Entries}
use Rattle.sr_watch.proofs.trail.Trail.cut.Goals as goal

pub loop-self-init : goal.loop-self-init
loop-self-init c =
    let sizes : length c.args.self.now.reasons ≡ length c.args.self.now.lits = subst (λ (e : Entries). length e.reasons ≡ length e.lits) c.self.view_is c.self.invariant.0.sizes in
    let ls : take (length c.args.self.now.lits) c.args.self.now.lits ≡ c.args.self.now.lits = take_all (length c.args.self.now.lits) c.args.self.now.lits (omega arith) in
    let rs : take (length c.args.self.now.lits) c.args.self.now.reasons ≡ c.args.self.now.reasons = take_all (length c.args.self.now.lits) c.args.self.now.reasons (omega arith) in
    record { value = ap (λ x. record c.args.self.now { lits = x }) (sym ls) ∙ ap (λ x. record c.args.self.now { lits = take (length c.args.self.now.lits) c.args.self.now.lits; reasons = x }) (sym rs); low = c.requires; high = omega arith }
