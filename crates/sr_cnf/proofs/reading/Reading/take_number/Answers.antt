use Rattle.std.proofs.Common.{rules, ◌≡◌, ◌⊎◌, ◌<◌, inl, inr, refl, pos, arith}
use Rattle.std.specs.Prelude.{nat_abs}
use Rattle.std.proofs.lemmas.Int.{to_z-of_z}
use mir.Val.{SFits}
use mir.Syntax.{w64}
use Rattle.sr_cnf.proofs.Numbers.{number-above}
use Rattle.sr_cnf.proofs.reading.Reading.take_number.Goals as goal

pub returns-in-None-clause-takes : goal.returns-in-None-clause-takes
returns-in-None-clause-takes c =
    let fits : SFits w64 c.args.x = search rules in
    let none : (c.args.x ≡ pos 0) ⊎ (16777215 < nat_abs c.args.x) = rw (to_z-of_z w64 c.args.x fits) at (c.in-None.ensures.none.0 refl) in
    let some : c.args.x ≡ pos 0 → ⊥ = λ e. c.if-x-eq0.false (rw e refl) in
    let above : c.args.self.now.formula.vars < nat_abs c.args.x = elim none [ inl z ↦ absurd (some z) | inr h ↦ let b = c.requires.keeps.bound in omega arith ] in
    rw c.text.ensures (λ more. number-above c.args.self.now.formula.vars c.args.self.now.formula.clauses c.args.self.now.lits c.args.x c.args.place more above)
