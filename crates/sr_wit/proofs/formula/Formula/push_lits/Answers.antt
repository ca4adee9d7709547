use Rattle.std.proofs.Common.{◌≡◌, ◌++◌, ◌∷◌, [], ◌+◌, length, arith, ap, refl}
use Rattle.std.proofs.lemmas.Grind.{common_steps}
use Rattle.sr_wit.specs.Formulas.{UsesUpTo}
use Rattle.sr_wit.proofs.PieceLemmas.{length-pieces, pieces-push, formula-push}
use Rattle.sr_wit.proofs.formula.Formula.push_lits.Goals as goal

pub invariant_of-self-else-is_err-2 : goal.invariant_of-self-else-is_err-2
invariant_of-self-else-is_err-2 c =
    let lits : c.extend_from_slice.new.self.items ≡ c.self.inside.lits.items ++ c.args.lits.now = grind (arith, common_steps) in
    let ends : c.push.new.self.items ≡ c.self.inside.ends.items ++ (length c.self.inside.lits.items + length c.args.lits.now) ∷ [] = grind (arith, common_steps) in
    let count = length-pieces 0 c.self.inside.ends.items c.self.inside.lits.items in
    let same = ap (λ f. length f.clauses) c.self.view_is in
    let within : UsesUpTo c.self.inside.vars c.args.lits.now = rw (ap (λ f. f.vars) c.self.view_is) c.requires.within in
    formula-push c.self.inside.vars c.self.inside.ends.items c.push.new.self.items c.self.inside.lits.items c.extend_from_slice.new.self.items c.args.lits.now
    c.self.invariant lits ends (omega arith) c.requires.distinct within

pub returns-clause-ok : goal.returns-clause-ok
returns-clause-ok c =
    let lits : c.extend_from_slice.new.self.items ≡ c.self.inside.lits.items ++ c.args.lits.now = grind (arith, common_steps) in
    let ends : c.push.new.self.items ≡ c.self.inside.ends.items ++ (length c.self.inside.lits.items + length c.args.lits.now) ∷ [] = grind (arith, common_steps) in
    let parts = pieces-push 0 c.self.inside.ends.items c.self.inside.lits.items c.args.lits.now c.self.invariant.cut in
    let vars = ap (λ f. f.vars) c.self.view_is in
    let clauses = ap (λ f. f.clauses) c.self.view_is in
    rw (lits, ends, parts, clauses, vars) refl
