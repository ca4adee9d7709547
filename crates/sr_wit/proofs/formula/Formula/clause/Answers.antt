use Rattle.std.proofs.Common.{◌-◌, ◌<◌, [], arith, length, ap, get_or, sym, ◌∙◌}
use Rattle.std.specs.Prelude.{All}
use Rattle.sr_base.specs.Literal.{NoRepeats}
use Rattle.sr_wit.specs.Formulas.{UsesUpTo}
use Rattle.sr_wit.proofs.PieceLemmas.{length-pieces, get_or-pieces}
use Rattle.sr_wit.proofs.formula.Formula.clause.Goals as goal

pub piece-requires : goal.piece-requires
piece-requires c =
    let count = length-pieces 0 c.self.inside.ends.items c.self.inside.lits.items in
    let same = ap (λ f. length f.clauses) c.self.view_is in
    record {
      cut = rw (c.deref.ensures.value, c.deref-2.ensures.value) c.self.invariant.cut;
      index = rw c.deref-2.ensures.value (omega arith);
    }

-- the clause of the number
value : goal.returns-clause-value
value c =
    let count = length-pieces 0 c.self.inside.ends.items c.self.inside.lits.items in
    let same = ap (λ f. length f.clauses) c.self.view_is in
    let inside : c.args.id - 1 < length c.self.inside.ends.items = omega arith in
    let at = get_or-pieces 0 c.self.inside.ends.items c.self.inside.lits.items (c.args.id - 1) inside in
    let clause = ap (λ f. get_or f.clauses (c.args.id - 1) []) c.self.view_is in
    rw (c.deref.ensures.value, c.deref-2.ensures.value) at c.piece.ensures ∙ sym at ∙ clause

pub returns-clause-value : goal.returns-clause-value
returns-clause-value c = value c

pub returns-clause-distinct : goal.returns-clause-distinct
returns-clause-distinct c =
    let distinct : All NoRepeats c.args.self.now.clauses = rw (ap (λ f. f.clauses) c.self.view_is) at c.self.invariant.distinct in
    rw (value c) (distinct (c.args.id - 1) [] (omega arith))

pub returns-clause-within : goal.returns-clause-within
returns-clause-within c =
    let within : All (UsesUpTo c.args.self.now.vars) c.args.self.now.clauses = rw (ap (λ f. f.clauses) c.self.view_is, ap (λ f. f.vars) c.self.view_is) at c.self.invariant.within in
    rw (value c) (within (c.args.id - 1) [] (omega arith))
