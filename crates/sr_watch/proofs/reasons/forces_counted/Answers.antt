use Rattle.std.proofs.Common.{◌≡◌, ◌≤◌, ◌∙◌, List, true, sym, ap, arith, length, get_or, take}
use Rattle.sr_base.specs.Literal.{Literal, complement, has, variable}
use Rattle.sr_arena.specs.Cells.{cell_at}
use Rattle.sr_watch.proofs.Tables.{in_list}
use Rattle.sr_watch.proofs.Visits.{within_cells}
use Rattle.sr_watch.proofs.Marking.{variable_complement}
use Rattle.sr_watch.proofs.Derivations.{forces_none, forces_same, forces_other, forces_all}
use Rattle.sr_watch.proofs.reasons.forces_counted.Goals as goal

pub loop-k-init : goal.loop-k-init
loop-k-init g c = forces_none (take c.args.count c.args.trail.now.lits) c.lits-clause.result.now c.args.l

pub is_early-requires : goal.is_early-requires
is_early-requires g c =
    let is : c.k-item.result ≡ get_or (cell_at c.args.memory.now c.args.at).lits c.loop-k.k-index c.k-item.result = c.k-item.is ∙ ap (λ (x : List Literal). get_or x c.loop-k.k-index c.k-item.result) c.lits-clause.ensures.value in
    let w : variable c.k-item.result ≤ c.args.trail.now.vars = within_cells c.args.memory.now c.args.trail.now c.requires.sound c.args.at c.k-item.result (in_list (cell_at c.args.memory.now c.args.at).lits c.loop-k.k-index c.k-item.result (omega (arith, ap (length {A = Literal}) c.lits-clause.ensures.value)) is) in
    omega (arith, variable_complement c.k-item.result, ap variable c.neg.ensures.value)

pub loop-k-preserved-then-is : goal.loop-k-preserved-then-is
loop-k-preserved-then-is g c =
    forces_same (take c.args.count c.args.trail.now.lits) c.lits-clause.result.now c.args.l c.k-item.result c.loop-k.k-index c.loop-k.found (omega arith) c.k-item.is (sym c.is.ensures ∙ c.if-is.true) c.loop-k.invariant

pub loop-k-preserved : goal.loop-k-preserved
loop-k-preserved g c =
    let h : has (complement c.k-item.result) (take c.args.count c.args.trail.now.lits) ≡ true = ap (λ x. has x (take c.args.count c.args.trail.now.lits)) (sym c.neg.ensures.value) ∙ c.is_early.ensures c.if-not-is_early.false in
    forces_other (take c.args.count c.args.trail.now.lits) c.lits-clause.result.now c.args.l c.k-item.result c.loop-k.k-index c.loop-k.found (omega arith) c.k-item.is h c.loop-k.invariant

pub returns : goal.returns
returns g c t = rw (sym c.lits-clause.ensures.value) (forces_all (take c.args.count c.args.trail.now.lits) c.lits-clause.result.now c.args.l c.loop-k.k-index c.loop-k.found (omega arith) t c.loop-k.invariant)
