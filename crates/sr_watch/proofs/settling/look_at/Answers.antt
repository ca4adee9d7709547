use Rattle.std.proofs.Common.{◌≡◌, arith, sym, ◌∙◌, ap, true, false, take, take_all, option_to_list, [], ◌∷◌}
use Rattle.std.specs.Prelude.{is_some}
use Rattle.sr_base.specs.Literal.{complement, has, variable}
use Rattle.sr_model.specs.Chain.{open_literals}
use Rattle.sr_model.proofs.Chains.{open_one}
use Rattle.sr_watch.proofs.Tables.{in_list}
use Rattle.sr_watch.proofs.Marking.{variable_complement}
use Rattle.sr_watch.proofs.Looking.{second_settles, refuted_is, single_is, true_settles}
use Rattle.sr_watch.proofs.settling.look_at.Goals as goal

pub is_true-requires : goal.is_true-requires
is_true-requires c =
    let w = c.requires.within c.l-item.result (in_list c.args.clause.now c.loop-l.l-index c.l-item.result (omega arith) c.l-item.is) in
    omega (arith, w, variable_complement c.l-item.result, ap variable c.neg.ensures.value)

pub returns-then-is_some : goal.returns-then-is_some
returns-then-is_some c =
    let s : is_some c.loop-l.found ≡ true = grind arith in
    let n : has (complement c.l-item.result) c.args.trail.now.lits ≡ false = ap (λ k. has k c.args.trail.now.lits) (sym c.neg.ensures.value) ∙ sym c.is_true.ensures ∙ c.if-not-is_true.true in
    second_settles c.args.trail.now.lits c.args.clause.now c.loop-l.l-index c.l-item.result c.loop-l.found c.requires.distinct (omega arith) c.l-item.is c.loop-l.invariant s n

pub is_true-requires-in-Some : goal.is_true-requires-in-Some
is_true-requires-in-Some c =
    let all : take c.loop-l.l-index c.args.clause.now ≡ c.args.clause.now = take_all c.loop-l.l-index c.args.clause.now (omega arith) in
    let o : open_literals c.args.trail.now.lits c.args.clause.now ≡ c.in-Some.l ∷ [] = ap (open_literals c.args.trail.now.lits) (sym all) ∙ sym c.loop-l.invariant ∙ ap option_to_list c.in-Some.is in
    c.requires.within c.in-Some.l (open_one c.args.trail.now.lits c.args.clause.now c.in-Some.l o)

pub returns-then-is_true : goal.returns-then-is_true
returns-then-is_true c =
    let all : take c.loop-l.l-index c.args.clause.now ≡ c.args.clause.now = take_all c.loop-l.l-index c.args.clause.now (omega arith) in
    let o : open_literals c.args.trail.now.lits c.args.clause.now ≡ c.in-Some.l ∷ [] = ap (open_literals c.args.trail.now.lits) (sym all) ∙ sym c.loop-l.invariant ∙ ap option_to_list c.in-Some.is in
    true_settles c.args.trail.now.lits c.args.clause.now c.in-Some.l o (sym c.is_true-in-Some.ensures ∙ c.if-is_true.true)

pub returns-in-None : goal.returns-in-None
returns-in-None c =
    let all : take c.loop-l.l-index c.args.clause.now ≡ c.args.clause.now = take_all c.loop-l.l-index c.args.clause.now (omega arith) in
    let o : open_literals c.args.trail.now.lits c.args.clause.now ≡ [] = ap (open_literals c.args.trail.now.lits) (sym all) ∙ sym c.loop-l.invariant ∙ ap option_to_list c.in-None.is in
    refuted_is c.args.trail.now.lits c.args.clause.now o

pub returns-else-is_true : goal.returns-else-is_true
returns-else-is_true c =
    let all : take c.loop-l.l-index c.args.clause.now ≡ c.args.clause.now = take_all c.loop-l.l-index c.args.clause.now (omega arith) in
    let o : open_literals c.args.trail.now.lits c.args.clause.now ≡ c.in-Some.l ∷ [] = ap (open_literals c.args.trail.now.lits) (sym all) ∙ sym c.loop-l.invariant ∙ ap option_to_list c.in-Some.is in
    single_is c.args.trail.now.lits c.args.clause.now c.in-Some.l o (sym c.is_true-in-Some.ensures ∙ c.if-is_true.false)
