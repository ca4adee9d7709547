use Rattle.std.proofs.Common.{◌≡◌, ◌∙◌, ◌+◌, ◌<◌, ℕ, List, [], length, get_or, true, false, Some, arith, sym, ap}
use Rattle.std.specs.Prelude.{is_some}
use Rattle.sr_model.specs.Substitution.{substitution, reduction}
use Rattle.sr_model.specs.Chain.{clause_of}
use Rattle.sr_model.specs.Meeting.{Group, needs_hints}
use Rattle.sr_check.specs.Indexing.{place_from}
use Rattle.sr_check.proofs.Fitting.{fit_twice, fit_unneeded, fit_more}
use Rattle.std.proofs.lemmas.List.{get_or_default}
use Rattle.sr_check.proofs.witness.fit_groups.Goals as goal

abbrev group_of_index : List Group → ℕ → Group
group_of_index gs i = get_or gs i (0, [])

group_stands : (gs : List Group) (i : ℕ) → i < length gs → group_of_index gs i ≡ get_or gs i (group_of_index gs i)
group_stands gs i l = get_or_default gs i (0, []) (get_or gs i (0, [])) l

pub returns-then-get-i-clause-met : goal.returns-then-get-i-clause-met
returns-then-get-i-clause-met c =
    let some : clause_of c.args.trial.now.live.now (group_of_index c.args.trial.now.groups.now c.loop-i.i).0 ≡ Some c.in-Some.lits.now = ap (clause_of c.args.trial.now.live.now) (sym c.id-id.ensures) ∙ sym c.in-Some.ensures in
    let place : c.get-in-loop-i.result ≡ place_from 1 c.args.trial.now.groups.now (group_of_index c.args.trial.now.groups.now c.loop-i.i).0 =
    c.get-in-loop-i.ensures ∙ c.requires.index c.id-id.result (ap is_some (sym c.in-Some.ensures)) ∙ ap (place_from 1 c.args.trial.now.groups.now) c.id-id.ensures in
    rw (c.if-not-trial.false, c.id-id.ensures) (fit_twice c.args.trial.now.live.now c.args.trail.now.lits (substitution c.args.trial.now.subst.now) c.args.trial.now.groups.now c.loop-i.i (group_of_index c.args.trial.now.groups.now c.loop-i.i) c.loop-i.invariant.fit (omega arith) (group_stands c.args.trial.now.groups.now c.loop-i.i (omega arith))
    (λ e. c.if-get-i.true (place ∙ e)))

pub returns-then-not-branch-clause-met : goal.returns-then-not-branch-clause-met
returns-then-not-branch-clause-met c =
    let some : clause_of c.args.trial.now.live.now (group_of_index c.args.trial.now.groups.now c.loop-i.i).0 ≡ Some c.in-Some.lits.now = ap (clause_of c.args.trial.now.live.now) (sym c.id-id.ensures) ∙ sym c.in-Some.ensures in
    let place : place_from 1 c.args.trial.now.groups.now (group_of_index c.args.trial.now.groups.now c.loop-i.i).0 ≡ c.loop-i.i + 1 =
    sym (c.get-in-loop-i.ensures ∙ c.requires.index c.id-id.result (ap is_some (sym c.in-Some.ensures)) ∙ ap (place_from 1 c.args.trial.now.groups.now) c.id-id.ensures) ∙ c.if-get-i.false in
    let unneeded : needs_hints c.args.trail.now.lits (reduction (substitution c.args.trial.now.subst.now) c.in-Some.lits.now) ≡ false =
    ap (λ b. needs_hints b (reduction (substitution c.args.trial.now.subst.now) c.in-Some.lits.now)) (sym c.loop-i.invariant.lits) ∙ sym c.in_ok-needs.ensures.value ∙ c.if-not-branch.true in
    rw (c.if-not-trial.false, c.id-id.ensures) (fit_unneeded c.args.trial.now.live.now c.args.trail.now.lits (substitution c.args.trial.now.subst.now) c.args.trial.now.groups.now c.loop-i.i (group_of_index c.args.trial.now.groups.now c.loop-i.i) c.in-Some.lits.now c.loop-i.invariant.fit (omega arith) (group_stands c.args.trial.now.groups.now c.loop-i.i (omega arith)) place some unneeded)

pub loop-i-preserved : goal.loop-i-preserved
loop-i-preserved c =
    let some : clause_of c.args.trial.now.live.now (group_of_index c.args.trial.now.groups.now c.loop-i.i).0 ≡ Some c.in-Some.lits.now = ap (clause_of c.args.trial.now.live.now) (sym c.id-id.ensures) ∙ sym c.in-Some.ensures in
    let place : place_from 1 c.args.trial.now.groups.now (group_of_index c.args.trial.now.groups.now c.loop-i.i).0 ≡ c.loop-i.i + 1 =
    sym (c.get-in-loop-i.ensures ∙ c.requires.index c.id-id.result (ap is_some (sym c.in-Some.ensures)) ∙ ap (place_from 1 c.args.trial.now.groups.now) c.id-id.ensures) ∙ c.if-get-i.false in
    let needed : needs_hints c.args.trail.now.lits (reduction (substitution c.args.trial.now.subst.now) c.in-Some.lits.now) ≡ true =
    ap (λ b. needs_hints b (reduction (substitution c.args.trial.now.subst.now) c.in-Some.lits.now)) (sym c.loop-i.invariant.lits) ∙ sym c.in_ok-needs.ensures.value ∙ c.if-not-branch.false in
    record {
      lits = c.in_ok-needs.ensures.lits ∙ c.loop-i.invariant.lits;
      room = omega (arith, c.loop-i.invariant.room, c.in_ok-needs.ensures.room);
      fit = fit_more c.args.trial.now.live.now c.args.trail.now.lits (substitution c.args.trial.now.subst.now) c.args.trial.now.groups.now c.loop-i.i (group_of_index c.args.trial.now.groups.now c.loop-i.i) c.in-Some.lits.now c.loop-i.invariant.fit (omega arith) (group_stands c.args.trial.now.groups.now c.loop-i.i (omega arith)) place some needed;
    }
