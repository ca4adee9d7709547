use Rattle.std.proofs.Common.{◌≡◌, ◌∙◌, sym, ap, List, Result, Ok, Err, Bool}
use Rattle.std.specs.Result.{IfOk}
use Rattle.sr_base.specs.Literal.{Literal}
use Rattle.sr_model.specs.Substitution.{Substitution, substitution}
use Rattle.sr_model.specs.Chain.{Numbered, clauses}
use Rattle.sr_model.specs.Meeting.{Group, met}
use Rattle.sr_occurs.specs.Candidates.{HoldsLeft}
use Rattle.sr_check.specs.Candidates.{list_meets}
use Rattle.sr_check.specs.Ends.{meeting_of}
use Rattle.sr_check.proofs.Following.{clauses_more}
use Rattle.sr_occurs.proofs.Gathering.{left_more}
use Rattle.sr_check.proofs.Choosing.{all_met, met_each, all_sorted}
use Rattle.sr_check.proofs.witness.meet_all.Goals as goal

ok_then : {T E : Type 0} (r : Result T E) (P Q : T → Type 0) → ((x : T) → P x → Q x) → IfOk r P → IfOk r Q
ok_then (Ok x) P Q f h = f x h
ok_then (Err e) P Q f h = tt

pub returns-in-Met-clause-met : goal.returns-in-Met-clause-met
returns-in-Met-clause-met c =
    let strict : Bool = c.args.trial.now.strict in
    let live : Numbered = c.args.trial.now.live.now in
    let b : List Literal = c.args.trail.now.lits in
    let s : Substitution = substitution c.args.trial.now.subst.now in
    let gs : List Group = c.args.trial.now.groups.now in
    let all : list_meets strict live b s gs c.args.numbers.now ≡ met = ap (list_meets strict live b s gs) (sym c.as_slice.ensures.value) ∙ c.in_ok-meet_each.ensures.met ∙ ap meeting_of c.in-Met.is in
    all_met strict live b s gs c.args.numbers.now c.requires.rising c.requires.left (met_each strict live b s gs c.args.numbers.now all)

pub meet_each-requires-2-clause-room : goal.meet_each-requires-2-clause-room
meet_each-requires-2-clause-room c = clauses_more c.args.trail.now.room c.meet_each.new.trail.room (clauses c.args.trial.now.live.now) c.in_ok-meet_each.ensures.room c.requires.room

pub returns-clause-met : goal.returns-clause-met
returns-clause-met c =
    let strict : Bool = c.args.trial.now.strict in
    let live : Numbered = c.args.trial.now.live.now in
    let b : List Literal = c.args.trail.now.lits in
    let s : Substitution = substitution c.args.trial.now.subst.now in
    let gs : List Group = c.args.trial.now.groups.now in
    let left : HoldsLeft s c.sort.new.self live = left_more s c.args.numbers.now c.sort.new.self live c.sort.ensures.held c.requires.left in
    ok_then c.meet_each-2.result _ _ (λ m h. all_sorted strict live b s gs c.sort.new.self (meeting_of m) c.requires.rising left c.sort.ensures.sorted
    (ap (list_meets strict live b s gs) (sym c.as_slice-2.ensures.value) ∙ ap (λ x. list_meets strict live x s gs c.as_slice-2.result.now) (sym c.in_ok-meet_each.ensures.lits) ∙ h))
    c.meet_each-2.ensures.met
