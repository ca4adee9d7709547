-- How a witness is tried, from the literals that the prefix of its step reached.
use Rattle.std.specs.Prelude.{ℕ, Bool, List, [], cond}
use Rattle.sr_base.specs.Literal.{Literal}
use Rattle.sr_model.specs.Substitution.{Substitution, substitution, substitution_for, reduction}
use Rattle.sr_model.specs.Chain.{Numbered}
use Rattle.sr_model.specs.Meeting.{Step, Meeting, met, left_meets, all_left_meet, groups_fit, witness_meets}
use Rattle.sr_check.specs.declared.witness.Trial.{Trial}
use Rattle.sr_check.specs.Candidates.{number_meets, list_meets}

abbrev pub subst_of : Trial → Substitution
subst_of t = substitution t.subst.now

abbrev pub trial_meets : Trial → List Literal → Meeting
trial_meets t b = witness_meets t.strict t.live.now b (subst_of t) t.groups.now

-- strict checking looks at the groups
abbrev pub trial_fits : Trial → List Literal → Meeting
trial_fits t b = cond t.strict (groups_fit t.live.now b (subst_of t) [] t.groups.now) met

-- all live clauses, some numbers in order, the clause of one number, and one clause
abbrev pub trial_meets_all : Trial → List Literal → Meeting
trial_meets_all t b = all_left_meet t.strict t.live.now b (subst_of t) t.groups.now t.live.now

abbrev pub trial_meets_list : Trial → List Literal → List ℕ → Meeting
trial_meets_list t b ns = list_meets t.strict t.live.now b (subst_of t) t.groups.now ns

abbrev pub trial_meets_number : Trial → List Literal → ℕ → Meeting
trial_meets_number t b n = number_meets t.strict t.live.now b (subst_of t) t.groups.now n

abbrev pub trial_meets_clause : Trial → List Literal → ℕ → List Literal → Meeting
trial_meets_clause t b n c = left_meets t.strict t.live.now b t.groups.now n (reduction (subst_of t) c)

-- a step by its witness, or by the one that makes its pivot true
abbrev pub step_meets : Bool → Numbered → List Literal → Step → Meeting
step_meets strict live b s = witness_meets strict live b (substitution_for s.clause s.witness) s.groups
