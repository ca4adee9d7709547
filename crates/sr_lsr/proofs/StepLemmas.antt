-- Steps, of their literals and hints.
use Rattle.std.proofs.Common.{◌≡◌, ◌∙◌, ℕ, ℤ, sym, ap, subst, List, [], map, Option, Ok, Err}
use Rattle.std.specs.Prelude.{Result}
use Rattle.sr_base.specs.Literal.{Literal, number, literal_of}
use Rattle.sr_base.specs.Limits.{LimitValues}
use Rattle.sr_base.specs.declared.names.LimitKind.TheVariants as limit
use Rattle.sr_model.specs.Tokens.{Tokens}
use Rattle.sr_model.specs.Witnesses.{fault_of_literals, clause_of_literals, witness_of_literals}
use Rattle.sr_model.specs.Meeting.{Step, Group}
use Rattle.sr_model.specs.Judging.{stepped}
use Rattle.sr_model.specs.Reading.{Read, reads}
use Rattle.sr_model.specs.Lsr.{NumbersTo0, MaybeItem, judged_step, numbers_after, groups_of, step_of, with_hints, with_literals}
use Rattle.sr_base.specs.declared.names.InputError.{InputError}
use Rattle.sr_base.specs.declared.names.InputError.TheVariants.{Text, Limit, Source, NoMemory}
use Rattle.sr_scan.specs.Left.{Refuses}
use Rattle.sr_lsr.specs.Reads.{GivesFrom, GivesHints}
use Rattle.sr_lsr.proofs.BeginLemmas.{gives_as}

-- what stops numbers stops the step that is made of them
pub literals_stop : (lim : LimitValues) (bound id : ℕ) (read : ℕ → Read NumbersTo0) (e : InputError) → bound ≡ lim.vars → Refuses (read bound) e → Refuses (with_literals lim id (read lim.vars)) e
literals_stop lim bound id read e b r = at e (subst (λ (n : ℕ). Refuses (read n) e) b r)
  where
    at : (e : InputError) → Refuses (read lim.vars) e → Refuses (with_literals lim id (read lim.vars)) e
    at (Text kind place) r = ap (with_literals lim id) r
    at (Limit kind) r = ap (with_literals lim id) r
    at Source r = ap (with_literals lim id) r
    at NoMemory r = tt

pub hints_stop : (lim : LimitValues) (ids id : ℕ) (lits : List Literal) (end : ℕ) (all left : Tokens) (e : InputError) → ids ≡ lim.ids → GivesHints ids all left (Err e)
    → Refuses (with_hints id lits end (numbers_after limit.Ids lim.ids [] all)) e
hints_stop lim ids id lits end all left e i r = at e (subst (λ (n : ℕ). Refuses (numbers_after limit.Ids n [] all) e) i r)
  where
    at : (e : InputError) → Refuses (numbers_after limit.Ids lim.ids [] all) e → Refuses (with_hints id lits end (numbers_after limit.Ids lim.ids [] all)) e
    at (Text kind place) r = ap (with_hints id lits end) r
    at (Limit kind) r = ap (with_hints id lits end) r
    at Source r = ap (with_hints id lits end) r
    at NoMemory r = tt

-- the step by its hints, behind its literals
pub step_behind : (lim : LimitValues) (bound id : ℕ) (read : ℕ → Read NumbersTo0) (mid left : Tokens) (lits : List Literal) (end : ℕ) (result : Result (Tokens → Read MaybeItem) InputError) → bound ≡ lim.vars
    → map literal_of (map number lits) ≡ lits → read bound ≡ reads (map number lits, end) mid → GivesFrom (with_hints id lits end (numbers_after limit.Ids lim.ids [] mid)) left result
    → GivesFrom (with_literals lim id (read lim.vars)) left result
step_behind lim bound id read mid left lits end result b named e behind =
    gives_as (with_literals lim id (read lim.vars)) (with_hints id lits end (numbers_after limit.Ids lim.ids [] mid)) left result (
    ap (λ (n : ℕ). with_literals lim id (read n)) (sym b) ∙ ap (with_literals lim id) e
    ∙ ap (λ ls. with_hints id ls end (numbers_after limit.Ids lim.ids [] mid)) named) behind

-- the step of all its literals and of these hints
abbrev pub step_with : ℕ → List Literal → List ℕ → List Group → Step
step_with id lits prefix groups = record { id = id; clause = clause_of_literals lits; witness = witness_of_literals lits; prefix = prefix; groups = groups }

-- the step of the hints that were read
pub step_read : (lim : LimitValues) (ids id : ℕ) (lits : List Literal) (end : ℕ) (prefix : List ℕ) (groups : List Group) (all left : Tokens) → ids ≡ lim.ids → GivesHints ids all left (Ok (prefix, groups))
    → with_hints id lits end (numbers_after limit.Ids lim.ids [] all) ≡ judged_step (fault_of_literals lits) end (stepped (step_with id lits prefix groups)) left
step_read lim ids id lits end prefix groups all left i k =
    let same : step_of id lits k.0 ≡ step_with id lits prefix groups = ap (λ p. step_with id lits p (groups_of k.0)) k.3 ∙ ap (step_with id lits prefix) k.4 in
    ap (λ (n : ℕ). with_hints id lits end (numbers_after limit.Ids n [] all)) (sym i) ∙ ap (with_hints id lits end) k.2
    ∙ ap (λ x. judged_step (fault_of_literals lits) end (stepped x) left) same
