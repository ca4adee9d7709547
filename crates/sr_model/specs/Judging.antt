-- Proofs by hints: steps and deletions, the clauses that are live after them, and the verdict on them.
use Rattle.std.specs.Prelude.{ℕ, ◌+◌, Bool, false, not, cond, Option, Some, None, List, [], ◌∷◌, ◌++◌, filter, length, sum_by}
use Rattle.sr_base.specs.Literal.{Literal}
use Rattle.sr_base.specs.declared.names.Cause.TheVariants.{DeadDrop}
use Rattle.sr_model.specs.declared.verdict.Verdict.{Verdict}
use Rattle.sr_model.specs.declared.verdict.Verdict.TheVariants.{Going, Verified, Rejected}
use Rattle.sr_model.specs.Assignment.{holds_number}
use Rattle.sr_model.specs.Refutation.{is_empty, has_empty}
use Rattle.sr_model.specs.Chain.{Numbered, clause_of}
use Rattle.sr_model.specs.Meeting.{Step, Meeting, met, unmet, meets, HasPivot}

-- an item of a proof: a step, or a deletion, which has a number of its own in front
pub data Item : Type 0 where
  stepped : Step → Item
  dropped : ℕ → List ℕ → Item

-- the clauses under numbers from n on
abbrev pub numbered_from : ℕ → List (List Literal) → Numbered
numbered_from n [] = []
numbered_from n (c ∷ cs) = (n, c) ∷ numbered_from (n + 1) cs

-- what is left where numbers are dropped
abbrev pub without : List ℕ → Numbered → Numbered
without ids live = filter (λ p. not (holds_number p.0 ids)) live

-- the live clauses, and the greatest number so far
pub record Live : Type 0 where
  pub clauses : Numbered
  pub last : ℕ

abbrev pub first_live : List (List Literal) → Live
first_live f = record { clauses = numbered_from 1 f; last = length f }

-- a step's clause becomes live under its number; a deletion's own number has no effect
abbrev pub live_with : Live → Item → Live
live_with lv (stepped s) = cond (is_empty s.clause) lv (record { clauses = lv.clauses ++ (s.id, s.clause) ∷ []; last = s.id })
live_with lv (dropped id ids) = record lv { clauses = without ids lv.clauses }

abbrev pub live_after : Live → List Item → Live
live_after lv [] = lv
live_after lv (item ∷ items) = live_after (live_with lv item) items

-- the first number that isn't live where the numbers are dropped one after another
abbrev pub first_dead : Numbered → List ℕ → Option ℕ
first_dead live [] = None
first_dead live (d ∷ ds) = elim (clause_of live d) [ None ↦ Some d | Some c ↦ first_dead (without (d ∷ []) live) ds ]

abbrev pub drop_meets : Option ℕ → Meeting
drop_meets None = met
drop_meets (Some d) = unmet (DeadDrop d)

-- strict checking has a rule for deletions too
abbrev pub item_meets : Bool → Live → Item → Meeting
item_meets strict lv (stepped s) = meets strict lv.clauses lv.last s
item_meets strict lv (dropped id ids) = cond strict (drop_meets (first_dead lv.clauses ids)) met

abbrev pub item_number : Item → ℕ
item_number (stepped s) = s.id
item_number (dropped id ids) = id

-- whether the item is a step with the empty clause
abbrev pub ends_proof : Item → Bool
ends_proof (stepped s) = is_empty s.clause
ends_proof (dropped id ids) = false

abbrev pub verdict_of : Item → Meeting → Verdict → Verdict
verdict_of item met rest = cond (ends_proof item) Verified rest
verdict_of item (unmet x) rest = Rejected (item_number item) x

-- the items are judged in order: the first that isn't met rejects the proof, the first empty clause verifies it
abbrev pub judge_from : Bool → Live → List Item → Verdict
judge_from strict lv [] = Going
judge_from strict lv (item ∷ items) = verdict_of item (item_meets strict lv item) (judge_from strict (live_with lv item) items)

-- a formula that holds the empty clause is verified at once
abbrev pub judge : Bool → List (List Literal) → List Item → Verdict
judge strict f items = cond (has_empty f) Verified (judge_from strict (first_live f) items)

-- the witnesses of the steps have the pivots of their clauses
abbrev pub ItemHasPivot : Item → Type 0
ItemHasPivot (stepped s) = HasPivot s
ItemHasPivot (dropped id ids) = Unit {0}

abbrev pub HavePivots : List Item → Type 0
HavePivots [] = Unit {0}
HavePivots (item ∷ items) = ItemHasPivot item × HavePivots items

-- what a checker knows between two items
pub record State : Type 0 where
  pub live : Live
  pub verdict : Verdict

-- a new checker
abbrev pub start : List (List Literal) → State
start f = record { live = first_live f; verdict = cond (has_empty f) Verified Going }

-- an item that isn't met leaves the live clauses as they are
abbrev pub after_meeting : State → Item → Meeting → State
after_meeting st item met = record { live = live_with st.live item; verdict = cond (ends_proof item) Verified Going }
after_meeting st item (unmet x) = record st { verdict = Rejected (item_number item) x }

-- one item is taken
abbrev pub after_item : Bool → State → Item → State
after_item strict st item = after_meeting st item (item_meets strict st.live item)

-- items are taken while the verdict is open
abbrev pub after_items : Bool → State → List Item → State
after_items strict st [] = st
after_items strict st (item ∷ items) = elim st.verdict [
  | Going ↦ after_items strict (after_item strict st item) items
  | Verified ↦ st
  | Rejected id x ↦ st
]

-- the cells in which a clause is held: one for each literal, and four more
abbrev pub clause_cells : List Literal → ℕ
clause_cells c = length c + 4

abbrev pub cells_of : List (List Literal) → ℕ
cells_of cs = sum_by clause_cells cs
