-- What `check` answers on two files: the first of these events. The formula isn't spelled, or a read of it fails; its clauses pass the
-- limit of cells; it holds the empty clause; an item of the proof isn't spelled, or a read of it fails, or it isn't met, is the empty
-- clause, or adds a clause that passes the limit of cells; the proof ends.
use Rattle.std.specs.Prelude.{◌≡◌, ℕ, ◌+◌, ◌-◌, ◌^◌, min, nat_lt, ◌&&◌, not, Bool, false, cond, List, [], ◌∷◌, ◌++◌, length, sum_by, Option, Some, None}
use Rattle.sr_base.specs.Literal.{Literal}
use Rattle.sr_base.specs.Limits.{LimitValues}
use Rattle.sr_base.specs.Contents.{Contents}
use Rattle.sr_base.specs.declared.names.Form.{Form}
use Rattle.sr_base.specs.declared.names.Which.TheVariants as which
use Rattle.sr_base.specs.declared.names.LimitKind.TheVariants.{Cells}
use Rattle.sr_model.specs.Tokens.{Tokens}
use Rattle.sr_model.specs.Reading.{Read, reads, misspells, passes, fails}
use Rattle.sr_model.specs.TextTokens.{spelled}
use Rattle.sr_model.specs.Refutation.{is_empty, has_empty}
use Rattle.sr_model.specs.Chain.{clauses}
use Rattle.sr_model.specs.Meeting.{Step, Group, Meeting, met, unmet}
use Rattle.sr_model.specs.Judging.{Item, stepped, dropped, Live, first_live, live_with, live_after, item_meets, item_number, ends_proof, judge, clause_cells, cells_of}
use Rattle.sr_model.specs.Dimacs.{Formula, formula_at}
use Rattle.sr_model.specs.Lsr.{MaybeItem}
use Rattle.sr_model.specs.LsrBinary.{item_in, item_tokens, SpellItemsIn}
use Rattle.sr_model.specs.declared.verdict.Verdict.TheVariants.{Going}
use Rattle.sr_emit.specs.declared.outcome.Outcome.{Outcome}
use Rattle.sr_emit.specs.declared.outcome.Outcome.TheVariants as outcome
use Rattle.sr_emit.specs.declared.counts.Counts.{Counts}
use Rattle.sr_cli.specs.Words.{Said}

-- whether the clause that an item adds makes too many cells
abbrev pub grows_past : ℕ → Live → Item → Bool
grows_past most lv (dropped id ids) = false
grows_past most lv (stepped s) = not (is_empty s.clause) && nat_lt most (cells_of (clauses lv.clauses) + clause_cells s.clause)

-- no met item passed the limit of cells
abbrev pub CellsFit : ℕ → Live → List Item → Type 0
CellsFit most lv [] = Unit {0}
CellsFit most lv (it ∷ items) = (grows_past most lv it ≡ false) × CellsFit most (live_with lv it) items

-- the steps of a proof, and their hints in prefixes and groups
abbrev pub item_steps : Item → ℕ
item_steps (stepped s) = 1
item_steps (dropped id ids) = 0

abbrev pub group_hints : Group → ℕ
group_hints g = length g.1

abbrev pub item_hints : Item → ℕ
item_hints (stepped s) = length s.prefix + sum_by group_hints s.groups
item_hints (dropped id ids) = 0

abbrev pub steps_of : List Item → ℕ
steps_of items = sum_by item_steps items

abbrev pub hints_of : List Item → ℕ
hints_of items = sum_by item_hints items

-- a count stays at the greatest value of 64 bits
abbrev pub counted : ℕ → ℕ
counted n = min n (2 ^ 64 - 1)

abbrev pub counts_of : List (List Literal) → List Item → Counts
counts_of f items = record { clauses = length f; core = 0; lemmas = 0; steps = counted (steps_of items); hints = counted (hints_of items); passed = 0 }

-- what an item ends judging with; none where judging goes on
abbrev pub by_met : ℕ → Live → Item → Option Outcome
by_met most lv it = cond (ends_proof it) (Some (outcome.Verified))
    (cond (grows_past most lv it) (Some (outcome.Limit which.Proof Cells)) None)

abbrev pub by_meeting : ℕ → Live → Item → Meeting → Option Outcome
by_meeting most lv it met = by_met most lv it
by_meeting most lv it (unmet x) = Some (outcome.RejectedStep (item_number it) x)

abbrev pub by_item : ℕ → Bool → Live → Item → Option Outcome
by_item most strict lv it = by_meeting most lv it (item_meets strict lv it)

-- the last event of a proof, after these items
abbrev pub EndsAt : LimitValues → Bool → List (List Literal) → List Item → Read MaybeItem → Outcome → Counts → Type 0
EndsAt lim strict f items (reads (Some it) rest) o k = (by_item lim.cells strict (live_after (first_live f) items) it ≡ Some o)
    × (o ≡ outcome.Verified → k ≡ counts_of f (items ++ it ∷ []))
EndsAt lim strict f items (reads None rest) o k = o ≡ outcome.NoEmptyClause
EndsAt lim strict f items (misspells kind place) o k = o ≡ outcome.Text which.Proof kind place
EndsAt lim strict f items (passes kind) o k = o ≡ outcome.Limit which.Proof kind
EndsAt lim strict f items fails o k = o ≡ outcome.SourceFault which.Proof

-- the items at the front of the proof are met, none ends judging, and what follows does
pub record ByProof (lim : LimitValues) (form : Form) (strict : Bool) (f : List (List Literal)) (proof : Tokens) (o : Outcome) (k : Counts) : Type 0 where
  pub items : List Item
  pub rest : Tokens
  pub spelled : SpellItemsIn form lim proof items rest
  pub going : judge strict f items ≡ Going
  pub fits : CellsFit lim.cells (first_live f) items
  pub ends : EndsAt lim strict f items (item_in form lim rest) o k

-- the clauses are too many, one is empty, or the proof is read; so many files are begun
abbrev pub ByClauses : LimitValues → Form → Bool → Contents → List (List Literal) → Outcome → Counts → ℕ → Type 0
ByClauses lim form strict proof f o k begun = cond (nat_lt lim.cells (cells_of f)) ((o ≡ outcome.Limit which.Formula Cells) × (begun ≡ 1))
    (cond (has_empty f) ((o ≡ outcome.Verified) × (k ≡ counts_of f []) × (begun ≡ 1))
    (ByProof lim form strict f (item_tokens form lim.bytes proof) o k × (begun ≡ 2)))

abbrev pub ByFormula : LimitValues → Form → Bool → Contents → Read Formula → Outcome → Counts → ℕ → Type 0
ByFormula lim form strict proof (reads f rest) o k begun = ByClauses lim form strict proof f.clauses o k begun
ByFormula lim form strict proof (misspells kind place) o k begun = (o ≡ outcome.Text which.Formula kind place) × (begun ≡ 1)
ByFormula lim form strict proof (passes kind) o k begun = (o ≡ outcome.Limit which.Formula kind) × (begun ≡ 1)
ByFormula lim form strict proof fails o k begun = (o ≡ outcome.SourceFault which.Formula) × (begun ≡ 1)

-- the first event of two files of such contents, with what is counted up to it and as many files as are begun for it
abbrev pub IsFirst : LimitValues → Said → Contents → Contents → Outcome → Counts → ℕ → Type 0
IsFirst lim s formula proof o k begun = ByFormula lim s.proof_form s.strict proof (formula_at lim (spelled lim.bytes formula)) o k begun

-- the hints of a step in its prefix and its groups
abbrev pub hints_of_step : Step → ℕ
hints_of_step s = length s.prefix + sum_by group_hints s.groups
