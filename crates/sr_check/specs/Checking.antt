-- What contracts see of a checker: whether it checks strictly, the most cells that it may hold, its state, and the cells
-- that its memory uses.
use Rattle.std.specs.Prelude.{ℕ, ◌+◌, ◌*◌, ◌<◌, ◌≤◌, nat_lt, Result, Ok, Err, Bool, true, false, not, ◌&&◌, cond, List, [], ◌∷◌, ◌++◌, length}
use Rattle.sr_base.specs.Literal.{Literal}
use Rattle.sr_model.specs.Refutation.{is_empty}
use Rattle.sr_model.specs.Chain.{Numbered, clauses}
use Rattle.sr_model.specs.Meeting.{Meeting, met, unmet}
use Rattle.sr_model.specs.Judging.{Item, stepped, dropped, State, item_meets, start, after_item, numbered_from, clause_cells, cells_of}
use Rattle.sr_model.specs.declared.verdict.Verdict.{Verdict}
use Rattle.sr_check.specs.declared.meeting.Scratch.{Scratch}
use Rattle.sr_check.specs.Storage.{Stored}
use Rattle.sr_check.specs.Ready.{IsReady}
use Rattle.sr_occurs.specs.Occurring.{KeepsListed}
use Rattle.sr_check.specs.Candidates.{AreRising}
use Rattle.sr_check.specs.Trail.{CoversClauses}

pub record Checking : Type 0 where
  pub strict : Bool
  pub most : ℕ
  pub state : State
  pub used : ℕ

abbrev pub checking : Bool → Stored → Verdict → Checking
checking strict live verdict = record {
  strict = strict;
  most = live.most;
  state = record {
    live = record {
      clauses =
          live.clauses;
      last = live.last;
    };
    verdict = verdict;
  };
  used = live.used;
}

abbrev pub is_met : Meeting → Bool
is_met met = true
is_met (unmet x) = false

-- the item is a step that is met, its clause isn't empty, and with it the live clauses count too many cells
abbrev pub passes_cells : Checking → Item → Bool
passes_cells c (stepped s) = is_met (item_meets c.strict c.state.live (stepped s)) && (not (is_empty s.clause) && nat_lt c.most
    (cells_of (clauses c.state.live.clauses) + clause_cells s.clause))
passes_cells c (dropped id ids) = false

-- the cells of the clause that becomes live with the item
abbrev pub new_cells : Checking → Item → ℕ
new_cells c (stepped s) = cond (is_met (item_meets c.strict c.state.live (stepped s)) && not (is_empty s.clause)) (clause_cells s.clause) 0
new_cells c (dropped id ids) = 0

-- the cells that are used are at most twice the held ones, and 1,024
abbrev pub tidy_cells : Checking → ℕ
tidy_cells c = 2 * cells_of (clauses c.state.live.clauses) + 1024

abbrev pub IsTidy : Checking → Type 0
IsTidy c = c.used ≤ tidy_cells c

-- the cells of the live clauses and of one more
abbrev pub cells_with : Checking → List Literal → ℕ
cells_with c lits = cells_of (clauses c.state.live.clauses) + clause_cells lits

-- a checker of a formula, and one that has taken an item
abbrev pub begun : Bool → ℕ → List (List Literal) → Checking
begun strict most f = record { strict = strict; most = most; state = start f; used = cells_of f }

abbrev pub taken : Checking → Item → ℕ → Checking
taken c item used = record c { state = after_item c.strict c.state item; used = used }

-- the clauses of a formula are stored
abbrev pub with_formula : Stored → List (List Literal) → Stored
with_formula s f = record s { clauses = numbered_from 1 f; last = length f; used = s.used + cells_of f }

-- the cells of the clause that became live, if the item was taken
abbrev pub taken_cells : {V E : Type 0} → Result V E → Checking → Item → ℕ
taken_cells (Ok v) c item = new_cells c item
taken_cells (Err e) c item = 0

-- a clause becomes live under a new number
abbrev pub added : Checking → ℕ → List Literal → Checking
added c id lits = record c {
  state = record {
    live = record { clauses = c.state.live.clauses ++ (id, lits) ∷ []; last = id };
    verdict = c.state.verdict;
  };
  used = c.used + clause_cells lits;
}

-- each number is below a bound
abbrev pub AreBelow : ℕ → Numbered → Type 0
AreBelow bound [] = Unit {0}
AreBelow bound (p ∷ ps) = (p.0 < bound) × AreBelow bound ps

-- what a checker keeps
pub record KeepsChecking (most : ℕ) (live : Numbered) (last : ℕ) (scratch : Scratch) : Type 0 where
  pub ready : IsReady scratch
  pub below : AreBelow (last + 1) live
  pub rising : AreRising live
  pub lists : KeepsListed scratch.lists live
  pub room : CoversClauses scratch.trail.room (clauses live)
  pub cells : cells_of (clauses live) ≤ most
  pub limit : most ≤ 268435456
