-- What holds between calls: the entries below `done` were walked, at each kept length propagation was still, and one
-- clause may be pending.
use Rattle.std.specs.Prelude.{ℕ, ◌+◌, ◌*◌, ◌<◌, ◌≤◌, ◌⊎◌, ◌==◌, Bool, true, false, ◌≡◌, List, [], Option, Some, None, length, take, slice_index_or}
use Rattle.sr_base.specs.Literal.{Literal}
use Rattle.sr_arena.specs.Cells.{Memory, cell_at, IsHeld, held_in}
use Rattle.sr_model.specs.Assignment.{holds_number}
use Rattle.sr_lists.specs.Family.{Family, list_at, AreSame}
use Rattle.sr_watch.specs.declared.watches.Watches.{Watches}
use Rattle.sr_watch.specs.declared.watches.TheConstants.{UNSEEN, SEEN}
use Rattle.sr_watch.specs.Trail.{Entries}
use Rattle.sr_watch.specs.Rising.{AreRising}
use Rattle.sr_watch.specs.Watching.{SomeTrue, IsGuarded, AreGuarded, IsStuck, on_side, is_short, clause_on, times, AreStocked, AreLinked}

abbrev pub is_pending : Option ℕ → ℕ → Bool
is_pending None r = false
is_pending (Some p) r = p == r

-- a list for each literal, and no walk
pub record IsIdle (vars : ℕ) (f : Family) : Type 0 where
  pub keys : 0 < vars → 2 * vars + 4 ≤ length f.lists
  pub both : 0 < length f.lists → 2 ≤ length f.lists
  pub walked : f.walked ≡ None
  pub ahead : f.ahead ≡ []

-- room for two watches of each of so many clauses
pub record HasRoom (count : ℕ) (f : Family) : Type 0 where
  pub keys : 0 < count → 2 ≤ length f.lists
  pub room : 2 * count ≤ f.room

-- the clause is listed as seen, and true
pub record IsSeen (m : Memory) (f : Family) (trues : List Literal) (r : ℕ) : Type 0 where
  pub is_listed : 0 < times f r SEEN
  pub is_true : SomeTrue trues (cell_at m r).lits

-- the clause is the reason of one of the first entries
pub record IsReason (reasons : List ℕ) (top r : ℕ) : Type 0 where
  pub some : 0 < r
  pub place : ℕ
  pub low : place < top
  pub is : slice_index_or reasons place 0 ≡ r

-- each attached clause of at most one literal is listed as unseen, or as seen and is true by the first entries, or it is the
-- reason of one of the first entries. One that is a reason is listed once at most
pub record AreShortListed (core : Bool) (m : Memory) (f : Family) (trues : List Literal) (reasons : List ℕ) (top : ℕ) : Type 0 where
  pub each : (r : ℕ) → on_side core m r ≡ true → is_short (cell_at m r).lits ≡ true → (0 < times f r UNSEEN) ⊎ (IsSeen m f trues r ⊎ IsReason reasons top r)
  pub light : (r i : ℕ) → 0 < r → slice_index_or reasons i 0 ≡ r → on_side core m r ≡ true → is_short (cell_at m r).lits ≡ true → times f r UNSEEN + times f r SEEN ≤ 1

-- each of them is true
abbrev pub AreShortTrue : Bool → Memory → List Literal → Type 0
AreShortTrue core m trues = (r : ℕ) → on_side core m r ≡ true → is_short (cell_at m r).lits ≡ true → SomeTrue trues (cell_at m r).lits

-- the kept lengths: nothing more follows from so many first entries
pub record AreKept (core : Bool) (m : Memory) (trail : List Literal) (kept : List ℕ) : Type 0 where
  pub rising : AreRising 0 kept
  pub within : (n : ℕ) → holds_number n kept ≡ true → n ≤ length trail
  pub guarded : (n : ℕ) → holds_number n kept ≡ true → AreGuarded (take n trail) (take n trail) (clause_on core m)

-- an attached clause that leaves at most one literal
pub record IsPending (core : Bool) (m : Memory) (trail : List Literal) (r : ℕ) : Type 0 where
  pub held : IsHeld m r
  pub on : on_side core m r ≡ true
  pub stuck : IsStuck trail (cell_at m r).lits

-- the pending clause has a true literal
abbrev pub PendingIsTrue : Memory → List Literal → Option ℕ → Type 0
PendingIsTrue m trail p = (r : ℕ) → is_pending p r ≡ true → SomeTrue trail (cell_at m r).lits

pub record IsResting (core : Bool) (m : Memory) (e : Entries) (w : Watches) : Type 0 where
  pub idle : IsIdle e.vars w.lists
  pub stocked : AreStocked core m w.lists []
  pub linked : AreLinked core m w.lists
  pub shaded : w.shade ≤ length e.lits
  pub short : AreShortListed core m w.lists (take w.shade e.lits) e.reasons w.top
  pub within : w.done ≤ length e.lits
  pub guarded : (r : ℕ) → is_pending w.pending r ≡ false → IsGuarded (take w.done e.lits) e.lits (clause_on core m r)
  pub pending : (r : ℕ) → is_pending w.pending r ≡ true → IsPending core m e.lits r
  pub kept : AreKept core m e.lits w.kept.items

-- the clauses without watches were seen, and none is pending
pub record IsPrepared (core : Bool) (m : Memory) (e : Entries) (w : Watches) : Type 0 where
  pub pending : w.pending ≡ None
  pub short : AreShortTrue core m e.lits

-- nothing is listed, and nothing was walked
pub record IsBlank (w : Watches) : Type 0 where
  pub lists : w.lists ≡ record { lists = []; ahead = []; walked = None; room = 0 }
  pub kept : w.kept.items ≡ []
  pub pending : w.pending ≡ None
  pub done : w.done ≡ 0
  pub shade : w.shade ≡ 0
  pub top : w.top ≡ 0

-- there may be more lists and more room, and all else is as it was
pub record HasMoreRoom (old new : Watches) : Type 0 where
  pub keys : length old.lists.lists ≤ length new.lists.lists
  pub both : (0 < length old.lists.lists → 2 ≤ length old.lists.lists) → 0 < length new.lists.lists → 2 ≤ length new.lists.lists
  pub each : (k : ℕ) → AreSame (list_at new.lists k) (list_at old.lists k)
  pub ahead : AreSame new.lists.ahead old.lists.ahead
  pub walked : new.lists.walked ≡ old.lists.walked
  pub room : old.lists.room ≤ new.lists.room
  pub kept : new.kept.items ≡ old.kept.items
  pub done : new.done ≡ old.done
  pub pending : new.pending ≡ old.pending
  pub shade : new.shade ≡ old.shade
  pub top : new.top ≡ old.top

-- both sides: so many clauses are held, and there is room for the watches of each
pub record AreWatched (m : Memory) (known : List ℕ) (e : Entries) (core rest : Watches) : Type 0 where
  pub counted : length (held_in m.cells) ≡ length known
  pub core_rests : IsResting true m e core
  pub rest_rests : IsResting false m e rest
  pub core_room : HasRoom (length known) core.lists
  pub rest_room : HasRoom (length known) rest.lists
