-- What a look at one clause finds, and what a walk along a list keeps.
use Rattle.std.specs.Prelude.{ℕ, ◌+◌, ◌<◌, ◌≤◌, Bool, true, false, cond, ◌||◌, ◌≡◌, ◌⊎◌, List, [], length, take, slice_index_or}
use Rattle.sr_base.specs.Literal.{Literal, plus, complement, same, has, SameSet}
use Rattle.sr_arena.specs.Cells.{Cell, Memory, cell_at, held_cells}
use Rattle.sr_lists.specs.Family.{Family}
use Rattle.sr_model.specs.Refutation.{Includes}
use Rattle.sr_model.specs.Substitution.{has_pair}
use Rattle.sr_watch.specs.declared.examining.Look.{Look}
use Rattle.sr_watch.specs.declared.examining.Look.TheVariants.{Satisfied, Free, Forces, Falsified}
use Rattle.sr_watch.specs.State.{AllFalse, IsForcedBy, IsOpen}
use Rattle.sr_watch.specs.Trail.{Entries, assumed_of}
use Rattle.sr_watch.specs.Scanning.{IsSettled}
use Rattle.sr_watch.specs.Watching.{is_watch, other_watch, IsGuarded, AreGuarded, is_on, on_side, clause_on, times, AreStocked, AreLinked}

-- a true literal of a clause
pub record IsTrueIn (trail c : List Literal) (l : Literal) : Type 0 where
  pub of_clause : has l c ≡ true
  pub is_true : has l trail ≡ true

-- a false watch at `side`, the other watch, and a literal at `place` behind the watches that isn't false
pub record IsFree (trail c : List Literal) (w : Literal) (side place : ℕ) (other : Literal) : Type 0 where
  pub side_low : side < 2
  pub falsified : slice_index_or c side (plus 0) ≡ w
  pub behind : 2 ≤ place
  pub within : place < length c
  pub not_false : has (complement (slice_index_or c place (plus 0))) trail ≡ false
  pub other_of : has other c ≡ true

-- the literals from a place on, and before another one, are false
abbrev pub AreFalseAt : List Literal → List Literal → ℕ → ℕ → Type 0
AreFalseAt trail c from to = (j : ℕ) → from ≤ j → j < to → has (complement (slice_index_or c j (plus 0))) trail ≡ true

abbrev pub IsNotFalseAt : List Literal → List Literal → ℕ → Type 0
IsNotFalseAt trail c j = has (complement (slice_index_or c j (plus 0))) trail ≡ false

-- what is seen of a clause with a false watch
abbrev pub Sees : List Literal → List Literal → Literal → Look → Type 0
Sees trail c w (Satisfied l) = IsTrueIn trail c l
Sees trail c w (Free side place other) = IsFree trail c w side place other
Sees trail c w (Forces l) = IsForcedBy c trail l × IsOpen l trail
Sees trail c w Falsified = AllFalse trail c

-- the second list of falsifiers makes one literal more false than the first
pub record IsNext (before after : List Literal) (w : Literal) : Type 0 where
  pub is_false : has (complement w) after ≡ true
  pub keeps : Includes before after
  pub only : (k : Literal) → has (complement k) after ≡ true → same w k ≡ false → has (complement k) before ≡ true

-- in the middle of a walk along the list of `w`, of which some is left: that list and what is left together are the list of
-- `w`, every clause is guarded as before, and those that aren't left as after
pub record IsWalking (on : ℕ → Bool) (cs : ℕ → List Literal) (list : ℕ → Literal → ℕ) (left : ℕ → ℕ) (trail before after : List Literal) (w : Literal) : Type 0 where
  pub linked : (r : ℕ) (k : Literal) → on r ≡ true → list r k + cond (same w k) (left r) 0 ≡ cond (is_watch (cs r) k) 1 0
  pub guarded : AreGuarded before trail cs
  pub walked : (r : ℕ) → left r ≡ 0 → IsGuarded after trail (cs r)

-- a clause with a new second watch
pub record IsMoved (c new : List Literal) (w l : Literal) : Type 0 where
  pub was : (k : Literal) → is_watch c k ≡ (same (other_watch c w) k || same w k)
  pub is : (k : Literal) → is_watch new k ≡ (same (other_watch c w) k || same l k)
  pub stays : same (other_watch c w) w ≡ false
  pub other : same (other_watch c w) l ≡ false
  pub leaves : same l w ≡ false

-- each list of falsifiers that is part of the trail guards the new clauses where it guards the old ones
abbrev pub KeepsGuards : List Literal → (ℕ → List Literal) → (ℕ → List Literal) → Type 0
KeepsGuards trail old new = (falsifiers trues : List Literal) → Includes falsifiers trail → AreGuarded falsifiers trues old → AreGuarded falsifiers trues new

-- the same clause, with its literals in any order
pub record IsTurnedCell (old new : Cell) : Type 0 where
  pub held : new.held ≡ old.held
  pub number : new.number ≡ old.number
  pub marked : new.marked ≡ old.marked
  pub flagged : new.flagged ≡ old.flagged
  pub size : length new.lits ≡ length old.lits
  pub set : SameSet new.lits old.lits

-- the clauses of one side in any order, and the others as they were
pub record IsTurned (core : Bool) (old new : Memory) : Type 0 where
  pub each : (r : ℕ) → IsTurnedCell (cell_at old r) (cell_at new r)
  pub others : (r : ℕ) → is_on core (cell_at old r) ≡ false → cell_at new r ≡ cell_at old r
  pub most : new.most ≡ old.most
  pub used : new.used ≡ old.used
  pub cells : held_cells new ≡ held_cells old

-- entries were only derived
pub record IsGrown (old new : Entries) : Type 0 where
  pub vars : new.vars ≡ old.vars
  pub lits : take (length old.lits) new.lits ≡ old.lits
  pub reasons : take (length old.reasons) new.reasons ≡ old.reasons
  pub assumed : assumed_of new ≡ assumed_of old
  pub no_pair : has_pair old.lits ≡ false → has_pair new.lits ≡ false

-- the reason of new entries is the clause
abbrev pub AreReasonsOnly : ℕ → Entries → Entries → Type 0
AreReasonsOnly at e g = (i : ℕ) → length e.reasons ≤ i → 0 < slice_index_or g.reasons i 0 → slice_index_or g.reasons i 0 ≡ at

-- the reasons of new entries are clauses of the side
abbrev pub AreReasonsOn : Bool → Memory → Entries → Entries → Type 0
AreReasonsOn core m e g = (i : ℕ) → length e.reasons ≤ i → 0 < slice_index_or g.reasons i 0 → on_side core m (slice_index_or g.reasons i 0) ≡ true

-- a step of propagation over one side
pub record IsStep (core : Bool) (m n : Memory) (e g : Entries) : Type 0 where
  pub turned : IsTurned core m n
  pub grown : IsGrown e g
  pub reasons : AreReasonsOn core n e g

-- the same keys, walk and room
pub record HasSameShape (old new : Family) : Type 0 where
  pub keys : length new.lists ≡ length old.lists
  pub walked : new.walked ≡ old.walked
  pub room : new.room ≡ old.room

-- the lists of the clauses without watches are as they were
abbrev pub KeepsShort : Family → Family → Type 0
KeepsShort old new = (r key : ℕ) → key < 2 → times new r key ≡ times old r key

-- nothing is walked, and the first entries guard all clauses
pub record IsWalked (core : Bool) (m : Memory) (before after : Family) (trail : List Literal) (done : ℕ) : Type 0 where
  pub shape : HasSameShape before after
  pub ahead : after.ahead ≡ []
  pub short : KeepsShort before after
  pub stocked : AreStocked core m after []
  pub linked : AreLinked core m after
  pub guarded : AreGuarded (take done trail) trail (clause_on core m)

-- an attached clause of the side all of whose literals are false
pub record IsFalseOn (core : Bool) (m : Memory) (trail : List Literal) (at : ℕ) : Type 0 where
  pub on : is_on core (cell_at m at) ≡ true
  pub all_false : AllFalse trail (cell_at m at).lits

-- an attached clause of the core or of the rest
abbrev pub IsFalsified : Memory → List Literal → ℕ → Type 0
IsFalsified m trail at = IsFalseOn true m trail at ⊎ IsFalseOn false m trail at

-- the literals are closed for each clause of the side, and none is empty
abbrev pub AreSettled : Bool → Memory → List Literal → Type 0
AreSettled core m trail = (r : ℕ) → on_side core m r ≡ true → IsSettled trail (cell_at m r).lits

-- steps of propagation over both sides
pub record IsPropagated (m n : Memory) (e h : Entries) : Type 0 where
  pub each : (r : ℕ) → IsTurnedCell (cell_at m r) (cell_at n r)
  pub most : n.most ≡ m.most
  pub used : n.used ≡ m.used
  pub cells : held_cells n ≡ held_cells m
  pub grown : IsGrown e h
