-- A walk in place along a stack: what it hasn't reached, what is behind it, and the hole that it leaves.
use Rattle.std.specs.Prelude.{ℕ, ◌≡◌, ◌-◌, ◌+◌, ◌<◌, ◌≤◌, Option, Some, None, List, [], ◌∷◌, length, map, drop, set, nat_eq, slice_index_or, if◌then◌else◌}
use Rattle.sr_lists.specs.declared.blocks.Watch.{Watch}
use Rattle.sr_lists.specs.declared.lists.TheConstants.{MOST}
use Rattle.sr_lists.specs.Stacks.{Stacked, stack_at, places_of, count_on, held_at, held_on, first_of, AreApart}
use Rattle.sr_lists.specs.Family.{Family, AreSame}

-- the places before one; all where it isn't there
abbrev pub before : ℕ → List ℕ → List ℕ
before p [] = []
before p (q ∷ qs) = if nat_eq p q then [] else q ∷ before p qs

-- the places from one on; none where it isn't there
abbrev pub since : ℕ → List ℕ → List ℕ
since p [] = []
since p (q ∷ qs) = if nat_eq p q then q ∷ qs else since p qs

-- the places but for one
abbrev pub without : ℕ → List ℕ → List ℕ
without p [] = []
without p (q ∷ qs) = if nat_eq p q then qs else q ∷ without p qs

-- what the list of each key holds: that of the walked one ends before the walk, and the hole isn't in it
abbrev pub lists_in : Stacked → Option ℕ → ℕ → ℕ → List (List Watch)
lists_in s None next hole = map (held_on s.cells) s.stacks
lists_in s (Some k) next hole = set (map (held_on s.cells) s.stacks) k (held_on s.cells (without hole (before next (stack_at s k))))

-- what lies ahead of the walk
abbrev pub ahead_in : Stacked → Option ℕ → ℕ → List Watch
ahead_in s None next = []
ahead_in s (Some k) next = held_on s.cells (since next (stack_at s k))

abbrev pub seen : Stacked → Option ℕ → ℕ → ℕ → ℕ → Family
seen s walked next hole room = record { lists = lists_in s walked next hole; ahead = ahead_in s walked next; walked = walked; room = room }

-- the walk is on a stack: its next place, where it has one, and behind that the hole, where there is one
pub record IsOn (s : Stacked) (key next hole : ℕ) : Type 0 where
  pub known : key < length s.stacks
  pub there : 0 < next → 0 < count_on next (stack_at s key)
  pub behind : 0 < hole → 0 < count_on hole (before next (stack_at s key))

abbrev pub IsAlong : Stacked → Option ℕ → ℕ → ℕ → Type 0
IsAlong s None next hole = (next ≡ 0) × (hole ≡ 0)
IsAlong s (Some k) next hole = IsOn s k next hole

-- how many places the hole takes
abbrev pub open_at : ℕ → ℕ
open_at hole = if nat_eq hole 0 then 0 else 1

-- what the lists keep: each place is counted, that of the hole too, and a hole finds room beside all watches
pub record IsWalked (s : Stacked) (walked : Option ℕ) (next hole held room : ℕ) : Type 0 where
  pub apart : AreApart s
  pub along : IsAlong s walked next hole
  pub places : places_of s ≡ held
  pub fits : held ≤ room + open_at hole
  pub within : room ≤ s.room - 1
  pub limit : room ≤ MOST

-- there is a hole on a stack
abbrev pub IsOpen : Stacked → Option ℕ → ℕ → Type 0
IsOpen s None hole = hole ≡ 0
IsOpen s (Some k) hole = (k < length s.stacks) × (0 < hole → 0 < count_on hole (stack_at s k))

-- the newest watch of a stack moved into a place on it
pub record IsClosed (old new : Stacked) (key hole : ℕ) : Type 0 where
  pub watch : Watch
  pub holds : held_at old.cells (first_of (stack_at old key)) ≡ watch ∷ []
  pub closed : new ≡ record old { stacks = set old.stacks key (drop 1 (stack_at old key)); cells = set old.cells hole watch }
  pub apart : AreApart new

-- the same watches are in the lists, and ahead of the walk, and there is no hole
pub record IsFilled (old new : Stacked) (walked : Option ℕ) (next hole : ℕ) : Type 0 where
  pub keys : length new.stacks ≡ length old.stacks
  pub lists : (k : ℕ) → AreSame (slice_index_or (lists_in new walked next 0) k []) (slice_index_or (lists_in old walked next hole) k [])
  pub ahead : AreSame (ahead_in new walked next) (ahead_in old walked next)
  pub apart : AreApart new
  pub along : IsAlong new walked next 0
  pub places : places_of new + open_at hole ≡ places_of old
  pub room : new.room ≡ old.room
