-- What contracts see of stacks: the places that are on each, and what places hold.
use Rattle.std.specs.Prelude.{ℕ, ◌≡◌, ◌≢◌, ◌<◌, ◌≤◌, List, [], ◌∷◌, ◌++◌, length, take, drop, set, nat_eq, slice_index_or, sum_by, count_by}
use Rattle.sr_lists.specs.declared.blocks.Watch.{Watch}

-- for each key the places that are on its stack, the newest first; what each place holds; and for how many places on all
-- stacks there is room
pub record Stacked : Type 0 where
  pub stacks : List (List ℕ)
  pub cells : List Watch
  pub room : ℕ

-- the stack of a key
abbrev pub stack_at : Stacked → ℕ → List ℕ
stack_at s k = slice_index_or s.stacks k []

-- how many places are on all stacks
abbrev pub places_of : Stacked → ℕ
places_of s = sum_by length s.stacks

-- how often a place is on a stack, and on all
abbrev pub count_on : ℕ → List ℕ → ℕ
count_on p ps = count_by (nat_eq p) ps

abbrev pub count_on_all : ℕ → List (List ℕ) → ℕ
count_on_all p ss = sum_by (count_on p) ss

-- what a place holds: one watch, or nothing where there is no such place
abbrev pub held_at : List Watch → ℕ → List Watch
held_at cells p = take 1 (drop p cells)

-- what the places of a stack hold
abbrev pub held_on : List Watch → List ℕ → List Watch
held_on cells [] = []
held_on cells (p ∷ ps) = held_at cells p ++ held_on cells ps

-- the first place, or 0
abbrev pub first_of : List ℕ → ℕ
first_of [] = 0
first_of (p ∷ ps) = p

-- no place is on two stacks or twice on one, none is 0, and each holds a watch
pub record AreApart (s : Stacked) : Type 0 where
  pub once : (p : ℕ) → count_on_all p s.stacks ≤ 1
  pub within : (p : ℕ) → 0 < count_on_all p s.stacks → (0 < p) × (p < length s.cells)

-- a place that was on no stack, and now holds a watch, is the newest on one
pub record IsAdded (old new : Stacked) (key : ℕ) (w : Watch) : Type 0 where
  pub place : ℕ
  pub unused : count_on_all place old.stacks ≡ 0
  pub stacks : new.stacks ≡ set old.stacks key (place ∷ stack_at old key)
  pub holds : held_at new.cells place ≡ w ∷ []
  pub others : (q : ℕ) → q ≢ place → q < length old.cells → held_at new.cells q ≡ held_at old.cells q
  pub longer : length old.cells ≤ length new.cells
  pub room : new.room ≡ old.room
