-- Stacks of places in numbers: the newest place of each key, and for each block the place below its first one.
use Rattle.std.specs.Prelude.{ℕ, suc, zero, ◌≡◌, ◌<◌, ◌≤◌, ◌+◌, ◌-◌, ◌*◌, ◌/◌, ◌%◌, List, [], ◌∷◌, length, ◌++◌, map, min, max, slice_index_or, slice_set, if◌then◌else◌, nat_eq, sum_by}
use Rattle.sr_lists.specs.declared.blocks.Watch.{Watch}
use Rattle.sr_lists.specs.declared.stacks.TheConstants.{PLACES, MOST_BLOCKS}
use Rattle.sr_lists.specs.Stacks.{first_of, count_on, count_on_all}

-- the place below one
abbrev pub older_in : List ℕ → ℕ → ℕ
older_in below p = if nat_eq (p % PLACES) 0 then slice_index_or below (p / PLACES) 0 else p - 1

-- the places from one on down, at most so many
unfoldable pub chain_in : List ℕ → ℕ → ℕ → List ℕ
chain_in below zero p = []
chain_in below (suc n) p = if nat_eq p 0 then [] else p ∷ chain_in below n (older_in below p)

unfoldable pub stacks_in : List ℕ → List ℕ → List (List ℕ)
stacks_in below newest = map (chain_in below (length below * PLACES)) newest

-- one place is below another: in the same block, or the last one of another block, or there is none
pub record IsBelow (below : List ℕ) (p q : ℕ) : Type 0 where
  pub low : PLACES ≤ p
  pub within : 0 < p % PLACES → q ≡ p - 1
  pub first : p % PLACES ≡ 0 → q ≡ slice_index_or below (p / PLACES) 0
  pub full : p % PLACES ≡ 0 → 0 < q → q % PLACES ≡ PLACES - 1

abbrev pub IsStack : List ℕ → List ℕ → Type 0
IsStack below [] = Unit {0}
IsStack below (p ∷ ps) = IsBelow below p (first_of ps) × IsStack below ps

abbrev pub AreStacks : List ℕ → List (List ℕ) → Type 0
AreStacks below [] = Unit {0}
AreStacks below (ps ∷ ss) = IsStack below ps × AreStacks below ss

-- each free block leads to the next one
abbrev pub AreFree : List ℕ → List ℕ → Type 0
AreFree below [] = Unit {0}
AreFree below (b ∷ bs) = (0 < b) × (slice_index_or below b 0 ≡ first_of bs) × AreFree below bs

-- how many blocks a stack has, and all
abbrev pub blocks_of : List ℕ → ℕ
blocks_of ps = (length ps + (PLACES - 1)) / PLACES

abbrev pub blocks_on : List (List ℕ) → ℕ
blocks_on ss = sum_by blocks_of ss

-- a block is on one stack or free, or it is the first block, which isn't used
pub record AreBlocks (below : List ℕ) (ss : List (List ℕ)) (bs : List ℕ) : Type 0 where
  pub stacks : AreStacks below ss
  pub frees : AreFree below bs
  pub once : (b : ℕ) → count_on_all (PLACES * b) ss + count_on b bs ≤ 1
  pub within : (b : ℕ) → 0 < count_on_all (PLACES * b) ss + count_on b bs → b < length below
  pub most : blocks_on ss + length bs ≤ length below
  pub least : length below ≤ blocks_on ss + length bs + 1

-- so many blocks are enough for so many places on the stacks of so many keys
abbrev pub blocks_for : ℕ → ℕ → ℕ
blocks_for room keys = min room 1 + (room + (PLACES - 1) * min room keys) / PLACES

pub record HaveRoom (room keys below_room cells_room : ℕ) : Type 0 where
  pub limit : blocks_for room keys ≤ MOST_BLOCKS
  pub below : blocks_for room keys ≤ below_room
  pub cells : PLACES * blocks_for room keys ≤ cells_room

-- the fields of stacks: the places on each, the newest first, and the free blocks
pub record IsChained (newest below : List ℕ) (cells : List Watch) (free room below_room cells_room : ℕ) : Type 0 where
  pub stacks : List (List ℕ)
  pub frees : List ℕ
  pub firsts : newest ≡ map first_of stacks
  pub first : free ≡ first_of frees
  pub blocks : AreBlocks below stacks frees
  pub size : length cells ≡ PLACES * length below
  pub limit : length below ≤ MOST_BLOCKS
  pub rooms : HaveRoom room (length newest) below_room cells_room

-- there is room for one block more, or for two where there is none
pub record HasRoomForBlock (count below_room cells_room : ℕ) : Type 0 where
  pub below : max (count + 1) 2 ≤ below_room
  pub cells : PLACES * max (count + 1) 2 ≤ cells_room
  pub limit : max (count + 1) 2 ≤ MOST_BLOCKS

-- a place is the last one of its block, or none
abbrev pub IsLast : ℕ → Type 0
IsLast p = 0 < p → p % PLACES ≡ PLACES - 1

-- a place is the next one in the same block
pub record IsSameBlock (below : List ℕ) (free newest : ℕ) (below' : List ℕ) (free' p : ℕ) : Type 0 where
  pub place : p ≡ newest + 1
  pub links : below' ≡ below
  pub next : free' ≡ free

-- a place is the first one of a block that was free
pub record IsFreed (below : List ℕ) (free newest : ℕ) (below' : List ℕ) (free' p : ℕ) : Type 0 where
  pub place : p ≡ PLACES * free
  pub links : below' ≡ slice_set below free newest
  pub next : free' ≡ slice_index_or below free 0

-- a block after the last one, which isn't the first
abbrev pub grown : List ℕ → List ℕ
grown [] = 0 ∷ []
grown (b ∷ bs) = b ∷ bs

-- a place is the first one of a new block
pub record IsFresh (below : List ℕ) (newest : ℕ) (below' : List ℕ) (free' p : ℕ) : Type 0 where
  pub place : p ≡ PLACES * length (grown below)
  pub links : below' ≡ grown below ++ newest ∷ []
  pub next : free' ≡ 0
