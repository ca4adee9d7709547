-- What contracts see of the lists: multisets of watches.
use Rattle.std.specs.Prelude.{ℕ, Bool, ◌≡◌, ◌≢◌, ◌+◌, ◌<◌, Option, Some, None, List, [], ◌∷◌, ◌++◌, length, max, slice_index_or, sum_by, count_by}
use Rattle.sr_lists.specs.declared.blocks.Watch.{Watch}

-- lists by key, the watches ahead of a walk and the key whose list is walked, and for how many watches there
-- is room in all
pub record Family : Type 0 where
  pub lists : List (List Watch)
  pub ahead : List Watch
  pub walked : Option ℕ
  pub room : ℕ

-- the list of a key
abbrev pub list_at : Family → ℕ → List Watch
list_at f k = slice_index_or f.lists k []

-- how many watches there are
abbrev pub entries : Family → ℕ
entries f = sum_by length f.lists + length f.ahead

-- two lists have each watch equally often
abbrev pub AreSame : List Watch → List Watch → Type 0
AreSame a b = (p : Watch → Bool) → count_by p a ≡ count_by p b

-- the same watches stand in the same lists, and ahead of the same walk
pub record AreSameLists (old new : Family) : Type 0 where
  pub keys : length new.lists ≡ length old.lists
  pub lists : (k : ℕ) → AreSame (list_at new k) (list_at old k)
  pub ahead : AreSame new.ahead old.ahead
  pub walked : new.walked ≡ old.walked
  pub entries : entries new ≡ entries old

-- there are so many keys at least, and the new ones have empty lists
pub record HasKeys (old new : Family) (n : ℕ) : Type 0 where
  pub keys : length new.lists ≡ max (length old.lists) n
  pub lists : (k : ℕ) → AreSame (list_at new k) (list_at old k)
  pub ahead : AreSame new.ahead old.ahead
  pub walked : new.walked ≡ old.walked
  pub room : new.room ≡ old.room
  pub entries : entries new ≡ entries old

-- the list of a key has a watch more
pub record IsPushed (old new : Family) (key : ℕ) (w : Watch) : Type 0 where
  pub keys : length new.lists ≡ length old.lists
  pub here : AreSame (list_at new key) (w ∷ list_at old key)
  pub others : (k : ℕ) → k ≢ key → AreSame (list_at new k) (list_at old k)
  pub ahead : AreSame new.ahead old.ahead
  pub walked : new.walked ≡ old.walked
  pub room : new.room ≡ old.room
  pub entries : entries new ≡ entries old + 1

-- the watches of a list lie ahead of a walk
pub record IsBegun (old new : Family) (key : ℕ) : Type 0 where
  pub keys : length new.lists ≡ length old.lists
  pub here : list_at new key ≡ []
  pub others : (k : ℕ) → k ≢ key → AreSame (list_at new k) (list_at old k)
  pub ahead : AreSame new.ahead (list_at old key)
  pub walked : new.walked ≡ Some key
  pub room : new.room ≡ old.room
  pub entries : entries new ≡ entries old

-- one of the watches ahead is taken out, and there is room for one
pub record IsTaken (old new : Family) (w : Watch) : Type 0 where
  pub keys : length new.lists ≡ length old.lists
  pub lists : (k : ℕ) → AreSame (list_at new k) (list_at old k)
  pub ahead : AreSame old.ahead (w ∷ new.ahead)
  pub shorter : length old.ahead ≡ length new.ahead + 1
  pub walked : new.walked ≡ old.walked
  pub room : new.room ≡ old.room
  pub free : entries new < new.room
  pub entries : entries old ≡ entries new + 1

-- what lay ahead is in the list again, and no list is walked
pub record IsEnded (old new : Family) (key : ℕ) : Type 0 where
  pub keys : length new.lists ≡ length old.lists
  pub here : AreSame (list_at new key) (old.ahead ++ list_at old key)
  pub others : (k : ℕ) → k ≢ key → AreSame (list_at new k) (list_at old k)
  pub ahead : new.ahead ≡ []
  pub walked : new.walked ≡ None
  pub room : new.room ≡ old.room
  pub entries : entries new ≡ entries old
