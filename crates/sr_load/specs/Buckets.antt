-- Clauses by their hashes. A bucket has the numbers of the alive clauses of one hash, in rising order.
use Rattle.std.specs.Prelude.{[], ◌∷◌, ◌++◌, ℕ, ◌+◌, ◌*◌, ◌/◌, ◌%◌, ◌^◌, ◌<◌, ◌≤◌, ◌≡◌, ◌&&◌, ◌==◌, nat_eq, Bool, true, false, cond, List, length, remove, slice_index_or, Option, Some, None, sum_by, bit_xor}
use Rattle.std.specs.List.{list_all}
use Rattle.std.specs.Map.{lookup}
use Rattle.sr_load.specs.declared.numbers.Numbers.{Numbers}
use Rattle.sr_load.specs.declared.numbers.Numbers.TheVariants.{One, More}
use Rattle.sr_base.specs.Literal.{Literal, literal_code, has, SameSet, NoRepeats}
use Rattle.sr_model.specs.Chain.{Numbered, clause_of}
use Rattle.sr_load.specs.declared.buckets.Spot.{Spot}
use Rattle.sr_load.specs.Loaded.{LoadedState, all_in}

-- a number of 64 bits in which each bit of another one plays a part, by two factors
unfoldable pub mix_of : ℕ → ℕ → ℕ → ℕ
mix_of first second n =
    let x = (n * first) % 2 ^ 64 in
    let y = (bit_xor x (x / 2 ^ 32) * second) % 2 ^ 64 in
    bit_xor y (y / 2 ^ 32)

-- two such numbers that have nothing to do with each other
abbrev pub one_of : ℕ → ℕ
one_of n = mix_of 0x9E37_79B9_7F4A_7C15 0xD6E8_FEB8_6659_FD93 n

abbrev pub other_of : ℕ → ℕ
other_of n = mix_of 0xBF58_476D_1CE4_E5B9 0x94D0_49BB_1331_11EB n

-- a sum over the literals of a clause
abbrev pub sum_of : (ℕ → ℕ) → List Literal → ℕ
sum_of mix ls = (length ls + sum_by (λ l. mix (literal_code l)) ls) % 2 ^ 64

-- two sums in one number: where one of them is the same in two clauses, the other one decides
abbrev pub both_of : ℕ → ℕ → ℕ
both_of a b = other_of ((one_of a + b) % 2 ^ 64)

-- the hash of a clause; the order of its literals plays no part
abbrev pub hash_of : List Literal → ℕ
hash_of ls = both_of (sum_of one_of ls) (sum_of other_of ls)

-- the clause of a number has a hash
pub record IsIn (live : Numbered) (hash n : ℕ) : Type 0 where
  pub clause : List Literal
  pub found : clause_of live n ≡ Some clause
  pub hashed : hash_of clause ≡ hash

-- a number stands among others
pub record HasPlace (numbers : List ℕ) (n : ℕ) : Type 0 where
  pub at : ℕ
  pub within : at < length numbers
  pub here : slice_index_or numbers at 0 ≡ n

-- numbers are those below a limit whose clauses have a hash, in rising order
pub record IsBucket (live : Numbered) (limit hash : ℕ) (numbers : List ℕ) : Type 0 where
  pub known : (i : ℕ) → i < length numbers → (slice_index_or numbers i 0 < limit) × IsIn live hash (slice_index_or numbers i 0)
  pub rising : (i j : ℕ) → i < j → j < length numbers → slice_index_or numbers i 0 < slice_index_or numbers j 0
  pub all : (n : ℕ) (c : List Literal) → n < limit → clause_of live n ≡ Some c → hash_of c ≡ hash → HasPlace numbers n

-- what contracts see of numbers by hash: each hash that has numbers, with these
pub record Bucketed : Type 0 where
  pub entries : List (ℕ × Numbers)

abbrev pub numbers_in : Numbers → List ℕ
numbers_in (One n) = n ∷ []
numbers_in (More v) = v.value.items

abbrev pub numbers_of : Option Numbers → List ℕ
numbers_of None = []
numbers_of (Some v) = numbers_in v

-- the numbers under a hash
abbrev pub bucket_of : Bucketed → ℕ → List ℕ
bucket_of b hash = numbers_of (lookup (nat_eq hash) b.entries)

-- the clauses of numbers below a limit are in their buckets
abbrev pub IsIndexed : Numbered → ℕ → Bucketed → Type 0
IsIndexed live limit b = (hash : ℕ) → IsBucket live limit hash (bucket_of b hash)

-- one number more under a hash, behind the others
abbrev pub HasMore : Bucketed → Bucketed → ℕ → ℕ → Type 0
HasMore old new hash n = (h : ℕ) → bucket_of new h ≡ cond (nat_eq hash h) (bucket_of old h ++ n ∷ []) (bucket_of old h)

-- the number at a place under a hash is gone
abbrev pub HasLess : Bucketed → Bucketed → ℕ → ℕ → Type 0
HasLess old new hash place = (h : ℕ) → bucket_of new h ≡ cond (nat_eq hash h) (remove (bucket_of old h) place) (bucket_of old h)

-- the greatest number of a clause that is a set, and its place in the bucket of the set's hash
pub record IsSpot (live : Numbered) (numbers : List ℕ) (c : List Literal) (s : Spot) : Type 0 where
  pub clause : List Literal
  pub found : clause_of live s.id ≡ Some clause
  pub same : SameSet clause c
  pub hashed : s.hash ≡ hash_of c
  pub hashed_clause : hash_of clause ≡ hash_of c
  pub within : s.place < length numbers
  pub here : slice_index_or numbers s.place 0 ≡ s.id
  pub greatest : (n : ℕ) (d : List Literal) → clause_of live n ≡ Some d → SameSet d c → n ≤ s.id

-- no clause is the set
abbrev pub IsNowhere : Numbered → List Literal → Type 0
IsNowhere live c = (n : ℕ) (d : List Literal) → clause_of live n ≡ Some d → SameSet d c → ⊥

-- the literals of clauses are distinct
abbrev pub AreDistinct : LoadedState → Type 0
AreDistinct st = (n : ℕ) (c : List Literal) → clause_of (all_in st) n ≡ Some c → NoRepeats c

-- the codes of literals are marked, and no others
abbrev pub marked : List Bool → Literal → Bool
marked marks l = slice_index_or marks (literal_code l) false

abbrev pub AreMarked : List Bool → List Literal → Type 0
AreMarked marks ls = (l : Literal) → marked marks l ≡ has l ls

abbrev pub HaveRoom : List Bool → List Literal → Type 0
HaveRoom marks ls = (l : Literal) → has l ls ≡ true → literal_code l < length marks

abbrev pub AreClear : List Bool → Type 0
AreClear marks = (l : Literal) → marked marks l ≡ false

-- so many literals, all of them marked
abbrev pub is_marked_set : List Bool → ℕ → List Literal → Bool
is_marked_set marks count ls = (length ls == count) && list_all (marked marks) ls

-- where a walk along a bucket from its end stands: what is the set stands in front
pub record IsAlong (live : Numbered) (numbers : List ℕ) (c : List Literal) (place : ℕ) : Type 0 where
  pub within : place ≤ length numbers
  pub in_front : (n : ℕ) (d : List Literal) → clause_of live n ≡ Some d → SameSet d c → (j : ℕ) × (j < place) × (slice_index_or numbers j 0 ≡ n)
