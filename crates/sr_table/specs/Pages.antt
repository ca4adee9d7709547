-- A table in pages of 4,096 numbers.
use Rattle.std.specs.Prelude.{ℕ, ◌+◌, ◌*◌, ◌/◌, ◌%◌, ◌<◌, ◌≤◌, ◌==◌, ◌≡◌, ◌≢◌, ◌⊎◌, cond, List, length, slice_index_or}

-- for each page the place where its entries lie, counted in pages, and the entries
pub record Paged : Type 0 where
  pub pages : List ℕ
  pub entries : List ℕ

-- what a number is set to
abbrev pub entry : Paged → ℕ → ℕ
entry t n = slice_index_or t.entries (slice_index_or t.pages (n / 4096) 0 * 4096 + n % 4096) 0

abbrev pub paged : List ℕ → List ℕ → Paged
paged pages entries = record { pages = pages; entries = entries }

-- the same table, in other pages
abbrev pub SameEntries : Paged → Paged → Type 0
SameEntries old new = (m : ℕ) → entry new m ≡ entry old m

-- there is a page for a number
abbrev pub IsOpen : Paged → ℕ → Type 0
IsOpen t n = slice_index_or t.pages (n / 4096) 0 ≢ 0

-- one number is set, and all others stay
abbrev pub Sets : Paged → Paged → ℕ → ℕ → Type 0
Sets old new n v = (m : ℕ) → entry new m ≡ cond (n == m) v (entry old m)

-- the entries are whole pages, the first holds zeros, and no two numbers share another one
pub record IsPaged (pages entries : List ℕ) : Type 0 where
  pub whole : length entries ≡ length entries / 4096 * 4096
  pub first : (r : ℕ) → r < 4096 → slice_index_or entries r 0 ≡ 0
  pub room : (p : ℕ) → slice_index_or pages p 0 * 4096 + 4096 ≤ length entries
  pub apart : (p q : ℕ) → slice_index_or pages p 0 ≡ slice_index_or pages q 0 → (slice_index_or pages p 0 ≡ 0) ⊎ (p ≡ q)

-- no number is set
abbrev pub IsBlank : Paged → Type 0
IsBlank t = (n : ℕ) → entry t n ≡ 0

-- what had a page has one
abbrev pub KeepsOpen : Paged → Paged → Type 0
KeepsOpen old new = (n : ℕ) → IsOpen old n → IsOpen new n
