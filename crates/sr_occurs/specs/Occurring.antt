-- Lists of clause numbers by literal. A head tells the place of a literal's list; places are counted from 1, and a literal
-- of the place 0 has no list yet.
use Rattle.std.specs.Prelude.{ℕ, zero, suc, ◌≤◌, ◌≡◌, ◌⊎◌, Bool, true, cond, List, [], ◌∷◌, ◌++◌, length, slice_index_or, ◌+◌, min, not, is_some, ◌==◌}
use Rattle.sr_base.specs.Literal.{Literal, literal_code, same}
use Rattle.sr_model.specs.Assignment.{holds_number}
use Rattle.sr_model.specs.Chain.{Numbered, clause_of}
use Rattle.sr_table.specs.Pages.{Paged, entry}

-- whether the lists are built, the head of each code, the lists, and how many literals were entered
pub record Occurring : Type 0 where
  pub built : Bool
  pub heads : List ℕ
  pub lists : List (List ℕ)
  pub entered : ℕ

abbrev pub head_at : List ℕ → ℕ → ℕ
head_at heads code = slice_index_or heads code 0

-- the list of a place
abbrev pub list_at : List (List ℕ) → ℕ → List ℕ
list_at ls zero = []
list_at ls (suc i) = slice_index_or ls i []

abbrev pub numbers_under : List ℕ → List (List ℕ) → Literal → List ℕ
numbers_under heads ls l = list_at ls (head_at heads (literal_code l))

-- the numbers in the list of a literal
abbrev pub under : Occurring → Literal → List ℕ
under o l = numbers_under o.heads o.lists l

-- there is a list for each head, and no two have the same
pub record AreLinked (heads : List ℕ) (ls : List (List ℕ)) : Type 0 where
  pub known : (i : ℕ) → head_at heads i ≤ length ls
  pub apart : (i j : ℕ) → head_at heads i ≡ head_at heads j → (head_at heads i ≡ 0) ⊎ (i ≡ j)

-- the same lists
abbrev pub SameNumbers : (Literal → List ℕ) → (Literal → List ℕ) → Type 0
SameNumbers old new = (l : Literal) → new l ≡ old l

-- one number is put at the end of the list of a literal
abbrev pub Enters : (Literal → List ℕ) → (Literal → List ℕ) → Literal → ℕ → Type 0
Enters old new l n = (k : Literal) → new k ≡ cond (same l k) (old k ++ n ∷ []) (old k)

-- all numbers stay
abbrev pub KeepsNumbers : (Literal → List ℕ) → (Literal → List ℕ) → Type 0
KeepsNumbers old new = (l : Literal) (n : ℕ) → holds_number n (old l) ≡ true → holds_number n (new l) ≡ true

-- a number is in the lists of these literals
abbrev pub IsUnder : (Literal → List ℕ) → ℕ → List Literal → Type 0
IsUnder lists n [] = Unit {0}
IsUnder lists n (l ∷ ls) = (holds_number n (lists l) ≡ true) × IsUnder lists n ls

-- the number of each clause is in the lists of its literals
abbrev pub AreUnder : (Literal → List ℕ) → Numbered → Type 0
AreUnder lists [] = Unit {0}
AreUnder lists (p ∷ ps) = IsUnder lists p.0 p.1 × AreUnder lists ps

-- the lists are built, and have the clauses
pub record AreListed (o : Occurring) (live : Numbered) : Type 0 where
  pub built : o.built ≡ true
  pub under : AreUnder (under o) live

-- the lists have the clauses, if they are built
abbrev pub KeepsListed : Occurring → Numbered → Type 0
KeepsListed o live = o.built ≡ true → AreUnder (under o) live

-- how many literals were entered, up to the greatest number of 64 bits
abbrev pub counted : ℕ → ℕ → ℕ
counted entered more = min (entered + more) 18446744073709551615

-- the table leads from the numbers of the clauses, and from no others
abbrev pub IsTableFor : Paged → Numbered → Type 0
IsTableFor table live = (n : ℕ) → is_some (clause_of live n) ≡ not (entry table n == 0)

-- whichever clauses the table leads from: lists that have them have them afterwards
abbrev pub KeepsFor : Paged → Occurring → Occurring → Type 0
KeepsFor table old new = (live : Numbered) → IsTableFor table live → AreListed old live → AreListed new live

-- a live clause has the number
abbrev pub IsLive : Numbered → ℕ → Type 0
IsLive live n = is_some (clause_of live n) ≡ true
