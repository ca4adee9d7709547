-- Numbers by the marks that a table has for them.
use Rattle.std.specs.Prelude.{ℕ, ◌+◌, ◌≤◌, ◌<◌, ◌≡◌, Bool, cond, List, [], ◌∷◌, length, slice_index}

-- of the numbers from one on those whose marks pass a test
abbrev pub numbers_where : (ℕ → Bool) → ℕ → List ℕ → List ℕ
numbers_where t n [] = []
numbers_where t n (x ∷ xs) = cond (t x) (n ∷ numbers_where t (n + 1) xs) (numbers_where t (n + 1) xs)

-- a chain through a table: a number leads to the next one, which is greater, and 0 ends it
abbrev pub IsChain : List ℕ → ℕ → ℕ → List ℕ → Type 0
IsChain links low head [] = head ≡ 0
IsChain links low head (n ∷ ns) = (head ≡ n) × (low ≤ n) × (n < length links) × IsChain links (n + 1) (slice_index links n) ns

-- one chain for each head
abbrev pub AreChains : List ℕ → List ℕ → List (List ℕ) → Type 0
AreChains links [] [] = Unit {0}
AreChains links [] (c ∷ cs) = ⊥
AreChains links (h ∷ hs) [] = ⊥
AreChains links (h ∷ hs) (c ∷ cs) = IsChain links 1 h c × AreChains links hs cs
