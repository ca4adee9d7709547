-- Chains of clauses in which nothing is spare.
use Rattle.std.specs.Prelude.{ℕ, ◌≡◌, ◌<◌, ◌⊎◌, Bool, true, false, not, ◌||◌, ◌&&◌, List, [], ◌∷◌, ◌++◌, length}
use Rattle.sr_base.specs.Literal.{Literal, complement, has}
use Rattle.sr_model.specs.Substitution.{has_pair}
use Rattle.sr_model.specs.Chain.{open_literals, hint_of_open, closes, adds, misleads}
use Rattle.sr_watch.specs.State.{State, lits_at, reason_at, assumed}

-- whether a literal stands in one of the clauses
abbrev pub stands_in : State → Literal → List ℕ → Bool
stands_in s l [] = false
stands_in s l (h ∷ hs) = has l (lits_at s h) || stands_in s l hs

abbrev pub no_more : List ℕ → Bool
no_more [] = true
no_more (h ∷ hs) = false

-- from these literals the chain closes at its last clause, and each earlier one adds a new literal whose
-- complement stands in a later one; a chain from a pair is empty
abbrev pub is_lean : State → List Literal → List ℕ → Bool
is_lean s a [] = has_pair a
is_lean s a (h ∷ hs) = not (has_pair a) && elim (hint_of_open h (open_literals a (lits_at s h))) [
  | closes ↦ no_more hs
  | adds l ↦ not (has l a) && stands_in s (complement l) hs && is_lean s (a ++ l ∷ []) hs
  | misleads x ↦ false
]

-- each clause of the chain is the reason of an entry, or is this one
abbrev pub AreReasonsOr : State → ℕ → List ℕ → Type 0
AreReasonsOr s at [] = Unit {0}
AreReasonsOr s at (h ∷ hs) = ((h ≡ at) ⊎ ((i : ℕ) × (i < length s.lits) × (reason_at s i ≡ h))) × AreReasonsOr s at hs

-- a lean chain from the assumed literals, over attached clauses: reasons of entries, and `at`
pub record IsChain (s : State) (at : ℕ) (hs : List ℕ) : Type 0 where
  pub lean : is_lean s (assumed s) hs ≡ true
  pub of : AreReasonsOr s at hs
