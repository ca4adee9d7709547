-- How a chain is collected, from its last clause to its first.
use Rattle.std.specs.Prelude.{ℕ, ◌≡◌, ◌<◌, ◌≤◌, ◌-◌, Bool, true, false, List, length, reverse}
use Rattle.sr_base.specs.Literal.{Literal, complement, has}
use Rattle.sr_model.specs.Assignment.{holds_number}
use Rattle.sr_model.specs.Substitution.{has_pair}
use Rattle.sr_watch.specs.State.{State, reason_at}
use Rattle.sr_watch.specs.Lean.{stands_in, is_lean, AreReasonsOr}
use Rattle.sr_watch.specs.Running.{IsEarly, AreAttached, IsUsed}
use Rattle.sr_watch.specs.Marks.{marked, AreMarked, AreMarkedAtMost}
use Rattle.sr_watch.specs.Trail.{table_size, place_in}

-- a set of early literals without a pair, which has those whose complements stand in the clauses
pub record IsBase (s : State) (n : ℕ) (hs : List ℕ) (a : List Literal) : Type 0 where
  pub no_pair : has_pair a ≡ false
  pub early : (k : Literal) → has k a ≡ true → IsEarly s n k
  pub stands : (k : Literal) → stands_in s (complement k) hs ≡ true → IsEarly s n k → has k a ≡ true

-- the clauses are lean from each such set
pub record IsLeanAt (s : State) (n : ℕ) (hs : List ℕ) : Type 0 where
  pub lean : (a : List Literal) → IsBase s n hs a → is_lean s a hs ≡ true

-- the clauses, the last one first, are all that is needed of the reasons of entries from `n` on
pub record IsCollecting (s : State) (at n : ℕ) (out : List ℕ) : Type 0 where
  pub attached : AreAttached s out
  pub lean : IsLeanAt s n (reverse out)
  pub of : AreReasonsOr s at (reverse out)

-- the place of each entry below `n` whose reason the clauses need
abbrev pub AreQueued : State → ℕ → List ℕ → List ℕ → Type 0
AreQueued s n hs ps = (i : ℕ) → i < n → IsUsed s i hs (reason_at s i) → holds_number i ps ≡ true

-- the literals that the clauses stand on are marked, and the places of those that are entries below `n` are queued
pub record IsListed (s : State) (n : ℕ) (hs : List ℕ) (marks : List Bool) (places : List ℕ) : Type 0 where
  pub attached : AreAttached s hs
  pub room : table_size s.vars ≤ length marks
  pub marked : AreMarked s hs marks
  pub queued : AreQueued s n hs places

-- no other literals are marked than those that the clauses stand on
pub record IsLeft (s : State) (hs : List ℕ) (marks : List Bool) : Type 0 where
  pub attached : AreAttached s hs
  pub room : table_size s.vars ≤ length marks
  pub marked : AreMarkedAtMost s hs marks

-- the place of a literal is in the queue, where it is below `n` and the literal wasn't marked
abbrev pub Awaits : List Literal → List Bool → ℕ → List ℕ → Literal → Type 0
Awaits ls marks n ps l = marked marks l ≡ false → 0 < place_in ls l → place_in ls l ≤ n → holds_number (place_in ls l - 1) ps ≡ true

-- no place is lost
abbrev pub KeepsPlaces : List ℕ → List ℕ → Type 0
KeepsPlaces old new = (i : ℕ) → holds_number i old ≡ true → holds_number i new ≡ true
