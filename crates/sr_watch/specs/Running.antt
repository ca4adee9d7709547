-- One step of propagation, and one step of collecting a chain.
use Rattle.std.specs.Prelude.{ℕ, ◌≡◌, ◌≢◌, ◌<◌, ◌⊎◌, true, false, Option, Some, None, List, [], ◌∷◌, ◌++◌, length, take, slice_index_or}
use Rattle.sr_base.specs.Literal.{Literal, plus, complement, has}
use Rattle.sr_model.specs.Refutation.{IsClosed, has_empty}
use Rattle.sr_model.specs.Substitution.{has_pair}
use Rattle.sr_watch.specs.declared.parts.Part.{Part}
use Rattle.sr_watch.specs.declared.parts.Found.{Found}
use Rattle.sr_watch.specs.declared.parts.Found.TheVariants.{Still, Conflict, Pair}
use Rattle.sr_watch.specs.State.{State, lit_at, reason_at, lits_at, IsOfPart, IsAttached, clauses_of, assumed_in, assumed, AllFalse, IsForcedBy, IsOpen}
use Rattle.sr_watch.specs.Scanning.{IsDerivedPair}
use Rattle.sr_watch.specs.Lean.{stands_in}

-- one more entry
abbrev pub pushed : State → Literal → ℕ → State
pushed s l r = record s { lits = s.lits ++ l ∷ []; reasons = s.reasons ++ r ∷ [] }

-- what the entries hold against themselves
abbrev pub FindsSelf : State → Option Found → Type 0
FindsSelf s None = has_pair s.lits ≡ false
FindsSelf s (Some Still) = ⊥
FindsSelf s (Some (Conflict at)) = IsDerivedPair s.lits s.reasons at
FindsSelf s (Some (Pair l)) = (has l (assumed s) ≡ true) × (has (complement l) (assumed s) ≡ true)

-- a clause forces an open literal
pub record IsNext (s : State) (l : Literal) (at : ℕ) : Type 0 where
  pub some : 0 < at
  pub attached : IsAttached s at
  pub forced : IsForcedBy (lits_at s at) s.lits l
  pub open_here : IsOpen l s.lits

pub record IsNothing (p : Part) (s : State) : Type 0 where
  pub closed : IsClosed s.lits (clauses_of s p)
  pub none_empty : has_empty (clauses_of s p) ≡ false

pub record IsFalse (p : Part) (s : State) (at : ℕ) : Type 0 where
  pub of_part : IsOfPart s p at
  pub all_false : AllFalse s.lits (lits_at s at)

-- the clause that a chain is asked for
abbrev pub asked_clause : Found → ℕ
asked_clause Still = 0
asked_clause (Conflict at) = at
asked_clause (Pair l) = 0

-- each derived entry was neither true nor false
abbrev pub AreNews : List Literal → List ℕ → Type 0
AreNews ls rs = (i : ℕ) → i < length ls → slice_index_or rs i 0 ≢ 0 → IsOpen (slice_index_or ls i (plus 0)) (take i ls)

-- no derived entry of the first ones has its complement assumed
abbrev pub NoClash : List Literal → List ℕ → ℕ → Type 0
NoClash ls rs n = (i : ℕ) → i < n → slice_index_or rs i 0 ≢ 0 → has (complement (slice_index_or ls i (plus 0))) (assumed_in ls rs) ≡ false

pub record IsClash (ls : List Literal) (rs : List ℕ) (i : ℕ) : Type 0 where
  pub derived : slice_index_or rs i 0 ≢ 0
  pub assumed : has (complement (slice_index_or ls i (plus 0))) (assumed_in ls rs) ≡ true

-- an entry is derived, and its complement is assumed by the other one
pub record ClashesWith (ls : List Literal) (rs : List ℕ) (i j : ℕ) : Type 0 where
  pub within : i < length ls
  pub derived : slice_index_or rs i 0 ≢ 0
  pub assumed : slice_index_or rs j 0 ≡ 0
  pub complement : complement (slice_index_or ls i (plus 0)) ≡ slice_index_or ls j (plus 0)

-- the literal is assumed, or of one of the first entries
abbrev pub IsEarly : State → ℕ → Literal → Type 0
IsEarly s n l = (has l (assumed s) ≡ true) ⊎ (has l (take n s.lits) ≡ true)

-- an attached clause all of whose literals are made false by the assumed literals and the first entries, of
-- which none derives a literal whose complement is assumed
pub record ClosesAt (s : State) (at n : ℕ) : Type 0 where
  pub attached : IsAttached s at
  pub all_false : (k : Literal) → has k (lits_at s at) ≡ true → IsEarly s n (complement k)
  pub no_pair : has_pair (assumed s) ≡ false
  pub no_clash : NoClash s.lits s.reasons n

abbrev pub AreAttached : State → List ℕ → Type 0
AreAttached s [] = Unit {0}
AreAttached s (h ∷ hs) = IsAttached s h × AreAttached s hs

-- the entry's reason is needed for these clauses
pub record IsUsed (s : State) (i : ℕ) (hs : List ℕ) (r : ℕ) : Type 0 where
  pub reason : reason_at s i ≡ r
  pub derived : reason_at s i ≢ 0
  pub not_assumed : has (lit_at s i) (assumed s) ≡ false
  pub stands : stands_in s (complement (lit_at s i)) hs ≡ true

-- it isn't
abbrev pub IsSpare : State → ℕ → List ℕ → Type 0
IsSpare s i hs = (reason_at s i ≡ 0) ⊎ ((has (lit_at s i) (assumed s) ≡ true) ⊎ (stands_in s (complement (lit_at s i)) hs ≡ false))
