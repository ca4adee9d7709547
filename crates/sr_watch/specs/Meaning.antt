-- What propagation answers.
use Rattle.std.specs.Prelude.{ℕ, ◌≡◌, ◌≢◌, ◌<◌, ◌⊎◌, true, false, List, length}
use Rattle.sr_base.specs.Literal.{Literal, complement, has}
use Rattle.sr_model.specs.Refutation.{IsClosed, Refutes, Includes}
use Rattle.sr_model.specs.Substitution.{has_pair}
use Rattle.sr_watch.specs.declared.parts.Part.{Part}
use Rattle.sr_watch.specs.declared.parts.Part.TheVariants.{All}
use Rattle.sr_watch.specs.declared.parts.Found.{Found}
use Rattle.sr_watch.specs.declared.parts.Found.TheVariants.{Still, Conflict, Pair}
use Rattle.sr_watch.specs.State.{State, lit_at, reason_at, lits_at, IsOfPart, IsAttached, clauses_of, assumed, AllFalse}

-- the clauses of all reasons are of the part
abbrev pub HasReasonsOf : State → Part → Type 0
HasReasonsOf s p = (i : ℕ) → i < length s.lits → reason_at s i ≢ 0 → IsOfPart s p (reason_at s i)

-- the clause is the reason of an entry whose complement is an entry too
pub record IsReasonInPair (s : State) (at : ℕ) : Type 0 where
  pub entry : ℕ
  pub within : entry < length s.lits
  pub reason : reason_at s entry ≡ at
  pub complement : has (complement (lit_at s entry)) s.lits ≡ true

-- the true literals are closed under the part, and no literal is true and false
pub record IsStill (p : Part) (s : State) : Type 0 where
  pub closed : IsClosed s.lits (clauses_of s p)
  pub no_pair : has_pair s.lits ≡ false
  pub consistent : Refutes (clauses_of s p) (assumed s) → ⊥

-- the clause is attached and all its literals are false. It is of the part, or an entry that it is the reason
-- of is false too; and the part refutes the assumed literals where every reason is of the part
pub record IsConflict (p : Part) (s : State) (at : ℕ) : Type 0 where
  pub attached : IsAttached s at
  pub all_false : AllFalse s.lits (lits_at s at)
  pub of_part : IsOfPart s p at ⊎ IsReasonInPair s at
  pub refutes : HasReasonsOf s p → Refutes (clauses_of s p) (assumed s)

-- the literal and its complement are assumed
pub record IsPair (p : Part) (s : State) (l : Literal) : Type 0 where
  pub is_true : has l (assumed s) ≡ true
  pub is_false : has (complement l) (assumed s) ≡ true
  pub refutes : Refutes (clauses_of s p) (assumed s)

-- what an answer says
abbrev pub Means : Part → State → Found → Type 0
Means p s Still = IsStill p s
Means p s (Conflict at) = IsConflict p s at
Means p s (Pair l) = IsPair p s l

-- each true literal lies in every set that has the assumed ones and is closed under the attached clauses
abbrev pub IsLeast : State → Type 0
IsLeast s = (b : List Literal) → Includes (assumed s) b → IsClosed b (clauses_of s All) → Includes s.lits b

-- what a chain may be asked for: a false clause, or an assumed pair
abbrev pub IsAsked : State → Found → Type 0
IsAsked s Still = ⊥
IsAsked s (Conflict at) = IsAttached s at × AllFalse s.lits (lits_at s at)
IsAsked s (Pair l) = (has l (assumed s) ≡ true) × (has (complement l) (assumed s) ≡ true)
