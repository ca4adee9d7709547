-- A number in a clause.
use Rattle.std.proofs.Common.{◌≡◌, ◌<◌, ◌≤◌, ℕ, zero, suc, ℤ, pos, negsuc, true, false, List, [], ◌∷◌, ◌++◌, Option, Some, refl, arith}
use Rattle.std.specs.Prelude.{nat_le, nat_abs}
use Rattle.std.proofs.lemmas.Bool.Decides.{nat_tests}
use Rattle.sr_base.specs.Literal.{Literal, literal_of, variable}
use Rattle.sr_base.specs.declared.names.TextKind.TheVariants.{AboveHeader}
use Rattle.sr_model.specs.Reading.{Read, misspells}
use Rattle.sr_model.specs.Dimacs.{Formula, by_number}

-- a variable above those of the header
pub number-above : (v : ℕ) (done : List (List Literal)) (lits : List Literal) (x : ℤ) (place : ℕ) (more : List (List Literal) → Option (List Literal) → Read Formula)
    → v < nat_abs x → by_number v done lits x place more ≡ misspells AboveHeader place
number-above v done lits (pos zero) place more h = absurd (omega arith)
number-above v done lits (pos (suc n)) place more h = let t : nat_le (suc n) v ≡ false = grind (arith, nat_tests) in rw t refl
number-above v done lits (negsuc n) place more h = let t : nat_le (suc n) v ≡ false = grind (arith, nat_tests) in rw t refl

-- a literal joins the clause
pub number-within : (v : ℕ) (done : List (List Literal)) (lits : List Literal) (x : ℤ) (place : ℕ) (more : List (List Literal) → Option (List Literal) → Read Formula)
    → (x ≡ pos 0 → ⊥) → nat_abs x ≤ v → by_number v done lits x place more ≡ more done (Some (lits ++ literal_of x ∷ []))
number-within v done lits (pos zero) place more z h = absurd (z refl)
number-within v done lits (pos (suc n)) place more z h = let t : nat_le (suc n) v ≡ true = grind (arith, nat_tests) in rw t refl
number-within v done lits (negsuc n) place more z h = let t : nat_le (suc n) v ≡ true = grind (arith, nat_tests) in rw t refl

-- the variable of a number is its size
pub variable-literal_of : (x : ℤ) → variable (literal_of x) ≡ nat_abs x
variable-literal_of (pos n) = refl
variable-literal_of (negsuc n) = omega arith
