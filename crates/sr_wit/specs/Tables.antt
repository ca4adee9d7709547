-- The parts of a substitution in the order of their variables, for binary search.
use Rattle.std.specs.Prelude.{ℕ, ◌*◌, ◌/◌, ◌%◌, ◌^◌, ◌<◌, ◌≤◌, ◌≡◌, ◌≢◌, List, All, length, slice_index_or}
use Rattle.std.specs.List.Sorted.{IsNonDecreasingBy}
use Rattle.sr_base.specs.Literal.{Literal, plus}
use Rattle.sr_model.specs.Substitution.{Substitution, Witness, substitution, image_of_variable}
use Rattle.sr_model.specs.declared.images.Image.{Image}
use Rattle.sr_model.specs.declared.images.Image.TheVariants.{To}
use Rattle.sr_wit.specs.Kept.{IsKept}

-- each part tells the image of its variable, and a variable that has no part keeps itself
pub record IsTableOf (s : Substitution) (table : List (ℕ × Image)) : Type 0 where
  pub sorted : IsNonDecreasingBy (λ p. p.0) table
  pub told : All (λ p. image_of_variable s p.0 ≡ p.1) table
  pub others : (v : ℕ) → All (λ p. p.0 ≢ v) table → image_of_variable s v ≡ To (plus v)

abbrev pub witness_with : Literal → List Literal → List (Literal × Literal) → Witness
witness_with pivot assigned maps = record { pivot = pivot; assigned = assigned; maps = maps }

-- what a substitution keeps true of its fields
pub record HoldsSubst (w : Witness) (table : List (ℕ × Image)) : Type 0 where
  pub kept : IsKept w
  pub images : IsTableOf (substitution w) table

-- where a variable is looked for first
abbrev pub slot_of : ℕ → ℕ → ℕ
slot_of v shift = v * 2654435769 % 4294967296 / 2 ^ shift

-- each slot has the place of a part, counted from 1, and of a variable whose slot has none there is no part
pub record AreSlots (parts : List (ℕ × Image)) (slots : List ℕ) (shift : ℕ) : Type 0 where
  pub known : (i : ℕ) → slice_index_or slots i 0 ≤ length parts
  pub free : (v : ℕ) → slot_of v shift < length slots → slice_index_or slots (slot_of v shift) 0 ≡ 0 → All (λ p. p.0 ≢ v) parts
