-- Lemmas on the slots of parts.
use Rattle.std.proofs.Common.{◌≡◌, ◌≢◌, ℕ, ◌+◌, ◌<◌, ◌≤◌, List, length, get_or, set, take, sym, ◌∙◌, ap, subst, arith, get_or-set_same, get_or-set_other, ◌⊎◌, inl, inr}
use Rattle.std.specs.List.{All}
use Rattle.std.proofs.lemmas.List.{length-set, take_all, get_or_past}
use Rattle.std.proofs.lemmas.List.Elements.{All-more}
use Rattle.std.proofs.lemmas.Bool.{cases_eq, cases_lt}
use Rattle.sr_model.specs.declared.images.Image.{Image}
use Rattle.sr_wit.specs.Tables.{slot_of, AreSlots}

-- of a variable whose slot is free none of these parts is
abbrev pub IsFree : List (ℕ × Image) → List ℕ → ℕ → Type 0
IsFree parts slots shift = (v : ℕ) → slot_of v shift < length slots → get_or slots (slot_of v shift) 0 ≡ 0 → All (λ p. p.0 ≢ v) parts

one_more : (parts : List (ℕ × Image)) (i v : ℕ) (x : ℕ × Image) → i < length parts → x ≡ get_or parts i x → All (λ p. p.0 ≢ v) (take i parts) → x.0 ≢ v → All (λ p. p.0 ≢ v) (take (i + 1) parts)
one_more parts i v x h is all ne = All-more (λ p. p.0 ≢ v) parts i x h all (λ e. ne (ap (λ (p : ℕ × Image). p.0) is ∙ e))

-- a part whose slot isn't there
pub free_past : (parts : List (ℕ × Image)) (slots : List ℕ) (shift i : ℕ) (x : ℕ × Image) → i < length parts → x ≡ get_or parts i x → length slots ≤ slot_of x.0 shift → IsFree (take i parts) slots shift → IsFree (take (i + 1) parts) slots shift
free_past parts slots shift i x h is past free v lt e = one_more parts i v x h is (free v lt e) (λ same. let at : slot_of x.0 shift ≡ slot_of v shift = ap (λ n. slot_of n shift) same in omega (arith, at, past, lt))

-- a part is noted
pub free_noted : (parts : List (ℕ × Image)) (slots : List ℕ) (shift i place : ℕ) (x : ℕ × Image) → i < length parts → x ≡ get_or parts i x → slot_of x.0 shift < length slots → place ≡ i + 1 → IsFree (take i parts) slots shift → IsFree (take (i + 1) parts) (set slots (slot_of x.0 shift) place) shift
free_noted parts slots shift i place x h is room at free v lt e = one_more parts i v x h is (free v within (sym (get_or-set_other slots (slot_of x.0 shift) (slot_of v shift) place 0 other) ∙ e)) (λ same. other (ap (λ n. slot_of n shift) (sym same)))
  where
    within : slot_of v shift < length slots
    within = omega (arith, lt, length-set slots (slot_of x.0 shift) place)

    other : slot_of v shift ≢ slot_of x.0 shift
    other same =
        let z : get_or (set slots (slot_of x.0 shift) place) (slot_of x.0 shift) 0 ≡ 0 = ap (λ n. get_or (set slots (slot_of x.0 shift) place) n 0) (sym same) ∙ e in
        let p : place ≡ 0 = sym (get_or-set_same slots (slot_of x.0 shift) place 0 room) ∙ z in
        omega (arith, p, at)

pub known_noted : (slots : List ℕ) (s place bound : ℕ) → place ≤ bound → ((j : ℕ) → get_or slots j 0 ≤ bound) → (j : ℕ) → get_or (set slots s place) j 0 ≤ bound
known_noted slots s place bound le known j = at (cases_eq j s)
  where
    last : (s < length slots) ⊎ (length slots ≤ s) → get_or (set slots s place) s 0 ≤ bound
    last (inl h) = rw (get_or-set_same slots s place 0 h) le
    last (inr h) = rw (get_or_past (set slots s place) s 0 (omega (arith, length-set slots s place))) (omega arith)

    at : (j ≡ s) ⊎ (j ≡ s → ⊥) → get_or (set slots s place) j 0 ≤ bound
    at (inl e) = rw e (last (cases_lt s (length slots)))
    at (inr n) = rw (get_or-set_other slots s j place 0 n) (known j)

pub all_noted : (parts : List (ℕ × Image)) (slots : List ℕ) (shift i : ℕ) → length parts ≤ i → ((j : ℕ) → get_or slots j 0 ≤ length parts) → IsFree (take i parts) slots shift → AreSlots parts slots shift
all_noted parts slots shift i h known free = record { known = known; free = λ v lt e. subst (All (λ p. p.0 ≢ v)) (take_all i parts h) (free v lt e) }
