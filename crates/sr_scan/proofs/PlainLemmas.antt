-- The lexeme of a token says what its bytes say.
use Rattle.std.proofs.Common.{◌≡◌, ◌∙◌, ℕ, ◌+◌, ◌-◌, ◌*◌, ◌^◌, ◌&&◌, min, Bool, true, false, cond, refl, ap, ◌≤◌, zero-add, inl, inr, List, [], ◌∷◌, Err, arith}
use Rattle.std.specs.Prelude.{nat_lt, ◌==◌}
use Rattle.std.specs.List.{list_all}
use Rattle.std.proofs.lemmas.Bool.{cases_lt}
use Rattle.std.proofs.lemmas.Bool.Decides.{nat_tests}
use Rattle.sr_scan.specs.declared.lexeme.Lexeme.TheVariants as lex
use Rattle.sr_base.specs.declared.names.TextKind.TheVariants.{BadNumber, TooWide}
use Rattle.sr_model.specs.Words.{is_digit, number_word}
use Rattle.sr_scan.specs.Lexeme.{grown, word_of}
use Rattle.sr_model.specs.Words.{value_after, number_by}
use Rattle.sr_scan.specs.Machine.{lexeme_after}

pub malformed : (bs : List ℕ) → lexeme_after lex.Malformed bs ≡ lex.Malformed
malformed [] = refl
malformed (b ∷ bs) = malformed bs

pub other : (bs : List ℕ) → lexeme_after lex.Other bs ≡ lex.Other
other [] = refl
other (b ∷ bs) = other bs

capped : (n d : ℕ) → grown (min n (2 ^ 63)) d ≡ min (10 * n + (d - 48)) (2 ^ 63)
capped n d = omega arith

-- digits after digits
pub digits-lexeme : (negative : Bool) (n : ℕ) (ds : List ℕ) → list_all is_digit ds ≡ true
    → lexeme_after (lex.Digits negative (min n (2 ^ 63))) ds ≡ lex.Digits negative (min (value_after n ds) (2 ^ 63))
digits-lexeme negative n [] h = refl
digits-lexeme negative n (d ∷ ds) h = go (is_digit d) refl (digits-lexeme negative (10 * n + (d - 48)) ds)
  where
    go : (t : Bool) → is_digit d ≡ t
        → (list_all is_digit ds ≡ true → lexeme_after (lex.Digits negative (min (10 * n + (d - 48)) (2 ^ 63))) ds ≡ lex.Digits negative (min (value_after (10 * n + (d - 48)) ds) (2 ^ 63)))
        → lexeme_after (lex.Digits negative (min n (2 ^ 63))) (d ∷ ds) ≡ lex.Digits negative (min (value_after n (d ∷ ds)) (2 ^ 63))
    go true t again =
        let rest : list_all is_digit ds ≡ true = rw t at h in
        rw (t, capped n d) (again rest)
    go false t again = let no = rw t at h in cc

-- one that is no digit among them
pub digits-malformed : (negative : Bool) (n : ℕ) (ds : List ℕ) → list_all is_digit ds ≡ false
    → lexeme_after (lex.Digits negative n) ds ≡ lex.Malformed
digits-malformed negative n [] h = cc
digits-malformed negative n (d ∷ ds) h = go (is_digit d) refl (digits-malformed negative (grown n d) ds)
  where
    go : (t : Bool) → is_digit d ≡ t → (list_all is_digit ds ≡ false → lexeme_after (lex.Digits negative (grown n d)) ds ≡ lex.Malformed)
        → lexeme_after (lex.Digits negative n) (d ∷ ds) ≡ lex.Malformed
    go true t again =
        let rest : list_all is_digit ds ≡ false = rw t at h in
        rw t (again rest)
    go false t again = rw t (malformed ds)

-- a capped size says what the size says
pub number_word-capped : (negative : Bool) (v : ℕ) → number_word negative (min v (2 ^ 63)) ≡ number_word negative v
number_word-capped negative v = elim (cases_lt v (2 ^ 63)) [
  | inl small ↦ let e : min v (2 ^ 63) ≡ v = omega arith in rw e refl
  | inr big ↦
      let e : min v (2 ^ 63) ≡ 2 ^ 63 = omega arith in
      let some : (v == 0) ≡ false = grind arith in
      let wide : nat_lt v (2 ^ 63) ≡ false = grind arith in
      rw (e, some, wide) (elim negative as (λ b. number_word b (2 ^ 63) ≡ cond (b && false) (Err BadNumber) (Err TooWide)) [ true ↦ refl | false ↦ refl ])
]

digit_small : (d : ℕ) → is_digit d ≡ true → min (d - 48) (2 ^ 63) ≡ d - 48
digit_small d h = let top : d ≤ 57 = grind (arith, nat_tests) in omega arith

-- what a number says: digits, of which there is at least one
pub digits-said : (negative : Bool) (d : ℕ) (ds : List ℕ) → is_digit d ≡ true
    → word_of (lexeme_after (lex.Digits negative (d - 48)) ds) ≡ number_by negative (d ∷ ds)
digits-said negative d ds h = go (list_all is_digit ds) refl
  where
    go : (t : Bool) → list_all is_digit ds ≡ t → word_of (lexeme_after (lex.Digits negative (d - 48)) ds) ≡ number_by negative (d ∷ ds)
    go true t =
        let small : min (d - 48) (2 ^ 63) ≡ d - 48 = digit_small d h in
        let start : value_after 0 (d ∷ ds) ≡ value_after (d - 48) ds = ap (λ (n : ℕ). value_after n ds) (zero-add (d - 48)) in
        let whole : list_all is_digit (d ∷ ds) ≡ true = rw (h, t) refl in
        let after : lexeme_after (lex.Digits negative (d - 48)) ds ≡ lex.Digits negative (min (value_after (d - 48) ds) (2 ^ 63)) =
        rw small at (digits-lexeme negative (d - 48) ds t) in
        ap word_of after ∙ number_word-capped negative (value_after (d - 48) ds) ∙ rw (whole, start) refl
    go false t =
        let none : list_all is_digit (d ∷ ds) ≡ false = rw (h, t) refl in
        rw (digits-malformed negative (d - 48) ds t, none) refl
