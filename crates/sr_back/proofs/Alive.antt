-- The hints of lean chains are alive.
use Rattle.std.proofs.Common.{◌≡◌, ℕ, ◌==◌, true, false, not, ◌&&◌, List, [], ◌∷◌, ◌++◌, Option, Some, None, refl, subst, arith}
use Rattle.std.proofs.lemmas.Bool.Decides.{nat_tests}
use Rattle.sr_base.specs.Literal.{Literal, complement, has}
use Rattle.sr_model.specs.Assignment.{holds_number}
use Rattle.sr_model.specs.Substitution.{has_pair}
use Rattle.sr_model.specs.Chain.{Numbered, clause_of, HintEnd, closes, adds, misleads, hint_of_clause, hint}
use Rattle.sr_model.proofs.Soundness.{by_test}
use Rattle.sr_trimming.specs.Placing.{numbers}
use Rattle.sr_trimming.specs.Lean.{no_more, stands_in, is_lean}
use Rattle.sr_back.proofs.Maps.{number_found}

-- each hint of a lean chain is alive
first_live : (live : Numbered) (a : List Literal) (h : ℕ) (hs : List ℕ) (o : Option (List Literal)) → clause_of live h ≡ o
    → elim (hint_of_clause a h o) [ closes ↦ no_more hs | adds l ↦ not (has l a) && stands_in live (complement l) hs && is_lean live (a ++ l ∷ []) hs | misleads x ↦ false ] ≡ true
    → holds_number h (numbers live) ≡ true
first_live live a h hs None e g = absurd cc
first_live live a h hs (Some c) e g = number_found h live c e

rest_lean : (live : Numbered) (a : List Literal) (hs : List ℕ) (r : HintEnd) (n : ℕ) → holds_number n hs ≡ true
    → elim r [ closes ↦ no_more hs | adds l ↦ not (has l a) && stands_in live (complement l) hs && is_lean live (a ++ l ∷ []) hs | misleads x ↦ false ] ≡ true
    → (l : Literal) × (is_lean live (a ++ l ∷ []) hs ≡ true)
rest_lean live a [] closes n m g = absurd cc
rest_lean live a (h ∷ hs) closes n m g = absurd cc
rest_lean live a hs (adds l) n m g = (l, grind arith)
rest_lean live a hs (misleads x) n m g = absurd cc

pub lean_live : (live : Numbered) (a : List Literal) (hs : List ℕ) (n : ℕ) → is_lean live a hs ≡ true → holds_number n hs ≡ true → holds_number n (numbers live) ≡ true
lean_live live a [] n l m = absurd cc
lean_live live a (h ∷ hs) n l m =
    let no_pair : has_pair a ≡ false = grind arith in
    by_test (h == n)
    (λ e. let is : h ≡ n = grind (arith, nat_tests) in subst (λ k. holds_number k (numbers live) ≡ true) is (first_live live a h hs (clause_of live h) refl (rw (no_pair, is_lean) at l)))
    (λ e. let r = rest_lean live a hs (hint live a h) n (grind arith) (rw (no_pair, is_lean) at l) in lean_live live (a ++ r.0 ∷ []) hs n r.1 (grind arith))
