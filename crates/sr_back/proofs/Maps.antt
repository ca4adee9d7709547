-- Numbered clauses as finite maps.
use Rattle.std.proofs.Common.{◌≡◌, inl, inr, ℕ, ◌<◌, ◌==◌, Bool, true, false, cond, not, ◌||◌, ◌&&◌, List, [], ◌∷◌, ◌++◌, Some, None, refl, ◌∙◌, ap, arith}
use Rattle.std.specs.Prelude.{filter}
use Rattle.std.proofs.lemmas.Bool.Decides.{nat_tests}
use Rattle.sr_base.specs.Literal.{Literal, complement, has}
use Rattle.sr_model.specs.Assignment.{holds_number}
use Rattle.sr_model.specs.Refutation.{has_empty, IsClosedFor, IsClosed, Refutes}
use Rattle.sr_model.specs.Substitution.{has_pair}
use Rattle.sr_model.specs.Chain.{Numbered, clauses, clause_of, HintEnd, closes, adds, misleads, hint_of_clause, hint}
use Rattle.sr_trimming.specs.Citing.{AreRising}
use Rattle.sr_trimming.specs.Placing.{numbers}
use Rattle.sr_trimming.specs.Lean.{no_more, found_has, stands_in, is_lean}
use Rattle.sr_model.proofs.Soundness.{by_test}
use Rattle.sr_model.proofs.Chains.{closed_at, empty_at}

-- each clause of the first stands in the second under its number
abbrev pub Within : Numbered → Numbered → Type 0
Within xs ys = (n : ℕ) (c : List Literal) → clause_of xs n ≡ Some c → clause_of ys n ≡ Some c

-- clauses picked by their numbers
pub clause_picked : (t : ℕ → Bool) (n : ℕ) (ps : Numbered) → clause_of (filter (λ p. t p.0) ps) n ≡ cond (t n) (clause_of ps n) None
clause_picked t n [] = by_test (t n) (λ e. rw e refl) (λ e. rw e refl)
clause_picked t n (p ∷ ps) = by_test (p.0 == n)
    (λ e. let is : p.0 ≡ n = grind (arith, nat_tests) in let same : t p.0 ≡ t n = ap t is in by_test (t n) (λ y. grind (arith, clause_picked t n ps)) (λ y. grind (arith, clause_picked t n ps)))
    (λ e. by_test (t p.0) (λ y. grind (arith, clause_picked t n ps)) (λ y. grind (arith, clause_picked t n ps)))

pub picked : (t : ℕ → Bool) (n : ℕ) (ps : Numbered) (c : List Literal) → t n ≡ true → clause_of ps n ≡ Some c → clause_of (filter (λ p. t p.0) ps) n ≡ Some c
picked t n ps c h e = clause_picked t n ps ∙ rw h e

pub picked_test : (t : ℕ → Bool) (n : ℕ) (ps : Numbered) (c : List Literal) → clause_of (filter (λ p. t p.0) ps) n ≡ Some c → (t n ≡ true) × (clause_of ps n ≡ Some c)
picked_test t n ps c e = by_test (t n) (λ h. (h, grind (arith, clause_picked t n ps))) (λ h. absurd (grind (arith, clause_picked t n ps)))

-- a number that stands has a clause, and one that has a clause stands
pub found_number : (n : ℕ) (ps : Numbered) → holds_number n (numbers ps) ≡ true → (c : List Literal) × (clause_of ps n ≡ Some c)
found_number n [] h = absurd cc
found_number n (p ∷ ps) h = by_test (p.0 == n) (λ e. (p.1, rw e refl)) (λ e. let r = found_number n ps (grind arith) in (r.0, rw e r.1))

pub number_found : (n : ℕ) (ps : Numbered) (c : List Literal) → clause_of ps n ≡ Some c → holds_number n (numbers ps) ≡ true
number_found n [] c h = absurd cc
number_found n (p ∷ ps) c h = by_test (p.0 == n) (λ e. grind arith) (λ e. grind (arith, number_found n ps c (rw e at h)))

pub found_above : (k n : ℕ) (ps : Numbered) (c : List Literal) → AreRising k ps → clause_of ps n ≡ Some c → k < n
found_above k n [] c r h = absurd cc
found_above k n (p ∷ ps) c r h = by_test (p.0 == n)
    (λ e. let is : p.0 ≡ n = grind (arith, nat_tests) in omega (arith, r.0))
    (λ e. let up : p.0 < n = found_above p.0 n ps c r.1 (rw e at h) in omega (arith, r.0))

-- what holds for the clause of each number holds for all clauses
closed_from : (b : List Literal) (k : ℕ) (ps : Numbered) → AreRising k ps → ((n : ℕ) (c : List Literal) → clause_of ps n ≡ Some c → IsClosedFor b c) → IsClosed b (clauses ps)
closed_from b k [] r f = tt
closed_from b k (p ∷ ps) r f = (
  f p.0 p.1 (let e : (p.0 == p.0) ≡ true = grind (arith, nat_tests) in rw e refl),
  closed_from b p.0 ps r.1 (λ n c h. f n c (let up = found_above p.0 n ps c r.1 h in let e : (p.0 == n) ≡ false = grind (arith, nat_tests) in rw e h)),
)

empty_from : (k : ℕ) (ps : Numbered) → AreRising k ps → has_empty (clauses ps) ≡ true → (n : ℕ) × (clause_of ps n ≡ Some [])
empty_from k [] r h = absurd cc
empty_from k ((m, []) ∷ ps) r h = (m, let e : (m == m) ≡ true = grind (arith, nat_tests) in rw e refl)
empty_from k ((m, l ∷ ls) ∷ ps) r h =
    let found = empty_from m ps r.1 h in
    (found.0, let up = found_above m found.0 ps [] r.1 found.1 in let e : (m == found.0) ≡ false = grind (arith, nat_tests) in rw e found.1)

-- what some clauses refute more clauses refute
pub refutes_within : (xs ys : Numbered) (a : List Literal) → AreRising 0 xs → Within xs ys → Refutes (clauses xs) a → Refutes (clauses ys) a
refutes_within xs ys a r w (inl e) = let f = empty_from 0 xs r e in inl (empty_at ys f.0 (w f.0 [] f.1))
refutes_within xs ys a r w (inr f) = inr (λ b inc cl. f b inc (closed_from b 0 xs r (λ n c h. closed_at ys n c b (w n c h) cl)))

-- a chain is as lean over any clauses where its hints have the same clauses
stands_same : (xs ys : Numbered) (l : Literal) (hs : List ℕ) → ((h : ℕ) → holds_number h hs ≡ true → clause_of xs h ≡ clause_of ys h) → stands_in xs l hs ≡ stands_in ys l hs
stands_same xs ys l [] s = refl
stands_same xs ys l (h ∷ hs) s =
    let here : clause_of xs h ≡ clause_of ys h = s h (grind (arith, nat_tests)) in
    ap (λ o. found_has l o || stands_in xs l hs) here ∙ ap (λ b. found_has l (clause_of ys h) || b) (stands_same xs ys l hs (λ k m. s k (grind arith)))

-- what the first hint makes of the rest
abbrev tail_of : Numbered → List Literal → List ℕ → HintEnd → Bool
tail_of xs a hs r = elim r [ closes ↦ no_more hs | adds l ↦ not (has l a) && stands_in xs (complement l) hs && is_lean xs (a ++ l ∷ []) hs | misleads x ↦ false ]

tail_same : (xs ys : Numbered) (a : List Literal) (hs : List ℕ) (r : HintEnd) → ((l : Literal) → stands_in xs (complement l) hs ≡ stands_in ys (complement l) hs)
    → ((l : Literal) → is_lean xs (a ++ l ∷ []) hs ≡ is_lean ys (a ++ l ∷ []) hs) → tail_of xs a hs r ≡ tail_of ys a hs r
tail_same xs ys a hs closes s f = refl
tail_same xs ys a hs (adds l) s f = ap (λ b. not (has l a) && b && is_lean xs (a ++ l ∷ []) hs) (s l) ∙ ap (λ b. not (has l a) && stands_in ys (complement l) hs && b) (f l)
tail_same xs ys a hs (misleads x) s f = refl

pub lean_same : (xs ys : Numbered) (a : List Literal) (hs : List ℕ) → ((h : ℕ) → holds_number h hs ≡ true → clause_of xs h ≡ clause_of ys h) → is_lean xs a hs ≡ is_lean ys a hs
lean_same xs ys a [] s = refl
lean_same xs ys a (h ∷ hs) s =
    let here : hint xs a h ≡ hint ys a h = ap (hint_of_clause a h) (s h (grind (arith, nat_tests))) in
    ap (λ r. not (has_pair a) && tail_of xs a hs r) here
    ∙ ap (λ b. not (has_pair a) && b) (tail_same xs ys a hs (hint ys a h) (λ l. stands_same xs ys (complement l) hs (λ k m. s k (grind arith))) (λ l. lean_same xs ys (a ++ l ∷ []) hs (λ k m. s k (grind arith))))
