-- A lean chain has no hint twice, and so it is short.
use Rattle.std.proofs.Common.{◌≡◌, ◌≢◌, ℕ, suc, ◌<◌, ◌≤◌, ◌==◌, true, false, not, ◌&&◌, List, [], ◌∷◌, ◌++◌, Some, length, get_or, refl, sym, ◌∙◌, ap, subst, arith}
use Rattle.std.specs.List.{list_any, AllByRecursion, IsDistinct}
use Rattle.std.proofs.Math.Dec.{eqb}
use Rattle.std.proofs.lemmas.Bool.Decides.{nat_tests}
use Rattle.std.proofs.lemmas.Map.Keys.{IsDistinct-cons}
use Rattle.std.proofs.lemmas.Map.Steps.{length-le_from_distinct_below}
use Rattle.sr_base.specs.Literal.{Literal, complement, same, has}
use Rattle.sr_base.proofs.Literals.{same_tells, has_append}
use Rattle.sr_model.specs.Assignment.{holds_number}
use Rattle.sr_model.specs.Substitution.{has_pair}
use Rattle.sr_model.specs.Chain.{Numbered, clause_of, open_literals, HintEnd, closes, adds, misleads, hint}
use Rattle.sr_model.proofs.Soundness.{by_test, has_kept}
use Rattle.sr_model.proofs.Chains.{pair_from, open_none, open_one, open_rest, found_none, found_one}
use Rattle.sr_trimming.specs.Lean.{no_more, stands_in, is_lean}

-- a clause that gave a literal: that one is true, and its others are false
record IsSpent (live : Numbered) (a : List Literal) (h : ℕ) (l : Literal) : Type 0 where
  clause : List Literal
  found : clause_of live h ≡ Some clause
  within : has l clause ≡ true
  holds : has l a ≡ true
  others : (k : Literal) → has k clause ≡ true → k ≢ l → has (complement k) a ≡ true

spent_by : (live : Numbered) (a : List Literal) (h : ℕ) (l : Literal) → hint live a h ≡ adds l → IsSpent live (a ++ l ∷ []) h l
spent_by live a h l e =
    let r = found_one live a h l (clause_of live h) refl e in
    record {
      clause = r.clause;
      found = r.found;
      within = open_one a r.clause l r.is_open;
      holds = grind (arith, has_append l a (l ∷ []), same_tells l l);
      others = λ k i ne. grind (arith, has_append (complement k) a (l ∷ []), open_rest a r.clause l r.is_open k i ne);
    }

spent_more : (live : Numbered) (a : List Literal) (h : ℕ) (l m : Literal) → IsSpent live a h l → IsSpent live (a ++ m ∷ []) h l
spent_more live a h l m s = record {
  clause = s.clause;
  found = s.found;
  within = s.within;
  holds = grind (arith, has_append l a (m ∷ []), s.holds);
  others = λ k i ne. grind (arith, has_append (complement k) a (m ∷ []), s.others k i ne);
}

-- it doesn't close a chain, and gives nothing new
spent_closes : (live : Numbered) (a : List Literal) (h : ℕ) (l : Literal) → IsSpent live a h l → hint live a h ≡ closes → has_pair a ≡ true
spent_closes live a h l s e =
    let r = found_none live a h (clause_of live h) refl e in
    let both : Some s.clause ≡ Some r.clause = sym s.found ∙ r.found in
    let is : s.clause ≡ r.clause = cc in
    pair_from a (l, s.holds, open_none a r.clause r.is_open l (subst (λ c. has l c ≡ true) is s.within))

spent_adds : (live : Numbered) (a : List Literal) (h : ℕ) (l m : Literal) → IsSpent live a h l → hint live a h ≡ adds m → has m a ≡ true
spent_adds live a h l m s e =
    let r = found_one live a h m (clause_of live h) refl e in
    let both : Some r.clause ≡ Some s.clause = sym r.found ∙ s.found in
    let is : r.clause ≡ s.clause = cc in
    let there : has m s.clause ≡ true = subst (λ c. has m c ≡ true) is (open_one a r.clause m r.is_open) in
    by_test (same m l)
    (λ y. let one : m ≡ l = grind (arith, same_tells m l) in subst (λ k. has k a ≡ true) (sym one) s.holds)
    (λ y. let ne : m ≢ l = grind (arith, same_tells m l) in
    let left : has m (open_literals a r.clause) ≡ true = ap (has m) r.is_open ∙ grind (arith, same_tells m m) in
    absurd (grind (arith, left, s.others m there ne, has_kept (λ k. not (has (complement k) a)) m r.clause)))

-- a lean chain goes on as its first hint says
none_after : (h : ℕ) (hs : List ℕ) → no_more hs ≡ true → holds_number h hs ≡ false
none_after h [] e = refl
none_after h (k ∷ ks) e = absurd cc

lean_first : (live : Numbered) (a : List Literal) (h : ℕ) (l : Literal) (hs : List ℕ) (r : HintEnd) → hint live a h ≡ r → IsSpent live a h l → has_pair a ≡ false
    → elim r [ closes ↦ no_more hs | adds l ↦ not (has l a) && stands_in live (complement l) hs && is_lean live (a ++ l ∷ []) hs | misleads x ↦ false ] ≡ true → ⊥
lean_first live a h l hs closes e s n g = absurd (grind (arith, spent_closes live a h l s e))
lean_first live a h l hs (adds m) e s n g = absurd (grind (arith, spent_adds live a h l m s e))
lean_first live a h l hs (misleads x) e s n g = absurd cc

lean_past : (live : Numbered) (a : List Literal) (h : ℕ) (l : Literal) (hs : List ℕ) → is_lean live a hs ≡ true → IsSpent live a h l → holds_number h hs ≡ false
lean_past live a h l [] g s = refl
lean_past live a h l (k ∷ ks) g s =
    let n : has_pair a ≡ false = grind arith in
    by_test (k == h)
    (λ e.
    let is : k ≡ h = grind (arith, nat_tests) in
    let first : is_lean live a (h ∷ ks) ≡ true = subst (λ x. is_lean live a (x ∷ ks) ≡ true) is g in
    absurd (lean_first live a h l ks (hint live a h) refl s n (rw (n, is_lean) at first)))
    (λ e. rw e (at (hint live a k) (rw (n, is_lean) at g) (λ m f. lean_past live (a ++ m ∷ []) h l ks f (spent_more live a h l m s))))
  where
    at : (r : HintEnd) → elim r [ closes ↦ no_more ks | adds l ↦ not (has l a) && stands_in live (complement l) ks && is_lean live (a ++ l ∷ []) ks | misleads x ↦ false ] ≡ true
        → ((m : Literal) → is_lean live (a ++ m ∷ []) ks ≡ true → holds_number h ks ≡ false) → holds_number h ks ≡ false
    at closes f rest = none_after h ks f
    at (adds m) f rest = rest m (grind arith)
    at (misleads x) f rest = absurd cc

-- no number twice
absent : (h : ℕ) (hs : List ℕ) → holds_number h hs ≡ false → AllByRecursion (λ k. eqb h k ≡ false) hs
absent h [] e = tt
absent h (k ∷ ks) e = (grind (arith, nat_tests), absent h ks (grind arith))

distinct_none : IsDistinct eqb []
unfolding IsDistinct
distinct_none = tt

lean_distinct : (live : Numbered) (a : List Literal) (hs : List ℕ) → is_lean live a hs ≡ true → IsDistinct eqb hs
lean_distinct live a [] g = distinct_none
lean_distinct live a (k ∷ ks) g =
    let n : has_pair a ≡ false = grind arith in
    at ks (hint live a k) refl (rw (n, is_lean) at g) (λ l f. lean_distinct live (a ++ l ∷ []) ks f)
  where
    at : (hs : List ℕ) (r : HintEnd) → hint live a k ≡ r
        → elim r [ closes ↦ no_more hs | adds l ↦ not (has l a) && stands_in live (complement l) hs && is_lean live (a ++ l ∷ []) hs | misleads x ↦ false ] ≡ true
        → ((l : Literal) → is_lean live (a ++ l ∷ []) hs ≡ true → IsDistinct eqb hs) → IsDistinct eqb (k ∷ hs)
    at [] r e f rest = IsDistinct-cons eqb k [] tt distinct_none
    at (h ∷ hs) closes e f rest = absurd cc
    at (h ∷ hs) (adds l) e f rest =
        let lean : is_lean live (a ++ l ∷ []) (h ∷ hs) ≡ true = grind arith in
        IsDistinct-cons eqb k (h ∷ hs) (absent k (h ∷ hs) (lean_past live (a ++ l ∷ []) k l (h ∷ hs) lean (spent_by live a k l e))) (rest l lean)
    at (h ∷ hs) (misleads x) e f rest = absurd cc

held_of_any : (q : ℕ) (hs : List ℕ) → list_any (eqb q) hs ≡ true → holds_number q hs ≡ true
held_of_any q [] e = absurd cc
held_of_any q (k ∷ ks) e = by_test (k == q) (λ y. grind arith) (λ y. grind (arith, nat_tests, held_of_any q ks))

-- distinct numbers from 1 on and below a limit are fewer than that
few : (hs : List ℕ) (n : ℕ) → IsDistinct eqb hs → ((q : ℕ) → holds_number q hs ≡ true → 0 < q) → ((q : ℕ) → holds_number q hs ≡ true → q < n) → 0 < n → length hs < n
few hs n d low high some =
    let none : holds_number 0 hs ≡ false = by_test (holds_number 0 hs) (λ y. absurd (omega (arith, low 0 y))) (λ y. y) in
    let le : length (0 ∷ hs) ≤ n = length-le_from_distinct_below (0 ∷ hs) n (IsDistinct-cons eqb 0 hs (absent 0 hs none) d) at in
    omega (arith, le)
  where
    at : (q : ℕ) → list_any (eqb q) (0 ∷ hs) ≡ true → q < n
    at q m = by_test (q == 0) (λ y. let z : q ≡ 0 = grind (arith, nat_tests) in omega (arith, z, some)) (λ y. high q (held_of_any q hs (grind (arith, nat_tests))))

each_below : (n : ℕ) (hs : List ℕ) → ((i : ℕ) → get_or hs i 0 < n) → (q : ℕ) → holds_number q hs ≡ true → q < n
each_below n [] f q e = absurd cc
each_below n (k ∷ ks) f q e = by_test (k == q)
    (λ y. let is : k ≡ q = grind (arith, nat_tests) in subst (λ x. x < n) is (f 0))
    (λ y. each_below n ks (λ i. f (suc i)) q (grind arith))

pub lean_short : (live : Numbered) (a : List Literal) (hs : List ℕ) (n : ℕ) → is_lean live a hs ≡ true → ((q : ℕ) → holds_number q hs ≡ true → 0 < q) → ((i : ℕ) → get_or hs i 0 < n) → 0 < n → length hs < n
lean_short live a hs n g low high some = few hs n (lean_distinct live a hs g) low (each_below n hs high) some
