-- Hints, reductions and refutations see a clause as a set.
use Rattle.std.proofs.Common.{◌≡◌, ℕ, Bool, true, false, not, ◌||◌, ◌==◌, cond, List, [], ◌∷◌, ◌++◌, Option, Some, None, refl, sym, ◌∙◌, ap, subst, arith}
use Rattle.std.specs.Prelude.{filter, filter_map}
use Rattle.std.specs.List.{list_any, cons_option}
use Rattle.sr_base.specs.Literal.{Literal, complement, same, has, distinct, NoRepeats, SameSet, compl}
use Rattle.sr_base.proofs.Literals.{same_tells, complement_twice, has_append, not_has_filter, same_bool}
use Rattle.sr_model.specs.Substitution.{Substitution, image, is_image, is_yes, literal_of_image, image_literals, has_pair, untouched, satisfied, left, is_touched, is_satisfied, reduction}
use Rattle.sr_model.specs.Chain.{Numbered, clause_of, open_literals, HintEnd, closes, adds, misleads, hint_of_open, hint_of_clause, hint, ChainEnd, closed, unclosed, faulty, closes_before, chain}
use Rattle.sr_trimming.specs.Reordered.{IsReordered, AreReordered, EndAlike, ReducedAlike}
use Rattle.sr_model.proofs.Soundness.{by_test, has_kept}
use Rattle.sr_model.proofs.Chains.{pair_tells, pair_from}

-- sets
pub same_sym : (a b : List Literal) → SameSet a b → SameSet b a
same_sym a b s l = sym (s l)

pub same_append : (a b c d : List Literal) → SameSet a b → SameSet c d → SameSet (a ++ c) (b ++ d)
same_append a b c d s t l = grind (arith, has_append l a c, has_append l b d, s l, t l)

same_complement : (k l : Literal) → same (complement k) l ≡ same k (complement l)
same_complement k l = same_bool (same (complement k) l) (same k (complement l))
    (λ e. let is : complement k ≡ l = grind (arith, same_tells (complement k) l) in subst (λ j. same k (complement j) ≡ true) is (rw (complement_twice k) (grind (arith, same_tells k k))))
    (λ e. let is : k ≡ complement l = grind (arith, same_tells k (complement l)) in subst (λ j. same (complement j) l ≡ true) (sym is) (rw (complement_twice l) (grind (arith, same_tells l l))))

pub has_compl : (l : Literal) (ls : List Literal) → has l (compl ls) ≡ has (complement l) ls
has_compl l [] = refl
has_compl l (k ∷ ls) = grind (arith, same_complement k l, has_compl l ls)

pub same_compl : (a b : List Literal) → SameSet a b → SameSet (compl a) (compl b)
same_compl a b s l = has_compl l a ∙ s (complement l) ∙ sym (has_compl l b)

any_tells : (p : Literal → Bool) (c : List Literal) → list_any p c ≡ true → (l : Literal) × (has l c ≡ true) × (p l ≡ true)
any_tells p [] h = absurd cc
any_tells p (k ∷ c) h = by_test (p k)
    (λ e. (k, grind (arith, same_tells k k), e))
    (λ e. let r = any_tells p c (grind arith) in (r.0, grind (arith, r.1), r.2))

any_from : (p : Literal → Bool) (c : List Literal) (l : Literal) → has l c ≡ true → p l ≡ true → list_any p c ≡ true
any_from p [] l h e = absurd cc
any_from p (k ∷ c) l h e = by_test (same k l)
    (λ y. let is : k ≡ l = grind (arith, same_tells k l) in let here : p k ≡ true = ap p is ∙ e in grind arith)
    (λ y. grind (arith, any_from p c l))

pub any_same : (p : Literal → Bool) (c d : List Literal) → SameSet c d → list_any p c ≡ list_any p d
any_same p c d s = same_bool (list_any p c) (list_any p d)
    (λ e. let r = any_tells p c e in any_from p d r.0 (sym (s r.0) ∙ r.1) r.2)
    (λ e. let r = any_tells p d e in any_from p c r.0 (s r.0 ∙ r.1) r.2)

pub pair_same : (a b : List Literal) → SameSet a b → has_pair a ≡ has_pair b
pair_same a b s = same_bool (has_pair a) (has_pair b) (over a b s) (over b a (same_sym a b s))
  where
    over : (a b : List Literal) → SameSet a b → has_pair a ≡ true → has_pair b ≡ true
    over a b s e = let r = pair_tells a e in pair_from b (r.0, sym (s r.0) ∙ r.1, sym (s (complement r.0)) ∙ r.2)

pub has_distinct : (k : Literal) (ls : List Literal) → has k (distinct ls) ≡ has k ls
has_distinct k [] = refl
has_distinct k (l ∷ ls) = grind (arith, has_kept (λ j. not (same l j)) k (distinct ls), has_distinct k ls)

-- the literals of images
abbrev is_literal : Literal → Option Literal → Bool
is_literal k None = false
is_literal k (Some j) = same j k

has_images : (f : Literal → Option Literal) (k : Literal) (d : List Literal) → has k (filter_map f d) ≡ list_any (λ l. is_literal k (f l)) d
has_images f k [] = refl
has_images f k (l ∷ d) = at (f l) (has_images f k d)
  where
    at : (o : Option Literal) → has k (filter_map f d) ≡ list_any (λ l. is_literal k (f l)) d → has k (cons_option o (filter_map f d)) ≡ (is_literal k o || list_any (λ l. is_literal k (f l)) d)
    at None r = r
    at (Some j) r = ap (λ x. same j k || x) r

pub images_same : (w : Substitution) (c d : List Literal) → SameSet c d → SameSet (image_literals w c) (image_literals w d)
images_same w c d s k =
    has_images (λ l. literal_of_image (image w l)) k c ∙ any_same (λ l. is_literal k (literal_of_image (image w l))) c d s ∙ sym (has_images (λ l. literal_of_image (image w l)) k d)

pub reduction_same : (w : Substitution) (c d : List Literal) → SameSet c d → ReducedAlike (reduction w c) (reduction w d)
reduction_same w c d s = at (is_touched w c) (is_touched w d) (is_satisfied w c) (is_satisfied w d)
    (any_same (λ l. not (is_image (image w l) l)) c d s)
    (grind (arith, any_same (λ l. is_yes (image w l)) c d s, pair_same (image_literals w c) (image_literals w d) (images_same w c d s)))
  where
    there : SameSet (distinct (image_literals w c)) (distinct (image_literals w d))
    there l = has_distinct l (image_literals w c) ∙ images_same w c d s l ∙ sym (has_distinct l (image_literals w d))

    at : (t u y z : Bool) → t ≡ u → y ≡ z
        → ReducedAlike (cond t (cond y satisfied (left (distinct (image_literals w c)))) untouched) (cond u (cond z satisfied (left (distinct (image_literals w d)))) untouched)
    at true true true true e g = tt
    at true true false false e g = there
    at false false y z e g = tt
    at true false y z e g = absurd cc
    at false true y z e g = absurd cc
    at true true true false e g = absurd cc
    at true true false true e g = absurd cc

-- hints
pub no_repeats_kept : (p : Literal → Bool) (c : List Literal) → NoRepeats c → NoRepeats (filter p c)
no_repeats_kept p [] n = tt
no_repeats_kept p (l ∷ c) n = by_test (p l)
    (λ e. rw e (not_has_filter l l c p n.0, no_repeats_kept p c n.1))
    (λ e. rw e (no_repeats_kept p c n.1))

few_same : (h : ℕ) (xs ys : List Literal) → NoRepeats xs → NoRepeats ys → SameSet xs ys → hint_of_open h xs ≡ hint_of_open h ys
few_same h [] [] n m s = refl
few_same h [] (k ∷ ys) n m s = absurd (grind (arith, s k, same_tells k k))
few_same h (l ∷ xs) [] n m s = absurd (grind (arith, s l, same_tells l l))
few_same h (l ∷ []) (k ∷ []) n m s = let is : l ≡ k = grind (arith, s l, same_tells l l, same_tells k l) in ap adds is
few_same h (l ∷ []) (k ∷ j ∷ ys) n m s = absurd (grind (arith, s k, s j, same_tells k k, same_tells j j, same_tells l k, same_tells l j, same_tells k j, m.0))
few_same h (l ∷ i ∷ xs) (k ∷ []) n m s = absurd (grind (arith, s l, s i, same_tells l l, same_tells i i, same_tells k l, same_tells k i, same_tells l i, n.0))
few_same h (l ∷ i ∷ xs) (k ∷ j ∷ ys) n m s = refl

open_same : (h : ℕ) (a b c d : List Literal) → SameSet a b → IsReordered c d → hint_of_open h (open_literals a c) ≡ hint_of_open h (open_literals b d)
open_same h a b c d s r = few_same h (open_literals a c) (open_literals b d)
    (no_repeats_kept (λ l. not (has (complement l) a)) c r.none_twice)
    (no_repeats_kept (λ l. not (has (complement l) b)) d r.none_twice_in_other)
    (λ l. grind (arith, has_kept (λ l. not (has (complement l) a)) l c, has_kept (λ l. not (has (complement l) b)) l d, s (complement l), r.same_literals l))

-- the clauses of a number
abbrev pub FoundAlike : Option (List Literal) → Option (List Literal) → Type 0
FoundAlike None None = Unit {0}
FoundAlike None (Some d) = ⊥
FoundAlike (Some c) None = ⊥
FoundAlike (Some c) (Some d) = IsReordered c d

pub found_same : (live mem : Numbered) (h : ℕ) → AreReordered live mem → FoundAlike (clause_of live h) (clause_of mem h)
found_same [] [] h r = tt
found_same [] (q ∷ qs) h r = absurd r
found_same (p ∷ ps) [] h r = absurd r
found_same (p ∷ ps) (q ∷ qs) h r = at (p.0 == h) (q.0 == h) (ap (λ n. n == h) r.0) (found_same ps qs h r.2)
  where
    at : (t u : Bool) → t ≡ u → FoundAlike (clause_of ps h) (clause_of qs h) → FoundAlike (cond t (Some p.1) (clause_of ps h)) (cond u (Some q.1) (clause_of qs h))
    at true true e g = r.1
    at false false e g = g
    at true false e g = absurd cc
    at false true e g = absurd cc

pub hint_same : (live mem : Numbered) (a b : List Literal) (h : ℕ) → AreReordered live mem → SameSet a b → hint live a h ≡ hint mem b h
hint_same live mem a b h r s = at (clause_of live h) (clause_of mem h) (found_same live mem h r)
  where
    at : (x y : Option (List Literal)) → FoundAlike x y → hint_of_clause a h x ≡ hint_of_clause b h y
    at None None f = refl
    at None (Some d) f = absurd f
    at (Some c) None f = absurd f
    at (Some c) (Some d) f = open_same h a b c d s f

-- chains, one hint at a time
pub chain_with_pair : (strict : Bool) (live : Numbered) (a : List Literal) (hs : List ℕ) → has_pair a ≡ true → chain strict live a hs ≡ closes_before strict hs
chain_with_pair strict live a [] t = rw (t, chain) refl
chain_with_pair strict live a (h ∷ hs) t = rw (t, chain) refl

pub chain_at_end : (strict : Bool) (live : Numbered) (a : List Literal) → has_pair a ≡ false → chain strict live a [] ≡ unclosed a
chain_at_end strict live a f = rw (f, chain) refl

abbrev pub after_hint_end : Bool → Numbered → List Literal → List ℕ → HintEnd → ChainEnd
after_hint_end strict live a hs closes = closes_before strict hs
after_hint_end strict live a hs (adds l) = chain strict live (a ++ l ∷ []) hs
after_hint_end strict live a hs (misleads x) = faulty x

pub chain_next : (strict : Bool) (live : Numbered) (a : List Literal) (h : ℕ) (hs : List ℕ) → has_pair a ≡ false → chain strict live a (h ∷ hs) ≡ after_hint_end strict live a hs (hint live a h)
chain_next strict live a h hs f = rw (f, chain) (at (hint live a h))
  where
    at : (r : HintEnd) → elim r [ closes ↦ closes_before strict hs | adds l ↦ chain strict live (a ++ l ∷ []) hs | misleads x ↦ faulty x ] ≡ after_hint_end strict live a hs r
    at closes = refl
    at (adds l) = refl
    at (misleads x) = refl

alike_by : (x y z w : ChainEnd) → x ≡ z → y ≡ w → EndAlike z w → EndAlike x y
alike_by x y z w e g h = subst (λ u. EndAlike u y) (sym e) (subst (λ u. EndAlike z u) (sym g) h)

closing_alike : (strict : Bool) (hs : List ℕ) → EndAlike (closes_before strict hs) (closes_before strict hs)
closing_alike strict [] = tt
closing_alike true (h ∷ hs) = refl
closing_alike false (h ∷ hs) = tt

pub chain_same : (strict : Bool) (live mem : Numbered) (a b : List Literal) (hints : List ℕ) → AreReordered live mem → SameSet a b → EndAlike (chain strict live a hints) (chain strict mem b hints)
chain_same strict live mem a b [] r s = by_test (has_pair a)
    (λ t. alike_by (chain strict live a []) (chain strict mem b []) closed closed (chain_with_pair strict live a [] t) (chain_with_pair strict mem b [] (sym (pair_same a b s) ∙ t)) tt)
    (λ f. alike_by (chain strict live a []) (chain strict mem b []) (unclosed a) (unclosed b) (chain_at_end strict live a f) (chain_at_end strict mem b (sym (pair_same a b s) ∙ f)) s)
chain_same strict live mem a b (h ∷ hs) r s = by_test (has_pair a)
    (λ t. alike_by (chain strict live a (h ∷ hs)) (chain strict mem b (h ∷ hs)) (closes_before strict (h ∷ hs)) (closes_before strict (h ∷ hs))
    (chain_with_pair strict live a (h ∷ hs) t) (chain_with_pair strict mem b (h ∷ hs) (sym (pair_same a b s) ∙ t)) (closing_alike strict (h ∷ hs)))
    (λ f. alike_by (chain strict live a (h ∷ hs)) (chain strict mem b (h ∷ hs)) (after_hint_end strict live a hs (hint live a h)) (after_hint_end strict mem b hs (hint live a h))
    (chain_next strict live a h hs f)
    (chain_next strict mem b h hs (sym (pair_same a b s) ∙ f) ∙ ap (after_hint_end strict mem b hs) (sym (hint_same live mem a b h r s)))
    (at (hint live a h) (λ l. chain_same strict live mem (a ++ l ∷ []) (b ++ l ∷ []) hs r (same_append a b (l ∷ []) (l ∷ []) s (λ k. refl)))))
  where
    at : (x : HintEnd) → ((l : Literal) → EndAlike (chain strict live (a ++ l ∷ []) hs) (chain strict mem (b ++ l ∷ []) hs)) → EndAlike (after_hint_end strict live a hs x) (after_hint_end strict mem b hs x)
    at closes rest = closing_alike strict hs
    at (adds l) rest = rest l
    at (misleads x) rest = refl
