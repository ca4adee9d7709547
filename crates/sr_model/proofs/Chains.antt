-- Chains of hints: one that closes refutes, and what an unclosed one reaches holds.
use Rattle.std.proofs.Common.{◌≡◌, ◌≢◌, inl, inr, ℕ, Bool, true, false, not, ◌==◌, List, [], ◌∷◌, ◌++◌, Option, Some, None, refl, sym, ◌∙◌, ap, subst, arith}
use Rattle.sr_base.specs.Literal.{Literal, complement, same, has}
use Rattle.sr_base.proofs.Literals.{same_tells, has_append}
use Rattle.sr_model.specs.Assignment.{makes_true, satisfies, satisfies_all, makes_all_true}
use Rattle.sr_model.specs.Refutation.{IsClosedFor, IsClosed, Includes, HoldsPair, has_empty, Refutes}
use Rattle.sr_model.specs.Substitution.{has_complement, has_pair}
use Rattle.sr_model.specs.Chain.{Numbered, clauses, clause_of, open_literals, HintEnd, closes, adds, misleads, hint_of_open, hint_of_clause, hint, closed, unclosed, faulty, closes_before, chain}
use Rattle.sr_model.proofs.Soundness.{by_test, has_kept, complement_is_other, true_literal, true_of_all, all_true-append}

-- a set closed under live clauses is closed for each of them
pub closed_at : (live : Numbered) (h : ℕ) (c b : List Literal) → clause_of live h ≡ Some c → IsClosed b (clauses live) → IsClosedFor b c
closed_at [] h c b e cl = absurd cc
closed_at (p ∷ ps) h c b e cl = by_test (p.0 == h)
    (λ t. let here : Some p.1 ≡ Some c = rw t at e in let is : p.1 ≡ c = cc in subst (λ d. IsClosedFor b d) is cl.0)
    (λ f. closed_at ps h c b (rw f at e) cl.1)

-- an assignment that satisfies live clauses satisfies each of them
pub satisfies_at : (t : List ℕ) (live : Numbered) (h : ℕ) (c : List Literal) → clause_of live h ≡ Some c → satisfies_all t (clauses live) ≡ true → satisfies t c ≡ true
satisfies_at t [] h c e s = absurd cc
satisfies_at t (p ∷ ps) h c e s = by_test (p.0 == h)
    (λ y. let here : Some p.1 ≡ Some c = rw y at e in let is : p.1 ≡ c = cc in subst (λ d. satisfies t d ≡ true) is (grind arith))
    (λ f. satisfies_at t ps h c (rw f at e) (grind arith))

pub empty_at : (live : Numbered) (h : ℕ) → clause_of live h ≡ Some [] → has_empty (clauses live) ≡ true
empty_at [] h e = absurd cc
empty_at ((n, []) ∷ ps) h e = refl
empty_at ((n, l ∷ ls) ∷ ps) h e = by_test (n == h)
    (λ t. let here : Some (l ∷ ls) ≡ Some [] = rw t at e in absurd cc)
    (λ f. empty_at ps h (rw f at e))

-- a list that has the complement of a literal of another, and the other way about
pub complement_tells : (ls b : List Literal) → has_complement ls b ≡ true → (l : Literal) × (has l ls ≡ true) × (has (complement l) b ≡ true)
complement_tells [] b h = absurd cc
complement_tells (l ∷ ls) b h = by_test (has (complement l) b)
    (λ t. (l, grind (arith, same_tells l l), t))
    (λ f. let r = complement_tells ls b (grind arith) in (r.0, grind (arith, r.1), r.2))

pub complement_from : (ls b : List Literal) (l : Literal) → has l ls ≡ true → has (complement l) b ≡ true → has_complement ls b ≡ true
complement_from [] b l h c = absurd cc
complement_from (k ∷ ls) b l h c = by_test (same k l)
    (λ e. let is : k ≡ l = grind (arith, same_tells k l) in let g : has (complement k) b ≡ true = subst (λ j. has (complement j) b ≡ true) (sym is) c in grind arith)
    (λ e. grind (arith, complement_from ls b l))

pub pair_tells : (a : List Literal) → has_pair a ≡ true → HoldsPair a
pair_tells a h = complement_tells a a h

pub pair_from : (a : List Literal) → HoldsPair a → has_pair a ≡ true
pair_from a p = complement_from a a p.0 p.1 p.2

pub pair_refutes : (a : List Literal) (s : List (List Literal)) → has_pair a ≡ true → (b : List Literal) → Includes a b → IsClosed b s → HoldsPair b
pair_refutes a s h b inc cl = let r = complement_tells a a h in (r.0, inc r.0 r.1, inc (complement r.0) r.2)

-- the open literals of a clause, where there are none or one
pub open_none : (a c : List Literal) → open_literals a c ≡ [] → (k : Literal) → has k c ≡ true → has (complement k) a ≡ true
open_none a c e k h = let n : has k (open_literals a c) ≡ false = ap (has k) e in grind (arith, has_kept (λ l. not (has (complement l) a)) k c)

pub open_one : (a c : List Literal) (l : Literal) → open_literals a c ≡ l ∷ [] → has l c ≡ true
open_one a c l e = let n : has l (open_literals a c) ≡ has l (l ∷ []) = ap (has l) e in grind (arith, has_kept (λ l. not (has (complement l) a)) l c, same_tells l l)

pub open_rest : (a c : List Literal) (l : Literal) → open_literals a c ≡ l ∷ [] → (k : Literal) → has k c ≡ true → k ≢ l → has (complement k) a ≡ true
open_rest a c l e k h ne = let n : has k (open_literals a c) ≡ has k (l ∷ []) = ap (has k) e in grind (arith, has_kept (λ l. not (has (complement l) a)) k c, same_tells l k)

-- what a hint that closes or adds has found
pub record FoundOpen (live : Numbered) (a : List Literal) (h : ℕ) (left : List Literal) : Type 0 where
  pub clause : List Literal
  pub found : clause_of live h ≡ Some clause
  pub is_open : open_literals a clause ≡ left

pub found_none : (live : Numbered) (a : List Literal) (h : ℕ) (o : Option (List Literal)) → clause_of live h ≡ o → hint_of_clause a h o ≡ closes → FoundOpen live a h []
found_none live a h None e r = absurd cc
found_none live a h (Some c) e r = at (open_literals a c) refl r
  where
    at : (ls : List Literal) → open_literals a c ≡ ls → hint_of_open h ls ≡ closes → FoundOpen live a h []
    at [] o x = record { clause = c; found = e; is_open = o }
    at (k ∷ []) o x = absurd cc
    at (k ∷ m ∷ ls) o x = absurd cc

pub found_one : (live : Numbered) (a : List Literal) (h : ℕ) (l : Literal) (o : Option (List Literal)) → clause_of live h ≡ o → hint_of_clause a h o ≡ adds l → FoundOpen live a h (l ∷ [])
found_one live a h l None e r = absurd cc
found_one live a h l (Some c) e r = at (open_literals a c) refl r
  where
    at : (ls : List Literal) → open_literals a c ≡ ls → hint_of_open h ls ≡ adds l → FoundOpen live a h (l ∷ [])
    at [] o x = absurd cc
    at (k ∷ []) o x = let same_one : k ≡ l = cc in record { clause = c; found = e; is_open = o ∙ ap (λ k. k ∷ []) same_one }
    at (k ∷ m ∷ ls) o x = absurd cc

pub closes_refutes : (live : Numbered) (a : List Literal) (h : ℕ) → hint live a h ≡ closes → Refutes (clauses live) a
closes_refutes live a h e = at (found_none live a h (clause_of live h) refl e)
  where
    go : (c : List Literal) → clause_of live h ≡ Some c → open_literals a c ≡ [] → Refutes (clauses live) a
    go [] f o = inl (empty_at live h f)
    go (l ∷ ls) f o = inr (λ b inc cl.
        let there : has l (l ∷ ls) ≡ true = grind (arith, same_tells l l) in
        (l, closed_at live h (l ∷ ls) b f cl l there (λ k i ne. inc (complement k) (open_none a (l ∷ ls) o k i)), inc (complement l) (open_none a (l ∷ ls) o l there)))

    at : FoundOpen live a h [] → Refutes (clauses live) a
    at r = go r.clause r.found r.is_open

-- a hint that adds a literal, among more literals
pub adds_refutes_more : (live : Numbered) (a x : List Literal) (h : ℕ) (l : Literal) → hint live a h ≡ adds l → Refutes (clauses live) ((a ++ l ∷ []) ++ x) → Refutes (clauses live) (a ++ x)
adds_refutes_more live a x h l e (inl y) = inl y
adds_refutes_more live a x h l e (inr f) = inr (λ b inc cl.
    let r = found_one live a h l (clause_of live h) refl e in
    let from_a : Includes a b = λ k i. inc k (grind (arith, has_append k a x)) in
    let new : has l b ≡ true = closed_at live h r.clause b r.found cl l (open_one a r.clause l r.is_open) (λ k i ne. from_a (complement k) (open_rest a r.clause l r.is_open k i ne)) in
    f b (λ k i. grind (arith, has_append k (a ++ l ∷ []) x, has_append k a (l ∷ []), has_append k a x, same_tells l k, inc k)) cl)

pub adds_refutes : (live : Numbered) (a : List Literal) (h : ℕ) (l : Literal) → hint live a h ≡ adds l → Refutes (clauses live) (a ++ l ∷ []) → Refutes (clauses live) a
adds_refutes live a h l e (inl x) = inl x
adds_refutes live a h l e (inr f) = inr (λ b inc cl.
    let r = found_one live a h l (clause_of live h) refl e in
    let new : has l b ≡ true = closed_at live h r.clause b r.found cl l (open_one a r.clause l r.is_open) (λ k i ne. inc (complement k) (open_rest a r.clause l r.is_open k i ne)) in
    f b (λ k i. grind (arith, has_append k a (l ∷ []), same_tells l k, inc k)) cl)

-- a literal that a hint adds is true where the clauses and what was assumed are
pub added_is_true : (t : List ℕ) (live : Numbered) (a : List Literal) (h : ℕ) (l : Literal) → hint live a h ≡ adds l → satisfies_all t (clauses live) ≡ true → makes_all_true t a ≡ true → makes_true t l ≡ true
added_is_true t live a h l e sat tr =
    let r = found_one live a h l (clause_of live h) refl e in
    let w = true_literal t r.clause (satisfies_at t live h r.clause r.found sat) in
    by_test (same w.0 l)
    (λ y. let is : w.0 ≡ l = grind (arith, same_tells w.0 l) in subst (λ k. makes_true t k ≡ true) is w.2)
    (λ y. let ne : w.0 ≢ l = grind (arith, same_tells w.0 l) in
    let o : makes_true t (complement w.0) ≡ true = true_of_all t a (complement w.0) tr (open_rest a r.clause l r.is_open w.0 w.1 ne) in
    absurd (grind (arith, complement_is_other t w.0, w.2)))

-- a chain that closes before some hints isn't left open
pub closing_is_not_open : (strict : Bool) (hs : List ℕ) (b : List Literal) → closes_before strict hs ≡ unclosed b → ⊥
closing_is_not_open strict [] b e = cc
closing_is_not_open true (h ∷ hs) b e = cc
closing_is_not_open false (h ∷ hs) b e = cc

after_hint : (strict : Bool) (live : Numbered) (a : List Literal) (h : ℕ) (hs : List ℕ) (r : HintEnd) → hint live a h ≡ r
    → elim r [ closes ↦ closes_before strict hs | adds l ↦ chain strict live (a ++ l ∷ []) hs | misleads x ↦ faulty x ] ≡ closed
    → ((l : Literal) → chain strict live (a ++ l ∷ []) hs ≡ closed → Refutes (clauses live) (a ++ l ∷ [])) → Refutes (clauses live) a
after_hint strict live a h hs closes e c rest = closes_refutes live a h e
after_hint strict live a h hs (adds l) e c rest = adds_refutes live a h l e (rest l c)
after_hint strict live a h hs (misleads x) e c rest = absurd cc

pub closed_refutes : (strict : Bool) (live : Numbered) (a : List Literal) (hints : List ℕ) → chain strict live a hints ≡ closed → Refutes (clauses live) a
closed_refutes strict live a [] e = by_test (has_pair a) (λ t. inr (pair_refutes a (clauses live) t)) (λ f. let g : unclosed a ≡ closed = rw (f, chain) at e in absurd cc)
closed_refutes strict live a (h ∷ hs) e = by_test (has_pair a) (λ t. inr (pair_refutes a (clauses live) t))
    (λ f. after_hint strict live a h hs (hint live a h) refl (rw (f, chain) at e) (λ l. closed_refutes strict live (a ++ l ∷ []) hs))

-- what holds of the end of an unclosed chain, where a hint that adds a literal hands it back
pub along : (P : List Literal → Type 0) (strict : Bool) (live : Numbered) → ((a : List Literal) (h : ℕ) (l : Literal) → hint live a h ≡ adds l → P (a ++ l ∷ []) → P a)
    → (a b : List Literal) (hints : List ℕ) → chain strict live a hints ≡ unclosed b → P b → P a
along P strict live back a b [] e p = by_test (has_pair a)
    (λ t. let g : closed ≡ unclosed b = rw (t, chain) at e in absurd cc)
    (λ f. let g : unclosed a ≡ unclosed b = rw (f, chain) at e in let is : a ≡ b = cc in subst P (sym is) p)
along P strict live back a b (h ∷ hs) e p = by_test (has_pair a)
    (λ t. let g : closes_before strict (h ∷ hs) ≡ unclosed b = rw (t, chain) at e in absurd (closing_is_not_open strict (h ∷ hs) b g))
    (λ f. at (hint live a h) refl (rw (f, chain) at e) (λ l c. along P strict live back (a ++ l ∷ []) b hs c p))
  where
    at : (r : HintEnd) → hint live a h ≡ r → elim r [ closes ↦ closes_before strict hs | adds l ↦ chain strict live (a ++ l ∷ []) hs | misleads x ↦ faulty x ] ≡ unclosed b
        → ((l : Literal) → chain strict live (a ++ l ∷ []) hs ≡ unclosed b → P (a ++ l ∷ [])) → P a
    at closes i c rest = absurd (closing_is_not_open strict hs b c)
    at (adds l) i c rest = back a h l i (rest l c)
    at (misleads x) i c rest = absurd cc

-- what is refuted from the end of an unclosed chain is refuted from its start
pub unclosed_refutes : (strict : Bool) (live : Numbered) (a b x : List Literal) (hints : List ℕ) → chain strict live a hints ≡ unclosed b → Refutes (clauses live) (b ++ x) → Refutes (clauses live) (a ++ x)
unclosed_refutes strict live a b x hints e r = along (λ a. Refutes (clauses live) (a ++ x)) strict live (λ a h l i. adds_refutes_more live a x h l i) a b hints e r

pub unclosed_keeps : (strict : Bool) (live : Numbered) (a b : List Literal) (hints : List ℕ) → chain strict live a hints ≡ unclosed b
    → (t : List ℕ) → satisfies_all t (clauses live) ≡ true → makes_all_true t a ≡ true → makes_all_true t b ≡ true
unclosed_keeps strict live a b hints e t sat =
    along (λ x. makes_all_true t x ≡ true → makes_all_true t b ≡ true) strict live
    (λ x h l i k tr. k (grind (arith, all_true-append t x (l ∷ []), added_is_true t live x h l i sat tr)))
    a b hints e (λ tr. tr)
