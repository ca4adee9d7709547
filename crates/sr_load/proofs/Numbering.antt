-- Clauses by number.
use Rattle.std.proofs.Common.{◌≡◌, ◌≢◌, ◌<◌, ◌≤◌, ◌+◌, ◌⊎◌, inl, inr, ℕ, true, false, cond, ◌==◌, List, [], ◌∷◌, ◌++◌, Option, Some, None, refl, sym, ◌∙◌, ap, subst, arith, length}
use Rattle.std.specs.Prelude.{is_some}
use Rattle.std.proofs.lemmas.Bool.Decides.{nat_tests}
use Rattle.std.proofs.lemmas.Bool.{cases_eq}
use Rattle.std.proofs.lemmas.List.{length-append, append-nil}
use Rattle.sr_base.specs.Literal.{Literal}
use Rattle.sr_model.specs.Assignment.{holds_number}
use Rattle.sr_model.specs.Refutation.{is_empty}
use Rattle.sr_model.specs.Chain.{Numbered, clause_of}
use Rattle.sr_model.specs.Judging.{numbered_from, without}
use Rattle.sr_model.proofs.Soundness.{by_test}
use Rattle.sr_trimming.specs.Placing.{numbers}
use Rattle.sr_trimming.specs.Loading.{Done, joined, removed, passed, Standing, at_start, after_done, after_all}
use Rattle.sr_trimming.specs.From.{numbered_lemmas, all_loaded}
use Rattle.sr_load.specs.Numbers.{has_clause, IsOf}

pub by_eq : {P : Type 0} (a b : ℕ) → (a ≡ b → P) → (a ≢ b → P) → P
by_eq {P} a b f g = at (cases_eq a b)
  where
    at : (a ≡ b) ⊎ (a ≡ b → ⊥) → P
    at (inl e) = f e
    at (inr n) = g n

pub is_self : (m n : ℕ) → m ≡ n → (m == n) ≡ true
is_self m n e = grind (arith, nat_tests)

pub is_not : (m n : ℕ) → m ≢ n → (m == n) ≡ false
is_not m n e = grind (arith, nat_tests)

-- the clauses of lemmas
abbrev pub lemma_clauses : List Done → List (List Literal)
lemma_clauses [] = []
lemma_clauses (joined l ∷ ds) = l.clause ∷ lemma_clauses ds
lemma_clauses (removed k ∷ ds) = lemma_clauses ds
lemma_clauses (passed ∷ ds) = lemma_clauses ds

pub lemmas_numbered : (n : ℕ) (ds : List Done) → numbered_lemmas n ds ≡ numbered_from n (lemma_clauses ds)
lemmas_numbered n [] = refl
lemmas_numbered n (joined l ∷ ds) = ap (λ x. (n, l.clause) ∷ x) (lemmas_numbered (n + 1) ds)
lemmas_numbered n (removed k ∷ ds) = lemmas_numbered n ds
lemmas_numbered n (passed ∷ ds) = lemmas_numbered n ds

pub numbered_append : (n : ℕ) (xs ys : List (List Literal)) → numbered_from n (xs ++ ys) ≡ numbered_from n xs ++ numbered_from (length xs + n) ys
numbered_append n [] ys = ap (λ k. numbered_from k ys) (omega arith)
numbered_append n (x ∷ xs) ys = ap (λ z. (n, x) ∷ z) (numbered_append (n + 1) xs ys ∙ ap (λ k. numbered_from (n + 1) xs ++ numbered_from k ys) (omega arith))

pub lemma_clauses_append : (ds es : List Done) → lemma_clauses (ds ++ es) ≡ lemma_clauses ds ++ lemma_clauses es
lemma_clauses_append [] es = refl
lemma_clauses_append (joined l ∷ ds) es = ap (λ x. l.clause ∷ x) (lemma_clauses_append ds es)
lemma_clauses_append (removed k ∷ ds) es = lemma_clauses_append ds es
lemma_clauses_append (passed ∷ ds) es = lemma_clauses_append ds es

-- all clauses, in a row
abbrev pub row_of : List (List Literal) → List Done → List (List Literal)
row_of f ds = f ++ lemma_clauses ds

pub all_numbered : (f : List (List Literal)) (ds : List Done) → all_loaded f ds ≡ numbered_from 1 (row_of f ds)
all_numbered f ds = ap (λ x. numbered_from 1 f ++ x) (lemmas_numbered (length f + 1) ds) ∙ sym (numbered_append 1 f (lemma_clauses ds))

-- numbers that are found lie in the row
pub found_between : (k : ℕ) (cs : List (List Literal)) (n : ℕ) (c : List Literal) → clause_of (numbered_from k cs) n ≡ Some c → (k ≤ n) × (n < length cs + k)
found_between k [] n c e = absurd cc
found_between k (x ∷ cs) n c e = by_eq k n
    (λ z. (omega arith, omega arith))
    (λ z. let r = found_between (k + 1) cs n c (rw (is_not k n z) at e) in (omega (arith, r.0), omega (arith, r.1)))

pub found_within : (k : ℕ) (cs : List (List Literal)) (n : ℕ) → k ≤ n → n < length cs + k → (c : List Literal) × (clause_of (numbered_from k cs) n ≡ Some c)
found_within k [] n h l = absurd (omega arith)
found_within k (x ∷ cs) n h l = by_eq k n
    (λ z. (x, rw (is_self k n z) refl))
    (λ z. let r = found_within (k + 1) cs n (omega arith) (omega arith) in (r.0, rw (is_not k n z) r.1))

pub none_below : (k : ℕ) (cs : List (List Literal)) (n : ℕ) → n < k → clause_of (numbered_from k cs) n ≡ None
none_below k [] n h = refl
none_below k (x ∷ cs) n h = rw (is_not k n (λ z. omega arith)) (none_below (k + 1) cs n (omega arith))

pub none_above : (k : ℕ) (cs : List (List Literal)) (n : ℕ) → length cs + k ≤ n → clause_of (numbered_from k cs) n ≡ None
none_above k [] n h = refl
none_above k (x ∷ cs) n h = rw (is_not k n (λ z. omega arith)) (none_above (k + 1) cs n (omega arith))

-- found among some clauses and others
pub found_left : (ps qs : Numbered) (n : ℕ) (c : List Literal) → clause_of ps n ≡ Some c → clause_of (ps ++ qs) n ≡ Some c
found_left [] qs n c e = absurd cc
found_left (p ∷ ps) qs n c e = by_test (p.0 == n)
    (λ t. rw t (rw t at e))
    (λ t. rw t (found_left ps qs n c (rw t at e)))

pub found_right : (ps qs : Numbered) (n : ℕ) → clause_of ps n ≡ None → clause_of (ps ++ qs) n ≡ clause_of qs n
found_right [] qs n e = refl
found_right (p ∷ ps) qs n e = by_test (p.0 == n)
    (λ t. let bad : Some p.1 ≡ None = rw t at e in absurd cc)
    (λ t. rw t (found_right ps qs n (rw t at e)))

-- what one more clause leaves to be found
pub found_last : (ps : Numbered) (m n : ℕ) (d : List Literal) → m ≢ n → clause_of (ps ++ (m, d) ∷ []) n ≡ clause_of ps n
found_last [] m n d z = rw (is_not m n z) refl
found_last (p ∷ ps) m n d z = by_test (p.0 == n) (λ t. rw t refl) (λ t. rw t (found_last ps m n d z))

-- without a number
pub without_other : (ps : Numbered) (k n : ℕ) → k ≢ n → clause_of (without (k ∷ []) ps) n ≡ clause_of ps n
without_other [] k n z = refl
without_other (p ∷ ps) k n z =
    let rest : clause_of (without (k ∷ []) ps) n ≡ clause_of ps n = without_other ps k n z in
    by_eq k p.0
    (λ e. let other : p.0 ≢ n = λ h. z (e ∙ h) in rw (is_self k p.0 e, is_not p.0 n other) rest)
    (λ e. rw (is_not k p.0 e) (by_test (p.0 == n) (λ t. rw t refl) (λ t. rw t rest)))

pub without_self : (ps : Numbered) (k : ℕ) → clause_of (without (k ∷ []) ps) k ≡ None
without_self [] k = refl
without_self (p ∷ ps) k = by_eq k p.0
    (λ e. rw (is_self k p.0 e) (without_self ps k))
    (λ e. rw (is_not k p.0 e) (let ne : p.0 ≢ k = λ h. e (sym h) in rw (is_not p.0 k ne) (without_self ps k)))

-- the numbers of clauses
pub has_number : (ps : Numbered) (n : ℕ) → holds_number n (numbers ps) ≡ has_clause ps n
has_number [] n = refl
has_number (p ∷ ps) n = by_test (p.0 == n) (λ t. rw t refl) (λ t. rw t (has_number ps n))

pub some_clause : (ps : Numbered) (n : ℕ) → has_clause ps n ≡ true → (c : List Literal) × (clause_of ps n ≡ Some c)
some_clause ps n h = at (clause_of ps n) refl
  where
    at : (o : Option (List Literal)) → clause_of ps n ≡ o → (c : List Literal) × (clause_of ps n ≡ Some c)
    at (Some c) e = (c, e)
    at None e = let bad : false ≡ true = ap is_some (sym e) ∙ h in absurd cc

pub no_clause_of : (ps : Numbered) (n : ℕ) → has_clause ps n ≡ false → clause_of ps n ≡ None
no_clause_of ps n h = at (clause_of ps n) refl
  where
    at : (o : Option (List Literal)) → clause_of ps n ≡ o → clause_of ps n ≡ None
    at None e = e
    at (Some c) e = let bad : true ≡ false = ap is_some (sym e) ∙ h in absurd cc

-- the number of the next lemma
pub next_from : (st : Standing) (ds : List Done) → (after_all st ds).next ≡ st.next + length (lemma_clauses ds)
next_from st [] = omega arith
next_from st (joined l ∷ ds) = omega (arith, next_from (after_done st (joined l)) ds)
next_from st (removed k ∷ ds) = next_from (after_done st (removed k)) ds
next_from st (passed ∷ ds) = next_from st ds

pub next_row : (f : List (List Literal)) (ds : List Done) → (after_all (at_start f) ds).next ≡ length (row_of f ds) + 1
next_row f ds = omega (arith, next_from (at_start f) ds, length-append f (lemma_clauses ds))

-- what is alive is of all clauses
of_joined : (st : Standing) (c : List Literal) (all : Numbered) → IsOf st.alive all → clause_of all st.next ≡ Some c → IsOf (cond (is_empty c) st.alive (st.alive ++ (st.next, c) ∷ [])) all
of_joined st c all o here n d e = by_test (is_empty c)
    (λ t. o n d (rw t at e))
    (λ t. let g : clause_of (st.alive ++ (st.next, c) ∷ []) n ≡ Some d = rw t at e in
    by_eq st.next n
    (λ z. at (clause_of st.alive n) refl z g)
    (λ z. o n d (sym (found_last st.alive st.next n c z) ∙ g)))
  where
    at : (w : Option (List Literal)) → clause_of st.alive n ≡ w → st.next ≡ n → clause_of (st.alive ++ (st.next, c) ∷ []) n ≡ Some d → clause_of all n ≡ Some d
    at (Some x) e z g = let is : Some x ≡ Some d = sym (found_left st.alive ((st.next, c) ∷ []) n x e) ∙ g in o n d (e ∙ is)
    at None e z g =
        let is : clause_of ((st.next, c) ∷ []) n ≡ Some d = sym (found_right st.alive ((st.next, c) ∷ []) n e) ∙ g in
        let same : Some c ≡ Some d = rw (is_self st.next n z) at is in
        subst (λ m. clause_of all m ≡ Some d) z (here ∙ same)

of_without : (k : ℕ) (live all : Numbered) → IsOf live all → IsOf (without (k ∷ []) live) all
of_without k live all o n c e = by_eq k n
    (λ z. let none : clause_of (without (k ∷ []) live) n ≡ None = subst (λ m. clause_of (without (k ∷ []) live) m ≡ None) z (without_self live k) in let bad : None ≡ Some c = sym none ∙ e in absurd cc)
    (λ z. o n c (sym (without_other live k n z) ∙ e))

of_tail : (n : ℕ) (c : List Literal) (cs : List (List Literal)) (all : Numbered) → IsOf (numbered_from n (c ∷ cs)) all → IsOf (numbered_from (n + 1) cs) all
of_tail n c cs all o m d e =
    let low = found_between (n + 1) cs m d e in
    let ne : n ≢ m = λ z. omega (arith, low.0) in
    o m d (rw (is_not n m ne) e)

pub alive_from : (st : Standing) (ds : List Done) (all : Numbered) → IsOf st.alive all → IsOf (numbered_from st.next (lemma_clauses ds)) all → IsOf (after_all st ds).alive all
alive_from st [] all o p = o
alive_from st (joined l ∷ ds) all o p =
    alive_from (after_done st (joined l)) ds all
    (of_joined st l.clause all o (p st.next l.clause (rw (is_self st.next st.next refl) refl)))
    (of_tail st.next l.clause (lemma_clauses ds) all p)
alive_from st (removed k ∷ ds) all o p = alive_from (after_done st (removed k)) ds all (of_without k st.alive all o) p
alive_from st (passed ∷ ds) all o p = alive_from st ds all o p

pub alive_of : (f : List (List Literal)) (ds es : List Done) → IsOf (after_all (at_start f) ds).alive (all_loaded f (ds ++ es))
alive_of f ds es = alive_from (at_start f) ds (all_loaded f (ds ++ es))
    (λ n c e. found_left (numbered_from 1 f) (numbered_lemmas (length f + 1) (ds ++ es)) n c e)
    (λ n c e.
    let low = found_between (length f + 1) (lemma_clauses ds) n c e in
    let none : clause_of (numbered_from 1 f) n ≡ None = none_above 1 f n (omega (arith, low.0)) in
    let split : numbered_lemmas (length f + 1) (ds ++ es) ≡ numbered_from (length f + 1) (lemma_clauses ds) ++ numbered_from (length (lemma_clauses ds) + (length f + 1)) (lemma_clauses es) =
    lemmas_numbered (length f + 1) (ds ++ es) ∙ ap (numbered_from (length f + 1)) (lemma_clauses_append ds es) ∙ numbered_append (length f + 1) (lemma_clauses ds) (lemma_clauses es) in
    found_right (numbered_from 1 f) (numbered_lemmas (length f + 1) (ds ++ es)) n none
    ∙ ap (λ x. clause_of x n) split ∙ found_left (numbered_from (length f + 1) (lemma_clauses ds)) (numbered_from (length (lemma_clauses ds) + (length f + 1)) (lemma_clauses es)) n c e)

-- lines one after another
pub after_append : (st : Standing) (ds es : List Done) → after_all st (ds ++ es) ≡ after_all (after_all st ds) es
after_append st [] es = refl
after_append st (d ∷ ds) es = after_append (after_done st d) ds es

-- what is alive has a number below the next
pub alive_below : (f : List (List Literal)) (ds : List Done) (n : ℕ) (c : List Literal) → clause_of (after_all (at_start f) ds).alive n ≡ Some c → (0 < n) × (n < (after_all (at_start f) ds).next)
alive_below f ds n c e =
    let all : clause_of (all_loaded f (ds ++ [])) n ≡ Some c = alive_of f ds [] n c e in
    let row : clause_of (numbered_from 1 (row_of f (ds ++ []))) n ≡ Some c = ap (λ x. clause_of x n) (sym (all_numbered f (ds ++ []))) ∙ all in
    let r = found_between 1 (row_of f (ds ++ [])) n c row in
    let same : length (row_of f (ds ++ [])) ≡ length (row_of f ds) = ap (λ x. length (row_of f x)) (append-nil ds) in
    (omega (arith, r.0), omega (arith, r.1, same, next_row f ds))

pub in_all : (f : List (List Literal)) (ds : List Done) (n : ℕ) → 0 < n → n < (after_all (at_start f) ds).next → (c : List Literal) × (clause_of (all_loaded f ds) n ≡ Some c)
in_all f ds n low high =
    let r = found_within 1 (row_of f ds) n (omega arith) (omega (arith, next_row f ds)) in
    (r.0, ap (λ x. clause_of x n) (all_numbered f ds) ∙ r.1)
