-- Lists whose numbers rise are one where they have the same clauses; groups put in rising order are exact.
use Rattle.std.proofs.Common.{◌≡◌, ℕ, ◌<◌, ◌≤◌, ◌==◌, true, false, cond, not, ◌||◌, List, [], ◌∷◌, ◌++◌, Some, None, refl, sym, ◌∙◌, ap, subst, arith, append-nil, append_assoc}
use Rattle.std.specs.Prelude.{nat_le}
use Rattle.std.proofs.lemmas.Bool.Decides.{nat_tests}
use Rattle.sr_base.specs.Literal.{Literal}
use Rattle.sr_model.specs.Assignment.{holds_number}
use Rattle.sr_model.specs.Chain.{Numbered, clause_of}
use Rattle.sr_model.specs.Substitution.{Substitution}
use Rattle.sr_model.specs.Meeting.{Step}
use Rattle.sr_trimming.specs.Citing.{is_cited, below, need, AreRising}
use Rattle.sr_trimming.proofs.Placed.{rise_again}
use Rattle.sr_trimming.specs.Placing.{numbers}
use Rattle.sr_trimming.specs.Lean.{is_lean, group_start, AreLeanGroups}
use Rattle.sr_trimming.specs.CoreFirst.{cited_so_far, ready, first_of, IsCoreFirst, AreInOrder, put_in, rising}
use Rattle.sr_model.proofs.Soundness.{by_test}
use Rattle.sr_back.proofs.Maps.{Within, found_above, picked, picked_test}

found_first : (x : ℕ × List Literal) (xs : Numbered) → clause_of (x ∷ xs) x.0 ≡ Some x.1
found_first x xs = let e : (x.0 == x.0) ≡ true = grind (arith, nat_tests) in rw e refl

found_later : (x : ℕ × List Literal) (xs : Numbered) (n : ℕ) (c : List Literal) → x.0 < n → clause_of xs n ≡ Some c → clause_of (x ∷ xs) n ≡ Some c
found_later x xs n c h f = let e : (x.0 == n) ≡ false = grind (arith, nat_tests) in rw e f

found_tail : (x : ℕ × List Literal) (xs : Numbered) (n : ℕ) (c : List Literal) → x.0 < n → clause_of (x ∷ xs) n ≡ Some c → clause_of xs n ≡ Some c
found_tail x xs n c h f = let e : (x.0 == n) ≡ false = grind (arith, nat_tests) in rw e at f

not_below : (k n : ℕ) (x : ℕ × List Literal) (xs : Numbered) (c : List Literal) → AreRising k (x ∷ xs) → clause_of (x ∷ xs) n ≡ Some c → x.0 ≤ n
not_below k n x xs c r f = by_test (x.0 == n) (λ e. grind (arith, nat_tests)) (λ e. let up = found_above x.0 n xs c r.1 (rw e at f) in omega arith)

-- rising lists with the same clauses are one
pub rising_same : (k : ℕ) (xs ys : Numbered) → AreRising k xs → AreRising k ys → Within xs ys → Within ys xs → xs ≡ ys
rising_same k [] [] r s w v = refl
rising_same k [] (y ∷ ys) r s w v = absurd (let g : None ≡ Some y.1 = v y.0 y.1 (found_first y ys) in cc)
rising_same k (x ∷ xs) [] r s w v = absurd (let g : None ≡ Some x.1 = w x.0 x.1 (found_first x xs) in cc)
rising_same k (x ∷ xs) (y ∷ ys) r s w v =
    let over : clause_of (y ∷ ys) x.0 ≡ Some x.1 = w x.0 x.1 (found_first x xs) in
    let le : y.0 ≤ x.0 = not_below k x.0 y ys x.1 s over in
    let ge : x.0 ≤ y.0 = not_below k y.0 x xs y.1 r (v y.0 y.1 (found_first y ys)) in
    let number : x.0 ≡ y.0 = omega arith in
    let two : Some x.1 ≡ Some y.1 = sym over ∙ ap (clause_of (y ∷ ys)) number ∙ found_first y ys in
    let clause : x.1 ≡ y.1 = cc in
    let rest : xs ≡ ys = rising_same x.0 xs ys r.1 (subst (λ n. AreRising n ys) (sym number) s.1)
    (λ n c f. let up = found_above x.0 n xs c r.1 f in found_tail y ys n c (omega arith) (w n c (found_later x xs n c up f)))
    (λ n c f. let up = found_above y.0 n ys c s.1 f in found_tail x xs n c (omega arith) (v n c (found_later y ys n c up f))) in
    both x y xs ys number clause rest
  where
    both : (x y : ℕ × List Literal) (xs ys : Numbered) → x.0 ≡ y.0 → x.1 ≡ y.1 → xs ≡ ys → x ∷ xs ≡ y ∷ ys
    both x y xs ys a b e = let pair : x ≡ y = ap (λ n. let p : ℕ × List Literal = (n, x.1) in p) a ∙ ap (λ c. let p : ℕ × List Literal = (y.0, c) in p) b in ap (λ z. z ∷ xs) pair ∙ ap (λ zs. y ∷ zs) e

-- numbered clauses in rising order
abbrev pub put_numbered : ℕ × List Literal → Numbered → Numbered
put_numbered p [] = p ∷ []
put_numbered p (q ∷ qs) = cond (nat_le p.0 q.0) (p ∷ q ∷ qs) (q ∷ put_numbered p qs)

abbrev pub sorted : Numbered → Numbered
sorted [] = []
sorted (p ∷ ps) = put_numbered p (sorted ps)

put_groups : (live : Numbered) (b : List Literal) (w : Substitution) (p : ℕ × List Literal) (g : ℕ × List ℕ) (ps : Numbered) (gs : List (ℕ × List ℕ)) → g.0 ≡ p.0 → is_lean live (group_start b w p.1) g.1 ≡ true
    → AreLeanGroups live b w ps gs → AreLeanGroups live b w (put_numbered p ps) (put_in g gs)
put_groups live b w p g [] [] e l a = (e, l, tt)
put_groups live b w p g [] (k ∷ ks) e l a = absurd a
put_groups live b w p g (q ∷ qs) [] e l a = absurd a
put_groups live b w p g (q ∷ qs) (k ∷ ks) e l a =
    let number : k.0 ≡ q.0 = a.0 in
    let tests : nat_le g.0 k.0 ≡ nat_le p.0 q.0 = ap (λ n. nat_le n k.0) e ∙ ap (nat_le p.0) number in
    by_test (nat_le p.0 q.0)
    (λ y. rw (tests, y) (e, l, a))
    (λ y. rw (tests, y) (a.0, a.1, put_groups live b w p g qs ks e l a.2))

-- groups and their clauses are put in rising order together
pub sorted_groups : (live : Numbered) (b : List Literal) (w : Substitution) (ps : Numbered) (gs : List (ℕ × List ℕ)) → AreLeanGroups live b w ps gs → AreLeanGroups live b w (sorted ps) (rising gs)
sorted_groups live b w [] [] a = tt
sorted_groups live b w [] (g ∷ gs) a = absurd a
sorted_groups live b w (p ∷ ps) [] a = absurd a
sorted_groups live b w (p ∷ ps) (g ∷ gs) a = put_groups live b w p g (sorted ps) (rising gs) a.0 a.1 (sorted_groups live b w ps gs a.2)

put_found : (p : ℕ × List Literal) (qs : Numbered) (n : ℕ) → holds_number p.0 (numbers qs) ≡ false → clause_of (put_numbered p qs) n ≡ cond (p.0 == n) (Some p.1) (clause_of qs n)
put_found p [] n h = refl
put_found p (q ∷ qs) n h = by_test (nat_le p.0 q.0) (λ y. rw y refl)
    (λ y. rw y (by_test (q.0 == n)
    (λ e. let other : (p.0 == n) ≡ false = grind (arith, nat_tests) in rw (e, other) refl)
    (λ e. rw e (put_found p qs n (grind arith)))))

put_number : (p : ℕ × List Literal) (qs : Numbered) (n : ℕ) → holds_number n (numbers (put_numbered p qs)) ≡ ((p.0 == n) || holds_number n (numbers qs))
put_number p [] n = refl
put_number p (q ∷ qs) n = by_test (nat_le p.0 q.0) (λ y. rw y refl) (λ y. rw y (grind (arith, put_number p qs n)))

pub sorted_number : (ps : Numbered) (n : ℕ) → holds_number n (numbers (sorted ps)) ≡ holds_number n (numbers ps)
sorted_number [] n = refl
sorted_number (p ∷ ps) n = put_number p (sorted ps) n ∙ ap (λ b. (p.0 == n) || b) (sorted_number ps n)

put_rising : (k : ℕ) (p : ℕ × List Literal) (qs : Numbered) → k < p.0 → holds_number p.0 (numbers qs) ≡ false → AreRising k qs → AreRising k (put_numbered p qs)
put_rising k p [] h m r = (h, tt)
put_rising k p (q ∷ qs) h m r = by_test (nat_le p.0 q.0)
    (λ y. let less : p.0 < q.0 = grind (arith, nat_tests) in rw y (h, (less, r.1)))
    (λ y. let more : q.0 < p.0 = grind (arith, nat_tests) in rw y (r.0, put_rising q.0 p qs more (grind arith) r.1))

-- no number comes twice, and none is 0
abbrev pub AreApart : Numbered → Type 0
AreApart [] = Unit {0}
AreApart (p ∷ ps) = (0 < p.0) × (holds_number p.0 (numbers ps) ≡ false) × AreApart ps

pub sorted_rising : (ps : Numbered) → AreApart ps → AreRising 0 (sorted ps)
sorted_rising [] a = tt
sorted_rising (p ∷ ps) a = put_rising 0 p (sorted ps) a.0 (sorted_number ps p.0 ∙ a.1) (sorted_rising ps a.2)

pub sorted_found : (ps : Numbered) (n : ℕ) → AreApart ps → clause_of (sorted ps) n ≡ clause_of ps n
sorted_found [] n a = refl
sorted_found (p ∷ ps) n a = put_found p (sorted ps) n (sorted_number ps p.0 ∙ a.1) ∙ ap (λ o. cond (p.0 == n) (Some p.1) o) (sorted_found ps n a.2)

-- groups that were met in some order are, put in rising order, those of exactly the clauses `needing`
pub exact_groups : (live needing ps : Numbered) (b : List Literal) (w : Substitution) (gs : List (ℕ × List ℕ)) → AreRising 0 needing → AreApart ps → Within ps needing → Within needing ps
    → AreLeanGroups live b w ps gs → AreLeanGroups live b w needing (rising gs)
exact_groups live needing ps b w gs r a w1 w2 l =
    let is : sorted ps ≡ needing = rising_same 0 (sorted ps) needing (sorted_rising ps a) r (λ n c f. w1 n c (sym (sorted_found ps n a) ∙ f)) (λ n c f. sorted_found ps n a ∙ w2 n c f) in
    subst (λ x. AreLeanGroups live b w x (rising gs)) is (sorted_groups live b w ps gs l)

-- one more group at the end of those in order
pub in_order_push : (live : Numbered) (later : List Step) (b : List Literal) (w : Substitution) (before gs : List (ℕ × List ℕ)) (g : ℕ × List ℕ) (d : List Literal) → AreInOrder live later b w before gs
    → first_of (ready live later b w (before ++ gs)) ≡ Some (g.0, d) → IsCoreFirst (cited_so_far live later (before ++ gs)) (group_start b w d) g.1 → AreInOrder live later b w before (gs ++ g ∷ [])
in_order_push live later b w before [] g d a f core = (
  (
    d,
    subst (λ m. first_of (ready live later b w m) ≡ Some (g.0, d)) (append-nil before) f,
    subst (λ m. IsCoreFirst (cited_so_far live later m) (group_start b w d) g.1) (append-nil before) core,
  ),
  tt,
)
in_order_push live later b w before (k ∷ ks) g d a f core = (
  a.0,
  in_order_push live later b w (before ++ k ∷ []) ks g d a.1
      (subst (λ m. first_of (ready live later b w m) ≡ Some (g.0, d)) (sym (append_assoc before (k ∷ []) ks)) f)
      (subst (λ m. IsCoreFirst (cited_so_far live later m) (group_start b w d) g.1) (sym (append_assoc before (k ∷ []) ks)) core),
)

-- what is needed is one over two lists that agree on the cited numbers below the step
pub same_need : (xs ys : Numbered) (s : Step) (later : List Step) → AreRising 0 xs → AreRising 0 ys
    → ((n : ℕ) (c : List Literal) → n < s.id → is_cited n (s ∷ later) ≡ true → clause_of xs n ≡ Some c → clause_of ys n ≡ Some c)
    → ((n : ℕ) (c : List Literal) → n < s.id → is_cited n (s ∷ later) ≡ true → clause_of ys n ≡ Some c → clause_of xs n ≡ Some c) → need xs s later ≡ need ys s later
same_need xs ys s later r t f g = rising_same 0 (need xs s later) (need ys s later) (rises xs r) (rises ys t) (into xs ys f) (into ys xs g)
  where
    rises : (zs : Numbered) → AreRising 0 zs → AreRising 0 (need zs s later)
    rises zs r = rise_again (λ p. is_cited p.0 (s ∷ later)) 0 (below s.id zs) (rise_again (λ p. not (nat_le s.id p.0)) 0 zs r)

    into : (us vs : Numbered) → ((n : ℕ) (c : List Literal) → n < s.id → is_cited n (s ∷ later) ≡ true → clause_of us n ≡ Some c → clause_of vs n ≡ Some c) → Within (need us s later) (need vs s later)
    into us vs h n c e =
        let x = picked_test (λ n. is_cited n (s ∷ later)) n (below s.id us) c e in
        let y = picked_test (λ n. not (nat_le s.id n)) n us c x.1 in
        let low : n < s.id = grind (arith, nat_tests, y.0) in
        picked (λ n. is_cited n (s ∷ later)) n (below s.id vs) c x.0 (picked (λ n. not (nat_le s.id n)) n vs c y.0 (h n c low x.0 y.1))
