-- The tables of a list of entries, when an entry comes or goes.
use Rattle.std.proofs.Common.{◌≡◌, ◌<◌, ◌≤◌, ◌+◌, ◌*◌, ◌-◌, ℕ, suc, zero, Bool, true, false, not, cond, ◌==◌, ◌||◌, List, [], ◌∷◌, ◌++◌, refl, sym, ◌∙◌, ap, subst, arith, length, get_or, set, take, take_all, replicate, get_or-set_same, get_or-set_other}
use Rattle.std.proofs.lemmas.List.{take_more, length-set, length-append, length-take, get_or_append_left}
use Rattle.std.proofs.lemmas.Bool.Decides.{nat_tests}
use Rattle.sr_base.specs.Literal.{Literal, plus, minus, variable, same, has, literal_code, NoRepeats}
use Rattle.sr_base.specs.LiteralCode.{same_code}
use Rattle.sr_base.specs.declared.literal.TheConstants.{MOST_VARS}
use Rattle.sr_base.proofs.Literals.{same_tells, has_append, no_repeats_push}
use Rattle.sr_model.proofs.Soundness.{by_test}
use Rattle.sr_watch.specs.State.{assumed_in, AreWithin}
use Rattle.sr_watch.specs.Inside.{derived_in, most_entries}
use Rattle.sr_watch.specs.Trail.{Entries, place_in, assumed_of, with_entry, first_entries, MayEnter, AreEntries, AreTables, table_size}
use Rattle.std.proofs.lemmas.List.{take-append-le, take-take, get_or-take, take_at, get_or_at}
use Rattle.sr_base.specs.Literal.{complement}
use Rattle.sr_model.specs.Substitution.{has_pair}
use Rattle.sr_model.specs.Refutation.{Includes}
use Rattle.sr_model.proofs.Chains.{pair_from, pair_tells}
use Rattle.sr_watch.specs.Trail.{IsPairAt, IsClashAt}
use Rattle.sr_watch.proofs.Answering.{pair_push}
use Rattle.sr_watch.proofs.Entries.{by_eq}
use Rattle.sr_watch.proofs.Looking.{in_take}
use Rattle.std.specs.Prelude.{nat_le}
use Rattle.sr_watch.proofs.Bounds.{few_entries, assumed_among}
use Rattle.sr_watch.proofs.Growing.{assumed_push, within_push, derived_once_push, derived_once_assume, assumed_once_cut, derived_once_cut}

-- a code of a variable that has room stands in a table
pub code_within : (l : Literal) (v : ℕ) → 0 < variable l → variable l ≤ v → literal_code l < table_size v
code_within (plus x) v some le = let f : (v == 0) ≡ false = grind (arith, nat_tests) in rw f (omega arith)
code_within (minus x) v some le = let f : (v == 0) ≡ false = grind (arith, nat_tests) in rw f (omega arith)

pub place_has : (ls : List Literal) (l : Literal) → has l ls ≡ not (place_in ls l == 0)
place_has [] l = refl
place_has (k ∷ ls) l = by_test (same k l)
    (λ t. rw t refl)
    (λ f. rw (f, place_has ls l) (by_test (place_in ls l == 0) (λ t. rw t refl) (λ u. rw u (sym (ap not (let z : (suc (place_in ls l) == 0) ≡ false = grind (arith, nat_tests) in z))))))

pub place_le : (ls : List Literal) (l : Literal) → place_in ls l ≤ length ls
place_le [] l = omega arith
place_le (k ∷ ls) l = let r = place_le ls l in by_test (same k l) (λ t. rw t (omega arith)) (λ f. rw f (by_test (place_in ls l == 0) (λ t. rw t (omega arith)) (λ u. rw u (omega arith))))

pub place_push : (ls : List Literal) (x l : Literal) → place_in (ls ++ x ∷ []) l ≡ cond (place_in ls l == 0) (cond (same x l) (length ls + 1) 0) (place_in ls l)
place_push [] x l = by_test (same x l) (λ t. rw t refl) (λ f. rw f refl)
place_push (k ∷ ls) x l =
    let r = place_push ls x l in
    by_test (same k l)
    (λ t. rw t refl)
    (λ f. rw (f, r) (by_test (place_in ls l == 0)
    (λ z. rw z (by_test (same x l) (λ t. rw t (grind (arith, nat_tests))) (λ u. rw u refl)))
    (λ z. rw (z, z) (grind (arith, nat_tests)))))

-- another item in a table
table_at : (t : List ℕ) (l k : Literal) (n : ℕ) → literal_code l < length t → get_or (set t (literal_code l) n) (literal_code k) 0 ≡ cond (same l k) n (get_or t (literal_code k) 0)
table_at t l k n lt = by_test (same l k)
    (λ e. let is : l ≡ k = grind (arith, same_tells l k) in rw e (subst (λ j. get_or (set t (literal_code l) n) (literal_code j) 0 ≡ n) is (get_or-set_same t (literal_code l) n 0 lt)))
    (λ e. rw e (get_or-set_other t (literal_code l) (literal_code k) n 0 (λ c. let is : l ≡ k = same_code l k (sym c) in absurd (grind (arith, same_tells l k)))))

pub marks_at : (t : List Bool) (l k : Literal) (b : Bool) → literal_code l < length t → get_or (set t (literal_code l) b) (literal_code k) false ≡ cond (same l k) b (get_or t (literal_code k) false)
marks_at t l k b lt = by_test (same l k)
    (λ e. let is : l ≡ k = grind (arith, same_tells l k) in rw e (subst (λ j. get_or (set t (literal_code l) b) (literal_code j) false ≡ b) is (get_or-set_same t (literal_code l) b false lt)))
    (λ e. rw e (get_or-set_other t (literal_code l) (literal_code k) b false (λ c. let is : l ≡ k = same_code l k (sym c) in absurd (grind (arith, same_tells l k)))))

-- an entry more
firsts_push : List ℕ → Entries → Literal → List ℕ
firsts_push t e l = cond (get_or t (literal_code l) 0 == 0) (set t (literal_code l) (length e.lits + 1)) t

entries_push : (e : Entries) (l : Literal) (r : ℕ) → AreEntries e → MayEnter e l r → AreEntries (with_entry e l r)
entries_push e l r a m = record {
  fits = a.fits;
  sizes = omega (arith, a.sizes, length-append e.lits (l ∷ []), length-append e.reasons (r ∷ []));
  within = within_push e.vars e.lits l a.within m.within;
  once = rw (assumed_push e.lits e.reasons l r a.sizes) (by_test (r == 0) (λ t. let z : r ≡ 0 = grind (arith, nat_tests) in rw t (no_repeats_push l (assumed_of e) a.once (m.not_assumed z))) (λ f. rw f a.once));
  derived_once = by_eq r 0
      (λ z. subst (λ j. NoRepeats (derived_in (e.lits ++ l ∷ []) (e.reasons ++ j ∷ []))) (sym z) (derived_once_assume e.lits e.reasons l a.sizes a.derived_once))
      (λ ne. derived_once_push e.lits e.reasons l r a.sizes (m.not_true ne) a.derived_once);
}

pub pushed_entries : (e : Entries) (l : Literal) (r : ℕ) → AreEntries e → MayEnter e l r → AreEntries (with_entry e l r)
pushed_entries e l r a m = entries_push e l r a m

pub few : (e : Entries) → AreEntries e → length e.lits ≤ 4 * e.vars + 4
few e a = few_entries e.vars e.lits e.reasons a.sizes a.within a.once a.derived_once

pub tables_push : (e : Entries) (l : Literal) (r : ℕ) (t : List ℕ) (u : List Bool) → AreEntries e → MayEnter e l r → 0 < variable l → AreTables e t u
    → AreTables (with_entry e l r) (cond (get_or t (literal_code l) 0 == 0) (set t (literal_code l) (length e.lits + 1)) t) (cond (r == 0) (set u (literal_code l) true) u)
tables_push e l r t u a m some x =
    let lt : literal_code l < length t = omega (arith, x.first_size, code_within l e.vars some m.within) in
    let lu : literal_code l < length u = omega (arith, x.marks_size, code_within l e.vars some m.within) in
    record {
      first_size = by_test (get_or t (literal_code l) 0 == 0) (λ z. rw z (length-set t (literal_code l) (length e.lits + 1) ∙ x.first_size)) (λ z. rw z x.first_size);
      marks_size = by_test (r == 0) (λ z. rw z (length-set u (literal_code l) true ∙ x.marks_size)) (λ z. rw z x.marks_size);
      first = λ k pos le. by_test (same l k)
          (λ s. let is : l ≡ k = grind (arith, same_tells l k) in
          let old : get_or t (literal_code l) 0 ≡ place_in e.lits k = subst (λ j. get_or t (literal_code j) 0 ≡ place_in e.lits k) (sym is) (x.first k pos le) in
          by_test (place_in e.lits k == 0)
          (λ z. let zl : (get_or t (literal_code l) 0 == 0) ≡ true = ap (λ n. n == 0) old ∙ z in
          let g : get_or (cond (get_or t (literal_code l) 0 == 0) (set t (literal_code l) (length e.lits + 1)) t) (literal_code k) 0 ≡ length e.lits + 1 = rw zl (table_at t l k (length e.lits + 1) lt ∙ rw s refl) in
          let h : place_in (e.lits ++ l ∷ []) k ≡ length e.lits + 1 = place_push e.lits l k ∙ rw (z, s) refl in
          g ∙ sym h)
          (λ z. let zl : (get_or t (literal_code l) 0 == 0) ≡ false = ap (λ n. n == 0) old ∙ z in
          let g : get_or (cond (get_or t (literal_code l) 0 == 0) (set t (literal_code l) (length e.lits + 1)) t) (literal_code k) 0 ≡ place_in e.lits k = rw zl (x.first k pos le) in
          let h : place_in (e.lits ++ l ∷ []) k ≡ place_in e.lits k = place_push e.lits l k ∙ rw z refl in
          g ∙ sym h))
          (λ s. let g : get_or (cond (get_or t (literal_code l) 0 == 0) (set t (literal_code l) (length e.lits + 1)) t) (literal_code k) 0 ≡ get_or t (literal_code k) 0 = by_test (get_or t (literal_code l) 0 == 0) (λ z. rw z (table_at t l k (length e.lits + 1) lt ∙ rw s refl)) (λ z. rw z refl) in
          let h : place_in (e.lits ++ l ∷ []) k ≡ place_in e.lits k = place_push e.lits l k ∙ by_test (place_in e.lits k == 0) (λ z. let p : place_in e.lits k ≡ 0 = grind (arith, nat_tests) in rw (z, s) (sym p)) (λ z. rw z refl) in
          g ∙ x.first k pos le ∙ sym h);
      marks = λ k pos le. by_test (r == 0)
          (λ z. let h : has k (assumed_of (with_entry e l r)) ≡ (has k (assumed_of e) || (same l k || false)) = ap (has k) (assumed_push e.lits e.reasons l r a.sizes ∙ rw z refl) ∙ has_append k (assumed_of e) (l ∷ []) in
          let g : get_or (cond (r == 0) (set u (literal_code l) true) u) (literal_code k) false ≡ cond (same l k) true (get_or u (literal_code k) false) = rw z (marks_at u l k true lu) in
          let o = x.marks k pos le in
          g ∙ grind arith)
          (λ z. let h : has k (assumed_of (with_entry e l r)) ≡ has k (assumed_of e) = ap (has k) (assumed_push e.lits e.reasons l r a.sizes ∙ rw z refl) in
          let g : get_or (cond (r == 0) (set u (literal_code l) true) u) (literal_code k) false ≡ get_or u (literal_code k) false = rw z refl in
          g ∙ x.marks k pos le ∙ sym h);
    }

-- the last entry goes
table_pop : (e : Entries) (n : ℕ) (l : Literal) → n < length e.lits → l ≡ get_or e.lits n l → length e.lits ≡ n + 1 → e.lits ≡ take n e.lits ++ l ∷ []
table_pop e n l lt is size = sym (take_all (n + 1) e.lits (omega arith)) ∙ take_more e.lits n l lt ∙ ap (λ x. take n e.lits ++ x ∷ []) (sym is)

reasons_pop : (rs : List ℕ) (n : ℕ) → n < length rs → length rs ≡ n + 1 → rs ≡ take n rs ++ get_or rs n 0 ∷ []
reasons_pop rs n lt size = sym (take_all (n + 1) rs (omega arith)) ∙ take_more rs n 0 lt

pub entries_cut : (e : Entries) (n : ℕ) → n ≤ length e.lits → AreEntries e → AreEntries (first_entries e n)
entries_cut e n le a = record {
  fits = a.fits;
  sizes = omega (arith, a.sizes, length-take n e.lits, length-take n e.reasons);
  within = λ l h. a.within l (in_take e.lits n l h);
  once = assumed_once_cut n e.lits e.reasons a.once;
  derived_once = derived_once_cut n e.lits e.reasons a.derived_once;
}

-- the tables without an entry `l` behind those of `f`
tables_less : (f : Entries) (l : Literal) (r : ℕ) (t : List ℕ) (u : List Bool) → length f.reasons ≡ length f.lits → NoRepeats (assumed_of (with_entry f l r)) → variable l ≤ f.vars → 0 < variable l → AreTables (with_entry f l r) t u
    → AreTables f (cond (get_or t (literal_code l) 0 == length f.lits + 1) (set t (literal_code l) 0) t) (cond (r == 0) (set u (literal_code l) false) u)
tables_less f l r t u sizes once within some x =
    let lt : literal_code l < length t = omega (arith, x.first_size, code_within l f.vars some within) in
    let lu : literal_code l < length u = omega (arith, x.marks_size, code_within l f.vars some within) in
    let here : get_or t (literal_code l) 0 ≡ cond (place_in f.lits l == 0) (length f.lits + 1) (place_in f.lits l) = x.first l some within ∙ place_push f.lits l l ∙ rw (self l) refl in
    record {
      first_size = by_test (get_or t (literal_code l) 0 == length f.lits + 1) (λ z. rw z (length-set t (literal_code l) 0 ∙ x.first_size)) (λ z. rw z x.first_size);
      marks_size = by_test (r == 0) (λ z. rw z (length-set u (literal_code l) false ∙ x.marks_size)) (λ z. rw z x.marks_size);
      first = λ k pos le. by_test (same l k)
          (λ s. let is : l ≡ k = grind (arith, same_tells l k) in
          let old : get_or t (literal_code k) 0 ≡ cond (place_in f.lits k == 0) (length f.lits + 1) (place_in f.lits k) = subst (λ j. get_or t (literal_code j) 0 ≡ cond (place_in f.lits j == 0) (length f.lits + 1) (place_in f.lits j)) is here in
          by_test (place_in f.lits k == 0)
          (λ z. let zl : (get_or t (literal_code l) 0 == length f.lits + 1) ≡ true = subst (λ j. (get_or t (literal_code j) 0 == length f.lits + 1) ≡ true) (sym is) (let o : get_or t (literal_code k) 0 ≡ length f.lits + 1 = rw z at old in grind (arith, nat_tests)) in
          let p : place_in f.lits k ≡ 0 = grind (arith, nat_tests) in
          rw zl (table_at t l k 0 lt ∙ rw s (sym p)))
          (λ z. let o : get_or t (literal_code k) 0 ≡ place_in f.lits k = rw z at old in
          let zl : (get_or t (literal_code l) 0 == length f.lits + 1) ≡ false = subst (λ j. (get_or t (literal_code j) 0 == length f.lits + 1) ≡ false) (sym is) (let q = place_le f.lits k in grind (arith, nat_tests)) in
          rw zl o))
          (λ s. let o : get_or t (literal_code k) 0 ≡ place_in f.lits k = x.first k pos le ∙ place_push f.lits l k ∙ rw s (by_test (place_in f.lits k == 0) (λ z. let p : place_in f.lits k ≡ 0 = grind (arith, nat_tests) in rw z (sym p)) (λ z. rw z refl)) in
          by_test (get_or t (literal_code l) 0 == length f.lits + 1)
          (λ z. rw z (table_at t l k 0 lt ∙ rw s o))
          (λ z. rw z o));
      marks = λ k pos le.
          let m : get_or u (literal_code k) false ≡ has k (cond (r == 0) (assumed_of f ++ l ∷ []) (assumed_of f)) = x.marks k pos le ∙ ap (has k) (assumed_push f.lits f.reasons l r sizes) in
          by_test (r == 0)
          (λ z. let m' : get_or u (literal_code k) false ≡ has k (assumed_of f ++ l ∷ []) = rw z at m in
          let once' : NoRepeats (assumed_of f ++ l ∷ []) = rw z at (subst NoRepeats (assumed_push f.lits f.reasons l r sizes) once) in
          rw z (marks_at u l k false lu ∙ by_test (same l k)
          (λ s. let is : l ≡ k = grind (arith, same_tells l k) in let n : has l (assumed_of f) ≡ false = last_new (assumed_of f) l once' in rw s (sym (subst (λ j. has j (assumed_of f) ≡ false) is n)))
          (λ s. rw s (m' ∙ grind (arith, has_append k (assumed_of f) (l ∷ []))))))
          (λ z. let m' : get_or u (literal_code k) false ≡ has k (assumed_of f) = rw z at m in rw z m');
    }
  where
    self : (l : Literal) → same l l ≡ true
    self l = grind (arith, same_tells l l)

    last_new : (xs : List Literal) (y : Literal) → NoRepeats (xs ++ y ∷ []) → has y xs ≡ false
    last_new [] y n = refl
    last_new (x ∷ xs) y n = let r : has y xs ≡ false = last_new xs y n.1 in by_test (same x y)
        (λ s. let is : x ≡ y = grind (arith, same_tells x y) in let q : has x (xs ++ y ∷ []) ≡ false = n.0 in let p : has x (xs ++ y ∷ []) ≡ true = subst (λ j. has j (xs ++ y ∷ []) ≡ true) (sym is) (grind (arith, has_append y xs (y ∷ []), same_tells y y)) in absurd cc)
        (λ s. rw s r)

pub in_list : (ls : List Literal) (i : ℕ) (k : Literal) → i < length ls → k ≡ get_or ls i k → has k ls ≡ true
in_list [] i k lt e = absurd (omega arith)
in_list (j ∷ ls) zero k lt e = grind (arith, same_tells j k)
in_list (j ∷ ls) (suc i) k lt e = grind (arith, in_list ls i k (omega arith) e)

pub tables_pop : (e : Entries) (n : ℕ) (l : Literal) (t : List ℕ) (u : List Bool) → AreEntries e → length e.lits ≡ n + 1 → l ≡ get_or e.lits n l → 0 < variable l → AreTables e t u
    → AreTables (first_entries e n) (cond (get_or t (literal_code l) 0 == n + 1) (set t (literal_code l) 0) t) (cond (get_or e.reasons n 0 == 0) (set u (literal_code l) false) u)
tables_pop e n l t u a size is some x =
    let f : Entries = first_entries e n in
    let len : length (take n e.lits) ≡ n = omega (arith, length-take n e.lits) in
    let whole : e ≡ with_entry (first_entries e n) l (get_or e.reasons n 0) =
    ap (λ ls. record e { lits = ls }) (table_pop e n l (omega arith) is size) ∙ ap (λ rs. record e { lits = take n e.lits ++ l ∷ []; reasons = rs }) (reasons_pop e.reasons n (omega (arith, a.sizes)) (omega (arith, a.sizes))) in
    let y : AreTables (with_entry (first_entries e n) l (get_or e.reasons n 0)) t u = subst (λ w. AreTables w t u) whole x in
    let once : NoRepeats (assumed_of (with_entry (first_entries e n) l (get_or e.reasons n 0))) = subst (λ (w : Entries). NoRepeats (assumed_of w)) whole a.once in
    let z = tables_less (first_entries e n) l (get_or e.reasons n 0) t u (entries_cut e n (omega arith) a).sizes once (a.within l (in_list e.lits n l (omega arith) is)) some y in
    subst (λ m. AreTables (first_entries e n) (cond (get_or t (literal_code l) 0 == m + 1) (set t (literal_code l) 0) t) (cond (get_or e.reasons n 0 == 0) (set u (literal_code l) false) u)) len z

-- more variables have room
get_replicate : {A : Type 0} (xs : List A) (n i : ℕ) (d : A) → get_or (xs ++ replicate n d) i d ≡ get_or xs i d
get_replicate [] zero i d = refl
get_replicate [] (suc n) zero d = refl
get_replicate [] (suc n) (suc i) d = get_replicate [] n i d
get_replicate (x ∷ xs) n zero d = refl
get_replicate (x ∷ xs) n (suc i) d = get_replicate xs n i d

length_replicate : {A : Type 0} (n : ℕ) (d : A) → length (replicate n d) ≡ n
length_replicate zero d = refl
length_replicate (suc n) d = ap suc (length_replicate n d)

not_there : (ls : List Literal) (v : ℕ) (l : Literal) → AreWithin v ls → v < variable l → has l ls ≡ false
not_there ls v l w lt = by_test (has l ls) (λ t. absurd (omega (arith, w l t))) (λ f. f)

beyond : {A : Type 0} (xs : List A) (i : ℕ) (d : A) → length xs ≤ i → get_or xs i d ≡ d
beyond [] i d le = refl
beyond (x ∷ xs) zero d le = absurd (omega arith)
beyond (x ∷ xs) (suc i) d le = beyond xs i d (omega arith)

code_beyond : (l : Literal) (v : ℕ) → v < variable l → table_size v ≤ literal_code l
code_beyond (plus x) v lt = by_test (v == 0) (λ t. rw t (omega arith)) (λ f. rw f (omega arith))
code_beyond (minus x) v lt = by_test (v == 0) (λ t. rw t (omega arith)) (λ f. rw f (omega arith))

assumed_has : (ls : List Literal) (rs : List ℕ) (k : Literal) → has k (assumed_in ls rs) ≡ true → has k ls ≡ true
assumed_has ls rs k h = assumed_among ls rs k h

pub tables_grow : (e : Entries) (v : ℕ) (t : List ℕ) (u : List Bool) → AreEntries e → e.vars < v → AreTables e t u
    → AreTables (record e { vars = v }) (t ++ replicate (2 * v + 2 - length t) 0) (u ++ replicate (2 * v + 2 - length u) false)
tables_grow e v t u a lt x =
    let f : (v == 0) ≡ false = grind (arith, nat_tests) in
    let st : length t ≤ 2 * v + 2 = small (length t) x.first_size in
    let su : length u ≤ 2 * v + 2 = small (length u) x.marks_size in
    record {
      first_size = rw f (omega (arith, length-append t (replicate (2 * v + 2 - length t) 0), length_replicate {A = ℕ} (2 * v + 2 - length t) 0));
      marks_size = rw f (omega (arith, length-append u (replicate (2 * v + 2 - length u) false), length_replicate {A = Bool} (2 * v + 2 - length u) false));
      first = λ l pos le. get_replicate t (2 * v + 2 - length t) (literal_code l) 0 ∙ by_test (nat_le (variable l) e.vars)
          (λ y. x.first l pos (grind (arith, nat_tests)))
          (λ y. let far : e.vars < variable l = grind (arith, nat_tests) in
          let none : has l e.lits ≡ false = not_there e.lits e.vars l a.within far in
          let z : place_in e.lits l ≡ 0 = by_test (place_in e.lits l == 0) (λ w. grind (arith, nat_tests)) (λ w. let q : has l e.lits ≡ true = place_has e.lits l ∙ ap not w in absurd cc) in
          beyond t (literal_code l) 0 (omega (arith, x.first_size, code_beyond l e.vars far)) ∙ sym z);
      marks = λ l pos le. get_replicate u (2 * v + 2 - length u) (literal_code l) false ∙ by_test (nat_le (variable l) e.vars)
          (λ y. x.marks l pos (grind (arith, nat_tests)))
          (λ y. let far : e.vars < variable l = grind (arith, nat_tests) in
          let none : has l e.lits ≡ false = not_there e.lits e.vars l a.within far in
          let z : has l (assumed_of e) ≡ false = by_test (has l (assumed_of e)) (λ w. let q : has l e.lits ≡ true = assumed_has e.lits e.reasons l w in absurd cc) (λ w. w) in
          beyond u (literal_code l) false (omega (arith, x.marks_size, code_beyond l e.vars far)) ∙ sym z);
    }
  where
    small : (n : ℕ) → n ≡ table_size e.vars → n ≤ 2 * v + 2
    small n h = by_test (e.vars == 0) (λ t. let g : n ≡ 0 = rw t at h in omega arith) (λ t. let g : n ≡ 2 * e.vars + 2 = rw t at h in omega arith)

pub entries_grow : (e : Entries) (v : ℕ) → e.vars < v → v ≤ MOST_VARS → AreEntries e → AreEntries (record e { vars = v })
entries_grow e v lt le a = record { fits = le; sizes = a.sizes; within = λ l h. omega (arith, a.within l h); once = a.once; derived_once = a.derived_once }

-- there is room for an entry
pub room_for : (e : Entries) (l : Literal) (r cap : ℕ) → AreEntries e → MayEnter e l r → 0 < variable l → most_entries e.vars ≤ cap → length e.lits < cap
room_for e l r cap a m some c =
    let n = few (with_entry e l r) (entries_push e l r a m) in
    let f : (e.vars == 0) ≡ false = let w = m.within in grind (arith, nat_tests) in
    let c' : 4 * e.vars + 4 ≤ cap = rw f at c in
    omega (arith, length-append e.lits (l ∷ []))

-- the first clash, when an entry comes or goes
pub no_pair_less : (a b : List Literal) → Includes a b → has_pair b ≡ false → has_pair a ≡ false
no_pair_less a b inc p = by_test (has_pair a) (λ t. let w = pair_tells a t in let q : has_pair b ≡ true = pair_from b (w.0, inc w.0 w.1, inc (complement w.0) w.2) in absurd cc) (λ f. f)

clash_kept : (ls : List Literal) (l : Literal) (n : ℕ) → 0 < n → IsClashAt ls n → IsClashAt (ls ++ l ∷ []) n
clash_kept ls l n pos c =
    let p = c.some pos in
    let before : take (n - 1) (ls ++ l ∷ []) ≡ take (n - 1) ls = take-append-le (n - 1) ls (l ∷ []) (omega (arith, p.within)) in
    let at : get_or (ls ++ l ∷ []) (n - 1) (plus 0) ≡ get_or ls (n - 1) (plus 0) = get_or_append_left ls (l ∷ []) (plus 0) (n - 1) p.within in
    record {
      none = λ z. absurd (omega arith);
      some = λ _. record { within = omega (arith, p.within, length-append ls (l ∷ [])); complement = rw (before, at) p.complement; none_before = rw before p.none_before };
    }

clash_new : (ls : List Literal) (l : Literal) → has_pair ls ≡ false → has (complement l) ls ≡ true → IsClashAt (ls ++ l ∷ []) (length ls + 1)
clash_new ls l p h =
    let e : (length ls + 1) - 1 ≡ length ls = omega arith in
    let before : take (length ls) (ls ++ l ∷ []) ≡ ls = take_at ls (l ∷ []) (length ls) refl in
    let at : get_or (ls ++ l ∷ []) (length ls) (plus 0) ≡ l = get_or_at ls l [] (plus 0) (length ls) refl in
    record {
      none = λ z. absurd (omega arith);
      some = λ _. subst (IsPairAt (ls ++ l ∷ [])) (sym e) (record { within = omega (arith, length-append ls (l ∷ [])); complement = rw (before, at) h; none_before = rw before p });
    }

clash_none : (ls : List Literal) (l : Literal) → has_pair ls ≡ false → has (complement l) ls ≡ false → IsClashAt (ls ++ l ∷ []) 0
clash_none ls l p h = record { none = λ z. pair_push ls l p h; some = λ pos. absurd (omega arith) }

pub clash_push : (ls : List Literal) (l : Literal) (n : ℕ) (b : Bool) → IsClashAt ls n → b ≡ has (complement l) ls → IsClashAt (ls ++ l ∷ []) (cond (n == 0) (cond b (length ls + 1) 0) n)
clash_push ls l n b c e = by_eq n 0
    (λ z. let p : has_pair ls ≡ false = c.none z in let t : (n == 0) ≡ true = grind (arith, nat_tests) in
    rw t (by_test b (λ y. rw y (clash_new ls l p (sym e ∙ y))) (λ y. rw y (clash_none ls l p (sym e ∙ y)))))
    (λ ne. let t : (n == 0) ≡ false = grind (arith, nat_tests) in rw t (clash_kept ls l n (omega (arith, ne)) c))

pub clash_pop : (ls : List Literal) (m n : ℕ) → m ≤ length ls → IsClashAt ls n → (n ≤ m → IsClashAt (take m ls) n) × (m < n → IsClashAt (take m ls) 0)
clash_pop ls m n le c = (
  (λ small. record {
    none = λ z. no_pair_less (take m ls) ls (in_take ls m) (c.none z);
    some = λ pos. let p = c.some pos in
        let before : take (n - 1) (take m ls) ≡ take (n - 1) ls = take-take (n - 1) m ls (omega arith) in
        let at : get_or (take m ls) (n - 1) (plus 0) ≡ get_or ls (n - 1) (plus 0) = get_or-take m ls (n - 1) (plus 0) (omega arith) in
        record { within = omega (arith, length-take m ls); complement = rw (before, at) p.complement; none_before = rw before p.none_before };
  }),
  (λ big. let p = c.some (omega arith) in record {
    none = λ z. no_pair_less (take m ls) (take (n - 1) ls) (λ k h. in_take (take (n - 1) ls) m k (subst (λ x. has k x ≡ true) (sym (take-take m (n - 1) ls (omega arith))) h)) p.none_before;
    some = λ pos. absurd (omega arith);
  }),
)
