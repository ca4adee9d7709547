-- What is alive before lines that are taken back.
use Rattle.std.proofs.Common.{◌≡◌, ◌⊎◌, inl, inr, ℕ, ◌<◌, ◌≤◌, ◌+◌, ◌==◌, Bool, true, false, not, ◌||◌, List, [], ◌∷◌, ◌++◌, Option, Some, None, refl, ◌∙◌, ap, subst, arith, length, append-nil}
use Rattle.std.specs.Prelude.{filter}
use Rattle.std.proofs.lemmas.Bool.Decides.{nat_tests}
use Rattle.sr_base.specs.Literal.{Literal}
use Rattle.sr_model.specs.Assignment.{holds_number}
use Rattle.sr_model.specs.Refutation.{is_empty}
use Rattle.sr_model.specs.Chain.{Numbered, clause_of}
use Rattle.sr_model.specs.Judging.{numbered_from, without}
use Rattle.sr_trimming.specs.Citing.{AreRising}
use Rattle.sr_trimming.specs.Placing.{numbers}
use Rattle.sr_model.specs.Dsr.{Lemma}
use Rattle.sr_trimming.specs.Loading.{Done, joined, removed, passed, Standing, at_start, after_done, after_all}
use Rattle.sr_trimming.specs.From.{numbered_lemmas, all_loaded, place_of}
use Rattle.sr_model.proofs.Soundness.{by_test}
use Rattle.sr_trimming.proofs.Placed.{RiseTo, rise_formula, rise_push, append_one}
use Rattle.sr_load.specs.Loaded.{joins_none}
use Rattle.sr_back.proofs.Maps.{Within, picked_test}

pub clause_of_append : (xs ys : Numbered) (n : ℕ) (c : List Literal) → clause_of xs n ≡ Some c → clause_of (xs ++ ys) n ≡ Some c
clause_of_append [] ys n c h = absurd cc
clause_of_append (p ∷ ps) ys n c h = by_test (p.0 == n) (λ e. rw e (rw e at h)) (λ e. rw e (clause_of_append ps ys n c (rw e at h)))

-- a clause of a longer list is one of the shorter, or the last
clause_of_last : (xs : Numbered) (k n : ℕ) (d c : List Literal) → clause_of (xs ++ (k, d) ∷ []) n ≡ Some c → (clause_of xs n ≡ Some c) ⊎ ((k ≡ n) × (d ≡ c))
clause_of_last [] k n d c h = by_test (k == n)
    (λ e. let g : Some d ≡ Some c = rw e at h in inr (grind (arith, nat_tests), cc))
    (λ e. let g : None ≡ Some c = rw e at h in absurd cc)
clause_of_last (p ∷ ps) k n d c h = by_test (p.0 == n) (λ e. inl (rw e (rw e at h))) (λ e. elim (clause_of_last ps k n d c (rw e at h)) [ inl g ↦ inl (rw e g) | inr g ↦ inr g ])

clause_of_end : (xs : Numbered) (k : ℕ) (d : List Literal) → clause_of xs k ≡ None → clause_of (xs ++ (k, d) ∷ []) k ≡ Some d
clause_of_end [] k d h = let e : (k == k) ≡ true = grind (arith, nat_tests) in rw e refl
clause_of_end (p ∷ ps) k d h = by_test (p.0 == k) (λ e. let g : Some p.1 ≡ None = rw e at h in absurd cc) (λ e. rw e (clause_of_end ps k d (rw e at h)))

-- the alive clauses are of a list whose numbers are below the next one
pub record Fits (st : Standing) (base : Numbered) : Type 0 where
  pub within : Within st.alive base
  pub low : (n : ℕ) (c : List Literal) → clause_of base n ≡ Some c → n < st.next

none_at_next : (st : Standing) (base : Numbered) → Fits st base → clause_of base st.next ≡ None
none_at_next st base f = at (clause_of base st.next) refl
  where
    at : (o : Option (List Literal)) → clause_of base st.next ≡ o → o ≡ None
    at None e = refl
    at (Some c) e = absurd (omega (arith, f.low st.next c e))

fits_joined : (st : Standing) (base : Numbered) (l : Lemma) → Fits st base → Fits (after_done st (joined l)) (base ++ (st.next, l.clause) ∷ [])
fits_joined st base l f = record {
  within = λ n c h. by_test (is_empty l.clause)
      (λ e. let g : clause_of st.alive n ≡ Some c = rw e at h in clause_of_append base ((st.next, l.clause) ∷ []) n c (f.within n c g))
      (λ e.
      let g : clause_of (st.alive ++ (st.next, l.clause) ∷ []) n ≡ Some c = rw e at h in
      elim (clause_of_last st.alive st.next n l.clause c g) [
        | inl i ↦ clause_of_append base ((st.next, l.clause) ∷ []) n c (f.within n c i)
        | inr i ↦ subst (λ k. clause_of (base ++ (st.next, l.clause) ∷ []) k ≡ Some c) i.0 (clause_of_end base st.next l.clause (none_at_next st base f) ∙ ap Some i.1)
      ]);
  low = λ n c h. elim (clause_of_last base st.next n l.clause c h) [ inl i ↦ omega (arith, f.low n c i) | inr i ↦ omega (arith, i.0) ];
}

fits_removed : (st : Standing) (base : Numbered) (k : ℕ) → Fits st base → Fits (after_done st (removed k)) base
fits_removed st base k f = record {
  within = λ n c h. f.within n c (picked_test (λ m. not (holds_number m (k ∷ []))) n st.alive c h).1;
  low = f.low;
}

pub fits_all : (st : Standing) (base : Numbered) (ds us : List Done) → Fits st base → Within (after_all st ds).alive (base ++ numbered_lemmas st.next (ds ++ us)) × ((n : ℕ) (c : List Literal) → clause_of (after_all st ds).alive n ≡ Some c → n < (after_all st ds).next)
fits_all st base [] us f = (λ n c h. clause_of_append base (numbered_lemmas st.next us) n c (f.within n c h), λ n c h. f.low n c (f.within n c h))
fits_all st base (joined l ∷ ds) us f =
    let r = fits_all (after_done st (joined l)) (base ++ (st.next, l.clause) ∷ []) ds us (fits_joined st base l f) in
    (subst (λ x. Within (after_all (after_done st (joined l)) ds).alive x) (append_one base (numbered_lemmas (st.next + 1) (ds ++ us)) (st.next, l.clause)) r.0, r.1)
fits_all st base (removed k ∷ ds) us f = fits_all (after_done st (removed k)) base ds us (fits_removed st base k f)
fits_all st base (passed ∷ ds) us f = fits_all st base ds us f

pub numbered_low : (k n : ℕ) (f : List (List Literal)) (c : List Literal) → clause_of (numbered_from k f) n ≡ Some c → n < k + length f
numbered_low k n [] c h = absurd cc
numbered_low k n (d ∷ ds) c h = by_test (k == n) (λ e. grind (arith, nat_tests)) (λ e. let g : n < k + 1 + length ds = numbered_low (k + 1) n ds c (rw e at h) in omega arith)

-- what is alive after lines is of all clauses, and its numbers are below the next one
pub alive_fits : (f : List (List Literal)) (ds us : List Done) → Within (after_all (at_start f) ds).alive (all_loaded f (ds ++ us)) × ((n : ℕ) (c : List Literal) → clause_of (after_all (at_start f) ds).alive n ≡ Some c → n < (after_all (at_start f) ds).next)
alive_fits f ds us = fits_all (at_start f) (numbered_from 1 f) ds us (record { within = λ n c h. h; low = λ n c h. let g = numbered_low 1 n f c h in omega arith })

rises_to : (k : ℕ) (ps : Numbered) (last : ℕ) → RiseTo k ps last → AreRising k ps
rises_to k [] last r = tt
rises_to k (p ∷ ps) last r = (r.0, rises_to p.0 ps last r.1)

rise_lemmas : (base : Numbered) (last n : ℕ) (ds : List Done) → RiseTo 0 base last → last < n → AreRising 0 (base ++ numbered_lemmas n ds)
rise_lemmas base last n [] r h = rw (append-nil base) (rises_to 0 base last r)
rise_lemmas base last n (joined l ∷ ds) r h = subst (λ x. AreRising 0 x) (append_one base (numbered_lemmas (n + 1) ds) (n, l.clause)) (rise_lemmas (base ++ (n, l.clause) ∷ []) n (n + 1) ds (rise_push 0 base last n l.clause r h) (omega arith))
rise_lemmas base last n (removed k ∷ ds) r h = rise_lemmas base last n ds r h
rise_lemmas base last n (passed ∷ ds) r h = rise_lemmas base last n ds r h

pub all_rise : (f : List (List Literal)) (ds : List Done) → AreRising 0 (all_loaded f ds)
all_rise f ds = rise_lemmas (numbered_from 1 f) (length f) (length f + 1) ds (rise_formula f) (omega arith)

rise_lower : (m n : ℕ) (ps : Numbered) (last : ℕ) → m ≤ n → RiseTo n ps last → RiseTo m ps last
rise_lower m n [] last h r = omega (arith, r)
rise_lower m n (p ∷ ps) last h r = (omega (arith, r.0), r.1)

rise_cut : (t : ℕ × List Literal → Bool) (n : ℕ) (ps : Numbered) (last : ℕ) → RiseTo n ps last → RiseTo n (filter t ps) last
rise_cut t n [] last r = r
rise_cut t n (p ∷ ps) last r = by_test (t p) (λ e. rw e (r.0, rise_cut t p.0 ps last r.1)) (λ e. rw e (rise_lower n p.0 (filter t ps) last (omega (arith, r.0)) (rise_cut t p.0 ps last r.1)))

-- what is alive rises
alive_from : (st : Standing) (ds : List Done) (last : ℕ) → RiseTo 0 st.alive last → last < st.next → AreRising 0 (after_all st ds).alive
alive_from st [] last r h = rises_to 0 st.alive last r
alive_from st (joined l ∷ ds) last r h = by_test (is_empty l.clause)
    (λ e. alive_from (after_done st (joined l)) ds last (rw e r) (omega arith))
    (λ e. alive_from (after_done st (joined l)) ds st.next (rw e (rise_push 0 st.alive last st.next l.clause r h)) (omega arith))
alive_from st (removed k ∷ ds) last r h = alive_from (after_done st (removed k)) ds last (rise_cut (λ p. not (holds_number p.0 (k ∷ []))) 0 st.alive last r) h
alive_from st (passed ∷ ds) last r h = alive_from st ds last r h

pub alive_rises : (f : List (List Literal)) (ds : List Done) → AreRising 0 (after_all (at_start f) ds).alive
alive_rises f ds = alive_from (at_start f) ds (length f) (rise_formula f) (omega arith)

pub after_append : (st : Standing) (ds us : List Done) → after_all st (ds ++ us) ≡ after_all (after_all st ds) us
after_append st [] us = refl
after_append st (d ∷ ds) us = after_append (after_done st d) ds us

pub next_grows : (st : Standing) (ds : List Done) → st.next ≤ (after_all st ds).next
next_grows st [] = omega arith
next_grows st (joined l ∷ ds) = omega (arith, next_grows (after_done st (joined l)) ds)
next_grows st (removed k ∷ ds) = next_grows (after_done st (removed k)) ds
next_grows st (passed ∷ ds) = next_grows st ds

-- the lemma whose line comes after some lines
pub place_found : (st : Standing) (ds : List Done) (l : Lemma) (us : List Done) → place_of st (ds ++ joined l ∷ us) (after_all st ds).next ≡ Some (record { alive = (after_all st ds).alive; stated = l })
place_found st [] l us = let e : (st.next == st.next) ≡ true = grind (arith, nat_tests) in rw e refl
place_found st (joined k ∷ ds) l us =
    let up : st.next + 1 ≤ (after_all (after_done st (joined k)) ds).next = next_grows (after_done st (joined k)) ds in
    let other : (st.next == (after_all (after_done st (joined k)) ds).next) ≡ false = grind (arith, nat_tests) in
    rw other (place_found (after_done st (joined k)) ds l us)
place_found st (removed k ∷ ds) l us = place_found (after_done st (removed k)) ds l us
place_found st (passed ∷ ds) l us = place_found st ds l us

numbers_last : (n k : ℕ) (ps : Numbered) (c : List Literal) → holds_number n (numbers (ps ++ (k, c) ∷ [])) ≡ (holds_number n (numbers ps) || (k == n))
numbers_last n k [] c = grind arith
numbers_last n k (p ∷ ps) c = grind (arith, numbers_last n k ps c)

numbers_kept : (n k : ℕ) (ps : Numbered) → holds_number n (numbers (without (k ∷ []) ps)) ≡ true → holds_number n (numbers ps) ≡ true
numbers_kept n k [] h = h
numbers_kept n k (p ∷ ps) h = by_test (holds_number p.0 (k ∷ [])) (λ e. grind (arith, numbers_kept n k ps)) (λ e. grind (arith, numbers_kept n k ps))

-- lines without a lemma only take away
pub alive_before : (n : ℕ) (st : Standing) (ds : List Done) → joins_none ds ≡ true → holds_number n (numbers (after_all st ds).alive) ≡ true → holds_number n (numbers st.alive) ≡ true
alive_before n st [] j h = h
alive_before n st (joined l ∷ ds) j h = absurd cc
alive_before n st (removed k ∷ ds) j h = numbers_kept n k st.alive (alive_before n (after_done st (removed k)) ds j h)
alive_before n st (passed ∷ ds) j h = alive_before n st ds j h

pub alive_before_lemma : (n : ℕ) (st : Standing) (l : Lemma) → n < st.next → holds_number n (numbers (after_done st (joined l)).alive) ≡ true → holds_number n (numbers st.alive) ≡ true
alive_before_lemma n st l b h = by_test (is_empty l.clause) (λ e. rw e at h) (λ e. let g : holds_number n (numbers (st.alive ++ (st.next, l.clause) ∷ [])) ≡ true = rw e at h in grind (arith, nat_tests, numbers_last n st.next st.alive l.clause))

pub next_kept : (st : Standing) (ds : List Done) → joins_none ds ≡ true → (after_all st ds).next ≡ st.next
next_kept st [] j = refl
next_kept st (joined l ∷ ds) j = absurd cc
next_kept st (removed k ∷ ds) j = next_kept (after_done st (removed k)) ds j
next_kept st (passed ∷ ds) j = next_kept st ds j
