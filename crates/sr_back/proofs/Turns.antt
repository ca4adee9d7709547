-- The turns of a backward pass.
use Rattle.std.proofs.Common.{◌≡◌, inl, inr, ℕ, ◌<◌, ◌≤◌, ◌==◌, Bool, true, false, cond, not, List, [], ◌∷◌, ◌++◌, Option, Some, None, refl, sym, ◌∙◌, ap, subst, arith}
use Rattle.std.specs.Prelude.{filter, nat_le, nat_lt}
use Rattle.std.proofs.lemmas.Bool.Decides.{nat_tests}
use Rattle.sr_base.specs.Literal.{Literal}
use Rattle.sr_model.specs.Assignment.{holds_number}
use Rattle.sr_model.specs.Refutation.{is_empty}
use Rattle.sr_model.specs.Chain.{Numbered}
use Rattle.sr_model.specs.Meeting.{Step}
use Rattle.sr_model.specs.Judging.{numbered_from}
use Rattle.sr_model.proofs.Soundness.{by_test}
use Rattle.sr_steps.specs.Kept.{Kept}
use Rattle.sr_trimming.specs.Citing.{cites, is_cited, cited_of, below, need, numbered_steps, all_of}
use Rattle.sr_trimming.specs.Placing.{numbers}
use Rattle.sr_trimming.specs.Lean.{is_lean, IsLean}
use Rattle.sr_trimming.specs.Loading.{Done, at_start}
use Rattle.sr_trimming.specs.From.{Place, place_of, CitesAlive, IsStepOf, AreFrom}
use Rattle.sr_trimming.specs.Backward.{AreLinked}
use Rattle.sr_trimming.specs.CoreFirst.{StepIsCoreFirst}
use Rattle.sr_trimming.proofs.Placed.{rise_again}
use Rattle.sr_load.specs.Loaded.{LoadedState, all_lines, all_in, alive_in, cited_alive, standing_in}
use Rattle.sr_back.specs.Citing.{with_cited, CitedAreAlive}
use Rattle.sr_back.specs.Testing.{place_in, steps_in, with_assumed}
use Rattle.sr_trimming.specs.Evidence.{FailsAt}
use Rattle.sr_back.specs.Turning.{IsKept, IsTurn, LemmaEnd}
use Rattle.sr_back.proofs.Maps.{Within, clause_picked, picked, picked_test, found_number, number_found}
use Rattle.sr_back.proofs.Maps.{lean_same as lean_alike}
use Rattle.sr_back.proofs.Standing.{all_rise, alive_rises}
use Rattle.sr_back.proofs.Exact.{rising_same}
use Rattle.sr_back.proofs.Indexing.{alive_within, alive_low}

above : (n id : ℕ) → not (nat_le id n) ≡ true → n < id
above n id h = grind (arith, nat_tests)

not_above : (n id : ℕ) → n < id → not (nat_le id n) ≡ true
not_above n id h = grind (arith, nat_tests)

-- what a step and the later ones need are the alive clauses that they cite
pub need_is : (st : LoadedState) (s : Step) (later : List Step) → s.id ≡ (standing_in st).next → ((n : ℕ) → n < (standing_in st).next → is_cited n (s ∷ later) ≡ true → holds_number n (numbers (alive_in st)) ≡ true)
    → need (all_in st) s later ≡ cited_of (alive_in st) (s ∷ later)
need_is st s later e a = rising_same 0 (need (all_in st) s later) (cited_of (alive_in st) (s ∷ later))
    (rise_again (λ p. is_cited p.0 (s ∷ later)) 0 (below s.id (all_in st)) (rise_again (λ p. not (nat_le s.id p.0)) 0 (all_in st) (all_rise st.formula.clauses (all_lines st))))
    (rise_again (λ p. is_cited p.0 (s ∷ later)) 0 (alive_in st) (alive_rises st.formula.clauses st.standing))
    into back
  where
    into : Within (need (all_in st) s later) (cited_of (alive_in st) (s ∷ later))
    into n c f =
        let x = picked_test (λ n. is_cited n (s ∷ later)) n (below s.id (all_in st)) c f in
        let y = picked_test (λ n. not (nat_le s.id n)) n (all_in st) c x.1 in
        let low : n < (standing_in st).next = subst (λ k. n < k) e (above n s.id y.0) in
        let g = found_number n (alive_in st) (a n low x.0) in
        let two : Some g.0 ≡ Some c = sym (alive_within st n g.0 g.1) ∙ y.1 in
        picked (λ n. is_cited n (s ∷ later)) n (alive_in st) c x.0 (g.1 ∙ two)

    back : Within (cited_of (alive_in st) (s ∷ later)) (need (all_in st) s later)
    back n c f =
        let x = picked_test (λ n. is_cited n (s ∷ later)) n (alive_in st) c f in
        let low : n < s.id = subst (λ k. n < k) (sym e) (alive_low st n (number_found n (alive_in st) c x.1)) in
        picked (λ n. is_cited n (s ∷ later)) n (below s.id (all_in st)) c x.0 (picked (λ n. not (nat_le s.id n)) n (all_in st) c (not_above n s.id low) (alive_within st n c x.1))

-- a chain is as lean over the clauses that it cites
pub lean_cited : (live : Numbered) (steps : List Step) (a : List Literal) (hints : List ℕ) → ((n : ℕ) → holds_number n hints ≡ true → is_cited n steps ≡ true) → is_lean live a hints ≡ true → is_lean (cited_of live steps) a hints ≡ true
lean_cited live steps a hints c l = sym (lean_alike live (cited_of live steps) a hints (λ h m. sym (clause_picked (λ n. is_cited n steps) h live ∙ (let y : is_cited h steps ≡ true = c h m in rw y refl)))) ∙ l

filter_alike : (t u : ℕ × List Literal → Bool) (ps : Numbered) → ((p : ℕ × List Literal) → t p ≡ u p) → filter t ps ≡ filter u ps
filter_alike t u [] f = refl
filter_alike t u (p ∷ ps) f = ap (λ b. cond b (p ∷ filter t ps) (filter t ps)) (f p) ∙ ap (λ xs. cond (u p) (p ∷ xs) xs) (filter_alike t u ps f)

-- what is picked of more is picked of all
pub filter_twice : (t u : ℕ × List Literal → Bool) (ps : Numbered) → ((p : ℕ × List Literal) → t p ≡ true → u p ≡ true) → filter t (filter u ps) ≡ filter t ps
filter_twice t u [] f = refl
filter_twice t u (p ∷ ps) f = by_test (u p)
    (λ y. rw y (ap (λ xs. cond (t p) (p ∷ xs) xs) (filter_twice t u ps f)))
    (λ y. let out : t p ≡ false = by_test (t p) (λ z. absurd (let g : u p ≡ true = f p z in cc)) (λ z. z) in rw (y, out) (filter_twice t u ps f))

-- the clauses that later steps cite, of those that a step and later ones cite, are the cited alive ones
pub later_is : (st : LoadedState) (s : Step) (later : List Step) → ((n : ℕ) → holds_number n st.cited ≡ is_cited n later) → cited_of (cited_of (alive_in st) (s ∷ later)) later ≡ cited_alive st
later_is st s later c = filter_twice (λ p. is_cited p.0 later) (λ p. is_cited p.0 (s ∷ later)) (alive_in st) (λ p h. grind arith) ∙ filter_alike (λ p. is_cited p.0 later) (λ p. holds_number p.0 st.cited) (alive_in st) (λ p. sym (c p.0))

pub link_lower : (low last : ℕ) (steps : List Step) → low ≤ last → AreLinked last steps → AreLinked low steps
link_lower low last [] h l = l
link_lower low last (s ∷ []) h l = (omega (arith, l.0), l.1)
link_lower low last (s ∷ t ∷ later) h l = (omega (arith, l.0), l.1, l.2, l.3)

link_more : (last : ℕ) (s : Step) (kept : List Step) → last < s.id → is_empty s.clause ≡ false → is_cited s.id kept ≡ true → AreLinked s.id kept → AreLinked last (s ∷ kept)
link_more last s [] h e c l = absurd l
link_more last s (t ∷ later) h e c l = (h, e, c, l)

from_more : (f : List (List Literal)) (ds : List Done) (s : Step) (kept : List Step) → (p : Place) × (place_of (at_start f) ds s.id ≡ Some p) × IsStepOf s p → AreFrom f ds kept → AreFrom f ds (s ∷ kept)
from_more f ds s [] p r = absurd r
from_more f ds s (t ∷ later) p r = (p, r)

-- the numbers of formula clauses and steps
known_more : (f : List (List Literal)) (s : Step) (steps : List Step) (n : ℕ) → holds_number n (numbers (all_of f steps)) ≡ true → holds_number n (numbers (all_of f (s ∷ steps))) ≡ true
known_more f s steps n h = numbers_insert (numbered_from 1 f) (s.id, s.clause) (numbered_steps steps) n h
  where
    numbers_insert : (ps : Numbered) (q : ℕ × List Literal) (qs : Numbered) (n : ℕ) → holds_number n (numbers (ps ++ qs)) ≡ true → holds_number n (numbers (ps ++ q ∷ qs)) ≡ true
    numbers_insert [] q qs n h = grind arith
    numbers_insert (p ∷ ps) q qs n h = by_test (p.0 == n) (λ e. grind arith) (λ e. grind (arith, numbers_insert ps q qs n))

known_step : (f : List (List Literal)) (s : Step) (steps : List Step) → holds_number s.id (numbers (all_of f (s ∷ steps))) ≡ true
known_step f s steps = numbers_there (numbered_from 1 f) (s.id, s.clause) (numbered_steps steps)
  where
    numbers_there : (ps : Numbered) (q : ℕ × List Literal) (qs : Numbered) → holds_number q.0 (numbers (ps ++ q ∷ qs)) ≡ true
    numbers_there [] q qs = grind (arith, nat_tests)
    numbers_there (p ∷ ps) q qs = by_test (p.0 == q.0) (λ e. grind arith) (λ e. grind (arith, numbers_there ps q qs))

-- a step more is kept
pub record IsStepAt (st : LoadedState) (id : ℕ) (p : Place) (s : Step) (steps : List Step) : Type 0 where
  pub number : s.id ≡ id
  pub full : is_empty s.clause ≡ false
  pub of : IsStepOf s p
  pub lean : IsLean (cited_of (alive_in st) (s ∷ steps)) s
  pub core_first : StepIsCoreFirst (cited_of (alive_in st) (s ∷ steps)) steps s s.witness

cites_there : (st : LoadedState) (s : Step) (steps : List Step) → CitedAreAlive st → ((n : ℕ) → holds_number n st.cited ≡ is_cited n steps) → CitesAlive (alive_in st) s
    → (n : ℕ) → n < (standing_in st).next → is_cited n (s ∷ steps) ≡ true → holds_number n (numbers (alive_in st)) ≡ true
cites_there st s steps a c l n low h = by_test (cites n s) (λ y. l n y) (λ y. a n (let g : holds_number n st.cited ≡ is_cited n steps = c n in grind (arith, nat_tests)))

pub kept_more : (st new : LoadedState) (id : ℕ) (s : Step) (steps : List Step) → (t : IsTurn st id steps) → new ≡ with_cited st new.cited → ((n : ℕ) → holds_number n new.cited ≡ is_cited n (s ∷ steps))
    → IsStepAt st id t.place s steps → IsKept new (s ∷ steps)
kept_more st new id s steps t same cited at =
    let live : CitesAlive (alive_in st) s = subst (λ ps. CitesAlive ps s) t.before at.of.cites_alive in
    let there = cites_there st s steps t.alive t.cites live in
    let needs : need (all_in st) s steps ≡ cited_of (alive_in st) (s ∷ steps) = need_is st s steps (at.number ∙ t.number) there in
    let next : (standing_in st).next ≡ id = sym t.number in
    let k : IsKept (with_cited st new.cited) (s ∷ steps) = record {
      sound = record { in_conflict = t.sound.in_conflict; distinct = t.sound.distinct };
      passed = λ last e. record {
        linked = link_more last s steps (omega (arith, at.number, next)) at.full (subst (λ n. is_cited n steps ≡ true) (sym at.number) t.cited) (subst (λ n. AreLinked n steps) (sym at.number) t.tail.linked);
        from = from_more st.formula.clauses (all_lines st) s steps (t.place, ap (place_in st) at.number ∙ t.is_place, at.of) t.tail.from;
        lean = (subst (λ ps. IsLean ps s) (sym needs) at.lean, t.tail.lean);
        core_first = (subst (λ ps. StepIsCoreFirst ps steps s s.witness) (sym needs) at.core_first, t.tail.core_first);
      };
      cites = cited;
      alive = λ n h. there n (let g : nat_lt n (standing_in st).next ≡ true = grind arith in grind (arith, nat_tests)) (let g : holds_number n new.cited ≡ is_cited n (s ∷ steps) = cited n in grind arith);
      known = λ n h. by_test (cites n s)
          (λ y. inl (alive_low st n (live n y)))
          (λ y. elim (t.known n (grind arith)) [
            | inl low ↦ by_test (n == id)
                (λ z. let is : s.id ≡ n = at.number ∙ (let q : id ≡ n = grind (arith, nat_tests) in q) in inr (subst (λ m. holds_number m (numbers (all_of st.formula.clauses (s ∷ steps))) ≡ true) is (known_step st.formula.clauses s steps)))
                (λ z. inl (let other : n < id = grind (arith, nat_tests) in omega (arith, next)))
            | inr k ↦ inr (known_more st.formula.clauses s steps n k)
          ]);
    } in
    subst (λ x. IsKept x (s ∷ steps)) (sym same) k

-- what is assumed plays no part in what is kept
pub kept_undone : (st new : LoadedState) (steps : List Step) → new ≡ with_assumed st new.assumed → IsKept st steps → IsKept new steps
kept_undone st new steps e k =
    let u : IsKept (with_assumed st new.assumed) steps = record {
      sound = record { in_conflict = k.sound.in_conflict; distinct = k.sound.distinct };
      passed = k.passed;
      cites = k.cites;
      alive = k.alive;
      known = k.known;
    } in
    subst (λ x. IsKept x steps) (sym e) u

pub end_undone : (st new : LoadedState) (id : ℕ) (kept : List Kept) (r : Option ℕ) → new ≡ with_assumed st new.assumed → LemmaEnd st id kept r → LemmaEnd new id kept r
end_undone st new id kept None e k = subst (IsKept new) (sym (ap (λ x. steps_in x kept) e)) (kept_undone st new (steps_in st kept) e k)
end_undone st new id kept (Some against) e f = (f.0, f.1, subst (λ x. FailsAt x.formula.clauses (all_lines x) id against f.0 f.1) (sym e) f.2)
