-- Lines that are taken back.
use Rattle.std.proofs.Common.{◌≡◌, inl, inr, ℕ, ◌<◌, ◌≤◌, ◌+◌, ◌==◌, true, false, not, ◌||◌, ◌&&◌, List, [], ◌∷◌, ◌++◌, Option, Some, None, refl, sym, ◌∙◌, ap, subst, arith, length, append-nil}
use Rattle.std.specs.Prelude.{nat_lt, All}
use Rattle.std.proofs.lemmas.Bool.Decides.{nat_tests}
use Rattle.sr_base.specs.Literal.{Literal, NoRepeats}
use Rattle.sr_model.specs.Assignment.{holds_number}
use Rattle.sr_model.specs.Refutation.{is_empty, Refutes}
use Rattle.sr_model.specs.Chain.{Numbered, clauses, clause_of}
use Rattle.sr_model.specs.Meeting.{Step}
use Rattle.sr_model.specs.Judging.{numbered_from}
use Rattle.sr_model.specs.Dsr.{Lemma}
use Rattle.sr_model.proofs.Soundness.{by_test}
use Rattle.sr_steps.specs.Kept.{Kept, step_at, step_of}
use Rattle.sr_trimming.specs.Citing.{cites, is_cited, cited_of, need, numbered_steps, all_of}
use Rattle.sr_trimming.specs.Placing.{numbers}
use Rattle.sr_trimming.specs.Lean.{is_lean}
use Rattle.sr_trimming.specs.Loading.{Done, joined, removed, passed, Standing, at_start, after_done, after_all, at_conflict, at_empty_lemma, InConflict, is_empty_lemma, StopsAfter}
use Rattle.sr_trimming.specs.From.{numbered_lemmas, all_loaded, Place, place_of}
use Rattle.sr_trimming.specs.Written.{CiteKnown}
use Rattle.sr_trimming.specs.CoreFirst.{IsCoreFirst}
use Rattle.sr_trimming.proofs.Written.{absent_append}
use Rattle.sr_load.specs.Loaded.{LoadedState, all_lines, all_in, alive_in, cited_alive, standing_in, next_of, IsLoaded, TookBack, TookAll, IsChain, Tests}
use Rattle.sr_back.specs.Citing.{with_cited, CitesAll, is_standing, CitedAreAlive}
use Rattle.sr_back.specs.Testing.{place_in, steps_in}
use Rattle.sr_back.specs.Pass.{steps_of, IsWholePass, KeepsProof, IsPass, FailsRightly}
use Rattle.sr_back.specs.declared.passing.Back.{Back}
use Rattle.sr_back.specs.declared.passing.Back.TheVariants.{Done as whole, Failed}
use Rattle.sr_trimming.proofs.Evidence.{never_fails}
use Rattle.sr_back.specs.Turning.{IsTail, tail_in, IsSound, IsKept, IsTurn, LemmaEnd}
use Rattle.sr_trimming.specs.Evidence.{FailsAt}
use Rattle.sr_back.proofs.Standing.{numbered_low, after_append, next_grows, next_kept, place_found, alive_before, alive_before_lemma}
use Rattle.sr_back.proofs.Indexing.{alive_low, took_lines, took_next, took_standing}
use Rattle.sr_back.proofs.Alive.{lean_live}
use Rattle.sr_back.proofs.Turns.{need_is, lean_cited, later_is, link_lower}

-- a lemma's number is below those after the lines
pub place_below : (st : Standing) (ds : List Done) (n : ℕ) (p : Place) → place_of st ds n ≡ Some p → (st.next ≤ n) × (n < (after_all st ds).next)
place_below st [] n p e = absurd cc
place_below st (joined l ∷ ds) n p e = by_test (st.next == n)
    (λ y. let is : st.next ≡ n = grind (arith, nat_tests) in let up = next_grows (after_done st (joined l)) ds in (omega arith, omega arith))
    (λ y. let r = place_below (after_done st (joined l)) ds n p (rw y at e) in (omega (arith, r.0), r.1))
place_below st (removed k ∷ ds) n p e = place_below (after_done st (removed k)) ds n p e
place_below st (passed ∷ ds) n p e = place_below st ds n p e

pub no_place : (st : Standing) (ds : List Done) → place_of st ds (after_all st ds).next ≡ None
no_place st ds = at (place_of st ds (after_all st ds).next) refl
  where
    at : (o : Option Place) → place_of st ds (after_all st ds).next ≡ o → o ≡ None
    at None e = refl
    at (Some p) e = absurd (let r = place_below st ds (after_all st ds).next p e in omega (arith, r.1))

-- its clause stands under its number
place_lemma : (st : Standing) (ds : List Done) (n : ℕ) (p : Place) → place_of st ds n ≡ Some p → clause_of (numbered_lemmas st.next ds) n ≡ Some p.stated.clause
place_lemma st [] n p e = absurd cc
place_lemma st (joined l ∷ ds) n p e = by_test (st.next == n)
    (λ y. let two : Some (record { alive = st.alive; stated = l }) ≡ Some p = rw y at e in rw y (of_two p l st.alive two))
    (λ y. rw y (place_lemma (after_done st (joined l)) ds n p (rw y at e)))
  where
    of_two : (p : Place) (l : Lemma) (alive : Numbered) → Some (record { alive = alive; stated = l }) ≡ Some p → Some l.clause ≡ Some p.stated.clause
    of_two p l alive h = let q : Place = record { alive = alive; stated = l } in let is : q ≡ p = cc in ap (λ x. Some x.stated.clause) is
place_lemma st (removed k ∷ ds) n p e = place_lemma (after_done st (removed k)) ds n p e
place_lemma st (passed ∷ ds) n p e = place_lemma st ds n p e

pub place_clause : (st : LoadedState) (n : ℕ) (p : Place) → place_in st n ≡ Some p → clause_of (all_in st) n ≡ Some p.stated.clause
place_clause st n p e =
    let f : List (List Literal) = st.formula.clauses in
    let r = place_below (at_start f) (all_lines st) n p e in
    absent_append (numbered_from 1 f) (numbered_lemmas (length f + 1) (all_lines st)) n (none (clause_of (numbered_from 1 f) n) refl (omega (arith, r.0))) ∙ place_lemma (at_start f) (all_lines st) n p e
  where
    none : (o : Option (List Literal)) → clause_of (numbered_from 1 st.formula.clauses) n ≡ o → length st.formula.clauses < n → clause_of (numbered_from 1 st.formula.clauses) n ≡ None
    none None h up = h
    none (Some c) h up = absurd (let low = numbered_low 1 n st.formula.clauses c h in omega arith)

-- the numbers of lemmas
pub turn_low : (st : LoadedState) (id : ℕ) (steps : List Step) → IsTurn st id steps → length st.formula.clauses < id
turn_low st id steps t = let r = place_below (at_start st.formula.clauses) (all_lines st) id t.place t.is_place in omega (arith, r.0)

pub turn_high : (st : LoadedState) (id : ℕ) (steps : List Step) → IsTurn st id steps → id < next_of st
turn_high st id steps t = (place_below (at_start st.formula.clauses) (all_lines st) id t.place t.is_place).1

-- a turn
same_formula : (old new : LoadedState) (id : ℕ) → TookBack old new id → new.formula ≡ old.formula
same_formula old new id b = ap (λ x. x.formula) b.same

took_sound : (old new : LoadedState) (id : ℕ) → TookBack old new id → IsSound old → IsSound new
took_sound old new id b s =
    let lines : all_lines new ≡ all_lines old = took_lines old new id b in
    let f : new.formula ≡ old.formula = same_formula old new id b in
    record {
      in_conflict = subst (λ x. InConflict (after_all (at_start x.clauses) (all_lines new)).alive) (sym f) (subst (λ ds. InConflict (after_all (at_start old.formula.clauses) ds).alive) (sym lines) s.in_conflict);
      distinct = subst (λ x. All NoRepeats (clauses (all_loaded x.clauses (all_lines new)))) (sym f) (subst (λ ds. All NoRepeats (clauses (all_loaded old.formula.clauses ds))) (sym lines) s.distinct);
    }

took_tail : (old new : LoadedState) (id last : ℕ) (steps : List Step) → TookBack old new id → tail_in old last steps → tail_in new last steps
took_tail old new id last steps b t = subst (λ x. IsTail x.clauses (all_lines new) last steps) (sym (same_formula old new id b)) (subst (λ ds. IsTail old.formula.clauses ds last steps) (sym (took_lines old new id b)) t)

-- what was alive before the line, of lower number, was alive before it
took_alive : (old new : LoadedState) (id n : ℕ) → (b : TookBack old new id) → holds_number n (numbers (alive_in old)) ≡ true → holds_number n (numbers (after_done (standing_in new) (joined b.stated)).alive) ≡ true
took_alive old new id n b h =
    let f : new.formula ≡ old.formula = same_formula old new id b in
    let parts : standing_in old ≡ after_all (after_done (standing_in new) (joined b.stated)) b.rest =
    ap (after_all (at_start old.formula.clauses)) b.stood ∙ ap (λ x. after_all (at_start x.clauses) (new.standing ++ joined b.stated ∷ b.rest)) (sym f) ∙ after_append (at_start new.formula.clauses) new.standing (joined b.stated ∷ b.rest) in
    alive_before n (after_done (standing_in new) (joined b.stated)) b.rest b.no_lemma (subst (λ x. holds_number n (numbers x.alive) ≡ true) parts h)

took_cited : (old new : LoadedState) (id : ℕ) → TookBack old new id → CitedAreAlive old → CitedAreAlive new
took_cited old new id b a n s =
    let split : (is_standing old n && not (id == n)) ≡ true = sym (took_standing old new id b n) ∙ s in
    let low : n < (standing_in new).next = standing_low new n s in
    alive_before_lemma n (standing_in new) b.stated low (took_alive old new id n b (a n (grind arith)))
  where
    standing_low : (st : LoadedState) (n : ℕ) → is_standing st n ≡ true → n < (standing_in st).next
    standing_low st n s = (let t : nat_lt n (standing_in st).next ≡ true = grind arith in grind (arith, nat_tests))

took_place : (old new : LoadedState) (id : ℕ) → (b : TookBack old new id) → place_in new id ≡ Some (record { alive = alive_in new; stated = b.stated })
took_place old new id b =
    ap (λ u. place_of (at_start new.formula.clauses) (new.standing ++ u) id) b.undone ∙ ap (place_of (at_start new.formula.clauses) (new.standing ++ (joined b.stated ∷ (b.rest ++ old.undone)))) b.number
    ∙ place_found (at_start new.formula.clauses) new.standing b.stated (b.rest ++ old.undone)

took_full : (old new : LoadedState) (id : ℕ) → (b : TookBack old new id) → CitedAreAlive old → holds_number id old.cited ≡ true → is_empty b.stated.clause ≡ false
took_full old new id b a c =
    let next : (standing_in old).next ≡ id + 1 = took_next old new id b in
    let s : is_standing old id ≡ true = (let t : nat_lt id (standing_in old).next ≡ true = grind (arith, nat_tests) in grind arith) in
    let there : holds_number id (numbers (after_done (standing_in new) (joined b.stated)).alive) ≡ true = took_alive old new id id b (a id s) in
    by_test (is_empty b.stated.clause)
    (λ y. absurd (let was : holds_number id (numbers (alive_in new)) ≡ true = rw y at there in let low = alive_low new id was in let is = b.number in omega arith))
    (λ y. y)

pub turn_back : (old new : LoadedState) (id : ℕ) (steps : List Step) → IsKept old steps → TookBack old new id → holds_number id new.cited ≡ false → IsKept new steps
turn_back old new id steps k b c =
    let next : (standing_in old).next ≡ id + 1 = took_next old new id b in
    let same-cited : new.cited ≡ old.cited = ap (λ x. x.cited) b.same in
    let cites : (n : ℕ) → holds_number n new.cited ≡ is_cited n steps = λ n. ap (holds_number n) same-cited ∙ k.cites n in
    record {
      sound = took_sound old new id b k.sound;
      passed = λ last e.
          let t : tail_in new id steps = took_tail old new id id steps b (k.passed id next) in
          let low : last ≤ id = omega (arith, b.number) in
          record { linked = link_lower last id steps low t.linked; from = t.from; lean = t.lean; core_first = t.core_first };
      cites = cites;
      alive = took_cited old new id b k.alive;
      known = λ n h. elim (k.known n h) [
        | inl low ↦ inl (by_test (n == id)
            (λ y. let is : n ≡ id = grind (arith, nat_tests) in let also : is_cited id steps ≡ true = subst (λ m. is_cited m steps ≡ true) is h in let none : is_cited id steps ≡ false = sym (cites id) ∙ c in absurd cc)
            (λ y. let other : n < id = grind (arith, nat_tests) in omega (arith, b.number)))
        | inr there ↦ inr (subst (λ x. holds_number n (numbers (all_of x.clauses steps)) ≡ true) (sym (same_formula old new id b)) there)
      ];
    }

pub turn_begins : (old new : LoadedState) (id : ℕ) (steps : List Step) → IsKept old steps → TookBack old new id → holds_number id new.cited ≡ true → IsTurn new id steps
turn_begins old new id steps k b c =
    let next : (standing_in old).next ≡ id + 1 = took_next old new id b in
    let same-cited : new.cited ≡ old.cited = ap (λ x. x.cited) b.same in
    let cites : (n : ℕ) → holds_number n new.cited ≡ is_cited n steps = λ n. ap (holds_number n) same-cited ∙ k.cites n in
    record {
      sound = took_sound old new id b k.sound;
      place = record { alive = alive_in new; stated = b.stated };
      is_place = took_place old new id b;
      before = refl;
      full = took_full old new id b k.alive (ap (holds_number id) (sym same-cited) ∙ c);
      number = b.number;
      tail = took_tail old new id id steps b (k.passed id next);
      cited = sym (cites id) ∙ c;
      cites = cites;
      alive = took_cited old new id b k.alive;
      known = λ n h. elim (k.known n h) [
        | inl low ↦ inl (subst (λ m. n < m) next low)
        | inr there ↦ inr (subst (λ x. holds_number n (numbers (all_of x.clauses steps)) ≡ true) (sym (same_formula old new id b)) there)
      ];
    }

longer : (xs : List Done) (d : Done) (ys : List Done) → length xs < length (xs ++ d ∷ ys)
longer [] d ys = omega arith
longer (x ∷ xs) d ys = omega (arith, longer xs d ys)

pub fewer_lines : (old new : LoadedState) (id : ℕ) → TookBack old new id → length new.standing < length old.standing
fewer_lines old new id b = subst (λ x. length new.standing < length x) (sym b.stood) (longer new.standing (joined b.stated) b.rest)

pub took_proof : (old new : LoadedState) (id : ℕ) → TookBack old new id → KeepsProof old new
took_proof old new id b = record { formula = same_formula old new id b; lines = took_lines old new id b }

pub took_all_proof : (old new : LoadedState) → TookAll old new → KeepsProof old new
took_all_proof old new b = record { formula = ap (λ x. x.formula) b.same; lines = ap (λ x. x ++ new.undone) b.standing ∙ b.undone }

pub proof_then : (old mid new : LoadedState) → KeepsProof old mid → KeepsProof mid new → KeepsProof old new
proof_then old mid new a b = record { formula = b.formula ∙ a.formula; lines = b.lines ∙ a.lines }

-- at the end no lemma's line stands
pub whole_pass : (orig st new : LoadedState) (kept : List Kept) → IsLoaded orig → KeepsProof orig st → IsKept st (steps_in st kept) → TookAll st new → IsWholePass orig.formula.clauses orig.standing kept
whole_pass orig st new kept l p k b =
    let f : st.formula ≡ orig.formula = p.formula in
    let lines : all_lines st ≡ orig.standing = p.lines ∙ ap (λ x. orig.standing ++ x) l.none_undone ∙ append-nil orig.standing in
    let next : (standing_in st).next ≡ length st.formula.clauses + 1 = next_kept (at_start st.formula.clauses) st.standing b.no_lemma in
    let t : tail_in st (length st.formula.clauses) (steps_in st kept) = k.passed (length st.formula.clauses) next in
    let known : CiteKnown st.formula.clauses (steps_in st kept) = λ n h. elim (k.known n h) [
      | inl low ↦
          let cited : holds_number n st.cited ≡ true = k.cites n ∙ h in
          let alive : holds_number n (numbers (alive_in st)) ≡ true = k.alive n (let y : nat_lt n (standing_in st).next ≡ true = grind (arith, nat_tests) in grind arith) in
          let first : holds_number n (numbers (numbered_from 1 st.formula.clauses)) ≡ true = alive_before n (at_start st.formula.clauses) st.standing b.no_lemma alive in
          among (numbered_from 1 st.formula.clauses) (numbered_steps (steps_in st kept)) n first
      | inr there ↦ there
    ] in
    let whole : IsWholePass st.formula.clauses (all_lines st) kept = record { linked = t.linked; from = t.from; known = known; lean = t.lean; core_first = t.core_first } in
    subst (λ x. IsWholePass x.clauses orig.standing kept) f (subst (λ ds. IsWholePass st.formula.clauses ds kept) lines whole)
  where
    among : (ps qs : Numbered) (n : ℕ) → holds_number n (numbers ps) ≡ true → holds_number n (numbers (ps ++ qs)) ≡ true
    among [] qs n h = absurd cc
    among (p ∷ ps) qs n h = by_test (p.0 == n) (λ e. grind arith) (λ e. grind (arith, among ps qs n))

stops_conflict : (st : Standing) (ds : List Done) → StopsAfter st ds at_conflict → InConflict (after_all st ds).alive
stops_conflict st [] s = s
stops_conflict st (d ∷ ds) s = by_test (is_empty_lemma d)
    (λ e. let g : (ds ≡ []) × (at_conflict ≡ at_empty_lemma) = rw e at s.1 in absurd (let k = g.1 in cc))
    (λ e. let g : StopsAfter (after_done st d) ds at_conflict = rw e at s.1 in stops_conflict (after_done st d) ds g)

-- at first the empty clause is refuted
pub first_refuted : (st : LoadedState) (chain : List ℕ) → IsLoaded st → Tests st false chain → ⊥
first_refuted st chain l t = t.0 (subst (λ a. Refutes (clauses (alive_in st)) a) (sym l.none_assumed) (stops_conflict (at_start st.formula.clauses) st.standing l.stops))

abbrev pub first_step : (st : LoadedState) (hints : List ℕ) → Step
first_step st hints = record { id = next_of st; clause = []; witness = None; prefix = hints; groups = [] }

first_is : (st : LoadedState) (end : ℕ) (hints : List ℕ) → end ≡ next_of st → steps_in st (record { id = end; by_witness = false; prefix = hints; groups = [] } ∷ []) ≡ first_step st hints ∷ []
first_is st end hints e =
    let none : place_in st end ≡ None = ap (place_in st) e ∙ no_place (at_start st.formula.clauses) (all_lines st) in
    let k : Kept = record { id = end; by_witness = false; prefix = hints; groups = [] } in
    let one : step_of st.formula.clauses (all_lines st) k ≡ first_step st hints = ap (λ o. step_at o k) none ∙ ap (λ n. let s : Step = record { id = n; clause = []; witness = None; prefix = hints; groups = [] } in s) e in
    ap (λ s. s ∷ []) one

pub first_kept : (st new : LoadedState) (end : ℕ) (hints : List ℕ) (kept : List Kept) → IsLoaded st → end ≡ next_of st → IsChain st hints → CitesAll st new hints
    → kept ≡ record { id = end; by_witness = false; prefix = hints; groups = [] } ∷ [] → IsKept new (steps_in new kept)
first_kept st new end hints kept l e c cites is =
    let s : Step = first_step st hints in
    let lean : is_lean (alive_in st) [] hints ≡ true = subst (λ a. is_lean (alive_in st) a hints ≡ true) l.none_assumed c.lean in
    let core : IsCoreFirst (cited_alive st) [] hints = subst (λ a. IsCoreFirst (cited_alive st) a hints) l.none_assumed c.core_first in
    let all : all_lines st ≡ st.standing = ap (λ x. st.standing ++ x) l.none_undone ∙ append-nil st.standing in
    let next : next_of st ≡ (standing_in st).next = ap (λ ds. (after_all (at_start st.formula.clauses) ds).next) all in
    let live : (n : ℕ) → is_cited n (s ∷ []) ≡ true → holds_number n (numbers (alive_in st)) ≡ true = λ n h. lean_live (alive_in st) [] hints n lean (grind arith) in
    let none : (n : ℕ) → holds_number n st.cited ≡ is_cited n [] = λ n. ap (holds_number n) l.none_cited in
    let needs : need (all_in st) s [] ≡ cited_of (alive_in st) (s ∷ []) = need_is st s [] next (λ n low h. live n h) in
    let k : IsKept (with_cited st new.cited) (s ∷ []) = record {
      sound = record { in_conflict = subst (λ ds. InConflict (after_all (at_start st.formula.clauses) ds).alive) (sym all) (stops_conflict (at_start st.formula.clauses) st.standing l.stops); distinct = l.distinct };
      passed = λ last f. record {
        linked = (omega (arith, next), refl);
        from = record { id = refl; clause = refl; no_witness = refl; cites_alive = λ n h. subst (λ ds. holds_number n (numbers (after_all (at_start st.formula.clauses) ds).alive) ≡ true) (sym all) (live n (grind arith)) };
        lean = (subst (λ ps. (is_lean ps [] hints ≡ true) × (s.groups ≡ [])) (sym needs) (lean_cited (alive_in st) (s ∷ []) [] hints (λ n h. grind arith) lean, refl), tt);
        core_first = (subst (λ ps. IsCoreFirst (cited_of ps []) [] hints) (sym needs) (subst (λ ps. IsCoreFirst ps [] hints) (sym (later_is st s [] none)) core), tt);
      };
      cites = λ n. cites.cited n ∙ (let z : holds_number n st.cited ≡ false = none n in grind arith);
      alive = λ n h. live n (let g : holds_number n new.cited ≡ (holds_number n st.cited || holds_number n hints) = cites.cited n in let z : holds_number n st.cited ≡ false = none n in grind arith);
      known = λ n h. inl (alive_low st n (live n h));
    } in
    let steps : steps_in (with_cited st new.cited) kept ≡ s ∷ [] = ap (steps_in st) is ∙ first_is st end hints e in
    subst (λ x. IsKept x (steps_in x kept)) (sym cites.same) (subst (IsKept (with_cited st new.cited)) (sym steps) k)

pub took_steps : (old new : LoadedState) (id : ℕ) (kept : List Kept) → TookBack old new id → steps_in new kept ≡ steps_in old kept
took_steps old new id kept b = ap (λ x. steps_of x.clauses (all_lines new) kept) (same_formula old new id b) ∙ ap (λ ds. steps_of old.formula.clauses ds kept) (took_lines old new id b)

-- what shows that a lemma fails shows that not each one passes
pub fails_rightly : (st : LoadedState) (back : Back) → IsPass st back → FailsRightly st back
fails_rightly st (whole kept) p = tt
fails_rightly st (Failed lemma against) p = λ e. never_fails st.formula.clauses st.standing e lemma against p.0 p.1 p.2

pub fails_loaded : (orig new : LoadedState) (id against : ℕ) (kept : List Kept) → IsLoaded orig → KeepsProof orig new → LemmaEnd new id kept (Some against) → IsPass orig (Failed id against)
fails_loaded orig new id against kept l p f =
    let lines : all_lines new ≡ orig.standing = p.lines ∙ ap (λ x. orig.standing ++ x) l.none_undone ∙ append-nil orig.standing in
    (f.0, f.1, subst (λ x. FailsAt x.clauses orig.standing id against f.0 f.1) p.formula (subst (λ ds. FailsAt new.formula.clauses ds id against f.0 f.1) lines f.2))
