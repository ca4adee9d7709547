-- The step of a lemma that its witness shows, and what shows that its test fails.
use Rattle.std.proofs.Common.{◌≡◌, inr, ℕ, ◌<◌, ◌==◌, Bool, true, false, not, ◌||◌, ◌&&◌, List, [], ◌∷◌, ◌++◌, Option, Some, None, refl, sym, ◌∙◌, ap, subst, arith, append_assoc}
use Rattle.std.specs.Prelude.{filter, map, nat_le}
use Rattle.std.proofs.lemmas.Bool.Decides.{nat_tests}
use Rattle.sr_base.specs.Literal.{Literal}
use Rattle.sr_model.specs.Assignment.{holds_number}
use Rattle.sr_model.specs.Refutation.{is_empty}
use Rattle.sr_model.specs.Redundancy.{Rup}
use Rattle.sr_model.specs.Substitution.{Substitution, Witness, substitution}
use Rattle.sr_model.specs.Chain.{Numbered, clauses, clause_of}
use Rattle.sr_model.specs.Meeting.{Group, Step}
use Rattle.sr_model.specs.Dsr.{Lemma}
use Rattle.sr_model.proofs.Soundness.{by_test}
use Rattle.sr_steps.specs.Kept.{Kept, step_of}
use Rattle.sr_steps.specs.Adding.{AreOfDistinct}
use Rattle.sr_trimming.specs.Citing.{groups_cite, is_cited, cited_of, AreRising}
use Rattle.sr_trimming.specs.Placing.{numbers}
use Rattle.sr_trimming.specs.Lean.{group_start, needs_group, AreLeanGroups}
use Rattle.sr_trimming.specs.From.{Place, CitesAlive, witness_of}
use Rattle.sr_trimming.specs.CoreFirst.{cited_so_far, first_of, IsCoreFirst, AreInOrder, put_in, rising}
use Rattle.sr_trimming.specs.Evidence.{HaveLeanChains, FailsAt, assumed, moves}
use Rattle.sr_trimming.proofs.Placed.{rise_again}
use Rattle.sr_load.specs.Loaded.{LoadedState, all_lines, all_in, alive_in, standing_in}
use Rattle.sr_back.specs.Citing.{is_standing}
use Rattle.sr_back.specs.Testing.{place_in, steps_in}
use Rattle.sr_back.specs.Tries.{AreFound, has_group, HasTried, IsQueued, GroupsEnd}
use Rattle.sr_back.specs.Turning.{IsKept, IsTurn, IsOpen, LemmaEnd}
use Rattle.sr_back.proofs.Maps.{Within, picked, picked_test, found_number, number_found, found_above}
use Rattle.sr_back.proofs.Standing.{alive_rises}
use Rattle.sr_back.proofs.Exact.{AreApart, exact_groups}
use Rattle.sr_back.proofs.Indexing.{alive_within, alive_low, alive_positive}
use Rattle.sr_back.proofs.Alive.{lean_live}
use Rattle.sr_back.proofs.Trying.{moves_is}
use Rattle.sr_back.proofs.Turns.{lean_cited, filter_twice, IsStepAt, kept_more}
use Rattle.sr_back.proofs.Keeping.{as_read, step_is}

-- a clause that is picked by a test on it
picked_pair : (t : ℕ × List Literal → Bool) (k : ℕ) (ps : Numbered) (n : ℕ) (d : List Literal) → AreRising k ps → clause_of ps n ≡ Some d → t (n, d) ≡ true → clause_of (filter t ps) n ≡ Some d
picked_pair t k [] n d r f h = absurd cc
picked_pair t k (q ∷ qs) n d r f h = by_test (q.0 == n)
    (λ e.
    let number : q.0 ≡ n = grind (arith, nat_tests) in
    let two : Some q.1 ≡ Some d = rw e at f in
    let clause : q.1 ≡ d = cc in
    let pair : q ≡ (n, d) = ap (λ m. let p : ℕ × List Literal = (m, q.1) in p) number ∙ ap (λ c. let p : ℕ × List Literal = (n, c) in p) clause in
    let here : t q ≡ true = ap t pair ∙ h in
    rw (here, e) two)
    (λ e.
    let rest : clause_of (filter t qs) n ≡ Some d = picked_pair t q.0 qs n d r.1 (rw e at f) h in
    by_test (t q) (λ y. rw (y, e) rest) (λ y. rw y rest))

pair_test : (t : ℕ × List Literal → Bool) (k : ℕ) (ps : Numbered) (n : ℕ) (d : List Literal) → AreRising k ps → clause_of (filter t ps) n ≡ Some d → (clause_of ps n ≡ Some d) × (t (n, d) ≡ true)
pair_test t k [] n d r f = absurd cc
pair_test t k (q ∷ qs) n d r f = by_test (t q)
    (λ y.
    let g : clause_of (q ∷ filter t qs) n ≡ Some d = rw y at f in
    by_test (q.0 == n)
    (λ e.
    let number : q.0 ≡ n = grind (arith, nat_tests) in
    let two : Some q.1 ≡ Some d = rw e at g in
    let clause : q.1 ≡ d = cc in
    let pair : q ≡ (n, d) = ap (λ m. let p : ℕ × List Literal = (m, q.1) in p) number ∙ ap (λ c. let p : ℕ × List Literal = (n, c) in p) clause in
    (rw e two, ap t (sym pair) ∙ y))
    (λ e. let x = pair_test t q.0 qs n d r.1 (rw e at g) in (rw e x.0, x.1)))
    (λ y.
    let g : clause_of (filter t qs) n ≡ Some d = rw y at f in
    let x = pair_test t q.0 qs n d r.1 g in
    let up : q.0 < n = found_above q.0 n qs d r.1 x.0 in
    let other : (q.0 == n) ≡ false = grind (arith, nat_tests) in
    (rw other x.0, x.1))

-- groups in rising order cite the same
put_cite : (n : ℕ) (g : Group) (ks : List Group) → groups_cite n (put_in g ks) ≡ (holds_number n g.1 || groups_cite n ks)
put_cite n g [] = refl
put_cite n g (k ∷ ks) = by_test (nat_le g.0 k.0) (λ e. rw e refl) (λ e. rw e (grind (arith, put_cite n g ks)))

rising_cite : (n : ℕ) (gs : List Group) → groups_cite n (rising gs) ≡ groups_cite n gs
rising_cite n [] = refl
rising_cite n (g ∷ gs) = put_cite n g (rising gs) ∙ ap (λ b. holds_number n g.1 || b) (rising_cite n gs)

-- the clauses of the groups
pairs : (live : Numbered) (b : List Literal) (w : Substitution) (gs : List Group) → AreFound live b w gs → Numbered
pairs live b w [] a = []
pairs live b w (g ∷ gs) a = (g.0, a.0.0) ∷ pairs live b w gs a.1

pairs_number : (live : Numbered) (b : List Literal) (w : Substitution) (gs : List Group) (a : AreFound live b w gs) (n : ℕ) → holds_number n (numbers (pairs live b w gs a)) ≡ has_group gs n
unfolding pairs
pairs_number live b w [] a n = refl
pairs_number live b w (g ∷ gs) a n = ap (λ x. (g.0 == n) || x) (pairs_number live b w gs a.1 n)

pairs_clause : (live : Numbered) (b : List Literal) (w : Substitution) (gs : List Group) (a : AreFound live b w gs) (n : ℕ) (d : List Literal) → clause_of (pairs live b w gs a) n ≡ Some d
    → (clause_of live n ≡ Some d) × (needs_group b w d ≡ true) × (has_group gs n ≡ true)
unfolding pairs
pairs_clause live b w [] a n d f = absurd cc
pairs_clause live b w (g ∷ gs) a n d f = by_test (g.0 == n)
    (λ e.
    let number : g.0 ≡ n = grind (arith, nat_tests) in
    let two : Some a.0.0 ≡ Some d = rw e at f in
    let clause : a.0.0 ≡ d = cc in
    (ap (clause_of live) (sym number) ∙ a.0.1 ∙ two, ap (needs_group b w) (sym clause) ∙ a.0.2, rw e refl))
    (λ e. let r = pairs_clause live b w gs a.1 n d (rw e at f) in (r.0, r.1, rw e r.2))

pairs_apart : (st : LoadedState) (b : List Literal) (w : Substitution) (gs : List Group) (a : AreFound (alive_in st) b w gs) → AreOfDistinct gs → AreApart (pairs (alive_in st) b w gs a)
unfolding pairs
pairs_apart st b w [] a d = tt
pairs_apart st b w (g ∷ gs) a d = (alive_positive st g.0 (number_found g.0 (alive_in st) a.0.0 a.0.1), pairs_number (alive_in st) b w gs a.1 g.0 ∙ d.0, pairs_apart st b w gs a.1 d.1)

pairs_lean : (live : Numbered) (steps : List Step) (b : List Literal) (w : Substitution) (gs : List Group) (a : AreFound live b w gs) → ((n : ℕ) → groups_cite n gs ≡ true → is_cited n steps ≡ true)
    → AreLeanGroups (cited_of live steps) b w (pairs live b w gs a) gs
unfolding pairs
pairs_lean live steps b w [] a c = tt
pairs_lean live steps b w (g ∷ gs) a c = (refl, lean_cited live steps (group_start b w a.0.0) g.1 (λ n h. c n (grind arith)) a.0.3, pairs_lean live steps b w gs a.1 (λ n h. c n (grind arith)))

-- what the groups cite is alive
found_alive : (live : Numbered) (b : List Literal) (w : Substitution) (gs : List Group) → AreFound live b w gs → (n : ℕ) → groups_cite n gs ≡ true → holds_number n (numbers live) ≡ true
found_alive live b w [] a n h = absurd cc
found_alive live b w (g ∷ gs) a n h = by_test (holds_number n g.1) (λ y. lean_live live (group_start b w a.0.0) g.1 n a.0.3 y) (λ y. found_alive live b w gs a.1 n (grind arith))

found_chains : (live : Numbered) (b : List Literal) (w : Substitution) (gs : List Group) → AreFound live b w gs → HaveLeanChains live b w gs
found_chains live b w [] a = tt
found_chains live b w (g ∷ gs) a = ((a.0.0, a.0.1, a.0.3), found_chains live b w gs a.1)

-- over fewer clauses, that have all that is cited, the groups were met in the same order
cite_append : (n : ℕ) (gs hs : List Group) → groups_cite n (gs ++ hs) ≡ (groups_cite n gs || groups_cite n hs)
cite_append n [] hs = refl
cite_append n (g ∷ gs) hs = grind (arith, cite_append n gs hs)

narrow_order : (live : Numbered) (u : ℕ × List Literal → Bool) (later : List Step) (b : List Literal) (w : Substitution) (before gs : List Group)
    → ((p : ℕ × List Literal) → (is_cited p.0 later || groups_cite p.0 (before ++ gs)) ≡ true → u p ≡ true) → AreInOrder live later b w before gs → AreInOrder (filter u live) later b w before gs
narrow_order live u later b w before [] f a = tt
narrow_order live u later b w before (g ∷ gs) f a =
    let same : cited_so_far (filter u live) later before ≡ cited_so_far live later before =
    filter_twice (λ p. is_cited p.0 later || groups_cite p.0 before) u live (λ p h. f p (ap (λ x. is_cited p.0 later || x) (cite_append p.0 before (g ∷ gs)) ∙ either (is_cited p.0 later) (groups_cite p.0 before) (groups_cite p.0 (g ∷ gs)) h)) in (
      (
        a.0.0,
        ap (λ ps. first_of (filter (λ p. needs_group b w p.1 && not (holds_number p.0 (map (λ k. k.0) before))) ps)) same ∙ a.0.1,
        subst (λ ps. IsCoreFirst ps (group_start b w a.0.0) g.1) (sym same) a.0.2,
      ),
      narrow_order live u later b w (before ++ g ∷ []) gs (λ p h. f p (ap (λ x. is_cited p.0 later || groups_cite p.0 x) (sym (append_assoc before (g ∷ []) gs)) ∙ h)) a.1,
    )
  where
    either : (a b c : Bool) → (a || b) ≡ true → (a || (b || c)) ≡ true
    either a b c h = grind arith

-- a lemma whose clause isn't empty has a witness, if need be its pivot alone
some_witness : (l : Lemma) → is_empty l.clause ≡ false → (w : Witness) × (witness_of l ≡ Some w)
some_witness l e = at l.clause l.witness e
  where
    at : (c : List Literal) (o : Option Witness) → is_empty c ≡ false → (w : Witness) × (elim o [ Some v ↦ Some v | None ↦ elim c [ [] ↦ None | k ∷ ks ↦ Some (record { pivot = k; assigned = []; maps = [] }) ] ] ≡ Some w)
    at c (Some v) e = (v, refl)
    at [] None e = absurd cc
    at (k ∷ ks) None e = (record { pivot = k; assigned = []; maps = [] }, refl)

abbrev witnessed : ℕ → List Literal → Witness → List Group → Step
witnessed id c w gs = record { id = id; clause = c; witness = Some w; prefix = []; groups = gs }

witnessed_at : (st new : LoadedState) (id : ℕ) (steps : List Step) (gs : List Group) (w : Witness) → (t : IsTurn st id steps) → (¬ Rup (clauses t.place.alive) t.place.stated.clause) → witness_of t.place.stated ≡ Some w
    → HasTried st new steps t.place gs → IsQueued new t.place gs [] → IsStepAt st id t.place (witnessed id t.place.stated.clause w (rising gs)) steps
witnessed_at st new id steps gs w t rup is tried queued =
    let p : Place = t.place in
    let s : Step = witnessed id p.stated.clause w (rising gs) in
    let m : moves p ≡ substitution w = moves_is p.stated w is in
    let found : AreFound (alive_in st) (assumed p) (moves p) gs = subst (λ ps. AreFound ps (assumed p) (moves p) gs) t.before tried.found in
    let order : AreInOrder (alive_in st) steps (assumed p) (moves p) [] gs = subst (λ ps. AreInOrder ps steps (assumed p) (moves p) [] gs) t.before tried.order in
    let cited-by : (n : ℕ) → groups_cite n gs ≡ true → is_cited n (s ∷ steps) ≡ true = λ n h. (let e : groups_cite n (rising gs) ≡ groups_cite n gs = rising_cite n gs in grind arith) in
    let live : Numbered = cited_of (alive_in st) (s ∷ steps) in
    let rises : AreRising 0 live = rise_again (λ q. is_cited q.0 (s ∷ steps)) 0 (alive_in st) (alive_rises st.formula.clauses st.standing) in
    let test : ℕ × List Literal → Bool = λ q. needs_group (assumed p) (moves p) q.1 in
    let needing : Numbered = filter test live in
    let ps : Numbered = pairs (alive_in st) (assumed p) (moves p) gs found in
    let of-standing : (n : ℕ) → is_standing new n ≡ true → is_cited n (s ∷ steps) ≡ true = λ n h.
    (let c : holds_number n new.cited ≡ (is_cited n steps || groups_cite n gs) = tried.cited n in
    let y : holds_number n new.cited ≡ true = grind arith in
    by_test (groups_cite n gs) (λ z. cited-by n z) (λ z. grind arith)) in
    let into : Within ps needing = λ n d f.
    (let x = pairs_clause (alive_in st) (assumed p) (moves p) gs found n d f in
    picked_pair test 0 live n d rises (picked (λ k. is_cited k (s ∷ steps)) n (alive_in st) d (of-standing n (tried.standing n x.2)) x.0) x.1) in
    let back : Within needing ps = λ n d f.
    (let x = pair_test test 0 live n d rises f in
    let y = picked_test (λ k. is_cited k (s ∷ steps)) n (alive_in st) d x.0 in
    let low : n < (standing_in new).next = subst (λ k. n < k) (sym (ap (λ z. (standing_in z).next) tried.same)) (alive_low st n (number_found n (alive_in st) d y.1)) in
    let cited : holds_number n new.cited ≡ true = tried.cited n ∙ cites_split n gs (is_cited n steps) y.0 in
    let stands' : is_standing new n ≡ true = both_true new n cited low in
    let all : clause_of (all_in new) n ≡ Some d = ap (λ z. clause_of (all_in z) n) tried.same ∙ alive_within st n d y.1 in
    let rest : (has_group gs n || holds_number n []) ≡ true = queued.rest n d stands' all x.1 in
    let has' : has_group gs n ≡ true = grind arith in
    let g = found_number n ps (pairs_number (alive_in st) (assumed p) (moves p) gs found n ∙ has') in
    let z = pairs_clause (alive_in st) (assumed p) (moves p) gs found n g.0 g.1 in
    g.1 ∙ sym z.0 ∙ y.1) in
    let exact : AreLeanGroups live (assumed p) (moves p) needing (rising gs) =
    exact_groups live needing ps (assumed p) (moves p) gs (rise_again test 0 live rises) (pairs_apart st (assumed p) (moves p) gs found tried.distinct) into back
    (pairs_lean (alive_in st) (s ∷ steps) (assumed p) (moves p) gs found cited-by) in
    let narrow : AreInOrder live steps (assumed p) (moves p) [] gs =
    narrow_order (alive_in st) (λ q. is_cited q.0 (s ∷ steps)) steps (assumed p) (moves p) [] gs (λ q h. by_test (groups_cite q.0 gs) (λ z. cited-by q.0 z) (λ z. grind arith)) order in
    record {
      number = refl;
      full = t.full;
      of = record {
        clause = as_read st id p t.sound.distinct t.is_place;
        by_propagation = (λ e. absurd cc, λ r. absurd (rup r));
        by_witness = inr (sym is);
        cites_alive = subst (λ x. CitesAlive x s) (sym t.before) (λ n h. found_alive (alive_in st) (assumed p) (moves p) gs found n (sym (rising_cite n gs) ∙ h));
      };
      lean = (refl, subst (λ x. AreLeanGroups live (assumed p) x (filter (λ q. needs_group (assumed p) x q.1) live) (rising gs)) m exact);
      core_first = (gs, refl, subst (λ x. AreInOrder live steps (assumed p) x [] gs) m narrow);
    }
  where
    cites_split : (n : ℕ) (gs : List Group) (later : Bool) → (groups_cite n (rising gs) || later) ≡ true → (later || groups_cite n gs) ≡ true
    cites_split n gs later h = (let e : groups_cite n (rising gs) ≡ groups_cite n gs = rising_cite n gs in grind arith)

    both_true : (st : LoadedState) (n : ℕ) → holds_number n st.cited ≡ true → n < (standing_in st).next → is_standing st n ≡ true
    both_true st n c l = grind (arith, nat_tests)

-- a lemma's test at another name of its place
rup_there : (st : LoadedState) (id : ℕ) (p q : Place) → place_in st id ≡ Some p → place_in st id ≡ Some q → (¬ Rup (clauses p.alive) p.stated.clause) → ¬ Rup (clauses q.alive) q.stated.clause
rup_there st id p q e f n = let two : Some p ≡ Some q = sym e ∙ f in let one : p ≡ q = cc in subst (λ x. ¬ Rup (clauses x.alive) x.stated.clause) one n

pub keeps_witnessed : (st new : LoadedState) (id : ℕ) (was kept : List Kept) (r : Option ℕ) → (o : IsOpen st id was was) → GroupsEnd st new (steps_in st was) o.turn.place id was kept r → LemmaEnd new id kept r
keeps_witnessed st new id was kept None o (gs, tried, queued, e) =
    let t : IsTurn st id (steps_in st was) = o.turn in
    let rup : ¬ Rup (clauses t.place.alive) t.place.stated.clause = rup_there st id o.place t.place o.tested.is_place t.is_place o.not_rup in
    let w = some_witness t.place.stated t.full in
    let s : Step = witnessed id t.place.stated.clause w.0 (rising gs) in
    let k : Kept = record { id = id; by_witness = true; prefix = []; groups = rising gs } in
    let step : step_of st.formula.clauses (all_lines st) k ≡ s = step_is st k t.place t.is_place ∙ ap (λ v. let x : Step = record { id = id; clause = t.place.stated.clause; witness = v; prefix = []; groups = rising gs } in x) w.1 in
    let steps : steps_in st kept ≡ s ∷ steps_in st was = ap (steps_in st) e ∙ ap (λ x. x ∷ steps_in st was) step in
    let more : IsKept new (s ∷ steps_in st was) = kept_more st new id s (steps_in st was) t tried.same (λ n. tried.cited n ∙ (let c : groups_cite n (rising gs) ≡ groups_cite n gs = rising_cite n gs in grind arith))
    (witnessed_at st new id (steps_in st was) gs w.0 t rup w.1 tried queued) in
    subst (IsKept new) (sym (ap (λ x. steps_in x kept) tried.same ∙ steps)) more
keeps_witnessed st new id was kept (Some against) o (gs, tried, stuck) =
    let t : IsTurn st id (steps_in st was) = o.turn in
    let rup : ¬ Rup (clauses t.place.alive) t.place.stated.clause = rup_there st id o.place t.place o.tested.is_place t.is_place o.not_rup in
    let f : FailsAt st.formula.clauses (all_lines st) id against gs (steps_in st was) = record {
      place = t.place;
      is_place = t.is_place;
      in_conflict = t.sound.in_conflict;
      not_rup = rup;
      needed = t.cited;
      from = t.tail.from;
      linked = t.tail.linked;
      lean = t.tail.lean;
      core_first = t.tail.core_first;
      in_order = tried.order;
      lean_groups = found_chains t.place.alive (assumed t.place) (moves t.place) gs tried.found;
      clause = stuck.clause;
      is_next = stuck.is_next;
      not_refuted = stuck.not_refuted;
    } in
    (gs, steps_in st was, subst (λ x. FailsAt x.formula.clauses (all_lines x) id against gs (steps_in st was)) (sym tried.same) f)
