-- The loop over the clauses that may need a group.
use Rattle.std.proofs.Common.{◌≡◌, ℕ, ◌<◌, ◌≤◌, ◌+◌, ◌==◌, Bool, true, false, cond, not, ◌||◌, ◌&&◌, List, [], ◌∷◌, ◌++◌, Option, Some, None, refl, sym, ◌∙◌, ap, subst, arith}
use Rattle.std.specs.Prelude.{filter, map, All}
use Rattle.std.proofs.lemmas.Bool.Decides.{nat_tests}
use Rattle.sr_base.specs.Literal.{Literal, has, SameSet, NoRepeats}
use Rattle.sr_model.specs.Assignment.{holds_number}
use Rattle.sr_model.specs.Refutation.{Refutes}
use Rattle.sr_model.specs.Substitution.{Substitution, Witness, substitution, substitution_for, Reduction, untouched, satisfied, left, reduction}
use Rattle.sr_model.specs.Chain.{Numbered, clauses, clause_of}
use Rattle.sr_model.specs.Meeting.{Group, Step, needs_hints}
use Rattle.sr_model.specs.Dsr.{Lemma}
use Rattle.sr_model.proofs.Soundness.{by_test}
use Rattle.sr_occurs.specs.Candidates.{is_left}
use Rattle.sr_steps.specs.Kept.{Kept}
use Rattle.sr_steps.specs.Adding.{AreOfDistinct, first_groups, with_group, with_groups}
use Rattle.sr_trimming.specs.Citing.{groups_cite, is_cited, AreRising}
use Rattle.sr_trimming.specs.Placing.{numbers}
use Rattle.sr_trimming.specs.Lean.{is_lean, group_start, needs_group}
use Rattle.sr_trimming.specs.CoreFirst.{cited_so_far, ready, first_of, AreOf, IsCoreFirst, rising}
use Rattle.sr_trimming.specs.From.{Place, witness_of}
use Rattle.sr_trimming.specs.Evidence.{assumed, moves}
use Rattle.sr_load.specs.Loaded.{LoadedState, all_in, alive_in, cited_alive, standing_in}
use Rattle.sr_back.specs.Queued.{AreAbove, Puts}
use Rattle.sr_back.specs.Citing.{with_cited, CitesAll, is_standing, CitedAreAlive, Finds}
use Rattle.sr_back.specs.declared.testing.Trial.{Trial}
use Rattle.sr_back.specs.Testing.{place_in, steps_in, HasWitness, IsWitnessOf, IsChainFrom, IsTested, Tells}
use Rattle.sr_back.specs.Tries.{AreFound, has_group, HasTried, IsQueued, IsStuckAt}
use Rattle.sr_back.proofs.Maps.{found_number, found_above}
use Rattle.sr_back.proofs.Exact.{in_order_push}
use Rattle.sr_back.proofs.Indexing.{alive_within, alive_low, standing_found, found_standing, cited_rises}
use Rattle.sr_back.proofs.Alive.{lean_live}

-- the step that is being made
abbrev pub step_with : ℕ → List Group → Kept
step_with id gs = record { id = id; by_witness = true; prefix = []; groups = gs }

-- the groups that were found, and what stands in the queue
pub record IsTrying (old st : LoadedState) (later : List Step) (p : Place) (gs : List Group) (queue : List ℕ) : Type 0 where
  pub tried : HasTried old st later p gs
  pub queued : IsQueued st p gs queue

-- a clause that needs a group has something left
needs_left : (b : List Literal) (r : Reduction) → needs_hints b r ≡ true → is_left r ≡ true
needs_left b untouched h = h
needs_left b satisfied h = h
needs_left b (left d) h = refl

pub moves_is : (l : Lemma) (w : Witness) → witness_of l ≡ Some w → substitution_for l.clause l.witness ≡ substitution w
moves_is l w e = at l.clause l.witness e
  where
    at : (c : List Literal) (o : Option Witness) → elim o [ Some v ↦ Some v | None ↦ elim c [ [] ↦ None | k ∷ ks ↦ Some (record { pivot = k; assigned = []; maps = [] }) ] ] ≡ Some w
        → substitution_for c o ≡ substitution w
    at c (Some v) f = let is : v ≡ w = cc in ap substitution is
    at [] None f = absurd cc
    at (k ∷ ks) None f = at_pivot k w f
      where
        at_pivot : (k : Literal) (w : Witness) → Some (record { pivot = k; assigned = []; maps = [] }) ≡ Some w → substitution_for (k ∷ ks) None ≡ substitution w
        at_pivot k w f = let v : Witness = record { pivot = k; assigned = []; maps = [] } in let is : v ≡ w = cc in ap substitution is

-- at first
pub trying_first : (st : LoadedState) (id : ℕ) (kept : List Kept) (p : Place) (w : Witness) (queue : List ℕ) → IsTested st id kept p → witness_of p.stated ≡ Some w → Finds st w queue → IsTrying st st (steps_in st kept) p [] queue
trying_first st id kept p w queue t e f = record {
  tried = record {
    same = refl;
    cited = λ n. t.cites n ∙ grind arith;
    order = tt;
    found = tt;
    distinct = tt;
    standing = λ n h. absurd cc;
  };
  queued = record {
    waits = λ n h. (f.standing n h, refl);
    rest = λ n c s g need. let m : moves p ≡ substitution w = moves_is p.stated w e in f.left n c s g (subst (λ x. is_left (reduction x c) ≡ true) m (needs_left (assumed p) (reduction (moves p) c) need));
  };
}

-- the least of a filtered list whose numbers rise
first_least : (t : ℕ × List Literal → Bool) (k : ℕ) (ps : Numbered) (n : ℕ) (c : List Literal) → AreRising k ps → clause_of ps n ≡ Some c → t (n, c) ≡ true
    → ((m : ℕ) (d : List Literal) → clause_of ps m ≡ Some d → t (m, d) ≡ true → n ≤ m) → first_of (filter t ps) ≡ Some (n, c)
first_least t k [] n c r f h l = absurd cc
first_least t k (q ∷ qs) n c r f h l = by_test (q.0 == n)
    (λ e.
    let number : q.0 ≡ n = grind (arith, nat_tests) in
    let two : Some q.1 ≡ Some c = rw e at f in
    let clause : q.1 ≡ c = cc in
    let pair : q ≡ (n, c) = ap (λ m. let p : ℕ × List Literal = (m, q.1) in p) number ∙ ap (λ d. let p : ℕ × List Literal = (n, d) in p) clause in
    let yes' : t q ≡ true = ap t pair ∙ h in
    rw yes' (ap Some pair))
    (λ e.
    let rest : clause_of qs n ≡ Some c = rw e at f in
    let up : q.0 < n = found_above q.0 n qs c r.1 rest in
    by_test (t q)
    (λ y. absurd (let low : n ≤ q.0 = l q.0 q.1 (let z : (q.0 == q.0) ≡ true = grind (arith, nat_tests) in rw z refl) y in omega arith))
    (λ y. rw y (first_least t q.0 qs n c r.1 rest h (λ m d g j. l m d (let z : (q.0 == m) ≡ false = (let up : q.0 < m = found_above q.0 m qs d r.1 g in grind (arith, nat_tests)) in rw z g) j))))

filter_same : (t u : ℕ × List Literal → Bool) (ps : Numbered) → ((p : ℕ × List Literal) → t p ≡ u p) → filter t ps ≡ filter u ps
filter_same t u [] f = refl
filter_same t u (p ∷ ps) f = ap (λ b. cond b (p ∷ filter t ps) (filter t ps)) (f p) ∙ ap (λ xs. cond (u p) (p ∷ xs) xs) (filter_same t u ps f)

-- what is cited so far are the cited alive clauses
so_far : (old st : LoadedState) (later : List Step) (p : Place) (gs : List Group) → p.alive ≡ alive_in old → HasTried old st later p gs → cited_alive st ≡ cited_so_far p.alive later gs
so_far old st later p gs a t =
    ap (filter (λ q. holds_number q.0 st.cited)) (ap alive_in t.same ∙ sym a) ∙ filter_same (λ q. holds_number q.0 st.cited) (λ q. is_cited q.0 later || groups_cite q.0 gs) p.alive (λ q. t.cited q.0)

-- a clause of a number in the queue
pub record Waits (st : LoadedState) (p : Place) (n : ℕ) (c : List Literal) : Type 0 where
  pub standing : is_standing st n ≡ true
  pub of_all : clause_of (all_in st) n ≡ Some c
  pub alive : clause_of p.alive n ≡ Some c
  pub there : clause_of (cited_alive st) n ≡ Some c

pub waiting : (old st : LoadedState) (later : List Step) (p : Place) (gs : List Group) (queue rest : List ℕ) (n : ℕ) → p.alive ≡ alive_in old → CitedAreAlive st → IsTrying old st later p gs queue → Puts rest queue n
    → (c : List Literal) × Waits st p n c
waiting old st later p gs queue rest n a ca t e =
    let s : is_standing st n ≡ true = (t.queued.waits n (e n ∙ grind (arith, nat_tests))).0 in
    let f = found_number n (alive_in st) (ca n s) in
    let all : clause_of (all_in st) n ≡ Some f.0 = alive_within st n f.0 f.1 in
    (f.0, record { standing = s; of_all = all; alive = ap (λ ps. clause_of ps n) (a ∙ sym (ap alive_in t.tried.same)) ∙ f.1; there = standing_found st n f.0 ca s all })

-- the clause comes next
next_ready : (old st : LoadedState) (later : List Step) (p : Place) (gs : List Group) (queue rest : List ℕ) (n : ℕ) (c : List Literal) → p.alive ≡ alive_in old → IsTrying old st later p gs queue → Puts rest queue n → AreAbove n rest
    → Waits st p n c → needs_group (assumed p) (moves p) c ≡ true → first_of (ready p.alive later (assumed p) (moves p) gs) ≡ Some (n, c)
next_ready old st later p gs queue rest n c a t e up w need =
    let test : ℕ × List Literal → Bool = λ q. needs_group (assumed p) (moves p) q.1 && not (holds_number q.0 (map (λ g. g.0) gs)) in
    let free : has_group gs n ≡ false = (t.queued.waits n (e n ∙ grind (arith, nat_tests))).1 in
    let here : test (n, c) ≡ true = grind arith in
    ap (λ ps. first_of (filter test ps)) (sym (so_far old st later p gs a t.tried))
    ∙ first_least test 0 (cited_alive st) n c (cited_rises st) w.there here
    (λ m d f g.
    let s = found_standing st m d f in
    let needs : needs_group (assumed p) (moves p) d ≡ true = grind arith in
    let none : has_group gs m ≡ false = grind arith in
    let both : (has_group gs m || holds_number m queue) ≡ true = t.queued.rest m d s.0 s.1 needs in
    let queued : holds_number m queue ≡ true = grind arith in
    let split : ((n == m) || holds_number m rest) ≡ true = sym (e m) ∙ queued in
    by_test (n == m) (λ y. grind (arith, nat_tests)) (λ y. let more : n < m = up m (grind arith) in omega arith))

-- a clause that needs no group is let go
pub trying_spare : (old st : LoadedState) (later : List Step) (p : Place) (gs : List Group) (queue rest : List ℕ) (n : ℕ) (c : List Literal) → IsTrying old st later p gs queue → Puts rest queue n → AreAbove n rest
    → Waits st p n c → needs_group (assumed p) (moves p) c ≡ false → IsTrying old st later p gs rest
trying_spare old st later p gs queue rest n c t e up w need = record {
  tried = t.tried;
  queued = record {
    waits = λ m h. t.queued.waits m (e m ∙ grind arith);
    rest = λ m d s f needs.
        let was : (has_group gs m || holds_number m queue) ≡ true = t.queued.rest m d s f needs in
        let split : holds_number m queue ≡ ((n == m) || holds_number m rest) = e m in
        by_test (n == m)
        (λ y.
        let is : n ≡ m = grind (arith, nat_tests) in
        let two : Some d ≡ Some c = sym f ∙ ap (clause_of (all_in st)) (sym is) ∙ w.of_all in
        let same : d ≡ c = cc in
        let no' : needs_group (assumed p) (moves p) d ≡ false = ap (needs_group (assumed p) (moves p)) same ∙ need in
        absurd cc)
        (λ y. grind arith);
  };
}

pub trying_stuck : (old st : LoadedState) (later : List Step) (p : Place) (gs : List Group) (queue rest : List ℕ) (n : ℕ) (c : List Literal) → p.alive ≡ alive_in old → IsTrying old st later p gs queue → Puts rest queue n → AreAbove n rest
    → Waits st p n c → needs_group (assumed p) (moves p) c ≡ true → (¬ Refutes (clauses (alive_in st)) (group_start (assumed p) (moves p) c)) → IsStuckAt later p gs n
trying_stuck old st later p gs queue rest n c a t e up w need none = record {
  clause = c;
  is_next = next_ready old st later p gs queue rest n c a t e up w need;
  not_refuted = λ r. none (subst (λ ps. Refutes (clauses ps) (group_start (assumed p) (moves p) c)) (a ∙ sym (ap alive_in t.tried.same)) r);
}

stands : (st : LoadedState) (m : ℕ) → holds_number m st.cited ≡ true → m < (standing_in st).next → is_standing st m ≡ true
stands st m c l = grind (arith, nat_tests)

cited_of_standing : (st : LoadedState) (m : ℕ) → is_standing st m ≡ true → holds_number m st.cited ≡ true
cited_of_standing st m s = grind arith

fresh_there : (was now hint rest more group : Bool) → now ≡ (was || hint) → more ≡ (rest || (hint && not was)) → now ≡ true → was ≡ false → (group || more) ≡ true
fresh_there was now hint rest more group e f n w = grind arith

-- one more group
pub has_group_push : (gs : List Group) (g : Group) (n : ℕ) → has_group (gs ++ g ∷ []) n ≡ (has_group gs n || (g.0 == n))
has_group_push [] g n = grind arith
has_group_push (k ∷ ks) g n = grind (arith, has_group_push ks g n)

groups_cite_push : (gs : List Group) (g : Group) (n : ℕ) → groups_cite n (gs ++ g ∷ []) ≡ (groups_cite n gs || holds_number n g.1)
groups_cite_push [] g n = grind arith
groups_cite_push (k ∷ ks) g n = grind (arith, groups_cite_push ks g n)

found_push : (live : Numbered) (b : List Literal) (w : Substitution) (gs : List Group) (g : Group) (d : List Literal) → AreFound live b w gs → clause_of live g.0 ≡ Some d → needs_group b w d ≡ true
    → is_lean live (group_start b w d) g.1 ≡ true → AreFound live b w (gs ++ g ∷ [])
found_push live b w [] g d a f n l = ((d, f, n, l), tt)
found_push live b w (k ∷ ks) g d a f n l = (a.0, found_push live b w ks g d a.1 f n l)

distinct_push : (gs : List Group) (g : Group) → AreOfDistinct gs → has_group gs g.0 ≡ false → AreOfDistinct (gs ++ g ∷ [])
distinct_push [] g a f = (refl, tt)
distinct_push (k ∷ ks) g a f =
    let other : (g.0 == k.0) ≡ false = grind (arith, nat_tests) in
    (has_group_push ks g k.0 ∙ grind (arith, a.0), distinct_push ks g a.1 (grind arith))

pub cites_alive : (st new : LoadedState) (ids : List ℕ) → CitedAreAlive st → AreOf ids (alive_in st) → CitesAll st new ids → CitedAreAlive new
cites_alive st new ids a o c n s =
    let cited : holds_number n new.cited ≡ (holds_number n st.cited || holds_number n ids) = c.cited n in
    let next : (standing_in new).next ≡ (standing_in st).next = ap (λ x. (standing_in x).next) c.same in
    subst (λ x. holds_number n (numbers (alive_in x)) ≡ true) (sym c.same)
    (by_test (holds_number n st.cited) (λ y. a n (grind (arith, nat_tests))) (λ y. o n (grind arith)))

pub trying_met : (old st new : LoadedState) (later : List Step) (p : Place) (gs : List Group) (queue rest more hints : List ℕ) (n : ℕ) (c : List Literal) → p.alive ≡ alive_in old → IsTrying old st later p gs queue → Puts rest queue n
    → AreAbove n rest → Waits st p n c → needs_group (assumed p) (moves p) c ≡ true → IsChainFrom st (group_start (assumed p) (moves p) c) hints → CitesAll st new hints
    → ((m : ℕ) → holds_number m more ≡ (holds_number m rest || (holds_number m hints && not (holds_number m st.cited)))) → IsTrying old new later p (gs ++ (n, hints) ∷ []) more
trying_met old st new later p gs queue rest more hints n c a t e up w need k cites put =
    let g : Group = (n, hints) in
    let free : has_group gs n ≡ false = (t.queued.waits n (e n ∙ grind (arith, nat_tests))).1 in
    let live : alive_in st ≡ p.alive = ap alive_in t.tried.same ∙ sym a in
    let next : (standing_in new).next ≡ (standing_in st).next = ap (λ x. (standing_in x).next) cites.same in
    let all : all_in new ≡ all_in st = ap all_in cites.same in
    let lean : is_lean p.alive (group_start (assumed p) (moves p) c) hints ≡ true = subst (λ ps. is_lean ps (group_start (assumed p) (moves p) c) hints ≡ true) live k.lean in
    let core : IsCoreFirst (cited_so_far p.alive later gs) (group_start (assumed p) (moves p) c) hints = subst (λ ps. IsCoreFirst ps (group_start (assumed p) (moves p) c) hints) (so_far old st later p gs a t.tried) k.core_first in
    let grows : (m : ℕ) → is_standing st m ≡ true → is_standing new m ≡ true = λ m s. (let cited : holds_number m new.cited ≡ (holds_number m st.cited || holds_number m hints) = cites.cited m in grind (arith, nat_tests)) in
    record {
      tried = record {
        same = cites.same ∙ ap (λ x. with_cited x new.cited) t.tried.same;
        cited = λ m. cites.cited m ∙ ap (λ b. b || holds_number m hints) (t.tried.cited m) ∙ grind (arith, groups_cite_push gs g m);
        order = in_order_push p.alive later (assumed p) (moves p) [] gs g c t.tried.order (next_ready old st later p gs queue rest n c a t e up w need) core;
        found = found_push p.alive (assumed p) (moves p) gs g c t.tried.found w.alive need lean;
        distinct = distinct_push gs g t.tried.distinct free;
        standing = λ m h. by_test (n == m)
            (λ y. let is : n ≡ m = grind (arith, nat_tests) in subst (λ j. is_standing new j ≡ true) is (grows n w.standing))
            (λ y. grows m (t.tried.standing m (let split = has_group_push gs g m in grind arith)));
      };
      queued = record {
        waits = λ m h. by_test (holds_number m rest)
            (λ y.
            let was = t.queued.waits m (e m ∙ grind arith) in
            let above' : n < m = up m y in
            (grows m was.0, has_group_push gs g m ∙ grind (arith, nat_tests, was.1)))
            (λ y.
            let into : (holds_number m hints && not (holds_number m st.cited)) ≡ true = (let q : holds_number m more ≡ (holds_number m rest || (holds_number m hints && not (holds_number m st.cited))) = put m in grind arith) in
            let hint : holds_number m hints ≡ true = grind arith in
            let fresh : holds_number m st.cited ≡ false = grind arith in
            let there : holds_number m (numbers (alive_in st)) ≡ true = lean_live (alive_in st) (group_start (assumed p) (moves p) c) hints m k.lean hint in
            let low : m < (standing_in st).next = alive_low st m there in
            let cited : holds_number m new.cited ≡ (holds_number m st.cited || holds_number m hints) = cites.cited m in
            let none : has_group gs m ≡ false = by_test (has_group gs m) (λ z. absurd (let s : is_standing st m ≡ true = t.tried.standing m z in grind arith)) (λ z. z) in
            let other : (n == m) ≡ false = by_test (n == m) (λ z. absurd (let is : n ≡ m = grind (arith, nat_tests) in let s : is_standing st m ≡ true = subst (λ j. is_standing st j ≡ true) is w.standing in grind arith)) (λ z. z) in
            let now : holds_number m new.cited ≡ true = cited ∙ (let both : (holds_number m st.cited || true) ≡ true = grind arith in ap (λ b. holds_number m st.cited || b) hint ∙ both) in
            (stands new m now (subst (λ k. m < k) (sym next) low), has_group_push gs g m ∙ ap (λ b. b || (n == m)) none ∙ other));
        rest = λ m d s f needs.
            let split : has_group (gs ++ g ∷ []) m ≡ (has_group gs m || (n == m)) = has_group_push gs g m in
            let cited : holds_number m new.cited ≡ (holds_number m st.cited || holds_number m hints) = cites.cited m in
            let q : holds_number m more ≡ (holds_number m rest || (holds_number m hints && not (holds_number m st.cited))) = put m in
            by_test (holds_number m st.cited)
            (λ y.
            let was : (has_group gs m || holds_number m queue) ≡ true = t.queued.rest m d (grind (arith, nat_tests)) (ap (λ ps. clause_of ps m) (sym all) ∙ f) needs in
            let queue-is : holds_number m queue ≡ ((n == m) || holds_number m rest) = e m in
            grind arith)
            (λ y. fresh_there (holds_number m st.cited) (holds_number m new.cited) (holds_number m hints) (holds_number m rest) (holds_number m more) (has_group (gs ++ g ∷ []) m) cited q (cited_of_standing new m s) y);
      };
    }

-- the alive clauses that aren't cited, or wait in a queue
abbrev pub pending : List ℕ → List ℕ → ℕ → Bool
pending cited queue n = not (holds_number n cited) || holds_number n queue

abbrev pub pending_count : List ℕ → List ℕ → Numbered → ℕ
pending_count cited queue [] = 0
pending_count cited queue (p ∷ ps) = cond (pending cited queue p.0) 1 0 + pending_count cited queue ps

count_less : (cited queue cites more : List ℕ) (ps : Numbered) → ((m : ℕ) → pending cites more m ≡ true → pending cited queue m ≡ true) → pending_count cites more ps ≤ pending_count cited queue ps
count_less cited queue cites more [] f = omega arith
count_less cited queue cites more (p ∷ ps) f =
    let rest : pending_count cites more ps ≤ pending_count cited queue ps = count_less cited queue cites more ps f in
    by_test (pending cites more p.0)
    (λ y. let z : pending cited queue p.0 ≡ true = f p.0 y in rw (y, z) (omega arith))
    (λ y. by_test (pending cited queue p.0) (λ z. rw (y, z) (omega arith)) (λ z. rw (y, z) (omega arith)))

pub count_falls : (cited queue cites more : List ℕ) (ps : Numbered) (n : ℕ) → holds_number n (numbers ps) ≡ true → pending cited queue n ≡ true → pending cites more n ≡ false
    → ((m : ℕ) → pending cites more m ≡ true → pending cited queue m ≡ true) → pending_count cites more ps < pending_count cited queue ps
count_falls cited queue cites more [] n h a b f = absurd cc
count_falls cited queue cites more (p ∷ ps) n h a b f = by_test (p.0 == n)
    (λ e.
    let is : p.0 ≡ n = grind (arith, nat_tests) in
    let y : pending cited queue p.0 ≡ true = ap (pending cited queue) is ∙ a in
    let z : pending cites more p.0 ≡ false = ap (pending cites more) is ∙ b in
    let rest : pending_count cites more ps ≤ pending_count cited queue ps = count_less cited queue cites more ps f in
    rw (y, z) (omega arith))
    (λ e.
    let rest : pending_count cites more ps < pending_count cited queue ps = count_falls cited queue cites more ps n (grind arith) a b f in
    by_test (pending cites more p.0)
    (λ y. let z : pending cited queue p.0 ≡ true = f p.0 y in rw (y, z) (omega arith))
    (λ y. by_test (pending cited queue p.0) (λ z. rw (y, z) (omega arith)) (λ z. rw (y, z) (omega arith))))

-- what is told of the clause, over the lemma as it was read
pub tells_of : (old st : LoadedState) (id : ℕ) (own : Option Witness) (kept : List Kept) (p : Place) (n : ℕ) (c : List Literal) (hints : List ℕ) (t : Trial) → IsTested old id kept p → st ≡ with_cited old st.cited → HasWitness old id own
    → clause_of (all_in st) n ≡ Some c
    → ((b d : List Literal) (w : Witness) → All NoRepeats (clauses (all_in st)) → SameSet st.assumed b → IsWitnessOf st id w → clause_of (all_in st) n ≡ Some d → Tells st b (substitution w) d hints t)
    → Tells st (assumed p) (moves p) c hints t
tells_of old st id own kept p n c hints t it e wit f tell =
    let two : Some wit.place ≡ Some p = sym wit.is_place ∙ it.is_place in
    let one : wit.place ≡ p = cc in
    let is : witness_of p.stated ≡ Some wit.witness = subst (λ x. witness_of x.stated ≡ Some wit.witness) one wit.is_witness in
    let places : place_in st id ≡ Some p = ap (λ x. place_in x id) e ∙ it.is_place in
    let of : IsWitnessOf st id wit.witness = λ q h. (let same : Some p ≡ Some q = sym places ∙ h in let pq : p ≡ q = cc in subst (λ x. witness_of x.stated ≡ Some wit.witness) pq is) in
    subst (λ m. Tells st (assumed p) m c hints t) (sym (moves_is p.stated wit.witness is))
    (tell (assumed p) c wit.witness (subst (λ x. All NoRepeats (clauses (all_in x))) (sym e) it.distinct) (λ l. ap (λ x. has l x.assumed) e ∙ it.from l) of f)

-- the same lemma is tested
pub tested_at : (st : LoadedState) (id : ℕ) (kept : List Kept) (p q : Place) → IsTested st id kept p → place_in st id ≡ Some q → IsTested st id kept q
tested_at st id kept p q t e = let two : Some p ≡ Some q = sym t.is_place ∙ e in let one : p ≡ q = cc in subst (IsTested st id kept) one t

pub waits_alive : (st : LoadedState) (p : Place) (gs : List Group) (queue rest : List ℕ) (n : ℕ) → CitedAreAlive st → IsQueued st p gs queue → Puts rest queue n → holds_number n (numbers (alive_in st)) ≡ true
waits_alive st p gs queue rest n a q e = a n (q.waits n (e n ∙ grind (arith, nat_tests))).0

-- a turn leaves fewer clauses that aren't cited or wait
not_in_rest : (n : ℕ) (rest : List ℕ) → AreAbove n rest → holds_number n rest ≡ false
not_in_rest n rest up = by_test (holds_number n rest) (λ y. absurd (let more : n < n = up n y in omega arith)) (λ y. y)

pub spare_falls : (st new : LoadedState) (p : Place) (gs : List Group) (queue rest : List ℕ) (n : ℕ) → CitedAreAlive st → IsQueued st p gs queue → Puts rest queue n → AreAbove n rest → new ≡ st
    → pending_count new.cited rest (alive_in new) < pending_count st.cited queue (alive_in st)
spare_falls st new p gs queue rest n a q e up same =
    let standing : is_standing st n ≡ true = (q.waits n (e n ∙ grind (arith, nat_tests))).0 in
    let cited : holds_number n st.cited ≡ true = cited_of_standing st n standing in
    let out : holds_number n rest ≡ false = not_in_rest n rest up in
    let held : holds_number n queue ≡ ((n == n) || holds_number n rest) = e n in
    subst (λ x. pending_count x.cited rest (alive_in x) < pending_count st.cited queue (alive_in st)) (sym same)
    (count_falls st.cited queue st.cited rest (alive_in st) n (waits_alive st p gs queue rest n a q e) (grind (arith, nat_tests)) (grind arith)
    (λ m h. let there : holds_number m queue ≡ ((n == m) || holds_number m rest) = e m in grind (arith, nat_tests)))

still_pending : (was now hint rest more here : Bool) → now ≡ (was || hint) → more ≡ (rest || (hint && not was)) → (not now || more) ≡ true → (not was || (here || rest)) ≡ true
still_pending was now hint rest more here e f h = grind arith

no_longer : (was now hint rest more : Bool) → now ≡ (was || hint) → more ≡ (rest || (hint && not was)) → was ≡ true → rest ≡ false → (not now || more) ≡ false
no_longer was now hint rest more e f w r = grind arith

pub met_falls : (st new : LoadedState) (p : Place) (gs : List Group) (queue rest more hints : List ℕ) (n : ℕ) → CitedAreAlive st → IsQueued st p gs queue → Puts rest queue n → AreAbove n rest → CitesAll st new hints
    → ((m : ℕ) → holds_number m more ≡ (holds_number m rest || (holds_number m hints && not (holds_number m st.cited)))) → pending_count new.cited more (alive_in new) < pending_count st.cited queue (alive_in st)
met_falls st new p gs queue rest more hints n a q e up cites put =
    let standing : is_standing st n ≡ true = (q.waits n (e n ∙ grind (arith, nat_tests))).0 in
    let cited : holds_number n st.cited ≡ true = cited_of_standing st n standing in
    let out : holds_number n rest ≡ false = not_in_rest n rest up in
    subst (λ ps. pending_count new.cited more ps < pending_count st.cited queue (alive_in st)) (sym (ap alive_in cites.same))
    (let held : holds_number n queue ≡ ((n == n) || holds_number n rest) = e n in
    count_falls st.cited queue new.cited more (alive_in st) n (waits_alive st p gs queue rest n a q e) (grind (arith, nat_tests))
    (no_longer (holds_number n st.cited) (holds_number n new.cited) (holds_number n hints) (holds_number n rest) (holds_number n more) (cites.cited n) (put n) cited out)
    (λ m h. ap (λ b. not (holds_number m st.cited) || b) (e m) ∙ still_pending (holds_number m st.cited) (holds_number m new.cited) (holds_number m hints) (holds_number m rest) (holds_number m more) (n == m) (cites.cited m) (put m) h))

pub steps_more : (old new was : List Kept) (id : ℕ) (g : Group) → old ≡ step_with id (first_groups old) ∷ was → new ≡ with_group g old → (new ≡ step_with id (first_groups new) ∷ was) × (first_groups new ≡ first_groups old ++ g ∷ [])
steps_more old new was id g e f =
    let all : new ≡ step_with id (first_groups old ++ g ∷ []) ∷ was = f ∙ ap (with_group g) e in
    let groups : first_groups new ≡ first_groups old ++ g ∷ [] = ap first_groups all in
    (all ∙ ap (λ gs. step_with id gs ∷ was) (sym groups), groups)

pub steps_sorted : (old new was : List Kept) (id : ℕ) → old ≡ step_with id (first_groups old) ∷ was → new ≡ with_groups (rising (first_groups old)) old → new ≡ step_with id (rising (first_groups old)) ∷ was
steps_sorted old new was id e f = f ∙ ap (with_groups (rising (first_groups old))) e
