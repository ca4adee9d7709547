-- The backward pass makes a proof that is judged forward.
use Rattle.std.proofs.Common.{◌≡◌, ℕ, ◌<◌, ◌==◌, Bool, true, false, not, ◌&&◌, ◌||◌, cond, List, [], ◌∷◌, ◌++◌, Some, None, refl, sym, ◌∙◌, ap, subst, arith, length, append-nil, ◌≤◌, ◌+◌}
use Rattle.std.specs.Prelude.{filter, nat_le}
use Rattle.std.proofs.lemmas.Bool.Decides.{nat_tests}
use Rattle.std.proofs.lemmas.List.Elements.{filter-append}
use Rattle.sr_base.specs.Literal.{Literal}
use Rattle.sr_model.specs.declared.verdict.Verdict.TheVariants.{Verified}
use Rattle.sr_model.specs.Assignment.{holds_number, Unsat}
use Rattle.sr_model.specs.Refutation.{has_empty}
use Rattle.sr_model.specs.Chain.{Numbered, clause_of}
use Rattle.sr_model.specs.Meeting.{Step, met, meets_over, meets}
use Rattle.sr_model.specs.Judging.{Item, numbered_from, without, Live, first_live, live_with, first_dead, drop_meets, ends_proof, verdict_of, judge_from, judge, HavePivots}
use Rattle.sr_trimming.specs.Citing.{cites, is_cited, cited_of, below, need, numbered_steps, all_of, AreRising, core}
use Rattle.sr_trimming.specs.Placing.{numbers, deletion, last_cited, placed_from, uncited, placed}
use Rattle.sr_trimming.specs.Backward.{AreLinked, MeetNeed, StepsHavePivots, AreMet}
use Rattle.sr_model.proofs.Soundness.{by_test}
use Rattle.sr_model.proofs.Judged.{judged_unsat}

-- the clauses known after a step
abbrev pub known_after : Numbered → Step → Numbered
known_after known s = known ++ (s.id, s.clause) ∷ []

-- each step is met over those of the clauses known before it that it or a later one cites
abbrev pub MeetKnown : Bool → Numbered → List Step → Type 0
MeetKnown strict known [] = Unit {0}
MeetKnown strict known (s ∷ later) = (meets_over strict (cited_of known (s ∷ later)) s ≡ met) × MeetKnown strict (known_after known s) later

-- the numbers of the clauses whose numbers pass a test
pub in_numbers : (p : ℕ → Bool) (n : ℕ) (ps : Numbered) → holds_number n (numbers (filter (λ q. p q.0) ps)) ≡ (p n && holds_number n (numbers ps))
in_numbers p n [] = grind arith
in_numbers p n (q ∷ ps) = by_test (q.0 == n)
    (λ e. let is : q.0 ≡ n = grind (arith, nat_tests) in let same : p q.0 ≡ p n = ap p is in grind (arith, nat_tests, in_numbers p n ps))
    (λ e. grind (arith, in_numbers p n ps))

-- what passes one test is left where what passes another is dropped
left_of : (gone kept rest : ℕ → Bool) (all ps : Numbered) → ((n : ℕ) → holds_number n (numbers ps) ≡ true → holds_number n (numbers all) ≡ true) → ((n : ℕ) → rest n ≡ (kept n && not (gone n)))
    → without (numbers (filter (λ q. gone q.0) all)) (filter (λ q. kept q.0) ps) ≡ filter (λ q. rest q.0) ps
left_of gone kept rest all [] sub e = refl
left_of gone kept rest all (x ∷ ps) sub e =
    let more = left_of gone kept rest all ps (λ n h. sub n (grind arith)) e in
    let there : holds_number x.0 (numbers all) ≡ true = sub x.0 (grind (arith, nat_tests)) in
    grind (arith, in_numbers gone x.0 all, e x.0)

pub without_none : (live : Numbered) → without [] live ≡ live
without_none [] = refl
without_none (p ∷ ps) = ap (λ ls. p ∷ ls) (without_none ps)

-- before a step the clauses that it or a later one needs are live; after it and its deletion those that a later one needs
pub next_need : (known : Numbered) (s : Step) (later : List Step) → is_cited s.id later ≡ true
    → without (last_cited known s later) (cited_of known (s ∷ later) ++ (s.id, s.clause) ∷ []) ≡ cited_of (known_after known s) later
next_need known s later c =
    let rest : without (last_cited known s later) (cited_of known (s ∷ later)) ≡ cited_of known later =
    left_of (λ n. cites n s && not (is_cited n later)) (λ n. is_cited n (s ∷ later)) (λ n. is_cited n later) known known (λ n h. h) (λ n. grind arith) in
    let stays : holds_number s.id (last_cited known s later) ≡ false = in_numbers (λ n. cites n s && not (is_cited n later)) s.id known ∙ grind arith in
    let one : without (last_cited known s later) ((s.id, s.clause) ∷ []) ≡ (s.id, s.clause) ∷ [] = grind arith in
    let one_more : cited_of ((s.id, s.clause) ∷ []) later ≡ (s.id, s.clause) ∷ [] = grind arith in
    filter-append (λ p. not (holds_number p.0 (last_cited known s later))) (cited_of known (s ∷ later)) ((s.id, s.clause) ∷ [])
    ∙ ap (λ x. x ++ without (last_cited known s later) ((s.id, s.clause) ∷ [])) rest ∙ ap (λ x. cited_of known later ++ x) (one ∙ sym one_more)
    ∙ sym (filter-append (λ p. is_cited p.0 later) known ((s.id, s.clause) ∷ []))

-- the first deletion leaves what is cited at all
pub first_need : (f : List (List Literal)) (steps : List Step) → without (uncited f steps) (numbered_from 1 f) ≡ cited_of (numbered_from 1 f) steps
first_need f steps =
    ap (without (uncited f steps)) (sym (all_kept (numbered_from 1 f)))
    ∙ left_of (λ n. not (is_cited n steps)) (λ n. true) (λ n. is_cited n steps) (numbered_from 1 f) (numbered_from 1 f) (λ n h. h) (λ n. grind arith)
  where
    all_kept : (ps : Numbered) → filter (λ q. true) ps ≡ ps
    all_kept [] = refl
    all_kept (p ∷ ps) = ap (λ x. p ∷ x) (all_kept ps)

-- the numbers rise, from above one number to another
abbrev pub RiseTo : ℕ → Numbered → ℕ → Type 0
RiseTo n [] last = n ≤ last
RiseTo n (p ∷ ps) last = (n < p.0) × RiseTo p.0 ps last

pub rise_numbered : (n : ℕ) (f : List (List Literal)) → RiseTo n (numbered_from (n + 1) f) (n + length f)
rise_numbered n [] = omega arith
rise_numbered n (c ∷ cs) = (omega arith, subst (λ x. RiseTo (n + 1) (numbered_from (n + 1 + 1) cs) x) (omega arith) (rise_numbered (n + 1) cs))

pub rise_formula : (f : List (List Literal)) → RiseTo 0 (numbered_from 1 f) (length f)
rise_formula f = subst (λ x. RiseTo 0 (numbered_from 1 f) x) (omega arith) (rise_numbered 0 f)

pub rise_push : (n : ℕ) (ps : Numbered) (last k : ℕ) (c : List Literal) → RiseTo n ps last → last < k → RiseTo n (ps ++ (k, c) ∷ []) k
rise_push n [] last k c r h = (omega arith, omega arith)
rise_push n (p ∷ ps) last k c r h = (r.0, rise_push p.0 ps last k c r.1 h)

pub rise_from : (m n : ℕ) (ps : Numbered) → m ≤ n → AreRising n ps → AreRising m ps
rise_from m n [] h r = tt
rise_from m n (p ∷ ps) h r = (omega (arith, r.0), r.1)

-- numbers that are picked rise too
pub rise_kept : (t : ℕ × List Literal → Bool) (n : ℕ) (ps : Numbered) (last : ℕ) → RiseTo n ps last → AreRising n (filter t ps)
rise_kept t n [] last r = tt
rise_kept t n (p ∷ ps) last r = by_test (t p) (λ e. rw e (r.0, rise_kept t p.0 ps last r.1)) (λ e. rw e (rise_from n p.0 (filter t ps) (omega (arith, r.0)) (rise_kept t p.0 ps last r.1)))

pub rise_again : (t : ℕ × List Literal → Bool) (n : ℕ) (ps : Numbered) → AreRising n ps → AreRising n (filter t ps)
rise_again t n [] r = tt
rise_again t n (p ∷ ps) r = by_test (t p) (λ e. rw e (r.0, rise_again t p.0 ps r.1)) (λ e. rw e (rise_from n p.0 (filter t ps) (omega (arith, r.0)) (rise_again t p.0 ps r.1)))

pub append_one : (ps qs : Numbered) (q : ℕ × List Literal) → (ps ++ q ∷ []) ++ qs ≡ ps ++ q ∷ qs
append_one [] qs q = refl
append_one (p ∷ ps) qs q = ap (λ x. p ∷ x) (append_one ps qs q)

-- a formula's clauses and those of linked steps
pub rise_all : (known : Numbered) (last : ℕ) (steps : List Step) → RiseTo 0 known last → AreLinked last steps → (end : ℕ) × RiseTo 0 (known ++ numbered_steps steps) end
rise_all known last [] r l = absurd l
rise_all known last (s ∷ []) r l = (s.id, rise_push 0 known last s.id s.clause r l.0)
rise_all known last (s ∷ t ∷ later) r l =
    let more = rise_all (known_after known s) s.id (t ∷ later) (rise_push 0 known last s.id s.clause r l.0) l.3 in
    (more.0, subst (λ x. RiseTo 0 x more.0) (append_one known (numbered_steps (t ∷ later)) (s.id, s.clause)) more.1)

rise_end : (n : ℕ) (ps : Numbered) (last : ℕ) → RiseTo n ps last → n ≤ last
rise_end n [] last r = r
rise_end n (p ∷ ps) last r = omega (arith, r.0, rise_end p.0 ps last r.1)

-- all known clauses are below a later step, and no later step's clause is
below_known : (n : ℕ) (ps : Numbered) (last k : ℕ) → RiseTo n ps last → last < k → below k ps ≡ ps
below_known n [] last k r h = refl
below_known n (p ∷ ps) last k r h = let low : p.0 ≤ last = rise_end p.0 ps last r.1 in grind (arith, nat_tests, below_known p.0 ps last k r.1 h)

below_later : (k last : ℕ) (steps : List Step) → k ≤ last → AreLinked last steps → below k (numbered_steps steps) ≡ []
below_later k last [] h l = refl
below_later k last (s ∷ []) h l = grind (arith, nat_tests, l.0)
below_later k last (s ∷ t ∷ later) h l = let up : k ≤ s.id = omega (arith, l.0) in grind (arith, nat_tests, below_later k s.id (t ∷ later) up l.3)

below_all : (known : Numbered) (last : ℕ) (s : Step) (later : List Step) → RiseTo 0 known last → AreLinked last (s ∷ later) → below s.id (known ++ numbered_steps (s ∷ later)) ≡ known
below_all known last s later r l =
    filter-append (λ p. not (nat_le s.id p.0)) known (numbered_steps (s ∷ later))
    ∙ ap (λ x. x ++ below s.id (numbered_steps (s ∷ later))) (below_known 0 known last s.id r (first later l))
    ∙ ap (λ x. known ++ x) (none later l) ∙ append-nil known
  where
    first : (later : List Step) → AreLinked last (s ∷ later) → last < s.id
    first [] l = l.0
    first (t ∷ later) l = l.0

    none : (later : List Step) → AreLinked last (s ∷ later) → below s.id (numbered_steps (s ∷ later)) ≡ []
    none [] l = grind (arith, nat_tests)
    none (t ∷ later) l = grind (arith, nat_tests, below_later s.id s.id (t ∷ later) (omega arith) l.3)

-- what is needed, by the clauses known before a step
pub need_known : (known : Numbered) (last : ℕ) (s : Step) (later : List Step) → RiseTo 0 known last → AreLinked last (s ∷ later) → need (known ++ numbered_steps (s ∷ later)) s later ≡ cited_of known (s ∷ later)
need_known known last s later r l = ap (λ x. cited_of x (s ∷ later)) (below_all known last s later r l)

pub meet_known : (strict : Bool) (known : Numbered) (last : ℕ) (steps : List Step) → RiseTo 0 known last → AreLinked last steps → MeetNeed strict (known ++ numbered_steps steps) steps → MeetKnown strict known steps
meet_known strict known last [] r l m = tt
meet_known strict known last (s ∷ []) r l m = (subst (λ x. meets_over strict x s ≡ met) (need_known known last s [] r l) m.0, tt)
meet_known strict known last (s ∷ t ∷ later) r l m = (
  subst (λ x. meets_over strict x s ≡ met) (need_known known last s (t ∷ later) r l) m.0,
  meet_known strict (known_after known s) s.id (t ∷ later) (rise_push 0 known last s.id s.clause r l.0) l.3 (subst (λ x. MeetNeed strict x (t ∷ later)) (sym (append_one known (numbered_steps (t ∷ later)) (s.id, s.clause))) m.1),
)

-- numbers that rise
abbrev pub NumbersRise : ℕ → List ℕ → Type 0
NumbersRise n [] = Unit {0}
NumbersRise n (d ∷ ds) = (n < d) × NumbersRise d ds

pub numbers_rise : (n : ℕ) (ps : Numbered) → AreRising n ps → NumbersRise n (numbers ps)
numbers_rise n [] r = tt
numbers_rise n (p ∷ ps) r = (r.0, numbers_rise p.0 ps r.1)

above_all : (n k : ℕ) (ds : List ℕ) → NumbersRise n ds → holds_number k ds ≡ true → n < k
above_all n k [] r h = absurd cc
above_all n k (d ∷ ds) r h = by_test (d == k)
    (λ e. let is : d ≡ k = grind (arith, nat_tests) in subst (λ x. n < x) is r.0)
    (λ e. let up : d < k = above_all d k ds r.1 (grind arith) in omega (arith, r.0, up))

pub found_in : (d : ℕ) (ps : Numbered) → holds_number d (numbers ps) ≡ true → (c : List Literal) × (clause_of ps d ≡ Some c)
found_in d [] h = absurd cc
found_in d (p ∷ ps) h = by_test (p.0 == d)
    (λ e. (p.1, rw e refl))
    (λ e. let r = found_in d ps (grind arith) in (r.0, rw e r.1))

-- rising numbers that are live may be dropped one after another
pub none_dead : (n : ℕ) (live : Numbered) (ids : List ℕ) → NumbersRise n ids → ((k : ℕ) → holds_number k ids ≡ true → holds_number k (numbers live) ≡ true) → first_dead live ids ≡ None
none_dead n live [] r h = refl
none_dead n live (d ∷ ds) r h =
    let there = found_in d live (h d (grind (arith, nat_tests))) in
    rw (there.1, first_dead) (none_dead d (without (d ∷ []) live) ds r.1
    (λ k i. let up : d < k = above_all d k ds r.1 i in let was : holds_number k (numbers live) ≡ true = h k (grind arith) in
    in_numbers (λ m. not (holds_number m (d ∷ []))) k live ∙ grind (arith, nat_tests)))

in_append : (k : ℕ) (ps qs : Numbered) → holds_number k (numbers ps) ≡ true → holds_number k (numbers (ps ++ qs)) ≡ true
in_append k [] qs h = absurd cc
in_append k (p ∷ ps) qs h = grind (arith, in_append k ps qs)

-- a deletion of no numbers is none
abbrev pub live_of : Numbered → ℕ → Live
live_of live last = record { clauses = live; last = last }

after_deletion : (strict : Bool) (live : Numbered) (last id n : ℕ) (ids : List ℕ) (items : List Item) → NumbersRise n ids → ((k : ℕ) → holds_number k ids ≡ true → holds_number k (numbers live) ≡ true)
    → AreMet strict (live_of (without ids live) last) items → AreMet strict (live_of live last) (deletion id ids items)
after_deletion strict live last id n [] items r h m = subst (λ x. AreMet strict (live_of x last) items) (without_none live) m
after_deletion strict live last id n (k ∷ ks) items r h m = (at strict, m)
  where
    at : (b : Bool) → cond b (drop_meets (first_dead live (k ∷ ks))) met ≡ met
    at true = ap drop_meets (none_dead n live (k ∷ ks) r h)
    at false = refl

is_new : (strict : Bool) (live : Numbered) (last : ℕ) (s : Step) → last < s.id → meets_over strict live s ≡ met → meets strict live last s ≡ met
is_new strict live last s h m = by_test (nat_le s.id last) (λ e. absurd (grind (arith, nat_tests))) (λ e. rw e m)

-- what a step is the last to cite is live after it, and rises
last_rise : (known : Numbered) (last : ℕ) (s : Step) (later : List Step) → RiseTo 0 known last → NumbersRise 0 (last_cited known s later)
last_rise known last s later r = numbers_rise 0 (filter (λ p. cites p.0 s && not (is_cited p.0 later)) known) (rise_kept (λ p. cites p.0 s && not (is_cited p.0 later)) 0 known last r)

last_live : (known : Numbered) (s : Step) (later : List Step) (k : ℕ) → holds_number k (last_cited known s later) ≡ true
    → holds_number k (numbers (cited_of known (s ∷ later) ++ (s.id, s.clause) ∷ [])) ≡ true
last_live known s later k h =
    let both : (cites k s && not (is_cited k later) && holds_number k (numbers known)) ≡ true = at (sym (in_numbers (λ n. cites n s && not (is_cited n later)) k known) ∙ h) in
    in_append k (cited_of known (s ∷ later)) ((s.id, s.clause) ∷ []) (in_numbers (λ n. is_cited n (s ∷ later)) k known ∙ grind arith)
  where
    at : ((cites k s && not (is_cited k later)) && holds_number k (numbers known)) ≡ true → (cites k s && not (is_cited k later) && holds_number k (numbers known)) ≡ true
    at e = grind arith

-- what is met over the clauses that are needed is met over the live ones
pub placed_met : (strict : Bool) (known : Numbered) (last : ℕ) (steps : List Step) → RiseTo 0 known last → AreLinked last steps → MeetKnown strict known steps
    → AreMet strict (live_of (cited_of known steps) last) (placed_from known steps)
placed_met strict known last [] r l m = tt
placed_met strict known last (s ∷ []) r l m = (is_new strict (cited_of known (s ∷ [])) last s l.0 m.0, tt)
placed_met strict known last (s ∷ t ∷ later) r l m = (
  is_new strict (cited_of known (s ∷ t ∷ later)) last s l.0 m.0,
  rw (l.1, live_with) (after_deletion strict (cited_of known (s ∷ t ∷ later) ++ (s.id, s.clause) ∷ []) s.id s.id 0 (last_cited known s (t ∷ later)) (placed_from (known_after known s) (t ∷ later))
      (last_rise known last s (t ∷ later) r) (last_live known s (t ∷ later))
      (rw (next_need known s (t ∷ later) l.2) (placed_met strict (known_after known s) s.id (t ∷ later) (rise_push 0 known last s.id s.clause r l.0) l.3 m.1))),
)

-- met items with an empty clause among them are verified
abbrev pub some_ends : List Item → Bool
some_ends [] = false
some_ends (item ∷ items) = ends_proof item || some_ends items

pub met_verified : (strict : Bool) (lv : Live) (items : List Item) → AreMet strict lv items → some_ends items ≡ true → judge_from strict lv items ≡ Verified
met_verified strict lv [] m e = absurd cc
met_verified strict lv (item ∷ items) m e =
    ap (λ x. verdict_of item x (judge_from strict (live_with lv item) items)) m.0
    ∙ by_test (ends_proof item) (λ y. rw y refl) (λ y. rw y (met_verified strict (live_with lv item) items m.1 (grind arith)))

deletion_ends : (id : ℕ) (ids : List ℕ) (items : List Item) → some_ends items ≡ true → some_ends (deletion id ids items) ≡ true
deletion_ends id [] items e = e
deletion_ends id (n ∷ ns) items e = e

pub placed_ends : (known : Numbered) (last : ℕ) (steps : List Step) → AreLinked last steps → some_ends (placed_from known steps) ≡ true
placed_ends known last [] l = absurd l
placed_ends known last (s ∷ []) l = grind (arith, l.1)
placed_ends known last (s ∷ t ∷ later) l =
    let rest = deletion_ends s.id (last_cited known s (t ∷ later)) (placed_from (known_after known s) (t ∷ later)) (placed_ends (known_after known s) s.id (t ∷ later) l.3) in
    grind (arith, l.1, rest)

deletion_pivots : (id : ℕ) (ids : List ℕ) (items : List Item) → HavePivots items → HavePivots (deletion id ids items)
deletion_pivots id [] items h = h
deletion_pivots id (n ∷ ns) items h = (tt, h)

pub placed_pivots : (known : Numbered) (steps : List Step) → StepsHavePivots steps → HavePivots (placed_from known steps)
placed_pivots known [] h = tt
placed_pivots known (s ∷ []) h = (h.0, tt)
placed_pivots known (s ∷ t ∷ later) h = (h.0, deletion_pivots s.id (last_cited known s (t ∷ later)) (placed_from (known_after known s) (t ∷ later)) (placed_pivots (known_after known s) (t ∷ later) h.1))

-- from what is met over the known clauses
pub known_forward : (strict : Bool) (f : List (List Literal)) (steps : List Step) → AreLinked (length f) steps → MeetKnown strict (numbered_from 1 f) steps
    → AreMet strict (first_live f) (placed f steps) × (judge strict f (placed f steps) ≡ Verified)
known_forward strict f steps l m = (
  are_met,
  by_test (has_empty f) (λ e. rw e refl) (λ e. rw e (met_verified strict (first_live f) (placed f steps) are_met
      (deletion_ends (length f) (uncited f steps) (placed_from (numbered_from 1 f) steps) (placed_ends (numbered_from 1 f) (length f) steps l)))),
)
  where
    are_met : AreMet strict (first_live f) (placed f steps)
    are_met = after_deletion strict (numbered_from 1 f) (length f) (length f) 0 (uncited f steps) (placed_from (numbered_from 1 f) steps)
        (numbers_rise 0 (filter (λ p. not (is_cited p.0 steps)) (numbered_from 1 f)) (rise_kept (λ p. not (is_cited p.0 steps)) 0 (numbered_from 1 f) (length f) (rise_formula f)))
        (λ k h. let both = sym (in_numbers (λ n. not (is_cited n steps)) k (numbered_from 1 f)) ∙ h in grind arith)
        (rw (first_need f steps) (placed_met strict (numbered_from 1 f) (length f) steps (rise_formula f) l m))

pub backward_forward : (strict : Bool) (f : List (List Literal)) (steps : List Step) → AreLinked (length f) steps → StepsHavePivots steps → MeetNeed strict (all_of f steps) steps
    → AreMet strict (first_live f) (placed f steps) × (judge strict f (placed f steps) ≡ Verified) × Unsat (core f steps)
backward_forward strict f steps l g n =
    let m : MeetKnown strict (numbered_from 1 f) steps = meet_known strict (numbered_from 1 f) (length f) steps (rise_formula f) l n in
    let r = known_forward strict f steps l m in
    let lv : Live = live_of (cited_of (numbered_from 1 f) steps) (length f) in (
      r.0,
      r.1,
      judged_unsat strict lv (placed_from (numbered_from 1 f) steps) (placed_pivots (numbered_from 1 f) steps g)
          (met_verified strict lv (placed_from (numbered_from 1 f) steps) (placed_met strict (numbered_from 1 f) (length f) steps (rise_formula f) l m) (placed_ends (numbered_from 1 f) (length f) steps l)),
    )
