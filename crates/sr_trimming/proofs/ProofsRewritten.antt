-- Whole proofs are judged alike where the clauses of their steps are reordered after the first literal, and are as lean.
use Rattle.std.proofs.Common.{◌≡◌, ◌<◌, ◌+◌, ℕ, suc, Bool, true, false, not, ◌&&◌, ◌||◌, cond, List, [], ◌∷◌, ◌++◌, Option, Some, None, refl, sym, ◌∙◌, ap, subst, arith, length}
use Rattle.std.specs.Prelude.{nat_le, filter, All}
use Rattle.sr_base.specs.Literal.{Literal, complement, has, NoRepeats, SameSet, compl}
use Rattle.sr_model.specs.declared.verdict.Verdict.{Verdict}
use Rattle.sr_model.specs.declared.verdict.Verdict.TheVariants.{Verified, Rejected}
use Rattle.sr_model.specs.Assignment.{holds_number}
use Rattle.sr_model.specs.Refutation.{is_empty, has_empty}
use Rattle.sr_model.specs.Substitution.{Substitution, Witness, has_pair, Reduction, untouched, satisfied, left, reduction, substitution, IsPivot}
use Rattle.sr_model.specs.Chain.{Numbered, clauses, clause_of, HintEnd, closes, adds, misleads, hint}
use Rattle.sr_model.specs.Meeting.{Group, Step, Meeting, met, unmet, meets}
use Rattle.sr_model.specs.Judging.{Item, stepped, dropped, numbered_from, without, Live, first_live, live_with, first_dead, drop_meets, item_meets, item_number, ends_proof, verdict_of, judge_from, judge}
use Rattle.sr_trimming.specs.Reordered.{AreReordered, ReducedAlike, SameFirst, IsStepRewritten, IsItemRewritten, AreItemsRewritten, AreStepsRewritten}
use Rattle.sr_trimming.specs.Citing.{groups_cite, cites, is_cited, cited_of, below, need, numbered_steps, all_of, core}
use Rattle.sr_trimming.specs.Placing.{numbers, deletion, last_cited, placed_from, uncited, placed}
use Rattle.sr_trimming.specs.Lean.{found_has, stands_in, no_more, is_lean, left_set, group_start, needs_group, AreLeanGroups, IsLeanWith, IsLean}
use Rattle.sr_trimming.specs.Backward.{AreLinked, MeetNeed, StepsHavePivots, AreMet}
use Rattle.sr_trimming.specs.Trimmed.{LeanByNeed}
use Rattle.sr_model.proofs.Soundness.{by_test}
use Rattle.sr_trimming.proofs.Reordered.{same_append, same_compl, pair_same, reduction_same, FoundAlike, found_same, hint_same}
use Rattle.sr_trimming.proofs.Rewritten.{empty_same, needs_same, over_same, meets_same}

-- no clause of a list has a literal twice
pub apart_first : (c : List Literal) (cs : List (List Literal)) → All NoRepeats (c ∷ cs) → NoRepeats c
apart_first c cs h = h 0 [] (omega arith)

pub apart_rest : (c : List Literal) (cs : List (List Literal)) → All NoRepeats (c ∷ cs) → All NoRepeats cs
apart_rest c cs h k d b = h (suc k) d (omega arith)

-- lists of numbered clauses
pub reordered_refl : (n : ℕ) (f : List (List Literal)) → All NoRepeats f → AreReordered (numbered_from n f) (numbered_from n f)
reordered_refl n [] h = tt
reordered_refl n (c ∷ cs) h = let a = apart_first c cs h in (refl, record { same_literals = λ l. refl; none_twice = a; none_twice_in_other = a }, reordered_refl (n + 1) cs (apart_rest c cs h))

pub reordered_append : (ps qs xs ys : Numbered) → AreReordered ps qs → AreReordered xs ys → AreReordered (ps ++ xs) (qs ++ ys)
reordered_append [] [] xs ys r e = e
reordered_append [] (q ∷ qs) xs ys r e = absurd r
reordered_append (p ∷ ps) [] xs ys r e = absurd r
reordered_append (p ∷ ps) (q ∷ qs) xs ys r e = (r.0, r.1, reordered_append ps qs xs ys r.2 e)

pub reordered_kept : (t u : ℕ → Bool) (ps qs : Numbered) → ((n : ℕ) → t n ≡ u n) → AreReordered ps qs → AreReordered (filter (λ p. t p.0) ps) (filter (λ p. u p.0) qs)
reordered_kept t u [] [] e r = tt
reordered_kept t u [] (q ∷ qs) e r = absurd r
reordered_kept t u (p ∷ ps) [] e r = absurd r
reordered_kept t u (p ∷ ps) (q ∷ qs) e r =
    let alike : t p.0 ≡ u q.0 = e p.0 ∙ ap u r.0 in
    by_test (t p.0)
    (λ y. let z : u q.0 ≡ true = sym alike ∙ y in rw (y, z) (r.0, r.1, reordered_kept t u ps qs e r.2))
    (λ y. let z : u q.0 ≡ false = sym alike ∙ y in rw (y, z) (reordered_kept t u ps qs e r.2))

pub numbers_same : (t u : ℕ → Bool) (ps qs : Numbered) → ((n : ℕ) → t n ≡ u n) → AreReordered ps qs → numbers (filter (λ p. t p.0) ps) ≡ numbers (filter (λ p. u p.0) qs)
numbers_same t u [] [] e r = refl
numbers_same t u [] (q ∷ qs) e r = absurd r
numbers_same t u (p ∷ ps) [] e r = absurd r
numbers_same t u (p ∷ ps) (q ∷ qs) e r =
    let alike : t p.0 ≡ u q.0 = e p.0 ∙ ap u r.0 in
    by_test (t p.0)
    (λ y. let z : u q.0 ≡ true = sym alike ∙ y in rw (y, z) (ap (λ n. n ∷ numbers (filter (λ p. t p.0) ps)) r.0 ∙ ap (λ ns. q.0 ∷ ns) (numbers_same t u ps qs e r.2)))
    (λ y. let z : u q.0 ≡ false = sym alike ∙ y in rw (y, z) (numbers_same t u ps qs e r.2))

-- judging
first_dead_same : (live mem : Numbered) (ids : List ℕ) → AreReordered live mem → first_dead live ids ≡ first_dead mem ids
first_dead_same live mem [] r = refl
first_dead_same live mem (d ∷ ds) r = at (clause_of live d) (clause_of mem d) (found_same live mem d r)
    (first_dead_same (without (d ∷ []) live) (without (d ∷ []) mem) ds (reordered_kept (λ n. not (holds_number n (d ∷ []))) (λ n. not (holds_number n (d ∷ []))) live mem (λ n. refl) r))
  where
    dead_or : Option ℕ → Option (List Literal) → Option ℕ
    dead_or rest x = elim x [ None ↦ Some d | Some c ↦ rest ]

    at : (x y : Option (List Literal)) → FoundAlike x y → first_dead (without (d ∷ []) live) ds ≡ first_dead (without (d ∷ []) mem) ds
        → dead_or (first_dead (without (d ∷ []) live) ds) x ≡ dead_or (first_dead (without (d ∷ []) mem) ds) y
    at None None f e = refl
    at None (Some c) f e = absurd f
    at (Some c) None f e = absurd f
    at (Some c) (Some d) f e = e

-- live clauses that are reordered, with one greatest number
pub record LiveAlike (lv lw : Live) : Type 0 where
  pub clauses : AreReordered lv.clauses lw.clauses
  pub last : lv.last ≡ lw.last

live_same : (lv lw : Live) (i j : Item) → LiveAlike lv lw → IsItemRewritten i j → LiveAlike (live_with lv i) (live_with lw j)
live_same lv lw (stepped s) (dropped id ids) r w = absurd w
live_same lv lw (dropped id ids) (stepped t) r w = absurd w
live_same lv lw (dropped id ids) (dropped id' ids') r w = record {
  clauses = subst (λ x. AreReordered (without ids lv.clauses) (without x lw.clauses)) w.1 (reordered_kept (λ n. not (holds_number n ids)) (λ n. not (holds_number n ids)) lv.clauses lw.clauses (λ n. refl) r.clauses);
  last = r.last;
}
live_same lv lw (stepped s) (stepped t) r w =
    let alike : is_empty s.clause ≡ is_empty t.clause = empty_same s.clause t.clause w.clause.reordered.same_literals in
    by_test (is_empty s.clause)
    (λ y. let z : is_empty t.clause ≡ true = sym alike ∙ y in rw (y, z) r)
    (λ y. let z : is_empty t.clause ≡ false = sym alike ∙ y in
    rw (y, z) (record { clauses = reordered_append lv.clauses lw.clauses ((s.id, s.clause) ∷ []) ((t.id, t.clause) ∷ []) r.clauses (w.id, w.clause.reordered, tt); last = w.id }))

pub item_same : (strict : Bool) (lv lw : Live) (i j : Item) → LiveAlike lv lw → IsItemRewritten i j → item_meets strict lv i ≡ item_meets strict lw j
item_same strict lv lw (stepped s) (dropped id ids) r w = absurd w
item_same strict lv lw (dropped id ids) (stepped t) r w = absurd w
item_same strict lv lw (stepped s) (stepped t) r w = ap (λ n. meets strict lv.clauses n s) r.last ∙ meets_same strict lv.clauses lw.clauses lw.last s t r.clauses w
item_same strict lv lw (dropped id ids) (dropped id' ids') r w =
    ap (λ o. cond strict (drop_meets o) met) (ap (first_dead lv.clauses) w.1 ∙ first_dead_same lv.clauses lw.clauses ids' r.clauses)

ends_same : (i j : Item) → IsItemRewritten i j → ends_proof i ≡ ends_proof j
ends_same (stepped s) (stepped t) w = empty_same s.clause t.clause w.clause.reordered.same_literals
ends_same (stepped s) (dropped id ids) w = absurd w
ends_same (dropped id ids) (stepped t) w = absurd w
ends_same (dropped id ids) (dropped id' ids') w = refl

number_same : (i j : Item) → IsItemRewritten i j → item_number i ≡ item_number j
number_same (stepped s) (stepped t) w = w.id
number_same (stepped s) (dropped id ids) w = absurd w
number_same (dropped id ids) (stepped t) w = absurd w
number_same (dropped id ids) (dropped id' ids') w = w.0

verdict_same : (i j : Item) (m : Meeting) (v : Verdict) → IsItemRewritten i j → verdict_of i m v ≡ verdict_of j m v
verdict_same i j met v w = ap (λ e. cond e Verified v) (ends_same i j w)
verdict_same i j (unmet x) v w = ap (λ n. Rejected n x) (number_same i j w)

pub judge_from_same : (strict : Bool) (lv lw : Live) (is js : List Item) → LiveAlike lv lw → AreItemsRewritten is js → judge_from strict lv is ≡ judge_from strict lw js
judge_from_same strict lv lw [] [] r w = refl
judge_from_same strict lv lw [] (j ∷ js) r w = absurd w
judge_from_same strict lv lw (i ∷ is) [] r w = absurd w
judge_from_same strict lv lw (i ∷ is) (j ∷ js) r w =
    ap (λ m. verdict_of i m (judge_from strict (live_with lv i) is)) (item_same strict lv lw i j r w.0)
    ∙ ap (verdict_of i (item_meets strict lw j)) (judge_from_same strict (live_with lv i) (live_with lw j) is js (live_same lv lw i j r w.0) w.1)
    ∙ verdict_same i j (item_meets strict lw j) (judge_from strict (live_with lw j) js) w.0

pub judge_same : (strict : Bool) (f : List (List Literal)) (is js : List Item) → All NoRepeats f → AreItemsRewritten is js → judge strict f is ≡ judge strict f js
judge_same strict f is js h w = ap (cond (has_empty f) Verified) (judge_from_same strict (first_live f) (first_live f) is js (record { clauses = reordered_refl 1 f h; last = refl }) w)

pub met_same : (strict : Bool) (lv lw : Live) (is js : List Item) → LiveAlike lv lw → AreItemsRewritten is js → AreMet strict lv is → AreMet strict lw js
met_same strict lv lw [] [] r w m = tt
met_same strict lv lw [] (j ∷ js) r w m = absurd w
met_same strict lv lw (i ∷ is) [] r w m = absurd w
met_same strict lv lw (i ∷ is) (j ∷ js) r w m = (sym (item_same strict lv lw i j r w.0) ∙ m.0, met_same strict (live_with lv i) (live_with lw j) is js (live_same lv lw i j r w.0) w.1 m.1)

-- leanness
stands_same : (live mem : Numbered) (l : Literal) (hints : List ℕ) → AreReordered live mem → stands_in live l hints ≡ stands_in mem l hints
stands_same live mem l [] r = refl
stands_same live mem l (h ∷ hs) r =
    ap (λ b. b || stands_in live l hs) (at (clause_of live h) (clause_of mem h) (found_same live mem h r)) ∙ ap (λ b. found_has l (clause_of mem h) || b) (stands_same live mem l hs r)
  where
    at : (x y : Option (List Literal)) → FoundAlike x y → found_has l x ≡ found_has l y
    at None None f = refl
    at None (Some c) f = absurd f
    at (Some c) None f = absurd f
    at (Some c) (Some d) f = f.same_literals l

pub lean_same : (live mem : Numbered) (a b : List Literal) (hints : List ℕ) → AreReordered live mem → SameSet a b → is_lean live a hints ≡ is_lean mem b hints
lean_same live mem a b [] r s = pair_same a b s
lean_same live mem a b (h ∷ hs) r s =
    ap (λ p. not p && lean_after live a (hint live a h)) (pair_same a b s)
    ∙ ap (λ x. not (has_pair b) && x) (ap (lean_after live a) (hint_same live mem a b h r s) ∙ at (hint mem b h) (λ l. lean_same live mem (a ++ l ∷ []) (b ++ l ∷ []) hs r (same_append a b (l ∷ []) (l ∷ []) s (λ k. refl))))
  where
    lean_after : Numbered → List Literal → HintEnd → Bool
    lean_after live a x = elim x [
      | closes ↦ no_more hs
      | adds l ↦ not (has l a) && stands_in live (complement l) hs && is_lean live (a ++ l ∷ []) hs
      | misleads x ↦ false
    ]

    at : (x : HintEnd) → ((l : Literal) → is_lean live (a ++ l ∷ []) hs ≡ is_lean mem (b ++ l ∷ []) hs) → lean_after live a x ≡ lean_after mem b x
    at closes rest = refl
    at (misleads x) rest = refl
    at (adds l) rest =
        ap (λ t. not t && stands_in live (complement l) hs && is_lean live (a ++ l ∷ []) hs) (s l)
        ∙ ap (λ t. not (has l b) && t && is_lean live (a ++ l ∷ []) hs) (stands_same live mem (complement l) hs r)
        ∙ ap (λ t. not (has l b) && stands_in mem (complement l) hs && t) (rest l)

start_same : (a b : List Literal) (x y : Reduction) → SameSet a b → ReducedAlike x y → SameSet (left_set a x) (left_set b y)
start_same a b untouched untouched s e = s
start_same a b untouched satisfied s e = s
start_same a b untouched (left d) s e = absurd e
start_same a b satisfied untouched s e = s
start_same a b satisfied satisfied s e = s
start_same a b satisfied (left d) s e = absurd e
start_same a b (left c) untouched s e = absurd e
start_same a b (left c) satisfied s e = absurd e
start_same a b (left c) (left d) s e = same_append a b (compl c) (compl d) s (same_compl c d e)

pub group_start_same : (a b : List Literal) (w : Substitution) (c d : List Literal) → SameSet a b → SameSet c d → SameSet (group_start a w c) (group_start b w d)
group_start_same a b w c d s e = start_same a b (reduction w c) (reduction w d) s (reduction_same w c d e)

needy_same : (a b : List Literal) (w : Substitution) (ps qs : Numbered) → SameSet a b → AreReordered ps qs → AreReordered (filter (λ p. needs_group a w p.1) ps) (filter (λ p. needs_group b w p.1) qs)
needy_same a b w [] [] s r = tt
needy_same a b w [] (q ∷ qs) s r = absurd r
needy_same a b w (p ∷ ps) [] s r = absurd r
needy_same a b w (p ∷ ps) (q ∷ qs) s r =
    let alike : needs_group a w p.1 ≡ needs_group b w q.1 = needs_same a b (reduction w p.1) (reduction w q.1) s (reduction_same w p.1 q.1 r.1.same_literals) in
    by_test (needs_group a w p.1)
    (λ y. let z : needs_group b w q.1 ≡ true = sym alike ∙ y in rw (y, z) (r.0, r.1, needy_same a b w ps qs s r.2))
    (λ y. let z : needs_group b w q.1 ≡ false = sym alike ∙ y in rw (y, z) (needy_same a b w ps qs s r.2))

groups_same : (live mem : Numbered) (a b : List Literal) (w : Substitution) (ps qs : Numbered) (gs : List Group) → AreReordered live mem → SameSet a b → AreReordered ps qs
    → AreLeanGroups live a w ps gs → AreLeanGroups mem b w qs gs
groups_same live mem a b w [] [] [] r s e g = tt
groups_same live mem a b w [] [] (k ∷ gs) r s e g = absurd g
groups_same live mem a b w [] (q ∷ qs) gs r s e g = absurd e
groups_same live mem a b w (p ∷ ps) [] gs r s e g = absurd e
groups_same live mem a b w (p ∷ ps) (q ∷ qs) [] r s e g = absurd g
groups_same live mem a b w (p ∷ ps) (q ∷ qs) (k ∷ gs) r s e g = (
  g.0 ∙ e.0,
  sym (lean_same live mem (group_start a w p.1) (group_start b w q.1) k.1 r (group_start_same a b w p.1 q.1 s e.1.same_literals)) ∙ g.1,
  groups_same live mem a b w ps qs gs r s e.2 g.2,
)

pub step_lean_same : (live mem : Numbered) (s t : Step) → AreReordered live mem → IsStepRewritten s t → IsLean live s → IsLean mem t
step_lean_same live mem s t r w l = subst (λ o. IsLeanWith mem t o) w.witness (at s.witness l)
  where
    sets : SameSet (compl s.clause) (compl t.clause)
    sets = same_compl s.clause t.clause w.clause.reordered.same_literals

    at : (o : Option Witness) → IsLeanWith live s o → IsLeanWith mem t o
    at None l = (ap (is_lean mem (compl t.clause)) (sym w.prefix) ∙ sym (lean_same live mem (compl s.clause) (compl t.clause) s.prefix r sets) ∙ l.0, sym w.groups ∙ l.1)
    at (Some v) l = (
      sym w.prefix ∙ l.0,
      subst (λ gs. AreLeanGroups mem (compl t.clause) (substitution v) (filter (λ p. needs_group (compl t.clause) (substitution v) p.1) mem) gs) w.groups
          (groups_same live mem (compl s.clause) (compl t.clause) (substitution v) (filter (λ p. needs_group (compl s.clause) (substitution v) p.1) live) (filter (λ p. needs_group (compl t.clause) (substitution v) p.1) mem) s.groups
          r sets (needy_same (compl s.clause) (compl t.clause) (substitution v) live mem sets r) l.1),
    )

-- what steps cite
cites_same : (n : ℕ) (s t : Step) → IsStepRewritten s t → cites n s ≡ cites n t
cites_same n s t w = ap (λ hs. holds_number n hs || groups_cite n s.groups) w.prefix ∙ ap (λ gs. holds_number n t.prefix || groups_cite n gs) w.groups

pub cited_same : (n : ℕ) (ss ts : List Step) → AreStepsRewritten ss ts → is_cited n ss ≡ is_cited n ts
cited_same n [] [] w = refl
cited_same n [] (t ∷ ts) w = absurd w
cited_same n (s ∷ ss) [] w = absurd w
cited_same n (s ∷ ss) (t ∷ ts) w = ap (λ b. b || is_cited n ss) (cites_same n s t w.0) ∙ ap (λ b. cites n t || b) (cited_same n ss ts w.1)

pub need_same : (all known : Numbered) (s t : Step) (ss ts : List Step) → AreReordered all known → IsStepRewritten s t → AreStepsRewritten ss ts → AreReordered (need all s ss) (need known t ts)
need_same all known s t ss ts r w v =
    reordered_kept (λ n. is_cited n (s ∷ ss)) (λ n. is_cited n (t ∷ ts)) (below s.id all) (below t.id known) (λ n. cited_same n (s ∷ ss) (t ∷ ts) (w, v))
    (reordered_kept (λ n. not (nat_le s.id n)) (λ n. not (nat_le t.id n)) all known (λ n. ap (λ k. not (nat_le k n)) w.id) r)

pub steps_same : (ss ts : List Step) → AreStepsRewritten ss ts → AreReordered (numbered_steps ss) (numbered_steps ts)
steps_same [] [] w = tt
steps_same [] (t ∷ ts) w = absurd w
steps_same (s ∷ ss) [] w = absurd w
steps_same (s ∷ ss) (t ∷ ts) w = (w.0.id, w.0.clause.reordered, steps_same ss ts w.1)

pub all_same : (f : List (List Literal)) (ss ts : List Step) → All NoRepeats f → AreStepsRewritten ss ts → AreReordered (all_of f ss) (all_of f ts)
all_same f ss ts h w = reordered_append (numbered_from 1 f) (numbered_from 1 f) (numbered_steps ss) (numbered_steps ts) (reordered_refl 1 f h) (steps_same ss ts w)

-- what is met over need with one order is met so with the other, and as lean
pub meet_need_same : (strict : Bool) (all known : Numbered) (ss ts : List Step) → AreReordered all known → AreStepsRewritten ss ts → MeetNeed strict all ss → MeetNeed strict known ts
meet_need_same strict all known [] [] r w m = tt
meet_need_same strict all known [] (t ∷ ts) r w m = absurd w
meet_need_same strict all known (s ∷ ss) [] r w m = absurd w
meet_need_same strict all known (s ∷ ss) (t ∷ ts) r w m = (
  sym (over_same strict (need all s ss) (need known t ts) s t (need_same all known s t ss ts r w.0 w.1) w.0) ∙ m.0,
  meet_need_same strict all known ss ts r w.1 m.1,
)

pub lean_need_same : (all known : Numbered) (ss ts : List Step) → AreReordered all known → AreStepsRewritten ss ts → LeanByNeed all ss → LeanByNeed known ts
lean_need_same all known [] [] r w m = tt
lean_need_same all known [] (t ∷ ts) r w m = absurd w
lean_need_same all known (s ∷ ss) [] r w m = absurd w
lean_need_same all known (s ∷ ss) (t ∷ ts) r w m = (
  step_lean_same (need all s ss) (need known t ts) s t (need_same all known s t ss ts r w.0 w.1) w.0 m.0,
  lean_need_same all known ss ts r w.1 m.1,
)

linked_alike : (last id id' : ℕ) → id ≡ id' → last < id → last < id'
linked_alike last id id' e h = subst (λ x. last < x) e h

pub linked_same : (last : ℕ) (ss ts : List Step) → AreStepsRewritten ss ts → AreLinked last ss → AreLinked last ts
linked_same last [] ts w l = absurd l
linked_same last (s ∷ ss) [] w l = absurd w
linked_same last (s ∷ []) (t ∷ []) w l = (linked_alike last s.id t.id w.0.id l.0, sym (empty_same s.clause t.clause w.0.clause.reordered.same_literals) ∙ l.1)
linked_same last (s ∷ []) (t ∷ u ∷ ts) w l = absurd w.1
linked_same last (s ∷ r ∷ ss) (t ∷ []) w l = absurd w.1
linked_same last (s ∷ r ∷ ss) (t ∷ u ∷ ts) w l = (
  linked_alike last s.id t.id w.0.id l.0,
  sym (empty_same s.clause t.clause w.0.clause.reordered.same_literals) ∙ l.1,
  ap (λ n. is_cited n (u ∷ ts)) (sym w.0.id) ∙ sym (cited_same s.id (r ∷ ss) (u ∷ ts) w.1) ∙ l.2,
  subst (λ n. AreLinked n (u ∷ ts)) w.0.id (linked_same s.id (r ∷ ss) (u ∷ ts) w.1 l.3),
)

pub pivot_same : (c d : List Literal) (p : Literal) → SameFirst c d → IsPivot p c → IsPivot p d
pivot_same [] [] p f i = i
pivot_same [] (k ∷ d) p f i = absurd f
pivot_same (l ∷ c) [] p f i = absurd f
pivot_same (l ∷ c) (k ∷ d) p f i = i ∙ f

pub pivots_same : (ss ts : List Step) → AreStepsRewritten ss ts → StepsHavePivots ss → StepsHavePivots ts
pivots_same [] [] w h = tt
pivots_same [] (t ∷ ts) w h = absurd w
pivots_same (s ∷ ss) [] w h = absurd w
pivots_same (s ∷ ss) (t ∷ ts) w h = (λ v e. pivot_same s.clause t.clause v.pivot w.0.clause.pivot (h.0 v (w.0.witness ∙ e)), pivots_same ss ts w.1 h.1)

-- placed items
deletion_same : (id id' : ℕ) (ids ids' : List ℕ) (is js : List Item) → id ≡ id' → ids ≡ ids' → AreItemsRewritten is js → AreItemsRewritten (deletion id ids is) (deletion id' ids' js)
deletion_same id id' [] [] is js e d w = w
deletion_same id id' [] (m ∷ ms) is js e d w = absurd cc
deletion_same id id' (n ∷ ns) [] is js e d w = absurd cc
deletion_same id id' (n ∷ ns) (m ∷ ms) is js e d w = ((e, d), w)

last_cited_same : (known all : Numbered) (s t : Step) (ss ts : List Step) → AreReordered known all → IsStepRewritten s t → AreStepsRewritten ss ts → last_cited known s ss ≡ last_cited all t ts
last_cited_same known all s t ss ts r w v = numbers_same (λ n. cites n s && not (is_cited n ss)) (λ n. cites n t && not (is_cited n ts)) known all
    (λ n. ap (λ b. b && not (is_cited n ss)) (cites_same n s t w) ∙ ap (λ b. cites n t && not b) (cited_same n ss ts v)) r

pub placed_from_same : (known all : Numbered) (ss ts : List Step) → AreReordered known all → AreStepsRewritten ss ts → AreItemsRewritten (placed_from known ss) (placed_from all ts)
placed_from_same known all [] [] r w = tt
placed_from_same known all [] (t ∷ ts) r w = absurd w
placed_from_same known all (s ∷ ss) [] r w = absurd w
placed_from_same known all (s ∷ []) (t ∷ []) r w = (w.0, tt)
placed_from_same known all (s ∷ []) (t ∷ u ∷ ts) r w = absurd w.1
placed_from_same known all (s ∷ i ∷ ss) (t ∷ []) r w = absurd w.1
placed_from_same known all (s ∷ i ∷ ss) (t ∷ u ∷ ts) r w = (
  w.0,
  deletion_same s.id t.id (last_cited known s (i ∷ ss)) (last_cited all t (u ∷ ts)) (placed_from (known ++ (s.id, s.clause) ∷ []) (i ∷ ss)) (placed_from (all ++ (t.id, t.clause) ∷ []) (u ∷ ts))
      w.0.id (last_cited_same known all s t (i ∷ ss) (u ∷ ts) r w.0 w.1)
      (placed_from_same (known ++ (s.id, s.clause) ∷ []) (all ++ (t.id, t.clause) ∷ []) (i ∷ ss) (u ∷ ts)
      (reordered_append known all ((s.id, s.clause) ∷ []) ((t.id, t.clause) ∷ []) r (w.0.id, w.0.clause.reordered, tt)) w.1),
)

pub placed_same : (f : List (List Literal)) (ss ts : List Step) → All NoRepeats f → AreStepsRewritten ss ts → AreItemsRewritten (placed f ss) (placed f ts)
placed_same f ss ts h w = deletion_same (length f) (length f) (uncited f ss) (uncited f ts) (placed_from (numbered_from 1 f) ss) (placed_from (numbered_from 1 f) ts) refl
    (numbers_same (λ n. not (is_cited n ss)) (λ n. not (is_cited n ts)) (numbered_from 1 f) (numbered_from 1 f) (λ n. ap not (cited_same n ss ts w)) (reordered_refl 1 f h))
    (placed_from_same (numbered_from 1 f) (numbered_from 1 f) ss ts (reordered_refl 1 f h) w)

pub core_same : (f : List (List Literal)) (ss ts : List Step) → AreStepsRewritten ss ts → core f ss ≡ core f ts
core_same f ss ts w = ap clauses (at (numbered_from 1 f))
  where
    at : (ps : Numbered) → cited_of ps ss ≡ cited_of ps ts
    at [] = refl
    at (p ∷ ps) = let e : is_cited p.0 ss ≡ is_cited p.0 ts = cited_same p.0 ss ts w in grind (arith, at ps)
