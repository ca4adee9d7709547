-- From the lemmas as they were read to the steps that are written.
use Rattle.std.proofs.Common.{◌≡◌, ℕ, ◌<◌, ◌≤◌, ◌+◌, ◌==◌, Bool, true, false, not, cond, List, [], ◌∷◌, ◌++◌, Option, Some, None, refl, sym, ◌∙◌, ap, subst, arith, length}
use Rattle.std.specs.Prelude.{filter, nat_le, map, All}
use Rattle.std.proofs.lemmas.Bool.Decides.{nat_tests}
use Rattle.sr_base.specs.Literal.{Literal, NoRepeats}
use Rattle.sr_model.specs.declared.verdict.Verdict.TheVariants.{Verified}
use Rattle.sr_model.specs.Assignment.{holds_number, Unsat}
use Rattle.sr_model.specs.Chain.{Numbered, clause_of}
use Rattle.sr_model.specs.Meeting.{Step, met, meets_over}
use Rattle.sr_model.specs.Judging.{numbered_from, first_live, judge}
use Rattle.sr_trimming.specs.Reordered.{IsReordered, AreReordered, AreStepsRewritten, IsStepRewritten, IsRewritten}
use Rattle.sr_trimming.specs.Citing.{is_cited, cited_of, below, need, numbered_steps, all_of, AreRising, core}
use Rattle.sr_trimming.specs.Placing.{numbers, placed}
use Rattle.sr_trimming.specs.Loading.{Done, joined, removed, passed, Standing, at_start, after_done, after_all}
use Rattle.sr_trimming.specs.From.{numbered_lemmas, all_loaded, Place, place_of, IsStepOf, IsLast, AreFrom, LemmasHavePivots, with_clause_of, as_read}
use Rattle.sr_trimming.specs.Backward.{AreLinked, MeetNeed, StepsHavePivots, AreMet}
use Rattle.sr_trimming.specs.Lean.{IsLean}
use Rattle.sr_trimming.specs.Trimmed.{LeanByNeed, IsTrimmed}
use Rattle.sr_trimming.specs.CoreFirst.{StepIsCoreFirst, AreCoreFirst}
use Rattle.sr_trimming.specs.Written.{CiteKnown}
use Rattle.sr_model.proofs.Soundness.{by_test}
use Rattle.sr_trimming.proofs.Reordered.{FoundAlike}
use Rattle.sr_trimming.proofs.Rewritten.{over_same}
use Rattle.sr_trimming.proofs.ProofsRewritten.{apart_first, apart_rest, cited_same, step_lean_same}
use Rattle.sr_trimming.proofs.CoreFirst.{core_first_same}
use Rattle.sr_trimming.proofs.Origins.{from_pivots}
use Rattle.sr_trimming.proofs.Placed.{RiseTo, rise_formula, rise_again, rise_from, rise_all, backward_forward}
use Rattle.sr_trimming.proofs.Leanness.{lean_forward, lean_trimmed}

-- rising lists that have alike clauses under each number are alike
below_rising : (n k : ℕ) (ps : Numbered) → AreRising n ps → k ≤ n → clause_of ps k ≡ None
below_rising n k [] r h = refl
below_rising n k (p ∷ ps) r h = let up : n < p.0 = r.0 in let rest : clause_of ps k ≡ None = below_rising p.0 k ps r.1 (omega arith) in grind (arith, nat_tests)

first_found : (p : ℕ × List Literal) (ps : Numbered) → clause_of (p ∷ ps) p.0 ≡ Some p.1
first_found p ps = grind (arith, nat_tests)

past_first : (p : ℕ × List Literal) (ps : Numbered) (k : ℕ) → p.0 < k → clause_of (p ∷ ps) k ≡ clause_of ps k
past_first p ps k h = grind (arith, nat_tests)

alike_by : (x y z w : Option (List Literal)) → x ≡ z → y ≡ w → FoundAlike x y → FoundAlike z w
alike_by x y z w e g h = subst (λ u. FoundAlike u w) e (subst (λ u. FoundAlike x u) g h)

pub rising_alike : (m n : ℕ) (ps qs : Numbered) → AreRising m ps → AreRising n qs → ((k : ℕ) → FoundAlike (clause_of ps k) (clause_of qs k)) → AreReordered ps qs
rising_alike m n [] [] r s f = tt
rising_alike m n [] (q ∷ qs) r s f = let x : FoundAlike None (Some q.1) = alike_by None (clause_of (q ∷ qs) q.0) None (Some q.1) refl (first_found q qs) (f q.0) in absurd x
rising_alike m n (p ∷ ps) [] r s f = let x : FoundAlike (Some p.1) None = alike_by (clause_of (p ∷ ps) p.0) None (Some p.1) None (first_found p ps) refl (f p.0) in absurd x
rising_alike m n (p ∷ ps) (q ∷ qs) r s f = by_test (nat_le p.0 q.0)
    (λ e. by_test (nat_le q.0 p.0)
    (λ g. let is : p.0 ≡ q.0 = grind (arith, nat_tests) in (
      is,
      alike_by (clause_of (p ∷ ps) p.0) (clause_of (q ∷ qs) p.0) (Some p.1) (Some q.1) (first_found p ps) (ap (clause_of (q ∷ qs)) is ∙ first_found q qs) (f p.0),
      rising_alike p.0 q.0 ps qs r.1 s.1 (λ k. by_test (nat_le k p.0)
          (λ h. let low : k ≤ p.0 = grind (arith, nat_tests) in alike_by None None (clause_of ps k) (clause_of qs k) (sym (below_rising p.0 k ps r.1 low)) (sym (below_rising q.0 k qs s.1 (omega arith))) tt)
          (λ h. let up : p.0 < k = grind (arith, nat_tests) in alike_by (clause_of (p ∷ ps) k) (clause_of (q ∷ qs) k) (clause_of ps k) (clause_of qs k) (past_first p ps k up) (past_first q qs k (omega arith)) (f k))),
    ))
    (λ g. let lower : p.0 < q.0 = grind (arith, nat_tests) in
    let x : FoundAlike (Some p.1) None = alike_by (clause_of (p ∷ ps) p.0) (clause_of (q ∷ qs) p.0) (Some p.1) None (first_found p ps) (below_rising p.0 p.0 (q ∷ qs) (lower, s.1) (omega arith)) (f p.0) in absurd x))
    (λ e. let lower : q.0 < p.0 = grind (arith, nat_tests) in
    let x : FoundAlike None (Some q.1) = alike_by (clause_of (p ∷ ps) q.0) (clause_of (q ∷ qs) q.0) None (Some q.1) (below_rising q.0 q.0 (p ∷ ps) (lower, r.1) (omega arith)) (first_found q qs) (f q.0) in absurd x)

-- clauses of numbers in joined and in filtered lists
pub found_append : (ps qs : Numbered) (k : ℕ) (c : List Literal) → clause_of ps k ≡ Some c → clause_of (ps ++ qs) k ≡ Some c
found_append [] qs k c e = absurd cc
found_append (p ∷ ps) qs k c e = by_test (p.0 == k) (λ t. rw t (rw t at e)) (λ t. rw t (found_append ps qs k c (rw t at e)))

pub absent_append : (ps qs : Numbered) (k : ℕ) → clause_of ps k ≡ None → clause_of (ps ++ qs) k ≡ clause_of qs k
absent_append [] qs k e = refl
absent_append (p ∷ ps) qs k e = by_test (p.0 == k) (λ t. let bad : Some p.1 ≡ None = rw t at e in absurd cc) (λ t. rw t (absent_append ps qs k (rw t at e)))

pub found_kept : (t : ℕ → Bool) (ps : Numbered) (k : ℕ) → clause_of (filter (λ p. t p.0) ps) k ≡ cond (t k) (clause_of ps k) None
found_kept t [] k = by_test (t k) (λ e. rw e refl) (λ e. rw e refl)
found_kept t (p ∷ ps) k = by_test (p.0 == k)
    (λ e. let is : p.0 ≡ k = grind (arith, nat_tests) in let same : t p.0 ≡ t k = ap t is in
    by_test (t k) (λ y. let z : t p.0 ≡ true = same ∙ y in rw (y, z, e) refl) (λ y. let z : t p.0 ≡ false = same ∙ y in rw (z, y) (found_kept t ps k ∙ rw y refl)))
    (λ e. by_test (t p.0) (λ y. rw (y, e) (found_kept t ps k)) (λ y. rw (y, e) (found_kept t ps k)))

formula_alike : (n : ℕ) (f : List (List Literal)) (k : ℕ) (c : List Literal) → All NoRepeats f → clause_of (numbered_from n f) k ≡ Some c → IsReordered c c
formula_alike n [] k c h e = absurd cc
formula_alike n (d ∷ ds) k c h e = by_test (n == k)
    (λ t. let here : Some d ≡ Some c = rw t at e in let is : d ≡ c = cc in subst (λ x. IsReordered x x) is (record { same_literals = λ l. refl; none_twice = apart_first d ds h; none_twice_in_other = apart_first d ds h }))
    (λ t. formula_alike (n + 1) ds k c (apart_rest d ds h) (rw t at e))

-- the clause of a lemma's number
place_clause : (st : Standing) (ds : List Done) (n : ℕ) (p : Place) → place_of st ds n ≡ Some p → clause_of (numbered_lemmas st.next ds) n ≡ Some p.stated.clause
place_clause st [] n p e = absurd cc
place_clause st (joined l ∷ ds) n p e = by_test (st.next == n)
    (λ t. let here : Some (record { alive = st.alive; stated = l }) ≡ Some p = rw t at e in let is : record { alive = st.alive; stated = l } ≡ p = cc in rw t (ap (λ x. Some x.stated.clause) is))
    (λ t. rw t (place_clause (after_done st (joined l)) ds n p (rw t at e)))
place_clause st (removed k ∷ ds) n p e = place_clause (after_done st (removed k)) ds n p e
place_clause st (passed ∷ ds) n p e = place_clause st ds n p e

-- the number of the last step
abbrev pub end_of : ℕ → List Step → ℕ
end_of n [] = n
end_of n (s ∷ ss) = end_of s.id ss

end_above : (last : ℕ) (s : Step) (later : List Step) → AreLinked last (s ∷ later) → s.id ≤ end_of s.id later
end_above last s [] l = omega arith
end_above last s (t ∷ later) l = omega (arith, end_above s.id t later l.3, first later l.3)
  where
    first : (later : List Step) → AreLinked s.id (t ∷ later) → s.id < t.id
    first [] l = l.0
    first (u ∷ later) l = l.0

-- a step's number but the last has the clause of a lemma, in another order
step_alike : (f : List (List Literal)) (ds : List Done) (n : ℕ) (steps : List Step) (k : ℕ) → AreFrom f ds steps → k < end_of n steps → holds_number k (numbers (numbered_steps steps)) ≡ true
    → FoundAlike (clause_of (numbered_lemmas (length f + 1) ds) k) (clause_of (numbered_steps steps) k)
step_alike f ds n [] k a b h = absurd cc
step_alike f ds n (s ∷ []) k a b h = absurd (grind (arith, nat_tests))
step_alike f ds n (s ∷ t ∷ later) k a b h = by_test (s.id == k)
    (λ e. let is : s.id ≡ k = grind (arith, nat_tests) in
    let p : Place = a.0.0 in
    let found : clause_of (numbered_lemmas (length f + 1) ds) k ≡ Some p.stated.clause = ap (clause_of (numbered_lemmas (length f + 1) ds)) (sym is) ∙ place_clause (at_start f) ds s.id p a.0.1 in
    alike_by (Some p.stated.clause) (Some s.clause) (clause_of (numbered_lemmas (length f + 1) ds) k) (clause_of (numbered_steps (s ∷ t ∷ later)) k) (sym found) (rw e refl) a.0.2.clause.reordered)
    (λ e. rw e (step_alike f ds s.id (t ∷ later) k a.1 b (rw e at h)))

rise_lemmas : (n : ℕ) (ds : List Done) → AreRising n (numbered_lemmas (n + 1) ds)
rise_lemmas n [] = tt
rise_lemmas n (joined l ∷ ds) = (omega arith, rise_lemmas (n + 1) ds)
rise_lemmas n (removed k ∷ ds) = rise_lemmas n ds
rise_lemmas n (passed ∷ ds) = rise_lemmas n ds

rise_append : (n : ℕ) (ps qs : Numbered) (last : ℕ) → RiseTo n ps last → AreRising last qs → AreRising n (ps ++ qs)
rise_append n [] qs last r s = rise_from n last qs r s
rise_append n (p ∷ ps) qs last r s = (r.0, rise_append p.0 ps qs last r.1 s)

pub rise_loaded : (f : List (List Literal)) (ds : List Done) → AreRising 0 (all_loaded f ds)
rise_loaded f ds = rise_append 0 (numbered_from 1 f) (numbered_lemmas (length f + 1) ds) (length f) (rise_formula f) (rise_lemmas (length f) ds)

rise_plain : (n : ℕ) (ps : Numbered) (last : ℕ) → RiseTo n ps last → AreRising n ps
rise_plain n [] last r = tt
rise_plain n (p ∷ ps) last r = (r.0, rise_plain p.0 ps last r.1)

in_append_tells : (k : ℕ) (ps qs : Numbered) → clause_of ps k ≡ None → holds_number k (numbers (ps ++ qs)) ≡ holds_number k (numbers qs)
in_append_tells k [] qs e = refl
in_append_tells k (p ∷ ps) qs e = by_test (p.0 == k) (λ t. let bad : Some p.1 ≡ None = rw t at e in absurd cc) (λ t. rw t (in_append_tells k ps qs (rw t at e)))

-- a known number below the last step's
known_alike : (f : List (List Literal)) (ds : List Done) (steps : List Step) (k : ℕ) → All NoRepeats f → AreFrom f ds steps → k < end_of 0 steps → holds_number k (numbers (all_of f steps)) ≡ true
    → FoundAlike (clause_of (all_loaded f ds) k) (clause_of (all_of f steps) k)
known_alike f ds steps k n a b h = at (clause_of (numbered_from 1 f) k) refl
  where
    at : (o : Option (List Literal)) → clause_of (numbered_from 1 f) k ≡ o → FoundAlike (clause_of (all_loaded f ds) k) (clause_of (all_of f steps) k)
    at (Some c) e = alike_by (Some c) (Some c) (clause_of (all_loaded f ds) k) (clause_of (all_of f steps) k)
        (sym (found_append (numbered_from 1 f) (numbered_lemmas (length f + 1) ds) k c e)) (sym (found_append (numbered_from 1 f) (numbered_steps steps) k c e)) (formula_alike 1 f k c n e)
    at None e = alike_by (clause_of (numbered_lemmas (length f + 1) ds) k) (clause_of (numbered_steps steps) k) (clause_of (all_loaded f ds) k) (clause_of (all_of f steps) k)
        (sym (absent_append (numbered_from 1 f) (numbered_lemmas (length f + 1) ds) k e)) (sym (absent_append (numbered_from 1 f) (numbered_steps steps) k e))
        (step_alike f ds 0 steps k a b (sym (in_append_tells k (numbered_from 1 f) (numbered_steps steps) e) ∙ h))

-- what is needed among the lemmas and among the written steps
abbrev KnownAlike : Numbered → Numbered → ℕ → List Step → Type 0
KnownAlike all known end steps = (k : ℕ) → is_cited k steps ≡ true → k < end → FoundAlike (clause_of all k) (clause_of known k)

need_alike : (all known : Numbered) (s : Step) (later : List Step) (end : ℕ) → AreRising 0 all → AreRising 0 known → s.id ≤ end → KnownAlike all known end (s ∷ later) → AreReordered (need all s later) (need known s later)
need_alike all known s later end r q b a = rising_alike 0 0 (need all s later) (need known s later) (rises all r) (rises known q) alike
  where
    rises : (ps : Numbered) → AreRising 0 ps → AreRising 0 (need ps s later)
    rises ps r = rise_again (λ p. is_cited p.0 (s ∷ later)) 0 (below s.id ps) (rise_again (λ p. not (nat_le s.id p.0)) 0 ps r)

    found : (ps : Numbered) (k : ℕ) → clause_of (need ps s later) k ≡ cond (is_cited k (s ∷ later)) (cond (not (nat_le s.id k)) (clause_of ps k) None) None
    found ps k = found_kept (λ n. is_cited n (s ∷ later)) (below s.id ps) k ∙ ap (λ o. cond (is_cited k (s ∷ later)) o None) (found_kept (λ n. not (nat_le s.id n)) ps k)

    both : (k : ℕ) (t u : Bool) → (t ≡ true → u ≡ true → FoundAlike (clause_of all k) (clause_of known k)) → FoundAlike (cond t (cond u (clause_of all k) None) None) (cond t (cond u (clause_of known k) None) None)
    both k true true x = x refl refl
    both k true false x = tt
    both k false u x = tt

    alike : (k : ℕ) → FoundAlike (clause_of (need all s later) k) (clause_of (need known s later) k)
    alike k = alike_by (cond (is_cited k (s ∷ later)) (cond (not (nat_le s.id k)) (clause_of all k) None) None) (cond (is_cited k (s ∷ later)) (cond (not (nat_le s.id k)) (clause_of known k) None) None)
        (clause_of (need all s later) k) (clause_of (need known s later) k) (sym (found all k)) (sym (found known k))
        (both k (is_cited k (s ∷ later)) (not (nat_le s.id k)) (λ e g. let low : k < s.id = grind (arith, nat_tests) in a k e (omega arith)))

-- the same steps need the same
kept_ext : (t u : ℕ → Bool) (ps : Numbered) → ((n : ℕ) → t n ≡ u n) → filter (λ p. t p.0) ps ≡ filter (λ p. u p.0) ps
kept_ext t u [] e = refl
kept_ext t u (p ∷ ps) e = by_test (t p.0)
    (λ y. let z : u p.0 ≡ true = sym (e p.0) ∙ y in rw (y, z) (ap (λ x. p ∷ x) (kept_ext t u ps e)))
    (λ y. let z : u p.0 ≡ false = sym (e p.0) ∙ y in rw (y, z) (kept_ext t u ps e))

need_of_rewritten : (all : Numbered) (s t : Step) (ss ts : List Step) → IsStepRewritten s t → AreStepsRewritten ss ts → need all s ss ≡ need all t ts
need_of_rewritten all s t ss ts w v =
    kept_ext (λ n. is_cited n (s ∷ ss)) (λ n. is_cited n (t ∷ ts)) (below s.id all) (λ n. cited_same n (s ∷ ss) (t ∷ ts) (w, v))
    ∙ ap (λ x. cited_of (below x all) (t ∷ ts)) w.id

-- one property of steps over what they need, carried from the lemmas to the written steps
pub carry : (P : Numbered → Step → List Step → Type 0)
    → ((live mem : Numbered) (s t : Step) (ss ts : List Step) → AreReordered live mem → IsStepRewritten s t → AreStepsRewritten ss ts → P live s ss → P mem t ts)
    → (all known : Numbered) (s t : Step) (ss ts : List Step) (last : ℕ) → AreRising 0 all → AreRising 0 known → IsStepRewritten s t → AreStepsRewritten ss ts → AreLinked last (t ∷ ts)
    → KnownAlike all known (end_of t.id ts) (t ∷ ts) → P (need all s ss) s ss → P (need known t ts) t ts
carry P same all known s t ss ts last r q w v l a p = same (need all s ss) (need known t ts) s t ss ts
    (subst (λ x. AreReordered x (need known t ts)) (sym (need_of_rewritten all s t ss ts w v)) (need_alike all known t ts (end_of t.id ts) r q (end_above last t ts l) a)) w v p

later_alike : (all known : Numbered) (end : ℕ) (t : Step) (ts : List Step) → KnownAlike all known end (t ∷ ts) → KnownAlike all known end ts
later_alike all known end t ts a k c b = a k (grind arith) b

tail_linked : (last : ℕ) (t u : Step) (ts : List Step) → AreLinked last (t ∷ u ∷ ts) → AreLinked t.id (u ∷ ts)
tail_linked last t u ts l = l.3

-- a property of each step over what it needs
abbrev pub EachNeeds : (P : Numbered → Step → List Step → Type 0) → Numbered → List Step → Type 0
EachNeeds P all [] = Unit {0}
EachNeeds P all (s ∷ later) = P (need all s later) s later × EachNeeds P all later

all_carried : (P : Numbered → Step → List Step → Type 0)
    → ((live mem : Numbered) (s t : Step) (ss ts : List Step) → AreReordered live mem → IsStepRewritten s t → AreStepsRewritten ss ts → P live s ss → P mem t ts)
    → (all known : Numbered) (ss ts : List Step) (last : ℕ) → AreRising 0 all → AreRising 0 known → AreStepsRewritten ss ts → AreLinked last ts → KnownAlike all known (end_of 0 ts) ts
    → EachNeeds P all ss → EachNeeds P known ts
all_carried P same all known ss [] last r q w l a m = absurd l
all_carried P same all known [] (t ∷ ts) last r q w l a m = absurd w
all_carried P same all known (s ∷ []) (t ∷ []) last r q w l a m = (carry P same all known s t [] [] last r q w.0 w.1 l a m.0, tt)
all_carried P same all known (s ∷ []) (t ∷ u ∷ ts) last r q w l a m = absurd w.1
all_carried P same all known (s ∷ i ∷ ss) (t ∷ []) last r q w l a m = absurd w.1
all_carried P same all known (s ∷ i ∷ ss) (t ∷ u ∷ ts) last r q w l a m = (
  carry P same all known s t (i ∷ ss) (u ∷ ts) last r q w.0 w.1 l a m.0,
  all_carried P same all known (i ∷ ss) (u ∷ ts) t.id r q w.1 l.3 (later_alike all known (end_of u.id ts) t (u ∷ ts) a) m.1,
)

-- the three that a backward pass promises
meet_each : (strict : Bool) (all : Numbered) (ss : List Step) → MeetNeed strict all ss → EachNeeds (λ live s later. meets_over strict live s ≡ met) all ss
meet_each strict all [] m = tt
meet_each strict all (s ∷ ss) m = (m.0, meet_each strict all ss m.1)

each_meet : (strict : Bool) (all : Numbered) (ss : List Step) → EachNeeds (λ live s later. meets_over strict live s ≡ met) all ss → MeetNeed strict all ss
each_meet strict all [] m = tt
each_meet strict all (s ∷ ss) m = (m.0, each_meet strict all ss m.1)

lean_each : (all : Numbered) (ss : List Step) → LeanByNeed all ss → EachNeeds (λ live s later. IsLean live s) all ss
lean_each all [] m = tt
lean_each all (s ∷ ss) m = (m.0, lean_each all ss m.1)

each_lean : (all : Numbered) (ss : List Step) → EachNeeds (λ live s later. IsLean live s) all ss → LeanByNeed all ss
each_lean all [] m = tt
each_lean all (s ∷ ss) m = (m.0, each_lean all ss m.1)

first_each : (all : Numbered) (ss : List Step) → AreCoreFirst all ss → EachNeeds (λ live s later. StepIsCoreFirst live later s s.witness) all ss
first_each all [] m = tt
first_each all (s ∷ ss) m = (m.0, first_each all ss m.1)

each_first : (all : Numbered) (ss : List Step) → EachNeeds (λ live s later. StepIsCoreFirst live later s s.witness) all ss → AreCoreFirst all ss
each_first all [] m = tt
each_first all (s ∷ ss) m = (m.0, each_first all ss m.1)

rise_written : (f : List (List Literal)) (ts : List Step) → AreLinked (length f) ts → AreRising 0 (all_of f ts)
rise_written f ts l = let r = rise_all (numbered_from 1 f) (length f) ts (rise_formula f) l in rise_plain 0 (all_of f ts) r.0 r.1

-- from the clauses of lemmas to those that are written
loaded_carried : (P : Numbered → Step → List Step → Type 0)
    → ((live mem : Numbered) (s t : Step) (ss ts : List Step) → AreReordered live mem → IsStepRewritten s t → AreStepsRewritten ss ts → P live s ss → P mem t ts)
    → (f : List (List Literal)) (ds : List Done) (ss ts : List Step) → All NoRepeats f → AreStepsRewritten ss ts → AreLinked (length f) ts → AreFrom f ds ts → CiteKnown f ts
    → EachNeeds P (all_loaded f ds) ss → EachNeeds P (all_of f ts) ts
loaded_carried P same f ds ss ts n w l a c =
    all_carried P same (all_loaded f ds) (all_of f ts) ss ts (length f) (rise_loaded f ds) (rise_written f ts l) w l (λ k e b. known_alike f ds ts k n a b (c k e))

pub loaded_written : (strict : Bool) (f : List (List Literal)) (ds : List Done) (ss ts : List Step) → All NoRepeats f → AreStepsRewritten ss ts
    → AreLinked (length f) ts → AreFrom f ds ts → CiteKnown f ts → MeetNeed strict (all_loaded f ds) ss → MeetNeed strict (all_of f ts) ts
loaded_written strict f ds ss ts n w l a c m = each_meet strict (all_of f ts) ts
    (loaded_carried (λ live s later. meets_over strict live s ≡ met) (λ x y i j is js b v u e. sym (over_same strict x y i j b v) ∙ e) f ds ss ts n w l a c (meet_each strict (all_loaded f ds) ss m))

pub lean_written : (f : List (List Literal)) (ds : List Done) (ss ts : List Step) → All NoRepeats f → AreStepsRewritten ss ts
    → AreLinked (length f) ts → AreFrom f ds ts → CiteKnown f ts → LeanByNeed (all_loaded f ds) ss → LeanByNeed (all_of f ts) ts
lean_written f ds ss ts n w l a c m = each_lean (all_of f ts) ts
    (loaded_carried (λ live s later. IsLean live s) (λ x y i j is js b v u e. step_lean_same x y i j b v e) f ds ss ts n w l a c (lean_each (all_loaded f ds) ss m))

pub core_first_written : (f : List (List Literal)) (ds : List Done) (ss ts : List Step) → All NoRepeats f → AreStepsRewritten ss ts
    → AreLinked (length f) ts → AreFrom f ds ts → CiteKnown f ts → AreCoreFirst (all_loaded f ds) ss → AreCoreFirst (all_of f ts) ts
core_first_written f ds ss ts n w l a c m = each_first (all_of f ts) ts
    (loaded_carried (λ live s later. StepIsCoreFirst live later s s.witness) core_first_same f ds ss ts n w l a c (first_each (all_loaded f ds) ss m))

pub written_verified : (strict : Bool) (f : List (List Literal)) (ds : List Done) (ss ts : List Step) → All NoRepeats f → AreStepsRewritten ss ts
    → AreLinked (length f) ts → LemmasHavePivots ds → AreFrom f ds ts → CiteKnown f ts → LeanByNeed (all_loaded f ds) ss
    → IsTrimmed f (placed f ts) × AreMet strict (first_live f) (placed f ts) × (judge strict f (placed f ts) ≡ Verified) × Unsat (core f ts)
written_verified strict f ds ss ts n w l h a c m =
    let p : StepsHavePivots ts = from_pivots f ds ts h a in
    let lean : LeanByNeed (all_of f ts) ts = lean_written f ds ss ts n w l a c m in
    let r = backward_forward strict f ts l p (lean_forward strict f ts l p lean) in
    (lean_trimmed f ts l lean, r.0, r.1, r.2)

-- the steps as they were read
place_before : (st : Standing) (ds : List Done) (n : ℕ) (p : Place) → place_of st ds n ≡ Some p → n < (after_all st ds).next
place_before st [] n p e = absurd cc
place_before st (joined l ∷ ds) n p e = by_test (st.next == n)
    (λ t. let is : st.next ≡ n = grind (arith, nat_tests) in let up : st.next + 1 ≤ (after_all (after_done st (joined l)) ds).next = next_rises (after_done st (joined l)) ds in omega (arith, is))
    (λ t. place_before (after_done st (joined l)) ds n p (rw t at e))
  where
    next_rises : (st : Standing) (ds : List Done) → st.next ≤ (after_all st ds).next
    next_rises st [] = omega arith
    next_rises st (joined l ∷ ds) = omega (arith, next_rises (after_done st (joined l)) ds)
    next_rises st (removed k ∷ ds) = next_rises (after_done st (removed k)) ds
    next_rises st (passed ∷ ds) = next_rises st ds
place_before st (removed k ∷ ds) n p e = place_before (after_done st (removed k)) ds n p e
place_before st (passed ∷ ds) n p e = place_before st ds n p e

step_as_read : (f : List (List Literal)) (ds : List Done) (s : Step) (p : Place) → place_of (at_start f) ds s.id ≡ Some p → IsStepOf s p → IsStepRewritten (as_read f ds s) s
step_as_read f ds s p e o = subst (λ x. IsStepRewritten (with_clause_of s x) s) (sym e) (record { id = refl; clause = o.clause; witness = refl; prefix = refl; groups = refl })

last_as_read : (f : List (List Literal)) (ds : List Done) (s : Step) → IsLast s (after_all (at_start f) ds) → IsStepRewritten (as_read f ds s) s
last_as_read f ds s l = at (place_of (at_start f) ds s.id) refl
  where
    at : (o : Option Place) → place_of (at_start f) ds s.id ≡ o → IsStepRewritten (with_clause_of s o) s
    at (Some p) e = let low = place_before (at_start f) ds s.id p e in let is : s.id ≡ (after_all (at_start f) ds).next = l.id in absurd (omega arith)
    at None e = record { id = refl; clause = subst (λ c. IsRewritten c c) (sym l.clause) (record { pivot = tt; reordered = record { same_literals = λ k. refl; none_twice = tt; none_twice_in_other = tt } }); witness = refl; prefix = refl; groups = refl }

pub written_as_read : (f : List (List Literal)) (ds : List Done) (ts : List Step) → AreFrom f ds ts → AreStepsRewritten (map (as_read f ds) ts) ts
written_as_read f ds [] a = absurd a
written_as_read f ds (s ∷ []) a = (last_as_read f ds s a, tt)
written_as_read f ds (s ∷ t ∷ later) a = (step_as_read f ds s a.0.0 a.0.1 a.0.2, written_as_read f ds (t ∷ later) a.1)
