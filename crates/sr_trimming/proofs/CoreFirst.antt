-- Whether cited clauses come first doesn't hang on the order of literals.
use Rattle.std.proofs.Common.{◌≡◌, ℕ, true, false, not, ◌&&◌, ◌||◌, List, [], ◌∷◌, ◌++◌, Option, Some, None, refl, sym, ◌∙◌, ap, subst}
use Rattle.std.specs.Prelude.{filter, map}
use Rattle.sr_base.specs.Literal.{Literal, SameSet, compl}
use Rattle.sr_model.specs.Assignment.{holds_number}
use Rattle.sr_model.specs.Substitution.{Substitution, Witness, reduction, substitution}
use Rattle.sr_model.specs.Chain.{Numbered, clauses}
use Rattle.sr_model.specs.Meeting.{Group, Step}
use Rattle.sr_trimming.specs.Reordered.{IsReordered, AreReorderedClauses, AreReordered, IsStepRewritten, AreStepsRewritten}
use Rattle.sr_trimming.specs.Citing.{groups_cite, is_cited, cited_of}
use Rattle.sr_trimming.specs.Placing.{numbers}
use Rattle.sr_trimming.specs.Lean.{group_start, needs_group}
use Rattle.sr_trimming.specs.CoreFirst.{cited_so_far, ready, first_of, IsCoreFirst, AreInOrder, StepIsCoreFirst}
use Rattle.sr_model.proofs.Soundness.{by_test}
use Rattle.sr_trimming.proofs.Reordered.{same_sym, same_compl, reduction_same}
use Rattle.sr_trimming.proofs.Rewritten.{clauses_sym, refutes_same, needs_same}
use Rattle.sr_trimming.proofs.ProofsRewritten.{reordered_kept, cited_same, group_start_same}

pub clauses_reordered : (ps qs : Numbered) → AreReordered ps qs → AreReorderedClauses (clauses ps) (clauses qs)
clauses_reordered [] [] r = tt
clauses_reordered [] (q ∷ qs) r = absurd r
clauses_reordered (p ∷ ps) [] r = absurd r
clauses_reordered (p ∷ ps) (q ∷ qs) r = (r.1, clauses_reordered ps qs r.2)

pub all_numbers_same : (ps qs : Numbered) → AreReordered ps qs → numbers ps ≡ numbers qs
all_numbers_same [] [] r = refl
all_numbers_same [] (q ∷ qs) r = absurd r
all_numbers_same (p ∷ ps) [] r = absurd r
all_numbers_same (p ∷ ps) (q ∷ qs) r = ap (λ n. n ∷ numbers ps) r.0 ∙ ap (λ ns. q.0 ∷ ns) (all_numbers_same ps qs r.2)

hints_first_same : (live mem : Numbered) (a b : List Literal) (hints : List ℕ) → AreReordered live mem → SameSet a b → IsCoreFirst live a hints → IsCoreFirst mem b hints
hints_first_same live mem a b hints r s f g n h =
    ap (holds_number n) (sym (all_numbers_same live mem r)) ∙ f (refutes_same (clauses mem) (clauses live) b a (clauses_sym (clauses live) (clauses mem) (clauses_reordered live mem r)) (same_sym a b s) g) n h

so_far_same : (live mem : Numbered) (ss ts : List Step) (met : List Group) → AreReordered live mem → AreStepsRewritten ss ts → AreReordered (cited_so_far live ss met) (cited_so_far mem ts met)
so_far_same live mem ss ts met r w =
    reordered_kept (λ n. is_cited n ss || groups_cite n met) (λ n. is_cited n ts || groups_cite n met) live mem (λ n. ap (λ b. b || groups_cite n met) (cited_same n ss ts w)) r

ready_same : (ps qs : Numbered) (a b : List Literal) (w : Substitution) (met : List Group) → AreReordered ps qs → SameSet a b
    → AreReordered (filter (λ p. needs_group a w p.1 && not (holds_number p.0 (map (λ g. g.0) met))) ps) (filter (λ p. needs_group b w p.1 && not (holds_number p.0 (map (λ g. g.0) met))) qs)
ready_same [] [] a b w met r s = tt
ready_same [] (q ∷ qs) a b w met r s = absurd r
ready_same (p ∷ ps) [] a b w met r s = absurd r
ready_same (p ∷ ps) (q ∷ qs) a b w met r s =
    let alike : (needs_group a w p.1 && not (holds_number p.0 (map (λ g. g.0) met))) ≡ (needs_group b w q.1 && not (holds_number q.0 (map (λ g. g.0) met))) =
    ap (λ t. t && not (holds_number p.0 (map (λ g. g.0) met))) (needs_same a b (reduction w p.1) (reduction w q.1) s (reduction_same w p.1 q.1 r.1.same_literals))
    ∙ ap (λ n. needs_group b w q.1 && not (holds_number n (map (λ g. g.0) met))) r.0 in
    by_test (needs_group a w p.1 && not (holds_number p.0 (map (λ g. g.0) met)))
    (λ y. let z : (needs_group b w q.1 && not (holds_number q.0 (map (λ g. g.0) met))) ≡ true = sym alike ∙ y in rw (y, z) (r.0, r.1, ready_same ps qs a b w met r.2 s))
    (λ y. let z : (needs_group b w q.1 && not (holds_number q.0 (map (λ g. g.0) met))) ≡ false = sym alike ∙ y in rw (y, z) (ready_same ps qs a b w met r.2 s))

first_alike : (ps qs : Numbered) (n : ℕ) (d : List Literal) → AreReordered ps qs → first_of ps ≡ Some (n, d) → (e : List Literal) × (first_of qs ≡ Some (n, e)) × IsReordered d e
first_alike [] qs n d r e = absurd cc
first_alike (p ∷ ps) [] n d r e = absurd r
first_alike (p ∷ ps) (q ∷ qs) n d r e =
    let number : p.0 ≡ n = cc in
    let clause : p.1 ≡ d = cc in
    (q.1, ap (λ m. Some (m, q.1)) (sym r.0 ∙ number), subst (λ c. IsReordered c q.1) clause r.1)

order_same : (live mem : Numbered) (ss ts : List Step) (a b : List Literal) (w : Substitution) (met gs : List Group) → AreReordered live mem → AreStepsRewritten ss ts → SameSet a b
    → AreInOrder live ss a w met gs → AreInOrder mem ts b w met gs
order_same live mem ss ts a b w met [] r v s o = tt
order_same live mem ss ts a b w met (g ∷ gs) r v s o =
    let so_far = so_far_same live mem ss ts met r v in
    let next = first_alike (ready live ss a w met) (ready mem ts b w met) g.0 o.0.0 (ready_same (cited_so_far live ss met) (cited_so_far mem ts met) a b w met so_far s) o.0.1 in (
      (next.0, next.1, hints_first_same (cited_so_far live ss met) (cited_so_far mem ts met) (group_start a w o.0.0) (group_start b w next.0) g.1 so_far (group_start_same a b w o.0.0 next.0 s next.2.same_literals) o.0.2),
      order_same live mem ss ts a b w (met ++ g ∷ []) gs r v s o.1,
    )

pub core_first_same : (live mem : Numbered) (s t : Step) (ss ts : List Step) → AreReordered live mem → IsStepRewritten s t → AreStepsRewritten ss ts
    → StepIsCoreFirst live ss s s.witness → StepIsCoreFirst mem ts t t.witness
core_first_same live mem s t ss ts r w v f = subst (λ o. StepIsCoreFirst mem ts t o) w.witness (at s.witness f)
  where
    sets : SameSet (compl s.clause) (compl t.clause)
    sets = same_compl s.clause t.clause w.clause.reordered.same_literals

    at : (o : Option Witness) → StepIsCoreFirst live ss s o → StepIsCoreFirst mem ts t o
    at None f = subst (λ hs. IsCoreFirst (cited_of mem ts) (compl t.clause) hs) w.prefix
        (hints_first_same (cited_of live ss) (cited_of mem ts) (compl s.clause) (compl t.clause) s.prefix (reordered_kept (λ n. is_cited n ss) (λ n. is_cited n ts) live mem (λ n. cited_same n ss ts v) r) sets f)
    at (Some x) f = (f.0, sym w.groups ∙ f.1, order_same live mem ss ts (compl s.clause) (compl t.clause) (substitution x) [] f.0 r v sets f.2)
