-- Steps and whole proofs are judged alike where the clauses of their steps are reordered after the first literal.
use Rattle.std.proofs.Common.{◌≡◌, inl, inr, ℕ, Bool, not, cond, List, [], ◌∷◌, ◌++◌, Option, Some, None, refl, sym, ◌∙◌, ap, subst, arith}
use Rattle.std.specs.Prelude.{nat_le}
use Rattle.sr_base.specs.Literal.{Literal, SameSet, compl}
use Rattle.sr_base.specs.declared.names.Cause.TheVariants.{NotNew, Unclosed, GroupSpare, GroupTwice}
use Rattle.sr_base.proofs.Literals.{same_tells}
use Rattle.sr_model.specs.Assignment.{holds_number}
use Rattle.sr_model.specs.Refutation.{IsClosedFor, IsClosed, is_empty, has_empty, Refutes}
use Rattle.sr_model.specs.Substitution.{Substitution, Witness, Reduction, untouched, satisfied, left, reduction, pivot_true, substitution_for}
use Rattle.sr_model.specs.Redundancy.{Rup, MakesFirstTrue, IsRefutedLeft, AreRefuted, Sr}
use Rattle.sr_model.specs.Chain.{Numbered, clause_of, ChainEnd, closed, unclosed, faulty, chain}
use Rattle.sr_model.specs.Meeting.{Group, Step, met, unmet, both, group_of, group_end, left_meets, all_left_meet, needs_hints, clause_needs_hints, groups_fit, witness_meets, no_groups, prefix_meets, meets_over, meets}
use Rattle.sr_trimming.specs.Reordered.{IsReordered, AreReorderedClauses, AreReordered, EndAlike, ReducedAlike, SameFirst, IsRewritten, IsStepRewritten}
use Rattle.sr_trimming.proofs.Reordered.{same_sym, same_append, same_compl, pair_same, reduction_same, FoundAlike, found_same, chain_same}

-- refutation
pub empty_same : (c d : List Literal) → SameSet c d → is_empty c ≡ is_empty d
empty_same [] [] s = refl
empty_same [] (k ∷ d) s = absurd (grind (arith, s k, same_tells k k))
empty_same (l ∷ c) [] s = absurd (grind (arith, s l, same_tells l l))
empty_same (l ∷ c) (k ∷ d) s = refl

closed_for_same : (b c d : List Literal) → SameSet c d → IsClosedFor b c → IsClosedFor b d
closed_for_same b c d s f l h others = f l (s l ∙ h) (λ k i ne. others k (sym (s k) ∙ i) ne)

reordered_sym : (c d : List Literal) → IsReordered c d → IsReordered d c
reordered_sym c d r = record { same_literals = same_sym c d r.same_literals; none_twice = r.none_twice_in_other; none_twice_in_other = r.none_twice }

pub clauses_sym : (cs ds : List (List Literal)) → AreReorderedClauses cs ds → AreReorderedClauses ds cs
clauses_sym [] [] r = tt
clauses_sym [] (d ∷ ds) r = absurd r
clauses_sym (c ∷ cs) [] r = absurd r
clauses_sym (c ∷ cs) (d ∷ ds) r = (reordered_sym c d r.0, clauses_sym cs ds r.1)

has_empty_same : (cs ds : List (List Literal)) → AreReorderedClauses cs ds → has_empty cs ≡ has_empty ds
has_empty_same [] [] r = refl
has_empty_same [] (d ∷ ds) r = absurd r
has_empty_same (c ∷ cs) [] r = absurd r
has_empty_same (c ∷ cs) (d ∷ ds) r = grind (arith, empty_same c d r.0.same_literals, has_empty_same cs ds r.1)

closed_same : (b : List Literal) (cs ds : List (List Literal)) → AreReorderedClauses cs ds → IsClosed b cs → IsClosed b ds
closed_same b [] [] r cl = tt
closed_same b [] (d ∷ ds) r cl = absurd r
closed_same b (c ∷ cs) [] r cl = absurd r
closed_same b (c ∷ cs) (d ∷ ds) r cl = (closed_for_same b c d r.0.same_literals cl.0, closed_same b cs ds r.1 cl.1)

pub refutes_same : (cs ds : List (List Literal)) (a b : List Literal) → AreReorderedClauses cs ds → SameSet a b → Refutes cs a → Refutes ds b
refutes_same cs ds a b r s (inl e) = inl (sym (has_empty_same cs ds r) ∙ e)
refutes_same cs ds a b r s (inr f) = inr (λ x inc cl. f x (λ l h. inc l (sym (s l) ∙ h)) (closed_same x ds cs (clauses_sym cs ds r) cl))

pub rup_same : (cs ds : List (List Literal)) (c d : List Literal) → AreReorderedClauses cs ds → SameSet c d → Rup cs c → Rup ds d
rup_same cs ds c d r s h = refutes_same cs ds (compl c) (compl d) r (same_compl c d s) h

left_refuted_same : (cs ds : List (List Literal)) (c d : List Literal) (x y : Reduction) → AreReorderedClauses cs ds → SameSet c d → ReducedAlike x y → IsRefutedLeft cs c x → IsRefutedLeft ds d y
left_refuted_same cs ds c d untouched untouched r s a h = tt
left_refuted_same cs ds c d untouched satisfied r s a h = absurd a
left_refuted_same cs ds c d untouched (left e) r s a h = absurd a
left_refuted_same cs ds c d satisfied untouched r s a h = absurd a
left_refuted_same cs ds c d satisfied satisfied r s a h = tt
left_refuted_same cs ds c d satisfied (left e) r s a h = absurd a
left_refuted_same cs ds c d (left f) untouched r s a h = absurd a
left_refuted_same cs ds c d (left f) satisfied r s a h = absurd a
left_refuted_same cs ds c d (left f) (left e) r s a h =
    refutes_same cs ds (compl c ++ compl f) (compl d ++ compl e) r (same_append (compl c) (compl d) (compl f) (compl e) (same_compl c d s) (same_compl f e a)) h

all_refuted_same : (cs ds ms ns : List (List Literal)) (c d : List Literal) (w : Substitution) → AreReorderedClauses cs ds → AreReorderedClauses ms ns → SameSet c d → AreRefuted cs ms c w → AreRefuted ds ns d w
all_refuted_same cs ds [] [] c d w r m s h = tt
all_refuted_same cs ds [] (n ∷ ns) c d w r m s h = absurd m
all_refuted_same cs ds (x ∷ ms) [] c d w r m s h = absurd m
all_refuted_same cs ds (x ∷ ms) (n ∷ ns) c d w r m s h = (
  left_refuted_same cs ds c d (reduction w x) (reduction w n) r s (reduction_same w x n m.0.same_literals) h.0,
  all_refuted_same cs ds ms ns c d w r m.1 s h.1,
)

first_same : (c d : List Literal) (w : Substitution) → SameFirst c d → MakesFirstTrue w c → MakesFirstTrue w d
first_same [] [] w f m = m
first_same [] (k ∷ d) w f m = absurd f
first_same (l ∷ c) [] w f m = absurd f
first_same (l ∷ c) (k ∷ d) w f m = subst (λ j. MakesFirstTrue w (j ∷ d)) f m

pub sr_same : (cs ds ms ns : List (List Literal)) (c d : List Literal) (w : Substitution) → AreReorderedClauses cs ds → AreReorderedClauses ms ns → IsRewritten c d → Sr cs ms c w → Sr ds ns d w
sr_same cs ds ms ns c d w r m s h = (first_same c d w s.pivot h.0, all_refuted_same cs ds ms ns c d w r m s.reordered.same_literals h.1)

-- meeting a step
group_end_same : (n : ℕ) (x y : ChainEnd) → EndAlike x y → group_end n x ≡ group_end n y
group_end_same n closed closed a = refl
group_end_same n closed (unclosed b) a = absurd a
group_end_same n closed (faulty y) a = absurd a
group_end_same n (unclosed b) closed a = absurd a
group_end_same n (unclosed b) (unclosed c) a = refl
group_end_same n (unclosed b) (faulty y) a = absurd a
group_end_same n (faulty x) closed a = absurd a
group_end_same n (faulty x) (unclosed c) a = absurd a
group_end_same n (faulty x) (faulty y) a = ap unmet a

left_meets_same : (strict : Bool) (live mem : Numbered) (a b : List Literal) (gs : List Group) (n : ℕ) (x y : Reduction) → AreReordered live mem → SameSet a b → ReducedAlike x y
    → left_meets strict live a gs n x ≡ left_meets strict mem b gs n y
left_meets_same strict live mem a b gs n untouched untouched r s e = refl
left_meets_same strict live mem a b gs n untouched satisfied r s e = refl
left_meets_same strict live mem a b gs n untouched (left d) r s e = absurd e
left_meets_same strict live mem a b gs n satisfied untouched r s e = refl
left_meets_same strict live mem a b gs n satisfied satisfied r s e = refl
left_meets_same strict live mem a b gs n satisfied (left d) r s e = absurd e
left_meets_same strict live mem a b gs n (left c) untouched r s e = absurd e
left_meets_same strict live mem a b gs n (left c) satisfied r s e = absurd e
left_meets_same strict live mem a b gs n (left c) (left d) r s e =
    group_end_same n (chain strict live (a ++ compl c) (group_of gs n)) (chain strict mem (b ++ compl d) (group_of gs n))
    (chain_same strict live mem (a ++ compl c) (b ++ compl d) (group_of gs n) r (same_append a b (compl c) (compl d) s (same_compl c d e)))

all_left_same : (strict : Bool) (live mem : Numbered) (a b : List Literal) (w : Substitution) (gs : List Group) (ps qs : Numbered) → AreReordered live mem → SameSet a b → AreReordered ps qs
    → all_left_meet strict live a w gs ps ≡ all_left_meet strict mem b w gs qs
all_left_same strict live mem a b w gs [] [] r s e = refl
all_left_same strict live mem a b w gs [] (q ∷ qs) r s e = absurd e
all_left_same strict live mem a b w gs (p ∷ ps) [] r s e = absurd e
all_left_same strict live mem a b w gs (p ∷ ps) (q ∷ qs) r s e =
    ap (λ m. both m (all_left_meet strict live a w gs ps))
    (ap (λ n. left_meets strict live a gs n (reduction w p.1)) e.0 ∙ left_meets_same strict live mem a b gs q.0 (reduction w p.1) (reduction w q.1) r s (reduction_same w p.1 q.1 e.1.same_literals))
    ∙ ap (both (left_meets strict mem b gs q.0 (reduction w q.1))) (all_left_same strict live mem a b w gs ps qs r s e.2)

pub needs_same : (a b : List Literal) (x y : Reduction) → SameSet a b → ReducedAlike x y → needs_hints a x ≡ needs_hints b y
needs_same a b untouched untouched s e = refl
needs_same a b untouched satisfied s e = refl
needs_same a b untouched (left d) s e = absurd e
needs_same a b satisfied untouched s e = refl
needs_same a b satisfied satisfied s e = refl
needs_same a b satisfied (left d) s e = absurd e
needs_same a b (left c) untouched s e = absurd e
needs_same a b (left c) satisfied s e = absurd e
needs_same a b (left c) (left d) s e = ap not (pair_same (a ++ compl c) (b ++ compl d) (same_append a b (compl c) (compl d) s (same_compl c d e)))

found_needs_same : (a b : List Literal) (w : Substitution) (x y : Option (List Literal)) → SameSet a b → FoundAlike x y → clause_needs_hints a w x ≡ clause_needs_hints b w y
found_needs_same a b w None None s e = refl
found_needs_same a b w None (Some d) s e = absurd e
found_needs_same a b w (Some c) None s e = absurd e
found_needs_same a b w (Some c) (Some d) s e = needs_same a b (reduction w c) (reduction w d) s (reduction_same w c d e.same_literals)

fit_same : (live mem : Numbered) (a b : List Literal) (w : Substitution) (before : List ℕ) (gs : List Group) → AreReordered live mem → SameSet a b → groups_fit live a w before gs ≡ groups_fit mem b w before gs
fit_same live mem a b w before [] r s = refl
fit_same live mem a b w before (g ∷ gs) r s =
    ap (λ n. cond (holds_number g.0 before) (unmet (GroupTwice g.0)) (cond n (groups_fit live a w (g.0 ∷ before) gs) (unmet (GroupSpare g.0))))
    (found_needs_same a b w (clause_of live g.0) (clause_of mem g.0) s (found_same live mem g.0 r))
    ∙ ap (λ m. cond (holds_number g.0 before) (unmet (GroupTwice g.0)) (cond (clause_needs_hints b w (clause_of mem g.0)) m (unmet (GroupSpare g.0))))
    (fit_same live mem a b w (g.0 ∷ before) gs r s)

witness_meets_same : (strict : Bool) (live mem : Numbered) (a b : List Literal) (w : Substitution) (gs : List Group) → AreReordered live mem → SameSet a b
    → witness_meets strict live a w gs ≡ witness_meets strict mem b w gs
witness_meets_same strict live mem a b w gs r s =
    ap (λ m. both (cond strict m met) (all_left_meet strict live a w gs live)) (fit_same live mem a b w [] gs r s)
    ∙ ap (both (cond strict (groups_fit mem b w [] gs) met)) (all_left_same strict live mem a b w gs live mem r s r)

pub substitution_same : (c d : List Literal) (o : Option Witness) → SameFirst c d → substitution_for c o ≡ substitution_for d o
substitution_same c d (Some w) f = refl
substitution_same [] [] None f = refl
substitution_same [] (k ∷ d) None f = absurd f
substitution_same (l ∷ c) [] None f = absurd f
substitution_same (l ∷ c) (k ∷ d) None f = ap (λ j. pivot_true (j ∷ [])) f

prefix_same : (strict : Bool) (live mem : Numbered) (s t : Step) (x y : ChainEnd) → AreReordered live mem → IsStepRewritten s t → EndAlike x y → prefix_meets strict live s x ≡ prefix_meets strict mem t y
prefix_same strict live mem s t closed closed r w a = ap (no_groups strict) w.groups
prefix_same strict live mem s t closed (unclosed b) r w a = absurd a
prefix_same strict live mem s t closed (faulty y) r w a = absurd a
prefix_same strict live mem s t (unclosed b) closed r w a = absurd a
prefix_same strict live mem s t (unclosed b) (faulty y) r w a = absurd a
prefix_same strict live mem s t (faulty x) closed r w a = absurd a
prefix_same strict live mem s t (faulty x) (unclosed c) r w a = absurd a
prefix_same strict live mem s t (faulty x) (faulty y) r w a = ap unmet a
prefix_same strict live mem s t (unclosed b) (unclosed c) r w a =
    ap (λ e. cond e (unmet Unclosed) (witness_meets strict live b (substitution_for s.clause s.witness) s.groups)) (empty_same s.clause t.clause w.clause.reordered.same_literals)
    ∙ ap (λ m. cond (is_empty t.clause) (unmet Unclosed) m)
    (ap (λ x. witness_meets strict live b x s.groups) (ap (substitution_for s.clause) w.witness ∙ substitution_same s.clause t.clause t.witness w.clause.pivot)
    ∙ ap (witness_meets strict live b (substitution_for t.clause t.witness)) w.groups
    ∙ witness_meets_same strict live mem b c (substitution_for t.clause t.witness) t.groups r a)

pub over_same : (strict : Bool) (live mem : Numbered) (s t : Step) → AreReordered live mem → IsStepRewritten s t → meets_over strict live s ≡ meets_over strict mem t
over_same strict live mem s t r w = prefix_same strict live mem s t (chain strict live (compl s.clause) s.prefix) (chain strict mem (compl t.clause) t.prefix) r w
    (subst (λ hs. EndAlike (chain strict live (compl s.clause) s.prefix) (chain strict mem (compl t.clause) hs)) w.prefix
    (chain_same strict live mem (compl s.clause) (compl t.clause) s.prefix r (same_compl s.clause t.clause w.clause.reordered.same_literals)))

pub meets_same : (strict : Bool) (live mem : Numbered) (last : ℕ) (s t : Step) → AreReordered live mem → IsStepRewritten s t → meets strict live last s ≡ meets strict mem last t
meets_same strict live mem last s t r w = ap (λ n. cond (nat_le n last) (unmet NotNew) (meets_over strict live s)) w.id ∙ ap (λ m. cond (nat_le t.id last) (unmet NotNew) m) (over_same strict live mem s t r w)
