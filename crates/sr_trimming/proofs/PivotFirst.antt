-- A clause whose pivot is put first is the clause in another order.
use Rattle.std.proofs.Common.{◌≡◌, suc, true, false, not, List, [], ◌∷◌, refl, sym, ◌∙◌, ap, subst, arith, length, ℕ, zero, ◌<◌}
use Rattle.std.specs.Prelude.{filter, All, slice_index_or}
use Rattle.sr_base.specs.Literal.{Literal, same, has, NoRepeats, SameSet}
use Rattle.sr_base.proofs.Literals.{same_tells}
use Rattle.sr_base.proofs.Plain.{filter_absent}
use Rattle.sr_model.specs.Substitution.{IsPivot}
use Rattle.sr_trimming.specs.Reordered.{IsReordered, SameFirst, IsRewritten, IsStepRewritten, put_first}
use Rattle.sr_base.specs.Limits.{LimitValues}
use Rattle.sr_model.specs.Meeting.{Step}
use Rattle.sr_model.specs.ReadAgain.{IsLiteral, IsClause, IsNumber, IsGroup, IsStep}
use Rattle.sr_model.proofs.Soundness.{by_test, has_kept}
use Rattle.sr_trimming.proofs.Reordered.{no_repeats_kept}
use Rattle.sr_trimming.proofs.ProofsRewritten.{pivot_same}

-- the others are one fewer
fewer : (p : Literal) (c : List Literal) → NoRepeats c → has p c ≡ true → suc (length (filter (λ k. not (same p k)) c)) ≡ length c
fewer p [] n h = absurd cc
fewer p (k ∷ c) n h = by_test (same p k)
    (λ e. let is : p ≡ k = grind (arith, same_tells p k) in let gone : has p c ≡ false = ap (λ x. has x c) is ∙ n.0 in rw e (ap (λ x. suc (length x)) (filter_absent p c gone)))
    (λ e. rw e (ap suc (fewer p c n.1 (grind (arith, same_tells k p, same_tells p k)))))

-- lists without repeats of the same literals are as long
same_length : (c d : List Literal) → NoRepeats c → NoRepeats d → SameSet c d → length c ≡ length d
same_length [] [] n m s = refl
same_length [] (k ∷ d) n m s = absurd (grind (arith, s k, same_tells k k))
same_length (l ∷ c) d n m s =
    let there : has l d ≡ true = sym (s l) ∙ grind (arith, same_tells l l) in
    ap suc (same_length c (filter (λ k. not (same l k)) d) n.1 (no_repeats_kept (λ k. not (same l k)) d m)
    (λ k. grind (arith, has_kept (λ k. not (same l k)) k d, s k, same_tells l k, n.0))) ∙ fewer l d m there

pivot_in : (p : Literal) (c : List Literal) → IsPivot p c → has p c ≡ true
pivot_in p [] i = absurd i
pivot_in p (l ∷ c) i = subst (λ x. has p (x ∷ c) ≡ true) i (grind (arith, same_tells p p))

pivot_first_of : (p : Literal) (c d : List Literal) → IsPivot p c → SameFirst c (p ∷ d)
pivot_first_of p [] d i = absurd i
pivot_first_of p (l ∷ c) d i = sym i

pub pivot_put_first : (p : Literal) (c d : List Literal) → IsPivot p c → IsReordered c d → IsRewritten c (put_first p d) × (length (put_first p d) ≡ length c)
pivot_put_first p c d i r =
    let there : has p d ≡ true = sym (r.same_literals p) ∙ pivot_in p c i in
    let others : NoRepeats (filter (λ k. not (same p k)) d) = no_repeats_kept (λ k. not (same p k)) d r.none_twice_in_other in
    let first : NoRepeats (put_first p d) = (grind (arith, has_kept (λ k. not (same p k)) p d, same_tells p p), others) in
    let literals : SameSet c (put_first p d) = λ l. grind (arith, r.same_literals l, has_kept (λ k. not (same p k)) l d, same_tells p l, there) in (
      record { pivot = pivot_first_of p c (filter (λ k. not (same p k)) d) i; reordered = record { same_literals = literals; none_twice = r.none_twice; none_twice_in_other = first } },
      sym (same_length c (put_first p d) r.none_twice first literals),
    )

-- what holds of all literals holds of all in another order
all_tells : (P : Literal → Type 0) (c : List Literal) → All P c → (l : Literal) → has l c ≡ true → P l
all_tells P [] a l h = absurd cc
all_tells P (k ∷ c) a l h = by_test (same k l)
    (λ e. let is : k ≡ l = grind (arith, same_tells k l) in subst P is (a 0 l (omega arith)))
    (λ e. all_tells P c (λ i d b. a (suc i) d (omega arith)) l (grind arith))

has_each : (c : List Literal) (i : ℕ) (d : Literal) → i < length c → has (slice_index_or c i d) c ≡ true
has_each [] i d b = absurd (omega arith)
has_each (k ∷ c) zero d b = grind (arith, same_tells k k)
has_each (k ∷ c) (suc i) d b = grind (arith, has_each c i d (omega arith))

pub all_reordered : (P : Literal → Type 0) (c d : List Literal) → SameSet c d → All P c → All P d
all_reordered P c d s a i e b = all_tells P c a (slice_index_or d i e) (s (slice_index_or d i e) ∙ has_each d i e b)

pub order_keeps_limits : (vars : ℕ) (c d : List Literal) → IsReordered c d → (length c ≡ length d) × (IsClause vars c → IsClause vars d)
order_keeps_limits vars c d r = (
  same_length c d r.none_twice r.none_twice_in_other r.same_literals,
  λ k. record { within = all_reordered (IsLiteral vars) c d r.same_literals k.within; distinct = r.none_twice_in_other },
)

pub step_keeps_limits : (lim : LimitValues) (s t : Step) → IsStepRewritten s t → IsStep lim s → IsStep lim t
step_keeps_limits lim s t r k = record {
  id = subst (IsNumber lim.ids) r.id k.id;
  clause = (order_keeps_limits lim.vars s.clause t.clause r.clause.reordered).1 k.clause;
  witness = λ w e. let is = k.witness w (r.witness ∙ e) in
      record { pivot = pivot_same s.clause t.clause w.pivot r.clause.pivot is.pivot; assigned = is.assigned; maps = is.maps; same = is.same; once = is.once };
  prefix = subst (All (IsNumber lim.ids)) r.prefix k.prefix;
  groups = subst (All (IsGroup lim.ids)) r.groups k.groups;
}
