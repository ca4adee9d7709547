-- What the answers of propagation mean.
use Rattle.std.proofs.Common.{◌≡◌, ◌≢◌, ◌<◌, ◌≤◌, ◌+◌, ◌⊎◌, inl, inr, ℕ, suc, zero, true, false, ◌==◌, List, [], ◌∷◌, ◌++◌, Option, Some, None, refl, sym, ◌∙◌, ap, subst, arith, add-one, length, get_or, take, take_all}
use Rattle.std.proofs.lemmas.List.{take_more}
use Rattle.std.proofs.lemmas.Bool.Decides.{nat_tests}
use Rattle.sr_base.specs.Literal.{Literal, plus, minus, complement, same, has}
use Rattle.sr_base.proofs.Literals.{same_tells, has_append, complement_twice}
use Rattle.sr_model.specs.Refutation.{IsClosed, Includes, HoldsPair, is_empty, has_empty, Refutes}
use Rattle.sr_model.specs.Substitution.{has_pair}
use Rattle.sr_model.proofs.Soundness.{by_test}
use Rattle.sr_model.proofs.Chains.{pair_from, pair_tells}
use Rattle.sr_watch.specs.declared.parts.Part.{Part}
use Rattle.sr_watch.specs.declared.parts.Part.TheVariants.{Core, All}
use Rattle.sr_watch.specs.declared.parts.Found.{Found}
use Rattle.sr_watch.specs.declared.parts.Found.TheVariants.{Still, Conflict, Pair}
use Rattle.sr_watch.specs.Parts.{counts}
use Rattle.sr_watch.specs.State.{State, slot_at, lits_at, lit_at, reason_at, IsOfPart, IsAttached, clauses_of, assumed_in, assumed, AllFalse, IsSound}
use Rattle.sr_watch.specs.Meaning.{HasReasonsOf, IsStill, IsConflict, IsPair, Means, IsLeast}
use Rattle.sr_watch.specs.Scanning.{IsDerivedPair}
use Rattle.sr_watch.specs.Running.{FindsSelf, IsNothing, IsFalse}
use Rattle.sr_watch.proofs.Clauses.{closed_one, one_empty}
use Rattle.sr_watch.proofs.Looking.{in_take}

-- a literal of the list is assumed, or its entry has a reason
pub assumed_or : (ls : List Literal) (rs : List ℕ) (k : Literal) → length rs ≡ length ls → has k ls ≡ true → (has k (assumed_in ls rs) ≡ true) ⊎ ((i : ℕ) × (i < length ls) × (get_or ls i (plus 0) ≡ k) × (get_or rs i 0 ≢ 0))
assumed_or [] rs k n h = absurd cc
assumed_or (l ∷ ls) [] k n h = absurd (omega arith)
assumed_or (l ∷ ls) (r ∷ rs) k n h = by_test (same l k)
    (λ t. by_test (r == 0)
    (λ z. inl (grind arith))
    (λ z. inr (0, omega arith, grind (arith, same_tells l k), grind (arith, nat_tests))))
    (λ f. later (assumed_or ls rs k (omega arith) (grind arith)))
  where
    later : (has k (assumed_in ls rs) ≡ true) ⊎ ((i : ℕ) × (i < length ls) × (get_or ls i (plus 0) ≡ k) × (get_or rs i 0 ≢ 0)) → (has k (assumed_in (l ∷ ls) (r ∷ rs)) ≡ true) ⊎ ((i : ℕ) × (i < suc (length ls)) × (get_or (l ∷ ls) i (plus 0) ≡ k) × (get_or (r ∷ rs) i 0 ≢ 0))
    later (inl a) = inl (by_test (r == 0) (λ z. grind arith) (λ z. grind arith))
    later (inr w) = inr (suc w.0, omega (arith, w.1), w.2, w.3)

pub has_assumed : (ls : List Literal) (rs : List ℕ) (k : Literal) → has k (assumed_in ls rs) ≡ true → has k ls ≡ true
has_assumed [] rs k h = absurd cc
has_assumed (l ∷ ls) [] k h = absurd cc
has_assumed (l ∷ ls) (r ∷ rs) k h = by_test (r == 0)
    (λ z. by_test (same l k) (λ t. grind arith) (λ f. grind (arith, has_assumed ls rs k)))
    (λ z. grind (arith, has_assumed ls rs k))

pub entry_assumed : (ls : List Literal) (rs : List ℕ) (i : ℕ) → i < length ls → length ls ≡ length rs → get_or rs i 0 ≡ 0 → has (get_or ls i (plus 0)) (assumed_in ls rs) ≡ true
entry_assumed [] rs i lt n z = absurd (omega arith)
entry_assumed (l ∷ ls) [] i lt n z = absurd (omega arith)
entry_assumed (l ∷ ls) (r ∷ rs) zero lt n z = rw z (grind (arith, same_tells l l))
entry_assumed (l ∷ ls) (r ∷ rs) (suc i) lt n z = let h = entry_assumed ls rs i (omega arith) (omega arith) z in by_test (r == 0) (λ t. grind arith) (λ f. grind arith)

-- the entry after the first ones
pub taken_next : (s : State) (n : ℕ) → n < length s.lits → take (suc n) s.lits ≡ take n s.lits ++ lit_at s n ∷ []
taken_next s n lt = let more : take (n + 1) s.lits ≡ take n s.lits ++ lit_at s n ∷ [] = take_more s.lits n (plus 0) lt in rw add-one at more

-- each true literal lies in every closed set that contains the assumed ones
pub least_of : (p : Part) (s : State) (b : List Literal) → IsSound s → HasReasonsOf s p → Includes (assumed s) b → IsClosed b (clauses_of s p) → Includes s.lits b
least_of p s b sound of inc cl k h = at_take (length s.lits) (omega arith) k (subst (λ x. has k x ≡ true) (sym (take_all (length s.lits) s.lits (omega arith))) h)
  where
    -- an entry, where the ones before are in the set
    at_entry : (i : ℕ) → i < length s.lits → ((k : Literal) → has k (take i s.lits) ≡ true → has k b ≡ true) → has (lit_at s i) b ≡ true
    at_entry i lt below = by_test (reason_at s i == 0)
        (λ z. inc (lit_at s i) (entry_assumed s.lits s.reasons i lt (sym sound.sizes) (grind (arith, nat_tests))))
        (λ z. let ne : reason_at s i ≢ 0 = grind (arith, nat_tests) in
        let f = sound.forced i lt ne in
        closed_one p s.slots (reason_at s i) b cl (of i lt ne) (lit_at s i) f.of_clause (λ k h n. below (complement k) (f.others k h n)))

    at_take : (n : ℕ) → n ≤ length s.lits → (k : Literal) → has k (take n s.lits) ≡ true → has k b ≡ true
    at_take zero le k h = absurd cc
    at_take (suc n) le k h =
        let g : has k (take n s.lits ++ lit_at s n ∷ []) ≡ true = subst (λ x. has k x ≡ true) (taken_next s n (omega arith)) h in
        by_test (same (lit_at s n) k)
        (λ t. let is : lit_at s n ≡ k = grind (arith, same_tells (lit_at s n) k) in subst (λ j. has j b ≡ true) is (at_entry n (omega arith) (at_take n (omega arith))))
        (λ f. at_take n (omega arith) k (grind (arith, has_append k (take n s.lits) (lit_at s n ∷ []))))

pub least : (s : State) → IsSound s → IsLeast s
least s sound b inc cl = least_of All s b sound sound.attached inc cl

-- closed, without a pair and without an empty clause: not refuted
still_is : (cs : List (List Literal)) (a ls : List Literal) → Includes a ls → IsClosed ls cs → has_pair ls ≡ false → has_empty cs ≡ false → Refutes cs a → ⊥
still_is cs a ls inc cl n e (inl x) = cc
still_is cs a ls inc cl n e (inr f) = let p = f ls inc cl in let t : has_pair ls ≡ true = pair_from ls p in cc

pub still_means : (p : Part) (s : State) → has_pair s.lits ≡ false → IsNothing p s → IsStill p s
still_means p s n c = record {
  closed = c.closed;
  no_pair = n;
  consistent = still_is (clauses_of s p) (assumed s) s.lits (has_assumed s.lits s.reasons) c.closed n c.none_empty;
}

-- a clause whose literals are all false refutes
conflict_is : (p : Part) (s : State) (at : ℕ) → IsSound s → HasReasonsOf s p → IsOfPart s p at → AllFalse s.lits (lits_at s at) → Refutes (clauses_of s p) (assumed s)
conflict_is p s at sound of mine false_all = go (lits_at s at) refl
  where
    go : (c : List Literal) → lits_at s at ≡ c → Refutes (clauses_of s p) (assumed s)
    go [] e = inl (one_empty p s.slots at mine (ap is_empty e))
    go (l ∷ ls) e = inr (λ b inc cl.
        let of_clause : has l (lits_at s at) ≡ true = ap (has l) e ∙ grind (arith, same_tells l l) in
        let below : Includes s.lits b = least_of p s b sound of inc cl in
        (l, closed_one p s.slots at b cl mine l of_clause (λ k h n. below (complement k) (false_all k h)), below (complement l) (false_all l of_clause)))

any_part : (p : Part) (q : Option Part) → counts p q ≡ true → counts All q ≡ true
any_part Core None h = absurd cc
any_part All None h = absurd cc
any_part p (Some q) h = refl

pub attached_of : (p : Part) (s : State) (at : ℕ) → IsOfPart s p at → IsAttached s at
attached_of p s at h = any_part p (slot_at s at).part h

pub conflict_means : (p : Part) (s : State) (at : ℕ) → IsSound s → IsFalse p s at → IsConflict p s at
conflict_means p s at sound c = record {
  attached = attached_of p s at c.of_part;
  all_false = c.all_false;
  of_part = inl c.of_part;
  refutes = λ of. conflict_is p s at sound of c.of_part c.all_false;
}

-- a derived entry whose complement is there
derived_means : (p : Part) (s : State) (at : ℕ) → IsSound s → IsDerivedPair s.lits s.reasons at → IsConflict p s at
derived_means p s at sound w =
    let ne : reason_at s w.entry ≢ 0 = (λ z. w.some (sym w.reason ∙ z)) in
    let f = sound.forced w.entry w.within ne in
    let false_all : AllFalse s.lits (lits_at s at) = subst (λ j. AllFalse s.lits (lits_at s j)) w.reason (λ k h. by_test (same k (lit_at s w.entry))
    (λ t. let is : k ≡ lit_at s w.entry = grind (arith, same_tells k (lit_at s w.entry)) in subst (λ j. has (complement j) s.lits ≡ true) (sym is) w.complement)
    (λ t. let d : k ≢ lit_at s w.entry = grind (arith, same_tells k (lit_at s w.entry)) in in_take s.lits w.entry (complement k) (f.others k h d))) in
    record {
      attached = subst (λ j. IsAttached s j) w.reason (sound.attached w.entry w.within ne);
      all_false = false_all;
      of_part = inr (record { entry = w.entry; within = w.within; reason = w.reason; complement = w.complement });
      refutes = λ of. conflict_is p s at sound of (subst (λ j. IsOfPart s p j) w.reason (of w.entry w.within ne)) false_all;
    }

pair_means : (p : Part) (s : State) (l : Literal) → (has l (assumed s) ≡ true) × (has (complement l) (assumed s) ≡ true) → IsPair p s l
pair_means p s l c = record { is_true = c.0; is_false = c.1; refutes = inr (λ b inc cl. (l, inc l c.0, inc (complement l) c.1)) }

pub self_means : (p : Part) (s : State) (f : Found) → IsSound s → FindsSelf s (Some f) → Means p s f
self_means p s Still sound w = absurd w
self_means p s (Conflict at) sound w = derived_means p s at sound w
self_means p s (Pair l) sound w = pair_means p s l w

-- a list without a pair gets an open literal
pub pair_push : (a : List Literal) (l : Literal) → has_pair a ≡ false → has (complement l) a ≡ false → has_pair (a ++ l ∷ []) ≡ false
pair_push a l p n = by_test (has_pair (a ++ l ∷ [])) (λ t. absurd (no (pair_tells (a ++ l ∷ []) t))) (λ f. f)
  where
    other : (k : Literal) → k ≡ complement k → ⊥
    other (plus v) e = cc
    other (minus v) e = cc

    no : HoldsPair (a ++ l ∷ []) → ⊥
    no w = by_test (has w.0 a)
        (λ t. by_test (has (complement w.0) a)
        (λ u. let q : has_pair a ≡ true = pair_from a (w.0, t, u) in absurd cc)
        (λ u. let is : l ≡ complement w.0 = grind (arith, has_append (complement w.0) a (l ∷ []), w.2, same_tells l (complement w.0)) in
        let back : complement l ≡ w.0 = ap complement is ∙ complement_twice w.0 in
        let q : has (complement l) a ≡ true = subst (λ j. has j a ≡ true) (sym back) t in absurd cc))
        (λ t. let is : l ≡ w.0 = grind (arith, has_append w.0 a (l ∷ []), w.1, same_tells l w.0) in
        by_test (has (complement w.0) a)
        (λ u. let q : has (complement l) a ≡ true = subst (λ j. has (complement j) a ≡ true) (sym is) u in absurd cc)
        (λ u. let it : l ≡ complement w.0 = grind (arith, has_append (complement w.0) a (l ∷ []), w.2, same_tells l (complement w.0)) in other w.0 (sym is ∙ it)))
