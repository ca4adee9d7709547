-- Lemmas on the watches of one clause.
use Rattle.std.proofs.lemmas.List.{get_or_default}
use Rattle.std.proofs.Common.{◌≡◌, ◌≢◌, ◌⊎◌, inl, inr, ◌<◌, ◌≤◌, ◌-◌, ℕ, suc, zero, true, false, List, [], ◌∷◌, refl, sym, ◌∙◌, ap, subst, arith, length, get_or}
use Rattle.sr_base.specs.Literal.{Literal, plus, complement, same, has}
use Rattle.sr_base.proofs.Literals.{same_tells}
use Rattle.sr_model.proofs.Soundness.{by_test}
use Rattle.sr_watch.specs.State.{AllFalse, IsForcedBy}
use Rattle.sr_watch.specs.Watching.{is_watch}

-- a literal of a clause has a place
pub record HasPlace (c : List Literal) (k : Literal) : Type 0 where
  pub place : ℕ
  pub within : place < length c
  pub is_there : get_or c place (plus 0) ≡ k

pub place_of : (c : List Literal) (k : Literal) → has k c ≡ true → HasPlace c k
place_of [] k h = absurd cc
place_of (x ∷ c) k h = by_test (same x k)
    (λ t. record { place = 0; within = omega arith; is_there = grind (arith, same_tells x k) })
    (λ f. let r = place_of c k (grind arith) in record { place = suc r.place; within = omega (arith, r.within); is_there = r.is_there })

pub has_get : (c : List Literal) (i : ℕ) → i < length c → has (get_or c i (plus 0)) c ≡ true
has_get [] i lt = absurd (omega arith)
has_get (x ∷ c) zero lt = grind (arith, same_tells x x)
has_get (x ∷ c) (suc i) lt = grind (arith, has_get c i (omega arith))

-- a clause with a watch has two literals
pub watch_long : (c : List Literal) (w : Literal) → is_watch c w ≡ true → 2 ≤ length c
watch_long [] w h = absurd cc
watch_long (x ∷ []) w h = absurd cc
watch_long (x ∷ y ∷ c) w h = omega arith

-- a watch that isn't the first one is the second
pub watch_second : (c : List Literal) (w : Literal) → is_watch c w ≡ true → same (get_or c 0 (plus 0)) w ≡ false → get_or c 1 (plus 0) ≡ w
watch_second [] w h f = absurd cc
watch_second (x ∷ []) w h f = absurd cc
watch_second (x ∷ y ∷ c) w h f = grind (arith, same_tells y w)

-- what an index of a watch is
pub record IsAt (c : List Literal) (w other : Literal) (at : ℕ) : Type 0 where
  pub low : at < 2
  pub watch : get_or c at (plus 0) ≡ w
  pub other_is : get_or c (1 - at) (plus 0) ≡ other

-- the literals but the other watch are false
pub others_false : (c trail : List Literal) (w other : Literal) (at : ℕ) → IsAt c w other at → has (complement w) trail ≡ true
    → ((j : ℕ) → 2 ≤ j → j < length c → has (complement (get_or c j (plus 0))) trail ≡ true) → (k : Literal) → has k c ≡ true → k ≢ other → has (complement k) trail ≡ true
others_false c trail w other at is f rest k h ne = go (place_of c k h)
  where
    by_place : (j : ℕ) → j < length c → get_or c j (plus 0) ≡ k → (a : ℕ) → a ≡ at → has (complement k) trail ≡ true
    by_place zero lt e zero b = subst (λ x. has (complement x) trail ≡ true) (sym is.watch ∙ ap (λ i. get_or c i (plus 0)) (sym b) ∙ e) f
    by_place zero lt e (suc a) b = absurd (ne (sym e ∙ ap (λ i. get_or c i (plus 0)) (let q : 0 ≡ 1 - at = omega (arith, is.low) in q) ∙ is.other_is))
    by_place (suc zero) lt e zero b = absurd (ne (sym e ∙ ap (λ i. get_or c i (plus 0)) (let q : 1 ≡ 1 - at = omega (arith, is.low) in q) ∙ is.other_is))
    by_place (suc zero) lt e (suc a) b = subst (λ x. has (complement x) trail ≡ true) (sym is.watch ∙ ap (λ i. get_or c i (plus 0)) (let q : at ≡ 1 = omega (arith, is.low) in q) ∙ e) f
    by_place (suc (suc j)) lt e a b = subst (λ x. has (complement x) trail ≡ true) e (rest (suc (suc j)) (omega arith) lt)

    go : HasPlace c k → has (complement k) trail ≡ true
    go p = by_place p.place p.within p.is_there at refl

pub all_false : (c trail : List Literal) (w other : Literal) (at : ℕ) → IsAt c w other at → has (complement w) trail ≡ true
    → ((j : ℕ) → 2 ≤ j → j < length c → has (complement (get_or c j (plus 0))) trail ≡ true) → has (complement other) trail ≡ true → AllFalse trail c
all_false c trail w other at is f rest o k h = by_test (same k other)
    (λ t. let e : k ≡ other = grind (arith, same_tells k other) in subst (λ x. has (complement x) trail ≡ true) (sym e) o)
    (λ t. let ne : k ≢ other = grind (arith, same_tells k other) in others_false c trail w other at is f rest k h ne)

pub forces : (c trail : List Literal) (w other : Literal) (at : ℕ) → 2 ≤ length c → IsAt c w other at → has (complement w) trail ≡ true
    → ((j : ℕ) → 2 ≤ j → j < length c → has (complement (get_or c j (plus 0))) trail ≡ true) → IsForcedBy c trail other
forces c trail w other at long is f rest = record {
  of_clause = subst (λ x. has x c ≡ true) is.other_is (has_get c (1 - at) (omega (arith, is.low)));
  others = others_false c trail w other at is f rest;
}

pub other_of : (c : List Literal) (w other : Literal) (at : ℕ) → 2 ≤ length c → IsAt c w other at → has other c ≡ true
other_of c w other at long is = subst (λ x. has x c ≡ true) is.other_is (has_get c (1 - at) (omega (arith, is.low)))

pub is_at : (c : List Literal) (w other x : Literal) (at : ℕ) → is_watch c w ≡ true → x ≡ get_or c 0 x → other ≡ get_or c (1 - at) other → ((at ≡ 0) × (same x w ≡ true)) ⊎ ((at ≡ 1) × (same x w ≡ false)) → IsAt c w other at
is_at c w other x at h ex eo (inl p) =
    let x_is : get_or c 0 (plus 0) ≡ x = get_or_default c 0 (plus 0) x (omega (arith, watch_long c w h)) ∙ sym ex in
    record {
      low = omega (arith, p.0);
      watch = ap (λ i. get_or c i (plus 0)) p.0 ∙ x_is ∙ grind (arith, same_tells x w, p.1);
      other_is = get_or_default c (1 - at) (plus 0) other (omega (arith, watch_long c w h, p.0)) ∙ sym eo;
    }
is_at c w other x at h ex eo (inr p) =
    let x_is : get_or c 0 (plus 0) ≡ x = get_or_default c 0 (plus 0) x (omega (arith, watch_long c w h)) ∙ sym ex in
    record {
      low = omega (arith, p.0);
      watch = ap (λ i. get_or c i (plus 0)) p.0 ∙ watch_second c w h (ap (λ y. same y w) x_is ∙ p.1);
      other_is = get_or_default c (1 - at) (plus 0) other (omega (arith, watch_long c w h, p.0)) ∙ sym eo;
    }
