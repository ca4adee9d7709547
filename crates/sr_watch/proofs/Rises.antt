-- Lemmas on lists of numbers that rise.
use Rattle.std.proofs.lemmas.Bool.Decides.{nat_tests}
use Rattle.std.proofs.Common.{◌≡◌, ◌⊎◌, inl, inr, ◌<◌, ◌≤◌, ◌+◌, ◌-◌, ℕ, suc, zero, true, ◌||◌, ◌==◌, List, [], ◌∷◌, ◌++◌, refl, sym, ◌∙◌, ap, subst, arith, length, get_or, set, get_or-set_other, take}
use Rattle.std.proofs.lemmas.List.{length-set}
use Rattle.sr_model.specs.Assignment.{holds_number}
use Rattle.sr_model.proofs.Soundness.{by_test}
use Rattle.sr_watch.specs.Rising.{AreRising, last_above}

pub holds_push : (n m : ℕ) (ns : List ℕ) → holds_number n (ns ++ m ∷ []) ≡ (holds_number n ns || (m == n))
holds_push n m [] = grind arith
holds_push n m (k ∷ ns) = grind (arith, holds_push n m ns)

pub holds_at : (ns : List ℕ) (i : ℕ) → i < length ns → holds_number (get_or ns i 0) ns ≡ true
holds_at [] i lt = absurd (omega arith)
holds_at (n ∷ ns) zero lt = grind (arith, nat_tests)
holds_at (n ∷ ns) (suc i) lt = grind (arith, holds_at ns i (omega arith))

-- a number above the last
pub rising_push : (low n : ℕ) (ns : List ℕ) → AreRising low ns → last_above low ns < n → AreRising low (ns ++ n ∷ [])
rising_push low n [] r lt = (lt, tt)
rising_push low n (k ∷ ns) r lt = (r.0, rising_push k n ns r.1 lt)

pub last_le : (low : ℕ) (ns : List ℕ) → AreRising low ns → low ≤ last_above low ns
last_le low [] r = omega arith
last_le low (k ∷ ns) r = let below : low < k = r.0 in omega (arith, last_le k ns r.1)

-- the last is the greatest
pub below_last : (low m : ℕ) (ns : List ℕ) → AreRising low ns → holds_number m ns ≡ true → m ≤ last_above low ns
below_last low m [] r h = absurd cc
below_last low m (k ∷ ns) r h = by_test (k == m)
    (λ t. let is : k ≡ m = grind (arith, nat_tests) in omega (arith, last_le k ns r.1))
    (λ f. below_last k m ns r.1 (grind arith))

pub last_holds : (low : ℕ) (ns : List ℕ) → (last_above low ns ≡ low) ⊎ (holds_number (last_above low ns) ns ≡ true)
last_holds low [] = inl refl
last_holds low (k ∷ ns) = go (last_holds k ns)
  where
    go : (last_above k ns ≡ k) ⊎ (holds_number (last_above k ns) ns ≡ true) → (last_above k ns ≡ low) ⊎ (holds_number (last_above k ns) (k ∷ ns) ≡ true)
    go (inl e) = inr (let t : (k == last_above k ns) ≡ true = grind (arith, nat_tests) in rw t refl)
    go (inr h) = inr (grind arith)

-- a rising list is no longer than its last number
pub rising_short : (low : ℕ) (ns : List ℕ) → AreRising low ns → low + length ns ≤ last_above low ns
rising_short low [] r = omega arith
rising_short low (k ∷ ns) r = let below : low < k = r.0 in omega (arith, rising_short k ns r.1)

pub last_at : (low : ℕ) (ns : List ℕ) → 0 < length ns → get_or ns (length ns - 1) 0 ≡ last_above low ns
last_at low [] lt = absurd (omega arith)
last_at low (k ∷ []) lt = refl
last_at low (k ∷ j ∷ ns) lt = let e : length (k ∷ j ∷ ns) - 1 ≡ suc (length (j ∷ ns) - 1) = omega arith in rw e (last_at k (j ∷ ns) (omega arith))

-- the first numbers alone
pub rising_take : (low n : ℕ) (ns : List ℕ) → AreRising low ns → AreRising low (take n ns)
rising_take low zero ns r = tt
rising_take low (suc n) [] r = tt
rising_take low (suc n) (k ∷ ns) r = (r.0, rising_take k n ns r.1)

pub holds_take : (m n : ℕ) (ns : List ℕ) → holds_number m (take n ns) ≡ true → holds_number m ns ≡ true
holds_take m zero ns h = absurd cc
holds_take m (suc n) [] h = absurd cc
holds_take m (suc n) (k ∷ ns) h = by_test (k == m) (λ t. grind arith) (λ f. grind (arith, holds_take m n ns))

pub last_most : (most : ℕ) (ns : List ℕ) → ((n : ℕ) → holds_number n ns ≡ true → n ≤ most) → last_above 0 ns ≤ most
last_most most ns h = go (last_holds 0 ns)
  where
    go : (last_above 0 ns ≡ 0) ⊎ (holds_number (last_above 0 ns) ns ≡ true) → last_above 0 ns ≤ most
    go (inl e) = omega (arith, e)
    go (inr t) = h (last_above 0 ns) t

-- the last of some first numbers
pub last_taken : (low i : ℕ) (ns : List ℕ) → 0 < i → i ≤ length ns → last_above low (take i ns) ≡ get_or ns (i - 1) 0
last_taken low zero ns some le = absurd (omega arith)
last_taken low (suc i) [] some le = absurd (omega arith)
last_taken low (suc zero) (k ∷ ns) some le = refl
last_taken low (suc (suc i)) (k ∷ ns) some le = let e : suc (suc i) - 1 ≡ suc (suc i - 1) = omega arith in rw e (last_taken k (suc i) ns (omega arith) (omega arith))

-- each number is above those before
pub above_taken : (low i : ℕ) (ns : List ℕ) → AreRising low ns → i < length ns → last_above low (take i ns) < get_or ns i 0
above_taken low zero [] r lt = absurd (omega arith)
above_taken low zero (k ∷ ns) r lt = r.0
above_taken low (suc i) [] r lt = absurd (omega arith)
above_taken low (suc i) (k ∷ ns) r lt = above_taken k i ns r.1 (omega arith)

pub last_grows : (low i : ℕ) (ns : List ℕ) → AreRising low ns → i < length ns → last_above low (take (i + 1) ns) ≡ get_or ns i 0
last_grows low i ns r lt = let e : i + 1 - 1 ≡ i = omega arith in last_taken low (i + 1) ns (omega arith) (omega arith) ∙ ap (λ j. get_or ns j 0) e

-- what a list was reduced to while its numbers up to a place were looked at
pub record IsReduced (old now : List ℕ) (low high left i : ℕ) : Type 0 where
  pub size : length now ≡ length old
  pub le : left ≤ i
  pub ahead : (j : ℕ) → i ≤ j → get_or now j 0 ≡ get_or old j 0
  pub rising : AreRising 0 (take left now)
  pub fewer : (n : ℕ) → holds_number n (take left now) ≡ true → (holds_number n old ≡ true) × ((n ≤ low) ⊎ (high < n))
  pub below : last_above 0 (take left now) ≤ last_above 0 (take i old)

pub reduced_start : (old : List ℕ) (low high first : ℕ) → AreRising 0 old → last_above 0 (take first old) ≤ low → IsReduced old old low high first first
reduced_start old low high first r le = record {
  size = refl;
  le = omega arith;
  ahead = λ j h. refl;
  rising = rising_take 0 first old r;
  fewer = λ n h. (holds_take n first old h, inl (omega (arith, below_last 0 n (take first old) (rising_take 0 first old r) h, le)));
  below = omega arith;
}

pub reduced_skip : (old now : List ℕ) (low high left i : ℕ) → AreRising 0 old → i < length old → IsReduced old now low high left i → IsReduced old now low high left (i + 1)
reduced_skip old now low high left i r lt x = record {
  size = x.size;
  le = omega (arith, x.le);
  ahead = λ j h. x.ahead j (omega arith);
  rising = x.rising;
  fewer = x.fewer;
  below = omega (arith, x.below, above_taken 0 i old r lt, last_grows 0 i old r lt);
}

pub reduced_kept : (old now : List ℕ) (low high left i n : ℕ) → AreRising 0 old → i < length old → n ≡ get_or now i 0 → high < n → IsReduced old now low high left i → IsReduced old (set now left n) low high (left + 1) (i + 1)
reduced_kept old now low high left i n r lt is above x =
    let is_old : n ≡ get_or old i 0 = is ∙ x.ahead i (omega arith) in
    let more : take (left + 1) (set now left n) ≡ take left now ++ n ∷ [] = taken now left n (omega (arith, x.le, lt, x.size)) in
    let higher : last_above 0 (take left now) < n = omega (arith, x.below, above_taken 0 i old r lt, is_old) in
    record {
      size = length-set now left n ∙ x.size;
      le = omega (arith, x.le);
      ahead = λ j h. get_or-set_other now left j n 0 (λ e. absurd (omega (arith, e, x.le))) ∙ x.ahead j (omega arith);
      rising = rw more (rising_push 0 n (take left now) x.rising higher);
      fewer = λ m h. fewer m (ap (holds_number m) (sym more) ∙ h);
      below = rw (more, last_pushed 0 n (take left now), last_grows 0 i old r lt) (omega (arith, is_old));
    }
  where
    taken : (ns : List ℕ) (j v : ℕ) → j < length ns → take (j + 1) (set ns j v) ≡ take j ns ++ v ∷ []
    taken [] j v l = absurd (omega arith)
    taken (k ∷ ns) zero v l = refl
    taken (k ∷ ns) (suc j) v l = let e : suc j + 1 ≡ suc (j + 1) = omega arith in rw e (ap (λ ms. k ∷ ms) (taken ns j v (omega arith)))

    last_pushed : (l v : ℕ) (ns : List ℕ) → last_above l (ns ++ v ∷ []) ≡ v
    last_pushed l v [] = refl
    last_pushed l v (k ∷ ns) = last_pushed k v ns

    fewer : (m : ℕ) → holds_number m (take left now ++ n ∷ []) ≡ true → (holds_number m old ≡ true) × ((m ≤ low) ⊎ (high < m))
    fewer m h = by_test (n == m)
        (λ t. let e : n ≡ m = grind (arith, nat_tests) in (subst (λ j. holds_number j old ≡ true) (sym (x.ahead i (omega arith)) ∙ sym is ∙ e) (holds_at old i lt), inr (omega arith)))
        (λ f. x.fewer m (grind (arith, holds_push m n (take left now), h, f)))
