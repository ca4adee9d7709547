-- What is kept of the parts of a witness is kept again.
use Rattle.std.proofs.Common.{◌≡◌, ◌||◌, ℕ, Bool, true, false, not, cond, None, List, [], ◌∷◌, ◌++◌, map, refl, sym, ap, ◌∙◌, subst, arith}
use Rattle.std.specs.Prelude.{filter}
use Rattle.sr_base.specs.Literal.{Literal, plus, minus, same, has, distinct, NoRepeats}
use Rattle.sr_base.proofs.Literals.{same_tells, not_has_filter}
use Rattle.sr_model.specs.Substitution.{made_true, sent}
use Rattle.sr_model.specs.Witnesses.{clashes, twice_of, parts_of, from_variable, first_maps, witness_by}
use Rattle.sr_model.specs.declared.images.Image.{Image}
use Rattle.sr_wit.specs.Kept.{IsKept}
use Rattle.sr_wit.proofs.WitnessLemmas.{filter_absent, distinct_same, map-sent-from_variable}

-- the second list with some elements left out
data IsPartOf {X : Type 0} : List X → List X → Type 0 where
  nothing : IsPartOf [] []
  left_out : {xs ys : List X} (y : X) → IsPartOf xs ys → IsPartOf xs (y ∷ ys)
  taken : {xs ys : List X} (x : X) → IsPartOf xs ys → IsPartOf (x ∷ xs) (x ∷ ys)

part-trans : {X : Type 0} {xs ys zs : List X} → IsPartOf xs ys → IsPartOf ys zs → IsPartOf xs zs
part-trans p nothing = p
part-trans p (left_out z q) = left_out z (part-trans p q)
part-trans (left_out y p) (taken _ q) = left_out y (part-trans p q)
part-trans (taken x p) (taken _ q) = taken x (part-trans p q)

part-filter : {X : Type 0} (f : X → Bool) (xs : List X) → IsPartOf (filter f xs) xs
part-filter f [] = nothing
part-filter f (x ∷ xs) = by (f x) (part-filter f xs)
  where
    by : (b : Bool) → IsPartOf (filter f xs) xs → IsPartOf (cond b (x ∷ filter f xs) (filter f xs)) (x ∷ xs)
    by true p = taken x p
    by false p = left_out x p

part-distinct : (ls : List Literal) → IsPartOf (distinct ls) ls
part-distinct [] = nothing
part-distinct (l ∷ ls) = taken l (part-trans (part-filter (λ k. not (same l k)) (distinct ls)) (part-distinct ls))

part-first_maps : (ms : List (Literal × Literal)) → IsPartOf (first_maps ms) ms
part-first_maps [] = nothing
part-first_maps (m ∷ ms) = taken m (part-trans (part-filter (λ n. not (same m.0 n.0)) (first_maps ms)) (part-first_maps ms))

part-map : {X Y : Type 0} (f : X → Y) {xs ys : List X} → IsPartOf xs ys → IsPartOf (map f xs) (map f ys)
part-map f nothing = nothing
part-map f (left_out y p) = left_out (f y) (part-map f p)
part-map f (taken x p) = taken (f x) (part-map f p)

part-append : {X : Type 0} {xs ys us vs : List X} → IsPartOf xs ys → IsPartOf us vs → IsPartOf (xs ++ us) (ys ++ vs)
part-append nothing q = q
part-append (left_out y p) q = left_out y (part-append p q)
part-append (taken x p) q = taken x (part-append p q)

second_false : (a b : Bool) → (a || b) ≡ false → b ≡ false
second_false a b h = grind arith

clashes-part : (p : ℕ × Image) {xs ys : List (ℕ × Image)} → IsPartOf xs ys → clashes p ys ≡ false → clashes p xs ≡ false
clashes-part p nothing h = h
clashes-part p (left_out y q) h = clashes-part p q (second_false _ _ h)
clashes-part p (taken x q) h = grind (arith, clashes-part p q)

twice_of-part : {xs ys : List (ℕ × Image)} → IsPartOf xs ys → twice_of ys ≡ None → twice_of xs ≡ None
twice_of-part nothing h = h
twice_of-part (left_out y p) h = twice_of-part p (grind arith)
twice_of-part (taken x p) h = grind (arith, clashes-part x p, twice_of-part p)

-- the literals
no_repeats_filter : (f : Literal → Bool) (ls : List Literal) → NoRepeats ls → NoRepeats (filter f ls)
no_repeats_filter f [] h = tt
no_repeats_filter f (l ∷ ls) h = by (f l) (not_has_filter l l ls f h.0) (no_repeats_filter f ls h.1)
  where
    by : (b : Bool) → has l (filter f ls) ≡ false → NoRepeats (filter f ls) → NoRepeats (cond b (l ∷ filter f ls) (filter f ls))
    by true a r = (a, r)
    by false a r = r

filtered_out : (l : Literal) (ls : List Literal) → has l (filter (λ k. not (same l k)) ls) ≡ false
filtered_out l [] = refl
filtered_out l (k ∷ ks) = grind (arith, filtered_out l ks, same_tells l k, same_tells k l)

no_repeats_distinct : (ls : List Literal) → NoRepeats (distinct ls)
no_repeats_distinct [] = tt
no_repeats_distinct (l ∷ ls) = (filtered_out l (distinct ls), no_repeats_filter (λ k. not (same l k)) (distinct ls) (no_repeats_distinct ls))

trues-again : (p : Literal) (ls : List Literal) → filter (λ l. not (same p l)) (distinct (filter (λ l. not (same p l)) (distinct ls))) ≡ filter (λ l. not (same p l)) (distinct ls)
trues-again p ls =
    rw (distinct_same (filter (λ l. not (same p l)) (distinct ls)) (no_repeats_filter (λ l. not (same p l)) (distinct ls) (no_repeats_distinct ls)))
    (filter_absent p (filter (λ l. not (same p l)) (distinct ls)) (filtered_out p (distinct ls)))

-- the maps
keys-filter : (k : Literal) (ms : List (Literal × Literal)) → map (λ m. m.0) (filter (λ n. not (same k n.0)) ms) ≡ filter (λ l. not (same k l)) (map (λ m. m.0) ms)
keys-filter k [] = refl
keys-filter k (m ∷ ms) = by (not (same k m.0)) (keys-filter k ms)
  where
    by : (b : Bool) → map (λ m. m.0) (filter (λ n. not (same k n.0)) ms) ≡ filter (λ l. not (same k l)) (map (λ m. m.0) ms)
        → map (λ m. m.0) (cond b (m ∷ filter (λ n. not (same k n.0)) ms) (filter (λ n. not (same k n.0)) ms))
        ≡ cond b (m.0 ∷ filter (λ l. not (same k l)) (map (λ m. m.0) ms)) (filter (λ l. not (same k l)) (map (λ m. m.0) ms))
    by true e = ap (λ ls. m.0 ∷ ls) e
    by false e = e

keys_apart : (ms : List (Literal × Literal)) → NoRepeats (map (λ m. m.0) (first_maps ms))
keys_apart [] = tt
keys_apart (m ∷ ms) =
    rw (keys-filter m.0 (first_maps ms)) (
      filtered_out m.0 (map (λ n. n.0) (first_maps ms)),
      no_repeats_filter (λ l. not (same m.0 l)) (map (λ n. n.0) (first_maps ms)) (keys_apart ms),
    )

filter_keys_absent : (k : Literal) (ms : List (Literal × Literal)) → has k (map (λ m. m.0) ms) ≡ false → filter (λ n. not (same k n.0)) ms ≡ ms
filter_keys_absent k [] h = refl
filter_keys_absent k (m ∷ ms) h = grind (arith, filter_keys_absent k ms, same_tells k m.0, same_tells m.0 k)

first_maps_apart : (ms : List (Literal × Literal)) → NoRepeats (map (λ m. m.0) ms) → first_maps ms ≡ ms
first_maps_apart [] h = refl
first_maps_apart (m ∷ ms) h = ap (λ x. m ∷ x) (ap (filter (λ n. not (same m.0 n.0))) (first_maps_apart ms h.1) ∙ filter_keys_absent m.0 ms h.0)

from_variable-twice : (m : Literal × Literal) → from_variable (from_variable m) ≡ from_variable m
from_variable-twice (plus v, w) = refl
from_variable-twice (minus v, w) = refl

abbrev AreFromVariables : List (Literal × Literal) → Type 0
AreFromVariables [] = Unit {0}
AreFromVariables (m ∷ ms) = (from_variable m ≡ m) × AreFromVariables ms

from_variables : (ms : List (Literal × Literal)) → AreFromVariables (map from_variable ms)
from_variables [] = tt
from_variables (m ∷ ms) = (from_variable-twice m, from_variables ms)

from_variables-part : {ms ns : List (Literal × Literal)} → IsPartOf ms ns → AreFromVariables ns → AreFromVariables ms
from_variables-part nothing h = h
from_variables-part (left_out n p) h = from_variables-part p h.1
from_variables-part (taken m p) h = (h.0, from_variables-part p h.1)

map-from_variable : (ms : List (Literal × Literal)) → AreFromVariables ms → map from_variable ms ≡ ms
map-from_variable [] h = refl
map-from_variable (m ∷ ms) h = rw (h.0, map-from_variable ms h.1) refl

maps-again : (ms : List (Literal × Literal)) → first_maps (map from_variable (first_maps (map from_variable ms))) ≡ first_maps (map from_variable ms)
maps-again ms =
    let fixed = map-from_variable (first_maps (map from_variable ms)) (from_variables-part (part-first_maps (map from_variable ms)) (from_variables ms)) in
    ap first_maps fixed ∙ first_maps_apart (first_maps (map from_variable ms)) (keys_apart (map from_variable ms))

-- what a witness without a variable that gets two images keeps
pub kept : (p : Literal) (trues : List Literal) (maps : List (Literal × Literal)) → twice_of (parts_of p trues maps) ≡ None → IsKept (witness_by p trues maps)
kept p trues maps once = record {
  same = rw (trues-again p trues, maps-again maps) refl;
  once =
      let these = part-map made_true (part-trans (part-filter (λ l. not (same p l)) (distinct trues)) (part-distinct trues)) in
      let those = part-map sent (part-first_maps (map from_variable maps)) in
      let all = taken (made_true p) (part-append these those) in
      twice_of-part all (subst (λ ps. twice_of (made_true p ∷ (map made_true trues ++ ps)) ≡ None) (sym (map-sent-from_variable maps)) once);
}
