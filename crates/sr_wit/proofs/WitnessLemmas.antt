-- What is kept of the parts of a witness.
use Rattle.std.proofs.Common.{◌≡◌, ◌≢◌, ◌==◌, ◌||◌, ◌<◌, ◌+◌, ℕ, Bool, true, false, not, cond, None, List, [], ◌∷◌, ◌++◌, map, length, get_or, refl, sym, ap, ◌∙◌, subst, arith}
use Rattle.std.proofs.lemmas.Bool.Decides.{nat_tests}
use Rattle.std.specs.Prelude.{filter}
use Rattle.std.specs.Ordering.{nat_cmp, eq_by_cmp}
use Rattle.std.specs.List.{IsDistinct, AllByRecursion, AllAdjacentBelow}
use Rattle.std.specs.List.Sorted.{IsPermutation, IsStrictlyIncreasing, IsNonDecreasingBy}
use Rattle.std.proofs.lemmas.List.Sorted.{IsPermutation-sym, IsPermutation-map, All-permutation}
use Rattle.std.proofs.lemmas.Map.Keys.{IsDistinct-head, IsDistinct-tail, IsDistinct-from_sorted, IsDistinct-IsPermutation, sorted_from_strictly_increasing}
use Rattle.std.proofs.lemmas.List.{map-append, append-nil, length-map, get_or-map}
use Rattle.std.proofs.lemmas.List.Elements.{filter-append}
use Rattle.sr_base.specs.Literal.{Literal, plus, minus, variable, same, has, distinct, NoRepeats}
use Rattle.sr_base.proofs.Literals.{same_tells, has_append}
use Rattle.sr_model.specs.Assignment.{holds_number}
use Rattle.sr_model.specs.Substitution.{Substitution, image_of_variable, made_true, sent, substitution}
use Rattle.sr_model.specs.Witnesses.{clashes, twice_of, parts_of, from_variable, first_maps, witness_by}
use Rattle.sr_model.specs.declared.images.Image.{Image}
use Rattle.sr_model.specs.declared.images.Image.TheVariants.{Yes, To}
use Rattle.sr_wit.specs.Tables.{IsTableOf, witness_with}
use Rattle.std.specs.BTreeMap.{is_at}
use Rattle.sr_wit.proofs.PartLemmas.{AreVariablesOf, parts_tell, image-none}

-- the image that the first parts give, or another
image_or : List (ℕ × Image) → ℕ → Image → Image
image_or [] v d = d
image_or (p ∷ ps) v d = cond (p.0 == v) p.1 (image_or ps v d)

image-append : (ps qs : List (ℕ × Image)) (v : ℕ) → image_of_variable (ps ++ qs) v ≡ image_or ps v (image_of_variable qs v)
unfolding image_or
image-append [] qs v = refl
image-append (p ∷ ps) qs v = ap (λ x. cond (p.0 == v) p.1 x) (image-append ps qs v)

image-all : (ps : List (ℕ × Image)) (v : ℕ) → image_of_variable ps v ≡ image_or ps v (To (plus v))
unfolding image_or
image-all [] v = refl
image-all (p ∷ ps) v = ap (λ x. cond (p.0 == v) p.1 x) (image-all ps v)

variable-made_true : (l : Literal) → (made_true l).0 ≡ variable l
variable-made_true (plus v) = refl
variable-made_true (minus v) = refl

variable-sent : (m : Literal × Literal) → (sent m).0 ≡ variable m.0
variable-sent (plus v, w) = refl
variable-sent (minus v, w) = refl

-- repeats of a literal give its variable no image
trues-filter : (x : Literal) (ls : List Literal) (v : ℕ) (d : Image) → (variable x == v) ≡ false
    → image_or (map made_true (filter (λ l. not (same x l)) ls)) v d ≡ image_or (map made_true ls) v d
unfolding image_or
trues-filter x [] v d h = refl
trues-filter x (l ∷ ls) v d h = grind (arith, nat_tests, trues-filter x ls v d h, same_tells x l, variable-made_true l)

trues-distinct : (ls : List Literal) (v : ℕ) (d : Image) → image_or (map made_true (distinct ls)) v d ≡ image_or (map made_true ls) v d
unfolding image_or
trues-distinct [] v d = refl
trues-distinct (l ∷ ls) v d = by (variable l == v) refl (trues-distinct ls v d)
  where
    by : (b : Bool) → (variable l == v) ≡ b → image_or (map made_true (distinct ls)) v d ≡ image_or (map made_true ls) v d
        → image_or (map made_true (distinct (l ∷ ls))) v d ≡ image_or (map made_true (l ∷ ls)) v d
    by true h rest = rw (variable-made_true l, h) refl
    by false h rest = rw (variable-made_true l, h) (trues-filter l (distinct ls) v d h ∙ rest)

maps-filter : (m : Literal × Literal) (ms : List (Literal × Literal)) (v : ℕ) (d : Image) → (variable m.0 == v) ≡ false
    → image_or (map sent (filter (λ n. not (same m.0 n.0)) ms)) v d ≡ image_or (map sent ms) v d
unfolding image_or
maps-filter m [] v d h = refl
maps-filter m (n ∷ ns) v d h = grind (arith, nat_tests, maps-filter m ns v d h, same_tells m.0 n.0, variable-sent n)

maps-first : (ms : List (Literal × Literal)) (v : ℕ) (d : Image) → image_or (map sent (first_maps ms)) v d ≡ image_or (map sent ms) v d
unfolding image_or
maps-first [] v d = refl
maps-first (m ∷ ms) v d = by (variable m.0 == v) refl (maps-first ms v d)
  where
    by : (b : Bool) → (variable m.0 == v) ≡ b → image_or (map sent (first_maps ms)) v d ≡ image_or (map sent ms) v d
        → image_or (map sent (first_maps (m ∷ ms))) v d ≡ image_or (map sent (m ∷ ms)) v d
    by true h rest = rw (variable-sent m, h) refl
    by false h rest = rw (variable-sent m, h) (maps-filter m (first_maps ms) v d h ∙ rest)

sent-from_variable : (m : Literal × Literal) → sent (from_variable m) ≡ sent m
sent-from_variable (plus v, w) = refl
sent-from_variable (minus v, w) = refl

pub map-sent-from_variable : (ms : List (Literal × Literal)) → map sent (map from_variable ms) ≡ map sent ms
map-sent-from_variable [] = refl
map-sent-from_variable (m ∷ ms) = rw (sent-from_variable m, map-sent-from_variable ms) refl

same_maps : (maps : List (Literal × Literal)) (v : ℕ) → image_of_variable (map sent (first_maps (map from_variable maps))) v ≡ image_of_variable (map sent maps) v
same_maps maps v =
    image-all (map sent (first_maps (map from_variable maps))) v ∙ maps-first (map from_variable maps) v (To (plus v))
    ∙ ap (λ ps. image_or ps v (To (plus v))) (map-sent-from_variable maps) ∙ sym (image-all (map sent maps) v)

same_others : (p : Literal) (trues : List Literal) (maps : List (Literal × Literal)) (v : ℕ) → (variable p == v) ≡ false
    → image_of_variable (map made_true (filter (λ l. not (same p l)) (distinct trues)) ++ map sent (first_maps (map from_variable maps))) v
    ≡ image_of_variable (map made_true trues ++ map sent maps) v
same_others p trues maps v h =
    image-append (map made_true (filter (λ l. not (same p l)) (distinct trues))) (map sent (first_maps (map from_variable maps))) v
    ∙ ap (image_or (map made_true (filter (λ l. not (same p l)) (distinct trues))) v) (same_maps maps v)
    ∙ trues-filter p (distinct trues) v (image_of_variable (map sent maps) v) h
    ∙ trues-distinct trues v (image_of_variable (map sent maps) v)
    ∙ sym (image-append (map made_true trues) (map sent maps) v)

-- what is kept of the parts gives the same images
pub image-witness_by : (p : Literal) (trues : List Literal) (maps : List (Literal × Literal)) (v : ℕ)
    → image_of_variable (substitution (witness_by p trues maps)) v ≡ image_of_variable (parts_of p trues maps) v
image-witness_by p trues maps v = by (variable p == v) refl
  where
    by : (b : Bool) → (variable p == v) ≡ b → image_of_variable (substitution (witness_by p trues maps)) v ≡ image_of_variable (parts_of p trues maps) v
    by true h = rw (variable-made_true p, h) refl
    by false h = rw (variable-made_true p, h) (same_others p trues maps v h)

-- where the variables differ, all parts are kept
abbrev pub AllDiffer : List ℕ → Type 0
AllDiffer [] = Unit {0}
AllDiffer (v ∷ vs) = (holds_number v vs ≡ false) × AllDiffer vs

holds_number-append : (v : ℕ) (xs ys : List ℕ) → holds_number v (xs ++ ys) ≡ (holds_number v xs || holds_number v ys)
holds_number-append v [] ys = refl
holds_number-append v (x ∷ xs) ys = grind (arith, holds_number-append v xs ys)

AllDiffer-left : (xs ys : List ℕ) → AllDiffer (xs ++ ys) → AllDiffer xs
AllDiffer-left [] ys h = tt
AllDiffer-left (x ∷ xs) ys h = (grind (arith, holds_number-append x xs ys, h.0), AllDiffer-left xs ys h.1)

AllDiffer-right : (xs ys : List ℕ) → AllDiffer (xs ++ ys) → AllDiffer ys
AllDiffer-right [] ys h = h
AllDiffer-right (x ∷ xs) ys h = AllDiffer-right xs ys h.1

lacks_variable : (l : Literal) (ls : List Literal) → holds_number (variable l) (map variable ls) ≡ false → has l ls ≡ false
lacks_variable l [] h = refl
lacks_variable l (k ∷ ks) h = grind (arith, nat_tests, lacks_variable l ks, same_tells k l)

pub filter_absent : (l : Literal) (ks : List Literal) → has l ks ≡ false → filter (λ k. not (same l k)) ks ≡ ks
filter_absent l [] h = refl
filter_absent l (k ∷ ks) h = grind (arith, filter_absent l ks, same_tells l k, same_tells k l)

pub distinct_same : (ls : List Literal) → NoRepeats ls → distinct ls ≡ ls
distinct_same [] n = refl
distinct_same (l ∷ ls) n = ap (λ x. l ∷ x) (ap (filter (λ k. not (same l k))) (distinct_same ls n.1) ∙ filter_absent l ls n.0)

differing_literals : (ls : List Literal) → AllDiffer (map variable ls) → NoRepeats ls
differing_literals [] h = tt
differing_literals (l ∷ ls) h = (lacks_variable l ls h.0, differing_literals ls h.1)

differing_unclashed : (p : ℕ × Image) (ps : List (ℕ × Image)) → holds_number p.0 (map (λ q. q.0) ps) ≡ false → clashes p ps ≡ false
differing_unclashed p [] h = refl
differing_unclashed p (q ∷ qs) h = grind (arith, nat_tests, differing_unclashed p qs)

pub twice_of-differing : (ps : List (ℕ × Image)) → AllDiffer (map (λ p. p.0) ps) → twice_of ps ≡ None
twice_of-differing [] h = refl
twice_of-differing (p ∷ ps) h = rw (differing_unclashed p ps h.0) (twice_of-differing ps h.1)

variables-trues : (ls : List Literal) → map (λ p. p.0) (map made_true ls) ≡ map variable ls
variables-trues [] = refl
variables-trues (l ∷ ls) = rw (variable-made_true l, variables-trues ls) refl

variables-maps : (ms : List (Literal × Literal)) → map (λ p. p.0) (map sent ms) ≡ map (λ m. variable m.0) ms
variables-maps [] = refl
variables-maps (m ∷ ms) = rw (variable-sent m, variables-maps ms) refl

variables-parts_of : (p : Literal) (trues : List Literal) (maps : List (Literal × Literal))
    → map (λ q. q.0) (parts_of p trues maps) ≡ variable p ∷ (map variable trues ++ map (λ m. variable m.0) maps)
variables-parts_of p trues maps =
    rw (variable-made_true p, map-append (λ (q : ℕ × Image). q.0) (map made_true trues) (map sent maps), variables-trues trues, variables-maps maps) refl

variable-from_variable : (m : Literal × Literal) → variable (from_variable m).0 ≡ variable m.0
variable-from_variable (plus v, w) = refl
variable-from_variable (minus v, w) = refl

variables-from_variable : (ms : List (Literal × Literal)) → map (λ m. variable m.0) (map from_variable ms) ≡ map (λ m. variable m.0) ms
variables-from_variable [] = refl
variables-from_variable (m ∷ ms) = rw (variable-from_variable m, variables-from_variable ms) refl

filter_maps_absent : (m : Literal × Literal) (ns : List (Literal × Literal)) → holds_number (variable m.0) (map (λ n. variable n.0) ns) ≡ false
    → filter (λ n. not (same m.0 n.0)) ns ≡ ns
filter_maps_absent m [] h = refl
filter_maps_absent m (n ∷ ns) h = grind (arith, nat_tests, filter_maps_absent m ns, same_tells m.0 n.0)

first_maps_same : (ms : List (Literal × Literal)) → AllDiffer (map (λ m. variable m.0) ms) → first_maps ms ≡ ms
first_maps_same [] h = refl
first_maps_same (m ∷ ms) h = ap (λ x. m ∷ x) (ap (filter (λ n. not (same m.0 n.0))) (first_maps_same ms h.1) ∙ filter_maps_absent m ms h.0)

pub witness_by-differing : (p : Literal) (trues : List Literal) (maps : List (Literal × Literal)) → AllDiffer (map (λ q. q.0) (parts_of p trues maps))
    → witness_by p trues maps ≡ witness_with p trues (map from_variable maps)
witness_by-differing p trues maps h =
    let all : AllDiffer (variable p ∷ (map variable trues ++ map (λ m. variable m.0) maps)) = subst AllDiffer (variables-parts_of p trues maps) h in
    let these = AllDiffer-left (map variable trues) (map (λ m. variable m.0) maps) all.1 in
    let those : AllDiffer (map (λ m. variable m.0) (map from_variable maps)) =
    rw (variables-from_variable maps) (AllDiffer-right (map variable trues) (map (λ m. variable m.0) maps) all.1) in
    let other : holds_number (variable p) (map variable trues) ≡ false =
    grind (arith, holds_number-append (variable p) (map variable trues) (map (λ m. variable m.0) maps), all.0) in
    rw (distinct_same trues (differing_literals trues these), filter_absent p trues (lacks_variable p trues other), first_maps_same (map from_variable maps) those) refl

-- numbers that are sorted strictly differ, in any order
pub differing-distinct : (vs : List ℕ) → IsDistinct (eq_by_cmp nat_cmp) vs → AllDiffer vs
differing-distinct [] h = tt
differing-distinct (v ∷ vs) h =
    (absent vs (IsDistinct-head (eq_by_cmp nat_cmp) v vs h), differing-distinct vs (IsDistinct-tail (eq_by_cmp nat_cmp) v vs h))
  where
    absent : (ws : List ℕ) → AllByRecursion (λ w. eq_by_cmp nat_cmp v w ≡ false) ws → holds_number v ws ≡ false
    absent [] a = refl
    absent (w ∷ ws) a = grind (arith, nat_tests, absent ws a.1, a.0)

increasing : (ys : List (ℕ × Image)) → AllAdjacentBelow (λ p q. p.0 < q.0) ys (length ys) → IsStrictlyIncreasing (map (λ p. p.0) ys)
increasing ys rises k l =
    let d : ℕ × Image = (0, Yes) in
    let here : k < length ys = omega (arith, length-map ys (λ (p : ℕ × Image). p.0)) in
    let there : k + 1 < length ys = omega (arith, length-map ys (λ (p : ℕ × Image). p.0)) in
    rw (get_or-map (λ (p : ℕ × Image). p.0) ys k d 0 here, get_or-map (λ (p : ℕ × Image). p.0) ys (k + 1) d 0 there) (rises k d there)

pub differing-sorted : (xs ys : List (ℕ × Image)) → IsPermutation xs ys → AllAdjacentBelow (λ p q. p.0 < q.0) ys (length ys) → AllDiffer (map (λ p. p.0) xs)
differing-sorted xs ys moved rises =
    let sorted = IsDistinct-from_sorted nat_cmp (map (λ p. p.0) ys) (sorted_from_strictly_increasing (map (λ p. p.0) ys) (increasing ys rises)) in
    differing-distinct (map (λ p. p.0) xs)
    (IsDistinct-IsPermutation (eq_by_cmp nat_cmp) (λ x y. grind (arith, nat_tests)) (map (λ p. p.0) ys) (map (λ p. p.0) xs)
    (IsPermutation-sym (map (λ p. p.0) xs) (map (λ p. p.0) ys) (IsPermutation-map (λ (p : ℕ × Image). p.0) xs ys moved)) sorted)

-- parts without a variable that gets two images, in the order of their variables
pub table-of : (s : Substitution) (xs ys : List (ℕ × Image)) → IsPermutation xs ys → IsNonDecreasingBy (λ p. p.0) ys → twice_of xs ≡ None
    → ((v : ℕ) → image_of_variable s v ≡ image_of_variable xs v) → IsTableOf s ys
table-of s xs ys moved sorted once same_images = record {
  sorted = sorted;
  told = λ k d l. same_images (get_or ys k d).0 ∙ All-permutation (λ p. image_of_variable xs p.0 ≡ p.1) xs ys moved (parts_tell xs once) k d l;
  others = λ v h. same_images v ∙ image-none xs v (All-permutation (λ p. p.0 ≢ v) ys xs (IsPermutation-sym xs ys moved) h);
}

-- one more map: left out where its variable has one, else put at the end
has-filter_maps : (k l : Literal) (ns : List (Literal × Literal)) → same k l ≡ false
    → has l (map (λ m. m.0) (filter (λ n. not (same k n.0)) ns)) ≡ has l (map (λ m. m.0) ns)
has-filter_maps k l [] d = refl
has-filter_maps k l (n ∷ ns) d = grind (arith, has-filter_maps k l ns d, same_tells k n.0, same_tells n.0 l)

pub first_maps_push : (xs : List (Literal × Literal)) (m : Literal × Literal)
    → first_maps (xs ++ m ∷ []) ≡ cond (has m.0 (map (λ n. n.0) (first_maps xs))) (first_maps xs) (first_maps xs ++ m ∷ [])
first_maps_push [] m = refl
first_maps_push (x ∷ xs) m =
    rw (first_maps_push xs m) (grind (
      arith,
      same_tells x.0 m.0,
      has-filter_maps x.0 m.0 (first_maps xs),
      filter-append (λ n. not (same x.0 n.0)) (first_maps xs) (m ∷ []),
      append-nil (filter (λ n. not (same x.0 n.0)) (first_maps xs)),
    ))

-- one more map of the loop
pub maps-old : (xs kept kept' : List (Literal × Literal)) (m : Literal × Literal) → kept ≡ first_maps xs
    → has m.0 (map (λ n. n.0) kept) ≡ true → kept' ≡ kept → kept' ≡ first_maps (xs ++ m ∷ [])
maps-old xs kept kept' m e h same = grind (arith, first_maps_push xs m)

pub maps-new : (xs kept kept' : List (Literal × Literal)) (m : Literal × Literal) → kept ≡ first_maps xs
    → has m.0 (map (λ n. n.0) kept) ≡ false → kept' ≡ kept ++ m ∷ [] → kept' ≡ first_maps (xs ++ m ∷ [])
maps-new xs kept kept' m e h same = grind (arith, first_maps_push xs m)

pub first-from_variable : (m : Literal × Literal) → (from_variable m).0 ≡ plus (variable m.0)
first-from_variable (plus v, w) = refl
first-from_variable (minus v, w) = refl

same-plus : (v q : ℕ) → is_at (nat_cmp v) q ≡ same (plus v) (plus q)
same-plus v q = grind (arith, nat_tests, same_tells (plus v) (plus q))

pub variables-old : (seen seen' : ℕ → Bool) (kept : List (Literal × Literal)) (v : ℕ) → AreVariablesOf seen kept → seen v ≡ true
    → ((q : ℕ) → seen' q ≡ cond (is_at (nat_cmp v) q) true (seen q)) → AreVariablesOf seen' kept
variables-old seen seen' kept v are h u q = u q ∙ rw (same-plus v q, are q) (grind (arith, same_tells (plus v) (plus q), are v))

pub variables-new : (seen seen' : ℕ → Bool) (kept : List (Literal × Literal)) (v : ℕ) (m : Literal × Literal) → AreVariablesOf seen kept → m.0 ≡ plus v
    → ((q : ℕ) → seen' q ≡ cond (is_at (nat_cmp v) q) true (seen q)) → AreVariablesOf seen' (kept ++ m ∷ [])
variables-new seen seen' kept v m are e u q =
    u q ∙ rw (same-plus v q, are q, map-append (λ (n : Literal × Literal). n.0) kept (m ∷ []), e)
    (grind (arith, same_tells (plus v) (plus q), has_append (plus q) (map (λ n. n.0) kept) (plus v ∷ [])))
