-- The lists of numbers by their last uses are what is placed.
use Rattle.std.proofs.Common.{◌≡◌, ℕ, suc, zero, ◌+◌, ◌-◌, ◌<◌, ◌≤◌, ◌==◌, Bool, true, false, not, ◌&&◌, ◌||◌, List, [], ◌∷◌, refl, sym, ◌∙◌, ap, subst, arith, length, get_or, take, drop, length-drop}
use Rattle.std.specs.Prelude.{filter, map, Option, Some, None, slice_range}
use Rattle.std.proofs.lemmas.List.{length-take-le}
use Rattle.std.proofs.lemmas.Bool.Decides.{nat_tests}
use Rattle.sr_base.specs.Literal.{Literal}
use Rattle.sr_model.specs.Assignment.{holds_number}
use Rattle.sr_model.specs.Chain.{Numbered}
use Rattle.sr_model.specs.Meeting.{Step}
use Rattle.sr_model.specs.Judging.{numbered_from}
use Rattle.sr_trimming.specs.Citing.{cites, is_cited, cited_of}
use Rattle.sr_trimming.specs.Placing.{numbers, last_cited, uncited}
use Rattle.sr_trimming.specs.Loading.{Done, at_start}
use Rattle.sr_trimming.specs.From.{Place, place_of}
use Rattle.sr_trimming.specs.Backward.{AreLinked}
use Rattle.sr_trimming.proofs.Placed.{known_after, RiseTo, rise_push, rise_formula, NumbersRise}
use Rattle.sr_table.proofs.Paging.{by_test}
use Rattle.sr_steps.specs.Kept.{Kept, step_at, step_of}
use Rattle.sr_placing.specs.Uses.{kept_cites, some_cites, last_use}
use Rattle.sr_placing.specs.Marks.{numbers_where}
use Rattle.sr_placing.specs.Placing.{PlacingValue, drops_from, placing_of, IsPartedBy}
use Rattle.sr_placing.proofs.Knowing.{CiteKnownFrom}
use Rattle.sr_placing.proofs.Ranging.{up_from, up_rises, up_holds, numbered_up, filter_same, numbers_filter, above_rising, picked_same, where_told}

-- the step of what is kept
at_id : (o : Option Place) (k : Kept) → (step_at o k).id ≡ k.id
at_id None k = refl
at_id (Some p) k = refl

pub id_is : (f : List (List Literal)) (ds : List Done) (k : Kept) → (step_of f ds k).id ≡ k.id
id_is f ds k = at_id (place_of (at_start f) ds k.id) k

at_cites : (n : ℕ) (o : Option Place) (k : Kept) → cites n (step_at o k) ≡ kept_cites n k
at_cites n None k = refl
at_cites n (Some p) k = refl

pub cites_is : (f : List (List Literal)) (ds : List Done) (n : ℕ) (k : Kept) → cites n (step_of f ds k) ≡ kept_cites n k
cites_is f ds n k = at_cites n (place_of (at_start f) ds k.id) k

pub cited_is : (f : List (List Literal)) (ds : List Done) (n : ℕ) (ks : List Kept) → is_cited n (map (step_of f ds) ks) ≡ some_cites n ks
cited_is f ds n [] = refl
cited_is f ds n (k ∷ ks) = ap (λ b. b || is_cited n (map (step_of f ds) ks)) (cites_is f ds n k) ∙ ap (λ b. kept_cites n k || b) (cited_is f ds n ks)

-- last uses
pub unused : (before n : ℕ) (ks : List Kept) → some_cites n ks ≡ false → last_use before n ks ≡ 0
unused before n [] h = refl
unused before n (k ∷ ks) h =
    let none : some_cites n ks ≡ false = grind arith in
    let own : kept_cites n k ≡ false = grind arith in
    rw (none, own) refl

pub used : (before n : ℕ) (ks : List Kept) → some_cites n ks ≡ true → before < last_use before n ks
used before n [] h = absurd cc
used before n (k ∷ ks) h = by_test (some_cites n ks)
    (λ t. rw t (omega (arith, used (before + 1) n ks t)))
    (λ f. let own : kept_cites n k ≡ true = grind arith in rw (f, own) (omega arith))

pub use_within : (before n : ℕ) (ks : List Kept) → last_use before n ks ≤ before + length ks
use_within before n [] = omega arith
use_within before n (k ∷ ks) = by_test (some_cites n ks)
    (λ t. rw t (omega (arith, use_within (before + 1) n ks)))
    (λ f. rw f (by_test (kept_cites n k) (λ t. rw t (omega arith)) (λ g. rw g (omega arith))))

none_is : (n : ℕ) (ks : List Kept) → (last_use 0 n ks == 0) ≡ not (some_cites n ks)
none_is n ks = by_test (some_cites n ks)
    (λ t. let u : 0 < last_use 0 n ks = used 0 n ks t in grind (arith, nat_tests))
    (λ f. let u : last_use 0 n ks ≡ 0 = unused 0 n ks f in grind (arith, nat_tests))

-- the step at hand is the last one
here : (before n : ℕ) (k : Kept) (ks : List Kept) → (last_use before n (k ∷ ks) == before + 1) ≡ (kept_cites n k && not (some_cites n ks))
here before n k ks = by_test (some_cites n ks)
    (λ t. let u : before + 1 < last_use (before + 1) n ks = used (before + 1) n ks t in rw t (grind (arith, nat_tests)))
    (λ f. rw f (by_test (kept_cites n k) (λ t. rw t (grind (arith, nat_tests))) (λ g. rw g (grind (arith, nat_tests)))))

-- or a later one is
later : (before n i : ℕ) (k : Kept) (ks : List Kept) → (last_use before n (k ∷ ks) == before + suc i + 1) ≡ (last_use (before + 1) n ks == before + 1 + i + 1)
later before n i k ks = by_test (some_cites n ks)
    (λ t. rw t (ap (λ m. last_use (before + 1) n ks == m) (omega arith)))
    (λ f. let u : last_use (before + 1) n ks ≡ 0 = unused (before + 1) n ks f in
    rw (f, u) (by_test (kept_cites n k) (λ t. rw t (grind (arith, nat_tests))) (λ g. rw g (grind (arith, nat_tests)))))

-- known numbers rise, up to the last one
known_rise : (n : ℕ) (ps : Numbered) (last : ℕ) → RiseTo n ps last → NumbersRise n (numbers ps)
known_rise n [] last r = tt
known_rise n (p ∷ ps) last r = (r.0, known_rise p.0 ps last r.1)

known_within : (n : ℕ) (ps : Numbered) (last k : ℕ) → RiseTo n ps last → holds_number k (numbers ps) ≡ true → k ≤ last
known_within n [] last k r h = absurd cc
known_within n (p ∷ ps) last k r h = by_test (p.0 == k)
    (λ e. let is : p.0 ≡ k = grind (arith, nat_tests) in omega (arith, ends p.0 ps r.1))
    (λ e. known_within p.0 ps last k r.1 (grind arith))
  where
    ends : (m : ℕ) (qs : Numbered) → RiseTo m qs last → m ≤ last
    ends m [] s = s
    ends m (q ∷ qs) s = omega (arith, s.0, ends q.0 qs s.1)

-- the numbers of linked steps rise
pub first_linked : (last : ℕ) (s : Step) (ss : List Step) → AreLinked last (s ∷ ss) → last < s.id
first_linked last s [] l = l.0
first_linked last s (t ∷ ss) l = l.0

-- what one step is the last to cite
one_list : (f : List (List Literal)) (ds : List Done) (known : Numbered) (last before range : ℕ) (k : Kept) (ks : List Kept) → RiseTo 0 known last → last ≤ range
    → ((n : ℕ) → cites n (step_of f ds k) ≡ true → holds_number n (numbers known) ≡ true)
    → filter (λ m. last_use before m (k ∷ ks) == before + 1) (up_from 1 range) ≡ last_cited known (step_of f ds k) (map (step_of f ds) ks)
one_list f ds known last before range k ks r within cited =
    filter_same (λ m. last_use before m (k ∷ ks) == before + 1) picks (up_from 1 range) (λ n. here before n k ks ∙ sym (same n))
    ∙ picked_same picks 0 (up_from 1 range) (numbers known) (up_rises 0 range) (known_rise 0 known last r) (λ n p. both n p)
    ∙ sym (numbers_filter picks known)
  where
    picks : ℕ → Bool
    picks n = cites n (step_of f ds k) && not (is_cited n (map (step_of f ds) ks))

    same : (n : ℕ) → picks n ≡ (kept_cites n k && not (some_cites n ks))
    same n = ap (λ b. b && not (is_cited n (map (step_of f ds) ks))) (cites_is f ds n k) ∙ ap (λ b. kept_cites n k && not b) (cited_is f ds n ks)

    both : (n : ℕ) → picks n ≡ true → holds_number n (up_from 1 range) ≡ holds_number n (numbers known)
    both n p =
        let there : holds_number n (numbers known) ≡ true = cited n (grind arith) in
        let low : 0 < n = above_rising 0 n (numbers known) (known_rise 0 known last r) there in
        let high : n ≤ last = known_within 0 known last n r there in
        up_holds 1 range n (omega arith) (omega arith) ∙ sym there

-- the number of the last step
abbrev pub last_id : ℕ → List Kept → ℕ
last_id n [] = n
last_id n (k ∷ ks) = last_id k.id ks

pub linked_end : (f : List (List Literal)) (ds : List Done) (last : ℕ) (ks : List Kept) → AreLinked last (map (step_of f ds) ks) → last + length ks ≤ last_id last ks
linked_end f ds last [] l = absurd l
linked_end f ds last (k ∷ []) l = let is = id_is f ds k in omega (arith, l.0)
linked_end f ds last (k ∷ j ∷ ks) l =
    let is = id_is f ds k in
    let more : k.id + length (j ∷ ks) ≤ last_id k.id (j ∷ ks) = linked_end f ds k.id (j ∷ ks) (subst (λ n. AreLinked n (map (step_of f ds) (j ∷ ks))) is l.3) in
    omega (arith, l.0)

pub last_at : (n : ℕ) (ks : List Kept) (d : Kept) → 0 < length ks → last_id n ks ≡ (get_or ks (length ks - 1) d).id
last_at n [] d h = absurd (omega arith)
last_at n (k ∷ []) d h = refl
last_at n (k ∷ j ∷ ks) d h =
    let next : suc (length (j ∷ ks) - 1) ≡ length (k ∷ j ∷ ks) - 1 = omega arith in
    last_at k.id (j ∷ ks) d (omega arith) ∙ ap (λ m. (get_or (k ∷ j ∷ ks) m d).id) next

-- the lists of all steps
all_lists : (f : List (List Literal)) (ds : List Done) (known : Numbered) (last before range : ℕ) (ks : List Kept) (lists : List (List ℕ)) → RiseTo 0 known last → AreLinked last (map (step_of f ds) ks)
    → CiteKnownFrom known (map (step_of f ds) ks) → last_id last ks ≤ range + 1 → length lists ≡ length ks
    → ((i : ℕ) → i < length ks → get_or lists i [] ≡ filter (λ m. last_use before m ks == before + i + 1) (up_from 1 range)) → lists ≡ drops_from known (map (step_of f ds) ks)
all_lists f ds known last before range [] lists r l c e n told = absurd l
all_lists f ds known last before range (k ∷ ks) [] r l c e n told = absurd (omega arith)
all_lists f ds known last before range (k ∷ []) (x ∷ xs) r l c e n told =
    let is = id_is f ds k in
    let none : xs ≡ [] = no_more xs (omega arith) in
    let first : x ≡ last_cited known (step_of f ds k) [] = told 0 (omega arith) ∙ ap (λ m. filter (λ n. last_use before n (k ∷ []) == m) (up_from 1 range)) (omega arith) ∙ one_list f ds known last before range k [] r (omega (arith, l.0)) c.0 in
    rw (first, none) refl
  where
    no_more : (ys : List (List ℕ)) → length ys ≡ 0 → ys ≡ []
    no_more [] e = refl
    no_more (y ∷ ys) e = absurd (omega arith)
all_lists f ds known last before range (k ∷ j ∷ ks) (x ∷ xs) r l c e n told =
    let is = id_is f ds k in
    let linked : AreLinked k.id (map (step_of f ds) (j ∷ ks)) = subst (λ m. AreLinked m (map (step_of f ds) (j ∷ ks))) is l.3 in
    let end : k.id + length (j ∷ ks) ≤ last_id k.id (j ∷ ks) = linked_end f ds k.id (j ∷ ks) linked in
    let low : last ≤ range = omega (arith, l.0) in
    let first : x ≡ last_cited known (step_of f ds k) (map (step_of f ds) (j ∷ ks)) =
    told 0 (omega arith) ∙ ap (λ m. filter (λ n. last_use before n (k ∷ j ∷ ks) == m) (up_from 1 range)) (omega arith) ∙ one_list f ds known last before range k (j ∷ ks) r low c.0 in
    let rise : RiseTo 0 (known_after known (step_of f ds k)) k.id = subst (λ m. RiseTo 0 (known_after known (step_of f ds k)) m) is (rise_push 0 known last (step_of f ds k).id (step_of f ds k).clause r l.0) in
    let more : xs ≡ drops_from (known_after known (step_of f ds k)) (map (step_of f ds) (j ∷ ks)) =
    all_lists f ds (known_after known (step_of f ds k)) k.id (before + 1) range (j ∷ ks) xs rise linked c.1 e (omega arith)
    (λ i h. told (suc i) (omega arith) ∙ filter_same (λ m. last_use before m (k ∷ j ∷ ks) == before + suc i + 1) (λ m. last_use (before + 1) m (j ∷ ks) == before + 1 + i + 1) (up_from 1 range) (λ m. later before m i k (j ∷ ks))) in
    rw (first, more) refl

-- the marks of the numbers from 1 on
marks_from : (marks : List ℕ) (i : ℕ) → get_or (drop 1 marks) i 0 ≡ get_or marks (1 + i) 0
marks_from [] zero = refl
marks_from [] (suc i) = refl
marks_from (x ∷ xs) i = let next : suc i ≡ 1 + i = omega arith in ap (λ n. get_or (x ∷ xs) n 0) next

marks_first : (n : ℕ) (marks : List ℕ) (i : ℕ) → i < n → get_or (take n marks) i 0 ≡ get_or marks i 0
marks_first zero marks i h = absurd (omega arith)
marks_first (suc n) [] i h = refl
marks_first (suc n) (x ∷ xs) zero h = refl
marks_first (suc n) (x ∷ xs) (suc i) h = marks_first n xs i (omega arith)

formula_part : (f : List (List Literal)) (marks : List ℕ) (ks : List Kept) (t : ℕ → Bool) → ((n : ℕ) → get_or marks n 0 ≡ last_use 0 n ks) → length f < length marks
    → numbers_where t 1 (slice_range marks 1 (length f + 1)) ≡ filter (λ n. t (last_use 0 n ks)) (numbers (numbered_from 1 f))
formula_part f marks ks t told within =
    let count : length f + 1 - 1 ≡ length f = omega arith in
    let long : length (take (length f) (drop 1 marks)) ≡ length f = length-take-le (length f) (drop 1 marks) (omega (arith, length-drop 1 marks)) in
    let is : numbers_where t 1 (take (length f) (drop 1 marks)) ≡ filter (λ n. t (last_use 0 n ks)) (up_from 1 (length (take (length f) (drop 1 marks)))) =
    where_told t (λ n. last_use 0 n ks) 1 (take (length f) (drop 1 marks)) (λ i h. marks_first (length f) (drop 1 marks) i (omega arith) ∙ marks_from marks i ∙ told (1 + i)) in
    ap (λ n. numbers_where t 1 (take n (drop 1 marks))) count ∙ is ∙ ap (λ n. filter (λ m. t (last_use 0 m ks)) (up_from 1 n)) long ∙ ap (filter (λ n. t (last_use 0 n ks))) (sym (numbered_up 1 f))

same_parts : (p q : PlacingValue) → p.uncited ≡ q.uncited → p.core ≡ q.core → p.drops ≡ q.drops → p ≡ q
same_parts p q a b c = ap (λ x. record p { uncited = x }) a ∙ ap (λ x. record { uncited = q.uncited; core = x; drops = p.drops }) b ∙ ap (λ x. record { uncited = q.uncited; core = q.core; drops = x }) c

pub all_placed : (f : List (List Literal)) (ds : List Done) (ks : List Kept) (marks : List ℕ) (p : PlacingValue) → AreLinked (length f) (map (step_of f ds) ks)
    → CiteKnownFrom (numbered_from 1 f) (map (step_of f ds) ks) → ((n : ℕ) → get_or marks n 0 ≡ last_use 0 n ks) → length marks ≡ last_id 0 ks → IsPartedBy marks (length f) (length ks) p
    → p ≡ placing_of f (map (step_of f ds) ks)
all_placed f ds ks marks p l c told long parted =
    let end : length f < last_id 0 ks = above ks l in
    let not_cited : p.uncited ≡ uncited f (map (step_of f ds) ks) =
    parted.uncited ∙ formula_part f marks ks (λ x. x == 0) told (omega arith)
    ∙ filter_same (λ n. last_use 0 n ks == 0) (λ n. not (is_cited n (map (step_of f ds) ks))) (numbers (numbered_from 1 f)) (λ n. none_is n ks ∙ ap not (sym (cited_is f ds n ks)))
    ∙ sym (numbers_filter (λ n. not (is_cited n (map (step_of f ds) ks))) (numbered_from 1 f)) in
    let cited : p.core ≡ numbers (cited_of (numbered_from 1 f) (map (step_of f ds) ks)) =
    parted.core ∙ formula_part f marks ks (λ x. not (x == 0)) told (omega arith)
    ∙ filter_same (λ n. not (last_use 0 n ks == 0)) (λ n. is_cited n (map (step_of f ds) ks)) (numbers (numbered_from 1 f)) (λ n. ap not (none_is n ks) ∙ twice (some_cites n ks) ∙ sym (cited_is f ds n ks))
    ∙ sym (numbers_filter (λ n. is_cited n (map (step_of f ds) ks)) (numbered_from 1 f)) in
    let lists : p.drops ≡ drops_from (numbered_from 1 f) (map (step_of f ds) ks) =
    all_lists f ds (numbered_from 1 f) (length f) 0 (length (drop 1 marks)) ks p.drops (rise_formula f) l c (omega (arith, length-drop 1 marks, same_end (length f) ks l)) parted.count
    (λ i h. let same : i + 1 ≡ 0 + i + 1 = omega arith in
    parted.drops i h ∙ where_told (λ x. x == i + 1) (λ n. last_use 0 n ks) 1 (drop 1 marks) (λ m g. marks_from marks m ∙ told (1 + m))
    ∙ ap (λ j. filter (λ n. last_use 0 n ks == j) (up_from 1 (length (drop 1 marks)))) same) in
    same_parts p (placing_of f (map (step_of f ds) ks)) not_cited cited lists
  where
    twice : (b : Bool) → not (not b) ≡ b
    twice true = refl
    twice false = refl

    same_end : (n : ℕ) (js : List Kept) → AreLinked n (map (step_of f ds) js) → last_id n js ≡ last_id 0 js
    same_end n [] l = absurd l
    same_end n (j ∷ js) l = refl

    above : (js : List Kept) → AreLinked (length f) (map (step_of f ds) js) → length f < last_id 0 js
    above [] l = absurd l
    above (j ∷ js) l = omega (arith, linked_end f ds (length f) (j ∷ js) l)

-- each number that is cited is below that of the last step
pub cited_below_last : (f : List (List Literal)) (ds : List Done) (known : Numbered) (last : ℕ) (ks : List Kept) → RiseTo 0 known last → AreLinked last (map (step_of f ds) ks)
    → CiteKnownFrom known (map (step_of f ds) ks) → (n : ℕ) → some_cites n ks ≡ true → n < last_id last ks
cited_below_last f ds known last [] r l c n h = absurd l
cited_below_last f ds known last (k ∷ []) r l c n h =
    let is = id_is f ds k in
    let in_known : n ≤ last = known_within 0 known last n r (c.0 n (cites_is f ds n k ∙ grind arith)) in
    omega (arith, l.0)
cited_below_last f ds known last (k ∷ j ∷ ks) r l c n h =
    let is = id_is f ds k in
    let linked : AreLinked k.id (map (step_of f ds) (j ∷ ks)) = subst (λ m. AreLinked m (map (step_of f ds) (j ∷ ks))) is l.3 in
    let end : k.id + length (j ∷ ks) ≤ last_id k.id (j ∷ ks) = linked_end f ds k.id (j ∷ ks) linked in
    let rise : RiseTo 0 (known_after known (step_of f ds k)) k.id = subst (λ m. RiseTo 0 (known_after known (step_of f ds k)) m) is (rise_push 0 known last (step_of f ds k).id (step_of f ds k).clause r l.0) in
    by_test (some_cites n (j ∷ ks))
    (λ t. cited_below_last f ds (known_after known (step_of f ds k)) k.id (j ∷ ks) rise linked c.1 n t)
    (λ g. let own : kept_cites n k ≡ true = grind arith in
    let in_known : n ≤ last = known_within 0 known last n r (c.0 n (cites_is f ds n k ∙ own)) in omega (arith, l.0))

-- there is a step, and the number of the last one is above those of the formula and as great as the number of steps
pub linked_facts : (f : List (List Literal)) (ds : List Done) (ks : List Kept) → AreLinked (length f) (map (step_of f ds) ks) → (0 < length ks) × (length f < last_id 0 ks) × (length ks ≤ last_id 0 ks)
linked_facts f ds [] l = absurd l
linked_facts f ds (k ∷ ks) l = let end = linked_end f ds (length f) (k ∷ ks) l in (omega arith, omega arith, omega arith)

pub cited_low : (f : List (List Literal)) (ds : List Done) (ks : List Kept) → AreLinked (length f) (map (step_of f ds) ks) → CiteKnownFrom (numbered_from 1 f) (map (step_of f ds) ks)
    → (n : ℕ) → some_cites n ks ≡ true → n < last_id 0 ks
cited_low f ds [] l c n h = absurd l
cited_low f ds (k ∷ ks) l c n h = cited_below_last f ds (numbered_from 1 f) (length f) (k ∷ ks) (rise_formula f) l c n h

at_hints : (o : Option Place) (k : Kept) → ((step_at o k).prefix ≡ k.prefix) × ((step_at o k).groups ≡ k.groups)
at_hints None k = (refl, refl)
at_hints (Some p) k = (refl, refl)

pub hints_are : (f : List (List Literal)) (ds : List Done) (k : Kept) → ((step_of f ds k).prefix ≡ k.prefix) × ((step_of f ds k).groups ≡ k.groups)
hints_are f ds k = at_hints (place_of (at_start f) ds k.id) k
