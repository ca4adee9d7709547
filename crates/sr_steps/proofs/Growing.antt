-- How flat lists of steps grow.
use Rattle.std.proofs.Common.{◌≡◌, ℕ, ◌+◌, ◌-◌, ◌≤◌, ◌<◌, true, false, List, [], ◌∷◌, ◌++◌, length, get_or, set, take, drop, map, reverse, refl, sym, ap, subst, ◌∙◌, arith, length-append, length-drop, length-set}
use Rattle.std.specs.Prelude.{slice_range, All}
use Rattle.std.specs.List.Sorted.{IsPermutation, IsNonDecreasingBy}
use Rattle.std.proofs.lemmas.List.{take_all, take_more, take_more_set, take-append-drop, drop-append-le, drop-take, take-take, map_push, length-map}
use Rattle.std.proofs.lemmas.List.Elements.{All-push}
use Rattle.std.proofs.lemmas.List.Sorted.{All-permutation, IsPermutation-append_right, length_permutation}
use Rattle.sr_model.specs.Meeting.{Group}
use Rattle.sr_trimming.specs.CoreFirst.{rising}
use Rattle.sr_steps.specs.declared.place.GroupPlace.{GroupPlace}
use Rattle.sr_steps.specs.declared.table.StepPlace.{StepPlace}
use Rattle.sr_steps.specs.Kept.{Kept}
use Rattle.sr_steps.specs.Groups.{group_of, IsWithin, Begins}
use Rattle.sr_steps.specs.Places.{kept_of, steps_in, groups_end, LiesAt, LieFrom, AreLaid}
use Rattle.sr_steps.specs.Adding.{takes_groups, first_groups, with_groups, with_group, AreOfDistinct}
use Rattle.sr_steps.proofs.Lying.{range-append, range-end, range-map, lie-split, lie-push, lie-more, all-kept-same, groups-more, within-more, view-push}
use Rattle.sr_steps.proofs.Sorting.{sorted_is_rising}

-- more hints at the end change nothing
pub hints-laid : (hints more : List ℕ) (groups : List GroupPlace) (steps : List StepPlace) → AreLaid hints groups steps → AreLaid (hints ++ more) groups steps
hints-laid hints more groups steps a =
    let le : length hints ≤ length (hints ++ more) = omega (arith, length-append hints more) in
    record { within = within-more hints more groups a.within; apart = lie-more (length hints) (length (hints ++ more)) 0 steps (length groups) le a.apart }

all-more : (hints more : List ℕ) (groups : List GroupPlace) (steps : List StepPlace) → AreLaid hints groups steps
    → map (kept_of (hints ++ more) (map (group_of (hints ++ more)) groups)) steps ≡ map (kept_of hints (map (group_of hints) groups)) steps
all-more hints more groups steps a =
    let same : map (group_of (hints ++ more)) groups ≡ map (group_of hints) groups = groups-more hints more groups a.within in
    all-kept-same hints (hints ++ more) (map (group_of hints) groups) (map (group_of (hints ++ more)) groups) 0 (length groups) steps
    (λ i j h g. range-append hints more i j h g) (λ i j h g. ap (λ gs. slice_range gs i j) same) a.apart

pub hints-view : (hints more : List ℕ) (groups : List GroupPlace) (steps : List StepPlace) → AreLaid hints groups steps → steps_in (hints ++ more) groups steps ≡ steps_in hints groups steps
hints-view hints more groups steps a = ap reverse (all-more hints more groups steps a)

-- the same of a list that begins with another
longer : (hints all : List ℕ) → Begins hints all → hints ++ drop (length hints) all ≡ all
longer hints all b = ap (λ zs. zs ++ drop (length hints) all) (sym b) ∙ take-append-drop (length hints) all

pub begun-laid : (hints all : List ℕ) (groups : List GroupPlace) (steps : List StepPlace) → Begins hints all → AreLaid hints groups steps → AreLaid all groups steps
begun-laid hints all groups steps b a = subst (λ hs. AreLaid hs groups steps) (longer hints all b) (hints-laid hints (drop (length hints) all) groups steps a)

pub begun-view : (hints all : List ℕ) (groups : List GroupPlace) (steps : List StepPlace) → Begins hints all → AreLaid hints groups steps → steps_in all groups steps ≡ steps_in hints groups steps
begun-view hints all groups steps b a = ap (λ hs. steps_in hs groups steps) (sym (longer hints all b)) ∙ hints-view hints (drop (length hints) all) groups steps a

-- a step without a witness
abbrev pub plain_place : ℕ → ℕ → ℕ → StepPlace
plain_place id start end = record { id = id; by_witness = false; start = start; end = end }

pub push-laid : (hints more : List ℕ) (groups : List GroupPlace) (steps : List StepPlace) (id start end : ℕ) → start ≡ length hints → end ≡ length (hints ++ more) → AreLaid hints groups steps
    → AreLaid (hints ++ more) groups (steps ++ plain_place id start end ∷ [])
push-laid hints more groups steps id start end e f a =
    let b = hints-laid hints more groups steps a in
    record { within = b.within; apart = lie-push (length (hints ++ more)) 0 steps (plain_place id start end) (length groups) (length groups) b.apart (omega (arith, length-append hints more), omega arith) refl }

pub push-view : (hints more : List ℕ) (groups : List GroupPlace) (steps : List StepPlace) (id start end : ℕ) → start ≡ length hints → end ≡ length (hints ++ more) → AreLaid hints groups steps
    → (let k : Kept = record { id = id; by_witness = false; prefix = more; groups = [] } in steps_in (hints ++ more) groups (steps ++ plain_place id start end ∷ []) ≡ k ∷ steps_in hints groups steps)
push-view hints more groups steps id start end e f a =
    let s : StepPlace = plain_place id start end in
    let range : slice_range (hints ++ more) start end ≡ more = range-end hints more start end (sym e) (omega (arith, length-append hints more)) in
    let one : steps_in (hints ++ more) groups (steps ++ s ∷ []) ≡ kept_of (hints ++ more) (map (group_of (hints ++ more)) groups) s ∷ steps_in (hints ++ more) groups steps =
    view-push (kept_of (hints ++ more) (map (group_of (hints ++ more)) groups)) steps s in
    one ∙ ap (λ p. let k : Kept = record { id = id; by_witness = false; prefix = p; groups = [] } in k ∷ steps_in (hints ++ more) groups steps) range
    ∙ ap (λ ks. let k : Kept = record { id = id; by_witness = false; prefix = more; groups = [] } in k ∷ ks) (hints-view hints more groups steps a)

-- a step with one
abbrev pub witness_place : ℕ → ℕ → ℕ → StepPlace
witness_place id start end = record { id = id; by_witness = true; start = start; end = end }

pub begin-laid : (hints : List ℕ) (groups : List GroupPlace) (steps : List StepPlace) (id start : ℕ) → start ≡ length groups → AreLaid hints groups steps → AreLaid hints groups (steps ++ witness_place id start start ∷ [])
begin-laid hints groups steps id start e a = record { within = a.within; apart = lie-push (length hints) 0 steps (witness_place id start start) (length groups) (length groups) a.apart (e, omega arith) e }

-- the last step
abbrev pub at_end : List StepPlace → StepPlace → StepPlace
at_end steps d = get_or steps (length steps - 1) d

pub some-steps : (hints : List ℕ) (groups : List GroupPlace) (steps : List StepPlace) → takes_groups (steps_in hints groups steps) ≡ true → 0 < length steps
some-steps hints groups [] t = absurd cc
some-steps hints groups (s ∷ ss) t = omega arith

pub last-split : (steps : List StepPlace) (d : StepPlace) → 0 < length steps → steps ≡ take (length steps - 1) steps ++ at_end steps d ∷ []
last-split steps d h = sym (take_all (length steps - 1 + 1) steps (omega arith)) ∙ take_more steps (length steps - 1) d (omega arith)

pub last-set : (steps : List StepPlace) (s : StepPlace) → 0 < length steps → set steps (length steps - 1) s ≡ take (length steps - 1) steps ++ s ∷ []
last-set steps s h = sym (take_all (length steps - 1 + 1) (set steps (length steps - 1) s) (omega (arith, length-set steps (length steps - 1) s))) ∙ take_more_set steps (length steps - 1) s (omega arith)

-- the last step takes groups: it lies at the end of the groups
pub taking : (hints : List ℕ) (groups : List GroupPlace) (front : List StepPlace) (s : StepPlace) → takes_groups (steps_in hints groups (front ++ s ∷ [])) ≡ true → s.by_witness ≡ true
taking hints groups front s t = ap takes_groups (sym (view-push (kept_of hints (map (group_of hints) groups)) front s)) ∙ t

lies-here : (h from : ℕ) (s : StepPlace) → s.by_witness ≡ true → LiesAt h from s → (s.start ≡ from) × (from ≤ s.end)
lies-here h from s t a = rw t at a

ends-here : (from end : ℕ) (s : StepPlace) → s.by_witness ≡ true → groups_end from s ≡ end → s.end ≡ end
ends-here from end s t a = rw t at a

pub at-groups : (hints : List ℕ) (groups : List GroupPlace) (front : List StepPlace) (s : StepPlace) → s.by_witness ≡ true → AreLaid hints groups (front ++ s ∷ [])
    → LieFrom (length hints) 0 front s.start × (s.start ≤ s.end) × (s.end ≡ length groups)
at-groups hints groups front s t a =
    let r = lie-split (length hints) 0 front s (length groups) a.apart in
    let here = lies-here (length hints) r.0 s t r.2 in
    (subst (λ m. LieFrom (length hints) 0 front m) (sym here.0) r.1, omega (arith, here.0, here.1), ends-here r.0 (length groups) s t r.3)

-- one more group
pub group-laid : (hints more : List ℕ) (groups : List GroupPlace) (front : List StepPlace) (s t : StepPlace) (g : GroupPlace) → s.by_witness ≡ true → t.by_witness ≡ true → t.start ≡ s.start
    → t.end ≡ length (groups ++ g ∷ []) → IsWithin (hints ++ more) g → AreLaid hints groups (front ++ s ∷ []) → AreLaid (hints ++ more) (groups ++ g ∷ []) (front ++ t ∷ [])
group-laid hints more groups front s t g w v st en wi a =
    let b = hints-laid hints more groups (front ++ s ∷ []) a in
    let r = at-groups (hints ++ more) groups front s w b in
    let le : s.start ≤ t.end = omega (arith, length-append groups (g ∷ []), r.1, r.2) in
    record {
      within = All-push (IsWithin (hints ++ more)) groups g b.within wi;
      apart = lie-push (length (hints ++ more)) 0 front t s.start (length (groups ++ g ∷ [])) r.0 (rw v (st, le)) (rw v en);
    }

-- a step with a witness has the groups at its places
abbrev pub by_groups : ℕ → List Group → Kept
by_groups id gs = record { id = id; by_witness = true; prefix = []; groups = gs }

kept-groups : (hints : List ℕ) (gs : List Group) (s : StepPlace) → s.by_witness ≡ true → kept_of hints gs s ≡ by_groups s.id (slice_range gs s.start s.end)
kept-groups hints gs s w = rw w refl

range-push : {X : Type 0} (xs : List X) (y : X) (a n m : ℕ) → a ≤ n → n ≡ length xs → m ≡ n + 1 → slice_range (xs ++ y ∷ []) a m ≡ slice_range xs a n ++ y ∷ []
range-push xs y a n m h e f =
    ap (take (m - a)) (drop-append-le a xs (y ∷ []) (omega arith)) ∙ take_all (m - a) (drop a xs ++ y ∷ []) (omega (arith, length-append (drop a xs) (y ∷ []), length-drop a xs))
    ∙ ap (λ zs. zs ++ y ∷ []) (sym (take_all (n - a) (drop a xs) (omega (arith, length-drop a xs))))

-- steps before the last one see only what lies before its groups
front-same : (hints more : List ℕ) (groups others : List GroupPlace) (front : List StepPlace) (start : ℕ) → LieFrom (length hints) 0 front start → All (IsWithin hints) groups
    → ((a b : ℕ) → a ≤ b → b ≤ start → slice_range others a b ≡ slice_range groups a b)
    → reverse (map (kept_of (hints ++ more) (map (group_of (hints ++ more)) others)) front) ≡ reverse (map (kept_of hints (map (group_of hints) groups)) front)
front-same hints more groups others front start l w f = ap reverse (all-kept-same hints (hints ++ more) (map (group_of hints) groups) (map (group_of (hints ++ more)) others) 0 start front
    (λ i j h g. range-append hints more i j h g)
    (λ i j h g. range-map (group_of (hints ++ more)) others i j ∙ ap (map (group_of (hints ++ more))) (f i j h g) ∙ sym (range-map (group_of (hints ++ more)) groups i j) ∙ ap (λ gs. slice_range gs i j) (groups-more hints more groups w))
    l)

pub group-view : (hints more : List ℕ) (groups : List GroupPlace) (front : List StepPlace) (s t : StepPlace) (g : GroupPlace) (x : Group) → s.by_witness ≡ true → t.by_witness ≡ true → t.id ≡ s.id → t.start ≡ s.start
    → t.end ≡ length (groups ++ g ∷ []) → group_of (hints ++ more) g ≡ x → AreLaid hints groups (front ++ s ∷ [])
    → steps_in (hints ++ more) (groups ++ g ∷ []) (front ++ t ∷ []) ≡ with_group x (steps_in hints groups (front ++ s ∷ []))
group-view hints more groups front s t g x w v i st en is a =
    let r = at-groups hints groups front s w a in
    let whole : List ℕ = hints ++ more in
    let old : List Group = map (group_of hints) groups in
    let new : List Group = map (group_of whole) (groups ++ g ∷ []) in
    let all : new ≡ old ++ x ∷ [] =
    map_push (group_of whole) groups g ∙ ap (λ zs. zs ++ group_of whole g ∷ []) (groups-more hints more groups a.within)
    ∙ ap (λ z. old ++ z ∷ []) is in
    let before : steps_in whole (groups ++ g ∷ []) front ≡ steps_in hints groups front =
    front-same hints more groups (groups ++ g ∷ []) front s.start r.0 a.within (λ i j h k. range-append groups (g ∷ []) i j h (omega (arith, r.1, r.2))) in
    let range : slice_range new t.start t.end ≡ slice_range old s.start s.end ++ x ∷ [] =
    ap (λ zs. slice_range zs t.start t.end) all ∙ ap (λ n. slice_range (old ++ x ∷ []) n t.end) st
    ∙ range-push old x s.start s.end t.end r.1 (r.2 ∙ sym (length-map groups (group_of hints))) (omega (arith, length-append groups (g ∷ []), r.2)) in
    view-push (kept_of whole new) front t ∙ ap (λ k. k ∷ steps_in whole (groups ++ g ∷ []) front) (kept-groups whole new t v) ∙ ap (λ ks. by_groups t.id (slice_range new t.start t.end) ∷ ks) before
    ∙ ap (λ n. by_groups n (slice_range new t.start t.end) ∷ steps_in hints groups front) i ∙ ap (λ zs. by_groups s.id zs ∷ steps_in hints groups front) range
    ∙ ap (λ ks. with_group x ks) (ap (λ k. k ∷ steps_in hints groups front) (sym (kept-groups hints old s w)) ∙ sym (view-push (kept_of hints old) front s))

-- the groups of the last step are sorted
pub sorted-laid : (hints : List ℕ) (groups others : List GroupPlace) (front : List StepPlace) (s : StepPlace) → s.by_witness ≡ true → take s.start others ≡ take s.start groups
    → IsPermutation (drop s.start groups) (drop s.start others) → AreLaid hints groups (front ++ s ∷ []) → AreLaid hints others (front ++ s ∷ [])
sorted-laid hints groups others front s w before moved a =
    let whole : IsPermutation groups others =
    subst (λ zs. IsPermutation zs others) (take-append-drop s.start groups) (subst (λ zs. IsPermutation (take s.start groups ++ drop s.start groups) zs) (ap (λ zs. zs ++ drop s.start others) (sym before) ∙ take-append-drop s.start others)
    (IsPermutation-append_right (take s.start groups) (drop s.start groups) (drop s.start others) moved)) in
    record {
      within = All-permutation (IsWithin hints) groups others whole a.within;
      apart = subst (λ n. LieFrom (length hints) 0 (front ++ s ∷ []) n) (sym (length_permutation groups others whole)) a.apart;
    }

range-before : {X : Type 0} (xs ys : List X) (n a b : ℕ) → take n ys ≡ take n xs → a ≤ b → b ≤ n → slice_range ys a b ≡ slice_range xs a b
range-before {X = X} xs ys n a b e h g = first ys ∙ ap (λ zs. drop a (take b zs)) e ∙ sym (first xs)
  where
    first : (zs : List X) → slice_range zs a b ≡ drop a (take b (take n zs))
    first zs = sym (drop-take a (b - a) zs) ∙ ap (λ m. drop a (take m zs)) (let s : a + (b - a) ≡ b = omega arith in s) ∙ ap (drop a) (sym (take-take b n zs g))

range-rest : {X : Type 0} (xs : List X) (a b : ℕ) → b ≡ length xs → slice_range xs a b ≡ drop a xs
range-rest xs a b e = take_all (b - a) (drop a xs) (omega (arith, length-drop a xs))

pub sorted-view : (hints : List ℕ) (groups others : List GroupPlace) (front : List StepPlace) (s : StepPlace) → s.by_witness ≡ true → take s.start others ≡ take s.start groups
    → IsPermutation (drop s.start groups) (drop s.start others) → IsNonDecreasingBy (λ g. g.id) (drop s.start others) → AreOfDistinct (first_groups (steps_in hints groups (front ++ s ∷ [])))
    → AreLaid hints groups (front ++ s ∷ []) → steps_in hints others (front ++ s ∷ []) ≡ with_groups (rising (first_groups (steps_in hints groups (front ++ s ∷ [])))) (steps_in hints groups (front ++ s ∷ []))
sorted-view hints groups others front s w before moved sorted distinct a =
    let r = at-groups hints groups front s w a in
    let b = sorted-laid hints groups others front s w before moved a in
    let q = at-groups hints others front s w b in
    let old : List Group = map (group_of hints) groups in
    let new : List Group = map (group_of hints) others in
    let nil : List ℕ = [] in
    let was : slice_range old s.start s.end ≡ map (group_of hints) (drop s.start groups) = range-map (group_of hints) groups s.start s.end ∙ ap (map (group_of hints)) (range-rest groups s.start s.end r.2) in
    let is : slice_range new s.start s.end ≡ map (group_of hints) (drop s.start others) = range-map (group_of hints) others s.start s.end ∙ ap (map (group_of hints)) (range-rest others s.start s.end q.2) in
    let view : steps_in hints groups (front ++ s ∷ []) ≡ by_groups s.id (map (group_of hints) (drop s.start groups)) ∷ steps_in hints groups front =
    view-push (kept_of hints old) front s ∙ ap (λ k. k ∷ steps_in hints groups front) (kept-groups hints old s w) ∙ ap (λ zs. by_groups s.id zs ∷ steps_in hints groups front) was in
    let rise : map (group_of hints) (drop s.start others) ≡ rising (map (group_of hints) (drop s.start groups)) =
    sorted_is_rising hints (drop s.start groups) (drop s.start others) moved sorted (subst (λ ks. AreOfDistinct (first_groups ks)) view distinct) in
    let front-is : steps_in hints others front ≡ steps_in hints groups front =
    ap reverse (all-kept-same hints hints old new 0 s.start front (λ i j h g. refl)
    (λ i j h g. range-map (group_of hints) others i j ∙ ap (map (group_of hints)) (range-before groups others s.start i j before h g) ∙ sym (range-map (group_of hints) groups i j)) r.0) in
    view-push (kept_of hints new) front s ∙ ap (λ k. k ∷ steps_in hints others front) (kept-groups hints new s w) ∙ ap (λ zs. by_groups s.id zs ∷ steps_in hints others front) (is ∙ rise)
    ∙ ap (λ ks. by_groups s.id (rising (map (group_of hints) (drop s.start groups))) ∷ ks) front-is ∙ ap (λ ks. with_groups (rising (first_groups ks)) ks) (sym view)

-- the same of the whole list, at its last step
group-more : (hints more : List ℕ) (groups : List GroupPlace) (steps : List StepPlace) (s t : StepPlace) (g : GroupPlace) (x : Group) → takes_groups (steps_in hints groups steps) ≡ true
    → s ≡ get_or steps (length steps - 1) s → t.id ≡ s.id → t.by_witness ≡ s.by_witness → t.start ≡ s.start → t.end ≡ length (groups ++ g ∷ []) → IsWithin (hints ++ more) g → group_of (hints ++ more) g ≡ x
    → AreLaid hints groups steps
    → AreLaid (hints ++ more) (groups ++ g ∷ []) (set steps (length steps - 1) t)
    × (steps_in (hints ++ more) (groups ++ g ∷ []) (set steps (length steps - 1) t) ≡ with_group x (steps_in hints groups steps))
group-more hints more groups steps s t g x takes last i v st en wi is a =
    let some : 0 < length steps = some-steps hints groups steps takes in
    let front : List StepPlace = take (length steps - 1) steps in
    let split : steps ≡ front ++ s ∷ [] = last-split steps s some ∙ ap (λ z. front ++ z ∷ []) (sym last) in
    let new : set steps (length steps - 1) t ≡ front ++ t ∷ [] = last-set steps t some in
    let w : s.by_witness ≡ true = taking hints groups front s (subst (λ z. takes_groups (steps_in hints groups z) ≡ true) split takes) in
    let b : AreLaid hints groups (front ++ s ∷ []) = subst (AreLaid hints groups) split a in (
      subst (AreLaid (hints ++ more) (groups ++ g ∷ [])) (sym new) (group-laid hints more groups front s t g w (v ∙ w) st en wi b),
      ap (steps_in (hints ++ more) (groups ++ g ∷ [])) new ∙ group-view hints more groups front s t g x w (v ∙ w) i st en is b ∙ ap (λ z. with_group x (steps_in hints groups z)) (sym split),
    )

pub group-grows : (hints all : List ℕ) (groups : List GroupPlace) (steps : List StepPlace) (s t : StepPlace) (g : GroupPlace) (x : Group) → takes_groups (steps_in hints groups steps) ≡ true
    → s ≡ get_or steps (length steps - 1) s → t.id ≡ s.id → t.by_witness ≡ s.by_witness → t.start ≡ s.start → t.end ≡ length (groups ++ g ∷ []) → Begins hints all → IsWithin all g → group_of all g ≡ x
    → AreLaid hints groups steps
    → AreLaid all (groups ++ g ∷ []) (set steps (length steps - 1) t) × (steps_in all (groups ++ g ∷ []) (set steps (length steps - 1) t) ≡ with_group x (steps_in hints groups steps))
group-grows hints all groups steps s t g x takes last i v st en b wi is a =
    let whole : hints ++ drop (length hints) all ≡ all = longer hints all b in
    subst (λ hs. AreLaid hs (groups ++ g ∷ []) (set steps (length steps - 1) t) × (steps_in hs (groups ++ g ∷ []) (set steps (length steps - 1) t) ≡ with_group x (steps_in hints groups steps))) whole
    (group-more hints (drop (length hints) all) groups steps s t g x takes last i v st en (subst (λ hs. IsWithin hs g) (sym whole) wi) (subst (λ hs. group_of hs g ≡ x) (sym whole) is) a)

pub sorts : (hints : List ℕ) (groups others : List GroupPlace) (steps : List StepPlace) (s : StepPlace) → takes_groups (steps_in hints groups steps) ≡ true → s ≡ get_or steps (length steps - 1) s
    → take s.start others ≡ take s.start groups → IsPermutation (drop s.start groups) (drop s.start others) → IsNonDecreasingBy (λ g. g.id) (drop s.start others)
    → AreOfDistinct (first_groups (steps_in hints groups steps)) → AreLaid hints groups steps
    → AreLaid hints others steps × (steps_in hints others steps ≡ with_groups (rising (first_groups (steps_in hints groups steps))) (steps_in hints groups steps))
sorts hints groups others steps s takes last before moved sorted distinct a =
    let some : 0 < length steps = some-steps hints groups steps takes in
    let front : List StepPlace = take (length steps - 1) steps in
    let split : steps ≡ front ++ s ∷ [] = last-split steps s some ∙ ap (λ x. front ++ x ∷ []) (sym last) in
    let w : s.by_witness ≡ true = taking hints groups front s (subst (λ x. takes_groups (steps_in hints groups x) ≡ true) split takes) in
    let b : AreLaid hints groups (front ++ s ∷ []) = subst (AreLaid hints groups) split a in
    let d : AreOfDistinct (first_groups (steps_in hints groups (front ++ s ∷ []))) = subst (λ x. AreOfDistinct (first_groups (steps_in hints groups x))) split distinct in (
      subst (AreLaid hints others) (sym split) (sorted-laid hints groups others front s w before moved b),
      ap (steps_in hints others) split ∙ sorted-view hints groups others front s w before moved sorted d b
          ∙ ap (λ x. with_groups (rising (first_groups (steps_in hints groups x))) (steps_in hints groups x)) (sym split),
    )

pub starts-within : (hints : List ℕ) (groups : List GroupPlace) (steps : List StepPlace) (s : StepPlace) → takes_groups (steps_in hints groups steps) ≡ true → s ≡ get_or steps (length steps - 1) s → AreLaid hints groups steps
    → s.start ≤ length groups
starts-within hints groups steps s takes last a =
    let some : 0 < length steps = some-steps hints groups steps takes in
    let front : List StepPlace = take (length steps - 1) steps in
    let split : steps ≡ front ++ s ∷ [] = last-split steps s some ∙ ap (λ x. front ++ x ∷ []) (sym last) in
    let w : s.by_witness ≡ true = taking hints groups front s (subst (λ x. takes_groups (steps_in hints groups x) ≡ true) split takes) in
    let r = at-groups hints groups front s w (subst (AreLaid hints groups) split a) in
    omega (arith, r.1, r.2)
