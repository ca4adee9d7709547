-- Where steps lie in flat lists.
use Rattle.std.proofs.Common.{◌≡◌, ℕ, ◌+◌, ◌-◌, ◌≤◌, Bool, true, false, cond, List, [], ◌∷◌, ◌++◌, length, get_or, take, drop, map, reverse, refl, sym, ap, subst, ◌∙◌, arith, length-append, length-drop}
use Rattle.std.specs.Prelude.{slice_range, All}
use Rattle.std.proofs.lemmas.List.{take_all, drop_at, drop-append-le, take-append-le, get_or_append_left, map-append, reverse-append, take-map, drop-map}
use Rattle.std.proofs.lemmas.List.Elements.{All-tail}
use Rattle.sr_model.specs.Meeting.{Group}
use Rattle.sr_model.proofs.Soundness.{by_test}
use Rattle.sr_steps.specs.declared.place.GroupPlace.{GroupPlace}
use Rattle.sr_steps.specs.declared.table.StepPlace.{StepPlace}
use Rattle.sr_steps.specs.Kept.{Kept}
use Rattle.sr_steps.specs.Groups.{start_of, has_few, group_of, IsWithin}
use Rattle.sr_steps.specs.Places.{kept_of, groups_end, LiesAt, LieFrom}

pub range-append : {X : Type 0} (xs ys : List X) (a b : ℕ) → a ≤ b → b ≤ length xs → slice_range (xs ++ ys) a b ≡ slice_range xs a b
range-append xs ys a b h g =
    ap (take (b - a)) (drop-append-le a xs ys (omega arith)) ∙ take-append-le (b - a) (drop a xs) ys (omega (arith, length-drop a xs))

pub range-end : {X : Type 0} (xs ys : List X) (n m : ℕ) → length xs ≡ n → m ≡ n + length ys → slice_range (xs ++ ys) n m ≡ ys
range-end xs ys n m h e = ap (take (m - n)) (drop_at xs ys n h) ∙ take_all (m - n) ys (omega arith)

pub range-map : {X Y : Type 0} (f : X → Y) (xs : List X) (a b : ℕ) → slice_range (map f xs) a b ≡ map f (slice_range xs a b)
range-map f xs a b = ap (take (b - a)) (drop-map f a xs) ∙ take-map f (b - a) (drop a xs)

pub lie-le : (h from : ℕ) (ss : List StepPlace) (end : ℕ) → LieFrom h from ss end → from ≤ end
lie-le h from [] end l = omega arith
lie-le h from (s ∷ ss) end l = by_test s.by_witness
    (λ e.
    let here : (s.start ≡ from) × (from ≤ s.end) = rw e at l.0 in
    let rest : s.end ≤ end = lie-le h s.end ss end (rw e at l.1) in
    omega (arith, here.1))
    (λ e. lie-le h from ss end (rw e at l.1))

pub lie-split : (h from : ℕ) (front : List StepPlace) (s : StepPlace) (end : ℕ) → LieFrom h from (front ++ s ∷ []) end → (mid : ℕ) × LieFrom h from front mid × LiesAt h mid s × (groups_end mid s ≡ end)
lie-split h from [] s end l = (from, refl, l.0, l.1)
lie-split h from (t ∷ ts) s end l =
    let r = lie-split h (groups_end from t) ts s end l.1 in
    (r.0, (l.0, r.1), r.2, r.3)

pub lie-push : (h from : ℕ) (front : List StepPlace) (s : StepPlace) (mid end : ℕ) → LieFrom h from front mid → LiesAt h mid s → groups_end mid s ≡ end → LieFrom h from (front ++ s ∷ []) end
lie-push h from [] s mid end l a e = (subst (λ m. LiesAt h m s) (sym l) a, ap (λ m. groups_end m s) l ∙ e)
lie-push h from (t ∷ ts) s mid end l a e = (l.0, lie-push h (groups_end from t) ts s mid end l.1 a e)

more-at : (h k from : ℕ) (s : StepPlace) → h ≤ k → LiesAt h from s → LiesAt k from s
more-at h k from s le a = by_test s.by_witness
    (λ e. let x : (s.start ≡ from) × (from ≤ s.end) = rw e at a in rw e x)
    (λ e. let x : (s.start ≤ s.end) × (s.end ≤ h) = rw e at a in rw e (x.0, omega (arith, x.1)))

pub lie-more : (h k from : ℕ) (ss : List StepPlace) (end : ℕ) → h ≤ k → LieFrom h from ss end → LieFrom k from ss end
lie-more h k from [] end le l = l
lie-more h k from (s ∷ ss) end le l = (more-at h k from s le l.0, lie-more h k (groups_end from s) ss end le l.1)

same_kept : (id : ℕ) (by : Bool) (p q : List ℕ) (gs hs : List Group) → p ≡ q → gs ≡ hs
    → (let x : Kept = record { id = id; by_witness = by; prefix = p; groups = gs } in let y : Kept = record { id = id; by_witness = by; prefix = q; groups = hs } in x ≡ y)
same_kept id by p q gs hs e f = cc

kept-same : (hints more : List ℕ) (gs hs : List Group) (from end : ℕ) (s : StepPlace) → ((a b : ℕ) → a ≤ b → b ≤ length hints → slice_range more a b ≡ slice_range hints a b)
    → ((a b : ℕ) → a ≤ b → b ≤ end → slice_range hs a b ≡ slice_range gs a b) → LiesAt (length hints) from s → groups_end from s ≤ end → kept_of more hs s ≡ kept_of hints gs s
kept-same hints more gs hs from end s f g a le = same_kept s.id s.by_witness (cond s.by_witness [] (slice_range more s.start s.end)) (cond s.by_witness [] (slice_range hints s.start s.end))
    (cond s.by_witness (slice_range hs s.start s.end) []) (cond s.by_witness (slice_range gs s.start s.end) [])
    (by_test s.by_witness (λ e. rw e refl) (λ e. let x : (s.start ≤ s.end) × (s.end ≤ length hints) = rw e at a in rw e (f s.start s.end x.0 x.1)))
    (by_test s.by_witness (λ e. let x : (s.start ≡ from) × (from ≤ s.end) = rw e at a in let y : s.end ≤ end = rw e at le in rw e (g s.start s.end (omega (arith, x.0, x.1)) y)) (λ e. rw e refl))

-- steps see only what lies at their places
pub all-kept-same : (hints more : List ℕ) (gs hs : List Group) (from end : ℕ) (ss : List StepPlace) → ((a b : ℕ) → a ≤ b → b ≤ length hints → slice_range more a b ≡ slice_range hints a b)
    → ((a b : ℕ) → a ≤ b → b ≤ end → slice_range hs a b ≡ slice_range gs a b) → LieFrom (length hints) from ss end → map (kept_of more hs) ss ≡ map (kept_of hints gs) ss
all-kept-same hints more gs hs from end [] f g l = refl
all-kept-same hints more gs hs from end (s ∷ ss) f g l =
    let one : kept_of more hs s ≡ kept_of hints gs s = kept-same hints more gs hs from end s f g l.0 (lie-le (length hints) (groups_end from s) ss end l.1) in
    let rest : map (kept_of more hs) ss ≡ map (kept_of hints gs) ss = all-kept-same hints more gs hs (groups_end from s) end ss f g l.1 in
    ap (λ x. x ∷ map (kept_of more hs) ss) one ∙ ap (λ xs. kept_of hints gs s ∷ xs) rest

-- a group stays where it is
abbrev Stays : List ℕ → List ℕ → GroupPlace → Type 0
Stays hints more g = IsWithin (hints ++ more) g × (group_of (hints ++ more) g ≡ group_of hints g)

few-stay : (hints more : List ℕ) (g : GroupPlace) → has_few g ≡ true → IsWithin hints g → Stays hints more g
few-stay hints more g e w =
    let end : start_of g + g.count ≤ length hints = rw e at w in
    let same : slice_range (hints ++ more) (start_of g) (start_of g + g.count) ≡ slice_range hints (start_of g) (start_of g + g.count) = range-append hints more (start_of g) (start_of g + g.count) (omega arith) end in
    rw e (omega (arith, end, length-append hints more), ap (λ hs. let x : Group = (g.id, hs) in x) same)

many-stay : (hints more : List ℕ) (g : GroupPlace) → has_few g ≡ false → IsWithin hints g → Stays hints more g
many-stay hints more g e w =
    let count : ℕ = get_or hints (start_of g) 0 in
    let end : start_of g + 1 + count ≤ length hints = rw e at w in
    let counted : get_or (hints ++ more) (start_of g) 0 ≡ count = get_or_append_left hints more 0 (start_of g) (omega arith) in
    let same : slice_range (hints ++ more) (start_of g + 1) (start_of g + 1 + count) ≡ slice_range hints (start_of g + 1) (start_of g + 1 + count) =
    range-append hints more (start_of g + 1) (start_of g + 1 + count) (omega arith) end in
    rw (e, counted) (omega (arith, end, length-append hints more), ap (λ hs. let x : Group = (g.id, hs) in x) same)

stays : (hints more : List ℕ) (g : GroupPlace) → IsWithin hints g → Stays hints more g
stays hints more g w = by_test (has_few g) (λ e. few-stay hints more g e w) (λ e. many-stay hints more g e w)

pub groups-more : (hints more : List ℕ) (gs : List GroupPlace) → All (IsWithin hints) gs → map (group_of (hints ++ more)) gs ≡ map (group_of hints) gs
groups-more hints more [] a = refl
groups-more hints more (g ∷ gs) a =
    let one : group_of (hints ++ more) g ≡ group_of hints g = (stays hints more g (a 0 g (omega arith))).1 in
    ap (λ x. x ∷ map (group_of (hints ++ more)) gs) one ∙ ap (λ xs. group_of hints g ∷ xs) (groups-more hints more gs (All-tail (IsWithin hints) g gs a))

pub within-more : (hints more : List ℕ) (gs : List GroupPlace) → All (IsWithin hints) gs → All (IsWithin (hints ++ more)) gs
within-more hints more gs a i d m = (stays hints more (get_or gs i d) (a i d m)).0

-- the last one comes first
pub view-push : {X Y : Type 0} (f : X → Y) (xs : List X) (x : X) → reverse (map f (xs ++ x ∷ [])) ≡ f x ∷ reverse (map f xs)
view-push f xs x = ap reverse (map-append f xs (x ∷ [])) ∙ reverse-append (map f xs) (f x ∷ [])
