-- Groups of hints that are kept in one list.
use Rattle.std.proofs.Common.{◌≡◌, ℕ, zero, suc, ◌+◌, ◌-◌, ◌≤◌, ◌<◌, List, [], ◌∷◌, ◌++◌, length, get_or, take, drop, refl, sym, ap, ◌∙◌, arith, length-drop}
use Rattle.std.specs.Prelude.{slice_range}
use Rattle.std.proofs.lemmas.List.{take_all, drop-append-le}
use Rattle.sr_model.specs.Meeting.{Group}
use Rattle.sr_wit.specs.declared.group.GroupStart.{GroupStart}
use Rattle.sr_wit.specs.Groups.{end_before, AreStarts, groups_from, with_hint}
use Rattle.sr_wit.proofs.PieceLemmas.{range-append}

pub length-groups : (gs : List GroupStart) (hints : List ℕ) → length (groups_from gs hints) ≡ length gs
length-groups [] hints = refl
length-groups (g ∷ gs) hints = ap suc (length-groups gs hints)

-- the group at an index
pub get_or-groups : (gs : List GroupStart) (hints : List ℕ) (i : ℕ) (d : GroupStart) → i < length gs
    → get_or (groups_from gs hints) i (0, []) ≡ ((get_or gs i d).id, slice_range hints (get_or gs i d).start (end_before (drop (i + 1) gs) (length hints)))
get_or-groups [] hints i d l = absurd (omega arith)
get_or-groups (g ∷ gs) hints zero d l = refl
get_or-groups (g ∷ gs) hints (suc i) d l = let e : suc i + 1 ≡ suc (i + 1) = omega arith in rw e (get_or-groups gs hints i d (omega arith))

pub end-le-whole : (gs : List GroupStart) (whole : ℕ) → AreStarts gs whole → end_before gs whole ≤ whole
end-le-whole [] whole h = omega arith
end-le-whole (g ∷ gs) whole h = omega (arith, h.0, end-le-whole gs whole h.1)

-- a group lies within the whole
pub group_within : (gs : List GroupStart) (whole i : ℕ) (d : GroupStart) → AreStarts gs whole → i < length gs
    → ((get_or gs i d).start ≤ end_before (drop (i + 1) gs) whole) × (end_before (drop (i + 1) gs) whole ≤ whole)
group_within [] whole i d h l = absurd (omega arith)
group_within (g ∷ gs) whole zero d h l = (h.0, end-le-whole gs whole h.1)
group_within (g ∷ gs) whole (suc i) d h l = let e : suc i + 1 ≡ suc (i + 1) = omega arith in rw e (group_within gs whole i d h.1 (omega arith))

-- where the next group starts
pub end_at : (gs : List GroupStart) (whole i : ℕ) (d : GroupStart) → i < length gs → end_before (drop i gs) whole ≡ (get_or gs i d).start
end_at [] whole i d l = absurd (omega arith)
end_at (g ∷ gs) whole zero d l = refl
end_at (g ∷ gs) whole (suc i) d l = end_at gs whole i d (omega arith)

pub end_past : (gs : List GroupStart) (whole i : ℕ) → length gs ≤ i → end_before (drop i gs) whole ≡ whole
end_past [] whole zero l = refl
end_past [] whole (suc i) l = refl
end_past (g ∷ gs) whole zero l = absurd (omega arith)
end_past (g ∷ gs) whole (suc i) l = end_past gs whole i (omega arith)

-- a group begins
end-begin : (gs : List GroupStart) (whole : ℕ) (s : GroupStart) → s.start ≡ whole → end_before (gs ++ s ∷ []) whole ≡ end_before gs whole
end-begin [] whole s e = e
end-begin (g ∷ gs) whole s e = refl

pub starts-begin : (gs : List GroupStart) (whole : ℕ) (s : GroupStart) → s.start ≡ whole → AreStarts gs whole → AreStarts (gs ++ s ∷ []) whole
starts-begin [] whole s e h = (omega arith, tt)
starts-begin (g ∷ gs) whole s e h = (omega (arith, h.0, end-begin gs whole s e), starts-begin gs whole s e h.1)

range-none : (xs : List ℕ) (n : ℕ) → slice_range xs n n ≡ []
range-none xs n = let none : n - n ≡ 0 = omega arith in ap (λ (k : ℕ). take k (drop n xs)) none

pub groups-begin : (gs : List GroupStart) (hints : List ℕ) (s : GroupStart) → s.start ≡ length hints → groups_from (gs ++ s ∷ []) hints ≡ groups_from gs hints ++ (s.id, []) ∷ []
groups-begin [] hints s e = ap (λ l. (s.id, l) ∷ []) (ap (λ (k : ℕ). slice_range hints k (length hints)) e ∙ range-none hints (length hints))
groups-begin (g ∷ gs) hints s e =
    ap (λ (k : ℕ). (g.id, slice_range hints g.start k) ∷ groups_from (gs ++ s ∷ []) hints) (end-begin gs (length hints) s e)
    ∙ ap (λ l. (g.id, slice_range hints g.start (end_before gs (length hints))) ∷ l) (groups-begin gs hints s e)

-- a hint more
end-more : (gs : List GroupStart) (whole more : ℕ) → whole ≤ more → end_before gs whole ≤ end_before gs more
end-more [] whole more l = l
end-more (g ∷ gs) whole more l = omega arith

pub starts-more : (gs : List GroupStart) (whole more : ℕ) → whole ≤ more → AreStarts gs whole → AreStarts gs more
starts-more [] whole more l h = tt
starts-more (g ∷ gs) whole more l h = (omega (arith, h.0, end-more gs whole more l), starts-more gs whole more l h.1)

range-last : (xs ys : List ℕ) (a : ℕ) → a ≤ length xs → slice_range (xs ++ ys) a (length (xs ++ ys)) ≡ slice_range xs a (length xs) ++ ys
range-last xs ys a h =
    take_all (length (xs ++ ys) - a) (drop a (xs ++ ys)) (omega (arith, length-drop a (xs ++ ys))) ∙ drop-append-le a xs ys h
    ∙ ap (λ l. l ++ ys) (sym (take_all (length xs - a) (drop a xs) (omega (arith, length-drop a xs))))

pub groups-more : (gs : List GroupStart) (hints : List ℕ) (hint : ℕ) → AreStarts gs (length hints) → groups_from gs (hints ++ hint ∷ []) ≡ with_hint (groups_from gs hints) hint
groups-more [] hints hint h = refl
groups-more (g ∷ []) hints hint h = ap (λ l. (g.id, l) ∷ []) (range-last hints (hint ∷ []) g.start h.0)
groups-more (g ∷ k ∷ gs) hints hint h =
    let stays : slice_range (hints ++ hint ∷ []) g.start k.start ≡ slice_range hints g.start k.start = range-append hints (hint ∷ []) g.start k.start h.0 (end-le-whole (k ∷ gs) (length hints) h.1) in
    ap (λ l. (g.id, l) ∷ groups_from (k ∷ gs) (hints ++ hint ∷ [])) stays
    ∙ ap (λ l. (g.id, slice_range hints g.start k.start) ∷ l) (groups-more (k ∷ gs) hints hint h.1)

-- the parts of a group make it whole
pub group_at : (gs : List Group) (i id : ℕ) (hints : List ℕ) → i < length gs → id ≡ (get_or gs i (0, [])).0 → hints ≡ (get_or gs i (0, [])).1 → (id, hints) ≡ get_or gs i (id, hints)
group_at [] i id hints l p q = absurd (omega arith)
group_at (g ∷ gs) zero id hints l p q = ap (λ (n : ℕ). (n, hints)) p ∙ ap (λ hs. (g.0, hs)) q
group_at (g ∷ gs) (suc i) id hints l p q = group_at gs i id hints (omega arith) p q
