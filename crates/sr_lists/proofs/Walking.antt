-- What each call does to the lists, where a walk goes along a stack in place.
use Rattle.std.proofs.Common.{◌≡◌, ◌≢◌, ℕ, suc, zero, ◌+◌, ◌-◌, ◌<◌, ◌≤◌, Bool, true, cond, eqb, Option, Some, None, List, [], ◌∷◌, ◌++◌, length, refl, ap, sym, subst, ◌∙◌, arith, max, drop, set, get_or, map, replicate, get_or-set_same, get_or-set_other}
use Rattle.std.specs.Prelude.{IfSome, IsNone}
use Rattle.std.specs.List.{sum_by, count_by}
use Rattle.std.proofs.lemmas.Bool.{eq-eqb, ne_eqb, true≢false}
use Rattle.std.proofs.lemmas.List.{length-set, length-append, length-map, length-drop}
use Rattle.std.proofs.lemmas.List.Sums.{sum_by-cons, sum_by-append, sum_by-set}
use Rattle.std.proofs.Math.ListN.{get_or-map}
use Rattle.sr_lists.specs.declared.blocks.Watch.{Watch}
use Rattle.sr_lists.specs.Stacks.{Stacked, stack_at, places_of, count_on, count_on_all, held_at, held_on, first_of, AreApart, IsAdded}
use Rattle.sr_lists.specs.Family.{Family, entries, AreSame, HasKeys, IsPushed, IsBegun, IsTaken, IsEnded}
use Rattle.sr_lists.specs.Walk.{before, since, without, lists_in, ahead_in, seen, IsOn, IsAlong, open_at, IsWalked, IsOpen, IsClosed, IsFilled}
use Rattle.sr_lists.proofs.Places.{by_eq, count_same, count_more, before_same, before_other, since_same, since_other, without_other, before_since, count_parts, length_parts, since_none, without_none, count_before, since_begins, without_last, count_without, count_without_le, length_without, held_append, held_without, held_agree, held_set_same, held_elsewhere, length_held, count_at, count_two, sum_held, moved_lists, moved_ahead, moved_there, step_before}

-- 0 is on no stack, each place on one, and holds a watch
zero_off : (s : Stacked) (k : ℕ) → AreApart s → count_on 0 (stack_at s k) ≡ 0
zero_off s k a = by_eq (count_on_all 0 s.stacks) 0
    (λ e. omega (arith, count_at 0 s.stacks k, e))
    (λ ne. let lt : 0 < 0 = (a.within 0 (omega (arith, ne))).0 in absurd (omega (arith, lt)))

once_on : (s : Stacked) (k p : ℕ) → AreApart s → count_on p (stack_at s k) ≤ 1
once_on s k p a = omega (arith, a.once p, count_at p s.stacks k)

pub on_all : (s : Stacked) (k p : ℕ) → 0 < count_on p (stack_at s k) → 0 < count_on_all p s.stacks
on_all s k p lt = omega (arith, lt, count_at p s.stacks k)

pub holds_one : (s : Stacked) (k p : ℕ) → AreApart s → 0 < count_on p (stack_at s k) → p < length s.cells
holds_one s k p a lt = (a.within p (on_all s k p lt)).1

no_hole : (s : Stacked) (k next : ℕ) → AreApart s → without 0 (before next (stack_at s k)) ≡ before next (stack_at s k)
no_hole s k next a = without_none 0 (before next (stack_at s k)) (omega (arith, zero_off s k a, count_parts 0 next (stack_at s k)))

-- what of a stack its list shows
shown : Option ℕ → ℕ → ℕ → ℕ → List ℕ → List ℕ
shown None next hole j ps = ps
shown (Some k) next hole j ps = cond (eqb j k) (without hole (before next ps)) ps

shown_here : (k next hole : ℕ) (ps : List ℕ) → shown (Some k) next hole k ps ≡ without hole (before next ps)
unfolding shown
shown_here k next hole ps = ap (λ (b : Bool). cond b (without hole (before next ps)) ps) (eq-eqb k k refl)

shown_other : (k next hole j : ℕ) (ps : List ℕ) → j ≢ k → shown (Some k) next hole j ps ≡ ps
unfolding shown
shown_other k next hole j ps ne = ap (λ (b : Bool). cond b (without hole (before next ps)) ps) (ne_eqb j k ne)

shown_le : (walked : Option ℕ) (next hole j q : ℕ) (ps : List ℕ) → count_on q (shown walked next hole j ps) ≤ count_on q ps
unfolding shown
shown_le None next hole j q ps = omega arith
shown_le (Some k) next hole j q ps = by_eq j k
    (λ e. rw (eq-eqb j k e) (omega (arith, count_without_le q hole (before next ps), count_parts q next ps)))
    (λ ne. rw (ne_eqb j k ne) (omega arith))

shown_add : (walked : Option ℕ) (next hole j p : ℕ) (ps : List ℕ) → next ≢ p → hole ≢ p → shown walked next hole j (p ∷ ps) ≡ p ∷ shown walked next hole j ps
unfolding shown
shown_add None next hole j p ps nn nh = refl
shown_add (Some k) next hole j p ps nn nh = by_eq j k
    (λ e. rw (eq-eqb j k e) (ap (without hole) (before_other next p ps nn) ∙ without_other hole p (before next ps) nh))
    (λ ne. rw (ne_eqb j k ne) refl)

list_plain : (s : Stacked) (j : ℕ) → get_or (map (held_on s.cells) s.stacks) j [] ≡ held_on s.cells (stack_at s j)
list_plain s j = get_or-map (held_on s.cells) s.stacks j []

list_here : (s : Stacked) (k next hole : ℕ) → k < length s.stacks → get_or (lists_in s (Some k) next hole) k [] ≡ held_on s.cells (without hole (before next (stack_at s k)))
list_here s k next hole lt = get_or-set_same (map (held_on s.cells) s.stacks) k (held_on s.cells (without hole (before next (stack_at s k)))) [] (omega (arith, lt, length-map s.stacks (held_on s.cells)))

list_other : (s : Stacked) (k next hole j : ℕ) → j ≢ k → get_or (lists_in s (Some k) next hole) j [] ≡ held_on s.cells (stack_at s j)
list_other s k next hole j ne = get_or-set_other (map (held_on s.cells) s.stacks) k j (held_on s.cells (without hole (before next (stack_at s k)))) [] ne ∙ list_plain s j

list_shown : (s : Stacked) (walked : Option ℕ) (next hole j : ℕ) → IsAlong s walked next hole → get_or (lists_in s walked next hole) j [] ≡ held_on s.cells (shown walked next hole j (stack_at s j))
unfolding shown
list_shown s None next hole j a = list_plain s j
list_shown s (Some k) next hole j a = by_eq j k
    (λ e. subst (λ (x : ℕ). get_or (lists_in s (Some k) next hole) x [] ≡ held_on s.cells (shown (Some k) next hole x (stack_at s x))) (sym e)
    (list_here s k next hole a.known ∙ sym (ap (held_on s.cells) (shown_here k next hole (stack_at s k)))))
    (λ ne. list_other s k next hole j ne ∙ sym (ap (held_on s.cells) (shown_other k next hole j (stack_at s j) ne)))

keys_are : (s : Stacked) (walked : Option ℕ) (next hole : ℕ) → length (lists_in s walked next hole) ≡ length s.stacks
keys_are s None next hole = length-map s.stacks (held_on s.cells)
keys_are s (Some k) next hole = length-set (map (held_on s.cells) s.stacks) k (held_on s.cells (without hole (before next (stack_at s k)))) ∙ length-map s.stacks (held_on s.cells)

pub open_none : open_at 0 ≡ 0
open_none = refl

pub open_some : (hole : ℕ) → 0 < hole → open_at hole ≡ 1
open_some hole lt = ap (λ (b : Bool). cond b 0 1) (ne_eqb hole 0 (λ e. omega (arith, lt, e)))

-- each place but the hole has an entry
count_with : (hole : ℕ) (qs : List ℕ) → count_on 0 qs ≡ 0 → (0 < hole → 0 < count_on hole qs) → length (without hole qs) + open_at hole ≡ length qs
count_with hole qs z h = by_eq hole 0
    (λ e. rw e (omega (arith, open_none, ap length (without_none 0 qs z))))
    (λ ne. omega (arith, open_some hole (omega (arith, ne)), length_without hole qs (h (omega (arith, ne)))))

entries_held : (s : Stacked) (walked : Option ℕ) (next hole held : ℕ) → AreApart s → IsAlong s walked next hole → places_of s ≡ held → sum_by length (lists_in s walked next hole) + length (ahead_in s walked next) + open_at hole ≡ held
entries_held s None next hole held a along places =
    let z : open_at hole ≡ 0 = ap open_at along.1 in
    omega (arith, places, z, sum_held s.cells s.stacks (λ q lt. (a.within q lt).1))
entries_held s (Some k) next hole held a along places =
    let ps : List ℕ = stack_at s k in
    let shows : List ℕ = without hole (before next ps) in
    let lt : k < length (map (held_on s.cells) s.stacks) = omega (arith, along.known, length-map s.stacks (held_on s.cells)) in
    let was : length (get_or (map (held_on s.cells) s.stacks) k []) ≡ length (held_on s.cells ps) = ap length (list_plain s k) in
    let all : length (held_on s.cells ps) ≡ length ps = length_held s.cells ps (λ q there. holds_one s k q a there) in
    let behind : length (held_on s.cells shows) ≡ length shows = length_held s.cells shows (λ q there. holds_one s k q a (omega (arith, there, count_without_le q hole (before next ps), count_parts q next ps))) in
    let ahead : length (held_on s.cells (since next ps)) ≡ length (since next ps) = length_held s.cells (since next ps) (λ q there. holds_one s k q a (omega (arith, there, count_parts q next ps))) in
    let holes : length shows + open_at hole ≡ length (before next ps) = count_with hole (before next ps) (omega (arith, zero_off s k a, count_parts 0 next ps)) along.behind in
    omega (arith, places, was, all, behind, ahead, holes, length_parts next ps, sum_by-set (λ (x : List Watch). length x) (map (held_on s.cells) s.stacks) k (held_on s.cells shows) [] lt, sum_held s.cells s.stacks (λ q there. (a.within q there).1))

pub entries_are : (s : Stacked) (walked : Option ℕ) (next hole held room : ℕ) → IsWalked s walked next hole held room → entries (seen s walked next hole room) + open_at hole ≡ held
entries_are s walked next hole held room h = entries_held s walked next hole held h.apart h.along h.places

same_of : (a b : List Watch) → a ≡ b → AreSame a b
same_of a b e = λ t. ap (count_by t) e

count_all : (xs : List Watch) → count_by (λ w. true) xs ≡ length xs
count_all [] = refl
count_all (x ∷ xs) = omega (arith, count_all xs, sum_by-cons (λ (w : Watch). cond true 1 0) x xs)

same_length : (a b : List Watch) → AreSame a b → length a ≡ length b
same_length a b s = sym (count_all a) ∙ s (λ w. true) ∙ count_all b

-- the hole is filled
abbrev closed_at : Stacked → ℕ → ℕ → Watch → Stacked
closed_at s key hole w = record s { stacks = set s.stacks key (drop 1 (stack_at s key)); cells = set s.cells hole w }

closed_fills : (old : Stacked) (k next hole : ℕ) (w : Watch) → AreApart old → IsOn old k next hole → 0 < hole → held_at old.cells (first_of (stack_at old k)) ≡ w ∷ [] → AreApart (closed_at old k hole w) → IsFilled old (closed_at old k hole w) (Some k) next hole
closed_fills old k next hole w a on some holds b =
    let new : Stacked = closed_at old k hole w in
    let ps : List ℕ = stack_at old k in
    let here : stack_at new k ≡ drop 1 ps = get_or-set_same old.stacks k (drop 1 ps) [] on.known in
    let behind : 0 < count_on hole (before next ps) = on.behind some in
    let once : count_on hole ps ≤ 1 = once_on old k hole a in
    let there : 0 < count_on hole ps = omega (arith, behind, count_parts hole next ps) in
    let within : hole < length old.cells = holds_one old k hole a there in
    let keys : length new.stacks ≡ length old.stacks = length-set old.stacks k (drop 1 ps) in
    let known : k < length new.stacks = omega (arith, keys, on.known) in
    record {
      keys = keys;
      lists = λ j. by_eq j k
          (λ e. subst (λ (x : ℕ). AreSame (get_or (lists_in new (Some k) next 0) x []) (get_or (lists_in old (Some k) next hole) x [])) (sym e)
          (λ t. ap (count_by t) (list_here new k next 0 known ∙ ap (held_on new.cells) (no_hole new k next b ∙ ap (before next) here)) ∙ moved_lists old.cells ps next hole w behind within once holds t ∙ sym (ap (count_by t) (list_here old k next hole on.known))))
          (λ ne. let off : count_on hole (stack_at old j) ≡ 0 = omega (arith, there, a.once hole, count_two hole old.stacks k j (λ e. ne (sym e))) in
          same_of (get_or (lists_in new (Some k) next 0) j []) (get_or (lists_in old (Some k) next hole) j [])
          (list_other new k next 0 j ne ∙ ap (held_on new.cells) (get_or-set_other old.stacks k j (drop 1 ps) [] ne) ∙ held_elsewhere old.cells hole w (stack_at old j) off ∙ sym (list_other old k next hole j ne)));
      ahead = same_of (ahead_in new (Some k) next) (ahead_in old (Some k) next) (ap (λ (x : List ℕ). held_on new.cells (since next x)) here ∙ moved_ahead old.cells ps next hole w behind once);
      apart = b;
      along = record {
        known = known;
        there = λ lt. subst (λ (x : List ℕ). 0 < count_on next x) (sym here) (moved_there ps next hole behind (on.there lt));
        behind = λ lt. absurd (omega (arith, lt));
      };
      places = omega (arith, open_some hole some, sum_by-set (λ (x : List ℕ). length x) old.stacks k (drop 1 ps) [] on.known, length-drop 1 ps, length_parts next ps, length_without hole (before next ps) behind);
      room = refl;
    }

pub filled_some : (old new : Stacked) (k next hole : ℕ) → AreApart old → IsOn old k next hole → 0 < hole → IsClosed old new k hole → IsFilled old new (Some k) next hole
filled_some old new k next hole a on some c =
    subst (λ (x : Stacked). IsFilled old x (Some k) next hole) (sym c.closed)
    (closed_fills old k next hole c.watch a on some c.holds (subst AreApart c.closed c.apart))

pub filled_by : (old new : Stacked) (walked : Option ℕ) (key next hole : ℕ) → walked ≡ Some key → AreApart old → IsAlong old walked next hole → 0 < hole → IsClosed old new key hole → IsFilled old new walked next hole
filled_by old new walked key next hole e a along some c =
    subst (λ (x : Option ℕ). IsFilled old new x next hole) (sym e) (filled_some old new key next hole a (subst (λ (x : Option ℕ). IsAlong old x next hole) e along) some c)

pub open_here : (s : Stacked) (walked : Option ℕ) (next hole : ℕ) → IsAlong s walked next hole → IsOpen s walked hole
open_here s None next hole a = a.1
open_here s (Some k) next hole a = (a.known, λ lt. omega (arith, a.behind lt, count_parts hole next (stack_at s k)))

pub filled_walked : (old new : Stacked) (walked : Option ℕ) (next hole held left room : ℕ) → IsWalked old walked next hole held room → IsFilled old new walked next hole → left + open_at hole ≡ held → IsWalked new walked next 0 left room
filled_walked old new walked next hole held left room h f e = record {
  apart = f.apart;
  along = f.along;
  places = omega (arith, e, f.places, h.places);
  fits = omega (arith, open_none, e, h.fits);
  within = omega (arith, f.room, h.within);
  limit = h.limit;
}

pub hole_held : (s : Stacked) (walked : Option ℕ) (next hole held room : ℕ) → IsWalked s walked next hole held room → 0 < hole → 0 < held
hole_held s walked next hole held room h some = omega (arith, open_some hole some, entries_are s walked next hole held room h)

-- a walk begins
first_before : (ps : List ℕ) → before (first_of ps) ps ≡ []
first_before [] = refl
first_before (p ∷ ps) = before_same p p ps refl

first_since : (ps : List ℕ) → since (first_of ps) ps ≡ ps
first_since [] = refl
first_since (p ∷ ps) = since_same p p ps refl

first_there : (ps : List ℕ) → 0 < first_of ps → 0 < count_on (first_of ps) ps
first_there [] lt = absurd (omega (arith, lt))
first_there (p ∷ ps) lt = omega (arith, count_same p p ps refl)

pub begun_walked : (s : Stacked) (next hole held room key : ℕ) → IsWalked s None next hole held room → key < length s.stacks → IsWalked s (Some key) (first_of (stack_at s key)) hole held room
begun_walked s next hole held room key h lt = record {
  apart = h.apart;
  along = record { known = lt; there = first_there (stack_at s key); behind = λ some. absurd (omega (arith, some, h.along.1)) };
  places = h.places;
  fits = h.fits;
  within = h.within;
  limit = h.limit;
}

pub begun_is : (s : Stacked) (next hole held room key : ℕ) → IsWalked s None next hole held room → key < length s.stacks → IsBegun (seen s None next hole room) (seen s (Some key) (first_of (stack_at s key)) hole room) key
begun_is s next hole held room key h lt =
    let first : ℕ = first_of (stack_at s key) in
    record {
      keys = keys_are s (Some key) first hole ∙ sym (keys_are s None next hole);
      here = list_here s key first hole lt ∙ ap (λ (x : List ℕ). held_on s.cells (without hole x)) (first_before (stack_at s key));
      others = λ k ne. same_of (get_or (lists_in s (Some key) first hole) k []) (get_or (lists_in s None next hole) k []) (list_other s key first hole k ne ∙ sym (list_plain s k));
      ahead = same_of (ahead_in s (Some key) first) (get_or (lists_in s None next hole) key []) (ap (held_on s.cells) (first_since (stack_at s key)) ∙ sym (list_plain s key));
      walked = refl;
      room = refl;
      entries = omega (arith, entries_are s (Some key) first hole held room (begun_walked s next hole held room key h lt), entries_are s None next hole held room h);
    }

-- a watch is taken, where there is no hole
pub taken_walked : (s : Stacked) (k next older held room : ℕ) → IsWalked s (Some k) next 0 held room → 0 < next → older ≡ first_of (drop 1 (since next (stack_at s k))) → IsWalked s (Some k) older next held room
taken_walked s k next older held room h some e =
    let ps : List ℕ = stack_at s k in
    let there : 0 < count_on next ps = h.along.there some in
    let step = step_before ps next there (zero_off s k h.apart) (λ q. once_on s k q h.apart) in
    record {
      apart = h.apart;
      along = record {
        known = h.along.known;
        there = λ lt. let begins : since older ps ≡ drop 1 (since next ps) = ap (λ (x : ℕ). since x ps) e ∙ step.1 in
            let first : 0 < first_of (drop 1 (since next ps)) = subst (λ (x : ℕ). 0 < x) e lt in
            let on : 0 < count_on (first_of (drop 1 (since next ps))) (drop 1 (since next ps)) = first_there (drop 1 (since next ps)) first in
            let on' : 0 < count_on older (since older ps) = subst (λ (x : List ℕ). 0 < count_on older x) (sym begins) (subst (λ (x : ℕ). 0 < count_on x (drop 1 (since next ps))) (sym e) on) in
            omega (arith, on', count_parts older older ps);
        behind = λ lt. let b : before older ps ≡ before next ps ++ next ∷ [] = ap (λ (x : ℕ). before x ps) e ∙ step.0 in
            subst (λ (x : List ℕ). 0 < count_on next x) (sym b) (omega (arith, sum_by-append (λ (x : ℕ). cond (eqb next x) 1 0) (before next ps) (next ∷ []), count_same next next [] refl));
      };
      places = h.places;
      fits = omega (arith, open_none, h.fits);
      within = h.within;
      limit = h.limit;
    }

pub taken_is : (s : Stacked) (k next older held room : ℕ) (w : Watch) → IsWalked s (Some k) next 0 held room → 0 < next → older ≡ first_of (drop 1 (since next (stack_at s k))) → held_at s.cells next ≡ w ∷ [] → IsTaken (seen s (Some k) next 0 room) (seen s (Some k) older next room) w
taken_is s k next older held room w h some e holds =
    let ps : List ℕ = stack_at s k in
    let there : 0 < count_on next ps = h.along.there some in
    let step = step_before ps next there (zero_off s k h.apart) (λ q. once_on s k q h.apart) in
    let b : before older ps ≡ before next ps ++ next ∷ [] = ap (λ (x : ℕ). before x ps) e ∙ step.0 in
    let a : since older ps ≡ drop 1 (since next ps) = ap (λ (x : ℕ). since x ps) e ∙ step.1 in
    let shows : without next (before older ps) ≡ before next ps = ap (without next) b ∙ without_last next (before next ps) (count_before next ps) in
    let here : get_or (lists_in s (Some k) older next) k [] ≡ get_or (lists_in s (Some k) next 0) k [] =
    list_here s k older next h.along.known ∙ ap (held_on s.cells) (shows ∙ sym (no_hole s k next h.apart)) ∙ sym (list_here s k next 0 h.along.known)
    in
    let ahead : ahead_in s (Some k) next ≡ w ∷ ahead_in s (Some k) older =
    ap (held_on s.cells) (since_begins next ps there) ∙ ap (λ (x : List Watch). x ++ held_on s.cells (drop 1 (since next ps))) holds ∙ ap (λ (x : List ℕ). w ∷ held_on s.cells x) (sym a)
    in
    let more : IsWalked s (Some k) older next held room = taken_walked s k next older held room h some e in
    let old_entries : entries (seen s (Some k) next 0 room) + open_at 0 ≡ held = entries_are s (Some k) next 0 held room h in
    let new_entries : entries (seen s (Some k) older next room) + open_at next ≡ held = entries_are s (Some k) older next held room more in
    let len : length (ahead_in s (Some k) next) ≡ suc (length (ahead_in s (Some k) older)) = ap length ahead in
    record {
      keys = keys_are s (Some k) older next ∙ sym (keys_are s (Some k) next 0);
      lists = λ j. by_eq j k
          (λ x. subst (λ (i : ℕ). AreSame (get_or (lists_in s (Some k) older next) i []) (get_or (lists_in s (Some k) next 0) i [])) (sym x) (same_of (get_or (lists_in s (Some k) older next) k []) (get_or (lists_in s (Some k) next 0) k []) here))
          (λ ne. same_of (get_or (lists_in s (Some k) older next) j []) (get_or (lists_in s (Some k) next 0) j []) (list_other s k older next j ne ∙ sym (list_other s k next 0 j ne)));
      ahead = same_of (ahead_in s (Some k) next) (w ∷ ahead_in s (Some k) older) ahead;
      shorter = omega (arith, len);
      walked = refl;
      room = refl;
      free = omega (arith, open_none, open_some next some, new_entries, h.fits);
      entries = omega (arith, open_none, open_some next some, old_entries, new_entries);
    }

-- the calls of a walk first fill the hole
pub filled_taken : (old new : Stacked) (walked : Option ℕ) (next hole held left room : ℕ) (f : Family) (w : Watch) → IsWalked old walked next hole held room → IsFilled old new walked next hole → left + open_at hole ≡ held → IsTaken (seen new walked next 0 room) f w → IsTaken (seen old walked next hole room) f w
filled_taken old new walked next hole held left room f w h fill e t =
    let old_entries : entries (seen old walked next hole room) + open_at hole ≡ held = entries_are old walked next hole held room h in
    let new_entries : entries (seen new walked next 0 room) + open_at 0 ≡ left = entries_are new walked next 0 left room (filled_walked old new walked next hole held left room h fill e) in
    record {
      keys = t.keys ∙ keys_are new walked next 0 ∙ fill.keys ∙ sym (keys_are old walked next hole);
      lists = λ k p. t.lists k p ∙ fill.lists k p;
      ahead = λ p. sym (fill.ahead p) ∙ t.ahead p;
      shorter = omega (arith, t.shorter, same_length (ahead_in new walked next) (ahead_in old walked next) fill.ahead);
      walked = t.walked;
      room = t.room;
      free = t.free;
      entries = omega (arith, open_none, e, t.entries, old_entries, new_entries);
    }

pub ended_walked : (s : Stacked) (walked : Option ℕ) (next held room : ℕ) → IsWalked s walked next 0 held room → IsWalked s None 0 0 held room
ended_walked s walked next held room h = record { apart = h.apart; along = (refl, refl); places = h.places; fits = h.fits; within = h.within; limit = h.limit }

pub ended_is : (old new : Stacked) (k next hole held left room : ℕ) → IsWalked old (Some k) next hole held room → IsFilled old new (Some k) next hole → left + open_at hole ≡ held → IsEnded (seen old (Some k) next hole room) (seen new None 0 0 room) k
ended_is old new k next hole held left room h fill e =
    let ps : List ℕ = stack_at new k in
    let mid : IsWalked new (Some k) next 0 left room = filled_walked old new (Some k) next hole held left room h fill e in
    let whole : get_or (lists_in new None 0 0) k [] ≡ held_on new.cells (before next ps) ++ held_on new.cells (since next ps) =
    list_plain new k ∙ ap (held_on new.cells) (sym (before_since next ps)) ∙ held_append new.cells (before next ps) (since next ps)
    in
    let shows : get_or (lists_in new (Some k) next 0) k [] ≡ held_on new.cells (before next ps) = list_here new k next 0 mid.along.known ∙ ap (held_on new.cells) (no_hole new k next mid.apart) in
    record {
      keys = keys_are new None 0 0 ∙ fill.keys ∙ sym (keys_are old (Some k) next hole);
      here = λ t. let parts : count_by t (get_or (lists_in new None 0 0) k []) ≡ count_by t (held_on new.cells (before next ps)) + count_by t (ahead_in new (Some k) next) =
          ap (count_by t) whole ∙ sum_by-append (λ (x : Watch). cond (t x) 1 0) (held_on new.cells (before next ps)) (held_on new.cells (since next ps))
          in
          let behind : count_by t (get_or (lists_in new (Some k) next 0) k []) ≡ count_by t (held_on new.cells (before next ps)) = ap (count_by t) shows in
          omega (arith, parts, behind, fill.lists k t, fill.ahead t, sum_by-append (λ (x : Watch). cond (t x) 1 0) (ahead_in old (Some k) next) (get_or (lists_in old (Some k) next hole) k []));
      others = λ j ne t. ap (count_by t) (list_plain new j ∙ sym (list_other new k next 0 j ne)) ∙ fill.lists j t;
      ahead = refl;
      walked = refl;
      room = refl;
      entries = omega (arith, open_none, e, entries_are new None 0 0 left room (ended_walked new (Some k) next left room mid), entries_are old (Some k) next hole held room h);
    }

-- a watch goes into the hole
pub kept_walked : (s : Stacked) (k next hole held room : ℕ) (w : Watch) → IsWalked s (Some k) next hole held room → 0 < hole → held < room + open_at hole → AreApart (record s { cells = set s.cells hole w }) → IsWalked (record s { cells = set s.cells hole w }) (Some k) next 0 held room
kept_walked s k next hole held room w h some free b = record {
  apart = b;
  along = record { known = h.along.known; there = h.along.there; behind = λ lt. absurd (omega (arith, lt)) };
  places = h.places;
  fits = omega (arith, open_none, open_some hole some, free);
  within = h.within;
  limit = h.limit;
}

pub kept_is : (s : Stacked) (k next hole held room : ℕ) (w : Watch) → IsWalked s (Some k) next hole held room → 0 < hole → held < room + open_at hole → AreApart (record s { cells = set s.cells hole w }) → IsPushed (seen s (Some k) next hole room) (seen (record s { cells = set s.cells hole w }) (Some k) next 0 room) k w
kept_is s k next hole held room w h some free b =
    let new : Stacked = record s { cells = set s.cells hole w } in
    let ps : List ℕ = stack_at s k in
    let behind : 0 < count_on hole (before next ps) = h.along.behind some in
    let once : count_on hole ps ≤ 1 = once_on s k hole h.apart in
    let parts : count_on hole (before next ps) + count_on hole (since next ps) ≡ count_on hole ps = count_parts hole next ps in
    let within : hole < length s.cells = holds_one s k hole h.apart (omega (arith, behind, parts)) in
    let shows : List ℕ = without hole (before next ps) in
    let off : count_on hole shows ≡ 0 = omega (arith, once, parts, count_without hole (before next ps) behind) in
    record {
      keys = keys_are new (Some k) next 0 ∙ sym (keys_are s (Some k) next hole);
      here = λ t. let now : count_by t (get_or (lists_in new (Some k) next 0) k []) ≡ count_by t (held_on new.cells (before next ps)) = ap (count_by t) (list_here new k next 0 h.along.known ∙ ap (held_on new.cells) (no_hole new k next b)) in
          let was : count_by t (get_or (lists_in s (Some k) next hole) k []) ≡ count_by t (held_on s.cells shows) = ap (count_by t) (list_here s k next hole h.along.known) in
          let here : count_by t (held_at new.cells hole) ≡ count_by t (w ∷ []) = ap (count_by t) (held_set_same s.cells hole w within) in
          let rest : count_by t (held_on new.cells shows) ≡ count_by t (held_on s.cells shows) = ap (count_by t) (held_elsewhere s.cells hole w shows off) in
          omega (arith, now, was, here, rest, held_without t new.cells hole (before next ps) behind, sum_by-append (λ (x : Watch). cond (t x) 1 0) (w ∷ []) (get_or (lists_in s (Some k) next hole) k []));
      others = λ j ne. same_of (get_or (lists_in new (Some k) next 0) j []) (get_or (lists_in s (Some k) next hole) j [])
          (list_other new k next 0 j ne ∙ held_elsewhere s.cells hole w (stack_at s j) (omega (arith, behind, parts, h.apart.once hole, count_two hole s.stacks k j (λ e. ne (sym e)))) ∙ sym (list_other s k next hole j ne));
      ahead = same_of (ahead_in new (Some k) next) (ahead_in s (Some k) next) (held_elsewhere s.cells hole w (since next ps) (omega (arith, behind, once, parts)));
      walked = refl;
      room = refl;
      entries = omega (arith, open_none, open_some hole some, entries_are s (Some k) next hole held room h, entries_are new (Some k) next 0 held room (kept_walked s k next hole held room w h some free b));
    }

-- a watch is pushed on a place that was on no stack
place_above : (new : Stacked) (key p : ℕ) (ps : List ℕ) → AreApart new → stack_at new key ≡ p ∷ ps → 0 < p
place_above new key p ps b e =
    let on : count_on p (stack_at new key) ≡ 1 + count_on p ps = ap (count_on p) e ∙ count_same p p ps refl in
    (b.within p (omega (arith, on, count_at p new.stacks key))).0

places_off : (s : Stacked) (walked : Option ℕ) (next hole p : ℕ) → IsAlong s walked next hole → count_on_all p s.stacks ≡ 0 → 0 < p → (next ≢ p) × (hole ≢ p)
places_off s None next hole p a z some = (λ e. omega (arith, a.0, some, e), λ e. omega (arith, a.1, some, e))
places_off s (Some k) next hole p a z some = (
  λ e. let lt : 0 < count_on p (stack_at s k) = subst (λ (x : ℕ). 0 < count_on x (stack_at s k)) e (a.there (omega (arith, some, e))) in
      omega (arith, lt, z, count_at p s.stacks k),
  λ e. let lt : 0 < count_on p (before next (stack_at s k)) = subst (λ (x : ℕ). 0 < count_on x (before next (stack_at s k))) e (a.behind (omega (arith, some, e))) in
      omega (arith, lt, z, count_at p s.stacks k, count_parts p next (stack_at s k)),
)

-- what the new stacks have of the old ones
record IsGrown (old new : Stacked) (key : ℕ) (w : Watch) : Type 0 where
  place : ℕ
  some : 0 < place
  off : count_on_all place old.stacks ≡ 0
  keys : length new.stacks ≡ length old.stacks
  here : stack_at new key ≡ place ∷ stack_at old key
  others : (k : ℕ) → k ≢ key → stack_at new k ≡ stack_at old k
  holds : held_at new.cells place ≡ w ∷ []
  same : (k : ℕ) (ps : List ℕ) → ((q : ℕ) → count_on q ps ≤ count_on q (stack_at old k)) → held_on new.cells ps ≡ held_on old.cells ps
  places : places_of new ≡ places_of old + 1
  room : new.room ≡ old.room

grown_from : (old new : Stacked) (key : ℕ) (w : Watch) → AreApart old → AreApart new → key < length old.stacks → IsAdded old new key w → IsGrown old new key w
grown_from old new key w a b lt added =
    let p : ℕ = added.place in
    let here : stack_at new key ≡ p ∷ stack_at old key = ap (λ (x : List (List ℕ)). get_or x key []) added.stacks ∙ get_or-set_same old.stacks key (p ∷ stack_at old key) [] lt in
    let sums : places_of new ≡ sum_by length (set old.stacks key (p ∷ stack_at old key)) = ap (λ (x : List (List ℕ)). sum_by length x) added.stacks in
    record {
      place = p;
      some = place_above new key p (stack_at old key) b here;
      off = added.unused;
      keys = ap length added.stacks ∙ length-set old.stacks key (p ∷ stack_at old key);
      here = here;
      others = λ k ne. ap (λ (x : List (List ℕ)). get_or x k []) added.stacks ∙ get_or-set_other old.stacks key k (p ∷ stack_at old key) [] ne;
      holds = added.holds;
      same = λ k ps le. held_agree old.cells new.cells ps (λ q on.
          let there : 0 < count_on_all q old.stacks = omega (arith, on, le q, count_at q old.stacks k) in
          added.others q (λ e. let z : count_on_all q old.stacks ≡ 0 = ap (λ (x : ℕ). count_on_all x old.stacks) e ∙ added.unused in omega (arith, there, z)) (a.within q there).1);
      places = omega (arith, sums, sum_by-set (λ (x : List ℕ). length x) old.stacks key (p ∷ stack_at old key) [] lt);
      room = added.room;
    }

grown_along : (old new : Stacked) (walked : Option ℕ) (next hole key : ℕ) (w : Watch) → IsAlong old walked next hole → IsGrown old new key w → IsAlong new walked next hole
grown_along old new None next hole key w a g = a
grown_along old new (Some k) next hole key w a g =
    let ne = places_off old (Some k) next hole g.place a g.off g.some in
    by_eq k key
    (λ e. let here : stack_at new k ≡ g.place ∷ stack_at old k = subst (λ (x : ℕ). stack_at new x ≡ g.place ∷ stack_at old x) (sym e) g.here in
    let b : before next (stack_at new k) ≡ g.place ∷ before next (stack_at old k) = ap (before next) here ∙ before_other next g.place (stack_at old k) ne.0 in
    record {
      known = omega (arith, g.keys, a.known);
      there = λ lt. subst (λ (x : List ℕ). 0 < count_on next x) (sym here) (omega (arith, a.there lt, count_more next g.place (stack_at old k)));
      behind = λ lt. subst (λ (x : List ℕ). 0 < count_on hole x) (sym b) (omega (arith, a.behind lt, count_more hole g.place (before next (stack_at old k))));
    })
    (λ nk. let here : stack_at new k ≡ stack_at old k = g.others k nk in
    record {
      known = omega (arith, g.keys, a.known);
      there = λ lt. subst (λ (x : List ℕ). 0 < count_on next x) (sym here) (a.there lt);
      behind = λ lt. subst (λ (x : List ℕ). 0 < count_on hole (before next x)) (sym here) (a.behind lt);
    })

grown_ahead : (old new : Stacked) (walked : Option ℕ) (next hole key : ℕ) (w : Watch) → IsAlong old walked next hole → IsGrown old new key w → ahead_in new walked next ≡ ahead_in old walked next
grown_ahead old new None next hole key w a g = refl
grown_ahead old new (Some k) next hole key w a g =
    let ne = places_off old (Some k) next hole g.place a g.off g.some in
    let same : held_on new.cells (since next (stack_at old k)) ≡ held_on old.cells (since next (stack_at old k)) = g.same k (since next (stack_at old k)) (λ q. omega (arith, count_parts q next (stack_at old k))) in
    by_eq k key
    (λ e. let here : stack_at new k ≡ g.place ∷ stack_at old k = subst (λ (x : ℕ). stack_at new x ≡ g.place ∷ stack_at old x) (sym e) g.here in
    ap (λ (x : List ℕ). held_on new.cells (since next x)) here ∙ ap (held_on new.cells) (since_other next g.place (stack_at old k) ne.0) ∙ same)
    (λ nk. ap (λ (x : List ℕ). held_on new.cells (since next x)) (g.others k nk) ∙ same)

grown_same : (old new : Stacked) (walked : Option ℕ) (next hole key j : ℕ) (w : Watch) → IsGrown old new key w → held_on new.cells (shown walked next hole j (stack_at old j)) ≡ held_on old.cells (shown walked next hole j (stack_at old j))
grown_same old new walked next hole key j w g = g.same j (shown walked next hole j (stack_at old j)) (λ q. shown_le walked next hole j q (stack_at old j))

pub pushed_walked : (old new : Stacked) (walked : Option ℕ) (next hole held room key : ℕ) (w : Watch) → IsWalked old walked next hole held room → AreApart new → key < length old.stacks → held < room + open_at hole → IsAdded old new key w → IsWalked new walked next hole (held + 1) room
pushed_walked old new walked next hole held room key w h b lt free added =
    let g : IsGrown old new key w = grown_from old new key w h.apart b lt added in
    record {
      apart = b;
      along = grown_along old new walked next hole key w h.along g;
      places = omega (arith, h.places, g.places);
      fits = omega (arith, free);
      within = omega (arith, h.within, g.room);
      limit = h.limit;
    }

pub pushed_is : (old new : Stacked) (walked : Option ℕ) (next hole held room key : ℕ) (w : Watch) → IsWalked old walked next hole held room → AreApart new → key < length old.stacks → held < room + open_at hole → IsAdded old new key w → IsPushed (seen old walked next hole room) (seen new walked next hole room) key w
pushed_is old new walked next hole held room key w h b lt free added =
    let g : IsGrown old new key w = grown_from old new key w h.apart b lt added in
    let ne = places_off old walked next hole g.place h.along g.off g.some in
    let more : IsWalked new walked next hole (held + 1) room = pushed_walked old new walked next hole held room key w h b lt free added in
    let stays : (j : ℕ) → held_on new.cells (shown walked next hole j (stack_at old j)) ≡ get_or (lists_in old walked next hole) j [] = λ j. grown_same old new walked next hole key j w g ∙ sym (list_shown old walked next hole j h.along) in
    let here : get_or (lists_in new walked next hole) key [] ≡ w ∷ get_or (lists_in old walked next hole) key [] =
    list_shown new walked next hole key more.along ∙ ap (λ (x : List ℕ). held_on new.cells (shown walked next hole key x)) g.here ∙ ap (held_on new.cells) (shown_add walked next hole key g.place (stack_at old key) ne.0 ne.1) ∙ ap (λ (x : List Watch). x ++ held_on new.cells (shown walked next hole key (stack_at old key))) g.holds ∙ ap (λ (x : List Watch). w ∷ x) (stays key)
    in
    record {
      keys = keys_are new walked next hole ∙ g.keys ∙ sym (keys_are old walked next hole);
      here = same_of (get_or (lists_in new walked next hole) key []) (w ∷ get_or (lists_in old walked next hole) key []) here;
      others = λ j nj. same_of (get_or (lists_in new walked next hole) j []) (get_or (lists_in old walked next hole) j []) (list_shown new walked next hole j more.along ∙ ap (λ (x : List ℕ). held_on new.cells (shown walked next hole j x)) (g.others j nj) ∙ stays j);
      ahead = same_of (ahead_in new walked next) (ahead_in old walked next) (grown_ahead old new walked next hole key w h.along g);
      walked = refl;
      room = refl;
      entries = omega (arith, entries_are old walked next hole held room h, entries_are new walked next hole (held + 1) room more);
    }

-- more keys
no_places : List ℕ
no_places = []

blank_at : (n k : ℕ) → get_or (replicate n no_places) k no_places ≡ no_places
blank_at zero k = refl
blank_at (suc n) zero = refl
blank_at (suc n) (suc k) = blank_at n k

more_at : (ss : List (List ℕ)) (n k : ℕ) → get_or (ss ++ replicate n []) k [] ≡ get_or ss k []
unfolding no_places
more_at [] n k = blank_at n k
more_at (ps ∷ ss) n zero = refl
more_at (ps ∷ ss) n (suc k) = more_at ss n k

more_places : (n : ℕ) → sum_by length (replicate n (let e : List ℕ = [] in e)) ≡ 0
more_places zero = refl
more_places (suc n) = more_places n

more_length : (n : ℕ) → length (replicate n (let e : List ℕ = [] in e)) ≡ n
more_length zero = refl
more_length (suc n) = ap suc (more_length n)

abbrev more_keys : Stacked → ℕ → Stacked
more_keys s n = record s { stacks = s.stacks ++ replicate (n - length s.stacks) [] }

more_known : (s : Stacked) (n : ℕ) → length (more_keys s n).stacks ≡ max (length s.stacks) n
more_known s n = omega (arith, length-append s.stacks (replicate (n - length s.stacks) []), more_length (n - length s.stacks))

more_along : (s : Stacked) (walked : Option ℕ) (next hole n : ℕ) → IsAlong s walked next hole → IsAlong (more_keys s n) walked next hole
more_along s None next hole n a = a
more_along s (Some k) next hole n a =
    let same : stack_at (more_keys s n) k ≡ stack_at s k = more_at s.stacks (n - length s.stacks) k in
    record {
      known = omega (arith, a.known, more_known s n);
      there = λ lt. subst (λ (x : List ℕ). 0 < count_on next x) (sym same) (a.there lt);
      behind = λ lt. subst (λ (x : List ℕ). 0 < count_on hole (before next x)) (sym same) (a.behind lt);
    }

more_ahead : (s : Stacked) (walked : Option ℕ) (next n : ℕ) → ahead_in (more_keys s n) walked next ≡ ahead_in s walked next
more_ahead s None next n = refl
more_ahead s (Some k) next n = ap (λ (x : List ℕ). held_on s.cells (since next x)) (more_at s.stacks (n - length s.stacks) k)

pub more_walked : (s : Stacked) (walked : Option ℕ) (next hole held room n : ℕ) → IsWalked s walked next hole held room → AreApart (more_keys s n) → IsWalked (more_keys s n) walked next hole held room
more_walked s walked next hole held room n h b = record {
  apart = b;
  along = more_along s walked next hole n h.along;
  places = omega (arith, h.places, sum_by-append (λ (x : List ℕ). length x) s.stacks (replicate (n - length s.stacks) []), more_places (n - length s.stacks));
  fits = h.fits;
  within = h.within;
  limit = h.limit;
}

pub more_is : (s : Stacked) (walked : Option ℕ) (next hole held room n : ℕ) → IsWalked s walked next hole held room → AreApart (more_keys s n) → HasKeys (seen s walked next hole room) (seen (more_keys s n) walked next hole room) n
more_is s walked next hole held room n h b =
    let more : IsWalked (more_keys s n) walked next hole held room = more_walked s walked next hole held room n h b in
    record {
      keys = omega (arith, keys_are s walked next hole, keys_are (more_keys s n) walked next hole, more_known s n);
      lists = λ j. same_of (get_or (lists_in (more_keys s n) walked next hole) j []) (get_or (lists_in s walked next hole) j [])
          (list_shown (more_keys s n) walked next hole j more.along ∙ ap (λ (x : List ℕ). held_on s.cells (shown walked next hole j x)) (more_at s.stacks (n - length s.stacks) j) ∙ sym (list_shown s walked next hole j h.along));
      ahead = same_of (ahead_in (more_keys s n) walked next) (ahead_in s walked next) (more_ahead s walked next n);
      walked = refl;
      room = refl;
      entries = omega (arith, entries_are (more_keys s n) walked next hole held room more, entries_are s walked next hole held room h);
    }

-- the calls, whichever list is walked
first_on : (p : ℕ) (ps : List ℕ) → 0 < count_on p ps → 0 < count_on (first_of ps) ps
first_on p [] lt = absurd (omega (arith, lt))
first_on p (q ∷ ps) lt = omega (arith, count_same q q ps refl)

pub newest_holds : (s : Stacked) (k p newest : ℕ) → AreApart s → 0 < count_on p (stack_at s k) → newest ≡ first_of (stack_at s k) → newest < length s.cells
newest_holds s k p newest a there e = subst (λ (x : ℕ). x < length s.cells) (sym e) (holds_one s k (first_of (stack_at s k)) a (first_on p (stack_at s k) there))

pub next_holds : (s : Stacked) (walked : Option ℕ) (next hole : ℕ) → AreApart s → IsAlong s walked next hole → 0 < next → next < length s.cells
next_holds s None next hole a along some = absurd (omega (arith, some, along.0))
next_holds s (Some k) next hole a along some = holds_one s k next a (along.there some)

pub hole_holds : (s : Stacked) (walked : Option ℕ) (next hole : ℕ) → AreApart s → IsAlong s walked next hole → 0 < hole → hole < length s.cells
hole_holds s None next hole a along some = absurd (omega (arith, some, along.1))
hole_holds s (Some k) next hole a along some = holds_one s k hole a (omega (arith, along.behind some, count_parts hole next (stack_at s k)))

pub ahead_none : (s : Stacked) (walked : Option ℕ) (next : ℕ) → AreApart s → next ≡ 0 → ahead_in s walked next ≡ []
ahead_none s None next a z = refl
ahead_none s (Some k) next a z = ap (λ (x : ℕ). held_on s.cells (since x (stack_at s k))) z ∙ ap (held_on s.cells) (since_none 0 (stack_at s k) (zero_off s k a))

older_is : (s : Stacked) (k next older : ℕ) → 0 < count_on next (stack_at s k) → ((key : ℕ) (front rest : List ℕ) → stack_at s key ≡ front ++ next ∷ rest → older ≡ first_of rest) → older ≡ first_of (drop 1 (since next (stack_at s k)))
older_is s k next older there h =
    h k (before next (stack_at s k)) (drop 1 (since next (stack_at s k))) (sym (ap (λ (x : List ℕ). before next (stack_at s k) ++ x) (sym (since_begins next (stack_at s k) there)) ∙ before_since next (stack_at s k)))

pub next_walked : (s : Stacked) (walked : Option ℕ) (next older held room : ℕ) → IsWalked s walked next 0 held room → 0 < next → ((key : ℕ) (front rest : List ℕ) → stack_at s key ≡ front ++ next ∷ rest → older ≡ first_of rest) → IsWalked s walked older next held room
next_walked s None next older held room h some older_of = absurd (omega (arith, some, h.along.0))
next_walked s (Some k) next older held room h some older_of = taken_walked s k next older held room h some (older_is s k next older (h.along.there some) older_of)

next_taken : (s : Stacked) (walked : Option ℕ) (next older held room : ℕ) (w : Watch) → IsWalked s walked next 0 held room → 0 < next → ((key : ℕ) (front rest : List ℕ) → stack_at s key ≡ front ++ next ∷ rest → older ≡ first_of rest) → held_at s.cells next ≡ w ∷ [] → IsTaken (seen s walked next 0 room) (seen s walked older next room) w
next_taken s None next older held room w h some older_of holds = absurd (omega (arith, some, h.along.0))
next_taken s (Some k) next older held room w h some older_of holds = taken_is s k next older held room w h some (older_is s k next older (h.along.there some) older_of) holds

pub next_is : (old new : Stacked) (walked : Option ℕ) (next hole older held left room : ℕ) (w : Watch) → IsWalked old walked next hole held room → IsFilled old new walked next hole → left + open_at hole ≡ held → 0 < next → ((key : ℕ) (front rest : List ℕ) → stack_at new key ≡ front ++ next ∷ rest → older ≡ first_of rest) → held_at new.cells next ≡ w ∷ [] → IsTaken (seen old walked next hole room) (seen new walked older next room) w
next_is old new walked next hole older held left room w h fill e some older_of holds =
    filled_taken old new walked next hole held left room (seen new walked older next room) w h fill e (next_taken new walked next older left room w (filled_walked old new walked next hole held left room h fill e) some older_of holds)

pub end_is : (old new : Stacked) (walked : Option ℕ) (next hole held left room : ℕ) → IsWalked old walked next hole held room → IsFilled old new walked next hole → left + open_at hole ≡ held → IfSome walked (λ key. IsEnded (seen old walked next hole room) (seen new None 0 0 room) key)
end_is old new None next hole held left room h fill e = tt
end_is old new (Some k) next hole held left room h fill e = ended_is old new k next hole held left room h fill e

pub keep_walked : (s : Stacked) (walked : Option ℕ) (next hole held room : ℕ) (w : Watch) → IsWalked s walked next hole held room → 0 < hole → held < room + open_at hole → AreApart (record s { cells = set s.cells hole w }) → IsWalked (record s { cells = set s.cells hole w }) walked next 0 held room
keep_walked s None next hole held room w h some free b = absurd (omega (arith, some, h.along.1))
keep_walked s (Some k) next hole held room w h some free b = kept_walked s k next hole held room w h some free b

pub keep_is : (s : Stacked) (walked : Option ℕ) (next hole held room : ℕ) (w : Watch) → IsWalked s walked next hole held room → 0 < hole → held < room + open_at hole → AreApart (record s { cells = set s.cells hole w }) → IfSome walked (λ key. IsPushed (seen s walked next hole room) (seen (record s { cells = set s.cells hole w }) walked next 0 room) key w)
keep_is s None next hole held room w h some free b = tt
keep_is s (Some k) next hole held room w h some free b = kept_is s k next hole held room w h some free b

pub count_is : (s : Stacked) (walked : Option ℕ) (next hole held room : ℕ) (f : Family) → IsWalked s walked next hole held room → seen s walked next hole room ≡ f → entries f + open_at hole ≡ held
count_is s walked next hole held room f h e = subst (λ (x : Family). entries x + open_at hole ≡ held) e (entries_are s walked next hole held room h)

pub count_closed : (s : Stacked) (walked : Option ℕ) (next hole held room : ℕ) (f : Family) → IsWalked s walked next hole held room → seen s walked next hole room ≡ f → hole ≡ 0 → held ≡ entries f
count_closed s walked next hole held room f h e z = omega (arith, open_none, ap open_at z, count_is s walked next hole held room f h e)

pub count_open : (s : Stacked) (walked : Option ℕ) (next hole held room : ℕ) (f : Family) → IsWalked s walked next hole held room → seen s walked next hole room ≡ f → 0 < hole → held ≡ entries f + 1
count_open s walked next hole held room f h e some = omega (arith, open_some hole some, count_is s walked next hole held room f h e)

pub count_fits : (s : Stacked) (walked : Option ℕ) (next hole held count room : ℕ) (f : Family) → IsWalked s walked next hole held room → seen s walked next hole room ≡ f → count ≡ entries f → count ≤ room
count_fits s walked next hole held count room f h e is = omega (arith, is, h.fits, count_is s walked next hole held room f h e)

-- what a caller knows of the family, said of the fields
pub key_is : (s : Stacked) (walked : Option ℕ) (next hole room key : ℕ) (f : Family) → seen s walked next hole room ≡ f → key < length f.lists → key < length s.stacks
key_is s walked next hole room key f e lt = let n : length (lists_in s walked next hole) ≡ length f.lists = ap (λ (x : Family). length x.lists) e in omega (arith, lt, n, keys_are s walked next hole)

pub free_is : (s : Stacked) (walked : Option ℕ) (next hole held room : ℕ) (f : Family) → IsWalked s walked next hole held room → seen s walked next hole room ≡ f → entries f < f.room → held < room + open_at hole
free_is s walked next hole held room f h e lt = let r : room ≡ f.room = ap (λ (x : Family). x.room) e in omega (arith, lt, r, count_is s walked next hole held room f h e)

pub open_le : (hole : ℕ) → open_at hole ≤ 1
open_le hole = by_eq hole 0 (λ e. omega (arith, open_none, ap open_at e)) (λ ne. omega (arith, open_some hole (omega (arith, ne))))

pub free_place : (s : Stacked) (walked : Option ℕ) (next hole held room : ℕ) → IsWalked s walked next hole held room → held < room + open_at hole → places_of s < s.room
free_place s walked next hole held room h free = omega (arith, h.places, h.within, open_le hole, entries_are s walked next hole held room h, free)

pub begin_is : (s : Stacked) (walked : Option ℕ) (next hole held room key first : ℕ) → IsNone walked → IsWalked s walked next hole held room → key < length s.stacks → first ≡ first_of (stack_at s key) → IsBegun (seen s walked next hole room) (seen s (Some key) first hole room) key
begin_is s None next hole held room key first idle h lt e = subst (λ (x : ℕ). IsBegun (seen s None next hole room) (seen s (Some key) x hole room) key) (sym e) (begun_is s next hole held room key h lt)
begin_is s (Some k) next hole held room key first idle h lt e = absurd (true≢false idle)
