-- Clauses of at most one literal, and the pending one, over plain variables.
use Rattle.std.proofs.lemmas.Bool.Decides.{nat_tests}
use Rattle.std.specs.Prelude.{nat_lt}
use Rattle.std.proofs.Common.{◌≡◌, ◌≢◌, ◌⊎◌, inl, inr, ◌<◌, ◌≤◌, ◌+◌, ◌-◌, max, ℕ, Bool, true, false, cond, ◌==◌, List, [], ◌∷◌, ◌++◌, Some, None, refl, sym, ◌∙◌, ap, subst, arith, length, get_or, take}
use Rattle.std.specs.List.{count_by}
use Rattle.sr_base.specs.Literal.{Literal, plus, variable, complement, has}
use Rattle.sr_base.proofs.Literals.{same_tells, has_append}
use Rattle.sr_arena.specs.Cells.{Memory, cell_at}
use Rattle.sr_model.specs.Refutation.{is_empty}
use Rattle.sr_model.proofs.Soundness.{by_test}
use Rattle.sr_lists.specs.declared.blocks.Watch.{Watch}
use Rattle.sr_lists.specs.Family.{Family, list_at, IsPushed, IsBegun, IsTaken, IsEnded}
use Rattle.sr_watch.specs.declared.watches.Watches.{Watches}
use Rattle.sr_watch.specs.declared.watches.TheConstants.{UNSEEN, SEEN}
use Rattle.sr_watch.specs.State.{Slot, IsSound, IsAttached, IsForcedBy}
use Rattle.sr_watch.specs.Marks.{joined}
use Rattle.sr_watch.specs.Trail.{Entries, place_in}
use Rattle.sr_watch.specs.Scanning.{IsSettled, IsSingle}
use Rattle.sr_watch.specs.Running.{IsNext}
use Rattle.sr_watch.specs.Watching.{SomeTrue, IsGuarded, IsStuck, is_short, on_side, clause_on, is_of, is_stray, times, left_of, AreStocked, AreLinked}
use Rattle.sr_watch.specs.Walking.{IsGrown, AreReasonsOnly, AreReasonsOn, HasSameShape}
use Rattle.sr_watch.specs.Resting.{is_pending, IsSeen, IsReason, AreShortListed, AreShortTrue, IsPending, IsResting}
use Rattle.sr_watch.proofs.Entries.{by_eq}
use Rattle.sr_watch.proofs.Places.{place_le, place_true, place_some}
use Rattle.sr_watch.proofs.Derivations.{has_longer}
use Rattle.sr_watch.proofs.Shorts.{reason_within, reason_kept, reason_true, no_news, news_here, news_on, short_few, blocker_single, not_reason, shorts_grown, carried_cells, includes_same, none_new}
use Rattle.sr_watch.proofs.Slots.{slot_is}
use Rattle.sr_watch.proofs.Walks.{some_more}
use Rattle.sr_watch.proofs.Listing.{count_cons, count_append, listed_short, listed_taken, listed_short_begun, listed_short_ended}
use Rattle.sr_watch.proofs.Visits.{within_cells, clause_here, none_guarded, stocked_dropped, stocked_pushed, grown_start}
use Rattle.sr_watch.proofs.Rests.{guard_grown, guards_grown}
use Rattle.sr_watch.proofs.OnWalk.{includes_take, includes_kept, take_kept, grown_longer, grown_on, stocked_taken, stocked_begun, stocked_ended, true_to_clause}

-- a settled clause that leaves one literal at most is true
pub settled_stuck : (ls c : List Literal) → IsSettled ls c → IsStuck ls c → SomeTrue ls c
settled_stuck ls [] x s = let f : is_empty [] ≡ false = x.some in absurd cc
settled_stuck ls (l ∷ c) x s = by_test (has s.left (l ∷ c))
    (λ t. record { literal = s.left; of_clause = t; is_true = x.closed s.left t (λ k h ne. s.others k h ne) })
    (λ f. let here : has l (l ∷ c) ≡ true = grind (arith, same_tells l l) in
    record { literal = l; of_clause = here; is_true = x.closed l here (λ k h ne. s.others k h (λ e. let g : has s.left (l ∷ c) ≡ true = subst (λ j. has j (l ∷ c) ≡ true) e h in absurd cc)) })

pub short_stuck : (ls c : List Literal) → is_short c ≡ true → IsStuck ls c
short_stuck ls [] s = record { left = plus 0; others = λ k h ne. absurd cc }
short_stuck ls (x ∷ []) s = record { left = x; others = λ k h ne. absurd (ne (let e : x ≡ k = grind (arith, same_tells x k) in sym e)) }
short_stuck ls (x ∷ y ∷ c) s = absurd cc

-- the one literal that is left
pub next_single : (m : Memory) (e : Entries) (at : ℕ) (l : Literal) → IsAttached (joined e m) at → 0 < at → IsSingle e.lits (cell_at m at).lits l → IsNext (joined e m) l at
next_single m e at l a some s = record { some = some; attached = a; forced = subst (λ (x : Slot). IsForcedBy x.lits e.lits l) (sym (slot_is m at)) s.forced; open_here = s.open_here }

pub forced_true : (c s : List Literal) (l : Literal) → has l c ≡ true → SomeTrue (s ++ l ∷ []) c
forced_true c s l h = record { literal = l; of_clause = h; is_true = grind (arith, has_append l s (l ∷ []), same_tells l l) }

-- how far the clauses without watches were looked at
pub record IsSettling (core : Bool) (m : Memory) (f0 f : Family) (e0 e : Entries) (shade top : ℕ) : Type 0 where
  pub grown : IsGrown e0 e
  pub sound : IsSound (joined e m)
  pub reasons : AreReasonsOn core m e0 e
  pub keys : length f.lists ≡ length f0.lists
  pub room : f.room ≡ f0.room
  pub at_list : f.walked ≡ Some UNSEEN
  pub stocked : AreStocked core m f f.ahead
  pub linked : AreLinked core m f
  pub shaded : shade ≤ length e.lits
  pub none : (r : ℕ) → times f r UNSEEN ≡ 0
  pub each : (r : ℕ) → on_side core m r ≡ true → is_short (cell_at m r).lits ≡ true → (0 < times f r UNSEEN + left_of f.ahead r) ⊎ (IsSeen m f (take shade e.lits) r ⊎ IsReason e.reasons top r)
  pub light : (r i : ℕ) → 0 < r → get_or e.reasons i 0 ≡ r → on_side core m r ≡ true → is_short (cell_at m r).lits ≡ true → times f r UNSEEN + left_of f.ahead r + times f r SEEN ≤ 1

pub settling_start : (core : Bool) (m : Memory) (f g : Family) (e : Entries) (shade top : ℕ) → IsSound (joined e m) → UNSEEN < length f.lists → IsBegun f g UNSEEN → AreStocked core m f [] → AreLinked core m f → shade ≤ length e.lits
    → AreShortListed core m f (take shade e.lits) e.reasons top → IsSettling core m f g e e shade top
settling_start core m f g e shade top x lt b st li le sh = record {
  grown = grown_start m e x;
  sound = x;
  reasons = no_news core m e;
  keys = b.keys;
  room = b.room;
  at_list = b.walked;
  stocked = stocked_begun core m f g UNSEEN lt b st;
  linked = λ r k o. listed_short_begun f g UNSEEN (omega arith) b r k ∙ li r k o;
  shaded = le;
  none = empty;
  each = λ r o s. go r (sh.each r o s);
  light = λ r i some is o s. omega (arith, sh.light r i some is o s, empty r, b.ahead (is_of r), b.others SEEN (λ e. absurd (omega (arith, e))) (is_of r));
}
  where
    empty : (r : ℕ) → times g r UNSEEN ≡ 0
    empty r = ap (count_by (is_of r)) b.here

    go : (r : ℕ) → (0 < times f r UNSEEN) ⊎ (IsSeen m f (take shade e.lits) r ⊎ IsReason e.reasons top r) → (0 < times g r UNSEEN + left_of g.ahead r) ⊎ (IsSeen m g (take shade e.lits) r ⊎ IsReason e.reasons top r)
    go r (inl a) = inl (omega (arith, a, b.ahead (is_of r)))
    go r (inr (inl t)) = inr (inl (record { is_listed = omega (arith, t.is_listed, b.others SEEN (λ e. absurd (omega (arith, e))) (is_of r)); is_true = t.is_true }))
    go r (inr (inr q)) = inr (inr q)

-- a watch is in hand
hand_other : (w : Watch) (g : Family) (r : ℕ) → w.at ≢ r → left_of (w ∷ g.ahead) r ≡ left_of g.ahead r
hand_other w g r ne = let z : (w.at == r) ≡ false = grind (arith, nat_tests) in let c : cond {A = ℕ} (is_of r w) 1 0 ≡ 0 = rw z refl in omega (arith, count_cons (is_of r) w g.ahead, c)

hand_same : (w : Watch) (g : Family) (r : ℕ) → w.at ≡ r → left_of (w ∷ g.ahead) r ≡ left_of g.ahead r + 1
hand_same w g r e = let z : (w.at == r) ≡ true = grind (arith, nat_tests) in let c : cond {A = ℕ} (is_of r w) 1 0 ≡ 1 = rw z refl in omega (arith, count_cons (is_of r) w g.ahead, c)

taken_left : (f g : Family) (w : Watch) (r : ℕ) → IsTaken f g w → left_of (w ∷ g.ahead) r ≡ left_of f.ahead r
taken_left f g w r t = sym (t.ahead (is_of r))

-- a clause of the other side is dropped
pub settling_dropped : (core : Bool) (m : Memory) (f0 f g : Family) (e0 e : Entries) (shade top : ℕ) (w : Watch) → IsTaken f g w → on_side core m w.at ≡ false → IsSettling core m f0 f e0 e shade top → IsSettling core m f0 g e0 e shade top
settling_dropped core m f0 f g e0 e shade top w t off x = record {
  grown = x.grown;
  sound = x.sound;
  reasons = x.reasons;
  keys = t.keys ∙ x.keys;
  room = t.room ∙ x.room;
  at_list = t.walked ∙ x.at_list;
  stocked = stocked_dropped core m g w g.ahead (stocked_taken core m f g w t x.stocked);
  linked = λ r k o. listed_taken f g w t r k ∙ x.linked r k o;
  shaded = x.shaded;
  none = λ r. t.lists UNSEEN (is_of r) ∙ x.none r;
  each = λ r o s. go r o (x.each r o s);
  light = λ r i some is o s. omega (arith, x.light r i some is o s, left r o, t.lists UNSEEN (is_of r), t.lists SEEN (is_of r));
}
  where
    left : (r : ℕ) → on_side core m r ≡ true → left_of g.ahead r ≡ left_of f.ahead r
    left r o = sym (hand_other w g r (λ e. let o' : on_side core m r ≡ false = subst (λ j. on_side core m j ≡ false) e off in absurd cc)) ∙ taken_left f g w r t

    go : (r : ℕ) → on_side core m r ≡ true → (0 < times f r UNSEEN + left_of f.ahead r) ⊎ (IsSeen m f (take shade e.lits) r ⊎ IsReason e.reasons top r) → (0 < times g r UNSEEN + left_of g.ahead r) ⊎ (IsSeen m g (take shade e.lits) r ⊎ IsReason e.reasons top r)
    go r o (inl a) = inl (omega (arith, a, t.lists UNSEEN (is_of r), left r o))
    go r o (inr (inl s)) = inr (inl (record { is_listed = omega (arith, s.is_listed, t.lists SEEN (is_of r)); is_true = s.is_true }))
    go r o (inr (inr q)) = inr (inr q)

-- one clause was looked at, and isn't false
pub record IsLooked (core : Bool) (m : Memory) (f g : Family) (e d : Entries) (w : Watch) : Type 0 where
  pub taken : IsTaken f g w
  pub on : on_side core m w.at ≡ true
  pub some : 0 < w.at
  pub grown : IsGrown e d
  pub sound : IsSound (joined d m)
  pub only : AreReasonsOnly w.at e d
  pub true_now : is_short (cell_at m w.at).lits ≡ true → SomeTrue d.lits (cell_at m w.at).lits

-- its first look is at a variable that has room
pub blocker_room : (core : Bool) (m : Memory) (f : Family) (d : Entries) (w : Watch) (left : List Watch) → IsSound (joined d m) → AreStocked core m f (w ∷ left) → (is_short (cell_at m w.at).lits ≡ true → SomeTrue d.lits (cell_at m w.at).lits) → variable w.blocker ≤ d.vars
blocker_room core m f d w left x st tr = by_test (has w.blocker (cell_at m w.at).lits) (λ t. within_cells m d x w.at w.blocker t)
    (λ f'. let ok : is_stray m w ≡ false = true_to_clause core m f w left st in
    let none : is_empty (cell_at m w.at).lits ≡ true = by_test (is_empty (cell_at m w.at).lits) (λ t. t) (λ n. let z : is_stray m w ≡ true = rw (f', n) refl in absurd cc) in
    absurd (empty (cell_at m w.at).lits none tr))
  where
    empty : (c : List Literal) → is_empty c ≡ true → (is_short c ≡ true → SomeTrue d.lits c) → ⊥
    empty [] n t = let s = t refl in let h : has s.literal [] ≡ true = s.of_clause in cc
    empty (y ∷ c) n t = cc

-- what was true and a reason stays so
looked_seen : (core : Bool) (m : Memory) (f g h : Family) (e d : Entries) (shade more : ℕ) (w : Watch) (r : ℕ) → IsLooked core m f g e d w → shade ≤ length e.lits → shade ≤ more → times f r SEEN ≤ times h r SEEN → IsSeen m f (take shade e.lits) r → IsSeen m h (take more d.lits) r
looked_seen core m f g h e d shade more w r k le up lists s = record {
  is_listed = omega (arith, s.is_listed, lists);
  is_true = some_more (take shade e.lits) (take more d.lits) (cell_at m r).lits (λ l i. has_longer d.lits shade more l up (subst (λ x. has l x ≡ true) (sym (take_kept e.lits d.lits shade le k.grown.lits)) i)) s.is_true;
}

looked_reason : (core : Bool) (m : Memory) (f g : Family) (e d : Entries) (top more : ℕ) (w : Watch) (r : ℕ) → IsLooked core m f g e d w → top ≤ more → IsReason e.reasons top r → IsReason d.reasons more r
looked_reason core m f g e d top more w r k up q = record { some = q.some; place = q.place; low = omega (arith, q.low); is = reason_kept e d q.place k.grown (reason_within e.reasons q.place (let z = q.is in let p = q.some in omega arith)) ∙ q.is }

looked_old : (core : Bool) (m : Memory) (f g : Family) (e d : Entries) (w : Watch) (r i : ℕ) → IsLooked core m f g e d w → 0 < r → w.at ≢ r → get_or d.reasons i 0 ≡ r → get_or e.reasons i 0 ≡ r
looked_old core m f g e d w r i k some ne is = by_test (nat_lt i (length e.reasons))
    (λ z. sym (reason_kept e d i k.grown (grind (arith, nat_tests))) ∙ is)
    (λ z. absurd (ne (sym (k.only i (grind (arith, nat_tests)) (omega (arith, is))) ∙ is)))

-- it is the reason of the entry that makes it true
pub settling_own : (core : Bool) (m : Memory) (f0 f g : Family) (e0 e d : Entries) (shade top place : ℕ) (w : Watch) → IsLooked core m f g e d w → 0 < place → get_or d.reasons (place - 1) 0 ≡ w.at → IsSettling core m f0 f e0 e shade top → IsSettling core m f0 g e0 d shade (max place top)
settling_own core m f0 f g e0 e d shade top place w k pos own x =
    let t : IsTaken f g w = k.taken in
    record {
      grown = grown_on e0 e d x.grown k.grown;
      sound = k.sound;
      reasons = news_on core m m e0 e d (λ r. refl) k.grown x.reasons (news_here core m w.at e d k.on k.only);
      keys = t.keys ∙ x.keys;
      room = t.room ∙ x.room;
      at_list = t.walked ∙ x.at_list;
      stocked = stocked_dropped core m g w g.ahead (stocked_taken core m f g w t x.stocked);
      linked = λ r k o. listed_taken f g w t r k ∙ x.linked r k o;
      shaded = omega (arith, x.shaded, grown_longer e d k.grown);
      none = λ r. t.lists UNSEEN (is_of r) ∙ x.none r;
      each = λ r o s. go r (x.each r o s);
      light = light;
    }
  where
    go : (r : ℕ) → (0 < times f r UNSEEN + left_of f.ahead r) ⊎ (IsSeen m f (take shade e.lits) r ⊎ IsReason e.reasons top r) → (0 < times g r UNSEEN + left_of g.ahead r) ⊎ (IsSeen m g (take shade d.lits) r ⊎ IsReason d.reasons (max place top) r)
    go r (inl a) = by_eq w.at r
        (λ q. inr (inr (record { some = subst (λ j. 0 < j) q k.some; place = place - 1; low = omega arith; is = own ∙ q })))
        (λ ne. inl (omega (arith, a, k.taken.lists UNSEEN (is_of r), hand_other w g r ne, taken_left f g w r k.taken)))
    go r (inr (inl s)) = inr (inl (looked_seen core m f g g e d shade shade w r k x.shaded (omega arith) (omega (arith, k.taken.lists SEEN (is_of r))) s))
    go r (inr (inr q)) = inr (inr (looked_reason core m f g e d top (max place top) w r k (omega arith) q))

    light : (r i : ℕ) → 0 < r → get_or d.reasons i 0 ≡ r → on_side core m r ≡ true → is_short (cell_at m r).lits ≡ true → times g r UNSEEN + left_of g.ahead r + times g r SEEN ≤ 1
    light r i some is o s = by_eq w.at r
        (λ q. omega (arith, short_few f f.ahead r, x.stocked.few r, k.taken.lists UNSEEN (is_of r), k.taken.lists SEEN (is_of r), hand_same w g r q, taken_left f g w r k.taken))
        (λ ne. omega (arith, x.light r i some (looked_old core m f g e d w r i k some ne is) o s, k.taken.lists UNSEEN (is_of r), k.taken.lists SEEN (is_of r), hand_other w g r ne, taken_left f g w r k.taken))

-- another entry makes it true
pub settling_other : (core : Bool) (m : Memory) (f0 f g h : Family) (e0 e d : Entries) (shade top place : ℕ) (w : Watch) → IsLooked core m f g e d w → SEEN < length g.lists → IsPushed g h SEEN w → place ≡ place_in d.lits w.blocker → (0 < place → get_or d.reasons (place - 1) 0 ≢ w.at)
    → IsSettling core m f0 f e0 e shade top → IsSettling core m f0 h e0 d (max place shade) top
settling_other core m f0 f g h e0 e d shade top place w k lt p is_place other x =
    let t : IsTaken f g w = k.taken in
    let st = stocked_taken core m f g w t x.stocked in
    record {
      grown = grown_on e0 e d x.grown k.grown;
      sound = k.sound;
      reasons = news_on core m m e0 e d (λ r. refl) k.grown x.reasons (news_here core m w.at e d k.on k.only);
      keys = p.keys ∙ t.keys ∙ x.keys;
      room = p.room ∙ t.room ∙ x.room;
      at_list = p.walked ∙ t.walked ∙ x.at_list;
      stocked = stocked_pushed core m g h SEEN w w g.ahead h.ahead lt p.ahead p refl (true_to_clause core m g w g.ahead st) st;
      linked = λ r k o. listed_short g h SEEN w (omega arith) p r k ∙ listed_taken f g w t r k ∙ x.linked r k o;
      shaded = omega (arith, x.shaded, grown_longer e d k.grown, is_place, place_le d.lits w.blocker);
      none = λ r. p.others UNSEEN (λ e. absurd (omega (arith, e))) (is_of r) ∙ t.lists UNSEEN (is_of r) ∙ x.none r;
      each = λ r o s. go r s (x.each r o s);
      light = light;
    }
  where
    ok : is_stray m w ≡ false
    ok = true_to_clause core m g w g.ahead (stocked_taken core m f g w k.taken x.stocked)

    seen : (r : ℕ) → times h r SEEN ≡ times f r SEEN + cond (is_of r w) 1 0
    seen r = omega (arith, p.here (is_of r), count_cons (is_of r) w (list_at g SEEN), k.taken.lists SEEN (is_of r))

    unseen : (r : ℕ) → times h r UNSEEN ≡ times f r UNSEEN
    unseen r = p.others UNSEEN (λ e. absurd (omega (arith, e))) (is_of r) ∙ k.taken.lists UNSEEN (is_of r)

    left : (r : ℕ) → left_of h.ahead r ≡ left_of g.ahead r
    left r = p.ahead (is_of r)

    one : (r : ℕ) → w.at ≡ r → cond {A = ℕ} (is_of r w) 1 0 ≡ 1
    one r q = let z : (w.at == r) ≡ true = grind (arith, nat_tests) in rw z refl

    go : (r : ℕ) → is_short (cell_at m r).lits ≡ true → (0 < times f r UNSEEN + left_of f.ahead r) ⊎ (IsSeen m f (take shade e.lits) r ⊎ IsReason e.reasons top r) → (0 < times h r UNSEEN + left_of h.ahead r) ⊎ (IsSeen m h (take (max place shade) d.lits) r ⊎ IsReason d.reasons top r)
    go r s (inl a) = by_eq w.at r
        (λ q. let sh : is_short (cell_at m w.at).lits ≡ true = subst (λ j. is_short (cell_at m j).lits ≡ true) (sym q) s in
        let b = blocker_single m w d.lits ok sh (k.true_now sh) in
        inr (inl (record {
          is_listed = omega (arith, seen r, one r q);
          is_true = record {
            literal = w.blocker;
            of_clause = subst (λ j. has w.blocker (cell_at m j).lits ≡ true) q b.0;
            is_true = place_true d.lits w.blocker (max place shade) (place_some d.lits w.blocker b.1) (omega (arith, is_place));
          };
        })))
        (λ ne. inl (omega (arith, a, unseen r, left r, hand_other w g r ne, taken_left f g w r k.taken)))
    go r s (inr (inl v)) = inr (inl (looked_seen core m f g h e d shade (max place shade) w r k x.shaded (omega arith) (omega (arith, seen r)) v))
    go r s (inr (inr q)) = inr (inr (looked_reason core m f g e d top top w r k (omega arith) q))

    light : (r i : ℕ) → 0 < r → get_or d.reasons i 0 ≡ r → on_side core m r ≡ true → is_short (cell_at m r).lits ≡ true → times h r UNSEEN + left_of h.ahead r + times h r SEEN ≤ 1
    light r i some is o s = by_eq w.at r
        (λ q. let sh : is_short (cell_at m w.at).lits ≡ true = subst (λ j. is_short (cell_at m j).lits ≡ true) (sym q) s in
        let b = blocker_single m w d.lits ok sh (k.true_now sh) in
        let pos : 0 < place = omega (arith, is_place, place_some d.lits w.blocker b.1) in
        let ne : get_or d.reasons (place_in d.lits w.blocker - 1) 0 ≢ w.at = subst (λ n. get_or d.reasons (n - 1) 0 ≢ w.at) is_place (other pos) in
        absurd (not_reason m d w.at w.blocker k.sound k.some sh b.0 ne i (is ∙ sym q)))
        (λ ne. let z : cond {A = ℕ} (is_of r w) 1 0 ≡ 0 = (let y : (w.at == r) ≡ false = grind (arith, nat_tests) in rw y refl) in
        omega (arith, x.light r i some (looked_old core m f g e d w r i k some ne is) o s, unseen r, seen r, z, left r, hand_other w g r ne, taken_left f g w r k.taken))

-- what is left of it
pub record IsSettledAll (core : Bool) (m : Memory) (f0 f : Family) (e0 e : Entries) (shade top : ℕ) : Type 0 where
  pub shape : HasSameShape f0 f
  pub ahead : f.ahead ≡ []
  pub stocked : AreStocked core m f []
  pub linked : AreLinked core m f
  pub short : AreShortListed core m f (take shade e.lits) e.reasons top

-- a clause is false
pub settling_stopped : (core : Bool) (m : Memory) (f0 f g h k : Family) (e0 e : Entries) (shade top : ℕ) (w : Watch) → IsTaken f g w → UNSEEN < length g.lists → IsPushed g h UNSEEN w → IsEnded h k UNSEEN → f0.walked ≡ None → IsSettling core m f0 f e0 e shade top → IsSettledAll core m f0 k e0 e shade top
settling_stopped core m f0 f g h k e0 e shade top w t lt p b idle x = record {
  shape = record { keys = b.keys ∙ p.keys ∙ t.keys ∙ x.keys; walked = b.walked ∙ sym idle; room = b.room ∙ p.room ∙ t.room ∙ x.room };
  ahead = b.ahead;
  stocked = let st = stocked_taken core m f g w t x.stocked in stocked_ended core m h k UNSEEN (omega (arith, lt, p.keys)) b (stocked_pushed core m g h UNSEEN w w g.ahead h.ahead lt p.ahead p refl (true_to_clause core m g w g.ahead st) st);
  linked = λ r j o. listed_short_ended h k UNSEEN (omega arith) b r j ∙ listed_short g h UNSEEN w (omega arith) p r j ∙ listed_taken f g w t r j ∙ x.linked r j o;
  short = record { each = λ r o s. go r (x.each r o s); light = λ r i some is o s. omega (arith, x.light r i some is o s, all r, seen r) };
}
  where
    all : (r : ℕ) → times k r UNSEEN ≡ times f r UNSEEN + left_of f.ahead r
    all r = omega (arith, t.lists UNSEEN (is_of r), t.ahead (is_of r), count_cons (is_of r) w g.ahead, p.here (is_of r), count_cons (is_of r) w (list_at g UNSEEN), p.ahead (is_of r), b.here (is_of r), count_append (is_of r) h.ahead (list_at h UNSEEN))

    seen : (r : ℕ) → times k r SEEN ≡ times f r SEEN
    seen r = omega (arith, t.lists SEEN (is_of r), p.others SEEN (λ e. absurd (omega (arith, e))) (is_of r), b.others SEEN (λ e. absurd (omega (arith, e))) (is_of r))

    go : (r : ℕ) → (0 < times f r UNSEEN + left_of f.ahead r) ⊎ (IsSeen m f (take shade e.lits) r ⊎ IsReason e.reasons top r) → (0 < times k r UNSEEN) ⊎ (IsSeen m k (take shade e.lits) r ⊎ IsReason e.reasons top r)
    go r (inl a) = inl (omega (arith, a, all r))
    go r (inr (inl v)) = inr (inl (record { is_listed = omega (arith, v.is_listed, seen r); is_true = v.is_true }))
    go r (inr (inr q)) = inr (inr q)

-- none is left
pub settling_over : (core : Bool) (m : Memory) (f0 f g : Family) (e0 e : Entries) (shade top : ℕ) → f0.walked ≡ None → UNSEEN < length f.lists → f.ahead ≡ [] → IsEnded f g UNSEEN → IsSettling core m f0 f e0 e shade top → IsSettledAll core m f0 g e0 e shade top
settling_over core m f0 f g e0 e shade top idle lt none b x = record {
  shape = record { keys = b.keys ∙ x.keys; walked = b.walked ∙ sym idle; room = b.room ∙ x.room };
  ahead = b.ahead;
  stocked = stocked_ended core m f g UNSEEN lt b x.stocked;
  linked = λ r k o. listed_short_ended f g UNSEEN (omega arith) b r k ∙ x.linked r k o;
  short = record { each = λ r o s. go r (x.each r o s); light = λ r i some is o s. omega (arith, x.light r i some is o s, all r, seen r) };
}
  where
    all : (r : ℕ) → times g r UNSEEN ≡ times f r UNSEEN + left_of f.ahead r
    all r = omega (arith, b.here (is_of r), count_append (is_of r) f.ahead (list_at f UNSEEN))

    seen : (r : ℕ) → times g r SEEN ≡ times f r SEEN
    seen r = b.others SEEN (λ e. absurd (omega (arith, e))) (is_of r)

    go : (r : ℕ) → (0 < times f r UNSEEN + left_of f.ahead r) ⊎ (IsSeen m f (take shade e.lits) r ⊎ IsReason e.reasons top r) → (0 < times g r UNSEEN) ⊎ (IsSeen m g (take shade e.lits) r ⊎ IsReason e.reasons top r)
    go r (inl a) = inl (omega (arith, a, all r))
    go r (inr (inl v)) = inr (inl (record { is_listed = omega (arith, v.is_listed, seen r); is_true = v.is_true }))
    go r (inr (inr q)) = inr (inr q)

pub all_settled : (core : Bool) (m : Memory) (f0 f : Family) (e0 e : Entries) (shade top : ℕ) → f.ahead ≡ [] → IsSettling core m f0 f e0 e shade top → AreShortTrue core m e.lits
all_settled core m f0 f e0 e shade top none x r o s = go (x.each r o s)
  where
    go : (0 < times f r UNSEEN + left_of f.ahead r) ⊎ (IsSeen m f (take shade e.lits) r ⊎ IsReason e.reasons top r) → SomeTrue e.lits (cell_at m r).lits
    go (inl a) = let z : left_of f.ahead r ≡ 0 = ap (λ ws. left_of ws r) none in absurd (omega (arith, a, z, x.none r))
    go (inr (inl v)) = some_more (take shade e.lits) e.lits (cell_at m r).lits (includes_take shade e.lits) v.is_true
    go (inr (inr q)) = reason_true m e top r x.sound q

-- where there is no list of unseen clauses, all were seen
pub never_listed : (core : Bool) (m : Memory) (f : Family) (e : Entries) (shade top : ℕ) → length f.lists < 2 → IsSound (joined e m) → AreShortListed core m f (take shade e.lits) e.reasons top → AreShortTrue core m e.lits
never_listed core m f e shade top lt x sh r o short = go (sh.each r o short)
  where
    empty : (ls : List (List Watch)) → length ls < 2 → get_or ls 1 [] ≡ []
    empty [] n = refl
    empty (l ∷ []) n = refl
    empty (l ∷ k ∷ ls) n = absurd (omega arith)

    go : (0 < times f r UNSEEN) ⊎ (IsSeen m f (take shade e.lits) r ⊎ IsReason e.reasons top r) → SomeTrue e.lits (cell_at m r).lits
    go (inl a) = let z : times f r UNSEEN ≡ 0 = ap (count_by (is_of r)) (empty f.lists lt) in absurd (omega (arith, a, z))
    go (inr (inl v)) = some_more (take shade e.lits) e.lits (cell_at m r).lits (includes_take shade e.lits) v.is_true
    go (inr (inr q)) = reason_true m e top r x q

-- they stay so as a clause derives more
pub shorts_later : (core : Bool) (m : Memory) (f : Family) (e h : Entries) (shade top : ℕ) → length e.reasons ≡ length e.lits → AreShortTrue core m e.lits → shade ≤ length e.lits → IsGrown e h → IsSound (joined h m) → AreShortListed core m f (take shade e.lits) e.reasons top → AreShortListed core m f (take shade h.lits) h.reasons top
shorts_later core m f e h shade top sizes all le gr x sh =
    shorts_grown core m m f f (take shade e.lits) (take shade h.lits) e h top (carried_cells core m m f (λ r o. refl)) (includes_same (take shade e.lits) (take shade h.lits) (take_kept e.lits h.lits shade le gr.lits)) gr (none_new core m e h sizes all gr x) sh

-- the clauses without watches and the pending one, looked at together
pub settled_rests : (core : Bool) (m : Memory) (e h : Entries) (w v : Watches) → v.kept ≡ w.kept → v.done ≡ w.done → IsGrown e h → IsSound (joined h m) → HasSameShape w.lists v.lists → v.lists.ahead ≡ [] → AreStocked core m v.lists [] → AreLinked core m v.lists → v.shade ≤ length h.lits
    → AreShortListed core m v.lists (take v.shade h.lits) h.reasons v.top → ((r : ℕ) → is_pending v.pending r ≡ true → is_pending w.pending r ≡ true) → ((r : ℕ) → is_pending w.pending r ≡ true → is_pending v.pending r ≡ false → (b : List Literal) → IsGuarded b h.lits (clause_on core m r))
    → IsResting core m e w → IsResting core m h v
settled_rests core m e h w v kept_is done_is x sound shape ahead st li le sh more less y =
    let longer : length e.lits ≤ length h.lits = grown_longer e h x in
    record {
      idle = record { keys = λ some. omega (arith, y.idle.keys (omega (arith, some, x.vars)), x.vars, shape.keys); both = λ some. omega (arith, y.idle.both (omega (arith, some, shape.keys)), shape.keys); walked = shape.walked ∙ y.idle.walked; ahead = ahead };
      stocked = st;
      linked = li;
      shaded = le;
      short = sh;
      within = omega (arith, done_is, y.within, longer);
      guarded = λ r z. by_test (is_pending w.pending r)
          (λ t. less r t z (take v.done h.lits))
          (λ f. rw done_is (guard_grown e h w.done (clause_on core m r) x y.within (y.guarded r f)));
      pending = λ r z. let p = y.pending r (more r z) in record { held = p.held; on = p.on; stuck = record { left = p.stuck.left; others = λ k i ne. includes_kept e.lits h.lits x.lits (complement k) (p.stuck.others k i ne) } };
      kept = rw kept_is (record {
        rising = y.kept.rising;
        within = λ i z. omega (arith, y.kept.within i z, longer);
        guarded = λ i z. guards_grown e h i (clause_on core m) (clause_on core m) x (y.kept.within i z) (λ r. refl) (y.kept.guarded i z);
      });
    }

pub true_guards : (core : Bool) (m : Memory) (b s : List Literal) (r : ℕ) → SomeTrue s (cell_at m r).lits → IsGuarded b s (clause_on core m r)
true_guards core m b s r t = by_test (on_side core m r)
    (λ o. λ k i f. subst (SomeTrue s) (sym (clause_here core m r o)) t)
    (λ o. none_guarded core m r o b s)

pub pending_later : (core : Bool) (m : Memory) (e h : Entries) (r : ℕ) → IsGrown e h → IsPending core m e.lits r → IsPending core m h.lits r
pending_later core m e h r x p = record { held = p.held; on = p.on; stuck = record { left = p.stuck.left; others = λ k i ne. includes_kept e.lits h.lits x.lits (complement k) (p.stuck.others k i ne) } }
