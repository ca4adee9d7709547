-- What is left of what holds between calls where entries are cut or get another reason.
use Rattle.std.specs.Prelude.{nat_lt}
use Rattle.std.proofs.Common.{◌≡◌, ◌≢◌, ◌⊎◌, inl, inr, ◌<◌, ◌≤◌, ◌+◌, ◌-◌, min, ℕ, Bool, true, false, cond, ◌==◌, List, [], ◌∷◌, refl, sym, ◌∙◌, ap, subst, arith, length, get_or, take}
use Rattle.std.proofs.lemmas.Bool.Decides.{nat_tests}
use Rattle.std.specs.List.{count_by}
use Rattle.std.proofs.lemmas.List.{get_or-take, length-take}
use Rattle.sr_base.specs.Literal.{Literal, plus, has}
use Rattle.sr_base.proofs.Literals.{same_tells}
use Rattle.sr_arena.specs.Cells.{Memory, cell_at, IsHeld, held_in}
use Rattle.sr_model.proofs.Soundness.{by_test}
use Rattle.sr_lists.specs.declared.blocks.Watch.{Watch}
use Rattle.sr_lists.specs.Family.{Family, list_at, entries, AreSame, IsPushed}
use Rattle.sr_watch.specs.declared.watches.Watches.{Watches}
use Rattle.sr_watch.specs.declared.watches.TheConstants.{UNSEEN, SEEN}
use Rattle.sr_watch.specs.Trail.{Entries}
use Rattle.sr_watch.specs.Watching.{is_watch, is_short, on_side, clause_on, is_of, is_stray, times, listed, tally, AreStocked}
use Rattle.sr_watch.specs.Walking.{HasSameShape}
use Rattle.sr_watch.specs.Reasons.{AreReasons}
use Rattle.sr_watch.specs.Resting.{IsSeen, IsReason, HasRoom, IsResting}
use Rattle.sr_watch.proofs.Entries.{by_eq}
use Rattle.sr_watch.proofs.Listing.{count_cons, listed_short, tally_first}
use Rattle.sr_watch.proofs.Visits.{clause_here, stocked_pushed}
use Rattle.sr_watch.proofs.Rooms.{room_for, held_some}
use Rattle.sr_watch.proofs.Attached.{room_kept}
use Rattle.sr_watch.proofs.Entering.{nothing_left, not_unlisted}
use Rattle.sr_watch.proofs.Shorts.{reason_within, short_tally, long_has}

-- how far the clauses of one literal are among those that weren't seen which are the reasons of entries below a place, the
-- last first
pub record IsFreeing (core : Bool) (m : Memory) (e : Entries) (f0 f : Family) (place end : ℕ) : Type 0 where
  pub within : place ≤ end
  pub shape : HasSameShape f0 f
  pub ahead : f.ahead ≡ []
  pub stocked : AreStocked core m f []
  pub literals : (r : ℕ) (k : Literal) → listed f r k ≡ listed f0 r k
  pub seen : (r : ℕ) → times f r SEEN ≡ times f0 r SEEN
  pub more : (r : ℕ) → times f0 r UNSEEN ≤ times f r UNSEEN
  pub done : (r i : ℕ) → 0 < r → place ≤ i → i < end → get_or e.reasons i 0 ≡ r → on_side core m r ≡ true → is_short (cell_at m r).lits ≡ true → 0 < times f r UNSEEN
  pub light : (r i : ℕ) → 0 < r → (i < place) ⊎ (end ≤ i) → get_or e.reasons i 0 ≡ r → on_side core m r ≡ true → is_short (cell_at m r).lits ≡ true → times f r UNSEEN + times f r SEEN ≤ 1

pub freeing_start : (core : Bool) (m : Memory) (e : Entries) (w : Watches) (end : ℕ) → IsResting core m e w → IsFreeing core m e w.lists w.lists end end
freeing_start core m e w end y = record {
  within = omega arith;
  shape = record { keys = refl; walked = refl; room = refl };
  ahead = y.idle.ahead;
  stocked = y.stocked;
  literals = λ r k. refl;
  seen = λ r. refl;
  more = λ r. omega arith;
  done = λ r i some le lt is o s. absurd (omega arith);
  light = λ r i some at is o s. y.short.light r i some is o s;
}

-- places before another one, or past the end
later : (place end i : ℕ) → (i < place - 1) ⊎ (end ≤ i) → (i < place) ⊎ (end ≤ i)
later place end i (inl a) = inl (omega arith)
later place end i (inr b) = inr b

-- the reason of an entry isn't such a clause
pub freeing_skip : (core : Bool) (m : Memory) (e : Entries) (f0 f : Family) (place end : ℕ) → 0 < place → ((r : ℕ) → 0 < r → get_or e.reasons (place - 1) 0 ≡ r → on_side core m r ≡ true → is_short (cell_at m r).lits ≡ true → ⊥)
    → IsFreeing core m e f0 f place end → IsFreeing core m e f0 f (place - 1) end
freeing_skip core m e f0 f place end low none x = record {
  within = omega (arith, x.within);
  shape = x.shape;
  ahead = x.ahead;
  stocked = x.stocked;
  literals = x.literals;
  seen = x.seen;
  more = x.more;
  done = λ r i some le lt is o s. by_eq i (place - 1)
      (λ q. absurd (none r some (ap (λ j. get_or e.reasons j 0) (sym q) ∙ is) o s))
      (λ ne. x.done r i some (omega arith) lt is o s);
  light = λ r i some at is o s. x.light r i some (later place end i at) is o s;
}

-- a clause of more literals isn't
pub none_short : (core : Bool) (m : Memory) (e : Entries) (place at : ℕ) → AreReasons m e → 0 < at → get_or e.reasons place 0 ≡ at → length (cell_at m at).lits ≢ 1 → (r : ℕ) → 0 < r → get_or e.reasons place 0 ≡ r → on_side core m r ≡ true → is_short (cell_at m r).lits ≡ true → ⊥
none_short core m e place at a some is more r some' q o sh =
    let h : has (get_or e.lits place (plus 0)) (cell_at m at).lits ≡ true = subst (λ j. has (get_or e.lits place (plus 0)) (cell_at m j).lits ≡ true) is (a.of_clause place (omega (arith, is, some))) in
    let y : is_short (cell_at m at).lits ≡ false = long_has (cell_at m at).lits (get_or e.lits place (plus 0)) h more in
    let z : is_short (cell_at m at).lits ≡ true = subst (λ j. is_short (cell_at m j).lits ≡ true) (sym q ∙ is) sh in
    absurd cc

-- a watch more may be listed of a clause that has one at most
stocked_hand : (core : Bool) (m : Memory) (f : Family) (w : Watch) → IsHeld m w.at → on_side core m w.at ≡ true → is_stray m w ≡ false → tally f [] (is_of w.at) ≤ 1 → AreStocked core m f [] → AreStocked core m f (w ∷ [])
stocked_hand core m f w held on ok few x = record {
  few = λ r. by_eq w.at r
      (λ q. let one : cond {A = ℕ} (is_of r w) 1 0 ≤ 1 = by_test (is_of r w) (λ t. rw t (omega arith)) (λ t. rw t (omega arith)) in omega (arith, tally_first f w [] (is_of r), one, subst (λ j. tally f [] (is_of j) ≤ 1) q few))
      (λ ne. omega (arith, tally_first f w [] (is_of r), zero_of r ne, x.few r));
  clean = λ r h. by_eq w.at r
      (λ q. absurd (not_unlisted core (cell_at m r) (subst (λ j. (cell_at m j).held ≡ true) q held) (subst (λ j. on_side core m j ≡ true) q on) h))
      (λ ne. omega (arith, tally_first f w [] (is_of r), zero_of r ne, x.clean r h));
  blockers = let z : cond {A = ℕ} (is_stray m w) 1 0 ≡ 0 = rw ok refl in omega (arith, tally_first f w [] (is_stray m), z, x.blockers);
}
  where
    zero_of : (r : ℕ) → w.at ≢ r → cond {A = ℕ} (is_of r w) 1 0 ≡ 0
    zero_of r ne = let f : (w.at == r) ≡ false = grind (arith, nat_tests) in rw f refl

-- it is, and is pushed
pub freeing_push : (core : Bool) (m : Memory) (e : Entries) (f0 f g : Family) (place end : ℕ) (w : Watch) → AreReasons m e → 0 < w.at → get_or e.reasons (place - 1) 0 ≡ w.at → on_side core m w.at ≡ true → (cell_at m w.at).lits ≡ w.blocker ∷ [] → 0 < place → UNSEEN < length f.lists
    → tally f [] (is_of w.at) ≤ 1 → IsPushed f g UNSEEN w → IsFreeing core m e f0 f place end → IsFreeing core m e f0 g (place - 1) end
freeing_push core m e f0 f g place end w a some is on lits low lt few p x = record {
  within = omega (arith, x.within);
  shape = record { keys = p.keys ∙ x.shape.keys; walked = p.walked ∙ x.shape.walked; room = p.room ∙ x.shape.room };
  ahead = none g.ahead p.ahead;
  stocked = stocked_pushed core m f g UNSEEN w w [] [] lt (λ q. refl) p refl ok (stocked_hand core m f w held on ok few x.stocked);
  literals = λ r k. listed_short f g UNSEEN w (omega arith) p r k ∙ x.literals r k;
  seen = λ r. p.others SEEN (λ q. absurd (omega (arith, q))) (is_of r) ∙ x.seen r;
  more = λ r. omega (arith, x.more r, unseen r);
  done = λ r i more_some from below q o s. by_eq i (place - 1)
      (λ z. let e1 : w.at ≡ r = sym is ∙ ap (λ j. get_or e.reasons j 0) (sym z) ∙ q in omega (arith, unseen r, one r e1))
      (λ ne. omega (arith, unseen r, x.done r i more_some (omega arith) below q o s));
  light = λ r i more_some at q o s. by_eq w.at r
      (λ z. absurd (apart i at (a.once i (place - 1) (omega (arith, q)) (q ∙ sym z ∙ sym is))))
      (λ ne. omega (arith, x.light r i more_some (later place end i at) q o s, same r ne, p.others SEEN (λ q'. absurd (omega (arith, q'))) (is_of r)));
}
  where
    held : IsHeld m w.at
    held = subst (IsHeld m) is (a.held (place - 1) (omega (arith, is)))

    ok : is_stray m w ≡ false
    ok = rw lits (let t : has w.blocker (w.blocker ∷ []) ≡ true = grind (arith, same_tells w.blocker w.blocker) in rw t refl)

    none : (ws : List Watch) → AreSame ws f.ahead → ws ≡ []
    none ws s = nothing_left ws (λ q. s q ∙ ap (count_by q) x.ahead)

    unseen : (r : ℕ) → times g r UNSEEN ≡ cond (is_of r w) 1 0 + times f r UNSEEN
    unseen r = p.here (is_of r) ∙ count_cons (is_of r) w (list_at f UNSEEN)

    one : (r : ℕ) → w.at ≡ r → cond {A = ℕ} (is_of r w) 1 0 ≡ 1
    one r q = let t : (w.at == r) ≡ true = grind (arith, nat_tests) in rw t refl

    same : (r : ℕ) → w.at ≢ r → times g r UNSEEN ≡ times f r UNSEEN
    same r ne = let t : (w.at == r) ≡ false = grind (arith, nat_tests) in let z : cond {A = ℕ} (is_of r w) 1 0 ≡ 0 = rw t refl in omega (arith, unseen r, z)

    apart : (i : ℕ) → (i < place - 1) ⊎ (end ≤ i) → i ≢ place - 1
    apart i (inl b) q = absurd (omega arith)
    apart i (inr b) q = absurd (omega (arith, x.within))

-- all of them are, so the entries may go
pub freed_rests : (core : Bool) (m : Memory) (e : Entries) (w v : Watches) (mark place : ℕ) → v ≡ record w { lists = v.lists; top = min w.top mark } → place ≤ mark → min mark (min w.top (length e.reasons)) ≤ place → IsFreeing core m e w.lists v.lists place (min w.top (length e.reasons))
    → IsResting core m e w → IsResting core m (record e { reasons = take mark e.reasons }) v
freed_rests core m e w v mark place is below low x y = subst (IsResting core m (record e { reasons = take mark e.reasons })) (sym is) (record {
  idle = record { keys = λ some. omega (arith, y.idle.keys some, x.shape.keys); both = λ some. omega (arith, y.idle.both (omega (arith, some, x.shape.keys)), x.shape.keys); walked = x.shape.walked ∙ y.idle.walked; ahead = x.ahead };
  stocked = x.stocked;
  linked = λ r k o. x.literals r k ∙ y.linked r k o;
  shaded = y.shaded;
  short = record {
    each = λ r o s. go r o s (y.short.each r o s);
    light = λ r i some q o s.
        let lt : i < mark = omega (arith, reason_within (take mark e.reasons) i (omega (arith, q)), length-take mark e.reasons) in
        x.light r i some (side i lt) (sym (get_or-take mark e.reasons i 0 lt) ∙ q) o s;
  };
  within = y.within;
  guarded = y.guarded;
  pending = y.pending;
  kept = y.kept;
})
  where
    side : (i : ℕ) → i < mark → (i < place) ⊎ (min w.top (length e.reasons) ≤ i)
    side i lt = by_test (nat_lt i place)
        (λ t. inl (grind (arith, nat_tests)))
        (λ t. let le : place ≤ i = grind (arith, nat_tests) in inr (omega (arith, low, le, lt)))

    go : (r : ℕ) → on_side core m r ≡ true → is_short (cell_at m r).lits ≡ true → (0 < times w.lists r UNSEEN) ⊎ (IsSeen m w.lists (take w.shade e.lits) r ⊎ IsReason e.reasons w.top r) → (0 < times v.lists r UNSEEN) ⊎ (IsSeen m v.lists (take w.shade e.lits) r ⊎ IsReason (take mark e.reasons) (min w.top mark) r)
    go r o s (inl a) = inl (omega (arith, a, x.more r))
    go r o s (inr (inl q)) = inr (inl (record { is_listed = omega (arith, q.is_listed, x.seen r); is_true = q.is_true }))
    go r o s (inr (inr q)) = by_test (nat_lt q.place mark)
        (λ t. let lt : q.place < mark = grind (arith, nat_tests) in inr (inr (record { some = q.some; place = q.place; low = omega (arith, q.low); is = get_or-take mark e.reasons q.place 0 lt ∙ q.is })))
        (λ t. let from : mark ≤ q.place = grind (arith, nat_tests) in
        let here : q.place < length e.reasons = reason_within e.reasons q.place (let z = q.is in let p = q.some in omega arith) in
        inl (x.done r q.place q.some (omega (arith, below, from)) (omega (arith, q.low, here)) q.is o s))

-- none of them is the reason of an entry that goes
pub none_freed : (core : Bool) (m : Memory) (e : Entries) (w : Watches) (mark : ℕ) → w.top ≤ mark → IsResting core m e w → IsResting core m (record e { reasons = take mark e.reasons }) w
none_freed core m e w mark le y =
    let t : w.top ≡ min w.top mark = omega arith in
    freed_rests core m e w w mark (min w.top (length e.reasons)) (ap (λ n. record w { top = n }) t) (omega arith) (omega arith) (freeing_start core m e w (min w.top (length e.reasons)) y) y

-- the clause of an entry that goes is listed once at most, so there is room to list it
pub freeing_few : (core : Bool) (m : Memory) (e : Entries) (w : Watches) (f : Family) (place end at : ℕ) (l : Literal) → IsResting core m e w → IsFreeing core m e w.lists f place end → 0 < at → 0 < place → get_or e.reasons (place - 1) 0 ≡ at → on_side core m at ≡ true
    → (cell_at m at).lits ≡ l ∷ [] → tally f [] (is_of at) ≤ 1
freeing_few core m e w f place end at l y x some low is on lits =
    omega (arith, short_tally f at none, x.light at (place - 1) some (inl (omega arith)) is on (rw lits refl))
  where
    alone : (k : Literal) → is_watch (clause_on core m at) k ≡ false
    alone k = subst (λ c. is_watch c k ≡ false) (sym (clause_here core m at on ∙ lits)) refl

    none : (k : Literal) → listed f at k ≡ 0
    none k = x.literals at k ∙ y.linked at k on ∙ (rw (alone k) refl)

pub freeing_room : (core : Bool) (m : Memory) (e : Entries) (w : Watches) (f : Family) (count place end at : ℕ) → IsFreeing core m e w.lists f place end → length (held_in m.cells) ≡ count → HasRoom count w.lists → IsHeld m at → tally f [] (is_of at) ≤ 1 → entries f < f.room
freeing_room core m e w f count place end at x counted room held few = omega (arith, room_for core m f count at 1 x.stocked x.ahead counted (room_kept count w.lists f x.shape room) held (omega (arith, few)))

-- there are the lists of the clauses of at most one literal
pub freeing_keys : (core : Bool) (m : Memory) (e : Entries) (f0 f : Family) (count place end at : ℕ) → IsFreeing core m e f0 f place end → length (held_in m.cells) ≡ count → HasRoom count f0 → IsHeld m at → UNSEEN < length f.lists
freeing_keys core m e f0 f count place end at x counted room held = omega (arith, room.keys (omega (arith, held_some m.cells at held, counted)), x.shape.keys)
