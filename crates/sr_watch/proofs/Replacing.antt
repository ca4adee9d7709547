-- An entry that has another reason.
use Rattle.std.proofs.Common.{Bool, ◌≡◌, ◌≢◌, ◌⊎◌, ◌<◌, ◌≤◌, ◌+◌, ◌-◌, inl, inr, ℕ, suc, zero, ◌==◌, true, false, Option, Some, None, IfSome, List, [], ◌∷◌, refl, sym, ◌∙◌, ap, subst, arith, length, take, take_all, get_or, set, get_or-set_same, get_or-set_other}
use Rattle.std.proofs.lemmas.List.{length-set, length-take, get_or-take}
use Rattle.std.proofs.lemmas.Bool.Decides.{nat_tests}
use Rattle.sr_base.specs.Literal.{Literal, plus, same, has, NoRepeats, SameSet}
use Rattle.sr_base.proofs.Literals.{same_tells}
use Rattle.sr_arena.specs.Cells.{Cell, Memory, cell_at, IsHeld}
use Rattle.sr_watch.specs.declared.parts.Part.{Part}
use Rattle.sr_watch.specs.declared.watches.Watches.{Watches}
use Rattle.sr_watch.specs.State.{Slot, State, slot_in, assumed_in, IsForcedBy, IsSound}
use Rattle.sr_watch.specs.Changes.{with_part, IsAttachedTo, IsDetached}
use Rattle.sr_watch.specs.Inside.{slots_of, derived_in, IsKept}
use Rattle.sr_watch.specs.Trail.{Entries, AreEntries, AreTables, IsAssumedPairAt, root_length}
use Rattle.sr_watch.specs.Marks.{joined}
use Rattle.sr_watch.specs.Reasons.{IsReasonAt, MayBeReason, MayTakeOver, IsReleased, AreReasons, MaySucceed, with_reason, released_entries}
use Rattle.sr_watch.specs.Parting.{IsParted, IsListedOnce}
use Rattle.sr_watch.specs.Watching.{is_short, on_side, times}
use Rattle.sr_watch.specs.declared.watches.TheConstants.{UNSEEN, SEEN}
use Rattle.sr_watch.specs.Resting.{IsSeen, IsReason, IsResting, AreWatched}
use Rattle.sr_watch.proofs.Entries.{by_eq}
use Rattle.sr_watch.proofs.Keeping.{kept_cut}
use Rattle.sr_watch.proofs.Marking.{attached_held}
use Rattle.sr_watch.proofs.Derivations.{only_entry}
use Rattle.sr_watch.proofs.Shorts.{reason_within, reason_lit}
use Rattle.sr_watch.proofs.Regrouping.{IsRegrouped, detached_value, parted_lits}
use Rattle.sr_watch.proofs.Slots.{slot_is}

-- the same literals are assumed and derived
assumed_replaced : (ls : List Literal) (rs : List ℕ) (i r : ℕ) → get_or rs i 0 ≢ 0 → r ≢ 0 → assumed_in ls (set rs i r) ≡ assumed_in ls rs
assumed_replaced [] rs i r d n = refl
assumed_replaced (l ∷ ls) [] i r d n = refl
assumed_replaced (l ∷ ls) (q ∷ rs) zero r d n =
    let a : (q == 0) ≡ false = grind (arith, nat_tests) in
    let b : (r == 0) ≡ false = grind (arith, nat_tests) in
    rw (a, b) refl
assumed_replaced (l ∷ ls) (q ∷ rs) (suc i) r d n = rw (assumed_replaced ls rs i r d n) refl

derived_replaced : (ls : List Literal) (rs : List ℕ) (i r : ℕ) → get_or rs i 0 ≢ 0 → r ≢ 0 → derived_in ls (set rs i r) ≡ derived_in ls rs
derived_replaced [] rs i r d n = refl
derived_replaced (l ∷ ls) [] i r d n = refl
derived_replaced (l ∷ ls) (q ∷ rs) zero r d n =
    let a : (q == 0) ≡ false = grind (arith, nat_tests) in
    let b : (r == 0) ≡ false = grind (arith, nat_tests) in
    rw (a, b) refl
derived_replaced (l ∷ ls) (q ∷ rs) (suc i) r d n = rw (derived_replaced ls rs i r d n) refl

assumed_taken : (m : ℕ) (ls : List Literal) (rs : List ℕ) (i r : ℕ) → get_or rs i 0 ≢ 0 → r ≢ 0 → assumed_in (take m ls) (take m (set rs i r)) ≡ assumed_in (take m ls) (take m rs)
assumed_taken zero ls rs i r d n = refl
assumed_taken (suc m) [] rs i r d n = refl
assumed_taken (suc m) (l ∷ ls) [] i r d n = refl
assumed_taken (suc m) (l ∷ ls) (q ∷ rs) zero r d n =
    let a : (q == 0) ≡ false = grind (arith, nat_tests) in
    let b : (r == 0) ≡ false = grind (arith, nat_tests) in
    rw (a, b) refl
assumed_taken (suc m) (l ∷ ls) (q ∷ rs) (suc i) r d n = rw (assumed_taken m ls rs i r d n) refl

pub pair_replaced : (ls : List Literal) (rs : List ℕ) (n i r : ℕ) → get_or rs i 0 ≢ 0 → r ≢ 0 → IsAssumedPairAt ls rs n → IsAssumedPairAt ls (set rs i r) n
pair_replaced ls rs n i r d nz x = record {
  within = x.within;
  none = λ z. rw (assumed_replaced ls rs i r d nz) (x.none z);
  some = λ lt. rw (assumed_taken n ls rs i r d nz) (x.some lt);
  none_before = λ lt. rw (assumed_taken (n - 1) ls rs i r d nz) (x.none_before lt);
}

pub root_replaced : (rs : List ℕ) (i r : ℕ) → get_or rs i 0 ≢ 0 → r ≢ 0 → root_length (set rs i r) ≡ root_length rs
root_replaced [] i r d n = refl
root_replaced (q ∷ rs) zero r d n =
    let a : (q == 0) ≡ false = grind (arith, nat_tests) in
    let b : (r == 0) ≡ false = grind (arith, nat_tests) in
    rw (a, b) refl
root_replaced (q ∷ rs) (suc i) r d n = rw (root_replaced rs i r d n) refl

pub entries_replaced : (e : Entries) (i r : ℕ) → get_or e.reasons i 0 ≢ 0 → r ≢ 0 → AreEntries e → AreEntries (with_reason e i r)
entries_replaced e i r d n a = record {
  fits = a.fits;
  sizes = length-set e.reasons i r ∙ a.sizes;
  within = a.within;
  once = subst NoRepeats (sym (assumed_replaced e.lits e.reasons i r d n)) a.once;
  derived_once = subst NoRepeats (sym (derived_replaced e.lits e.reasons i r d n)) a.derived_once;
}

pub tables_replaced : (e : Entries) (i r : ℕ) (t : List ℕ) (u : List Bool) → get_or e.reasons i 0 ≢ 0 → r ≢ 0 → AreTables e t u → AreTables (with_reason e i r) t u
tables_replaced e i r t u d n x = record {
  first_size = x.first_size;
  marks_size = x.marks_size;
  first = x.first;
  marks = λ l pos le. rw (assumed_replaced e.lits e.reasons i r d n) (x.marks l pos le);
}

-- a clause that forces the entry may be its reason
pub sound_replaced : (m : Memory) (e : Entries) (n r : ℕ) → MayBeReason m e n r → IsSound (joined e m) → IsSound (joined (with_reason e n r) m)
sound_replaced m e n r may x =
    let some : r ≢ 0 = (λ z. let s = may.some in absurd (omega arith)) in
    let lt : n < length e.reasons = omega (arith, may.within, x.sizes) in
    let here : (i : ℕ) → i ≡ n → get_or (set e.reasons n r) i 0 ≡ r = (λ i q. rw q (get_or-set_same e.reasons n r 0 lt)) in
    let other : (i : ℕ) → i ≢ n → get_or (set e.reasons n r) i 0 ≡ get_or e.reasons i 0 = (λ i ne. get_or-set_other e.reasons n i r 0 ne) in
    record {
      sizes = length-set e.reasons n r ∙ x.sizes;
      within = x.within;
      clauses_within = x.clauses_within;
      distinct = x.distinct;
      held = x.held;
      once = subst NoRepeats (sym (assumed_replaced e.lits e.reasons n r may.derived some)) x.once;
      attached = λ i li. by_eq i n (λ q. rw (here i q) (λ d. may.attached)) (λ ne. rw (other i ne) (x.attached i li));
      forced = λ i li. by_eq i n
          (λ q. rw (here i q, q) (λ d. subst (λ (s : Slot). IsForcedBy s.lits (take n e.lits) (get_or e.lits n (plus 0))) (sym (slot_is m r)) may.forced))
          (λ ne. rw (other i ne) (x.forced i li));
      news = λ i li d. by_eq i n (λ q. x.news i li (rw q may.derived)) (λ ne. x.news i li (rw (other i ne) at d));
    }

pub kept_replaced : (m : Memory) (known : List ℕ) (e : Entries) (n r : ℕ) → MayBeReason m e n r → IsKept e.vars m known e.lits e.reasons → IsKept e.vars m known e.lits (set e.reasons n r)
kept_replaced m known e n r may k = record {
  fits = k.fits;
  sound = sound_replaced m e n r may k.sound;
  derived_once = subst NoRepeats (sym (derived_replaced e.lits e.reasons n r may.derived (λ z. let s = may.some in absurd (omega arith)))) k.derived_once;
  listed = k.listed;
}

-- what holds between calls, where the old reason isn't a clause of one literal, and the new one is listed once at most if it is
rests_replaced : (core : Bool) (m : Memory) (e : Entries) (w : Watches) (n r : ℕ) → get_or e.reasons n 0 ≢ 0 → (on_side core m (get_or e.reasons n 0) ≡ true → is_short (cell_at m (get_or e.reasons n 0)).lits ≡ true → ⊥)
    → (on_side core m r ≡ true → is_short (cell_at m r).lits ≡ true → times w.lists r UNSEEN + times w.lists r SEEN ≤ 1) → IsResting core m e w → IsResting core m (with_reason e n r) w
rests_replaced core m e w n r d old new y = record {
  idle = y.idle;
  stocked = y.stocked;
  linked = y.linked;
  shaded = y.shaded;
  short = record {
    each = λ q o s. go q o s (y.short.each q o s);
    light = λ q i some is o s. by_eq i n
        (λ z. let e1 : r ≡ q = sym (get_or-set_same e.reasons n r 0 lt) ∙ ap (λ j. get_or (set e.reasons n r) j 0) (sym z) ∙ is in
        subst (λ j. on_side core m j ≡ true → is_short (cell_at m j).lits ≡ true → times w.lists j UNSEEN + times w.lists j SEEN ≤ 1) e1 new o s)
        (λ ne. y.short.light q i some (sym (get_or-set_other e.reasons n i r 0 ne) ∙ is) o s);
  };
  within = y.within;
  guarded = y.guarded;
  pending = y.pending;
  kept = y.kept;
}
  where
    lt : n < length e.reasons
    lt = reason_within e.reasons n (omega (arith, d))

    go : (q : ℕ) → on_side core m q ≡ true → is_short (cell_at m q).lits ≡ true → (0 < times w.lists q UNSEEN) ⊎ (IsSeen m w.lists (take w.shade e.lits) q ⊎ IsReason e.reasons w.top q) → (0 < times w.lists q UNSEEN) ⊎ (IsSeen m w.lists (take w.shade e.lits) q ⊎ IsReason (set e.reasons n r) w.top q)
    go q o s (inl a) = inl a
    go q o s (inr (inl v)) = inr (inl v)
    go q o s (inr (inr x)) = by_eq x.place n
        (λ z. let e1 : get_or e.reasons n 0 ≡ q = ap (λ j. get_or e.reasons j 0) (sym z) ∙ x.is in
        absurd (old (subst (λ j. on_side core m j ≡ true) (sym e1) o) (subst (λ j. is_short (cell_at m j).lits ≡ true) (sym e1) s)))
        (λ ne. inr (inr (record { some = x.some; place = x.place; low = x.low; is = get_or-set_other e.reasons n x.place r 0 ne ∙ x.is })))

watched_replaced : (m : Memory) (known : List ℕ) (e : Entries) (core rest : Watches) (n r : ℕ) → get_or e.reasons n 0 ≢ 0 → ((k : Bool) → on_side k m (get_or e.reasons n 0) ≡ true → is_short (cell_at m (get_or e.reasons n 0)).lits ≡ true → ⊥)
    → (on_side true m r ≡ true → is_short (cell_at m r).lits ≡ true → times core.lists r UNSEEN + times core.lists r SEEN ≤ 1) → (on_side false m r ≡ true → is_short (cell_at m r).lits ≡ true → times rest.lists r UNSEEN + times rest.lists r SEEN ≤ 1)
    → AreWatched m known e core rest → AreWatched m known (with_reason e n r) core rest
watched_replaced m known e core rest n r d old new_core new_rest y = record {
  counted = y.counted;
  core_rests = rests_replaced true m e core n r d (old true) new_core y.core_rests;
  rest_rests = rests_replaced false m e rest n r d (old false) new_rest y.rest_rests;
  core_room = y.core_room;
  rest_room = y.rest_room;
}

-- where the old reason isn't attached any more
pub succeeded_watched : (m : Memory) (known : List ℕ) (e : Entries) (core rest : Watches) (n r : ℕ) → MaySucceed m e n r → AreWatched m known e core rest → AreWatched m known (with_reason e n r) core rest
succeeded_watched m known e core rest n r x y = watched_replaced m known e core rest n r x.derived (λ k o s. let z : on_side k m (get_or e.reasons n 0) ≡ false = x.gone k in absurd cc) (λ o s. let z : is_short (cell_at m r).lits ≡ false = x.long in absurd cc) (λ o s. let z : is_short (cell_at m r).lits ≡ false = x.long in absurd cc) y

-- a clause of one literal that may have taken over
pub taken_kept : (m : Memory) (known : List ℕ) (e g : Entries) (at : ℕ) → MayTakeOver m e g at → IsKept e.vars m known e.lits e.reasons → IsKept g.vars m known g.lits g.reasons
taken_kept m known e g at (inl same) k = subst (λ (x : Entries). IsKept x.vars m known x.lits x.reasons) (sym same) k
taken_kept m known e g at (inr t) k = subst (λ (x : Entries). IsKept x.vars m known x.lits x.reasons) (sym t.value) (kept_replaced m known e t.place at t.may k)

pub taken_watched : (m : Memory) (known : List ℕ) (e g : Entries) (core rest : Watches) (at : ℕ) → MayTakeOver m e g at → IsListedOnce m core rest at → AreWatched m known e core rest → AreWatched m known g core rest
taken_watched m known e g core rest at (inl same) once y = subst (λ (x : Entries). AreWatched m known x core rest) (sym same) y
taken_watched m known e g core rest at (inr t) once y = subst (λ (x : Entries). AreWatched m known x core rest) (sym t.value)
    (watched_replaced m known e core rest t.place at t.may.derived (λ k o s. let z : is_short (cell_at m (get_or e.reasons t.place 0)).lits ≡ false = t.before in absurd cc) (λ o s. once.on_core o) (λ o s. once.on_rest o) y)

pub taken_vars : (m : Memory) (e g : Entries) (at : ℕ) → MayTakeOver m e g at → g.vars ≡ e.vars
taken_vars m e g at (inl same) = ap (λ (x : Entries). x.vars) same
taken_vars m e g at (inr t) = ap (λ (x : Entries). x.vars) t.value

single_set : (c d : List Literal) (l : Literal) → SameSet c d → length c ≡ length d → c ≡ l ∷ [] → d ≡ l ∷ []
single_set c [] l same size is = let n : length c ≡ 1 = ap length is in absurd (omega arith)
single_set c (k ∷ []) l same size is =
    let h : has k (l ∷ []) ≡ true = subst (λ x. has k x ≡ true) is (same k ∙ grind (arith, same_tells k k)) in
    let e : l ≡ k = grind (arith, same_tells l k) in
    ap (λ x. x ∷ []) (sym e)
single_set c (k ∷ j ∷ d) l same size is = let n : length c ≡ 1 = ap length is in absurd (omega arith)

pub taken_value : (m0 m : Memory) (e g : Entries) (at : ℕ) (p : Part) → IsSound (joined e m0) → IsRegrouped m0 m at → IsAttachedTo (joined e m0) (joined e m) at p → MayTakeOver m e g at → IsAttachedTo (joined e m0) (joined g m) at p
taken_value m0 m e g at p sound r a (inl same) = subst (λ (x : Entries). IsAttachedTo (joined e m0) (joined x m) at p) (sym same) a
taken_value m0 m e g at p sound r a (inr t) = subst (λ (x : Entries). IsAttachedTo (joined e m0) (joined x m) at p) (sym t.value) (record {
  clauses = a.clauses;
  taken_over = λ i. by_eq i t.place
      (λ q. inr (rw q (t.may.derived, get_or-set_same e.reasons t.place at 0 lt, single)))
      (λ ne. inl (get_or-set_other e.reasons t.place i at 0 ne));
  size = length-set e.reasons t.place at;
  rest = ap (λ (s : State). record s { reasons = set e.reasons t.place at }) a.rest;
})
  where
    lt : t.place < length e.reasons
    lt = omega (arith, t.may.within, sound.sizes)

    single : (slot_in (slots_of m0) at).lits ≡ get_or e.lits t.place (plus 0) ∷ []
    single = ap (λ (s : Slot). s.lits) (slot_is m0 at) ∙ single_set (cell_at m at).lits (cell_at m0 at).lits (get_or e.lits t.place (plus 0)) (r.set at) (r.size at) t.single

-- the entries where another clause takes over, or none does
pub released_from : (m : Memory) (e g : Entries) (at place : ℕ) (heir : Option ℕ) → IsReasonAt e at place → IfSome heir (λ r. MayBeReason m e place r × (r ≢ at) × (is_short (cell_at m r).lits ≡ false)) → g ≡ released_entries e place heir → IsReleased m e g at
released_from m e g at place None was may is = inr (record { place = place; was = was; value = is })
released_from m e g at place (Some r) was may is = inl (record { place = place; reason = r; was = was; may = may.0; other = may.1; long = may.2; value = is })

-- and where the clause isn't attached any more
pub heir_parted : (m n : Memory) (e : Entries) (at place : ℕ) (heir : Option ℕ) → IsReasonAt e at place → IsParted m n at None → IfSome heir (λ r. MayBeReason m e place r × (r ≢ at) × (is_short (cell_at m r).lits ≡ false)) → IfSome heir (λ r. MaySucceed n e place r)
heir_parted m n e at place None was p may = may
heir_parted m n e at place (Some r) was p may = record {
  within = may.0.within;
  derived = may.0.derived;
  some = may.0.some;
  long = subst (λ (c : Cell). is_short c.lits ≡ false) (sym (p.others r may.1)) may.2;
  gone = λ k. subst (λ j. on_side k n j ≡ false) (sym (was.here may.0.within)) (rw p.here refl);
}

-- the reasons of entries are clauses that force them
pub reasons_sound : (m : Memory) (e : Entries) → IsSound (joined e m) → AreReasons m e
reasons_sound m e x = record {
  held = λ i some. attached_held e m (get_or e.reasons i 0) x (x.attached i (within i some) (λ z. absurd (omega arith)));
  of_clause = λ i some. (reason_lit m e (get_or e.reasons i 0) i x some refl).1;
  once = λ i j some is. only_entry (joined e m) (get_or e.reasons i 0) i j x some (within i some) (within j (omega (arith, is))) refl (sym is);
}
  where
    within : (i : ℕ) → 0 < get_or e.reasons i 0 → i < length e.lits
    within i some = omega (arith, reason_within e.reasons i some, x.sizes)

pub reasons_parted : (m n : Memory) (e : Entries) (at : ℕ) (p : Option Part) → IsParted m n at p → AreReasons m e → AreReasons n e
reasons_parted m n e at p x a = record {
  held = λ i some. by_eq (get_or e.reasons i 0) at
      (λ q. let h : IsHeld m at = subst (IsHeld m) q (a.held i some) in subst (IsHeld n) (sym q) (ap (λ (c : Cell). c.held) x.here ∙ h))
      (λ ne. ap (λ (c : Cell). c.held) (x.others (get_or e.reasons i 0) ne) ∙ a.held i some);
  of_clause = λ i some. subst (λ ls. has (get_or e.lits i (plus 0)) ls ≡ true) (sym (parted_lits m n at p x (get_or e.reasons i 0))) (a.of_clause i some);
  once = a.once;
}

-- a clause that isn't a reason any more
pub released_kept : (m : Memory) (known : List ℕ) (e g : Entries) (at : ℕ) → IsReleased m e g at → IsKept e.vars m known e.lits e.reasons → IsKept g.vars m known g.lits g.reasons
released_kept m known e g at (inl t) k = subst (λ (x : Entries). IsKept x.vars m known x.lits x.reasons) (sym t.value) (kept_replaced m known e t.place t.reason t.may k)
released_kept m known e g at (inr t) k = subst (λ (x : Entries). IsKept x.vars m known x.lits x.reasons) (sym t.value) (kept_cut e.vars m known e.lits e.reasons t.place t.was.within k)

pub released_vars : (m : Memory) (e g : Entries) (at : ℕ) → IsReleased m e g at → g.vars ≡ e.vars
released_vars m e g at (inl t) = ap (λ (x : Entries). x.vars) t.value
released_vars m e g at (inr t) = ap (λ (x : Entries). x.vars) t.value

pub released_free : (m : Memory) (e g : Entries) (at : ℕ) → IsSound (joined e m) → IsReleased m e g at → (i : ℕ) → i < length g.lits → get_or g.reasons i 0 ≢ at
released_free m e g at sound (inl t) = subst (λ (x : Entries). (i : ℕ) → i < length x.lits → get_or x.reasons i 0 ≢ at) (sym t.value)
    (λ i lt. by_eq i t.place
    (λ q. rw (q, get_or-set_same e.reasons t.place t.reason 0 (omega (arith, t.may.within, sound.sizes))) t.other)
    (λ ne. rw (get_or-set_other e.reasons t.place i t.reason 0 ne) (t.was.others i lt ne)))
released_free m e g at sound (inr t) = subst (λ (x : Entries). (i : ℕ) → i < length x.lits → get_or x.reasons i 0 ≢ at) (sym t.value)
    (λ i lt. let below : i < t.place = omega (arith, lt, length-take t.place e.lits) in
    rw (get_or-take t.place e.reasons i 0 below) (t.was.others i (omega (arith, below, t.was.within)) (omega (arith, below))))

pub released_value : (m n : Memory) (e g : Entries) (at : ℕ) → IsSound (joined e m) → slots_of n ≡ with_part (slots_of m) at None → n.most ≡ m.most → IsReleased m e g at → (k : ℕ) × IsDetached (joined e m) (joined g n) at k
released_value m n e g at sound slots most (inl t) = (
  length e.lits,
  subst (λ (x : Entries). IsDetached (joined e m) (joined x n) at (length e.lits)) (sym t.value) (record {
    slots = slots;
    within = omega arith;
    lits = sym (take_all (length e.lits) e.lits (omega arith));
    size = length-set e.reasons t.place t.reason ∙ sound.sizes;
    reasons = λ i lt ne. get_or-set_other e.reasons t.place i t.reason 0 (λ q. ne (rw q (t.was.here t.may.within)));
    others = λ i lt q. by_eq i t.place
        (λ s. rw (s, get_or-set_same e.reasons t.place t.reason 0 (omega (arith, t.may.within, sound.sizes))) (λ z. let some = t.may.some in absurd (omega arith)))
        (λ ne. absurd (t.was.others i lt ne q));
    cut = inl refl;
    rest = ap (λ j. record { vars = e.vars; most = j; slots = slots_of n; lits = e.lits; reasons = set e.reasons t.place t.reason }) most;
  }),
)
released_value m n e g at sound slots most (inr t) = (
  t.place,
  subst (λ (x : Entries). IsDetached (joined e m) (joined x n) at t.place) (sym t.value)
      (detached_value m n e at t.place sound slots most (omega (arith, t.was.within, sound.sizes)) (λ i lt. t.was.others i (omega (arith, lt, t.was.within)) (omega (arith, lt))) (λ lt. t.was.here (omega (arith, lt, sound.sizes)))),
)
