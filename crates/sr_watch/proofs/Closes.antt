-- What the end of propagation means.
use Rattle.std.proofs.lemmas.Bool.Decides.{nat_tests}
use Rattle.std.proofs.Common.{◌≡◌, ◌≢◌, ◌⊎◌, inl, inr, ◌<◌, ◌≤◌, ◌^◌, ℕ, Bool, true, false, ◌==◌, List, [], ◌∷◌, Option, None, Some, MatchOption, refl, sym, ◌∙◌, ap, subst, arith, length, get_or, suc, zero, take, take_all}
use Rattle.sr_base.specs.Literal.{Literal, plus, same, has, NoRepeats}
use Rattle.sr_base.proofs.Literals.{same_tells}
use Rattle.sr_arena.specs.Cells.{Cell, Memory, cell_at}
use Rattle.sr_model.specs.Assignment.{holds_number}
use Rattle.sr_model.specs.Refutation.{IsClosedFor, is_empty}
use Rattle.sr_model.specs.Substitution.{has_pair}
use Rattle.sr_model.proofs.Soundness.{by_test}
use Rattle.sr_model.proofs.Chains.{pair_from}
use Rattle.sr_watch.specs.declared.watches.Watches.{Watches}
use Rattle.sr_watch.specs.declared.parts.Part.{Part}
use Rattle.sr_watch.specs.declared.parts.Part.TheVariants.{Core, All}
use Rattle.sr_watch.specs.Parts.{counts, is_core}
use Rattle.sr_watch.specs.State.{Slot, slot_in, IsOfPart, assumed_in, AllFalse, IsSound}
use Rattle.sr_watch.specs.Changes.{IsReordered, Derives, AreDerivedBy}
use Rattle.sr_watch.specs.Inside.{part_of, slots_of, derived_in, AreKnown, IsKept}
use Rattle.sr_watch.specs.Running.{IsNothing, IsFalse}
use Rattle.sr_watch.specs.Marks.{joined}
use Rattle.sr_watch.specs.Trail.{Entries, AreEntries}
use Rattle.sr_watch.specs.Rising.{AreRising}
use Rattle.sr_watch.specs.Scanning.{IsSettled}
use Rattle.sr_watch.specs.Watching.{SomeTrue, IsGuarded, AreGuarded, is_short, is_on, clause_on}
use Rattle.sr_watch.specs.Walking.{IsTurnedCell, AreReasonsOn, IsStep, IsPropagated, IsGrown, HasSameShape, IsFalseOn, IsFalsified, AreSettled}
use Rattle.sr_watch.specs.Resting.{is_pending, IsResting, IsPrepared, AreWatched}
use Rattle.sr_watch.proofs.Tables.{few}
use Rattle.sr_watch.proofs.Answering.{entry_assumed}
use Rattle.sr_watch.proofs.Clauses.{closed_all, none_empty}
use Rattle.sr_watch.proofs.Slots.{slot_is, known_same}
use Rattle.sr_watch.proofs.Attached.{room_kept}
use Rattle.sr_watch.proofs.Sides.{held_same_count}
use Rattle.sr_watch.proofs.Visits.{clause_here, distinct_cells, turned_same, grown_start}
use Rattle.sr_watch.proofs.OnWalk.{grown_on}

-- a guarded clause is closed
guarded_closes : (b c : List Literal) → NoRepeats c → is_short c ≡ false → has_pair b ≡ false → IsGuarded b b c → IsClosedFor b c
guarded_closes b [] n long np g l there others = absurd cc
guarded_closes b (x ∷ []) n long np g l there others = absurd cc
guarded_closes b (x ∷ y ∷ c) n long np g l there others = by_test (same x l)
    (λ t. let is : x ≡ l = grind (arith, same_tells x l) in let ne : y ≢ l = (λ e. absurd (grind (arith, n.0, same_tells y x, same_tells x y))) in
    finish (g y (grind (arith, same_tells y y)) (others y (grind (arith, same_tells y y)) ne)))
    (λ f. let ne : x ≢ l = grind (arith, same_tells x l) in finish (g x (grind (arith, same_tells x x)) (others x (grind (arith, same_tells x x)) ne)))
  where
    finish : SomeTrue b (x ∷ y ∷ c) → has l b ≡ true
    finish t = by_test (same t.literal l)
        (λ e. let is : t.literal ≡ l = grind (arith, same_tells t.literal l) in subst (λ j. has j b ≡ true) is t.is_true)
        (λ e. let ne : t.literal ≢ l = grind (arith, same_tells t.literal l) in let p : has_pair b ≡ true = pair_from b (t.literal, t.is_true, others t.literal t.of_clause ne) in absurd cc)

long_some : (c : List Literal) → is_short c ≡ false → is_empty c ≡ false
long_some [] h = absurd cc
long_some (x ∷ c) h = refl

-- a clause of one literal that is true is closed
unit_closes : (b c : List Literal) → is_short c ≡ true → SomeTrue b c → IsSettled b c
unit_closes b [] s t = let h : has t.literal [] ≡ true = t.of_clause in absurd cc
unit_closes b (x ∷ []) s t = record {
  closed = λ l there others. let xl : x ≡ l = grind (arith, same_tells x l) in let h : has t.literal (x ∷ []) ≡ true = t.of_clause in let xt : x ≡ t.literal = grind (arith, same_tells x t.literal, h) in subst (λ j. has j b ≡ true) (sym xt ∙ xl) t.is_true;
  some = refl;
}
unit_closes b (x ∷ y ∷ c) s t = absurd cc

-- all entries were walked
pub are_settled : (core : Bool) (m : Memory) (e : Entries) (w : Watches) → IsSound (joined e m) → has_pair e.lits ≡ false → w.done ≡ length e.lits → IsPrepared core m e w → IsResting core m e w → AreSettled core m e.lits
are_settled core m e w x np all pr y r o = by_test (is_short (cell_at m r).lits)
    (λ s. unit_closes e.lits (cell_at m r).lits s (pr.short r o s))
    (λ s. record {
      closed = guarded_closes e.lits (cell_at m r).lits (distinct_cells m e x r) s np (subst (λ c. IsGuarded e.lits e.lits c) (clause_here core m r o) (whole r));
      some = long_some (cell_at m r).lits s;
    })
  where
    whole : (i : ℕ) → IsGuarded e.lits e.lits (clause_on core m i)
    whole i = subst (λ b. IsGuarded b e.lits (clause_on core m i)) (take_all w.done e.lits (omega (arith, all))) (y.guarded i (ap (λ p. is_pending p i) pr.pending))

-- a kept length more
pub kept_rests : (core : Bool) (m : Memory) (e : Entries) (w v : Watches) → v ≡ record w { kept = v.kept } → w.done ≡ length e.lits → IsPrepared core m e w → AreRising 0 v.kept.items → ((n : ℕ) → holds_number n v.kept.items ≡ true → (n ≡ length e.lits) ⊎ (holds_number n w.kept.items ≡ true))
    → IsResting core m e w → IsResting core m e v
kept_rests core m e w v is all pr rises kept y = subst (IsResting core m e) (sym is) (record {
  idle = y.idle;
  stocked = y.stocked;
  linked = y.linked;
  shaded = y.shaded;
  short = y.short;
  within = y.within;
  guarded = y.guarded;
  pending = y.pending;
  kept = record { rising = rises; within = λ n h. within n (kept n h); guarded = λ n h. guarded n (kept n h) };
})
  where
    within : (n : ℕ) → (n ≡ length e.lits) ⊎ (holds_number n w.kept.items ≡ true) → n ≤ length e.lits
    within n (inl i) = omega (arith, i)
    within n (inr h) = y.kept.within n h

    guarded : (n : ℕ) → (n ≡ length e.lits) ⊎ (holds_number n w.kept.items ≡ true) → AreGuarded (take n e.lits) (take n e.lits) (clause_on core m)
    guarded n (inl i) = λ r. let t : take n e.lits ≡ e.lits = take_all n e.lits (omega (arith, i)) in
        subst (λ b. IsGuarded b b (clause_on core m r)) (sym t) (subst (λ b. IsGuarded b e.lits (clause_on core m r)) (take_all w.done e.lits (omega (arith, all))) (y.guarded r (ap (λ p. is_pending p r) pr.pending)))
    guarded n (inr h) = y.kept.guarded n h

pub few_fit : (e : Entries) → AreEntries e → length e.lits < 2 ^ 32
few_fit e x = omega (arith, few e x, x.fits)

-- steps over both sides
pub propagated_start : (m : Memory) (e : Entries) → IsSound (joined e m) → IsPropagated m m e e
propagated_start m e x = record { each = λ r. turned_same (cell_at m r); most = refl; used = refl; cells = refl; grown = grown_start m e x }

pub propagated_more : (core : Bool) (a b c : Memory) (e g h : Entries) → IsPropagated a b e g → IsStep core b c g h → IsPropagated a c e h
propagated_more core a b c e g h x y = record {
  each = λ r. let p = x.each r in let q = y.turned.each r in record { held = q.held ∙ p.held; number = q.number ∙ p.number; marked = q.marked ∙ p.marked; flagged = q.flagged ∙ p.flagged; size = q.size ∙ p.size; set = λ k. q.set k ∙ p.set k };
  most = y.turned.most ∙ x.most;
  used = y.turned.used ∙ x.used;
  cells = y.turned.cells ∙ x.cells;
  grown = grown_on e g h x.grown y.grown;
}

-- what the loop over both sides keeps
pub record IsClosingAll (m n : Memory) (e h : Entries) (core core' rest rest' : Watches) : Type 0 where
  pub steps : IsPropagated m n e h
  pub sound : IsSound (joined h n)
  pub core_shape : HasSameShape core.lists core'.lists
  pub rest_shape : HasSameShape rest.lists rest'.lists
  pub core_rests : IsResting true n h core'
  pub rest_rests : IsResting false n h rest'
  pub core_prepared : IsPrepared true n h core'
  pub rest_prepared : IsPrepared false n h rest'

-- the sides of the parts
core_side : (a b : Bool) → counts Core (part_of a b) ≡ true → (a ≡ true) × (b ≡ true)
core_side true true h = (refl, refl)
core_side true false h = absurd cc
core_side false true h = absurd cc
core_side false false h = absurd cc

on_core : (c : Cell) → counts Core (part_of c.marked c.flagged) ≡ true → is_on true c ≡ true
on_core c h = let w = core_side c.marked c.flagged h in rw (w.0, w.1) refl

any_side : (a b : Bool) → counts All (part_of a b) ≡ true → a ≡ true
any_side true b h = refl
any_side false b h = absurd cc

on_any : (c : Cell) → counts All (part_of c.marked c.flagged) ≡ true → (is_on true c ≡ true) ⊎ (is_on false c ≡ true)
on_any c h = let m = any_side c.marked c.flagged h in by_test c.flagged (λ t. inl (rw (m, t) refl)) (λ t. inr (rw (m, t) refl))

nothing_by : (p : Part) (m : Memory) (e : Entries) → ((r : ℕ) → counts p (part_of (cell_at m r).marked (cell_at m r).flagged) ≡ true → IsSettled e.lits (cell_at m r).lits) → IsNothing p (joined e m)
nothing_by p m e f = record {
  closed = closed_all p (slots_of m) e.lits (λ r h. subst (λ (s : Slot). IsClosedFor e.lits s.lits) (sym (slot_is m r)) (f r (subst (λ (s : Slot). counts p s.part ≡ true) (slot_is m r) h)).closed);
  none_empty = none_empty p (slots_of m) (λ r h. subst (λ (s : Slot). is_empty s.lits ≡ false) (sym (slot_is m r)) (f r (subst (λ (s : Slot). counts p s.part ≡ true) (slot_is m r) h)).some);
}

pub nothing_core : (m : Memory) (e : Entries) → AreSettled true m e.lits → IsNothing Core (joined e m)
nothing_core m e x = nothing_by Core m e (λ r h. x r (on_core (cell_at m r) h))

pub nothing_all : (m : Memory) (e : Entries) → AreSettled true m e.lits → AreSettled false m e.lits → IsNothing All (joined e m)
nothing_all m e x y = nothing_by All m e (λ r h. go r (on_any (cell_at m r) h))
  where
    go : (r : ℕ) → (is_on true (cell_at m r) ≡ true) ⊎ (is_on false (cell_at m r) ≡ true) → IsSettled e.lits (cell_at m r).lits
    go r (inl o) = x r o
    go r (inr o) = y r o

on_is_core : (c : Cell) → is_on true c ≡ true → counts Core (part_of c.marked c.flagged) ≡ true
on_is_core c h = by_test c.marked (λ t. by_test c.flagged (λ f. rw (t, f) refl) (λ f. let z : is_on true c ≡ false = rw (t, f) refl in absurd cc)) (λ t. let z : is_on true c ≡ false = rw t refl in absurd cc)

on_is_all : (core : Bool) (c : Cell) → is_on core c ≡ true → counts All (part_of c.marked c.flagged) ≡ true
on_is_all core c h = by_test c.marked (λ t. rw t refl) (λ t. let z : is_on core c ≡ false = rw t refl in absurd cc)

pub false_core : (m : Memory) (e : Entries) (at : ℕ) → IsFalseOn true m e.lits at → IsFalse Core (joined e m) at
false_core m e at x = record {
  of_part = subst (λ (s : Slot). counts Core s.part ≡ true) (sym (slot_is m at)) (on_is_core (cell_at m at) x.on);
  all_false = subst (λ (s : Slot). AllFalse e.lits s.lits) (sym (slot_is m at)) x.all_false;
}

false_on : (core : Bool) (m : Memory) (e : Entries) (at : ℕ) → IsFalseOn core m e.lits at → IsFalse All (joined e m) at
false_on core m e at x = record {
  of_part = subst (λ (s : Slot). counts All s.part ≡ true) (sym (slot_is m at)) (on_is_all core (cell_at m at) x.on);
  all_false = subst (λ (s : Slot). AllFalse e.lits s.lits) (sym (slot_is m at)) x.all_false;
}

pub false_all : (m : Memory) (e : Entries) (at : ℕ) → IsFalsified m e.lits at → IsFalse All (joined e m) at
false_all m e at (inl x) = false_on true m e at x
false_all m e at (inr x) = false_on false m e at x

-- what callers see of propagation
pub propagated_derives : (m n : Memory) (e g : Entries) → IsPropagated m n e g → Derives (joined e m) (joined g n)
propagated_derives m n e g x = record {
  clauses = record { each = λ r. reordered r (x.each r) };
  lits = x.grown.lits;
  reasons = x.grown.reasons;
  assumed = x.grown.assumed;
  rest = ap (λ v. record { vars = v; most = n.most; slots = slots_of n; lits = g.lits; reasons = g.reasons }) x.grown.vars ∙ ap (λ k. record { vars = e.vars; most = k; slots = slots_of n; lits = g.lits; reasons = g.reasons }) x.most;
}
  where
    reordered : (r : ℕ) → IsTurnedCell (cell_at m r) (cell_at n r) → IsReordered (slot_in (slots_of m) r) (slot_in (slots_of n) r)
    reordered r t = rw (slot_is m r, slot_is n r) (record { held = t.held; number = t.number; part = rw (t.marked, t.flagged) refl; size = t.size; set = t.set })

-- an assumed entry behind the first ones makes the assumed literals more
more_assumed : (ls : List Literal) (rs : List ℕ) (n i : ℕ) → length rs ≡ length ls → n ≤ i → i < length ls → get_or rs i 0 ≡ 0 → length (assumed_in (take n ls) (take n rs)) < length (assumed_in ls rs)
more_assumed [] rs n i e le lt z = absurd (omega (arith, lt))
more_assumed (l ∷ ls) [] n i e le lt z = absurd (omega (arith, e))
more_assumed (l ∷ ls) (r ∷ rs) zero i e le lt z = some (assumed_in (l ∷ ls) (r ∷ rs)) (get_or (l ∷ ls) i (plus 0)) (entry_assumed (l ∷ ls) (r ∷ rs) i lt (sym e) z)
  where
    some : (xs : List Literal) (k : Literal) → has k xs ≡ true → 0 < length xs
    some [] k h = absurd cc
    some (x ∷ xs) k h = omega arith
more_assumed (l ∷ ls) (r ∷ rs) (suc n) zero e le lt z = absurd (omega (arith, le))
more_assumed (l ∷ ls) (r ∷ rs) (suc n) (suc i) e le lt z =
    let rest : length (assumed_in (take n ls) (take n rs)) < length (assumed_in ls rs) = more_assumed ls rs n i (omega (arith, e)) (omega (arith, le)) (omega (arith, lt)) z in
    by_test (r == 0) (λ t. rw t (omega (arith, rest))) (λ t. rw t rest)

grown_derived : (e g : Entries) → length e.reasons ≡ length e.lits → length g.reasons ≡ length g.lits → IsGrown e g → (i : ℕ) → length e.lits ≤ i → i < length g.lits → get_or g.reasons i 0 ≢ 0
grown_derived e g a b x i le lt z =
    let more = more_assumed g.lits g.reasons (length e.lits) i b le lt z in
    let reasons : take (length e.lits) g.reasons ≡ e.reasons = subst (λ n. take n g.reasons ≡ e.reasons) a x.reasons in
    let same : assumed_in (take (length e.lits) g.lits) (take (length e.lits) g.reasons) ≡ assumed_in g.lits g.reasons = rw (x.lits, reasons) (sym x.assumed) in
    omega (arith, more, ap (length {A = Literal}) same)

-- what is derived over the core has reasons of the core
pub propagated_by : (p : Part) (m n : Memory) (e g : Entries) → length e.reasons ≡ length e.lits → IsSound (joined g n) → IsPropagated m n e g → (is_core p ≡ true → AreReasonsOn true n e g) → AreDerivedBy p (joined e m) (joined g n)
propagated_by p m n e g a s x of i le lt =
    let some = grown_derived e g a s.sizes x.grown i le lt in (some, by p of)
  where
    by : (q : Part) → (is_core q ≡ true → AreReasonsOn true n e g) → IsOfPart (joined g n) q (get_or g.reasons i 0)
    by All o = s.attached i lt (grown_derived e g a s.sizes x.grown i le lt)
    by Core o =
        let d = grown_derived e g a s.sizes x.grown i le lt in
        let low : length e.reasons ≤ i = omega (arith, a, le) in
        let high : 0 < get_or g.reasons i 0 = omega (arith, d) in
        subst (λ (c : Slot). counts Core c.part ≡ true) (sym (slot_is n (get_or g.reasons i 0))) (on_is_core (cell_at n (get_or g.reasons i 0)) (o refl i low high))

pub propagated_watched : (m n : Memory) (known : List ℕ) (e g : Entries) (core core' rest rest' : Watches) → IsPropagated m n e g → HasSameShape core.lists core'.lists → HasSameShape rest.lists rest'.lists → IsResting true n g core' → IsResting false n g rest' → AreWatched m known e core rest → AreWatched n known g core' rest'
propagated_watched m n known e g core core' rest rest' x cs rs cr rr y = record {
  counted = held_same_count m.cells n.cells (λ r. (x.each r).held) ∙ y.counted;
  core_rests = cr;
  rest_rests = rr;
  core_room = room_kept (length known) core.lists core'.lists cs y.core_room;
  rest_room = room_kept (length known) rest.lists rest'.lists rs y.rest_room;
}

pub known_turned : (m n : Memory) (known : List ℕ) → ((r : ℕ) → IsTurnedCell (cell_at m r) (cell_at n r)) → AreKnown m known → AreKnown n known
known_turned m n known t k = known_same m n known (λ r. (t r).held) k

-- the same of either part
pub found_all : (p : Part) (m : Memory) (e : Entries) (o : Option ℕ) → is_core p ≡ false → MatchOption o (AreSettled true m e.lits × AreSettled false m e.lits) (λ at. IsFalsified m e.lits at) → MatchOption o (IsNothing p (joined e m)) (λ at. IsFalse p (joined e m) at)
found_all Core m e o h x = absurd cc
found_all All m e None h x = nothing_all m e x.0 x.1
found_all All m e (Some at) h x = false_all m e at x

pub found_core : (p : Part) (m : Memory) (e : Entries) (o : Option ℕ) → is_core p ≡ true → MatchOption o (AreSettled true m e.lits) (λ at. IsFalseOn true m e.lits at) → MatchOption o (IsNothing p (joined e m)) (λ at. IsFalse p (joined e m) at)
found_core All m e o h x = absurd cc
found_core Core m e None h x = nothing_core m e x
found_core Core m e (Some at) h x = false_core m e at x

-- what was open when it was derived is derived once
none_derived : (l : Literal) (ls : List Literal) (rs : List ℕ) → ((i : ℕ) → i < length ls → get_or rs i 0 ≢ 0 → get_or ls i (plus 0) ≢ l) → has l (derived_in ls rs) ≡ false
none_derived l [] rs f = refl
none_derived l (k ∷ ls) [] f = refl
none_derived l (k ∷ ls) (r ∷ rs) f =
    let rest : has l (derived_in ls rs) ≡ false = none_derived l ls rs (λ i lt d. f (suc i) (omega (arith, lt)) d) in
    by_test (r == 0) (λ t. rw t rest)
    (λ t. let d : r ≢ 0 = grind (arith, nat_tests) in let ne : k ≢ l = f 0 (omega arith) d in let s : same k l ≡ false = grind (arith, same_tells k l) in rw (t, s) rest)

once_by_news : (ls : List Literal) (rs : List ℕ) → ((i : ℕ) → i < length ls → get_or rs i 0 ≢ 0 → has (get_or ls i (plus 0)) (take i ls) ≡ false) → NoRepeats (derived_in ls rs)
once_by_news [] rs f = tt
once_by_news (k ∷ ls) [] f = tt
once_by_news (k ∷ ls) (r ∷ rs) f =
    let rest : NoRepeats (derived_in ls rs) = once_by_news ls rs (λ i lt d. grind (arith, f (suc i) (omega (arith, lt)) d)) in
    by_test (r == 0) (λ t. rw t rest)
    (λ t. rw t (none_derived k ls rs (λ i lt d is. let s : same k (get_or ls i (plus 0)) ≡ true = grind (arith, same_tells k (get_or ls i (plus 0)), is) in let n : has (get_or ls i (plus 0)) (k ∷ take i ls) ≡ false = f (suc i) (omega (arith, lt)) d in absurd (grind (arith, n, s))), rest))

pub propagated_kept : (m n : Memory) (known : List ℕ) (e g : Entries) → IsPropagated m n e g → IsSound (joined g n) → IsKept e.vars m known e.lits e.reasons → IsKept g.vars n known g.lits g.reasons
propagated_kept m n known e g x y k = record {
  fits = omega (arith, k.fits, x.grown.vars);
  sound = y;
  derived_once = once_by_news g.lits g.reasons (λ i lt d. (y.news i lt d).not_true);
  listed = known_turned m n known x.each k.listed;
}
