-- Clauses that are attached to another part, as contracts see them.
use Rattle.std.proofs.lemmas.Bool.Decides.{nat_tests}
use Rattle.std.proofs.lemmas.List.{get_or-take, length-take}
use Rattle.std.proofs.Common.{◌≡◌, ◌≢◌, ◌⊎◌, inl, inr, ◌<◌, ℕ, Bool, true, false, List, Option, Some, None, refl, sym, ◌∙◌, ap, subst, arith, length, get_or, take, ◌≤◌, ◌==◌, ◌&&◌}
use Rattle.sr_base.specs.Literal.{SameSet, NoRepeats}
use Rattle.sr_arena.specs.Cells.{Cell, Memory, cell_at, IsHeld}
use Rattle.sr_model.proofs.Soundness.{by_test}
use Rattle.sr_watch.specs.declared.parts.Part.{Part}
use Rattle.sr_watch.specs.declared.parts.Part.TheVariants.{All}
use Rattle.sr_watch.specs.Parts.{counts, is_core}
use Rattle.sr_watch.specs.declared.watches.Watches.{Watches}
use Rattle.sr_watch.specs.State.{Slot, slot_in, AreWithin, IsSound, IsAttached}
use Rattle.sr_watch.specs.Changes.{with_part, IsReordered, IsAttachedTo, IsDetached}
use Rattle.sr_watch.specs.Inside.{part_of, slots_of, IsKept}
use Rattle.sr_watch.specs.Trail.{Entries, first_entries}
use Rattle.sr_watch.specs.Watching.{on_side, is_unlisted}
use Rattle.sr_watch.specs.Resting.{is_pending, IsResting, HasRoom, AreWatched}
use Rattle.sr_watch.specs.Marks.{joined}
use Rattle.sr_watch.specs.Purging.{IsClearedCell, AreCleared}
use Rattle.sr_watch.specs.Parting.{IsParted, IsMoved}
use Rattle.sr_watch.proofs.Entries.{by_eq}
use Rattle.sr_watch.proofs.Sides.{held_same_count, forgotten_rests}
use Rattle.sr_watch.proofs.Attached.{not_pending}
use Rattle.sr_watch.proofs.Visits.{distinct_cells}
use Rattle.sr_watch.proofs.Slots.{slot_is, part_here, part_other, core_or_all, known_same}

-- one clause may be of another part, and the literals of each may be in another order
pub record IsRegrouped (m n : Memory) (at : ℕ) : Type 0 where
  pub held : (r : ℕ) → (cell_at n r).held ≡ (cell_at m r).held
  pub number : (r : ℕ) → (cell_at n r).number ≡ (cell_at m r).number
  pub size : (r : ℕ) → length (cell_at n r).lits ≡ length (cell_at m r).lits
  pub set : (r : ℕ) → SameSet (cell_at n r).lits (cell_at m r).lits
  pub part : (r : ℕ) → r ≢ at → part_of (cell_at n r).marked (cell_at n r).flagged ≡ part_of (cell_at m r).marked (cell_at m r).flagged

pub regrouped_on : (a b c : Memory) (at : ℕ) → IsRegrouped a b at → IsRegrouped b c at → IsRegrouped a c at
regrouped_on a b c at x y = record {
  held = λ r. y.held r ∙ x.held r;
  number = λ r. y.number r ∙ x.number r;
  size = λ r. y.size r ∙ x.size r;
  set = λ r k. y.set r k ∙ x.set r k;
  part = λ r ne. y.part r ne ∙ x.part r ne;
}

pub regrouped_cleared : (m n : Memory) (at : ℕ) → AreCleared m n → IsRegrouped m n at
regrouped_cleared m n at x = record {
  held = λ r. (x.each r).held;
  number = λ r. (x.each r).number;
  size = λ r. ap length (x.each r).lits;
  set = λ r k. rw (x.each r).lits refl;
  part = λ r ne. part (cell_at m r) (cell_at n r) (x.each r) (x.each r).flagged;
}
  where
    part : (c d : Cell) → IsClearedCell c d → (d.flagged ≡ c.flagged) ⊎ ((c.marked ≡ false) × (d.flagged ≡ false)) → part_of d.marked d.flagged ≡ part_of c.marked c.flagged
    part c d y (inl f) = rw (y.marked, f) refl
    part c d y (inr w) = rw (y.marked, w.0) refl

pub regrouped_parted : (m n : Memory) (at : ℕ) (p : Option Part) → IsParted m n at p → IsRegrouped m n at
regrouped_parted m n at p x = record {
  held = λ r. by_eq r at (λ q. rw (q, x.here) refl) (λ ne. rw (x.others r ne) refl);
  number = λ r. by_eq r at (λ q. rw (q, x.here) refl) (λ ne. rw (x.others r ne) refl);
  size = λ r. by_eq r at (λ q. rw (q, x.here) refl) (λ ne. rw (x.others r ne) refl);
  set = λ r k. by_eq r at (λ q. rw (q, x.here) refl) (λ ne. rw (x.others r ne) refl);
  part = λ r ne. rw (x.others r ne) refl;
}

pub regrouped_moved : (m n : Memory) (at : ℕ) (p : Part) → IsMoved m n at p → IsRegrouped m n at
regrouped_moved m n at p x = record {
  held = λ r. by_eq r at (λ q. rw q x.held) (λ ne. rw (x.others r ne) refl);
  number = λ r. by_eq r at (λ q. rw q x.number) (λ ne. rw (x.others r ne) refl);
  size = λ r. by_eq r at (λ q. rw q x.size) (λ ne. rw (x.others r ne) refl);
  set = λ r k. by_eq r at (λ q. rw q (x.set k)) (λ ne. rw (x.others r ne) refl);
  part = λ r ne. rw (x.others r ne) refl;
}

-- a clause that is attached to a part
all_marked : (a b : Bool) → counts All (part_of a b) ≡ a
all_marked true b = refl
all_marked false b = refl

pub is_marked : (m : Memory) (e : Entries) (r : ℕ) → counts All (slot_in (slots_of m) r).part ≡ (cell_at m r).marked
is_marked m e r = ap (λ (s : Slot). counts All s.part) (slot_is m r) ∙ all_marked (cell_at m r).marked (cell_at m r).flagged

-- entries stand as before where the clause is attached, or no entry's reason
pub kept_regrouped : (m n : Memory) (known : List ℕ) (e : Entries) (at : ℕ) → IsRegrouped m n at → IsHeld m at → ((r : ℕ) → NoRepeats (cell_at n r).lits)
    → ((i : ℕ) → i < length e.lits → get_or e.reasons i 0 ≡ at → (cell_at n at).marked ≡ true) → IsKept e.vars m known e.lits e.reasons → IsKept e.vars n known e.lits e.reasons
kept_regrouped m n known e at g h once stays k =
    let x = k.sound in
    let set : (r : ℕ) → SameSet (slot_in (slots_of n) r).lits (slot_in (slots_of m) r).lits = (λ r. rw (slot_is n r, slot_is m r) (g.set r)) in
    let part : (r : ℕ) → r ≢ at → (slot_in (slots_of n) r).part ≡ (slot_in (slots_of m) r).part = (λ r ne. rw (slot_is n r, slot_is m r) (g.part r ne)) in
    record {
      fits = k.fits;
      sound = record {
        sizes = x.sizes;
        within = x.within;
        clauses_within = λ r l i. x.clauses_within r l (sym (set r l) ∙ i);
        distinct = λ r. subst (λ (s : Slot). NoRepeats s.lits) (sym (slot_is n r)) (once r);
        held = λ r a. by_eq r at
            (λ q. rw (slot_is n r, g.held r, q) h)
            (λ ne. rw (slot_is n r, g.held r) (subst (λ (s : Slot). s.held ≡ true) (slot_is m r) (x.held r (ap (counts All) (sym (part r ne)) ∙ a))));
        once = x.once;
        attached = λ i lt d. by_eq (get_or e.reasons i 0) at
            (λ q. subst (λ j. counts All (slot_in (slots_of n) j).part ≡ true) (sym q) (is_marked n e at ∙ stays i lt q))
            (λ ne. ap (counts All) (part (get_or e.reasons i 0) ne) ∙ x.attached i lt d);
        forced = λ i lt d. let f = x.forced i lt d in record { of_clause = set (get_or e.reasons i 0) _ ∙ f.of_clause; others = λ l j ne. f.others l (sym (set (get_or e.reasons i 0) l) ∙ j) ne };
        news = x.news;
      };
      derived_once = k.derived_once;
      listed = known_same m n known g.held k.listed;
    }

-- what callers see
pub attached_value : (m n : Memory) (e : Entries) (at : ℕ) (p : Part) → IsHeld m at → IsRegrouped m n at → (cell_at n at).marked ≡ true → (cell_at n at).flagged ≡ is_core p → n.most ≡ m.most → IsAttachedTo (joined e m) (joined e n) at p
attached_value m n e at p h g mark flag most = record {
  clauses = record {
    each = λ r. by_eq r at
        (λ q. rw q (here))
        (λ ne. rw (part_other (slots_of m) at r (Some p) ne, slot_is m r, slot_is n r) (record { held = g.held r; number = g.number r; part = g.part r ne; size = g.size r; set = g.set r }));
  };
  taken_over = λ i. inl refl;
  size = refl;
  rest = ap (λ k. record { vars = e.vars; most = k; slots = slots_of n; lits = e.lits; reasons = e.reasons }) most;
}
  where
    mine : (slot_in (slots_of m) at).held ≡ true
    mine = ap (λ (s : Slot). s.held) (slot_is m at) ∙ h

    here : IsReordered (slot_in (with_part (slots_of m) at (Some p)) at) (slot_in (slots_of n) at)
    here = rw (part_here (slots_of m) at (Some p) mine, slot_is m at, slot_is n at) (record { held = g.held at; number = g.number at; part = rw (mark, flag) (ap Some (core_or_all p)); size = g.size at; set = g.set at })

-- a clause is attached after flags were taken away
pub cleared_within : (m n : Memory) (v : ℕ) → AreCleared m n → ((r : ℕ) → AreWithin v (cell_at m r).lits) → (r : ℕ) → AreWithin v (cell_at n r).lits
cleared_within m n v x f r = subst (AreWithin v) (sym (x.each r).lits) (f r)

pub moved_once : (m n : Memory) (at : ℕ) (p : Part) → IsMoved m n at p → NoRepeats (cell_at n at).lits → ((r : ℕ) → NoRepeats (cell_at m r).lits) → (r : ℕ) → NoRepeats (cell_at n r).lits
moved_once m n at p x here f r = by_eq r at (λ q. rw q here) (λ ne. rw (x.others r ne) (f r))

-- a clause isn't pending any more
pub record HasForgotten (w v : Watches) (at : ℕ) : Type 0 where
  pub rest : v ≡ record w { pending = v.pending }
  pub here : is_pending v.pending at ≡ false
  pub fewer : (r : ℕ) → is_pending v.pending r ≡ true → is_pending w.pending r ≡ true
  pub others : (r : ℕ) → is_pending v.pending r ≡ false → is_pending w.pending r ≡ true → r ≡ at

pub forgotten_before : (w : Watches) (at : ℕ) → is_pending w.pending at ≡ false → HasForgotten w w at
forgotten_before w at h = record { rest = refl; here = h; fewer = λ r t. t; others = λ r f t. absurd cc }

-- a clause that isn't attached any more
pub watched_parted : (m n : Memory) (known : List ℕ) (e : Entries) (core core' rest rest' : Watches) (at : ℕ) → IsHeld m at → IsParted m n at None → HasForgotten core core' at → HasForgotten rest rest' at → AreWatched m known e core rest → AreWatched n known e core' rest'
watched_parted m n known e core core' rest rest' at h x a b y = record {
  counted = held_same_count m.cells n.cells (regrouped_parted m n at None x).held ∙ y.counted;
  core_rests = side true core core' a y.core_rests;
  rest_rests = side false rest rest' b y.rest_rests;
  core_room = subst (λ (w : Watches). HasRoom (length known) w.lists) (sym a.rest) y.core_room;
  rest_room = subst (λ (w : Watches). HasRoom (length known) w.lists) (sym b.rest) y.rest_room;
}
  where
    off : (core : Bool) → on_side core n at ≡ false
    off core = rw x.here refl

    never : (core : Bool) → is_unlisted core (cell_at n at) ≡ false
    never core = rw (x.here, h) refl

    side : (core : Bool) (w v : Watches) → HasForgotten w v at → IsResting core m e w → IsResting core n e v
    side core w v f z = forgotten_rests core m n e w v at f.rest f.here f.fewer f.others x.others (rw x.here refl) (rw x.here refl) (off core) (λ u. let never' = never core in absurd cc) z

-- the entries before the first of a reason
pub detached_value : (m n : Memory) (e : Entries) (at k : ℕ) → IsSound (joined e m) → slots_of n ≡ with_part (slots_of m) at None → n.most ≡ m.most → k ≤ length e.reasons → ((i : ℕ) → i < k → get_or e.reasons i 0 ≢ at) → (k < length e.reasons → get_or e.reasons k 0 ≡ at)
    → IsDetached (joined e m) (joined (first_entries e k) n) at k
detached_value m n e at k x slots most le before here = record {
  slots = slots;
  within = omega (arith, le, x.sizes);
  lits = refl;
  size = length-take k e.reasons ∙ omega (arith, le);
  reasons = λ i lt ne. get_or-take k e.reasons i 0 lt;
  others = λ i lt q. absurd (before i lt q);
  cut = by_test (k == length e.reasons) (λ t. inl (grind (arith, nat_tests, x.sizes))) (λ t. let ne : k ≢ length e.reasons = grind (arith, nat_tests) in inr (here (omega (arith, le, ne))));
  rest = ap (λ j. record { vars = e.vars; most = j; slots = slots_of n; lits = take k e.lits; reasons = take k e.reasons }) most;
}

-- nothing is attached anew
pub regrouped_same : (m : Memory) (at : ℕ) → IsRegrouped m m at
regrouped_same m at = record { held = λ r. refl; number = λ r. refl; size = λ r. refl; set = λ r k. refl; part = λ r ne. refl }

-- literals stay where a clause is attached to another part
pub parted_lits : (m n : Memory) (at : ℕ) (p : Option Part) → IsParted m n at p → (r : ℕ) → (cell_at n r).lits ≡ (cell_at m r).lits
parted_lits m n at p x r = by_eq r at (λ q. rw (q, x.here) refl) (λ ne. rw (x.others r ne) refl)

pub parted_within : (m n : Memory) (at : ℕ) (p : Option Part) (v : ℕ) → IsParted m n at p → ((r : ℕ) → AreWithin v (cell_at m r).lits) → (r : ℕ) → AreWithin v (cell_at n r).lits
parted_within m n at p v x f r = subst (AreWithin v) (sym (parted_lits m n at p x r)) (f r)

pub parted_once : (m n : Memory) (at : ℕ) (p : Option Part) → IsParted m n at p → ((r : ℕ) → NoRepeats (cell_at m r).lits) → (r : ℕ) → NoRepeats (cell_at n r).lits
parted_once m n at p x f r = subst NoRepeats (sym (parted_lits m n at p x r)) (f r)

-- a clause that isn't flagged isn't of the core
pub off_core : (m : Memory) (at : ℕ) → (cell_at m at).flagged ≡ false → on_side true m at ≡ false
off_core m at h = rw h (go (cell_at m at).marked)
  where
    go : (b : Bool) → b && false ≡ false
    go true = refl
    go false = refl

-- a clause of the rest that isn't attached any more
pub watched_parked : (m n : Memory) (known : List ℕ) (e : Entries) (core rest rest' : Watches) (at : ℕ) → IsHeld m at → (cell_at m at).flagged ≡ false → IsParted m n at None → HasForgotten rest rest' at → AreWatched m known e core rest → AreWatched n known e core rest'
watched_parked m n known e core rest rest' at h flag x b y = watched_parted m n known e core core rest rest' at h x (forgotten_before core at (not_pending true m e core at (off_core m at flag) y.core_rests)) b y

-- a clause that is attached after flags were taken away
pub regrouped_attached : (m f n : Memory) (at : ℕ) (p : Part) → AreCleared m f → IsMoved f n at p → IsRegrouped m n at
regrouped_attached m f n at p x y = regrouped_on m f n at (regrouped_cleared m f at x) (regrouped_moved f n at p y)

pub kept_attached : (m f n : Memory) (known : List ℕ) (e : Entries) (at : ℕ) (p : Part) → IsHeld m at → AreCleared m f → IsMoved f n at p → NoRepeats (cell_at n at).lits → IsKept e.vars m known e.lits e.reasons → IsKept e.vars n known e.lits e.reasons
kept_attached m f n known e at p held x y once k =
    let all : (r : ℕ) → NoRepeats (cell_at f r).lits = (λ r. subst NoRepeats (sym (x.each r).lits) (distinct_cells m e k.sound r)) in
    kept_regrouped m n known e at (regrouped_attached m f n at p x y) held (moved_once f n at p y once all) (λ i lt q. y.marked) k

pub attached_here : (m : Memory) (e : Entries) (r : ℕ) → (cell_at m r).marked ≡ true → IsAttached (joined e m) r
attached_here m e r h = is_marked m e r ∙ h
