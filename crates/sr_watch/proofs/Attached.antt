-- A clause that is attached, and both sides.
use Rattle.std.proofs.Common.{◌≡◌, ◌<◌, ℕ, Bool, true, false, List, [], Some, refl, sym, ◌∙◌, ap, subst, arith, length}
use Rattle.sr_base.specs.Literal.{SameSet}
use Rattle.sr_arena.specs.Cells.{Cell, Memory, cell_at, IsHeld, held_in}
use Rattle.sr_model.proofs.Soundness.{by_test}
use Rattle.sr_lists.specs.Family.{Family}
use Rattle.sr_watch.specs.declared.watches.Watches.{Watches}
use Rattle.sr_watch.specs.declared.watches.TheConstants.{UNSEEN}
use Rattle.sr_watch.specs.declared.parts.Part.{Part}
use Rattle.sr_watch.specs.declared.parts.Part.TheVariants.{Core, All}
use Rattle.sr_watch.specs.Trail.{Entries}
use Rattle.sr_watch.specs.Watching.{on_side, is_of, is_unlisted, tally}
use Rattle.sr_watch.specs.Walking.{HasSameShape}
use Rattle.sr_watch.specs.Attaching.{IsArranged, IsPutOn}
use Rattle.sr_watch.specs.Parting.{IsParted, IsMoved}
use Rattle.sr_watch.specs.Resting.{is_pending, IsResting, HasRoom, AreWatched}
use Rattle.sr_watch.proofs.Entries.{by_eq}
use Rattle.sr_watch.proofs.Rooms.{held_some}
use Rattle.sr_watch.proofs.Sides.{held_same_count, left_rests}

-- an unmarked clause is attached to no side
pub unmarked_off : (core : Bool) (m : Memory) (at : ℕ) → (cell_at m at).marked ≡ false → on_side core m at ≡ false
unmarked_off core m at h = rw h refl

-- what isn't attached isn't pending
pub not_pending : (core : Bool) (m : Memory) (e : Entries) (w : Watches) (at : ℕ) → on_side core m at ≡ false → IsResting core m e w → is_pending w.pending at ≡ false
not_pending core m e w at off y = by_test (is_pending w.pending at) (λ t. let o : on_side core m at ≡ true = (y.pending at t).on in absurd cc) (λ f. f)

-- a clause that was never listed has no watches
pub free_core : (m : Memory) (e : Entries) (w : Watches) (at : ℕ) → (cell_at m at).flagged ≡ false → IsResting true m e w → tally w.lists [] (is_of at) ≡ 0
free_core m e w at f y = y.stocked.clean at (by_test (cell_at m at).held (λ h. rw (h, f) refl) (λ h. rw h refl))

pub free_rest : (m : Memory) (e : Entries) (w : Watches) (at : ℕ) → (cell_at m at).flagged ≡ false → (cell_at m at).marked ≡ false → IsResting false m e w → tally w.lists [] (is_of at) ≡ 0
free_rest m e w at f u y = y.stocked.clean at (by_test (cell_at m at).held (λ h. rw (h, f, u) refl) (λ h. rw h refl))

pub short_key_there : (m : Memory) (count at : ℕ) (f : Family) → length (held_in m.cells) ≡ count → HasRoom count f → IsHeld m at → UNSEEN < length f.lists
short_key_there m count at f counted room held = omega (arith, room.keys (omega (arith, held_some m.cells at held, counted)))

pub room_kept : (n : ℕ) (f g : Family) → HasSameShape f g → HasRoom n f → HasRoom n g
room_kept n f g s x = record { keys = λ some. omega (arith, x.keys some, s.keys); room = omega (arith, x.room, s.room) }

pub moved_is : (m0 m n : Memory) (at : ℕ) (p : Part) → IsArranged at m0 m → IsParted m n at (Some p) → IsMoved m0 n at p
moved_is m0 m n at p a q = record {
  held = ap (λ (c : Cell). c.held) q.here ∙ (a.each at).held;
  number = ap (λ (c : Cell). c.number) q.here ∙ (a.each at).number;
  marked = ap (λ (c : Cell). c.marked) q.here;
  flagged = ap (λ (c : Cell). c.flagged) q.here;
  size = ap (λ (c : Cell). length c.lits) q.here ∙ (a.each at).size;
  set = subst (λ (c : Cell). SameSet c.lits (cell_at m0 at).lits) (sym q.here) (a.each at).set;
  others = λ r ne. q.others r ne ∙ a.others r ne;
  most = q.most ∙ a.most;
  used = q.used ∙ a.used;
  cells = q.cells ∙ a.cells;
}

moved_held : (m n : Memory) (at : ℕ) (p : Part) → IsMoved m n at p → (r : ℕ) → (cell_at n r).held ≡ (cell_at m r).held
moved_held m n at p x r = by_eq r at
    (λ q. subst (λ j. (cell_at n j).held ≡ (cell_at m j).held) (sym q) x.held)
    (λ ne. ap (λ (c : Cell). c.held) (x.others r ne))

pub attached_core : (m0 m n : Memory) (known : List ℕ) (e : Entries) (core core' rest : Watches) (at : ℕ) → IsHeld m0 at → (cell_at m0 at).marked ≡ false → tally core.lists [] (is_of at) ≡ 0 → IsArranged at m0 m → IsParted m n at (Some Core) → HasSameShape core.lists core'.lists
    → ((k : Bool) (n : Memory) → IsResting k m0 e core → on_side k m0 at ≡ false → tally core.lists [] (is_of at) ≡ 0 → IsPutOn k m n at → IsResting k n e core') → AreWatched m0 known e core rest → AreWatched n known e core' rest
attached_core m0 m n known e core core' rest at held un free a q shape rests y =
    let x = moved_is m0 m n at Core a q in
    record {
      counted = held_same_count m0.cells n.cells (moved_held m0 n at Core x) ∙ y.counted;
      core_rests = rests true n y.core_rests (unmarked_off true m0 at un) free (record { held = x.held ∙ held; on = rw (x.marked, x.flagged) refl; lits = ap (λ (c : Cell). c.lits) q.here; others = q.others });
      rest_rests = left_rests false m0 n e rest at x.others x.held x.size x.set (rw (x.marked, x.flagged) refl) (λ u. let z : is_unlisted false (cell_at n at) ≡ false = rw (x.held ∙ held, x.flagged) refl in absurd cc) (not_pending false m0 e rest at (unmarked_off false m0 at un) y.rest_rests) y.rest_rests;
      core_room = room_kept (length known) core.lists core'.lists shape y.core_room;
      rest_room = y.rest_room;
    }

pub attached_rest : (m0 m n : Memory) (known : List ℕ) (e : Entries) (core rest rest' : Watches) (at : ℕ) → IsHeld m0 at → (cell_at m0 at).marked ≡ false → (cell_at m0 at).flagged ≡ false → IsArranged at m0 m → IsParted m n at (Some All) → HasSameShape rest.lists rest'.lists
    → ((k : Bool) (n : Memory) → IsResting k m0 e rest → on_side k m0 at ≡ false → tally rest.lists [] (is_of at) ≡ 0 → IsPutOn k m n at → IsResting k n e rest') → AreWatched m0 known e core rest → AreWatched n known e core rest'
attached_rest m0 m n known e core rest rest' at held un fl a q shape rests y =
    let x = moved_is m0 m n at All a q in
    record {
      counted = held_same_count m0.cells n.cells (moved_held m0 n at All x) ∙ y.counted;
      core_rests = left_rests true m0 n e core at x.others x.held x.size x.set (rw (x.marked, x.flagged) refl) (λ u. rw (held, fl) refl) (not_pending true m0 e core at (unmarked_off true m0 at un) y.core_rests) y.core_rests;
      rest_rests = rests false n y.rest_rests (unmarked_off false m0 at un) (free_rest m0 e rest at fl un y.rest_rests) (record { held = x.held ∙ held; on = rw (x.marked, x.flagged) refl; lits = ap (λ (c : Cell). c.lits) q.here; others = q.others });
      core_room = y.core_room;
      rest_room = room_kept (length known) rest.lists rest'.lists shape y.rest_room;
    }
