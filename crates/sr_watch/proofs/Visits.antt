-- What one visit does, over plain variables.
use Rattle.std.proofs.lemmas.Bool.Decides.{nat_tests}
use Rattle.std.proofs.lemmas.List.{take-append-le}
use Rattle.std.proofs.lemmas.List.Edits.{length-swap}
use Rattle.std.proofs.Common.{◌≡◌, ◌≢◌, ◌<◌, ℕ, Bool, true, false, cond, ◌==◌, List, [], ◌∷◌, ◌++◌, refl, sym, ◌∙◌, ap, subst, arith, length, get_or, take_all}
use Rattle.std.specs.List.{swap}
use Rattle.sr_base.specs.Literal.{Literal, plus, has, NoRepeats, SameSet}
use Rattle.sr_base.proofs.Literals.{has_append}
use Rattle.sr_arena.specs.Cells.{Cell, Memory, cell_at, put, held_cells, IsHeld}
use Rattle.sr_arena.proofs.Standing.{put_here, put_other}
use Rattle.sr_model.proofs.Soundness.{by_test}
use Rattle.sr_model.specs.Refutation.{Includes, is_empty}
use Rattle.sr_lists.specs.declared.blocks.Watch.{Watch}
use Rattle.sr_lists.specs.Family.{Family, AreSame, IsPushed}
use Rattle.sr_watch.specs.declared.parts.Part.TheVariants.{All}
use Rattle.sr_watch.specs.Parts.{counts}
use Rattle.sr_watch.specs.State.{Slot, slot_in, reason_at, IsAttached, IsForcedBy, IsOpen, IsSound, AreWithin}
use Rattle.sr_watch.specs.Inside.{slots_of}
use Rattle.sr_watch.specs.Marks.{joined}
use Rattle.sr_watch.specs.Trail.{Entries, with_entry}
use Rattle.sr_watch.specs.Running.{IsNext}
use Rattle.sr_watch.specs.Watching.{IsGuarded, is_short, is_on, on_side, clause_on, is_of, is_stray, is_unlisted, tally, AreStocked}
use Rattle.sr_watch.specs.Walking.{IsFree, IsTurnedCell, IsTurned, IsGrown}
use Rattle.sr_watch.proofs.Entries.{by_eq}
use Rattle.sr_watch.proofs.Slots.{slot_is}
use Rattle.sr_watch.proofs.Growing.{assumed_push, sound_derive}
use Rattle.sr_watch.proofs.Answering.{pair_push}
use Rattle.sr_watch.proofs.Swapping.{Swaps, swaps}
use Rattle.sr_watch.proofs.Listing.{tally_first, tally_pushed, tally_agrees}

-- the clause of a side
pub clause_here : (core : Bool) (m : Memory) (r : ℕ) → on_side core m r ≡ true → clause_on core m r ≡ (cell_at m r).lits
clause_here core m r h = rw h refl

pub clause_gone : (core : Bool) (m : Memory) (r : ℕ) → on_side core m r ≡ false → clause_on core m r ≡ []
clause_gone core m r h = rw h refl

-- a clause without literals has no watches, so it is guarded
pub none_guarded : (core : Bool) (m : Memory) (r : ℕ) → on_side core m r ≡ false → (b t : List Literal) → IsGuarded b t (clause_on core m r)
none_guarded core m r h b t = rw (clause_gone core m r h) (λ k w f. absurd cc)

-- watches that are pushed and dropped
pub stocked_dropped : (core : Bool) (m : Memory) (f : Family) (w : Watch) (left : List Watch) → AreStocked core m f (w ∷ left) → AreStocked core m f left
stocked_dropped core m f w left x = record {
  few = λ r. omega (arith, x.few r, tally_first f w left (is_of r));
  clean = λ r h. omega (arith, x.clean r h, tally_first f w left (is_of r));
  blockers = omega (arith, x.blockers, tally_first f w left (is_stray m));
}

pub stocked_pushed : (core : Bool) (m : Memory) (f g : Family) (key : ℕ) (v w : Watch) (left rest : List Watch) → key < length f.lists → AreSame rest left → IsPushed f g key v → v.at ≡ w.at → is_stray m v ≡ false
    → AreStocked core m f (w ∷ left) → AreStocked core m g rest
stocked_pushed core m f g key v w left rest lt s p at ok x =
    let same_of : (r : ℕ) → tally g rest (is_of r) ≡ tally f (w ∷ left) (is_of r) = (λ r.
    let e : cond (v.at == r) 1 0 ≡ cond {A = ℕ} (w.at == r) 1 0 = ap (λ (n : ℕ). cond (n == r) 1 0) at in
    omega (arith, tally_pushed f g key v left rest (is_of r) lt s p, tally_first f w left (is_of r), e)) in
    record {
      few = λ r. rw (same_of r) (x.few r);
      clean = λ r h. same_of r ∙ x.clean r h;
      blockers = let z : cond {A = ℕ} (is_stray m v) 1 0 ≡ 0 = ap (λ b. cond b 1 0) ok in omega (arith, tally_pushed f g key v left rest (is_stray m) lt s p, tally_first f w left (is_stray m), x.blockers, z);
    }

short_same : (c d : List Literal) → length d ≡ length c → is_short d ≡ is_short c
short_same [] [] e = refl
short_same [] (x ∷ d) e = absurd (omega (arith, e))
short_same (x ∷ []) [] e = absurd (omega (arith, e))
short_same (x ∷ []) (y ∷ []) e = refl
short_same (x ∷ []) (y ∷ z ∷ d) e = absurd (omega (arith, e))
short_same (x ∷ y ∷ c) [] e = absurd (omega (arith, e))
short_same (x ∷ y ∷ c) (z ∷ []) e = absurd (omega (arith, e))
short_same (x ∷ y ∷ c) (z ∷ v ∷ d) e = refl

pub short_turned : (c d : Cell) → IsTurnedCell c d → is_short d.lits ≡ is_short c.lits
short_turned c d t = short_same c.lits d.lits t.size

pub on_turned : (core : Bool) (c d : Cell) → IsTurnedCell c d → is_on core d ≡ is_on core c
on_turned core c d t = rw (t.marked, t.flagged) refl

pub empty_same : (c d : List Literal) → length d ≡ length c → is_empty d ≡ is_empty c
empty_same [] [] e = refl
empty_same [] (x ∷ d) e = absurd (omega (arith, e))
empty_same (x ∷ c) [] e = absurd (omega (arith, e))
empty_same (x ∷ c) (y ∷ d) e = refl

unlisted_turned : (core : Bool) (c d : Cell) → IsTurnedCell c d → is_unlisted core d ≡ is_unlisted core c
unlisted_turned core c d t = rw (t.held, t.marked, t.flagged) refl

pub stocked_turned : (core side : Bool) (m n : Memory) (f : Family) (left : List Watch) → ((r : ℕ) → IsTurnedCell (cell_at m r) (cell_at n r)) → AreStocked side m f left → AreStocked side n f left
stocked_turned core side m n f left t x = record {
  few = x.few;
  clean = λ r h. x.clean r (sym (unlisted_turned side (cell_at m r) (cell_at n r) (t r)) ∙ h);
  blockers = tally_agrees f left (is_stray n) (is_stray m) (λ w. rw ((t w.at).set w.blocker, empty_same (cell_at m w.at).lits (cell_at n w.at).lits (t w.at).size) refl) ∙ x.blockers;
}

pub not_stray : (m : Memory) (w : Watch) → has w.blocker (cell_at m w.at).lits ≡ true → is_stray m w ≡ false
not_stray m w h = rw h refl

-- a clause whose literals were exchanged
pub turned_same : (c : Cell) → IsTurnedCell c c
turned_same c = record { held = refl; number = refl; marked = refl; flagged = refl; size = refl; set = λ k. refl }

pub swap_turned : (core : Bool) (m n : Memory) (at i j : ℕ) → IsHeld m at → on_side core m at ≡ true → n ≡ put m at (record (cell_at m at) { lits = swap (cell_at m at).lits i j }) → held_cells n ≡ held_cells m
    → SameSet (swap (cell_at m at).lits i j) (cell_at m at).lits → IsTurned core m n
swap_turned core m n at i j h o e cells set = record {
  each = λ r. by_eq r at
      (λ y. rw (y, e, put_here m at (record (cell_at m at) { lits = swap (cell_at m at).lits i j }) h) (record { held = refl; number = refl; marked = refl; flagged = refl; size = size (cell_at m at).lits; set = set }))
      (λ ne. rw (e, put_other m at r (record (cell_at m at) { lits = swap (cell_at m at).lits i j }) ne) (turned_same (cell_at m r)));
  others = λ r off. by_eq r at
      (λ y. let off' : on_side core m at ≡ false = subst (λ q. on_side core m q ≡ false) y off in absurd cc)
      (λ ne. rw e (put_other m at r (record (cell_at m at) { lits = swap (cell_at m at).lits i j }) ne));
  most = rw e refl;
  used = rw e refl;
  cells = cells;
}
  where
    size : (c : List Literal) → length (swap c i j) ≡ length c
    size c = length-swap c i j

pub swap_here : (m n : Memory) (at i j : ℕ) → IsHeld m at → n ≡ put m at (record (cell_at m at) { lits = swap (cell_at m at).lits i j }) → (cell_at n at).lits ≡ swap (cell_at m at).lits i j
swap_here m n at i j h e = rw (e, put_here m at (record (cell_at m at) { lits = swap (cell_at m at).lits i j }) h) refl

pub swap_other : (m n : Memory) (at i j r : ℕ) → r ≢ at → n ≡ put m at (record (cell_at m at) { lits = swap (cell_at m at).lits i j }) → cell_at n r ≡ cell_at m r
swap_other m n at i j r ne e = rw e (put_other m at r (record (cell_at m at) { lits = swap (cell_at m at).lits i j }) ne)

-- soundness sees clauses as sets
pub sound_turned : (m n : Memory) (e : Entries) → ((r : ℕ) → IsTurnedCell (cell_at m r) (cell_at n r)) → ((r : ℕ) → NoRepeats (cell_at n r).lits) → IsSound (joined e m) → IsSound (joined e n)
sound_turned m n e t once x =
    let set : (r : ℕ) → SameSet (slot_in (slots_of n) r).lits (slot_in (slots_of m) r).lits = (λ r. rw (slot_is n r, slot_is m r) (t r).set) in
    let part : (r : ℕ) → counts All (slot_in (slots_of n) r).part ≡ counts All (slot_in (slots_of m) r).part = (λ r. rw (slot_is n r, slot_is m r, (t r).marked, (t r).flagged) refl) in
    record {
      sizes = x.sizes;
      within = x.within;
      clauses_within = λ r l h. x.clauses_within r l (sym (set r l) ∙ h);
      distinct = λ r. subst (λ (s : Slot). NoRepeats s.lits) (sym (slot_is n r)) (once r);
      held = λ r h. rw (slot_is n r, (t r).held) (subst (λ (s : Slot). s.held ≡ true) (slot_is m r) (x.held r (sym (part r) ∙ h)));
      once = x.once;
      attached = λ i lt d. part (reason_at (joined e m) i) ∙ x.attached i lt d;
      forced = λ i lt d. let f = x.forced i lt d in record { of_clause = set (reason_at (joined e m) i) _ ∙ f.of_clause; others = λ k h ne. f.others k (sym (set (reason_at (joined e m) i) k) ∙ h) ne };
      news = x.news;
    }

pub distinct_cells : (m : Memory) (e : Entries) → IsSound (joined e m) → (r : ℕ) → NoRepeats (cell_at m r).lits
distinct_cells m e x r = subst (λ (s : Slot). NoRepeats s.lits) (slot_is m r) (x.distinct r)

pub within_cells : (m : Memory) (e : Entries) → IsSound (joined e m) → (r : ℕ) → AreWithin e.vars (cell_at m r).lits
within_cells m e x r = subst (λ (s : Slot). AreWithin e.vars s.lits) (slot_is m r) (x.clauses_within r)

pub once_swapped : (m n : Memory) (e : Entries) (at i j : ℕ) → IsSound (joined e m) → IsHeld m at → n ≡ put m at (record (cell_at m at) { lits = swap (cell_at m at).lits i j }) → NoRepeats (swap (cell_at m at).lits i j) → (r : ℕ) → NoRepeats (cell_at n r).lits
once_swapped m n e at i j x h is once r = by_eq r at
    (λ y. rw (y, swap_here m n at i j h is) once)
    (λ ne. rw (swap_other m n at i j r ne is) (distinct_cells m e x r))

-- nothing changes
pub turned_start : (core : Bool) (m : Memory) → IsTurned core m m
turned_start core m = record { each = λ r. turned_same (cell_at m r); others = λ r h. refl; most = refl; used = refl; cells = refl }

pub grown_start : (m : Memory) (e : Entries) → IsSound (joined e m) → IsGrown e e
grown_start m e x = record { vars = refl; lits = take_all (length e.lits) e.lits (omega arith); reasons = take_all (length e.reasons) e.reasons (omega arith); assumed = refl; no_pair = λ h. h }

-- a clause of a side is attached
pub attached_on : (core : Bool) (m : Memory) (e : Entries) (r : ℕ) → on_side core m r ≡ true → IsAttached (joined e m) r
attached_on core m e r h = rw (slot_is m r) (by_test (cell_at m r).marked (λ t. rw t refl) (λ t. let z : on_side core m r ≡ false = rw t refl in absurd cc))

-- a clause that forces a literal
pub next_on : (core : Bool) (m : Memory) (e : Entries) (at : ℕ) (l : Literal) → on_side core m at ≡ true → 0 < at → IsForcedBy (cell_at m at).lits e.lits l → IsOpen l e.lits → IsNext (joined e m) l at
next_on core m e at l h some f o = record { some = some; attached = attached_on core m e at h; forced = subst (λ (s : Slot). IsForcedBy s.lits e.lits l) (sym (slot_is m at)) f; open_here = o }

pub grown_push : (m : Memory) (e : Entries) (l : Literal) (r : ℕ) → IsSound (joined e m) → IsNext (joined e m) l r → IsGrown e (with_entry e l r)
grown_push m e l r x n =
    let some : (r == 0) ≡ false = let z = n.some in grind (arith, nat_tests) in
    record {
      vars = refl;
      lits = take-append-le (length e.lits) e.lits (l ∷ []) (omega arith) ∙ take_all (length e.lits) e.lits (omega arith);
      reasons = take-append-le (length e.reasons) e.reasons (r ∷ []) (omega arith) ∙ take_all (length e.reasons) e.reasons (omega arith);
      assumed = rw (assumed_push e.lits e.reasons l r x.sizes, some) refl;
      no_pair = λ h. pair_push e.lits l h n.open_here.not_false;
    }

pub sound_push : (m : Memory) (e : Entries) (l : Literal) (r : ℕ) → IsSound (joined e m) → IsNext (joined e m) l r → IsSound (joined (with_entry e l r) m)
sound_push m e l r x n = sound_derive (joined e m) l r x n

pub includes_push : (s : List Literal) (l : Literal) → Includes s (s ++ l ∷ [])
includes_push s l k h = grind (arith, has_append k s (l ∷ []))

-- the watches that an exchange leaves
pub swaps_at : (core : Bool) (m : Memory) (e : Entries) (s : List Literal) (w other : Literal) (at side place : ℕ) → IsSound (joined e m) → IsFree s (cell_at m at).lits w side place other
    → Swaps (cell_at m at).lits (swap (cell_at m at).lits side place) w (get_or (cell_at m at).lits place (plus 0))
swaps_at core m e s w other at side place x f = swaps (cell_at m at).lits w side place (distinct_cells m e x at) f.side_low f.falsified f.behind f.within
