-- What holds of both sides between calls, as clauses come and go.
use Rattle.std.proofs.lemmas.Bool.Decides.{nat_tests}
use Rattle.std.proofs.lemmas.List.{take-append-le, length-append, get_or_append_left}
use Rattle.std.proofs.Common.{◌≡◌, ◌≢◌, ◌⊎◌, inl, inr, ◌≤◌, ◌+◌, ◌*◌, ℕ, suc, zero, Bool, true, false, cond, ◌==◌, List, [], ◌∷◌, ◌++◌, refl, sym, ◌∙◌, ap, subst, arith, length, get_or, take}
use Rattle.std.specs.List.{count_by}
use Rattle.sr_base.specs.Literal.{Literal, complement, SameSet}
use Rattle.sr_base.proofs.Literals.{has_append}
use Rattle.sr_arena.specs.Cells.{Cell, Memory, cell_at, gone, IsHeld, held_in}
use Rattle.sr_arena.specs.Cells as arena
use Rattle.sr_model.specs.Refutation.{Includes}
use Rattle.sr_model.proofs.Soundness.{by_test}
use Rattle.sr_lists.specs.declared.blocks.Watch.{Watch}
use Rattle.sr_watch.specs.declared.watches.Watches.{Watches}
use Rattle.sr_watch.specs.Trail.{Entries, with_entry}
use Rattle.sr_watch.specs.Watching.{IsGuarded, AreGuarded, IsStuck, is_short, is_on, on_side, clause_on, is_of, is_stray, is_unlisted, tally, key_of}
use Rattle.sr_watch.specs.Purging.{IsPurged, IsClearedCell, AreCleared}
use Rattle.sr_watch.specs.Resting.{is_pending, IsResting, HasRoom, HasMoreRoom, IsBlank, AreWatched}
use Rattle.sr_watch.proofs.Entries.{by_eq}
use Rattle.sr_watch.proofs.Shorts.{reason_within, derived_before, shorts_carried, shorts_same, carried_cells, includes_same}
use Rattle.sr_watch.proofs.Walks.{some_more}
use Rattle.sr_watch.proofs.Listing.{tally_agrees, tally_both, tally_each}
use Rattle.sr_watch.proofs.Visits.{clause_gone, empty_same}
use Rattle.sr_watch.proofs.Entering.{nothing_left, not_unlisted}

-- as many clauses are held
pub held_same_count : (cs ds : List Cell) → ((r : ℕ) → (get_or ds r gone).held ≡ (get_or cs r gone).held) → length (held_in ds) ≡ length (held_in cs)
held_same_count [] [] f = refl
held_same_count [] (d ∷ ds) f = rw (f 0) (held_same_count [] ds (λ r. f (suc r)))
held_same_count (c ∷ cs) [] f = let e : c.held ≡ false = sym (f 0) in rw e (held_same_count cs [] (λ r. f (suc r)))
held_same_count (c ∷ cs) (d ∷ ds) f =
    let rest : length (held_in ds) ≡ length (held_in cs) = held_same_count cs ds (λ r. f (suc r)) in
    by_test c.held (λ t. let u : d.held ≡ true = f 0 ∙ t in rw (t, u) (ap suc rest)) (λ t. let u : d.held ≡ false = f 0 ∙ t in rw (t, u) rest)

-- lists that were purged
pub purged_rests : (core : Bool) (m : Memory) (e : Entries) (w v : Watches) → v ≡ record w { lists = v.lists } → IsPurged core m w.lists v.lists → IsResting core m e w → IsResting core m e v
purged_rests core m e w v is p y = subst (IsResting core m e) (sym is) (record {
  idle = record { keys = λ some. omega (arith, y.idle.keys some, p.shape.keys); both = λ some. omega (arith, y.idle.both (omega (arith, some, p.shape.keys)), p.shape.keys); walked = p.shape.walked ∙ y.idle.walked; ahead = p.ahead };
  stocked = p.stocked;
  linked = λ r k o. p.same r (key_of k) o ∙ y.linked r k o;
  shaded = y.shaded;
  short = shorts_same core m m w.lists v.lists (take w.shade e.lits) (take w.shade e.lits) e.reasons w.top (record { on = λ r o. o; short = λ r o s. s; trues = λ r o s t. t; times = λ r key o lt. p.same r key o }) (λ k h. h) y.short;
  within = y.within;
  guarded = y.guarded;
  pending = y.pending;
  kept = y.kept;
})

-- flags that were taken away
on_cleared : (core : Bool) (c d : Cell) → IsClearedCell c d → is_on core d ≡ is_on core c
on_cleared core c d x = go x.flagged
  where
    go : (d.flagged ≡ c.flagged) ⊎ ((c.marked ≡ false) × (d.flagged ≡ false)) → is_on core d ≡ is_on core c
    go (inl e) = rw (x.marked, e) refl
    go (inr w) = rw (x.marked, w.0) refl

pub cleared_rests : (core : Bool) (m n : Memory) (e : Entries) (w : Watches) → AreCleared m n → ((r : ℕ) → on_side core m r ≡ false → tally w.lists [] (is_of r) ≡ 0) → IsResting core m e w → IsResting core n e w
cleared_rests core m n e w x none y =
    let on : (r : ℕ) → on_side core n r ≡ on_side core m r = (λ r. on_cleared core (cell_at m r) (cell_at n r) (x.each r)) in
    let clauses : (r : ℕ) → clause_on core n r ≡ clause_on core m r = (λ r. rw (on r, (x.each r).lits) refl) in
    record {
      idle = y.idle;
      stocked = record {
        few = y.stocked.few;
        clean = λ r h. by_test (on_side core m r)
            (λ o. by_test (cell_at m r).held
            (λ t. absurd (not_unlisted core (cell_at n r) ((x.each r).held ∙ t) (on r ∙ o) h))
            (λ t. y.stocked.clean r (rw t refl)))
            (λ o. none r o);
        blockers = tally_agrees w.lists [] (is_stray n) (is_stray m) (λ v. rw (x.each v.at).lits refl) ∙ y.stocked.blockers;
      };
      linked = λ r k o. rw (clauses r) (y.linked r k (sym (on r) ∙ o));
      shaded = y.shaded;
      short = shorts_same core m n w.lists w.lists (take w.shade e.lits) (take w.shade e.lits) e.reasons w.top
          (record { on = λ r o. sym (on r) ∙ o; short = λ r o s. subst (λ c. is_short c ≡ true) (x.each r).lits s; trues = λ r o s t. rw (x.each r).lits t; times = λ r key o lt. refl }) (λ k h. h) y.short;
      within = y.within;
      guarded = λ r z. rw (clauses r) (y.guarded r z);
      pending = λ r z. let p = y.pending r z in record { held = (x.each r).held ∙ p.held; on = on r ∙ p.on; stuck = rw (x.each r).lits p.stuck };
      kept = record { rising = y.kept.rising; within = y.kept.within; guarded = λ i h r. rw (clauses r) (y.kept.guarded i h r) };
    }

-- a clause that isn't attached to the side any more, or is where it was and isn't pending
pub left_rests : (core : Bool) (m n : Memory) (e : Entries) (w : Watches) (at : ℕ) → ((r : ℕ) → r ≢ at → cell_at n r ≡ cell_at m r) → (cell_at n at).held ≡ (cell_at m at).held → length (cell_at n at).lits ≡ length (cell_at m at).lits → SameSet (cell_at n at).lits (cell_at m at).lits
    → on_side core n at ≡ false → (is_unlisted core (cell_at n at) ≡ true → is_unlisted core (cell_at m at) ≡ true) → is_pending w.pending at ≡ false → IsResting core m e w → IsResting core n e w
left_rests core m n e w at others held size set off unlisted free y = record {
  idle = y.idle;
  stocked = record {
    few = y.stocked.few;
    clean = λ r h. by_eq r at
        (λ q. subst (λ j. tally w.lists [] (is_of j) ≡ 0) (sym q) (y.stocked.clean at (unlisted (subst (λ j. is_unlisted core (cell_at n j) ≡ true) q h))))
        (λ ne. y.stocked.clean r (subst (λ (c : Cell). is_unlisted core c ≡ true) (others r ne) h));
    blockers = tally_agrees w.lists [] (is_stray n) (is_stray m) (λ v. by_eq v.at at
        (λ q. subst (λ j. is_stray n (record { blocker = v.blocker; at = j }) ≡ is_stray m (record { blocker = v.blocker; at = j })) (sym q) (rw (set v.blocker, empty_same (cell_at m at).lits (cell_at n at).lits size) refl))
        (λ ne. rw (others v.at ne) refl)) ∙ y.stocked.blockers;
  };
  linked = λ r k o. by_eq r at
      (λ q. let z : on_side core n r ≡ false = subst (λ j. on_side core n j ≡ false) (sym q) off in absurd cc)
      (λ ne. rw (clauses r ne) (y.linked r k (subst (λ (c : Cell). is_on core c ≡ true) (others r ne) o)));
  shaded = y.shaded;
  short = shorts_same core m n w.lists w.lists (take w.shade e.lits) (take w.shade e.lits) e.reasons w.top (carried_cells core m n w.lists old) (λ k h. h) y.short;
  within = y.within;
  guarded = λ r z. by_eq r at
      (λ q. subst (λ j. IsGuarded (take w.done e.lits) e.lits (clause_on core n j)) (sym q) (none (take w.done e.lits) e.lits))
      (λ ne. rw (clauses r ne) (y.guarded r z));
  pending = λ r z. by_eq r at
      (λ q. let f : is_pending w.pending r ≡ false = subst (λ j. is_pending w.pending j ≡ false) (sym q) free in absurd cc)
      (λ ne. let p = y.pending r z in record { held = ap (λ (c : Cell). c.held) (others r ne) ∙ p.held; on = ap (is_on core) (others r ne) ∙ p.on; stuck = subst (λ (c : Cell). IsStuck e.lits c.lits) (sym (others r ne)) p.stuck });
  kept = record {
    rising = y.kept.rising;
    within = y.kept.within;
    guarded = λ i h r. by_eq r at
        (λ q. subst (λ j. IsGuarded (take i e.lits) (take i e.lits) (clause_on core n j)) (sym q) (none (take i e.lits) (take i e.lits)))
        (λ ne. rw (clauses r ne) (y.kept.guarded i h r));
  };
}
  where
    clauses : (r : ℕ) → r ≢ at → clause_on core n r ≡ clause_on core m r
    clauses r ne = ap (λ (c : Cell). cond (is_on core c) c.lits []) (others r ne)

    none : (b t : List Literal) → IsGuarded b t (clause_on core n at)
    none b t = rw (clause_gone core n at off) (λ k i f. absurd cc)

    old : (r : ℕ) → on_side core n r ≡ true → cell_at n r ≡ cell_at m r
    old r o = by_eq r at
        (λ q. let z : on_side core n r ≡ false = subst (λ j. on_side core n j ≡ false) (sym q) off in absurd cc)
        (λ ne. others r ne)

-- a clause isn't pending any more, which isn't attached any more either
pub forgotten_rests : (core : Bool) (m n : Memory) (e : Entries) (w v : Watches) (at : ℕ) → v ≡ record w { pending = v.pending } → is_pending v.pending at ≡ false → ((r : ℕ) → is_pending v.pending r ≡ true → is_pending w.pending r ≡ true) → ((r : ℕ) → is_pending v.pending r ≡ false → is_pending w.pending r ≡ true → r ≡ at)
    → ((r : ℕ) → r ≢ at → cell_at n r ≡ cell_at m r) → (cell_at n at).held ≡ (cell_at m at).held → (cell_at n at).lits ≡ (cell_at m at).lits → on_side core n at ≡ false → (is_unlisted core (cell_at n at) ≡ true → is_unlisted core (cell_at m at) ≡ true)
    → IsResting core m e w → IsResting core n e v
forgotten_rests core m n e w v at is here fewer only others held lits off unlisted y = subst (IsResting core n e) (sym is) (record {
  idle = y.idle;
  stocked = record {
    few = y.stocked.few;
    clean = λ r h. by_eq r at
        (λ q. subst (λ j. tally w.lists [] (is_of j) ≡ 0) (sym q) (y.stocked.clean at (unlisted (subst (λ j. is_unlisted core (cell_at n j) ≡ true) q h))))
        (λ ne. y.stocked.clean r (subst (λ (c : Cell). is_unlisted core c ≡ true) (others r ne) h));
    blockers = tally_agrees w.lists [] (is_stray n) (is_stray m) (λ u. by_eq u.at at
        (λ q. subst (λ j. is_stray n (record { blocker = u.blocker; at = j }) ≡ is_stray m (record { blocker = u.blocker; at = j })) (sym q) (rw lits refl))
        (λ ne. rw (others u.at ne) refl)) ∙ y.stocked.blockers;
  };
  linked = λ r k o. by_eq r at
      (λ q. let z : on_side core n r ≡ false = subst (λ j. on_side core n j ≡ false) (sym q) off in absurd cc)
      (λ ne. rw (clauses r ne) (y.linked r k (subst (λ (c : Cell). is_on core c ≡ true) (others r ne) o)));
  shaded = y.shaded;
  short = shorts_same core m n w.lists w.lists (take w.shade e.lits) (take w.shade e.lits) e.reasons w.top (carried_cells core m n w.lists old) (λ k h. h) y.short;
  within = y.within;
  guarded = λ r z. by_eq r at
      (λ q. subst (λ j. IsGuarded (take w.done e.lits) e.lits (clause_on core n j)) (sym q) (none (take w.done e.lits) e.lits))
      (λ ne. by_test (is_pending w.pending r) (λ t. absurd (ne (only r z t))) (λ f. rw (clauses r ne) (y.guarded r f)));
  pending = λ r z. by_eq r at
      (λ q. let f : is_pending v.pending r ≡ false = subst (λ j. is_pending v.pending j ≡ false) (sym q) here in absurd cc)
      (λ ne. let p = y.pending r (fewer r z) in record { held = ap (λ (c : Cell). c.held) (others r ne) ∙ p.held; on = ap (is_on core) (others r ne) ∙ p.on; stuck = subst (λ (c : Cell). IsStuck e.lits c.lits) (sym (others r ne)) p.stuck });
  kept = record {
    rising = y.kept.rising;
    within = y.kept.within;
    guarded = λ i h r. by_eq r at
        (λ q. subst (λ j. IsGuarded (take i e.lits) (take i e.lits) (clause_on core n j)) (sym q) (none (take i e.lits) (take i e.lits)))
        (λ ne. rw (clauses r ne) (y.kept.guarded i h r));
  };
})
  where
    clauses : (r : ℕ) → r ≢ at → clause_on core n r ≡ clause_on core m r
    clauses r ne = ap (λ (c : Cell). cond (is_on core c) c.lits []) (others r ne)

    none : (b t : List Literal) → IsGuarded b t (clause_on core n at)
    none b t = rw (clause_gone core n at off) (λ k i f. absurd cc)

    old : (r : ℕ) → on_side core n r ≡ true → cell_at n r ≡ cell_at m r
    old r o = by_eq r at
        (λ q. let z : on_side core n r ≡ false = subst (λ j. on_side core n j ≡ false) (sym q) off in absurd cc)
        (λ ne. others r ne)

-- more room
pub roomier_rests : (core : Bool) (m : Memory) (e : Entries) (w v : Watches) → HasMoreRoom w v → IsResting core m e w → IsResting core m e v
roomier_rests core m e w v x y =
    let none : v.lists.ahead ≡ [] = nothing_left v.lists.ahead (λ p. x.ahead p ∙ ap (count_by p) y.idle.ahead) in
    record {
      idle = record { keys = λ some. omega (arith, y.idle.keys some, x.keys); both = x.both y.idle.both; walked = x.walked ∙ y.idle.walked; ahead = none };
      stocked = record { few = λ r. omega (arith, tallies (is_of r), y.stocked.few r); clean = λ r h. tallies (is_of r) ∙ y.stocked.clean r h; blockers = tallies (is_stray m) ∙ y.stocked.blockers };
      linked = λ r k o. x.each (key_of k) (is_of r) ∙ y.linked r k o;
      shaded = omega (arith, y.shaded, x.shade);
      short = rw (x.shade, x.top) (shorts_same core m m w.lists v.lists (take w.shade e.lits) (take w.shade e.lits) e.reasons w.top (record { on = λ r o. o; short = λ r o s. s; trues = λ r o s t. t; times = λ r key o lt. x.each key (is_of r) }) (λ k h. h) y.short);
      within = omega (arith, y.within, x.done);
      guarded = λ r z. rw x.done (y.guarded r (ap (λ p. is_pending p r) (sym x.pending) ∙ z));
      pending = λ r z. y.pending r (ap (λ p. is_pending p r) (sym x.pending) ∙ z);
      kept = rw x.kept y.kept;
    }
  where
    tallies : (p : Watch → Bool) → tally v.lists [] p ≡ tally w.lists [] p
    tallies p = tally_each w.lists v.lists p x.each

pub roomier : (n : ℕ) (w v : Watches) → HasMoreRoom w v → HasRoom n w.lists → HasRoom n v.lists
roomier n w v x y = record { keys = λ some. omega (arith, y.keys some, x.keys); room = omega (arith, y.room, x.room) }

-- more variables
pub wider_rests : (core : Bool) (m : Memory) (e : Entries) (w : Watches) (vars : ℕ) → 2 * vars + 4 ≤ length w.lists.lists → IsResting core m e w → IsResting core m (record e { vars = vars }) w
wider_rests core m e w vars k y = record { idle = record { keys = λ some. k; both = y.idle.both; walked = y.idle.walked; ahead = y.idle.ahead }; stocked = y.stocked; linked = y.linked; shaded = y.shaded; short = y.short; within = y.within; guarded = y.guarded; pending = y.pending; kept = y.kept }

-- a clause that was added
pub added_rests : (core : Bool) (m n : Memory) (e : Entries) (w : Watches) (at : ℕ) (c : Cell) → arena.IsAdded m n at c → c.marked ≡ false → c.held ≡ true → IsResting core m e w → IsResting core n e w
added_rests core m n e w at c a un held y =
    let gone_there : tally w.lists [] (is_of at) ≡ 0 = y.stocked.clean at (rw a.none refl) in
    let off : on_side core n at ≡ false = rw (a.here, un) refl in
    let off' : on_side core m at ≡ false = rw a.none refl in
    let clauses : (r : ℕ) → clause_on core n r ≡ clause_on core m r = (λ r. by_eq r at
    (λ q. subst (λ j. clause_on core n j ≡ clause_on core m j) (sym q) (clause_gone core n at off ∙ sym (clause_gone core m at off')))
    (λ ne. ap (λ (d : Cell). cond (is_on core d) d.lits []) (a.others r ne))) in
    let old : (r : ℕ) → on_side core n r ≡ true → cell_at n r ≡ cell_at m r = (λ r o. by_eq r at
    (λ q. let z : on_side core n r ≡ false = subst (λ j. on_side core n j ≡ false) (sym q) off in absurd cc) (λ ne. a.others r ne)) in
    record {
      idle = y.idle;
      stocked = record {
        few = y.stocked.few;
        clean = λ r h. by_eq r at
            (λ q. subst (λ j. tally w.lists [] (is_of j) ≡ 0) (sym q) gone_there)
            (λ ne. y.stocked.clean r (subst (λ (d : Cell). is_unlisted core d ≡ true) (a.others r ne) h));
        blockers = stray gone_there y.stocked.blockers;
      };
      linked = λ r k o. rw (clauses r) (y.linked r k (subst (λ (d : Cell). is_on core d ≡ true) (old r o) o));
      shaded = y.shaded;
      short = shorts_same core m n w.lists w.lists (take w.shade e.lits) (take w.shade e.lits) e.reasons w.top (carried_cells core m n w.lists old) (λ k h. h) y.short;
      within = y.within;
      guarded = λ r z. rw (clauses r) (y.guarded r z);
      pending = λ r z. let p = y.pending r z in
          let ne : r ≢ at = (λ q. let z' : on_side core m r ≡ false = subst (λ j. on_side core m j ≡ false) (sym q) off' in let t : on_side core m r ≡ true = p.on in absurd cc) in
          record { held = ap (λ (d : Cell). d.held) (a.others r ne) ∙ p.held; on = ap (is_on core) (a.others r ne) ∙ p.on; stuck = subst (λ (d : Cell). IsStuck e.lits d.lits) (sym (a.others r ne)) p.stuck };
      kept = record { rising = y.kept.rising; within = y.kept.within; guarded = λ i h r. rw (clauses r) (y.kept.guarded i h r) };
    }
  where
    stray : tally w.lists [] (is_of at) ≡ 0 → tally w.lists [] (is_stray m) ≡ 0 → tally w.lists [] (is_stray n) ≡ 0
    stray z s = omega (
      arith,
      z,
      s,
      tally_both w.lists [] (is_stray n) (is_stray m) (is_of at) (λ v. by_test (v.at == at)
          (λ t. rw t (by_test (is_stray n v) (λ u. rw u (omega arith)) (λ u. rw u (omega arith))))
          (λ t. let ne : v.at ≢ at = grind (arith, nat_tests) in let e : is_stray n v ≡ is_stray m v = rw (a.others v.at ne) refl in rw (t, e) (omega arith))),
    )

-- a literal is assumed
pub assumed_rests : (core : Bool) (m : Memory) (e : Entries) (w : Watches) (l : Literal) → IsResting core m e w → IsResting core m (with_entry e l 0) w
assumed_rests core m e w l y =
    let first : (n : ℕ) → n ≤ length e.lits → take n (e.lits ++ l ∷ []) ≡ take n e.lits = (λ n le. take-append-le n e.lits (l ∷ []) le) in
    let more : Includes e.lits (e.lits ++ l ∷ []) = (λ k h. grind (arith, has_append k e.lits (l ∷ []))) in
    let longer : length e.lits ≤ length (e.lits ++ l ∷ []) = omega (arith, length-append e.lits (l ∷ [])) in
    record {
      idle = y.idle;
      stocked = y.stocked;
      linked = y.linked;
      shaded = omega (arith, y.shaded, longer);
      short = shorts_carried core m m w.lists w.lists (take w.shade e.lits) (take w.shade (e.lits ++ l ∷ [])) e.reasons (e.reasons ++ 0 ∷ []) w.top (carried_cells core m m w.lists (λ r o. refl)) (includes_same (take w.shade e.lits) (take w.shade (e.lits ++ l ∷ [])) (first w.shade y.shaded))
          (λ i some. get_or_append_left e.reasons (0 ∷ []) 0 i (reason_within e.reasons i some)) (λ r i some is o s. derived_before e.reasons i r some is) y.short;
      within = omega (arith, y.within, longer);
      guarded = λ r z. subst (λ b. IsGuarded b (e.lits ++ l ∷ []) (clause_on core m r)) (sym (first w.done y.within)) (λ k i h. some_more e.lits (e.lits ++ l ∷ []) (clause_on core m r) more (y.guarded r z k i h));
      pending = λ r z. let p = y.pending r z in record { held = p.held; on = p.on; stuck = record { left = p.stuck.left; others = λ k i ne. more (complement k) (p.stuck.others k i ne) } };
      kept = record {
        rising = y.kept.rising;
        within = λ i h. omega (arith, y.kept.within i h, longer);
        guarded = λ i h. subst (λ b. AreGuarded b b (clause_on core m)) (sym (first i (y.kept.within i h))) (y.kept.guarded i h);
      };
    }

-- lists that were purged and flags that were taken away
pub freshened : (m n : Memory) (known : List ℕ) (e : Entries) (core core' rest rest' : Watches) → core' ≡ record core { lists = core'.lists } → rest' ≡ record rest { lists = rest'.lists } → IsPurged true m core.lists core'.lists → IsPurged false m rest.lists rest'.lists → AreCleared m n
    → AreWatched m known e core rest → AreWatched n known e core' rest'
freshened m n known e core core' rest rest' ci ri cp rp x y = record {
  counted = held_same_count m.cells n.cells (λ r. (x.each r).held) ∙ y.counted;
  core_rests = cleared_rests true m n e core' x cp.gone (purged_rests true m e core core' ci cp y.core_rests);
  rest_rests = cleared_rests false m n e rest' x rp.gone (purged_rests false m e rest rest' ri rp y.rest_rests);
  core_room = record { keys = λ some. omega (arith, y.core_room.keys some, cp.shape.keys); room = omega (arith, y.core_room.room, cp.shape.room) };
  rest_room = record { keys = λ some. omega (arith, y.rest_room.keys some, rp.shape.keys); room = omega (arith, y.rest_room.room, rp.shape.room) };
}

-- nothing is listed
pub blank_rests : (core : Bool) (most : ℕ) (w : Watches) → IsBlank w → IsResting core (record { cells = gone ∷ []; used = 0; most = most; room = 0 }) (record { vars = 0; lits = []; reasons = [] }) w
blank_rests core most w b = record {
  idle = rw b.lists (record { keys = λ some. absurd (omega arith); both = λ some. absurd (omega arith); walked = refl; ahead = refl });
  stocked = rw b.lists (record { few = λ r. omega arith; clean = λ r h. refl; blockers = refl });
  linked = λ r k o. absurd (off r o);
  shaded = omega (arith, b.shade);
  short = record { each = λ r o s. absurd (off r o); light = λ r i some is o s. absurd (off r o) };
  within = omega (arith, b.done);
  guarded = λ r z. rw b.done (λ k i h. absurd cc);
  pending = λ r z. let f : is_pending w.pending r ≡ false = ap (λ p. is_pending p r) b.pending in absurd cc;
  kept = rw b.kept (record { rising = tt; within = λ n h. absurd cc; guarded = λ n h. absurd cc });
}
  where
    none_at : (r : ℕ) → get_or (gone ∷ []) r gone ≡ gone
    none_at zero = refl
    none_at (suc r) = refl

    off : (r : ℕ) → is_on core (get_or (gone ∷ []) r gone) ≡ true → ⊥
    off r o = let z : is_on core (get_or (gone ∷ []) r gone) ≡ false = rw (none_at r) refl in absurd cc

pub watched_new : (most : ℕ) (w v : Watches) → IsBlank w → IsBlank v → AreWatched (record { cells = gone ∷ []; used = 0; most = most; room = 0 }) [] (record { vars = 0; lits = []; reasons = [] }) w v
watched_new most w v a b = record {
  counted = refl;
  core_rests = blank_rests true most w a;
  rest_rests = blank_rests false most v b;
  core_room = record { keys = λ some. absurd (omega arith); room = omega arith };
  rest_room = record { keys = λ some. absurd (omega arith); room = omega arith };
}

-- more room on both sides
pub watched_roomier : (m : Memory) (known : List ℕ) (e : Entries) (core core' rest rest' : Watches) → HasMoreRoom core core' → HasMoreRoom rest rest' → AreWatched m known e core rest → AreWatched m known e core' rest'
watched_roomier m known e core core' rest rest' a b y = record {
  counted = y.counted;
  core_rests = roomier_rests true m e core core' a y.core_rests;
  rest_rests = roomier_rests false m e rest rest' b y.rest_rests;
  core_room = roomier (length known) core core' a y.core_room;
  rest_room = roomier (length known) rest rest' b y.rest_room;
}

pub no_roomier : (w : Watches) → HasMoreRoom w w
no_roomier w = record { keys = omega arith; both = λ f some. f some; each = λ k p. refl; ahead = λ p. refl; walked = refl; room = omega arith; kept = refl; done = refl; pending = refl; shade = refl; top = refl }

pub watched_wider : (m : Memory) (known : List ℕ) (e : Entries) (core rest : Watches) (vars : ℕ) → 2 * vars + 4 ≤ length core.lists.lists → 2 * vars + 4 ≤ length rest.lists.lists → AreWatched m known e core rest → AreWatched m known (record e { vars = vars }) core rest
watched_wider m known e core rest vars a b y = record {
  counted = y.counted;
  core_rests = wider_rests true m e core vars a y.core_rests;
  rest_rests = wider_rests false m e rest vars b y.rest_rests;
  core_room = y.core_room;
  rest_room = y.rest_room;
}

pub watched_added : (m n : Memory) (known : List ℕ) (e : Entries) (core rest : Watches) (at : ℕ) (lits : List Literal) (number : ℕ) → arena.IsAdded m n at (arena.fresh lits number) → HasRoom (length known + 1) core.lists → HasRoom (length known + 1) rest.lists → AreWatched m known e core rest → AreWatched n (known ++ at ∷ []) e core rest
watched_added m n known e core rest at lits number a cr rr y =
    let size : length (known ++ at ∷ []) ≡ length known + 1 = omega (arith, length-append known (at ∷ [])) in
    record {
      counted = ap length a.order ∙ length-append (held_in m.cells) (arena.fresh lits number ∷ []) ∙ omega (arith, y.counted, size);
      core_rests = added_rests true m n e core at (arena.fresh lits number) a refl refl y.core_rests;
      rest_rests = added_rests false m n e rest at (arena.fresh lits number) a refl refl y.rest_rests;
      core_room = subst (λ k. HasRoom k core.lists) (sym size) cr;
      rest_room = subst (λ k. HasRoom k rest.lists) (sym size) rr;
    }

pub watched_assumed : (m : Memory) (known : List ℕ) (e : Entries) (core rest : Watches) (l : Literal) → AreWatched m known e core rest → AreWatched m known (with_entry e l 0) core rest
watched_assumed m known e core rest l y = record {
  counted = y.counted;
  core_rests = assumed_rests true m e core l y.core_rests;
  rest_rests = assumed_rests false m e rest l y.rest_rests;
  core_room = y.core_room;
  rest_room = y.rest_room;
}
