-- What an attached clause leaves of what holds between calls.
use Rattle.std.proofs.lemmas.Bool.Decides.{nat_tests}
use Rattle.std.proofs.Common.{◌≡◌, ◌≢◌, ◌⊎◌, inl, inr, ◌<◌, ◌≤◌, ◌+◌, ℕ, Bool, true, false, cond, ◌==◌, List, [], ◌∷◌, refl, sym, ◌∙◌, ap, subst, arith, length, take}
use Rattle.std.specs.List.{count_by}
use Rattle.sr_base.specs.Literal.{Literal}
use Rattle.sr_arena.specs.Cells.{Cell, Memory, cell_at}
use Rattle.sr_model.specs.Assignment.{holds_number}
use Rattle.sr_model.proofs.Soundness.{by_test}
use Rattle.sr_lists.specs.declared.blocks.Watch.{Watch}
use Rattle.sr_lists.specs.Family.{Family, AreSame}
use Rattle.sr_watch.proofs.Lengths.{same_length}
use Rattle.sr_watch.specs.declared.watches.Watches.{Watches}
use Rattle.sr_watch.specs.declared.watches.TheConstants.{UNSEEN, SEEN}
use Rattle.sr_watch.specs.Trail.{Entries}
use Rattle.sr_watch.specs.Watching.{is_watch, IsGuarded, IsStuck, is_short, is_on, on_side, clause_on, is_of, is_stray, is_unlisted, times, listed, tally, key_of}
use Rattle.sr_watch.specs.Attaching.{IsArranged, AreOpenWatches, IsEnlisted, IsPutOn, IsNoted}
use Rattle.sr_watch.specs.Resting.{is_pending, IsSeen, IsReason, IsPending, IsResting}
use Rattle.sr_watch.proofs.Entries.{by_eq}
use Rattle.sr_watch.proofs.Listing.{tally_agrees, tally_has}
use Rattle.sr_watch.proofs.Visits.{clause_here, none_guarded, stocked_turned}
use Rattle.sr_watch.proofs.Falls.{includes_less}
use Rattle.sr_watch.proofs.Choosing.{open_guarded}

pub nothing_left : (ws : List Watch) → AreSame ws [] → ws ≡ []
nothing_left [] s = refl
nothing_left (w ∷ ws) s = absurd (omega (arith, same_length (w ∷ ws) [] s))

pub not_unlisted : (core : Bool) (c : Cell) → c.held ≡ true → is_on core c ≡ true → is_unlisted core c ≡ true → ⊥
not_unlisted true c h o u = by_test c.flagged
    (λ t. let z : is_unlisted true c ≡ false = rw (h, t) refl in absurd cc)
    (λ f. by_test c.marked (λ t. let z : is_on true c ≡ false = rw (t, f) refl in absurd cc) (λ t. let z : is_on true c ≡ false = rw t refl in absurd cc))
not_unlisted false c h o u = by_test c.marked
    (λ t. let z : is_unlisted false c ≡ false = by_test c.flagged (λ f. rw (h, t, f) refl) (λ f. rw (h, t, f) refl) in absurd cc)
    (λ t. let z : is_on false c ≡ false = rw t refl in absurd cc)

-- a clause that wasn't listed is listed once
pub enlisted_once : (f g : Family) (c : List Literal) (at : ℕ) → IsEnlisted f g c at → tally f [] (is_of at) ≡ 0 → times g at UNSEEN + times g at SEEN ≤ 1
enlisted_once f g c at en none =
    let t : (at == at) ≡ true = grind (arith, nat_tests) in
    let a : times g at UNSEEN ≡ times f at UNSEEN + cond (is_short c) 1 0 = rw t at (en.unseen at) in
    let one : cond {A = ℕ} (is_short c) 1 0 ≤ 1 = by_test (is_short c) (λ z. rw z (omega arith)) (λ z. rw z (omega arith)) in
    omega (arith, a, one, en.seen at, none, tally_has f [] (is_of at) UNSEEN, tally_has f [] (is_of at) SEEN)

pub entered_rests : (core : Bool) (m0 m n : Memory) (e : Entries) (w u v : Watches) (at : ℕ) → IsResting core m0 e w → on_side core m0 at ≡ false → tally w.lists [] (is_of at) ≡ 0 → IsArranged at m0 m → IsPutOn core m n at
    → IsEnlisted w.lists u.lists (cell_at m at).lits at → u ≡ record w { lists = u.lists } → IsNoted m e.lits (cell_at m at).lits at u v → IsResting core n e v
entered_rests core m0 m n e w u v at y off none ar put en u_is nt = record {
  idle = record { keys = λ some. omega (arith, y.idle.keys some, en.shape.keys, lists_keys); both = λ some. omega (arith, y.idle.both (omega (arith, some, en.shape.keys, lists_keys)), en.shape.keys, lists_keys); walked = ap (λ (f : Family). f.walked) nt.lists ∙ en.shape.walked ∙ y.idle.walked; ahead = ap (λ (f : Family). f.ahead) nt.lists ∙ nothing_left u.lists.ahead (λ p. en.ahead p ∙ ap (count_by p) y.idle.ahead) };
  stocked = rw nt.lists (record {
    few = λ r. by_eq r at
        (λ z. let t : (at == r) ≡ true = grind (arith, nat_tests) in let f : tally u.lists [] (is_of r) ≤ tally w.lists [] (is_of r) + 2 = rw t at (en.few r) in let g : tally w.lists [] (is_of r) ≡ 0 = subst (λ j. tally w.lists [] (is_of j) ≡ 0) (sym z) none in omega (arith, f, g))
        (λ ne. omega (arith, few_other r ne, y.stocked.few r));
    clean = λ r h. by_eq r at
        (λ z. absurd (not_unlisted core (cell_at n at) put.held put.on (subst (λ j. is_unlisted core (cell_at n j) ≡ true) z h)))
        (λ ne. omega (arith, few_other r ne, y.stocked.clean r (subst (λ (c : Cell). is_unlisted core c ≡ true) (cells r ne) h)));
    blockers = tally_agrees u.lists [] (is_stray n) (is_stray m) stray_same ∙ en.blockers m refl ∙ (stocked_turned core core m0 m w.lists [] ar.each y.stocked).blockers;
  });
  linked = λ r k o. rw nt.lists (by_eq r at
      (λ z. subst (λ j. listed u.lists j k ≡ cond (is_watch (clause_on core n j) k) 1 0) (sym z) (here k))
      (λ ne. let f : (at == r) ≡ false = grind (arith, nat_tests) in let a : listed u.lists r k ≡ listed w.lists r k + 0 = rw f at (en.literals r k) in
      rw (clauses r ne) (let b = y.linked r k (subst (λ (c : Cell). is_on core c ≡ true) (cells r ne) o) in omega (arith, a, b))));
  shaded = omega (arith, y.shaded, nt.shade, ap (λ (x : Watches). x.shade) u_is);
  short = rw nt.lists (record {
    each = λ r o s. by_eq r at
        (λ z. inl (let t : (at == r) ≡ true = grind (arith, nat_tests) in let sh : is_short (cell_at m at).lits ≡ true = ap is_short (sym put.lits) ∙ subst (λ j. is_short (cell_at n j).lits ≡ true) z s in let a : times u.lists r UNSEEN ≡ times w.lists r UNSEEN + 1 = rw (t, sh) at (en.unseen r) in omega (arith, a)))
        (λ ne. short_other r ne (y.short.each r (subst (λ (c : Cell). is_on core c ≡ true) (cells r ne) o) (subst (λ (c : Cell). is_short c.lits ≡ true) (cells r ne) s)));
    light = λ r i some is o s. by_eq r at
        (λ z. subst (λ j. times u.lists j UNSEEN + times u.lists j SEEN ≤ 1) (sym z) (enlisted_once w.lists u.lists (cell_at m at).lits at en none))
        (λ ne. let f : (at == r) ≡ false = grind (arith, nat_tests) in let q : times u.lists r UNSEEN ≡ times w.lists r UNSEEN + 0 = rw f at (en.unseen r) in
        omega (arith, q, en.seen r, y.short.light r i some is (subst (λ (c : Cell). is_on core c ≡ true) (cells r ne) o) (subst (λ (c : Cell). is_short c.lits ≡ true) (cells r ne) s)));
  });
  within = omega (arith, y.within, nt.less, ap (λ (x : Watches). x.done) u_is);
  guarded = λ r z. by_eq r at
      (λ q. subst (λ j. IsGuarded (take v.done e.lits) e.lits (clause_on core n j)) (sym q) (rw here_is (nt.guarded (subst (λ j. is_pending v.pending j ≡ false) q z))))
      (λ ne. by_test (is_pending w.pending r)
      (λ t. let o : AreOpenWatches (cell_at m r).lits (take v.done e.lits) = nt.others r ne z (subst (λ (x : Watches). is_pending x.pending r ≡ true) (sym u_is) t) in
      by_test (on_side core n r) (λ a. rw (clause_here core n r a, put.others r ne) (open_guarded (cell_at m r).lits (take v.done e.lits) e.lits o)) (λ a. none_guarded core n r a (take v.done e.lits) e.lits))
      (λ f. rw (clauses r ne) (λ k i h. y.guarded r f k i (includes_less v.done w.done e.lits (omega (arith, nt.less, ap (λ (x : Watches). x.done) u_is)) _ h))));
  pending = λ r z. by_eq r at
      (λ q. subst (IsPending core n e.lits) (sym q) (record { held = put.held; on = put.on; stuck = rw put.lits (nt.stuck (subst (λ j. is_pending v.pending j ≡ true) q z)) }))
      (λ ne. let p = y.pending r (subst (λ (x : Watches). is_pending x.pending r ≡ true) u_is (nt.still r ne z)) in record { held = ap (λ (c : Cell). c.held) (cells r ne) ∙ p.held; on = ap (is_on core) (cells r ne) ∙ p.on; stuck = subst (λ (c : Cell). IsStuck e.lits c.lits) (sym (cells r ne)) p.stuck });
  kept = record {
    rising = nt.rising;
    within = λ i h. y.kept.within i (old_kept i (nt.fewer i h).0);
    guarded = λ i h r. by_eq r at
        (λ q. subst (λ j. IsGuarded (take i e.lits) (take i e.lits) (clause_on core n j)) (sym q) (rw here_is (nt.fewer i h).1))
        (λ ne. rw (clauses r ne) (y.kept.guarded i (old_kept i (nt.fewer i h).0) r));
  };
}
  where
    lists_keys : length v.lists.lists ≡ length u.lists.lists
    lists_keys = ap (λ (f : Family). length f.lists) nt.lists

    cells : (r : ℕ) → r ≢ at → cell_at n r ≡ cell_at m0 r
    cells r ne = put.others r ne ∙ ar.others r ne

    clauses : (r : ℕ) → r ≢ at → clause_on core n r ≡ clause_on core m0 r
    clauses r ne = ap (λ (c : Cell). cond (is_on core c) c.lits []) (cells r ne)

    here_is : clause_on core n at ≡ (cell_at m at).lits
    here_is = clause_here core n at put.on ∙ put.lits

    few_other : (r : ℕ) → r ≢ at → tally u.lists [] (is_of r) ≤ tally w.lists [] (is_of r)
    few_other r ne = let f : (at == r) ≡ false = grind (arith, nat_tests) in let q : tally u.lists [] (is_of r) ≤ tally w.lists [] (is_of r) + 0 = rw f at (en.few r) in omega (arith, q)

    stray_same : (x : Watch) → is_stray n x ≡ is_stray m x
    stray_same x = by_eq x.at at
        (λ z. let l : (cell_at n x.at).lits ≡ (cell_at m x.at).lits = subst (λ j. (cell_at n j).lits ≡ (cell_at m j).lits) (sym z) put.lits in rw l refl)
        (λ ne. rw (put.others x.at ne) refl)

    here : (k : Literal) → listed u.lists at k ≡ cond (is_watch (clause_on core n at) k) 1 0
    here k =
        let t : (at == at) ≡ true = grind (arith, nat_tests) in
        let a : listed u.lists at k ≡ listed w.lists at k + cond (is_watch (cell_at m at).lits k) 1 0 = rw t at (en.literals at k) in
        let z : listed w.lists at k ≤ tally w.lists [] (is_of at) = tally_has w.lists [] (is_of at) (key_of k) in
        rw here_is (omega (arith, a, z, none))

    short_other : (r : ℕ) → r ≢ at → (0 < times w.lists r UNSEEN) ⊎ (IsSeen m0 w.lists (take w.shade e.lits) r ⊎ IsReason e.reasons w.top r) → (0 < times u.lists r UNSEEN) ⊎ (IsSeen n u.lists (take v.shade e.lits) r ⊎ IsReason e.reasons v.top r)
    short_other r ne (inl a) = inl (let f : (at == r) ≡ false = grind (arith, nat_tests) in let q : times u.lists r UNSEEN ≡ times w.lists r UNSEEN + 0 = rw f at (en.unseen r) in omega (arith, a, q))
    short_other r ne (inr (inl s)) = inr (inl (record {
      is_listed = omega (arith, s.is_listed, en.seen r);
      is_true = rw (nt.shade ∙ ap (λ (x : Watches). x.shade) u_is, cells r ne) s.is_true;
    }))
    short_other r ne (inr (inr q)) = inr (inr (rw (nt.top ∙ ap (λ (x : Watches). x.top) u_is) q))

    old_kept : (i : ℕ) → holds_number i u.kept.items ≡ true → holds_number i w.kept.items ≡ true
    old_kept i h = subst (λ (x : Watches). holds_number i x.kept.items ≡ true) u_is h
