-- What is left where entries are cut.
use Rattle.std.proofs.lemmas.List.{take-take, length-take}
use Rattle.std.proofs.Common.{◌≡◌, ◌⊎◌, inl, inr, ◌<◌, ◌≤◌, ◌+◌, ℕ, Bool, true, false, List, [], ◌∷◌, Some, None, refl, sym, ◌∙◌, ap, subst, arith, length, get_or, take}
use Rattle.std.specs.List.{count_by}
use Rattle.sr_base.specs.Literal.{Literal, complement, has}
use Rattle.sr_arena.specs.Cells.{Memory}
use Rattle.sr_model.specs.Assignment.{holds_number}
use Rattle.sr_model.specs.Refutation.{Includes}
use Rattle.sr_lists.specs.declared.blocks.Watch.{Watch}
use Rattle.sr_lists.specs.Family.{Family, list_at, IsPushed, IsBegun, IsTaken, IsEnded}
use Rattle.sr_watch.specs.declared.watches.Watches.{Watches}
use Rattle.sr_watch.specs.declared.watches.TheConstants.{UNSEEN, SEEN}
use Rattle.sr_watch.specs.Trail.{Entries}
use Rattle.sr_watch.specs.Rising.{AreRising, last_above}
use Rattle.sr_watch.specs.Watching.{IsGuarded, AreGuarded, clause_on, is_of, is_stray, times, listed, left_of, tally}
use Rattle.sr_watch.specs.Walking.{HasSameShape}
use Rattle.sr_watch.specs.Resting.{is_pending, IsSeen, IsReason, AreShortListed, IsResting}
use Rattle.sr_watch.proofs.Walks.{some_more}
use Rattle.sr_watch.proofs.Rises.{below_last, last_holds}
use Rattle.sr_watch.proofs.Listing.{count_cons, count_append, listed_short, listed_taken, listed_short_begun, listed_short_ended, tally_pushed, tally_begun, tally_taken, tally_ended, tally_first}
use Rattle.sr_watch.proofs.OnWalk.{includes_take}

-- how far the seen clauses were put among the others
pub record IsUnseeing (f0 f : Family) : Type 0 where
  pub keys : length f.lists ≡ length f0.lists
  pub room : f.room ≡ f0.room
  pub at_list : f.walked ≡ Some SEEN
  pub literals : (r : ℕ) (k : Literal) → listed f r k ≡ listed f0 r k
  pub seen : (r : ℕ) → times f r SEEN ≡ 0
  pub unseen : (r : ℕ) → times f r UNSEEN + left_of f.ahead r ≡ times f0 r UNSEEN + times f0 r SEEN
  pub tallies : (p : Watch → Bool) → tally f f.ahead p ≡ tally f0 [] p

pub unseeing_start : (f g : Family) → SEEN < length f.lists → IsBegun f g SEEN → IsUnseeing f g
unseeing_start f g lt b = record {
  keys = b.keys;
  room = b.room;
  at_list = b.walked;
  literals = listed_short_begun f g SEEN (omega arith) b;
  seen = λ r. ap (count_by (is_of r)) b.here;
  unseen = λ r. omega (arith, b.others UNSEEN (λ e. absurd (omega (arith, e))) (is_of r), b.ahead (is_of r));
  tallies = λ p. tally_begun f g SEEN p lt b;
}

pub unseeing_more : (f0 f g h : Family) (w : Watch) → IsUnseeing f0 f → IsTaken f g w → UNSEEN < length g.lists → IsPushed g h UNSEEN w → IsUnseeing f0 h
unseeing_more f0 f g h w x t lt p = record {
  keys = p.keys ∙ t.keys ∙ x.keys;
  room = p.room ∙ t.room ∙ x.room;
  at_list = p.walked ∙ t.walked ∙ x.at_list;
  literals = λ r k. listed_short g h UNSEEN w (omega arith) p r k ∙ listed_taken f g w t r k ∙ x.literals r k;
  seen = λ r. p.others SEEN (λ e. absurd (omega (arith, e))) (is_of r) ∙ t.lists SEEN (is_of r) ∙ x.seen r;
  unseen = λ r. omega (arith, x.unseen r, p.here (is_of r), count_cons (is_of r) w (list_at g UNSEEN), t.lists UNSEEN (is_of r), t.ahead (is_of r), count_cons (is_of r) w g.ahead, p.ahead (is_of r));
  tallies = λ p'. omega (arith, x.tallies p', tally_pushed g h UNSEEN w g.ahead h.ahead p' lt p.ahead p, tally_taken f g w p' t, tally_first g w g.ahead p');
}

pub record IsUnseen (f0 f : Family) : Type 0 where
  pub shape : HasSameShape f0 f
  pub ahead : f.ahead ≡ []
  pub literals : (r : ℕ) (k : Literal) → listed f r k ≡ listed f0 r k
  pub tallies : (p : Watch → Bool) → tally f [] p ≡ tally f0 [] p
  pub unseen : (r : ℕ) → times f r UNSEEN ≡ times f0 r UNSEEN + times f0 r SEEN
  pub seen : (r : ℕ) → times f r SEEN ≡ 0

pub unseeing_over : (f0 f g : Family) → f0.walked ≡ None → IsUnseeing f0 f → SEEN < length f.lists → f.ahead ≡ [] → IsEnded f g SEEN → IsUnseen f0 g
unseeing_over f0 f g idle x lt none b = record {
  shape = record { keys = b.keys ∙ x.keys; walked = b.walked ∙ sym idle; room = b.room ∙ x.room };
  ahead = b.ahead;
  literals = λ r k. listed_short_ended f g SEEN (omega arith) b r k ∙ x.literals r k;
  tallies = λ p. tally_ended f g SEEN p lt b ∙ x.tallies p;
  unseen = λ r. let z : left_of f.ahead r ≡ 0 = ap (λ ws. left_of ws r) none in omega (arith, b.others UNSEEN (λ e. absurd (omega (arith, e))) (is_of r), x.unseen r, z);
  seen = λ r. let z : left_of f.ahead r ≡ 0 = ap (λ ws. left_of ws r) none in omega (arith, b.here (is_of r), count_append (is_of r) f.ahead (list_at f SEEN), x.seen r, z);
}

-- no lists
pub none_listed : (f : Family) (r key : ℕ) → length f.lists ≡ 0 → times f r key ≡ 0
none_listed f r key e = go f.lists e
  where
    go : (ls : List (List Watch)) → length ls ≡ 0 → count_by (is_of r) (get_or ls key []) ≡ 0
    go [] n = refl
    go (l ∷ ls) n = absurd (omega (arith, n))

-- all are unseen
pub short_unseen : (core : Bool) (m : Memory) (f g : Family) (s t : List Literal) (rs : List ℕ) (top : ℕ) → ((r : ℕ) → times g r UNSEEN ≡ times f r UNSEEN + times f r SEEN) → ((r : ℕ) → times g r SEEN ≡ 0) → AreShortListed core m f s rs top → AreShortListed core m g t rs top
short_unseen core m f g s t rs top u n x = record {
  each = λ r o sh. go r (x.each r o sh);
  light = λ r i some is o sh. omega (arith, x.light r i some is o sh, u r, n r);
}
  where
    go : (r : ℕ) → (0 < times f r UNSEEN) ⊎ (IsSeen m f s r ⊎ IsReason rs top r) → (0 < times g r UNSEEN) ⊎ (IsSeen m g t r ⊎ IsReason rs top r)
    go r (inl a) = inl (omega (arith, a, u r))
    go r (inr (inl v)) = inl (omega (arith, v.is_listed, u r))
    go r (inr (inr q)) = inr (inr q)

pub includes_less : (n m : ℕ) (s : List Literal) → n ≤ m → Includes (take n s) (take m s)
includes_less n m s le = subst (λ x. Includes x (take m s)) (take-take n m s le) (includes_take n (take m s))

-- the entries are cut
pub fallen_rests : (core : Bool) (m : Memory) (e : Entries) (w v : Watches) (mark : ℕ) → mark ≤ length e.lits → AreRising 0 v.kept.items → ((n : ℕ) → holds_number n v.kept.items ≡ true → holds_number n w.kept.items ≡ true) → v.done ≡ last_above 0 v.kept.items → v.done ≤ mark
    → v.pending ≡ None → v.shade ≤ mark → v.top ≡ w.top → HasSameShape w.lists v.lists → v.lists.ahead ≡ [] → ((r : ℕ) (k : Literal) → listed v.lists r k ≡ listed w.lists r k) → ((p : Watch → Bool) → tally v.lists [] p ≡ tally w.lists [] p)
    → (AreShortListed core m w.lists (take w.shade e.lits) e.reasons w.top → AreShortListed core m v.lists (take v.shade (take mark e.lits)) e.reasons w.top) → IsResting core m e w → IsResting core m (record e { lits = take mark e.lits }) v
fallen_rests core m e w v mark le rises fewer done_is low none shade top shape ahead literals tallies short y = record {
  idle = record { keys = λ some. omega (arith, y.idle.keys some, shape.keys); both = λ some. omega (arith, y.idle.both (omega (arith, some, shape.keys)), shape.keys); walked = shape.walked ∙ y.idle.walked; ahead = ahead };
  stocked = record { few = λ r. omega (arith, tallies (is_of r), y.stocked.few r); clean = λ r h. tallies (is_of r) ∙ y.stocked.clean r h; blockers = tallies (is_stray m) ∙ y.stocked.blockers };
  linked = λ r k o. literals r k ∙ y.linked r k o;
  shaded = omega (arith, shade, size);
  short = rw top (short y.short);
  within = omega (arith, low, size);
  guarded = λ r z. guarded r (last_holds 0 v.kept.items);
  pending = λ r z. let f : is_pending v.pending r ≡ false = ap (λ p. is_pending p r) none in absurd cc;
  kept = record {
    rising = rises;
    within = λ n h. omega (arith, at_most n h, size);
    guarded = λ n h. subst (λ b. AreGuarded b b (clause_on core m)) (sym (take-take n mark e.lits (at_most n h))) (y.kept.guarded n (fewer n h));
  };
}
  where
    size : length (take mark e.lits) ≡ mark
    size = omega (arith, length-take mark e.lits, le)

    at_most : (n : ℕ) → holds_number n v.kept.items ≡ true → n ≤ mark
    at_most n h = omega (arith, below_last 0 n v.kept.items rises h, done_is, low)

    guarded : (r : ℕ) → (last_above 0 v.kept.items ≡ 0) ⊎ (holds_number (last_above 0 v.kept.items) v.kept.items ≡ true) → IsGuarded (take v.done (take mark e.lits)) (take mark e.lits) (clause_on core m r)
    guarded r (inl z) k i f = let zero_done : v.done ≡ 0 = done_is ∙ z in let g : has (complement k) (take 0 (take mark e.lits)) ≡ true = subst (λ n. has (complement k) (take n (take mark e.lits)) ≡ true) zero_done f in absurd cc
    guarded r (inr h) k i f =
        let h' : holds_number v.done v.kept.items ≡ true = subst (λ n. holds_number n v.kept.items ≡ true) (sym done_is) h in
        let f' : has (complement k) (take v.done e.lits) ≡ true = subst (λ b. has (complement k) b ≡ true) (take-take v.done mark e.lits low) f in
        some_more (take v.done e.lits) (take mark e.lits) (clause_on core m r) (includes_less v.done mark e.lits low) (y.kept.guarded v.done (fewer v.done h') r k i f')
