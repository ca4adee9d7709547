-- What is left where watches of detached clauses are dropped.
use Rattle.std.proofs.lemmas.Bool.Decides.{nat_tests}
use Rattle.std.proofs.Common.{◌≡◌, ◌≢◌, ◌<◌, ◌≤◌, ◌+◌, ℕ, suc, Bool, true, false, cond, ◌==◌, List, [], ◌∷◌, Some, None, refl, sym, ◌∙◌, ap, subst, arith, length, get_or}
use Rattle.std.specs.List.{sum_by, count_by}
use Rattle.std.proofs.lemmas.List.Sums.{sum_by-cons}
use Rattle.sr_arena.specs.Cells.{Memory, cell_at}
use Rattle.sr_model.specs.Assignment.{holds_number}
use Rattle.sr_model.proofs.Soundness.{by_test}
use Rattle.sr_lists.specs.declared.blocks.Watch.{Watch}
use Rattle.sr_lists.specs.Family.{Family, list_at, IsPushed, IsBegun, IsTaken, IsEnded}
use Rattle.sr_watch.specs.Watching.{on_side, is_of, times, left_of, AreStocked}
use Rattle.sr_watch.specs.Walking.{HasSameShape}
use Rattle.sr_watch.specs.Purging.{IsPurgedAt, IsPurged}
use Rattle.sr_watch.proofs.Entries.{by_eq}
use Rattle.sr_watch.proofs.Listing.{count_cons, count_append}
use Rattle.sr_watch.proofs.Visits.{stocked_dropped, stocked_pushed}
use Rattle.sr_watch.proofs.OnWalk.{stocked_taken, stocked_begun, stocked_ended, true_to_clause}

-- how far one list was purged
pub record IsPurging (core : Bool) (m : Memory) (f0 f : Family) (key : ℕ) : Type 0 where
  pub keys : length f.lists ≡ length f0.lists
  pub room : f.room ≡ f0.room
  pub at_list : f.walked ≡ Some key
  pub stocked : AreStocked core m f f.ahead
  pub same : (r : ℕ) → on_side core m r ≡ true → times f r key + left_of f.ahead r ≡ times f0 r key
  pub others : (r k : ℕ) → k ≢ key → times f r k ≡ times f0 r k
  pub gone : (r : ℕ) → on_side core m r ≡ false → times f r key ≡ 0

pub purging_start : (core : Bool) (m : Memory) (f g : Family) (key : ℕ) → key < length f.lists → IsBegun f g key → AreStocked core m f [] → IsPurging core m f g key
purging_start core m f g key lt b st = record {
  keys = b.keys;
  room = b.room;
  at_list = b.walked;
  stocked = stocked_begun core m f g key lt b st;
  same = λ r o. let z : times g r key ≡ 0 = ap (count_by (is_of r)) b.here in omega (arith, z, b.ahead (is_of r));
  others = λ r k ne. b.others k ne (is_of r);
  gone = λ r o. ap (count_by (is_of r)) b.here;
}

pub purging_dropped : (core : Bool) (m : Memory) (f0 f g : Family) (key : ℕ) (w : Watch) → IsTaken f g w → on_side core m w.at ≡ false → IsPurging core m f0 f key → IsPurging core m f0 g key
purging_dropped core m f0 f g key w t off x = record {
  keys = t.keys ∙ x.keys;
  room = t.room ∙ x.room;
  at_list = t.walked ∙ x.at_list;
  stocked = stocked_dropped core m g w g.ahead (stocked_taken core m f g w t x.stocked);
  same = λ r o.
      let ne : is_of r w ≡ false = by_test (w.at == r) (λ y. let is : w.at ≡ r = grind (arith, nat_tests) in let o' : on_side core m r ≡ false = subst (λ j. on_side core m j ≡ false) is off in absurd cc) (λ y. y) in
      let z : cond {A = ℕ} (is_of r w) 1 0 ≡ 0 = rw ne refl in
      omega (arith, x.same r o, t.lists key (is_of r), t.ahead (is_of r), count_cons (is_of r) w g.ahead, z);
  others = λ r k ne. t.lists k (is_of r) ∙ x.others r k ne;
  gone = λ r o. t.lists key (is_of r) ∙ x.gone r o;
}

pub purging_kept : (core : Bool) (m : Memory) (f0 f g h : Family) (key : ℕ) (w : Watch) → IsTaken f g w → key < length g.lists → IsPushed g h key w → on_side core m w.at ≡ true → IsPurging core m f0 f key → IsPurging core m f0 h key
purging_kept core m f0 f g h key w t lt p on x = record {
  keys = p.keys ∙ t.keys ∙ x.keys;
  room = p.room ∙ t.room ∙ x.room;
  at_list = p.walked ∙ t.walked ∙ x.at_list;
  stocked = let st = stocked_taken core m f g w t x.stocked in stocked_pushed core m g h key w w g.ahead h.ahead lt p.ahead p refl (true_to_clause core m g w g.ahead st) st;
  same = λ r o. omega (arith, x.same r o, t.lists key (is_of r), t.ahead (is_of r), count_cons (is_of r) w g.ahead, p.here (is_of r), count_cons (is_of r) w (list_at g key), p.ahead (is_of r));
  others = λ r k ne. p.others k ne (is_of r) ∙ t.lists k (is_of r) ∙ x.others r k ne;
  gone = λ r o.
      let ne : is_of r w ≡ false = by_test (w.at == r) (λ y. let is : w.at ≡ r = grind (arith, nat_tests) in let o' : on_side core m r ≡ true = subst (λ j. on_side core m j ≡ true) is on in absurd cc) (λ y. y) in
      let z : cond {A = ℕ} (is_of r w) 1 0 ≡ 0 = rw ne refl in
      omega (arith, x.gone r o, t.lists key (is_of r), p.here (is_of r), count_cons (is_of r) w (list_at g key), z);
}

pub purging_over : (core : Bool) (m : Memory) (f0 f g : Family) (key : ℕ) → f0.walked ≡ None → key < length f.lists → f.ahead ≡ [] → IsEnded f g key → IsPurging core m f0 f key → IsPurgedAt core m f0 g key
purging_over core m f0 f g key idle lt none b x =
    let left : (r : ℕ) → left_of f.ahead r ≡ 0 = (λ r. ap (λ ws. left_of ws r) none) in
    let here : (r : ℕ) → times g r key ≡ times f r key = (λ r. omega (arith, b.here (is_of r), count_append (is_of r) f.ahead (list_at f key), left r)) in
    record {
      shape = record { keys = b.keys ∙ x.keys; walked = b.walked ∙ sym idle; room = b.room ∙ x.room };
      ahead = b.ahead;
      stocked = stocked_ended core m f g key lt b x.stocked;
      same = λ r k o. by_eq k key
          (λ e. subst (λ j. times g r j ≡ times f0 r j) (sym e) (omega (arith, here r, x.same r o, left r)))
          (λ ne. b.others k ne (is_of r) ∙ x.others r k ne);
      others = λ r k ne. b.others k ne (is_of r) ∙ x.others r k ne;
      gone = λ r o. here r ∙ x.gone r o;
    }

-- how many of the lists were purged
pub record ArePurged (core : Bool) (m : Memory) (f0 f : Family) (n : ℕ) : Type 0 where
  pub shape : HasSameShape f0 f
  pub ahead : f.ahead ≡ []
  pub stocked : AreStocked core m f []
  pub same : (r k : ℕ) → on_side core m r ≡ true → times f r k ≡ times f0 r k
  pub gone : (r k : ℕ) → k < n → on_side core m r ≡ false → times f r k ≡ 0

pub purged_start : (core : Bool) (m : Memory) (f : Family) → f.ahead ≡ [] → AreStocked core m f [] → ArePurged core m f f 0
purged_start core m f none st = record { shape = record { keys = refl; walked = refl; room = refl }; ahead = none; stocked = st; same = λ r k o. refl; gone = λ r k lt. absurd (omega arith) }

pub purged_more : (core : Bool) (m : Memory) (f0 f g : Family) (n : ℕ) → ArePurged core m f0 f n → IsPurgedAt core m f g n → ArePurged core m f0 g (n + 1)
purged_more core m f0 f g n x y = record {
  shape = record { keys = y.shape.keys ∙ x.shape.keys; walked = y.shape.walked ∙ x.shape.walked; room = y.shape.room ∙ x.shape.room };
  ahead = y.ahead;
  stocked = y.stocked;
  same = λ r k o. y.same r k o ∙ x.same r k o;
  gone = λ r k lt o. by_eq k n
      (λ e. subst (λ j. times g r j ≡ 0) (sym e) (y.gone r o))
      (λ ne. y.others r k ne ∙ x.gone r k (omega arith) o);
}

sum_none : (p : Watch → Bool) (ls : List (List Watch)) → ((k : ℕ) → k < length ls → count_by p (get_or ls k []) ≡ 0) → sum_by (count_by p) ls ≡ 0
sum_none p [] f = refl
sum_none p (l ∷ ls) f = omega (arith, sum_none p ls (λ k lt. f (suc k) (omega arith)), f 0 (omega arith), sum_by-cons (λ (x : List Watch). count_by p x) l ls)

pub purged_over : (core : Bool) (m : Memory) (f0 f : Family) (n : ℕ) → length f.lists ≤ n → ArePurged core m f0 f n → IsPurged core m f0 f
purged_over core m f0 f n le x = record {
  shape = x.shape;
  ahead = x.ahead;
  stocked = x.stocked;
  same = x.same;
  gone = λ r o. let z : count_by (is_of r) [] ≡ 0 = refl in omega (arith, sum_none (is_of r) f.lists (λ k lt. x.gone r k (omega arith) o), z);
}

-- the first known clauses were cleared
abbrev pub AreFirstCleared : Memory → List ℕ → ℕ → Type 0
AreFirstCleared m known n = (i : ℕ) → i < n → (cell_at m (get_or known i 0)).marked ≡ false → (cell_at m (get_or known i 0)).flagged ≡ false

index_of : (r : ℕ) (known : List ℕ) → holds_number r known ≡ true → (i : ℕ) × (i < length known) × (get_or known i 0 ≡ r)
index_of r [] h = absurd cc
index_of r (k ∷ known) h = by_test (k == r)
    (λ t. (0, omega arith, grind (arith, nat_tests)))
    (λ f. let w = index_of r known (rw f at h) in (suc w.0, omega (arith, w.1), w.2))

pub all_cleared : (m : Memory) (known : List ℕ) (n : ℕ) → length known ≤ n → AreFirstCleared m known n → (r : ℕ) → holds_number r known ≡ true → (cell_at m r).marked ≡ false → (cell_at m r).flagged ≡ false
all_cleared m known n le x r h un =
    let w = index_of r known h in
    subst (λ j. (cell_at m j).flagged ≡ false) w.2 (x w.0 (omega (arith, w.1)) (subst (λ j. (cell_at m j).marked ≡ false) (sym w.2) un))
