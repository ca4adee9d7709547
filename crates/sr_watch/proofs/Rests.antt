-- What propagation leaves of what holds between calls.
use Rattle.std.proofs.lemmas.Bool.Decides.{nat_tests}
use Rattle.std.proofs.lemmas.List.{take_more}
use Rattle.std.proofs.Common.{◌≡◌, ◌≢◌, ◌<◌, ◌≤◌, ◌+◌, ℕ, suc, zero, Bool, true, false, cond, ◌==◌, List, [], ◌∷◌, ◌++◌, refl, sym, ◌∙◌, ap, subst, arith, length, get_or, take}
use Rattle.sr_base.specs.Literal.{Literal, plus, complement, same, has}
use Rattle.sr_base.proofs.Literals.{same_tells, has_append}
use Rattle.sr_arena.specs.Cells.{Cell, Memory, cell_at}
use Rattle.sr_model.proofs.Soundness.{by_test}
use Rattle.sr_lists.specs.Family.{Family}
use Rattle.sr_watch.specs.declared.watches.Watches.{Watches}
use Rattle.sr_watch.specs.State.{IsSound}
use Rattle.sr_watch.specs.Marks.{joined}
use Rattle.sr_watch.specs.Trail.{Entries, place_in}
use Rattle.sr_watch.specs.Watching.{IsGuarded, AreGuarded, is_on, on_side, clause_on}
use Rattle.sr_watch.specs.Walking.{KeepsGuards, IsTurnedCell, IsTurned, IsGrown, IsStep, HasSameShape, IsWalked}
use Rattle.sr_watch.specs.Resting.{is_pending, AreShortTrue, IsResting, IsPrepared}
use Rattle.sr_watch.proofs.Shorts.{NoShortNews, shorts_grown, carried_turned, includes_same, none_new}
use Rattle.sr_watch.proofs.Walks.{some_more, some_same}
use Rattle.sr_watch.proofs.Visits.{clause_gone, short_turned, on_turned, stocked_turned}
use Rattle.sr_watch.proofs.OnWalk.{includes_take, includes_kept, take_kept, grown_longer}

-- a guarded clause stays guarded
pub guard_grown : (e h : Entries) (n : ℕ) (c : List Literal) → IsGrown e h → n ≤ length e.lits → IsGuarded (take n e.lits) e.lits c → IsGuarded (take n h.lits) h.lits c
guard_grown e h n c x le g = subst (λ b. IsGuarded b h.lits c) (sym (take_kept e.lits h.lits n le x.lits)) (λ k w f. some_more e.lits h.lits c (includes_kept e.lits h.lits x.lits) (g k w f))

pub guards_grown : (e h : Entries) (n : ℕ) (cs ds : ℕ → List Literal) → IsGrown e h → n ≤ length e.lits → ((r : ℕ) → ds r ≡ cs r) → AreGuarded (take n e.lits) (take n e.lits) cs → AreGuarded (take n h.lits) (take n h.lits) ds
guards_grown e h n cs ds x le same_cs g r = rw (take_kept e.lits h.lits n le x.lits, same_cs r) (g r)

-- the entries grow, and the clauses of the side stay
pub rests_grown : (core : Bool) (m n : Memory) (e h : Entries) (w : Watches) → ((r : ℕ) → IsTurnedCell (cell_at m r) (cell_at n r)) → ((r : ℕ) → clause_on core n r ≡ clause_on core m r) → IsGrown e h → NoShortNews core n e h → IsResting core m e w → IsResting core n h w
rests_grown core m n e h w t same_cs x none y =
    let on : (r : ℕ) → on_side core n r ≡ on_side core m r = (λ r. on_turned core (cell_at m r) (cell_at n r) (t r)) in
    let longer : length e.lits ≤ length h.lits = grown_longer e h x in
    record {
      idle = record { keys = λ some. omega (arith, y.idle.keys (omega (arith, some, x.vars)), x.vars); both = y.idle.both; walked = y.idle.walked; ahead = y.idle.ahead };
      stocked = stocked_turned core core m n w.lists [] t y.stocked;
      linked = λ r k o. rw (same_cs r) (y.linked r k (sym (on r) ∙ o));
      shaded = omega (arith, y.shaded, longer);
      short = shorts_grown core m n w.lists w.lists (take w.shade e.lits) (take w.shade h.lits) e h w.top (carried_turned core m n w.lists w.lists t (λ r key lt. refl)) (includes_same (take w.shade e.lits) (take w.shade h.lits) (take_kept e.lits h.lits w.shade y.shaded x.lits)) x none y.short;
      within = omega (arith, y.within, longer);
      guarded = λ r z. rw (same_cs r) (guard_grown e h w.done (clause_on core m r) x y.within (y.guarded r z));
      pending = λ r z. let p = y.pending r z in record { held = (t r).held ∙ p.held; on = on r ∙ p.on; stuck = record { left = p.stuck.left; others = λ k i ne. includes_kept e.lits h.lits x.lits (complement k) (p.stuck.others k (sym ((t r).set k) ∙ i) ne) } };
      kept = record {
        rising = y.kept.rising;
        within = λ i z. omega (arith, y.kept.within i z, longer);
        guarded = λ i z. guards_grown e h i (clause_on core m) (clause_on core n) x (y.kept.within i z) same_cs (y.kept.guarded i z);
      };
    }

-- the other side of a step
differs : (a b : Bool) (c : Cell) → a ≢ b → is_on a c ≡ true → is_on b c ≡ false
differs true true c ne h = absurd (ne refl)
differs false false c ne h = absurd (ne refl)
differs true false c ne h = by_test c.marked (λ t. by_test c.flagged (λ f. rw (t, f) refl) (λ f. rw t (let z : is_on true c ≡ false = rw (t, f) refl in absurd cc))) (λ t. rw t refl)
differs false true c ne h = by_test c.marked (λ t. by_test c.flagged (λ f. let z : is_on false c ≡ false = rw (t, f) refl in absurd cc) (λ f. rw (t, f) refl)) (λ t. rw t refl)

pub other_clauses : (core side : Bool) (m n : Memory) → side ≢ core → IsTurned core m n → (r : ℕ) → clause_on side n r ≡ clause_on side m r
other_clauses core side m n ne t r = by_test (on_side side m r)
    (λ o. ap (λ (c : Cell). cond (is_on side c) c.lits []) (t.others r (differs side core (cell_at m r) ne o)))
    (λ o. clause_gone side n r (on_turned side (cell_at m r) (cell_at n r) (t.each r) ∙ o) ∙ sym (clause_gone side m r o))

pub other_rests : (core side : Bool) (m n : Memory) (e h : Entries) (w : Watches) → side ≢ core → IsStep core m n e h → IsResting side m e w → IsResting side n h w
other_rests core side m n e h w ne x y =
    rests_grown side m n e h w x.turned.each (other_clauses core side m n ne x.turned) x.grown
    (λ r i some le is o sh. let mine : on_side core n r ≡ true = subst (λ j. on_side core n j ≡ true) is (x.reasons i le (omega (arith, is, some))) in
    let off : on_side side n r ≡ false = differs core side (cell_at n r) (λ q. ne (sym q)) mine in absurd cc)
    y

pub other_prepared : (core side : Bool) (m n : Memory) (e h : Entries) (w : Watches) → side ≢ core → IsStep core m n e h → IsPrepared side m e w → IsPrepared side n h w
other_prepared core side m n e h w ne x y = record {
  pending = y.pending;
  short = λ r o s. some_same h.lits (cell_at m r).lits (cell_at n r).lits (x.turned.each r).set (some_more e.lits h.lits (cell_at m r).lits (includes_kept e.lits h.lits x.grown.lits)
      (y.short r (sym (on_turned side (cell_at m r) (cell_at n r) (x.turned.each r)) ∙ o) (sym (short_turned (cell_at m r) (cell_at n r) (x.turned.each r)) ∙ s)));
}

pub step_prepared : (core : Bool) (m n : Memory) (e h : Entries) (w v : Watches) → v.pending ≡ w.pending → IsStep core m n e h → IsPrepared core m e w → IsPrepared core n h v
step_prepared core m n e h w v p x y = record {
  pending = p ∙ y.pending;
  short = λ r o s. some_same h.lits (cell_at m r).lits (cell_at n r).lits (x.turned.each r).set (some_more e.lits h.lits (cell_at m r).lits (includes_kept e.lits h.lits x.grown.lits)
      (y.short r (sym (on_turned core (cell_at m r) (cell_at n r) (x.turned.each r)) ∙ o) (sym (short_turned (cell_at m r) (cell_at n r) (x.turned.each r)) ∙ s)));
}

-- a walk
pub walked_rests : (core : Bool) (m n : Memory) (e h : Entries) (w v : Watches) → v.kept ≡ w.kept → v.pending ≡ w.pending → v.shade ≡ w.shade → v.top ≡ w.top → v.done ≤ length h.lits → length e.reasons ≡ length e.lits → IsSound (joined h n) → IsStep core m n e h → KeepsGuards e.lits (clause_on core m) (clause_on core n) → IsWalked core n w.lists v.lists h.lits v.done
    → IsPrepared core m e w → IsResting core m e w → IsResting core n h v
walked_rests core m n e h w v kept_is pending_is shade_is top_is le sizes sound x keeps wk pr y =
    let longer : length e.lits ≤ length h.lits = grown_longer e h x.grown in
    let on : (r : ℕ) → on_side core n r ≡ on_side core m r = (λ r. on_turned core (cell_at m r) (cell_at n r) (x.turned.each r)) in
    let none : (r : ℕ) → is_pending v.pending r ≡ false = (λ r. ap (λ p. is_pending p r) (pending_is ∙ pr.pending)) in
    record {
      idle = record { keys = λ some. omega (arith, y.idle.keys (omega (arith, some, x.grown.vars)), x.grown.vars, wk.shape.keys); both = λ some. omega (arith, y.idle.both (omega (arith, some, wk.shape.keys)), wk.shape.keys); walked = wk.shape.walked ∙ y.idle.walked; ahead = wk.ahead };
      stocked = wk.stocked;
      linked = wk.linked;
      shaded = omega (arith, shade_is, y.shaded, longer);
      short = rw (shade_is, top_is) (shorts_grown core m n w.lists v.lists (take w.shade e.lits) (take w.shade h.lits) e h w.top (carried_turned core m n w.lists v.lists x.turned.each wk.short)
          (includes_same (take w.shade e.lits) (take w.shade h.lits) (take_kept e.lits h.lits w.shade y.shaded x.grown.lits)) x.grown (none_new core n e h sizes all x.grown sound) y.short);
      within = le;
      guarded = λ r z. wk.guarded r;
      pending = λ r z. let f = none r in absurd cc;
      kept = rw kept_is (record {
        rising = y.kept.rising;
        within = λ i z. omega (arith, y.kept.within i z, longer);
        guarded = λ i z. let t : take i h.lits ≡ take i e.lits = take_kept e.lits h.lits i (y.kept.within i z) x.grown.lits in
            subst (λ b. AreGuarded b b (clause_on core n)) (sym t) (keeps (take i e.lits) (take i e.lits) (includes_take i e.lits) (y.kept.guarded i z));
      });
    }
  where
    all : AreShortTrue core n e.lits
    all r o s = some_same e.lits (cell_at m r).lits (cell_at n r).lits (x.turned.each r).set (pr.short r (sym (on_turned core (cell_at m r) (cell_at n r) (x.turned.each r)) ∙ o) (sym (short_turned (cell_at m r) (cell_at n r) (x.turned.each r)) ∙ s))

-- an entry that repeats one makes nothing more false
pub repeat_guarded : (cs : ℕ → List Literal) (t : List Literal) (place : ℕ) → place < length t → has (get_or t place (plus 0)) (take place t) ≡ true → AreGuarded (take place t) t cs → AreGuarded (take (place + 1) t) t cs
repeat_guarded cs t place lt h g r k w f =
    let x : Literal = get_or t place (plus 0) in
    let more : take (place + 1) t ≡ take place t ++ x ∷ [] = take_more t place (plus 0) lt in
    let m : has (complement k) (take place t ++ x ∷ []) ≡ true = subst (λ b. has (complement k) b ≡ true) more f in
    g r k w (by_test (same x (complement k)) (λ y. let is : x ≡ complement k = grind (arith, same_tells x (complement k)) in subst (λ j. has j (take place t) ≡ true) is h) (λ y. grind (arith, has_append (complement k) (take place t) (x ∷ []), m, y)))

-- where an entry's literal comes first
pub place_early : (ls : List Literal) (n : ℕ) (l : Literal) → n < length ls → get_or ls n (plus 0) ≡ l → place_in ls l ≢ n + 1 → has l (take n ls) ≡ true
place_early [] n l lt e ne = absurd (omega arith)
place_early (k ∷ ls) zero l lt e ne = let t : same k l ≡ true = grind (arith, same_tells k l) in let p : place_in (k ∷ ls) l ≡ 1 = rw t refl in absurd (ne (omega (arith, p)))
place_early (k ∷ ls) (suc n) l lt e ne = by_test (same k l)
    (λ t. rw t refl)
    (λ f. rw f (place_early ls n l (omega arith) e (λ p. ne (let q : (place_in ls l == 0) ≡ false = grind (arith, nat_tests) in rw (f, q) (omega (arith, p))))))

-- one more entry was looked at
pub advanced_rests : (core : Bool) (m : Memory) (e : Entries) (w : Watches) → IsPrepared core m e w → w.done < length e.lits → AreGuarded (take (w.done + 1) e.lits) e.lits (clause_on core m) → IsResting core m e w → IsResting core m e (record w { done = w.done + 1 })
advanced_rests core m e w pr lt g y = record {
  idle = y.idle;
  stocked = y.stocked;
  linked = y.linked;
  shaded = y.shaded;
  short = y.short;
  within = omega (arith, lt);
  guarded = λ r z. g r;
  pending = y.pending;
  kept = y.kept;
}

pub shape_on : (f g h : Family) → HasSameShape f g → HasSameShape g h → HasSameShape f h
shape_on f g h x y = record { keys = y.keys ∙ x.keys; walked = y.walked ∙ x.walked; room = y.room ∙ x.room }

-- what a loop of steps over one side keeps
pub record IsClosing (core : Bool) (m n : Memory) (e h : Entries) (w v : Watches) : Type 0 where
  pub step : IsStep core m n e h
  pub sound : IsSound (joined h n)
  pub shape : HasSameShape w.lists v.lists
  pub resting : IsResting core n h v
  pub prepared : IsPrepared core n h v
