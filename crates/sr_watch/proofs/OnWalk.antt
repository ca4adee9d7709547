-- A whole walk, over plain variables.
use Rattle.std.proofs.lemmas.Bool.Decides.{nat_tests}
use Rattle.std.proofs.lemmas.List.{take_more, take-take, length-take}
use Rattle.std.proofs.Common.{◌≡◌, ◌<◌, ◌≤◌, ◌+◌, ℕ, suc, zero, Bool, true, false, not, cond, ◌==◌, ◌&&◌, List, [], ◌∷◌, ◌++◌, Some, None, refl, sym, ◌∙◌, ap, subst, arith, length, get_or, take}
use Rattle.sr_base.specs.Literal.{Literal, variable, complement, same, has}
use Rattle.sr_base.proofs.Literals.{same_tells, has_append, complement_twice}
use Rattle.sr_arena.specs.Cells.{Memory, cell_at, IsHeld}
use Rattle.sr_model.specs.Refutation.{Includes, is_empty}
use Rattle.sr_model.proofs.Soundness.{by_test}
use Rattle.sr_lists.specs.declared.blocks.Watch.{Watch}
use Rattle.sr_lists.specs.Family.{Family, IsPushed, IsBegun, IsTaken, IsEnded}
use Rattle.sr_watch.specs.State.{IsSound, AreWithin}
use Rattle.sr_watch.specs.Marks.{joined}
use Rattle.sr_watch.specs.Trail.{Entries}
use Rattle.sr_watch.specs.Watching.{is_watch, AreGuarded, on_side, clause_on, key_of, is_of, is_stray, is_unlisted, listed, left_of, AreStocked, AreLinked}
use Rattle.sr_watch.specs.Walking.{IsNext, IsWalking, KeepsGuards, IsTurned, IsGrown, IsStep, HasSameShape, KeepsShort, IsWalked}
use Rattle.sr_watch.proofs.Walks.{kept_on, kept_off, walking_same, start_walk, end_walk, put_back}
use Rattle.sr_watch.proofs.Listing.{count_cons, listed_pushed, short_pushed, listed_begun, short_begun, listed_taken, takes_first, listed_ended, short_ended, tally_begun, tally_taken, tally_ended, tally_first}
use Rattle.sr_watch.proofs.Shorts.{no_news, news_on}
use Rattle.sr_watch.proofs.Visits.{clause_here, none_guarded, stocked_pushed, on_turned, within_cells, turned_start, grown_start}

-- how far a walk has come
pub record IsOnWalk (core : Bool) (m0 m : Memory) (f0 f : Family) (e0 e : Entries) (place : ℕ) (l : Literal) : Type 0 where
  pub step : IsStep core m0 m e0 e
  pub sound : IsSound (joined e m)
  pub keys : length f.lists ≡ length f0.lists
  pub room : f.room ≡ f0.room
  pub at_list : f.walked ≡ Some (key_of l)
  pub short : KeepsShort f0 f
  pub stocked : AreStocked core m f f.ahead
  pub walking : IsWalking (on_side core m) (clause_on core m) (listed f) (left_of f.ahead) e.lits (take place e0.lits) (take (place + 1) e0.lits) l
  pub keeps : KeepsGuards e0.lits (clause_on core m0) (clause_on core m)

pub includes_take : (n : ℕ) (s : List Literal) → Includes (take n s) s
includes_take zero s k h = absurd cc
includes_take (suc n) [] k h = absurd cc
includes_take (suc n) (x ∷ s) k h = by_test (same x k) (λ t. grind arith) (λ f. grind (arith, includes_take n s k))

pub includes_kept : (s t : List Literal) → take (length s) t ≡ s → Includes s t
includes_kept s t e = subst (λ x. Includes x t) e (includes_take (length s) t)

pub take_kept : (s t : List Literal) (n : ℕ) → n ≤ length s → take (length s) t ≡ s → take n t ≡ take n s
take_kept s t n le e = sym (take-take n (length s) t le) ∙ ap (take n) e

same_complement : (k l : Literal) → same (complement k) l ≡ same k (complement l)
same_complement k l = grind (arith, same_tells (complement k) l, same_tells k (complement l), complement_twice k, complement_twice l)

-- one more entry is one more false literal
pub next_is : (s : List Literal) (place : ℕ) (x w : Literal) → place < length s → x ≡ get_or s place x → w ≡ complement x → IsNext (take place s) (take (place + 1) s) w
next_is s place x w lt e c =
    let more : take (place + 1) s ≡ take place s ++ x ∷ [] = take_more s place x lt ∙ ap (λ y. take place s ++ y ∷ []) (sym e) in
    subst (λ v. IsNext (take place s) (take (place + 1) s) v) (sym c) (rw more (record {
      is_false = rw (complement_twice x) (grind (arith, has_append x (take place s) (x ∷ []), same_tells x x));
      keeps = λ k h. grind (arith, has_append k (take place s) (x ∷ []));
      only = λ k h n. grind (arith, has_append (complement k) (take place s) (x ∷ []), same_complement x k);
    }))

-- a watch is taken out
pub stocked_taken : (core : Bool) (m : Memory) (f g : Family) (w : Watch) → IsTaken f g w → AreStocked core m f f.ahead → AreStocked core m g (w ∷ g.ahead)
stocked_taken core m f g w t x = record {
  few = λ r. rw (tally_taken f g w (is_of r) t) (x.few r);
  clean = λ r h. tally_taken f g w (is_of r) t ∙ x.clean r h;
  blockers = tally_taken f g w (is_stray m) t ∙ x.blockers;
}

pub stocked_begun : (core : Bool) (m : Memory) (f g : Family) (key : ℕ) → key < length f.lists → IsBegun f g key → AreStocked core m f [] → AreStocked core m g g.ahead
stocked_begun core m f g key lt b x = record {
  few = λ r. rw (tally_begun f g key (is_of r) lt b) (x.few r);
  clean = λ r h. tally_begun f g key (is_of r) lt b ∙ x.clean r h;
  blockers = tally_begun f g key (is_stray m) lt b ∙ x.blockers;
}

pub stocked_ended : (core : Bool) (m : Memory) (f g : Family) (key : ℕ) → key < length f.lists → IsEnded f g key → AreStocked core m f f.ahead → AreStocked core m g []
stocked_ended core m f g key lt b x = record {
  few = λ r. rw (tally_ended f g key (is_of r) lt b) (x.few r);
  clean = λ r h. tally_ended f g key (is_of r) lt b ∙ x.clean r h;
  blockers = tally_ended f g key (is_stray m) lt b ∙ x.blockers;
}

-- what is known of a watch in hand
of_itself : (w : Watch) → is_of w.at w ≡ true
of_itself w = grind (arith, nat_tests)

pub held_in_hand : (core : Bool) (m : Memory) (f : Family) (w : Watch) (left : List Watch) → AreStocked core m f (w ∷ left) → IsHeld m w.at
held_in_hand core m f w left x = by_test (cell_at m w.at).held (λ t. t)
    (λ n. let u : is_unlisted core (cell_at m w.at) ≡ true = rw n refl in
    let one : cond {A = ℕ} (is_of w.at w) 1 0 ≡ 1 = rw (of_itself w) refl in
    absurd (omega (arith, x.clean w.at u, tally_first f w left (is_of w.at), one)))

pub true_to_clause : (core : Bool) (m : Memory) (f : Family) (w : Watch) (left : List Watch) → AreStocked core m f (w ∷ left) → is_stray m w ≡ false
true_to_clause core m f w left x = by_test (is_stray m w)
    (λ t. let one : cond {A = ℕ} (is_stray m w) 1 0 ≡ 1 = rw t refl in absurd (omega (arith, x.blockers, tally_first f w left (is_stray m), one)))
    (λ n. n)

pub on_walk_start : (core : Bool) (m : Memory) (f g : Family) (e : Entries) (place : ℕ) (x l : Literal) → IsSound (joined e m) → place < length e.lits → x ≡ get_or e.lits place x → l ≡ complement x → key_of l < length f.lists → IsBegun f g (key_of l)
    → AreStocked core m f [] → AreLinked core m f → AreGuarded (take place e.lits) e.lits (clause_on core m) → IsOnWalk core m m f g e e place l
on_walk_start core m f g e place x l sound lt is c lk b st li gu = record {
  step = record { turned = turned_start core m; grown = grown_start m e sound; reasons = no_news core m e };
  sound = sound;
  keys = b.keys;
  room = b.room;
  at_list = b.walked;
  short = short_begun f g l b;
  stocked = stocked_begun core m f g (key_of l) lk b st;
  walking = start_walk (on_side core m) (clause_on core m) (listed f) (listed g) (left_of g.ahead) e.lits (take place e.lits) (take (place + 1) e.lits) l (next_is e.lits place x l lt is c)
      (λ r k o. li r k o) (λ r o b t. none_guarded core m r o b t) gu (listed_begun f g l b) (λ r. b.ahead (is_of r));
  keeps = λ s u i y. y;
}

-- a watch in hand
pub record IsInHand (core : Bool) (m0 m : Memory) (f0 f : Family) (e0 e : Entries) (place : ℕ) (l : Literal) (w : Watch) : Type 0 where
  pub step : IsStep core m0 m e0 e
  pub sound : IsSound (joined e m)
  pub keys : length f.lists ≡ length f0.lists
  pub room : f.room ≡ f0.room
  pub at_list : f.walked ≡ Some (key_of l)
  pub short : KeepsShort f0 f
  pub stocked : AreStocked core m f (w ∷ f.ahead)
  pub walking : IsWalking (on_side core m) (clause_on core m) (listed f) (left_of (w ∷ f.ahead)) e.lits (take place e0.lits) (take (place + 1) e0.lits) l
  pub keeps : KeepsGuards e0.lits (clause_on core m0) (clause_on core m)

pub keeps_short_on : (f g h : Family) → KeepsShort f g → KeepsShort g h → KeepsShort f h
keeps_short_on f g h x y r key lt = y r key lt ∙ x r key lt

pub short_taken : (f g : Family) (w : Watch) → IsTaken f g w → KeepsShort f g
short_taken f g w t r key lt = t.lists key (is_of r)

pub in_hand : (core : Bool) (m0 m : Memory) (f0 f g : Family) (e0 e : Entries) (place : ℕ) (l : Literal) (w : Watch) → IsOnWalk core m0 m f0 f e0 e place l → IsTaken f g w → IsInHand core m0 m f0 g e0 e place l w
in_hand core m0 m f0 f g e0 e place l w x t = record {
  step = x.step;
  sound = x.sound;
  keys = t.keys ∙ x.keys;
  room = t.room ∙ x.room;
  at_list = t.walked ∙ x.at_list;
  short = keeps_short_on f0 f g x.short (short_taken f g w t);
  stocked = stocked_taken core m f g w t x.stocked;
  walking = walking_same (on_side core m) (clause_on core m) (listed f) (listed g) (left_of f.ahead) (left_of (w ∷ g.ahead)) e.lits (take place e0.lits) (take (place + 1) e0.lits) l (listed_taken f g w t) (λ r. sym (t.ahead (is_of r))) x.walking;
  keeps = x.keeps;
}

-- its clause has the literal that is walked for as a watch
pub watch_in_hand : (core : Bool) (m : Memory) (f : Family) (s b0 b1 : List Literal) (l : Literal) (w : Watch) (left : List Watch) → IsWalking (on_side core m) (clause_on core m) (listed f) (left_of (w ∷ left)) s b0 b1 l → on_side core m w.at ≡ true → is_watch (cell_at m w.at).lits l ≡ true
watch_in_hand core m f s b0 b1 l w left x o =
    let e = x.linked w.at l o in
    let ll : same l l ≡ true = grind (arith, same_tells l l) in
    let one : cond {A = ℕ} (is_of w.at w) 1 0 ≡ 1 = rw (of_itself w) refl in
    let some : 1 ≤ left_of (w ∷ left) w.at = omega (arith, one, count_cons (is_of w.at) w left) in
    subst (λ c. is_watch c l ≡ true) (clause_here core m w.at o) (by_test (is_watch (clause_on core m w.at) l) (λ t. t) (λ n. let z : listed f w.at l + left_of (w ∷ left) w.at ≡ 0 = rw (ll, n) at e in absurd (omega (arith, z, some))))

-- it is kept where its clause is true
pub on_walk_kept : (core : Bool) (m0 m : Memory) (f0 f g : Family) (e0 e : Entries) (place : ℕ) (l : Literal) (w : Watch) → IsInHand core m0 m f0 f e0 e place l w → key_of l < length f.lists → IsPushed f g (key_of l) w → has w.blocker e.lits ≡ true → IsOnWalk core m0 m f0 g e0 e place l
on_walk_kept core m0 m f0 f g e0 e place l w x lt p t = record {
  step = x.step;
  sound = x.sound;
  keys = p.keys ∙ x.keys;
  room = p.room ∙ x.room;
  at_list = p.walked ∙ x.at_list;
  short = keeps_short_on f0 f g x.short (short_pushed f g l w p);
  stocked = stocked_pushed core m f g (key_of l) w w f.ahead g.ahead lt p.ahead p refl (true_to_clause core m f w f.ahead x.stocked) x.stocked;
  walking = by_test (on_side core m w.at)
      (λ o. kept_on (on_side core m) (clause_on core m) (listed f) (listed g) (left_of (w ∷ f.ahead)) (left_of g.ahead) e.lits (take place e0.lits) (take (place + 1) e0.lits) l w.at (listed_pushed f g l w p) (takes_first w f.ahead g.ahead p.ahead)
      (record { literal = w.blocker; of_clause = rw (clause_here core m w.at o) (mine o); is_true = t }) x.walking)
      (λ o. kept_off (on_side core m) (clause_on core m) (listed f) (listed g) (left_of (w ∷ f.ahead)) (left_of g.ahead) e.lits (take place e0.lits) (take (place + 1) e0.lits) l w.at (listed_pushed f g l w p) (takes_first w f.ahead g.ahead p.ahead) o
      (λ b t. none_guarded core m w.at o b t) x.walking);
  keeps = x.keeps;
}
  where
    of_long : (c : List Literal) → is_watch c l ≡ true → (not (has w.blocker c) && not (is_empty c && (variable w.blocker == 1))) ≡ false → has w.blocker c ≡ true
    of_long [] h n = absurd cc
    of_long (x ∷ c) h n = by_test (has w.blocker (x ∷ c)) (λ t. t) (λ f. absurd (grind (arith, n, f)))

    mine : on_side core m w.at ≡ true → has w.blocker (cell_at m w.at).lits ≡ true
    mine o = of_long (cell_at m w.at).lits (watch_in_hand core m f e.lits (take place e0.lits) (take (place + 1) e0.lits) l w f.ahead x.walking o) (true_to_clause core m f w f.ahead x.stocked)

-- a blocker has room
pub blocker_within : (core : Bool) (m : Memory) (f : Family) (e : Entries) (w : Watch) (left : List Watch) → IsSound (joined e m) → 0 < e.vars → AreStocked core m f (w ∷ left) → variable w.blocker ≤ e.vars
blocker_within core m f e w left x some st = go (cell_at m w.at).lits (within_cells m e x w.at) (true_to_clause core m f w left st)
  where
    go : (c : List Literal) → AreWithin e.vars c → (not (has w.blocker c) && not (is_empty c && (variable w.blocker == 1))) ≡ false → variable w.blocker ≤ e.vars
    go c i n = by_test (has w.blocker c) (λ t. i w.blocker t)
        (λ f. let one : (variable w.blocker == 1) ≡ true = by_test (variable w.blocker == 1) (λ t. t) (λ z. absurd (grind (arith, n, f, z))) in let is : variable w.blocker ≡ 1 = grind (arith, nat_tests) in omega arith)

-- steps one after the other
pub turned_on : (core : Bool) (a b c : Memory) → IsTurned core a b → IsTurned core b c → IsTurned core a c
turned_on core a b c x y = record {
  each = λ r. let p = x.each r in let q = y.each r in record { held = q.held ∙ p.held; number = q.number ∙ p.number; marked = q.marked ∙ p.marked; flagged = q.flagged ∙ p.flagged; size = q.size ∙ p.size; set = λ k. q.set k ∙ p.set k };
  others = λ r o. y.others r (on_turned core (cell_at a r) (cell_at b r) (x.each r) ∙ o) ∙ x.others r o;
  most = y.most ∙ x.most;
  used = y.used ∙ x.used;
  cells = y.cells ∙ x.cells;
}

cut_longer : {A : Type 0} (n : ℕ) (xs ys : List A) → take n xs ≡ ys → n ≡ length ys → n ≤ length xs
cut_longer n xs ys e h = omega (arith, ap length e, length-take n xs)

pub grown_longer : (e g : Entries) → IsGrown e g → length e.lits ≤ length g.lits
grown_longer e g x = cut_longer (length e.lits) g.lits e.lits x.lits refl

pub grown_on : (e g h : Entries) → IsGrown e g → IsGrown g h → IsGrown e h
grown_on e g h x y = record {
  vars = y.vars ∙ x.vars;
  lits = sym (take-take (length e.lits) (length g.lits) h.lits (cut_longer (length e.lits) g.lits e.lits x.lits refl)) ∙ ap (take (length e.lits)) y.lits ∙ x.lits;
  reasons = sym (take-take (length e.reasons) (length g.reasons) h.reasons (cut_longer (length e.reasons) g.reasons e.reasons x.reasons refl)) ∙ ap (take (length e.reasons)) y.reasons ∙ x.reasons;
  assumed = y.assumed ∙ x.assumed;
  no_pair = λ n. y.no_pair (x.no_pair n);
}

pub step_on : (core : Bool) (a b c : Memory) (e g h : Entries) → IsStep core a b e g → IsStep core b c g h → IsStep core a c e h
step_on core a b c e g h x y = record {
  turned = turned_on core a b c x.turned y.turned;
  grown = grown_on e g h x.grown y.grown;
  reasons = news_on core b c e g h (λ r. on_turned core (cell_at b r) (cell_at c r) (y.turned.each r)) y.grown x.reasons y.reasons;
}

pub keeps_on : (cs ds es : ℕ → List Literal) (s t : List Literal) → Includes s t → KeepsGuards s cs ds → KeepsGuards t ds es → KeepsGuards s cs es
keeps_on cs ds es s t inc x y b u h g = y b u (λ k m. inc k (h k m)) (x b u h g)

-- the walk goes on after a visit
pub on_walk_visited : (core : Bool) (m0 m n : Memory) (f0 f g : Family) (e0 e h : Entries) (place : ℕ) (l : Literal) (w : Watch) → IsInHand core m0 m f0 f e0 e place l w → place < length e0.lits → IsNext (take place e0.lits) (take (place + 1) e0.lits) l
    → IsStep core m n e h → IsSound (joined h n) → HasSameShape f g → KeepsShort f g → KeepsGuards e.lits (clause_on core m) (clause_on core n)
    → ((v : Watch) → v.at ≡ w.at → AreStocked core m f (v ∷ f.ahead) → AreStocked core n g g.ahead)
    → ((v : Watch) (before after : List Literal) → v.at ≡ w.at → IsNext before after l → Includes after e.lits
    → IsWalking (on_side core m) (clause_on core m) (listed f) (left_of (v ∷ f.ahead)) e.lits before after l → IsWalking (on_side core n) (clause_on core n) (listed g) (left_of g.ahead) h.lits before after l)
    → IsOnWalk core m0 n f0 g e0 h place l
on_walk_visited core m0 m n f0 f g e0 e h place l w x lt nx st sound sh short keeps stocked walks =
    let inc : Includes e0.lits e.lits = includes_kept e0.lits e.lits x.step.grown.lits in
    record {
      step = step_on core m0 m n e0 e h x.step st;
      sound = sound;
      keys = sh.keys ∙ x.keys;
      room = sh.room ∙ x.room;
      at_list = sh.walked ∙ x.at_list;
      short = keeps_short_on f0 f g x.short short;
      stocked = stocked w refl x.stocked;
      walking = walks w (take place e0.lits) (take (place + 1) e0.lits) refl nx (λ k m. inc k (includes_take (place + 1) e0.lits k m)) x.walking;
      keeps = keeps_on (clause_on core m0) (clause_on core m) (clause_on core n) e0.lits e.lits inc x.keeps keeps;
    }

-- the walk is over
pub on_walk_over : (core : Bool) (m0 m : Memory) (f0 f g : Family) (e0 e : Entries) (place : ℕ) (l : Literal) → IsOnWalk core m0 m f0 f e0 e place l → place < length e0.lits → f0.walked ≡ None → key_of l < length f.lists → f.ahead ≡ [] → IsEnded f g (key_of l)
    → IsWalked core m f0 g e.lits (place + 1)
on_walk_over core m0 m f0 f g e0 e place l x lt idle lk none b =
    let z : (r : ℕ) → left_of f.ahead r ≡ 0 = (λ r. ap (λ ws. left_of ws r) none) in
    let w = end_walk (on_side core m) (clause_on core m) (listed f) (listed g) (left_of f.ahead) e.lits (take place e0.lits) (take (place + 1) e0.lits) l z
    (λ r k. let c : cond (same l k) (left_of f.ahead r) 0 ≡ 0 = by_test (same l k) (λ t. rw t (z r)) (λ n. rw n refl) in omega (arith, listed_ended f g l b r k, c)) x.walking in
    record {
      shape = record { keys = b.keys ∙ x.keys; walked = b.walked ∙ sym idle; room = b.room ∙ x.room };
      ahead = b.ahead;
      short = keeps_short_on f0 f g x.short (short_ended f g l b);
      stocked = stocked_ended core m f g (key_of l) lk b x.stocked;
      linked = w.0;
      guarded = subst (λ s. AreGuarded s e.lits (clause_on core m)) (sym (take_kept e0.lits e.lits (place + 1) (omega (arith, lt)) x.step.grown.lits)) w.1;
    }

-- the walk stops at a clause that is false
pub on_walk_stopped : (core : Bool) (m0 m : Memory) (f0 f g h : Family) (e0 e : Entries) (place : ℕ) (l : Literal) (w : Watch) → IsInHand core m0 m f0 f e0 e place l w → place < length e0.lits → f0.walked ≡ None → key_of l < length f.lists → IsPushed f g (key_of l) w
    → IsEnded g h (key_of l) → IsWalked core m f0 h e.lits place
on_walk_stopped core m0 m f0 f g h e0 e place l w x lt idle lk p b =
    let both : (r : ℕ) (k : Literal) → listed h r k ≡ listed f r k + cond (same l k) (left_of (w ∷ f.ahead) r) 0 = (λ r k.
    let a = listed_ended g h l b r k in let q = listed_pushed f g l w p r k in let s = p.ahead (is_of r) in let c = count_cons (is_of r) w f.ahead in
    by_test (same l k) (λ t. rw t (let a' : listed h r k ≡ listed g r k + left_of g.ahead r = rw t at a in let q' : listed g r k ≡ listed f r k + cond (w.at == r) 1 0 = rw t at q in omega (arith, a', q', s, c)))
    (λ n. rw n (let a' : listed h r k ≡ listed g r k + 0 = rw n at a in let q' : listed g r k ≡ listed f r k + 0 = rw n at q in omega (arith, a', q')))) in
    let w2 = put_back (on_side core m) (clause_on core m) (listed f) (listed h) (left_of (w ∷ f.ahead)) e.lits (take place e0.lits) (take (place + 1) e0.lits) l both x.walking in
    record {
      shape = record { keys = b.keys ∙ p.keys ∙ x.keys; walked = b.walked ∙ sym idle; room = b.room ∙ p.room ∙ x.room };
      ahead = b.ahead;
      short = keeps_short_on f0 g h (keeps_short_on f0 f g x.short (short_pushed f g l w p)) (short_ended g h l b);
      stocked = stocked_ended core m g h (key_of l) (omega (arith, lk, p.keys)) b (stocked_pushed core m f g (key_of l) w w f.ahead g.ahead lk p.ahead p refl (true_to_clause core m f w f.ahead x.stocked) x.stocked);
      linked = w2.0;
      guarded = subst (λ s. AreGuarded s e.lits (clause_on core m)) (sym (take_kept e0.lits e.lits place (omega (arith, lt)) x.step.grown.lits)) w2.1;
    }
