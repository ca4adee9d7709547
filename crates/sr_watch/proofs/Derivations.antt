-- Reasons of entries: each clause is that of one entry at most.
use Rattle.std.proofs.Common.{◌≡◌, ◌≢◌, ◌<◌, ◌≤◌, ◌+◌, ◌-◌, ℕ, suc, zero, Bool, true, false, ◌==◌, List, [], ◌∷◌, ◌++◌, refl, sym, ◌∙◌, ap, subst, arith, length, get_or, set, take, take_all, get_or-set_same, get_or-set_other}
use Rattle.std.specs.Prelude.{nat_lt}
use Rattle.std.proofs.lemmas.List.{take-take, take_more, length-set}
use Rattle.std.proofs.lemmas.Bool.Decides.{nat_tests}
use Rattle.sr_base.specs.Literal.{Literal, plus, complement, same, has}
use Rattle.sr_base.proofs.Literals.{same_tells, has_append}
use Rattle.sr_arena.specs.Cells.{Cell, Memory, cell_at, IsHeld, IsAdded}
use Rattle.sr_model.proofs.Soundness.{by_test}
use Rattle.sr_watch.specs.State.{Slot, State, lits_at, lit_at, reason_at, IsSound, IsForcedBy, IsOpen}
use Rattle.sr_watch.specs.Trail.{Entries, place_in}
use Rattle.sr_watch.specs.Marks.{joined}
use Rattle.sr_watch.specs.Reasons.{IsReasonAt, AreSpares}
use Rattle.sr_watch.proofs.Entries.{by_eq}
use Rattle.sr_watch.proofs.Looking.{in_take}
use Rattle.sr_watch.proofs.Slots.{slot_is}
use Rattle.sr_watch.proofs.Tables.{in_list}

-- where a literal stands that didn't come before
place_new : (ls : List Literal) (i : ℕ) → i < length ls → has (get_or ls i (plus 0)) (take i ls) ≡ false → place_in ls (get_or ls i (plus 0)) ≡ i + 1
place_new [] i lt new = absurd (omega arith)
place_new (k ∷ ls) zero lt new = let t : same k k ≡ true = grind (arith, same_tells k k) in rw t refl
place_new (k ∷ ls) (suc i) lt new =
    let f : same k (get_or ls i (plus 0)) ≡ false = grind arith in
    let p : place_in ls (get_or ls i (plus 0)) ≡ i + 1 = place_new ls i (omega arith) (grind arith) in
    rw (f, p) (grind (arith, nat_tests))

has_early : (ls : List Literal) (i j : ℕ) → i < j → i < length ls → has (get_or ls i (plus 0)) (take j ls) ≡ true
has_early [] i j lt le = absurd (omega arith)
has_early (k ∷ ls) i zero lt le = absurd (omega arith)
has_early (k ∷ ls) zero (suc j) lt le = grind (arith, same_tells k k)
has_early (k ∷ ls) (suc i) (suc j) lt le = grind (arith, has_early ls i j (omega arith) (omega arith))

pub has_longer : (ls : List Literal) (i j : ℕ) (k : Literal) → i ≤ j → has k (take i ls) ≡ true → has k (take j ls) ≡ true
has_longer ls i j k le h = in_take (take j ls) i k (subst (λ x. has k x ≡ true) (sym (take-take i j ls le)) h)

-- a derived entry is the first one of its literal
pub derived_place : (s : State) (i : ℕ) → IsSound s → i < length s.lits → reason_at s i ≢ 0 → place_in s.lits (lit_at s i) ≡ i + 1
derived_place s i sound lt d = place_new s.lits i lt (sound.news i lt d).not_true

not_twice : (s : State) (at i j : ℕ) → IsSound s → 0 < at → i < j → j < length s.lits → reason_at s i ≡ at → reason_at s j ≡ at → ⊥
not_twice s at i j sound some lt le a b =
    let di : reason_at s i ≢ 0 = (λ z. absurd (omega arith)) in
    let dj : reason_at s j ≢ 0 = (λ z. absurd (omega arith)) in
    let fi : IsForcedBy (lits_at s at) (take i s.lits) (lit_at s i) = subst (λ r. IsForcedBy (lits_at s r) (take i s.lits) (lit_at s i)) a (sound.forced i (omega arith) di) in
    let fj : IsForcedBy (lits_at s at) (take j s.lits) (lit_at s j) = subst (λ r. IsForcedBy (lits_at s r) (take j s.lits) (lit_at s j)) b (sound.forced j le dj) in
    let new : IsOpen (lit_at s j) (take j s.lits) = sound.news j le dj in
    by_test (same (lit_at s i) (lit_at s j))
    (λ t. let is : lit_at s i ≡ lit_at s j = grind (arith, same_tells (lit_at s i) (lit_at s j)) in
    let h : has (lit_at s j) (take j s.lits) ≡ true = subst (λ k. has k (take j s.lits) ≡ true) is (has_early s.lits i j lt (omega arith)) in
    let n : has (lit_at s j) (take j s.lits) ≡ false = new.not_true in absurd cc)
    (λ f. let ne : lit_at s j ≢ lit_at s i = grind (arith, same_tells (lit_at s i) (lit_at s j)) in
    let h : has (complement (lit_at s j)) (take j s.lits) ≡ true = has_longer s.lits i j (complement (lit_at s j)) (omega arith) (fi.others (lit_at s j) fj.of_clause ne) in
    let n : has (complement (lit_at s j)) (take j s.lits) ≡ false = new.not_false in absurd cc)

-- no two entries have one reason
pub only_entry : (s : State) (at i j : ℕ) → IsSound s → 0 < at → i < length s.lits → j < length s.lits → reason_at s i ≡ at → reason_at s j ≡ at → i ≡ j
only_entry s at i j sound some li lj a b = by_eq i j (λ e. e)
    (λ ne. by_test (nat_lt i j)
    (λ t. absurd (not_twice s at i j sound some (grind (arith, nat_tests)) lj a b))
    (λ f. absurd (not_twice s at j i sound some (let le : j ≤ i = grind (arith, nat_tests) in omega arith) li b a)))

-- where a clause is the reason
pub reason_here : (e : Entries) (m : Memory) (at n : ℕ) → IsSound (joined e m) → 0 < at → n < length e.lits → get_or e.reasons n 0 ≡ at → IsReasonAt e at n
reason_here e m at n sound some lt is = record {
  within = omega arith;
  here = λ u. is;
  others = λ i li ne q. ne (only_entry (joined e m) at i n sound some li lt q is);
}

-- no entry has the reason and one of these literals
abbrev pub IsNotOf : Entries → ℕ → List Literal → Type 0
IsNotOf e at c = (i : ℕ) → i < length e.lits → get_or e.reasons i 0 ≡ at → has (get_or e.lits i (plus 0)) c ≡ false

pub reason_nowhere : (e : Entries) (m : Memory) (at : ℕ) → IsSound (joined e m) → 0 < at → IsNotOf e at (cell_at m at).lits → IsReasonAt e at (length e.lits)
reason_nowhere e m at sound some none = record {
  within = omega arith;
  here = λ u. absurd (omega arith);
  others = λ i lt ne q.
      let d : get_or e.reasons i 0 ≢ 0 = (λ z. absurd (omega arith)) in
      let h : has (lit_at (joined e m) i) (lits_at (joined e m) at) ≡ true = subst (λ r. has (lit_at (joined e m) i) (lits_at (joined e m) r) ≡ true) q (sound.forced i lt d).of_clause in
      let h2 : has (lit_at (joined e m) i) (cell_at m at).lits ≡ true = subst (λ (x : Slot). has (lit_at (joined e m) i) x.lits ≡ true) (slot_is m at) h in
      let n : has (lit_at (joined e m) i) (cell_at m at).lits ≡ false = none i lt q in absurd cc;
}

-- one literal more
pub not_of_more : (e : Entries) (m : Memory) (at n : ℕ) (c : List Literal) (l : Literal) → IsSound (joined e m) → 0 < at → n < length c → l ≡ get_or c n l
    → ((place_in e.lits l ≢ 0) → get_or e.reasons (place_in e.lits l - 1) 0 ≢ at) → IsNotOf e at (take n c) → IsNotOf e at (take (n + 1) c)
not_of_more e m at n c l sound some lt is other none i li q =
    let k : Literal = lit_at (joined e m) i in
    let more : take (n + 1) c ≡ take n c ++ l ∷ [] = take_more c n l lt ∙ ap (λ x. take n c ++ x ∷ []) (sym is) in
    let new : same l k ≡ false = by_test (same l k)
    (λ t. let e1 : l ≡ k = grind (arith, same_tells l k) in
    let p : place_in e.lits l ≡ i + 1 = subst (λ j. place_in e.lits j ≡ i + 1) (sym e1) (derived_place (joined e m) i sound li (λ z. absurd (omega arith))) in
    let back : place_in e.lits l - 1 ≡ i = omega (arith, p) in
    absurd (other (omega (arith, p)) (ap (λ j. get_or e.reasons j 0) back ∙ q)))
    (λ f. f) in
    let old : has k (take n c) ≡ false = none i li q in
    rw more (grind (arith, has_append k (take n c) (l ∷ [])))

-- a true literal stands at its place
pub place_lit : (ls : List Literal) (l : Literal) → 0 < place_in ls l → get_or ls (place_in ls l - 1) (plus 0) ≡ l
place_lit [] l some = absurd (omega arith)
place_lit (k ∷ ls) l some = by_test (same k l)
    (λ t. let is : k ≡ l = grind (arith, same_tells k l) in rw t is)
    (λ f. by_test (place_in ls l == 0)
    (λ z. let u : 0 < 0 = rw (f, z) at some in absurd (omega arith))
    (λ z. let p : 0 < place_in ls l = grind (arith, nat_tests) in rw (f, z) (later (place_in ls l) p (place_lit ls l p))))
  where
    later : (n : ℕ) → 0 < n → get_or ls (n - 1) (plus 0) ≡ l → get_or (k ∷ ls) (suc n - 1) (plus 0) ≡ l
    later zero p e = absurd (omega arith)
    later (suc n) p e = let q : suc (suc n) - 1 ≡ suc n = omega arith in let r : suc n - 1 ≡ n = omega arith in rw q (rw r at e)

-- of the clause's first literals all but one are false, and that one was found
pub record ForcesFirst (before c : List Literal) (l : Literal) (n : ℕ) (found : Bool) : Type 0 where
  pub there : found ≡ true → has l c ≡ true
  pub others : (k : Literal) → has k (take n c) ≡ true → k ≢ l → has (complement k) before ≡ true

pub forces_none : (before c : List Literal) (l : Literal) → ForcesFirst before c l 0 false
forces_none before c l = record { there = λ h. absurd cc; others = λ k h. absurd (none c k h) }
  where
    none : (c : List Literal) (k : Literal) → has k (take 0 c) ≡ true → ⊥
    none [] k h = cc
    none (x ∷ c) k h = cc

forces_step : (before c : List Literal) (l k : Literal) (n : ℕ) → n < length c → k ≡ get_or c n k → (k ≢ l → has (complement k) before ≡ true) → ((j : Literal) → has j (take n c) ≡ true → j ≢ l → has (complement j) before ≡ true)
    → (j : Literal) → has j (take (n + 1) c) ≡ true → j ≢ l → has (complement j) before ≡ true
forces_step before c l k n lt is new old j h ne =
    let more : take (n + 1) c ≡ take n c ++ k ∷ [] = take_more c n k lt ∙ ap (λ x. take n c ++ x ∷ []) (sym is) in
    let h2 : has j (take n c ++ k ∷ []) ≡ true = rw more at h in
    by_test (same k j)
    (λ t. let e : k ≡ j = grind (arith, same_tells k j) in subst (λ i. has (complement i) before ≡ true) e (new (λ q. ne (sym e ∙ q))))
    (λ f. old j (grind (arith, has_append j (take n c) (k ∷ []))) ne)

pub forces_same : (before c : List Literal) (l k : Literal) (n : ℕ) (found : Bool) → n < length c → k ≡ get_or c n k → same k l ≡ true → ForcesFirst before c l n found → ForcesFirst before c l (n + 1) true
forces_same before c l k n found lt is t x =
    let e : k ≡ l = grind (arith, same_tells k l) in
    record { there = λ h. subst (λ i. has i c ≡ true) e (in_list c n k lt is); others = forces_step before c l k n lt is (λ ne. absurd (ne e)) x.others }

pub forces_other : (before c : List Literal) (l k : Literal) (n : ℕ) (found : Bool) → n < length c → k ≡ get_or c n k → has (complement k) before ≡ true → ForcesFirst before c l n found → ForcesFirst before c l (n + 1) found
forces_other before c l k n found lt is h x = record { there = x.there; others = forces_step before c l k n lt is (λ ne. h) x.others }

pub forces_all : (before c : List Literal) (l : Literal) (n : ℕ) (found : Bool) → length c ≤ n → found ≡ true → ForcesFirst before c l n found → IsForcedBy c before l
forces_all before c l n found le f x = record { of_clause = x.there f; others = λ k h ne. x.others k (subst (λ y. has k y ≡ true) (sym (take_all n c le)) h) ne }

-- a clause of one literal forces it
pub single_forces : (before c : List Literal) (l : Literal) → c ≡ l ∷ [] → IsForcedBy c before l
single_forces before c l is = rw is (record {
  of_clause = grind (arith, same_tells l l);
  others = λ k h ne. by_test (same l k)
      (λ t. let e : l ≡ k = grind (arith, same_tells l k) in absurd (ne (sym e)))
      (λ f. absurd (grind arith));
})

-- remembered clauses
pub spares_set : (m : Memory) (vars : ℕ) (spares : List ℕ) (v r : ℕ) → v < length spares → IsHeld m r → AreSpares m vars spares → AreSpares m vars (set spares v r)
spares_set m vars spares v r lt held x = record {
  room = omega (arith, x.room, length-set spares v r);
  held = λ w. by_eq w v
      (λ q. rw (q, get_or-set_same spares v r 0 lt) (λ d. held))
      (λ ne. rw (get_or-set_other spares v w r 0 ne) (x.held w));
}

pub spares_none : (m : Memory) → AreSpares m 0 []
spares_none m = record { room = omega arith; held = λ v d. absurd (d refl) }

-- more clauses, and more variables
pub spares_added : (m n : Memory) (vars at : ℕ) (c : Cell) (spares : List ℕ) → IsAdded m n at c → AreSpares m vars spares → AreSpares n vars spares
spares_added m n vars at c spares a x = record {
  room = x.room;
  held = λ v d. let h : IsHeld m (get_or spares v 0) = x.held v d in by_eq (get_or spares v 0) at
      (λ q. let none : (cell_at m (get_or spares v 0)).held ≡ false = rw (q, a.none) refl in absurd (differ none h))
      (λ ne. subst (λ (y : Cell). y.held ≡ true) (sym (a.others (get_or spares v 0) ne)) h);
}
  where
    differ : {b : Bool} → b ≡ false → b ≡ true → ⊥
    differ f t = cc

pub spares_turned : (m n : Memory) (vars more : ℕ) (spares : List ℕ) → ((r : ℕ) → (cell_at n r).held ≡ (cell_at m r).held) → more ≡ vars → AreSpares m vars spares → AreSpares n more spares
spares_turned m n vars more spares held same x = record { room = omega (arith, x.room, same); held = λ v d. held (get_or spares v 0) ∙ x.held v d }

pub spares_wider : (m : Memory) (vars more : ℕ) (spares wide : List ℕ) → more ≤ length wide → ((v : ℕ) → get_or wide v 0 ≡ get_or spares v 0) → AreSpares m vars spares → AreSpares m more wide
spares_wider m vars more spares wide room same x = record { room = room; held = λ v. rw (same v) (x.held v) }
