-- Which literals of a clause are watched.
use Rattle.std.proofs.lemmas.Bool.Decides.{nat_tests}
use Rattle.std.proofs.lemmas.List.{length-set}
use Rattle.std.proofs.lemmas.List.Edits.{length-swap, swap_is}
use Rattle.std.proofs.Common.{◌≡◌, ◌≢◌, ◌<◌, ◌≤◌, ◌+◌, ℕ, suc, zero, true, false, cond, ◌==◌, List, [], ◌∷◌, refl, sym, ◌∙◌, ap, subst, arith, length, get_or, set, get_or-set_same, get_or-set_other, take}
use Rattle.std.specs.List.{swap}
use Rattle.sr_base.specs.Literal.{Literal, plus, complement, same, has, NoRepeats, SameSet}
use Rattle.sr_base.proofs.Literals.{same_tells}
use Rattle.sr_arena.specs.Cells.{Memory, cell_at, put, held_cells, IsHeld}
use Rattle.sr_arena.proofs.Standing.{put_here}
use Rattle.sr_model.proofs.Soundness.{by_test}
use Rattle.sr_watch.specs.Watching.{is_watch, IsGuarded, IsStuck}
use Rattle.sr_watch.specs.Attaching.{fall_of, IsArranged, FallsLast, IsChosen, IsWatchFalse, AreOpenWatches}
use Rattle.sr_watch.proofs.Entries.{by_eq}
use Rattle.sr_watch.proofs.TwoWatches.{HasPlace, place_of, has_get}
use Rattle.sr_watch.proofs.Places.{fall_within, fall_false}
use Rattle.sr_watch.proofs.Falls.{includes_less}
use Rattle.sr_watch.proofs.Visits.{turned_same, swap_other}

-- what isn't among some first entries isn't among fewer
pub absent_less : (n m : ℕ) (s : List Literal) (k : Literal) → n ≤ m → has k (take m s) ≡ false → has k (take n s) ≡ false
absent_less n m s k le h = by_test (has k (take n s)) (λ t. let u : has k (take m s) ≡ true = includes_less n m s le k t in absurd cc) (λ f. f)

pub open_watches : (c s : List Literal) (x y : Literal) (n : ℕ) → 2 ≤ length c → x ≡ get_or c 0 x → y ≡ get_or c 1 y → has (complement x) (take n s) ≡ false → has (complement y) (take n s) ≡ false → AreOpenWatches c (take n s)
open_watches [] s x y n long ex ey hx hy k h = absurd cc
open_watches (a ∷ []) s x y n long ex ey hx hy k h = absurd cc
open_watches (a ∷ b ∷ c) s x y n long ex ey hx hy k h = by_test (same a k)
    (λ t. let is : a ≡ k = grind (arith, same_tells a k) in subst (λ j. has (complement j) (take n s) ≡ false) (ex ∙ is) hx)
    (λ f. let is : b ≡ k = grind (arith, same_tells b k, h, f) in subst (λ j. has (complement j) (take n s) ≡ false) (ey ∙ is) hy)

pub no_watches : (c falsifiers : List Literal) → length c < 2 → AreOpenWatches c falsifiers
no_watches [] b lt k h = absurd cc
no_watches (x ∷ []) b lt k h = absurd cc
no_watches (x ∷ y ∷ c) b lt k h = absurd (omega arith)

-- exchanging two literals
pub arranged_on : (at : ℕ) (a b c : Memory) → IsArranged at a b → IsArranged at b c → IsArranged at a c
arranged_on at a b c x y = record {
  each = λ r. let p = x.each r in let q = y.each r in record { held = q.held ∙ p.held; number = q.number ∙ p.number; marked = q.marked ∙ p.marked; flagged = q.flagged ∙ p.flagged; size = q.size ∙ p.size; set = λ k. q.set k ∙ p.set k };
  others = λ r ne. y.others r ne ∙ x.others r ne;
  most = y.most ∙ x.most;
  used = y.used ∙ x.used;
  cells = y.cells ∙ x.cells;
}

-- a list without repeats has different literals at different places
place_once : (xs : List Literal) (i j : ℕ) → NoRepeats xs → i < length xs → j < length xs → get_or xs i (plus 0) ≡ get_or xs j (plus 0) → i ≡ j
place_once [] i j n li lj e = absurd (omega arith)
place_once (x ∷ xs) zero zero n li lj e = refl
place_once (x ∷ xs) zero (suc j) n li lj e = let h : has x xs ≡ true = subst (λ k. has k xs ≡ true) (sym e) (has_get xs j (omega arith)) in let f : has x xs ≡ false = n.0 in absurd cc
place_once (x ∷ xs) (suc i) zero n li lj e = let h : has x xs ≡ true = subst (λ k. has k xs ≡ true) e (has_get xs i (omega arith)) in let f : has x xs ≡ false = n.0 in absurd cc
place_once (x ∷ xs) (suc i) (suc j) n li lj e = ap suc (place_once xs i j n.1 (omega arith) (omega arith) e)

once_by_place : (xs : List Literal) → ((i j : ℕ) → i < length xs → j < length xs → get_or xs i (plus 0) ≡ get_or xs j (plus 0) → i ≡ j) → NoRepeats xs
once_by_place [] f = tt
once_by_place (x ∷ xs) f = (
  by_test (has x xs) (λ t. let p = place_of xs x t in absurd (let e : 0 ≡ suc p.place = f 0 (suc p.place) (omega arith) (omega (arith, p.within)) (sym p.is_there) in omega (arith, e))) (λ g. g),
  once_by_place xs (λ i j li lj e. let q : suc i ≡ suc j = f (suc i) (suc j) (omega arith) (omega arith) e in omega (arith, q)),
)

-- where the literals stand after an exchange
turn : ℕ → ℕ → ℕ → ℕ
turn i j n = cond (n == j) i (cond (n == i) j n)

swap_at : (xs : List Literal) (i j n : ℕ) → i < length xs → j < length xs → get_or (swap xs i j) n (plus 0) ≡ get_or xs (turn i j n) (plus 0)
unfolding turn
swap_at xs i j n li lj =
    let is : set (set xs i (get_or xs j (plus 0))) j (get_or xs i (plus 0)) ≡ swap xs i j = swap_is xs i j (plus 0) li lj in
    sym (ap (λ ys. get_or ys n (plus 0)) is) ∙ by_eq n j
    (λ e. let t : (n == j) ≡ true = grind (arith, nat_tests) in rw t (ap (λ m. get_or (set (set xs i (get_or xs j (plus 0))) j (get_or xs i (plus 0))) m (plus 0)) e ∙ get_or-set_same (set xs i (get_or xs j (plus 0))) j (get_or xs i (plus 0)) (plus 0) (omega (arith, length-set xs i (get_or xs j (plus 0))))))
    (λ ne. let f : (n == j) ≡ false = grind (arith, nat_tests) in rw f (get_or-set_other (set xs i (get_or xs j (plus 0))) j n (get_or xs i (plus 0)) (plus 0) ne ∙ by_eq n i
    (λ e. let t : (n == i) ≡ true = grind (arith, nat_tests) in rw t (ap (λ m. get_or (set xs i (get_or xs j (plus 0))) m (plus 0)) e ∙ get_or-set_same xs i (get_or xs j (plus 0)) (plus 0) li))
    (λ ni. let u : (n == i) ≡ false = grind (arith, nat_tests) in rw u (get_or-set_other xs i n (get_or xs j (plus 0)) (plus 0) ni))))

turn_within : (i j n len : ℕ) → i < len → j < len → n < len → turn i j n < len
unfolding turn
turn_within i j n len li lj ln = by_test (n == j) (λ t. rw t li) (λ f. rw f (by_test (n == i) (λ t. rw t lj) (λ g. rw g ln)))

turn_twice : (i j n : ℕ) → turn i j (turn i j n) ≡ n
unfolding turn
turn_twice i j n = by_test (n == j)
    (λ t. let e : n ≡ j = grind (arith, nat_tests) in rw t (by_test (i == j) (λ u. let q : i ≡ j = grind (arith, nat_tests) in rw u (omega (arith, e, q))) (λ u. let s : (i == i) ≡ true = grind (arith, nat_tests) in rw (u, s) (sym e))))
    (λ f. rw f (by_test (n == i)
    (λ t. let e : n ≡ i = grind (arith, nat_tests) in let s : (j == j) ≡ true = grind (arith, nat_tests) in rw (t, s) (sym e))
    (λ g. rw (g, f, g) refl)))

pub swap_once : (xs : List Literal) (i j : ℕ) → i < length xs → j < length xs → NoRepeats xs → NoRepeats (swap xs i j)
swap_once xs i j li lj n = once_by_place (swap xs i j) (λ a b la lb e.
    let la' : a < length xs = omega (arith, la, length-swap xs i j) in
    let lb' : b < length xs = omega (arith, lb, length-swap xs i j) in
    let q : turn i j a ≡ turn i j b = place_once xs (turn i j a) (turn i j b) n (turn_within i j a (length xs) li lj la') (turn_within i j b (length xs) li lj lb') (sym (swap_at xs i j a li lj) ∙ e ∙ swap_at xs i j b li lj) in
    sym (turn_twice i j a) ∙ ap (turn i j) q ∙ turn_twice i j b)

swap_into : (xs : List Literal) (i j : ℕ) (k : Literal) → i < length xs → j < length xs → has k xs ≡ true → has k (swap xs i j) ≡ true
swap_into xs i j k li lj h =
    let p = place_of xs k h in
    let w : turn i j p.place < length (swap xs i j) = omega (arith, length-swap xs i j, turn_within i j p.place (length xs) li lj p.within) in
    subst (λ l. has l (swap xs i j) ≡ true) (swap_at xs i j (turn i j p.place) li lj ∙ ap (λ m. get_or xs m (plus 0)) (turn_twice i j p.place) ∙ p.is_there) (has_get (swap xs i j) (turn i j p.place) w)

swap_out : (xs : List Literal) (i j : ℕ) (k : Literal) → i < length xs → j < length xs → has k (swap xs i j) ≡ true → has k xs ≡ true
swap_out xs i j k li lj h =
    let p = place_of (swap xs i j) k h in
    let w : p.place < length xs = omega (arith, p.within, length-swap xs i j) in
    subst (λ l. has l xs ≡ true) (sym (swap_at xs i j p.place li lj) ∙ p.is_there) (has_get xs (turn i j p.place) (turn_within i j p.place (length xs) li lj w))

pub swap_set : (xs : List Literal) (i j : ℕ) → i < length xs → j < length xs → SameSet (swap xs i j) xs
swap_set xs i j li lj k = by_test (has k xs)
    (λ t. swap_into xs i j k li lj t ∙ sym t)
    (λ f. by_test (has k (swap xs i j)) (λ t. let u : has k xs ≡ true = swap_out xs i j k li lj t in absurd cc) (λ g. g ∙ sym f))

pub arranged_swap : (at i j : ℕ) (m n : Memory) → IsHeld m at → i < length (cell_at m at).lits → j < length (cell_at m at).lits → n ≡ put m at (record (cell_at m at) { lits = swap (cell_at m at).lits i j }) → held_cells n ≡ held_cells m → IsArranged at m n
arranged_swap at i j m n h li lj e cells = record {
  each = λ r. by_eq r at
      (λ y. rw (y, e, put_here m at (record (cell_at m at) { lits = swap (cell_at m at).lits i j }) h) (record { held = refl; number = refl; marked = refl; flagged = refl; size = length-swap (cell_at m at).lits i j; set = swap_set (cell_at m at).lits i j li lj }))
      (λ ne. rw (swap_other m n at i j r ne e) (turned_same (cell_at m r)));
  others = λ r ne. swap_other m n at i j r ne e;
  most = rw e refl;
  used = rw e refl;
  cells = cells;
}

-- the literals up to a place were seen to become false no later than the one at `place`
pub record IsRaising (trail old c : List Literal) (place i : ℕ) : Type 0 where
  pub size : length c ≡ length old
  pub last : (j : ℕ) → place ≤ j → j < i → fall_of trail (get_or c j (plus 0)) ≤ fall_of trail (get_or c place (plus 0))
  pub before : (j : ℕ) → j < place → get_or c j (plus 0) ≡ get_or old j (plus 0)

pub raising_skip : (trail old c : List Literal) (place i : ℕ) → fall_of trail (get_or c i (plus 0)) ≤ fall_of trail (get_or c place (plus 0)) → IsRaising trail old c place i → IsRaising trail old c place (i + 1)
raising_skip trail old c place i le x = record {
  size = x.size;
  last = λ j lo hi. by_eq j i (λ e. rw e le) (λ ne. x.last j lo (omega arith));
  before = x.before;
}

pub raising_swap : (trail old c : List Literal) (place i : ℕ) → place ≤ i → i < length c → fall_of trail (get_or c place (plus 0)) < fall_of trail (get_or c i (plus 0)) → IsRaising trail old c place i → IsRaising trail old (swap c place i) place (i + 1)
unfolding turn
raising_swap trail old c place i le li lt x =
    let lp : place < length c = omega arith in
    let here : get_or (swap c place i) place (plus 0) ≡ get_or c i (plus 0) = swap_at c place i place lp li ∙ by_test (place == i) (λ t. let e : place ≡ i = grind (arith, nat_tests) in rw t (ap (λ m. get_or c m (plus 0)) e)) (λ f. let s : (place == place) ≡ true = grind (arith, nat_tests) in rw (f, s) refl) in
    record {
      size = length-swap c place i ∙ x.size;
      last = λ j lo hi. rw here (by_eq j i
          (λ e. let q : get_or (swap c place i) j (plus 0) ≡ get_or c place (plus 0) = swap_at c place i j lp li ∙ (let t : (j == i) ≡ true = grind (arith, nat_tests) in rw t refl) in rw q (omega (arith, lt)))
          (λ ne. by_eq j place
          (λ e. rw (e, here) (omega arith))
          (λ np. let q : get_or (swap c place i) j (plus 0) ≡ get_or c j (plus 0) = swap_at c place i j lp li ∙ (let f : (j == i) ≡ false = grind (arith, nat_tests) in let g : (j == place) ≡ false = grind (arith, nat_tests) in rw (f, g) refl) in rw q (omega (arith, lt, x.last j lo (omega arith))))));
      before = λ j hi. let q : get_or (swap c place i) j (plus 0) ≡ get_or c j (plus 0) = swap_at c place i j lp li ∙ (let f : (j == i) ≡ false = grind (arith, nat_tests) in let g : (j == place) ≡ false = grind (arith, nat_tests) in rw (f, g) refl) in q ∙ x.before j hi;
    }

pub first_watch : (c : List Literal) (x : Literal) → 2 ≤ length c → x ≡ get_or c 0 x → is_watch c x ≡ true
first_watch [] x long e = absurd (omega arith)
first_watch (a ∷ []) x long e = absurd (omega arith)
first_watch (a ∷ b ∷ c) x long e = let t : same a x ≡ true = subst (λ z. same a z ≡ true) (sym e) (grind (arith, same_tells a a)) in rw t refl

pub second_watch : (c : List Literal) (x : Literal) → 2 ≤ length c → x ≡ get_or c 1 x → is_watch c x ≡ true
second_watch [] x long e = absurd (omega arith)
second_watch (a ∷ []) x long e = absurd (omega arith)
second_watch (a ∷ b ∷ c) x long e = let t : same b x ≡ true = subst (λ z. same b z ≡ true) (sym e) (grind (arith, same_tells b b)) in grind (arith, t)

-- where a watch of a clause is false and the watches become false last, all literals but the first are false
pub chosen_stuck : (s c : List Literal) → IsChosen s c → IsWatchFalse s c → IsStuck s c
chosen_stuck s [] ch w = let h : is_watch [] w.watch ≡ true = w.watched in absurd cc
chosen_stuck s (x ∷ []) ch w = let h : is_watch (x ∷ []) w.watch ≡ true = w.watched in absurd cc
chosen_stuck s (x ∷ y ∷ c) ch w = record { left = x; others = λ k h ne. others k ne (place_of (x ∷ y ∷ c) k h) }
  where
    low : fall_of s w.watch ≤ length s
    low = fall_false s w.watch w.is_false

    second : fall_of s y ≤ length s
    second = by_test (same x w.watch)
        (λ t. let is : x ≡ w.watch = grind (arith, same_tells x w.watch) in let lx : fall_of s x ≤ length s = subst (λ j. fall_of s j ≤ length s) (sym is) low in let o : fall_of s y ≤ fall_of s x = ch.first 1 (omega arith) (omega arith) in omega arith)
        (λ f. let h : is_watch (x ∷ y ∷ c) w.watch ≡ true = w.watched in let is : y ≡ w.watch = grind (arith, same_tells y w.watch) in subst (λ j. fall_of s j ≤ length s) (sym is) low)

    others : (k : Literal) → k ≢ x → HasPlace (x ∷ y ∷ c) k → has (complement k) s ≡ true
    others k ne p = by_test (p.place == 0)
        (λ z. let e : p.place ≡ 0 = grind (arith, nat_tests) in absurd (ne (sym p.is_there ∙ ap (λ j. get_or (x ∷ y ∷ c) j (plus 0)) e)))
        (λ z. let some : 1 ≤ p.place = grind (arith, nat_tests) in let le : fall_of s (get_or (x ∷ y ∷ c) p.place (plus 0)) ≤ fall_of s y = ch.second p.place some p.within in
        fall_within s k (subst (λ j. fall_of s j ≤ length s) p.is_there (omega (arith, le, second))))

-- a clause whose watches aren't false is guarded
pub open_guarded : (c b t : List Literal) → AreOpenWatches c b → IsGuarded b t c
open_guarded c b t o k w f = let z : has (complement k) b ≡ false = o k w in absurd cc

pub open_less : (n m : ℕ) (c s : List Literal) → n ≤ m → AreOpenWatches c (take m s) → AreOpenWatches c (take n s)
open_less n m c s le o k w = absent_less n m s (complement k) le (o k w)

pub short_open : (c b : List Literal) → length c < 2 → AreOpenWatches c b
short_open c b lt = no_watches c b lt

-- the first literal stays, and so it is still the one that becomes false last
pub first_stays : (s c d : List Literal) → SameSet d c → length d ≡ length c → get_or d 0 (plus 0) ≡ get_or c 0 (plus 0) → FallsLast s c 0 → FallsLast s d 0
first_stays s c d set size e f j lo hi =
    let m : has (get_or d j (plus 0)) c ≡ true = sym (set (get_or d j (plus 0))) ∙ has_get d j hi in
    let p = place_of c (get_or d j (plus 0)) m in
    let le : fall_of s (get_or c p.place (plus 0)) ≤ fall_of s (get_or c 0 (plus 0)) = f p.place (omega arith) p.within in
    rw e (subst (λ k. fall_of s k ≤ fall_of s (get_or c 0 (plus 0))) p.is_there le)
