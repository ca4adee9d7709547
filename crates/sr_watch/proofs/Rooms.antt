-- There is room for the watches of a clause that has none yet.
use Rattle.std.proofs.lemmas.Bool.Decides.{nat_tests}
use Rattle.std.specs.Prelude.{nat_lt}
use Rattle.std.proofs.Common.{◌≡◌, ◌<◌, ◌≤◌, ◌+◌, ◌*◌, ℕ, suc, zero, Bool, true, false, not, cond, ◌==◌, List, [], ◌∷◌, refl, ap, subst, arith, length, get_or}
use Rattle.std.specs.List.{sum_by, count_by}
use Rattle.std.proofs.lemmas.List.Sums.{sum_by-cons}
use Rattle.sr_arena.specs.Cells.{Cell, Memory, cell_at, gone, IsHeld, held_in}
use Rattle.sr_model.proofs.Soundness.{by_test}
use Rattle.sr_lists.specs.declared.blocks.Watch.{Watch}
use Rattle.sr_lists.specs.Family.{Family, entries}
use Rattle.sr_watch.specs.Watching.{is_of, tally, AreStocked}
use Rattle.sr_watch.specs.Resting.{HasRoom}
use Rattle.sr_watch.proofs.Listing.{count_cons, tally_has}

-- the watches of a clause and those after it
from : ℕ → Watch → Bool
from k w = not (nat_lt w.at k)

one_more : (k : ℕ) (w : Watch) → cond {A = ℕ} (from k w) 1 0 ≡ cond (is_of k w) 1 0 + cond (from (k + 1) w) 1 0
unfolding from
one_more k w = by_test (nat_lt w.at k)
    (λ t. let a : (w.at == k) ≡ false = grind (arith, nat_tests) in let b : nat_lt w.at (k + 1) ≡ true = grind (arith, nat_tests) in rw (t, a, b) refl)
    (λ f. by_test (w.at == k)
    (λ t. let b : nat_lt w.at (k + 1) ≡ true = grind (arith, nat_tests) in rw (f, t, b) refl)
    (λ g. let b : nat_lt w.at (k + 1) ≡ false = grind (arith, nat_tests) in rw (f, g, b) refl))

count_split : (k : ℕ) (ws : List Watch) → count_by (from k) ws ≡ count_by (is_of k) ws + count_by (from (k + 1)) ws
count_split k [] = refl
count_split k (w ∷ ws) = omega (arith, count_split k ws, one_more k w, count_cons (from k) w ws, count_cons (is_of k) w ws, count_cons (from (k + 1)) w ws)

sum_split : (k : ℕ) (ls : List (List Watch)) → sum_by (count_by (from k)) ls ≡ sum_by (count_by (is_of k)) ls + sum_by (count_by (from (k + 1))) ls
sum_split k [] = refl
sum_split k (l ∷ ls) = omega (arith, sum_split k ls, count_split k l, sum_by-cons (λ (x : List Watch). count_by (from k) x) l ls, sum_by-cons (λ (x : List Watch). count_by (is_of k) x) l ls, sum_by-cons (λ (x : List Watch). count_by (from (k + 1)) x) l ls)

tally_split : (f : Family) (k : ℕ) → tally f [] (from k) ≡ tally f [] (is_of k) + tally f [] (from (k + 1))
tally_split f k = let z : (p : Watch → Bool) → count_by p [] ≡ 0 = (λ p. refl) in omega (arith, sum_split k f.lists, z (from k), z (is_of k), z (from (k + 1)))

count_whole : (ws : List Watch) → count_by (from 0) ws ≡ length ws
unfolding from
count_whole [] = refl
count_whole (w ∷ ws) = let f : nat_lt w.at 0 ≡ false = grind (arith, nat_tests) in let one : cond {A = ℕ} (not (nat_lt w.at 0)) 1 0 ≡ 1 = rw f refl in omega (arith, count_whole ws, count_cons (λ (x : Watch). not (nat_lt x.at 0)) w ws, one)

sum_whole : (ls : List (List Watch)) → sum_by (count_by (from 0)) ls ≡ sum_by length ls
sum_whole [] = refl
sum_whole (l ∷ ls) = omega (arith, sum_whole ls, count_whole l, sum_by-cons (λ (x : List Watch). count_by (from 0) x) l ls, sum_by-cons (λ (x : List Watch). length x) l ls)

count_none : (n : ℕ) (ws : List Watch) → ((r : ℕ) → n ≤ r → count_by (is_of r) ws ≡ 0) → count_by (from n) ws ≡ 0
unfolding from
count_none n [] f = refl
count_none n (w ∷ ws) f = by_test (nat_lt w.at n)
    (λ t. let z : cond {A = ℕ} (not (nat_lt w.at n)) 1 0 ≡ 0 = rw t refl in omega (arith, count_none n ws (λ r le. omega (arith, f r le, count_cons (is_of r) w ws)), count_cons (λ (x : Watch). not (nat_lt x.at n)) w ws, z))
    (λ g. let le : n ≤ w.at = grind (arith, nat_tests) in let t : (w.at == w.at) ≡ true = grind (arith, nat_tests) in let one : cond {A = ℕ} (is_of w.at w) 1 0 ≡ 1 = rw t refl in absurd (omega (arith, f w.at le, count_cons (is_of w.at) w ws, one)))

sum_none : (n : ℕ) (ls : List (List Watch)) → ((r k : ℕ) → n ≤ r → count_by (is_of r) (get_or ls k []) ≡ 0) → sum_by (count_by (from n)) ls ≡ 0
sum_none n [] f = refl
sum_none n (l ∷ ls) f = omega (arith, sum_none n ls (λ r k le. f r (suc k) le), count_none n l (λ r le. f r 0 le), sum_by-cons (λ (x : List Watch). count_by (from n) x) l ls)

tally_none : (f : Family) (n : ℕ) → ((r : ℕ) → n ≤ r → tally f [] (is_of r) ≡ 0) → tally f [] (from n) ≡ 0
tally_none f n z = let e : count_by (from n) [] ≡ 0 = refl in omega (arith, sum_none n f.lists (λ r k le. omega (arith, tally_has f [] (is_of r) k, z r le)), e)

held_yes : (c : Cell) (cs : List Cell) → c.held ≡ true → length (held_in (c ∷ cs)) ≡ 1 + length (held_in cs)
held_yes c cs t = rw t (omega arith)

held_no : (c : Cell) (cs : List Cell) → c.held ≡ false → length (held_in (c ∷ cs)) ≡ length (held_in cs)
held_no c cs t = rw t refl

-- two watches at most for each held clause
few_from : (f : Family) (cs : List Cell) (k : ℕ) → ((j : ℕ) → tally f [] (is_of (k + j)) ≤ cond (get_or cs j gone).held 2 0) → tally f [] (from (k + length cs)) ≡ 0 → tally f [] (from k) ≤ 2 * length (held_in cs)
few_from f [] k h z = let e : k + 0 ≡ k = omega arith in let z' : tally f [] (from k) ≡ 0 = subst (λ n. tally f [] (from n) ≡ 0) e z in omega (arith, z')
few_from f (c ∷ cs) k h z =
    let here : tally f [] (is_of k) ≤ cond c.held 2 0 = let e : k + 0 ≡ k = omega arith in subst (λ n. tally f [] (is_of n) ≤ cond c.held 2 0) e (h 0) in
    let rest : tally f [] (from (k + 1)) ≤ 2 * length (held_in cs) = few_from f cs (k + 1)
    (λ j. let e : k + suc j ≡ k + 1 + j = omega arith in subst (λ n. tally f [] (is_of n) ≤ cond (get_or cs j gone).held 2 0) e (h (suc j)))
    (let e : k + length (c ∷ cs) ≡ k + 1 + length cs = omega arith in subst (λ n. tally f [] (from n) ≡ 0) e z) in
    by_test c.held
    (λ t. let h' : tally f [] (is_of k) ≤ 2 = rw t at here in omega (arith, h', rest, tally_split f k, held_yes c cs t))
    (λ t. let h' : tally f [] (is_of k) ≤ 0 = rw t at here in omega (arith, h', rest, tally_split f k, held_no c cs t))

-- and there is room for so many more as a held clause lacks of two
fewer_from : (f : Family) (cs : List Cell) (k a d : ℕ) → ((j : ℕ) → tally f [] (is_of (k + j)) ≤ cond (get_or cs j gone).held 2 0) → tally f [] (from (k + length cs)) ≡ 0 → (get_or cs a gone).held ≡ true → tally f [] (is_of (k + a)) + d ≤ 2 → tally f [] (from k) + d ≤ 2 * length (held_in cs)
fewer_from f [] k a d h z held few = absurd cc
fewer_from f (c ∷ cs) k zero d h z held few =
    let here : tally f [] (is_of k) + d ≤ 2 = let e : k + 0 ≡ k = omega arith in subst (λ n. tally f [] (is_of n) + d ≤ 2) e few in
    let rest : tally f [] (from (k + 1)) ≤ 2 * length (held_in cs) = few_from f cs (k + 1)
    (λ j. let e : k + suc j ≡ k + 1 + j = omega arith in subst (λ n. tally f [] (is_of n) ≤ cond (get_or cs j gone).held 2 0) e (h (suc j)))
    (let e : k + length (c ∷ cs) ≡ k + 1 + length cs = omega arith in subst (λ n. tally f [] (from n) ≡ 0) e z) in
    omega (arith, here, rest, tally_split f k, held_yes c cs held)
fewer_from f (c ∷ cs) k (suc a) d h z held few =
    let here : tally f [] (is_of k) ≤ cond c.held 2 0 = let e : k + 0 ≡ k = omega arith in subst (λ n. tally f [] (is_of n) ≤ cond c.held 2 0) e (h 0) in
    let rest : tally f [] (from (k + 1)) + d ≤ 2 * length (held_in cs) = fewer_from f cs (k + 1) a d
    (λ j. let e : k + suc j ≡ k + 1 + j = omega arith in subst (λ n. tally f [] (is_of n) ≤ cond (get_or cs j gone).held 2 0) e (h (suc j)))
    (let e : k + length (c ∷ cs) ≡ k + 1 + length cs = omega arith in subst (λ n. tally f [] (from n) ≡ 0) e z)
    held (let e : k + suc a ≡ k + 1 + a = omega arith in subst (λ n. tally f [] (is_of n) + d ≤ 2) e few) in
    by_test c.held
    (λ t. let h' : tally f [] (is_of k) ≤ 2 = rw t at here in omega (arith, h', rest, tally_split f k, held_yes c cs t))
    (λ t. let h' : tally f [] (is_of k) ≤ 0 = rw t at here in omega (arith, h', rest, tally_split f k, held_no c cs t))

past_end : (cs : List Cell) (r : ℕ) → length cs ≤ r → get_or cs r gone ≡ gone
past_end [] r le = refl
past_end (c ∷ cs) zero le = absurd (omega arith)
past_end (c ∷ cs) (suc r) le = past_end cs r (omega arith)

pub room_for : (core : Bool) (m : Memory) (f : Family) (count at d : ℕ) → AreStocked core m f [] → f.ahead ≡ [] → length (held_in m.cells) ≡ count → HasRoom count f → IsHeld m at → tally f [] (is_of at) + d ≤ 2 → entries f + d ≤ f.room
room_for core m f count at d st none counted room held few_at =
    let unheld : (r : ℕ) → (cell_at m r).held ≡ false → tally f [] (is_of r) ≡ 0 = (λ r h. st.clean r (rw h refl)) in
    let few : (j : ℕ) → tally f [] (is_of (0 + j)) ≤ cond (cell_at m j).held 2 0 = (λ j. let e : j ≡ 0 + j = omega arith in subst (λ n. tally f [] (is_of n) ≤ cond (cell_at m j).held 2 0) e (by_test (cell_at m j).held (λ t. rw t (st.few j)) (λ t. rw t (omega (arith, unheld j t))))) in
    let end : tally f [] (from (0 + length m.cells)) ≡ 0 = let e : length m.cells ≡ 0 + length m.cells = omega arith in subst (λ n. tally f [] (from n) ≡ 0) e (tally_none f (length m.cells) (λ r le. unheld r (ap (λ (c : Cell). c.held) (past_end m.cells r le)))) in
    let all : tally f [] (from 0) + d ≤ 2 * length (held_in m.cells) = fewer_from f m.cells 0 at d few end held (let e : at ≡ 0 + at = omega arith in subst (λ n. tally f [] (is_of n) + d ≤ 2) e few_at) in
    let z : count_by (from 0) [] ≡ 0 = refl in
    let a : length f.ahead ≡ 0 = ap length none in
    omega (arith, all, sum_whole f.lists, z, a, counted, room.room)

pub room_for_two : (core : Bool) (m : Memory) (f : Family) (count at : ℕ) → AreStocked core m f [] → f.ahead ≡ [] → length (held_in m.cells) ≡ count → HasRoom count f → IsHeld m at → tally f [] (is_of at) ≡ 0 → entries f + 2 ≤ f.room
room_for_two core m f count at st none counted room held free = room_for core m f count at 2 st none counted room held (omega (arith, free))

-- a clause is held
pub held_some : (cs : List Cell) (at : ℕ) → (get_or cs at gone).held ≡ true → 0 < length (held_in cs)
held_some [] at h = absurd cc
held_some (c ∷ cs) zero h = omega (arith, held_yes c cs h)
held_some (c ∷ cs) (suc at) h = by_test c.held (λ t. omega (arith, held_yes c cs t)) (λ f. omega (arith, held_no c cs f, held_some cs at h))
