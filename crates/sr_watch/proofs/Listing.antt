-- What calls on the lists do to how often a clause is listed.
use Rattle.std.proofs.lemmas.Bool.Decides.{nat_tests}
use Rattle.std.proofs.Common.{◌≡◌, ◌≢◌, ◌<◌, ◌≤◌, ◌+◌, ℕ, suc, zero, Bool, false, cond, List, [], ◌∷◌, ◌++◌, refl, sym, ap, subst, arith, length, get_or}
use Rattle.std.specs.List.{sum_by, count_by}
use Rattle.std.proofs.lemmas.List.Sums.{sum_by-cons, sum_by-append}
use Rattle.sr_base.specs.Literal.{Literal, same, literal_code}
use Rattle.sr_base.proofs.Literals.{same_tells}
use Rattle.sr_model.proofs.Soundness.{by_test}
use Rattle.sr_lists.specs.declared.blocks.Watch.{Watch}
use Rattle.sr_lists.specs.Family.{Family, list_at, AreSame, IsPushed, IsBegun, IsTaken, IsEnded}
use Rattle.sr_watch.specs.Watching.{key_of, is_of, listed, left_of, tally}
use Rattle.sr_watch.specs.Walking.{KeepsShort}
use Rattle.sr_watch.proofs.Walks.{Pushes, Takes}

pub count_cons : (p : Watch → Bool) (w : Watch) (ws : List Watch) → count_by p (w ∷ ws) ≡ cond (p w) 1 0 + count_by p ws
count_cons p w ws = sum_by-cons (λ x. cond (p x) 1 0) w ws

pub count_append : (p : Watch → Bool) (xs ys : List Watch) → count_by p (xs ++ ys) ≡ count_by p xs + count_by p ys
count_append p xs ys = sum_by-append (λ x. cond (p x) 1 0) xs ys

keys_apart : (l k : Literal) → same l k ≡ false → key_of k ≢ key_of l
unfolding same
keys_apart l k f e = let is : literal_code l ≡ literal_code k = omega (arith, e) in absurd (grind (arith, nat_tests))

not_short : (l : Literal) (key : ℕ) → key < 2 → key ≢ key_of l
not_short l key lt e = omega arith

-- a push into the list of a literal
pub listed_pushed : (f g : Family) (l : Literal) (w : Watch) → IsPushed f g (key_of l) w → Pushes (listed f) (listed g) l w.at
listed_pushed f g l w p r k = by_test (same l k)
    (λ t. let is : l ≡ k = grind (arith, same_tells l k) in
    let e : count_by (is_of r) (list_at g (key_of k)) ≡ count_by (is_of r) (w ∷ list_at f (key_of k)) = subst (λ j. count_by (is_of r) (list_at g (key_of j)) ≡ count_by (is_of r) (w ∷ list_at f (key_of j))) is (p.here (is_of r)) in
    rw t (omega (arith, e, count_cons (is_of r) w (list_at f (key_of k)))))
    (λ t. rw t (omega (arith, p.others (key_of k) (keys_apart l k t) (is_of r))))

pub short_pushed : (f g : Family) (l : Literal) (w : Watch) → IsPushed f g (key_of l) w → KeepsShort f g
short_pushed f g l w p r key lt = p.others key (not_short l key lt) (is_of r)

-- a push into the list of no literal
pub listed_short : (f g : Family) (key : ℕ) (w : Watch) → key < 2 → IsPushed f g key w → (r : ℕ) (k : Literal) → listed g r k ≡ listed f r k
listed_short f g key w lt p r k = p.others (key_of k) (λ e. not_short k key lt (sym e)) (is_of r)

-- a walk begins
pub listed_begun : (f g : Family) (w : Literal) → IsBegun f g (key_of w) → (r : ℕ) (k : Literal) → listed g r k ≡ cond (same w k) 0 (listed f r k)
listed_begun f g w b r k = by_test (same w k)
    (λ t. let is : w ≡ k = grind (arith, same_tells w k) in
    let e : count_by (is_of r) (list_at g (key_of k)) ≡ 0 = subst (λ j. count_by (is_of r) (list_at g (key_of j)) ≡ 0) is (ap (count_by (is_of r)) b.here) in rw t e)
    (λ t. rw t (b.others (key_of k) (keys_apart w k t) (is_of r)))

pub listed_short_begun : (f g : Family) (key : ℕ) → key < 2 → IsBegun f g key → (r : ℕ) (k : Literal) → listed g r k ≡ listed f r k
listed_short_begun f g key lt b r k = b.others (key_of k) (λ e. not_short k key lt (sym e)) (is_of r)

pub short_begun : (f g : Family) (w : Literal) → IsBegun f g (key_of w) → KeepsShort f g
short_begun f g w b r key lt = b.others key (not_short w key lt) (is_of r)

-- a watch is taken
pub listed_taken : (f g : Family) (w : Watch) → IsTaken f g w → (r : ℕ) (k : Literal) → listed g r k ≡ listed f r k
listed_taken f g w t r k = t.lists (key_of k) (is_of r)

pub takes_first : (w : Watch) (ws rest : List Watch) → AreSame rest ws → Takes (left_of (w ∷ ws)) (left_of rest) w.at
takes_first w ws rest s r = omega (arith, count_cons (is_of r) w ws, s (is_of r))

-- a walk ends
pub listed_ended : (f g : Family) (w : Literal) → IsEnded f g (key_of w) → (r : ℕ) (k : Literal) → listed g r k ≡ listed f r k + cond (same w k) (left_of f.ahead r) 0
listed_ended f g w b r k = by_test (same w k)
    (λ t. let is : w ≡ k = grind (arith, same_tells w k) in
    let e : count_by (is_of r) (list_at g (key_of k)) ≡ count_by (is_of r) (f.ahead ++ list_at f (key_of k)) = subst (λ j. count_by (is_of r) (list_at g (key_of j)) ≡ count_by (is_of r) (f.ahead ++ list_at f (key_of j))) is (b.here (is_of r)) in
    rw t (omega (arith, e, count_append (is_of r) f.ahead (list_at f (key_of k)))))
    (λ t. rw t (omega (arith, b.others (key_of k) (keys_apart w k t) (is_of r))))

pub listed_short_ended : (f g : Family) (key : ℕ) → key < 2 → IsEnded f g key → (r : ℕ) (k : Literal) → listed g r k ≡ listed f r k
listed_short_ended f g key lt b r k = b.others (key_of k) (λ e. not_short k key lt (sym e)) (is_of r)

pub short_ended : (f g : Family) (w : Literal) → IsEnded f g (key_of w) → KeepsShort f g
short_ended f g w b r key lt = b.others key (not_short w key lt) (is_of r)

-- sums over all lists
sum_same : (p : Watch → Bool) (ls ms : List (List Watch)) → length ms ≡ length ls → ((k : ℕ) → count_by p (get_or ms k []) ≡ count_by p (get_or ls k [])) → sum_by (count_by p) ms ≡ sum_by (count_by p) ls
sum_same p [] [] n f = refl
sum_same p [] (m ∷ ms) n f = absurd (omega (arith, n))
sum_same p (l ∷ ls) [] n f = absurd (omega (arith, n))
sum_same p (l ∷ ls) (m ∷ ms) n f =
    omega (arith, sum_same p ls ms (omega (arith, n)) (λ k. f (suc k)), f 0, sum_by-cons (λ (x : List Watch). count_by p x) l ls, sum_by-cons (λ (x : List Watch). count_by p x) m ms)

-- the same watches in each list, of which there may be more
sum_each : (p : Watch → Bool) (ls ms : List (List Watch)) → ((k : ℕ) → count_by p (get_or ms k []) ≡ count_by p (get_or ls k [])) → sum_by (count_by p) ms ≡ sum_by (count_by p) ls
sum_each p [] [] f = refl
sum_each p [] (m ∷ ms) f = let z : count_by p [] ≡ 0 = refl in omega (arith, sum_each p [] ms (λ k. f (suc k)), f 0, z, sum_by-cons (λ (x : List Watch). count_by p x) m ms)
sum_each p (l ∷ ls) [] f = let z : count_by p [] ≡ 0 = refl in omega (arith, sum_each p ls [] (λ k. f (suc k)), f 0, z, sum_by-cons (λ (x : List Watch). count_by p x) l ls)
sum_each p (l ∷ ls) (m ∷ ms) f = omega (arith, sum_each p ls ms (λ k. f (suc k)), f 0, sum_by-cons (λ (x : List Watch). count_by p x) l ls, sum_by-cons (λ (x : List Watch). count_by p x) m ms)

pub tally_each : (f g : Family) (p : Watch → Bool) → ((k : ℕ) → AreSame (list_at g k) (list_at f k)) → tally g [] p ≡ tally f [] p
tally_each f g p s = let z : count_by p [] ≡ 0 = refl in omega (arith, sum_each p f.lists g.lists (λ k. s k p), z)

sum_changed : (p : Watch → Bool) (ls ms : List (List Watch)) (key a b : ℕ) → length ms ≡ length ls → key < length ls → ((k : ℕ) → k ≢ key → count_by p (get_or ms k []) ≡ count_by p (get_or ls k []))
    → count_by p (get_or ms key []) + a ≡ count_by p (get_or ls key []) + b → sum_by (count_by p) ms + a ≡ sum_by (count_by p) ls + b
sum_changed p [] ms key a b n lt f e = absurd (omega arith)
sum_changed p (l ∷ ls) [] key a b n lt f e = absurd (omega (arith, n))
sum_changed p (l ∷ ls) (m ∷ ms) zero a b n lt f e =
    omega (arith, sum_same p ls ms (omega (arith, n)) (λ k. f (suc k) (λ z. absurd (omega arith))), e, sum_by-cons (λ (x : List Watch). count_by p x) l ls, sum_by-cons (λ (x : List Watch). count_by p x) m ms)
sum_changed p (l ∷ ls) (m ∷ ms) (suc key) a b n lt f e =
    omega (arith, sum_changed p ls ms key a b (omega (arith, n)) (omega arith) (λ k ne. f (suc k) (λ z. ne (omega (arith, z)))) e, f 0 (λ z. absurd (omega arith)), sum_by-cons (λ (x : List Watch). count_by p x) l ls, sum_by-cons (λ (x : List Watch). count_by p x) m ms)

pub tally_pushed : (f g : Family) (key : ℕ) (w : Watch) (left rest : List Watch) (p : Watch → Bool) → key < length f.lists → AreSame rest left → IsPushed f g key w → tally g rest p ≡ tally f left p + cond (p w) 1 0
tally_pushed f g key w left rest p lt s x =
    omega (arith, sum_changed p f.lists g.lists key 0 (cond (p w) 1 0) x.keys lt (λ k ne. x.others k ne p) (omega (arith, x.here p, count_cons p w (list_at f key))), s p)

pub tally_begun : (f g : Family) (key : ℕ) (p : Watch → Bool) → key < length f.lists → IsBegun f g key → tally g g.ahead p ≡ tally f [] p
tally_begun f g key p lt x =
    let none : count_by p (list_at g key) ≡ 0 = ap (count_by p) x.here in
    let empty : count_by p [] ≡ 0 = refl in
    omega (arith, sum_changed p f.lists g.lists key (count_by p (list_at f key)) 0 x.keys lt (λ k ne. x.others k ne p) (omega (arith, none)), x.ahead p, empty)

pub tally_taken : (f g : Family) (w : Watch) (p : Watch → Bool) → IsTaken f g w → tally g (w ∷ g.ahead) p ≡ tally f f.ahead p
tally_taken f g w p x = omega (arith, sum_same p f.lists g.lists x.keys (λ k. x.lists k p), x.ahead p)

pub tally_ended : (f g : Family) (key : ℕ) (p : Watch → Bool) → key < length f.lists → IsEnded f g key → tally g [] p ≡ tally f f.ahead p
tally_ended f g key p lt x =
    let empty : count_by p [] ≡ 0 = refl in
    omega (arith, sum_changed p f.lists g.lists key 0 (count_by p f.ahead) x.keys lt (λ k ne. x.others k ne p) (omega (arith, x.here p, count_append p f.ahead (list_at f key))), empty)

pub tally_first : (f : Family) (w : Watch) (left : List Watch) (p : Watch → Bool) → tally f (w ∷ left) p ≡ tally f left p + cond (p w) 1 0
tally_first f w left p = omega (arith, count_cons p w left)

-- tests that agree
ones : (a b : Bool) → a ≡ b → cond {A = ℕ} a 1 0 ≡ cond b 1 0
ones a b e = ap (λ x. cond x 1 0) e

count_agrees : (p q : Watch → Bool) (ws : List Watch) → ((w : Watch) → p w ≡ q w) → count_by p ws ≡ count_by q ws
count_agrees p q [] e = refl
count_agrees p q (w ∷ ws) e = omega (arith, count_agrees p q ws e, count_cons p w ws, count_cons q w ws, ones (p w) (q w) (e w))

sum_agrees : (p q : Watch → Bool) (ls : List (List Watch)) → ((w : Watch) → p w ≡ q w) → sum_by (count_by p) ls ≡ sum_by (count_by q) ls
sum_agrees p q [] e = refl
sum_agrees p q (l ∷ ls) e = omega (arith, sum_agrees p q ls e, count_agrees p q l e, sum_by-cons (λ (x : List Watch). count_by p x) l ls, sum_by-cons (λ (x : List Watch). count_by q x) l ls)

pub tally_agrees : (f : Family) (left : List Watch) (p q : Watch → Bool) → ((w : Watch) → p w ≡ q w) → tally f left p ≡ tally f left q
tally_agrees f left p q e = omega (arith, sum_agrees p q f.lists e, count_agrees p q left e)

-- a list has no more than all
sum_has : (p : Watch → Bool) (ls : List (List Watch)) (k : ℕ) → count_by p (get_or ls k []) ≤ sum_by (count_by p) ls
sum_has p [] k = let z : count_by p [] ≡ 0 = refl in omega (arith, z)
sum_has p (l ∷ ls) zero = omega (arith, sum_by-cons (λ (x : List Watch). count_by p x) l ls)
sum_has p (l ∷ ls) (suc k) = omega (arith, sum_has p ls k, sum_by-cons (λ (x : List Watch). count_by p x) l ls)

pub tally_has : (f : Family) (left : List Watch) (p : Watch → Bool) (k : ℕ) → count_by p (list_at f k) ≤ tally f left p
tally_has f left p k = omega (arith, sum_has p f.lists k)

-- a test that passes only where one of two others does
count_both : (p q s : Watch → Bool) (ws : List Watch) → ((w : Watch) → cond {A = ℕ} (p w) 1 0 ≤ cond (q w) 1 0 + cond (s w) 1 0) → count_by p ws ≤ count_by q ws + count_by s ws
count_both p q s [] f = let a : count_by p [] ≡ 0 = refl in omega (arith, a)
count_both p q s (w ∷ ws) f = omega (arith, count_both p q s ws f, f w, count_cons p w ws, count_cons q w ws, count_cons s w ws)

sum_both : (p q s : Watch → Bool) (ls : List (List Watch)) → ((w : Watch) → cond {A = ℕ} (p w) 1 0 ≤ cond (q w) 1 0 + cond (s w) 1 0) → sum_by (count_by p) ls ≤ sum_by (count_by q) ls + sum_by (count_by s) ls
sum_both p q s [] f = let a : sum_by (count_by p) [] ≡ 0 = refl in omega (arith, a)
sum_both p q s (l ∷ ls) f = omega (arith, sum_both p q s ls f, count_both p q s l f, sum_by-cons (λ (x : List Watch). count_by p x) l ls, sum_by-cons (λ (x : List Watch). count_by q x) l ls, sum_by-cons (λ (x : List Watch). count_by s x) l ls)

pub tally_both : (f : Family) (left : List Watch) (p q s : Watch → Bool) → ((w : Watch) → cond {A = ℕ} (p w) 1 0 ≤ cond (q w) 1 0 + cond (s w) 1 0) → tally f left p ≤ tally f left q + tally f left s
tally_both f left p q s h = omega (arith, sum_both p q s f.lists h, count_both p q s left h)
