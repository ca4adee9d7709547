-- A clause that is listed.
use Rattle.std.proofs.lemmas.Bool.Decides.{nat_tests}
use Rattle.std.proofs.Common.{◌≡◌, ◌<◌, ◌≤◌, ◌+◌, ℕ, true, false, cond, ◌==◌, ◌||◌, List, [], ◌∷◌, refl, sym, ◌∙◌, subst, arith, length, get_or}
use Rattle.sr_base.specs.Literal.{Literal, plus, minus, variable, same, has, literal_code, NoRepeats}
use Rattle.sr_base.proofs.Literals.{same_tells}
use Rattle.sr_arena.specs.Cells.{Memory, cell_at}
use Rattle.sr_model.proofs.Soundness.{by_test}
use Rattle.sr_lists.specs.declared.blocks.Watch.{Watch}
use Rattle.sr_lists.specs.Family.{Family, list_at, AreSame, IsPushed}
use Rattle.sr_watch.specs.declared.watches.TheConstants.{UNSEEN, SEEN}
use Rattle.sr_watch.specs.Watching.{is_watch, is_short, key_of, is_of, is_stray, listed, tally}
use Rattle.sr_watch.specs.Attaching.{IsEnlisted}
use Rattle.sr_watch.proofs.Listing.{count_cons, listed_pushed, listed_short, short_pushed, tally_pushed}

same_nothing : AreSame [] []
same_nothing p = refl

enlisted_two : (f g h : Family) (x y : Literal) (c : List Literal) (at : ℕ) → key_of x < length f.lists → key_of y < length f.lists → NoRepeats (x ∷ y ∷ c) → IsPushed f g (key_of x) (record { blocker = y; at = at }) → IsPushed g h (key_of y) (record { blocker = x; at = at }) → IsEnlisted f h (x ∷ y ∷ c) at
enlisted_two f g h x y c at lx ly n p q =
    let v : Watch = record { blocker = y; at = at } in
    let w : Watch = record { blocker = x; at = at } in
    let ly' : key_of y < length g.lists = omega (arith, ly, p.keys) in
    record {
      shape = record { keys = q.keys ∙ p.keys; walked = q.walked ∙ p.walked; room = q.room ∙ p.room };
      ahead = λ t. q.ahead t ∙ p.ahead t;
      literals = λ r k. literals r k (listed_pushed f g x v p r k) (listed_pushed g h y w q r k);
      unseen = λ r. let none : cond {A = ℕ} (at == r) 0 0 ≡ 0 = by_test (at == r) (λ t. rw t refl) (λ t. rw t refl) in omega (arith, short_pushed f g x v p r UNSEEN (omega arith), short_pushed g h y w q r UNSEEN (omega arith), none);
      seen = λ r. short_pushed g h y w q r SEEN (omega arith) ∙ short_pushed f g x v p r SEEN (omega arith);
      few = λ r. few r (tally_pushed f g (key_of x) v [] [] (is_of r) lx same_nothing p) (tally_pushed g h (key_of y) w [] [] (is_of r) ly' same_nothing q);
      blockers = λ m e.
          let a : is_stray m v ≡ false = rw e (let t : has y (x ∷ y ∷ c) ≡ true = grind (arith, same_tells y y) in rw t refl) in
          let b : is_stray m w ≡ false = rw e (let t : has x (x ∷ y ∷ c) ≡ true = grind (arith, same_tells x x) in rw t refl) in
          let za : cond {A = ℕ} (is_stray m v) 1 0 ≡ 0 = rw a refl in
          let zb : cond {A = ℕ} (is_stray m w) 1 0 ≡ 0 = rw b refl in
          omega (arith, tally_pushed f g (key_of x) v [] [] (is_stray m) lx same_nothing p, tally_pushed g h (key_of y) w [] [] (is_stray m) ly' same_nothing q, za, zb);
    }
  where
    apart : (k : Literal) → same x k ≡ true → same y k ≡ false
    apart k t = by_test (same y k) (λ u. absurd (let a : x ≡ k = grind (arith, same_tells x k) in let b : y ≡ k = grind (arith, same_tells y k) in let e : same x y ≡ true = subst (λ j. same x j ≡ true) (a ∙ sym b) (grind (arith, same_tells x x)) in grind (arith, n.0, same_tells x y, same_tells y x))) (λ f. f)

    literals : (r : ℕ) (k : Literal) → listed g r k ≡ listed f r k + cond (same x k) (cond (at == r) 1 0) 0 → listed h r k ≡ listed g r k + cond (same y k) (cond (at == r) 1 0) 0 → listed h r k ≡ listed f r k + cond (at == r) (cond (same x k || same y k) 1 0) 0
    literals r k a b = by_test (same x k)
        (λ t. let u : same y k ≡ false = apart k t in by_test (at == r) (λ z. grind (arith, a, b, t, u, z)) (λ z. grind (arith, a, b, t, u, z)))
        (λ t. by_test (same y k) (λ u. by_test (at == r) (λ z. grind (arith, a, b, t, u, z)) (λ z. grind (arith, a, b, t, u, z))) (λ u. by_test (at == r) (λ z. grind (arith, a, b, t, u, z)) (λ z. grind (arith, a, b, t, u, z))))

    few : (r : ℕ) → tally g [] (is_of r) ≡ tally f [] (is_of r) + cond (at == r) 1 0 → tally h [] (is_of r) ≡ tally g [] (is_of r) + cond (at == r) 1 0 → tally h [] (is_of r) ≤ tally f [] (is_of r) + cond (at == r) 2 0
    few r a b = by_test (at == r)
        (λ z. rw z (let a' : tally g [] (is_of r) ≡ tally f [] (is_of r) + 1 = rw z at a in let b' : tally h [] (is_of r) ≡ tally g [] (is_of r) + 1 = rw z at b in omega (arith, a', b')))
        (λ z. rw z (let a' : tally g [] (is_of r) ≡ tally f [] (is_of r) + 0 = rw z at a in let b' : tally h [] (is_of r) ≡ tally g [] (is_of r) + 0 = rw z at b in omega (arith, a', b')))

-- a clause of two literals or more
pub enlisted_long : (f g h : Family) (x y : Literal) (c : List Literal) (at : ℕ) → 2 ≤ length c → x ≡ get_or c 0 x → y ≡ get_or c 1 y → key_of x < length f.lists → key_of y < length f.lists → NoRepeats c → IsPushed f g (key_of x) (record { blocker = y; at = at }) → IsPushed g h (key_of y) (record { blocker = x; at = at })
    → IsEnlisted f h c at
enlisted_long f g h x y [] at long ex ey lx ly n p q = absurd (omega arith)
enlisted_long f g h x y (a ∷ []) at long ex ey lx ly n p q = absurd (omega arith)
enlisted_long f g h x y (a ∷ b ∷ c) at long ex ey lx ly n p q = subst (λ z. IsEnlisted f h (z ∷ b ∷ c) at) ex (subst (λ z. IsEnlisted f h (x ∷ z ∷ c) at) ey
    (enlisted_two f g h x y c at lx ly
    (subst (λ z. NoRepeats (z ∷ y ∷ c)) (sym ex) (subst (λ z. NoRepeats (a ∷ z ∷ c)) (sym ey) n)) p q))

-- a shorter one
pub enlisted_short : (f g : Family) (v : Watch) (c : List Literal) (at : ℕ) → v.at ≡ at → length c < 2 → UNSEEN < length f.lists → ((m : Memory) → (cell_at m at).lits ≡ c → is_stray m v ≡ false) → IsPushed f g UNSEEN v → IsEnlisted f g c at
enlisted_short f g v c at is short lt fine p = record {
  shape = record { keys = p.keys; walked = p.walked; room = p.room };
  ahead = p.ahead;
  literals = λ r k. let none : cond {A = ℕ} (at == r) (cond (is_watch c k) 1 0) 0 ≡ 0 = by_test (at == r) (λ t. rw t (no_watch c k short)) (λ t. rw t refl) in omega (arith, listed_short f g UNSEEN v (omega arith) p r k, none);
  unseen = λ r. let one : cond {A = ℕ} (v.at == r) 1 0 ≡ cond (at == r) (cond (is_short c) 1 0) 0 = rw (is, are_short c short) refl in omega (arith, p.here (is_of r), count_cons (is_of r) v (list_at f UNSEEN), one);
  seen = λ r. p.others SEEN (λ e. absurd (omega (arith, e))) (is_of r);
  few = λ r. let le : cond {A = ℕ} (v.at == r) 1 0 ≤ cond (at == r) 2 0 = rw is (by_test (at == r) (λ t. rw t (omega arith)) (λ t. rw t (omega arith))) in omega (arith, tally_pushed f g UNSEEN v [] [] (is_of r) lt same_nothing p, le);
  blockers = λ m e. let z : cond {A = ℕ} (is_stray m v) 1 0 ≡ 0 = rw (fine m e) refl in omega (arith, tally_pushed f g UNSEEN v [] [] (is_stray m) lt same_nothing p, z);
}
  where
    no_watch : (d : List Literal) (k : Literal) → length d < 2 → cond {A = ℕ} (is_watch d k) 1 0 ≡ 0
    no_watch [] k l = refl
    no_watch (x ∷ []) k l = refl
    no_watch (x ∷ y ∷ d) k l = absurd (omega arith)

    are_short : (d : List Literal) → length d < 2 → is_short d ≡ true
    are_short [] l = refl
    are_short (x ∷ []) l = refl
    are_short (x ∷ y ∷ d) l = absurd (omega arith)

pub one_fine : (c : List Literal) (x : Literal) (at : ℕ) → length c ≡ 1 → x ≡ get_or c 0 x → (m : Memory) → (cell_at m at).lits ≡ c → is_stray m (record { blocker = x; at = at }) ≡ false
one_fine [] x at n e m is = absurd (omega (arith, n))
one_fine (y ∷ c) x at n e m is = rw is (let t : has x (y ∷ c) ≡ true = subst (λ z. has z (y ∷ c) ≡ true) (sym e) (grind (arith, same_tells y y)) in rw t refl)

pub empty_fine : (c : List Literal) (x : Literal) (at : ℕ) → length c < 1 → variable x ≡ 1 → (m : Memory) → (cell_at m at).lits ≡ c → is_stray m (record { blocker = x; at = at }) ≡ false
empty_fine [] x at n e m is = rw is (let t : (variable x == 1) ≡ true = grind (arith, nat_tests) in rw t refl)
empty_fine (y ∷ c) x at n e m is = absurd (omega arith)

pub first_variable : (l : Literal) → literal_code l ≡ 2 → variable l ≡ 1
first_variable (plus v) e = omega (arith, e)
first_variable (minus v) e = absurd (omega (arith, e))
