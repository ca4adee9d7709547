-- The walk along a list, step by step.
use Rattle.std.proofs.lemmas.Bool.Decides.{nat_tests}
use Rattle.std.proofs.Common.{◌≡◌, ◌≢◌, ◌+◌, ℕ, Bool, true, false, cond, ◌==◌, List, sym, ◌∙◌, subst, arith}
use Rattle.sr_base.specs.Literal.{Literal, complement, same, has, SameSet}
use Rattle.sr_base.proofs.Literals.{same_tells}
use Rattle.sr_model.proofs.Soundness.{by_test}
use Rattle.sr_model.specs.Refutation.{Includes}
use Rattle.sr_watch.specs.Watching.{is_watch, other_watch, SomeTrue, IsGuarded, AreGuarded}
use Rattle.sr_watch.specs.Walking.{IsNext, IsWalking, IsMoved, KeepsGuards}

pub some_more : (s t c : List Literal) → Includes s t → SomeTrue s c → SomeTrue t c
some_more s t c inc x = record { literal = x.literal; of_clause = x.of_clause; is_true = inc x.literal x.is_true }

pub some_same : (s c d : List Literal) → SameSet d c → SomeTrue s c → SomeTrue s d
some_same s c d e x = record { literal = x.literal; of_clause = e x.literal ∙ x.of_clause; is_true = x.is_true }

-- the list of a literal has a clause more
abbrev pub Pushes : (ℕ → Literal → ℕ) → (ℕ → Literal → ℕ) → Literal → ℕ → Type 0
Pushes old new l at = (r : ℕ) (k : Literal) → new r k ≡ old r k + cond (same l k) (cond (at == r) 1 0) 0

-- a clause is taken off what is left
abbrev pub Takes : (ℕ → ℕ) → (ℕ → ℕ) → ℕ → Type 0
Takes old new at = (r : ℕ) → old r ≡ cond (at == r) 1 0 + new r

-- the trail grows
pub walking_more : (on : ℕ → Bool) (cs : ℕ → List Literal) (list : ℕ → Literal → ℕ) (left : ℕ → ℕ) (s t b0 b1 : List Literal) (w : Literal) → Includes s t → IsWalking on cs list left s b0 b1 w → IsWalking on cs list left t b0 b1 w
walking_more on cs list left s t b0 b1 w inc x = record {
  linked = x.linked;
  guarded = λ r k h f. some_more s t (cs r) inc (x.guarded r k h f);
  walked = λ r z k h f. some_more s t (cs r) inc (x.walked r z k h f);
}

-- as often in the lists, and as often left
pub walking_same : (on : ℕ → Bool) (cs : ℕ → List Literal) (list new : ℕ → Literal → ℕ) (left rest : ℕ → ℕ) (s b0 b1 : List Literal) (w : Literal)
    → ((r : ℕ) (k : Literal) → new r k ≡ list r k) → ((r : ℕ) → rest r ≡ left r) → IsWalking on cs list left s b0 b1 w → IsWalking on cs new rest s b0 b1 w
walking_same on cs list new left rest s b0 b1 w p q x = record {
  linked = λ r k o. rw (p r k, q r) (x.linked r k o);
  guarded = x.guarded;
  walked = λ r z. x.walked r (sym (q r) ∙ z);
}

-- a clause that has a true literal stays in the list
pub kept_on : (on : ℕ → Bool) (cs : ℕ → List Literal) (list new : ℕ → Literal → ℕ) (left rest : ℕ → ℕ) (s b0 b1 : List Literal) (w : Literal) (at : ℕ)
    → Pushes list new w at → Takes left rest at → SomeTrue s (cs at) → IsWalking on cs list left s b0 b1 w → IsWalking on cs new rest s b0 b1 w
kept_on on cs list new left rest s b0 b1 w at p q t x = record {
  linked = λ r k o. grind (arith, p r k, q r, x.linked r k o);
  guarded = x.guarded;
  walked = λ r z. by_test (at == r)
      (λ y. let is : at ≡ r = grind (arith, nat_tests) in λ k h f. subst (λ j. SomeTrue s (cs j)) is t)
      (λ y. x.walked r (grind (arith, q r, y, z)));
}

-- a clause of the other side stays in the list
pub kept_off : (on : ℕ → Bool) (cs : ℕ → List Literal) (list new : ℕ → Literal → ℕ) (left rest : ℕ → ℕ) (s b0 b1 : List Literal) (w : Literal) (at : ℕ)
    → Pushes list new w at → Takes left rest at → on at ≡ false → ((b t : List Literal) → IsGuarded b t (cs at)) → IsWalking on cs list left s b0 b1 w → IsWalking on cs new rest s b0 b1 w
kept_off on cs list new left rest s b0 b1 w at p q off none x = record {
  linked = λ r k o. grind (arith, p r k, q r, x.linked r k o);
  guarded = x.guarded;
  walked = λ r z. by_test (at == r)
      (λ y. let is : at ≡ r = grind (arith, nat_tests) in subst (λ j. IsGuarded b1 s (cs j)) is (none b1 s))
      (λ y. x.walked r (grind (arith, q r, y, z)));
}

-- a watch is exchanged for a literal that isn't false
pub moved_on : (on on' : ℕ → Bool) (cs ds : ℕ → List Literal) (list new : ℕ → Literal → ℕ) (left rest : ℕ → ℕ) (s b0 b1 : List Literal) (w l : Literal) (at : ℕ)
    → IsNext b0 b1 w → Includes b1 s → Pushes list new l at → Takes left rest at → IsMoved (cs at) (ds at) w l → SameSet (ds at) (cs at)
    → ((r : ℕ) → on' r ≡ on r) → on at ≡ true → ((r : ℕ) → r ≢ at → ds r ≡ cs r) → has (complement l) s ≡ false → IsWalking on cs list left s b0 b1 w → IsWalking on' ds new rest s b0 b1 w
moved_on on on' cs ds list new left rest s b0 b1 w l at nx inc p q m set same_on here_on others open_l x = record {
  linked = λ r k o. by_test (at == r)
      (λ y. let is : at ≡ r = grind (arith, nat_tests) in subst (λ j. new j k + cond (same w k) (rest j) 0 ≡ cond (is_watch (ds j) k) 1 0) is (here k))
      (λ y. let ne : r ≢ at = grind (arith, nat_tests) in rw (others r ne) (there r k (sym (same_on r) ∙ o) y));
  guarded = λ r. by_test (at == r)
      (λ y. let is : at ≡ r = grind (arith, nat_tests) in subst (λ j. IsGuarded b0 s (ds j)) is (guard b0 nx.keeps (λ k f. λ _. f)))
      (λ y. let ne : r ≢ at = grind (arith, nat_tests) in rw (others r ne) (x.guarded r));
  walked = λ r z. by_test (at == r)
      (λ y. let is : at ≡ r = grind (arith, nat_tests) in subst (λ j. IsGuarded b1 s (ds j)) is (guard b1 (λ k h. h) (λ k f. nx.only k f)))
      (λ y. let ne : r ≢ at = grind (arith, nat_tests) in rw (others r ne) (x.walked r (grind (arith, q r, y, z))));
}
  where
    o : Literal
    o = other_watch (cs at) w

    at_at : (at == at) ≡ true
    at_at = grind (arith, nat_tests)

    there : (r : ℕ) (k : Literal) → on r ≡ true → (at == r) ≡ false → new r k + cond (same w k) (rest r) 0 ≡ cond (is_watch (cs r) k) 1 0
    there r k o y = grind (arith, p r k, q r, x.linked r k o, y)

    here : (k : Literal) → new at k + cond (same w k) (rest at) 0 ≡ cond (is_watch (ds at) k) 1 0
    here k = by_test (same w k)
        (λ y. let is : w ≡ k = grind (arith, same_tells w k) in
        let lk : same l k ≡ false = subst (λ j. same l j ≡ false) is m.leaves in
        let ok : same o k ≡ false = subst (λ j. same o j ≡ false) is m.stays in
        grind (arith, p at k, q at, x.linked at k here_on, m.is k, m.was k, at_at, lk, ok, y))
        (λ y. by_test (same l k)
        (λ z. let is : l ≡ k = grind (arith, same_tells l k) in
        let ok : same o k ≡ false = subst (λ j. same o j ≡ false) is m.other in
        grind (arith, p at k, q at, x.linked at k here_on, m.is k, m.was k, at_at, z, ok, y))
        (λ z. grind (arith, p at k, q at, x.linked at k here_on, m.is k, m.was k, at_at, z, y)))

    -- the moved clause: the new watch isn't false, and the other one is guarded as before
    guard : (b : List Literal) → Includes b b1 → ((k : Literal) → has (complement k) b ≡ true → same w k ≡ false → has (complement k) b0 ≡ true) → IsGuarded b s (ds at)
    guard b below only k h f = by_test (same l k)
        (λ y. let is : l ≡ k = grind (arith, same_tells l k) in let t : has (complement l) s ≡ true = inc (complement l) (below (complement l) (subst (λ j. has (complement j) b ≡ true) (sym is) f)) in absurd cc)
        (λ y. let ok : same o k ≡ true = grind (arith, m.is k, h, y) in
        let is : o ≡ k = grind (arith, same_tells o k, ok) in
        let wk : same w k ≡ false = let q : same o w ≡ false = m.stays in let q' : same k w ≡ false = subst (λ j. same j w ≡ false) is q in grind (arith, same_tells k w, same_tells w k, q') in
        let wo : is_watch (cs at) k ≡ true = grind (arith, m.was k, ok) in
        some_same s (cs at) (ds at) set (x.guarded at k wo (only k f wk)))

-- the list is taken off
pub start_walk : (on : ℕ → Bool) (cs : ℕ → List Literal) (list new : ℕ → Literal → ℕ) (left : ℕ → ℕ) (s b0 b1 : List Literal) (w : Literal) → IsNext b0 b1 w
    → ((r : ℕ) (k : Literal) → on r ≡ true → list r k ≡ cond (is_watch (cs r) k) 1 0) → ((r : ℕ) → on r ≡ false → (b t : List Literal) → IsGuarded b t (cs r)) → AreGuarded b0 s cs
    → ((r : ℕ) (k : Literal) → new r k ≡ cond (same w k) 0 (list r k)) → ((r : ℕ) → left r ≡ list r w) → IsWalking on cs new left s b0 b1 w
start_walk on cs list new left s b0 b1 w nx li none g p q = record {
  linked = λ r k o. by_test (same w k)
      (λ y. let is : w ≡ k = grind (arith, same_tells w k) in subst (λ j. new r k + cond (same w k) (left r) 0 ≡ cond (is_watch (cs r) j) 1 0) is (grind (arith, p r k, li r w o, q r, y)))
      (λ y. grind (arith, p r k, li r k o, y));
  guarded = g;
  walked = λ r z. by_test (on r)
      (λ o. λ k h f. by_test (same w k)
      (λ y. let is : w ≡ k = grind (arith, same_tells w k) in let u : is_watch (cs r) w ≡ true = subst (λ j. is_watch (cs r) j ≡ true) (sym is) h in absurd (grind (arith, li r w o, q r, u, z)))
      (λ y. g r k h (nx.only k f y)))
      (λ o. none r o b1 s);
}

-- nothing is left
pub end_walk : (on : ℕ → Bool) (cs : ℕ → List Literal) (list new : ℕ → Literal → ℕ) (left : ℕ → ℕ) (s b0 b1 : List Literal) (w : Literal) → ((r : ℕ) → left r ≡ 0) → ((r : ℕ) (k : Literal) → new r k ≡ list r k) → IsWalking on cs list left s b0 b1 w
    → ((r : ℕ) (k : Literal) → on r ≡ true → new r k ≡ cond (is_watch (cs r) k) 1 0) × AreGuarded b1 s cs
end_walk on cs list new left s b0 b1 w z p x = (λ r k o. grind (arith, x.linked r k o, z r, p r k), λ r. x.walked r (z r))

-- what is left is put back
pub put_back : (on : ℕ → Bool) (cs : ℕ → List Literal) (list new : ℕ → Literal → ℕ) (left : ℕ → ℕ) (s b0 b1 : List Literal) (w : Literal) → ((r : ℕ) (k : Literal) → new r k ≡ list r k + cond (same w k) (left r) 0)
    → IsWalking on cs list left s b0 b1 w → ((r : ℕ) (k : Literal) → on r ≡ true → new r k ≡ cond (is_watch (cs r) k) 1 0) × AreGuarded b0 s cs
put_back on cs list new left s b0 b1 w p x = (λ r k o. p r k ∙ x.linked r k o, x.guarded)

-- a list of falsifiers that is part of the trail guards the moved clause where it guarded the old one
pub moved_keeps : (cs ds : ℕ → List Literal) (s : List Literal) (w l : Literal) (at : ℕ) → IsMoved (cs at) (ds at) w l → SameSet (ds at) (cs at)
    → ((r : ℕ) → r ≢ at → ds r ≡ cs r) → has (complement l) s ≡ false → KeepsGuards s cs ds
moved_keeps cs ds s w l at m set others open_l b t inc g r = by_test (at == r)
    (λ y. let is : at ≡ r = grind (arith, nat_tests) in subst (λ q. IsGuarded b t (ds q)) is guard)
    (λ y. let ne : r ≢ at = grind (arith, nat_tests) in rw (others r ne) (g r))
  where
    guard : IsGuarded b t (ds at)
    guard k h f = by_test (same l k)
        (λ y. let is : l ≡ k = grind (arith, same_tells l k) in let u : has (complement l) s ≡ true = inc (complement l) (subst (λ j. has (complement j) b ≡ true) (sym is) f) in absurd cc)
        (λ y. let wo : is_watch (cs at) k ≡ true = grind (arith, m.was k, m.is k, h, y) in some_same t (cs at) (ds at) set (g at k wo f))
