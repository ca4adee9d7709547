-- Live clauses under their numbers, as they come and go.
use Rattle.std.proofs.Common.{◌≡◌, ℕ, ◌+◌, ◌<◌, ◌≤◌, Bool, true, false, cond, ◌==◌, List, [], ◌∷◌, ◌++◌, Option, Some, None, refl, ◌∙◌, ap, subst, arith, length}
use Rattle.std.specs.Prelude.{nat_le}
use Rattle.std.proofs.lemmas.Bool.Decides.{nat_tests}
use Rattle.sr_base.specs.Literal.{Literal}
use Rattle.sr_base.specs.declared.names.Cause.TheVariants.{NotNew}
use Rattle.sr_model.specs.Assignment.{holds_number}
use Rattle.sr_model.specs.Refutation.{is_empty}
use Rattle.sr_model.specs.Chain.{Numbered, clause_of}
use Rattle.sr_model.specs.Meeting.{met, unmet}
use Rattle.sr_model.specs.Judging.{Item, stepped, dropped, numbered_from, without, Live, first_live, live_with, item_meets}
use Rattle.sr_model.proofs.Soundness.{by_test}
use Rattle.sr_model.proofs.Moved.{holds_append}

-- the clause that was found, or else that of the pair at the end
abbrev pub or_else : Option (List Literal) → Option (List Literal) → Option (List Literal)
or_else None o = o
or_else (Some c) o = Some c

pub clause_of-push : (live : Numbered) (n : ℕ) (c : List Literal) (h : ℕ) → clause_of (live ++ (n, c) ∷ []) h ≡ or_else (clause_of live h) (cond (n == h) (Some c) None)
clause_of-push [] n c h = refl
clause_of-push (p ∷ ps) n c h = by_test (p.0 == h) (λ e. rw e refl) (λ e. rw e (clause_of-push ps n c h))

pub clause_of-without : (ids : List ℕ) (live : Numbered) (h : ℕ) → clause_of (without ids live) h ≡ cond (holds_number h ids) None (clause_of live h)
clause_of-without ids [] h = by_test (holds_number h ids) (λ e. rw e refl) (λ e. rw e refl)
clause_of-without ids (p ∷ ps) h = by_test (p.0 == h)
    (λ e. let is : p.0 ≡ h = grind (arith, nat_tests) in by_test (holds_number p.0 ids)
    (λ y. let z : holds_number h ids ≡ true = subst (λ n. holds_number n ids ≡ true) is y in rw (y, z) (clause_of-without ids ps h ∙ rw z refl))
    (λ y. let z : holds_number h ids ≡ false = subst (λ n. holds_number n ids ≡ false) is y in rw (y, z, e) refl))
    (λ e. by_test (holds_number p.0 ids)
    (λ y. rw (y, e) (clause_of-without ids ps h))
    (λ y. rw (y, e) (clause_of-without ids ps h)))

-- numbers may be dropped one after another
pub without_append : (ids more : List ℕ) (live : Numbered) → without (ids ++ more) live ≡ without more (without ids live)
without_append ids more [] = refl
without_append ids more (p ∷ ps) = grind (arith, holds_append p.0 ids more, without_append ids more ps)

pub without_none : (live : Numbered) → without [] live ≡ live
without_none [] = refl
without_none (p ∷ ps) = ap (λ s. p ∷ s) (without_none ps)

-- numbers that rise, and stand above this one
abbrev pub IsRisingAbove : ℕ → Numbered → Type 0
IsRisingAbove n [] = Unit {0}
IsRisingAbove n (p ∷ ps) = (n < p.0) × IsRisingAbove p.0 ps

-- none is above the last one
abbrev pub AreUpTo : ℕ → Numbered → Type 0
AreUpTo last [] = Unit {0}
AreUpTo last (p ∷ ps) = (p.0 ≤ last) × AreUpTo last ps

-- the live clauses are in rising order of number from 1 on, up to the last number
pub record IsInOrder (lv : Live) : Type 0 where
  pub rises : IsRisingAbove 0 lv.clauses
  pub up_to_last : AreUpTo lv.last lv.clauses

rising_more : (n m : ℕ) (ps : Numbered) → m ≤ n → IsRisingAbove n ps → IsRisingAbove m ps
rising_more n m [] h r = tt
rising_more n m (p ∷ ps) h r = (omega (arith, r.0), r.1)

up_to_more : (n m : ℕ) (ps : Numbered) → n ≤ m → AreUpTo n ps → AreUpTo m ps
up_to_more n m [] h r = tt
up_to_more n m (p ∷ ps) h r = (omega (arith, r.0), up_to_more n m ps h r.1)

rising-push : (n last id : ℕ) (c : List Literal) (ps : Numbered) → n ≤ last → last < id → IsRisingAbove n ps → AreUpTo last ps → IsRisingAbove n (ps ++ (id, c) ∷ [])
rising-push n last id c [] h g r u = (omega arith, tt)
rising-push n last id c (p ∷ ps) h g r u = (r.0, rising-push p.0 last id c ps u.0 g r.1 u.1)

up_to-push : (last id : ℕ) (c : List Literal) (ps : Numbered) → last ≤ id → AreUpTo last ps → AreUpTo id (ps ++ (id, c) ∷ [])
up_to-push last id c [] h u = (omega arith, tt)
up_to-push last id c (p ∷ ps) h u = (omega (arith, u.0), up_to-push last id c ps h u.1)

rising_without : (n : ℕ) (ids : List ℕ) (ps : Numbered) → IsRisingAbove n ps → IsRisingAbove n (without ids ps)
rising_without n ids [] r = tt
rising_without n ids (p ∷ ps) r = by_test (holds_number p.0 ids)
    (λ y. rw y (rising_more p.0 n (without ids ps) (omega (arith, r.0)) (rising_without p.0 ids ps r.1)))
    (λ y. rw y (r.0, rising_without p.0 ids ps r.1))

up_to_without : (last : ℕ) (ids : List ℕ) (ps : Numbered) → AreUpTo last ps → AreUpTo last (without ids ps)
up_to_without last ids [] u = tt
up_to_without last ids (p ∷ ps) u = by_test (holds_number p.0 ids)
    (λ y. rw y (up_to_without last ids ps u.1))
    (λ y. rw y (u.0, up_to_without last ids ps u.1))

pub number_up_to : (last : ℕ) (ps : Numbered) (h : ℕ) (c : List Literal) → AreUpTo last ps → clause_of ps h ≡ Some c → h ≤ last
number_up_to last [] h c u e = absurd cc
number_up_to last (p ∷ ps) h c u e = by_test (p.0 == h)
    (λ y. let is : p.0 ≡ h = grind (arith, nat_tests) in omega (arith, u.0))
    (λ y. number_up_to last ps h c u.1 (rw y at e))

-- so they are from the start
rising_numbered : (n : ℕ) (f : List (List Literal)) → IsRisingAbove n (numbered_from (n + 1) f)
rising_numbered n [] = tt
rising_numbered n (c ∷ cs) = (omega arith, rising_numbered (n + 1) cs)

up_to_numbered : (n : ℕ) (f : List (List Literal)) (last : ℕ) → n + length f ≤ last + 1 → AreUpTo last (numbered_from n f)
up_to_numbered n [] last h = tt
up_to_numbered n (c ∷ cs) last h = (omega arith, up_to_numbered (n + 1) cs last (omega arith))

pub first_in_order : (f : List (List Literal)) → IsInOrder (first_live f)
first_in_order f = record { rises = rising_numbered 0 f; up_to_last = up_to_numbered 1 f (length f) (omega arith) }

-- and stay so where items are met
pub in_order_with : (strict : Bool) (lv : Live) (item : Item) → IsInOrder lv → item_meets strict lv item ≡ met → IsInOrder (live_with lv item)
in_order_with strict lv (dropped n ids) o m = record { rises = rising_without 0 ids lv.clauses o.rises; up_to_last = up_to_without lv.last ids lv.clauses o.up_to_last }
in_order_with strict lv (stepped s) o m = by_test (is_empty s.clause)
    (λ y. rw y o)
    (λ y. let new : lv.last < s.id = by_test (nat_le s.id lv.last)
    (λ z. let k : unmet NotNew ≡ met = rw z at m in absurd cc)
    (λ z. grind (arith, nat_tests)) in
    rw y (record {
      rises = rising-push 0 lv.last s.id s.clause lv.clauses (omega arith) new o.rises o.up_to_last;
      up_to_last = up_to-push lv.last s.id s.clause lv.clauses (omega arith) o.up_to_last;
    }))
