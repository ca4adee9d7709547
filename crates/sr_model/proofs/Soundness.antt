-- Refutation is sound.
use Rattle.std.proofs.Common.{◌≡◌, ◌≢◌, inl, inr, ℕ, Bool, true, false, not, ◌&&◌, List, [], ◌∷◌, ◌++◌, refl, arith}
use Rattle.std.specs.Prelude.{filter}
use Rattle.sr_base.specs.Literal.{Literal, plus, minus, complement, compl, same, has}
use Rattle.sr_base.proofs.Literals.{same_tells, has_append}
use Rattle.sr_model.specs.Assignment.{makes_true, satisfies, satisfies_all, makes_all_true}
use Rattle.sr_model.specs.Refutation.{IsClosedFor, IsClosed, Includes, HoldsPair, has_empty, Refutes}

-- the two cases of a test, each with its equation
pub by_test : {P : Type 0} (b : Bool) → (b ≡ true → P) → (b ≡ false → P) → P
by_test true f g = f refl
by_test false f g = g refl

pub complement_is_other : (t : List ℕ) (l : Literal) → makes_true t (complement l) ≡ not (makes_true t l)
complement_is_other t (plus v) = refl
complement_is_other t (minus v) = grind arith

pub has_kept : (p : Literal → Bool) (l : Literal) (ks : List Literal) → has l (filter p ks) ≡ (p l && has l ks)
has_kept p l [] = grind arith
has_kept p l (k ∷ ks) = grind (arith, has_kept p l ks, same_tells k l)

-- a clause that is satisfied has a true literal
pub true_literal : (t : List ℕ) (c : List Literal) → satisfies t c ≡ true → (k : Literal) × (has k c ≡ true) × (makes_true t k ≡ true)
true_literal t [] h = absurd cc
true_literal t (l ∷ ls) h = at (makes_true t l) refl (true_literal t ls)
  where
    at : (b : Bool) → makes_true t l ≡ b → (satisfies t ls ≡ true → (k : Literal) × (has k ls ≡ true) × (makes_true t k ≡ true)) → (k : Literal) × (has k (l ∷ ls) ≡ true) × (makes_true t k ≡ true)
    at true e r = (l, grind (arith, same_tells l l), e)
    at false e r = let q : (k : Literal) × (has k ls ≡ true) × (makes_true t k ≡ true) = r (grind arith) in (q.0, grind (arith, q.1), q.2)

-- a clause that has a true literal is satisfied
pub satisfied_by : (t : List ℕ) (c : List Literal) (l : Literal) → has l c ≡ true → makes_true t l ≡ true → satisfies t c ≡ true
satisfied_by t [] l h m = absurd cc
satisfied_by t (k ∷ c) l h m = grind (arith, satisfied_by t c l, same_tells k l)

-- the literals of all clauses
abbrev pub all_literals : List (List Literal) → List Literal
all_literals [] = []
all_literals (c ∷ cs) = c ++ all_literals cs

-- a clause is closed for the true ones among literals that include its own
pub closed_for_true : (t : List ℕ) (c all : List Literal) → satisfies t c ≡ true → Includes c all → IsClosedFor (filter (makes_true t) all) c
closed_for_true t c all sat inc l there others =
    let w = true_literal t c sat in
    at w (same w.0 l) refl
  where
    at : (w : (k : Literal) × (has k c ≡ true) × (makes_true t k ≡ true)) (b : Bool) → same w.0 l ≡ b → has l (filter (makes_true t) all) ≡ true
    at w true e = rw (has_kept (makes_true t) l all) (grind (arith, same_tells w.0 l, inc l there, w.2))
    at w false e =
        let ne : w.0 ≢ l = grind (arith, same_tells w.0 l) in
        let o : has (complement w.0) (filter (makes_true t) all) ≡ true = others w.0 w.1 ne in
        absurd (grind (arith, has_kept (makes_true t) (complement w.0) all, complement_is_other t w.0, w.2))

pub closed_true : (t : List ℕ) (cs : List (List Literal)) (all : List Literal) → satisfies_all t cs ≡ true → Includes (all_literals cs) all → IsClosed (filter (makes_true t) all) cs
closed_true t [] all sat inc = tt
closed_true t (c ∷ cs) all sat inc = (
  closed_for_true t c all (grind arith) (λ l h. inc l (grind (arith, has_append l c (all_literals cs)))),
  closed_true t cs all (grind arith) (λ l h. inc l (grind (arith, has_append l c (all_literals cs)))),
)

pub true_of_all : (t : List ℕ) (a : List Literal) (l : Literal) → makes_all_true t a ≡ true → has l a ≡ true → makes_true t l ≡ true
true_of_all t [] l h m = absurd cc
true_of_all t (k ∷ a) l h m = grind (arith, true_of_all t a l, same_tells k l)

pub all_true-append : (t : List ℕ) (a b : List Literal) → makes_all_true t (a ++ b) ≡ (makes_all_true t a && makes_all_true t b)
all_true-append t [] b = refl
all_true-append t (l ∷ a) b = grind (arith, all_true-append t a b)

pub empty_is_false : (t : List ℕ) (cs : List (List Literal)) → has_empty cs ≡ true → satisfies_all t cs ≡ false
empty_is_false t [] h = absurd cc
empty_is_false t ([] ∷ cs) h = refl
empty_is_false t ((l ∷ ls) ∷ cs) h = grind (arith, empty_is_false t cs h)

pub refutes_sound : (s : List (List Literal)) (a : List Literal) → Refutes s a → (t : List ℕ) → satisfies_all t s ≡ true → makes_all_true t a ≡ true → ⊥
refutes_sound s a (inl e) t sat tr = let f = empty_is_false t s e in cc
refutes_sound s a (inr r) t sat tr =
    let all : List Literal = a ++ all_literals s in
    let b : List Literal = filter (makes_true t) all in
    let inc : Includes a b = λ l h. rw (has_kept (makes_true t) l all) (grind (arith, has_append l a (all_literals s), true_of_all t a l)) in
    let cl : IsClosed b s = closed_true t s all sat (λ l h. grind (arith, has_append l a (all_literals s))) in
    let p : HoldsPair b = r b inc cl in
    grind (arith, has_kept (makes_true t) p.0 all, has_kept (makes_true t) (complement p.0) all, complement_is_other t p.0, p.1, p.2)

-- the complements of a clause that isn't satisfied are true
pub false_clause : (t : List ℕ) (c : List Literal) → satisfies t c ≡ false → makes_all_true t (compl c) ≡ true
false_clause t [] h = refl
false_clause t (l ∷ ls) h = grind (arith, complement_is_other t l, false_clause t ls)

-- a clause whose complements are refuted holds in each solution
pub refuted_holds : (s : List (List Literal)) (c : List Literal) → Refutes s (compl c) → (t : List ℕ) → satisfies_all t s ≡ true → satisfies t c ≡ true
refuted_holds s c r t sat = by_test (satisfies t c) (λ e. e) (λ f. absurd (refutes_sound s (compl c) r t sat (false_clause t c f)))
