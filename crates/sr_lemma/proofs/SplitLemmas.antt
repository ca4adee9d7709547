-- How literals are split.
use Rattle.std.proofs.Common.{◌≡◌, ◌∙◌, ◌==◌, ℕ, suc, ◌+◌, ◌-◌, ◌%◌, ◌<◌, ◌≤◌, refl, sym, ap, List, [], ◌∷◌, length, get_or, take, drop, Bool, true, false, Some, None, add-one, arith}
use Rattle.std.proofs.lemmas.Bool.Decides.{nat_tests}
use Rattle.std.specs.Prelude.{Result, Ok, Err, option_map}
use Rattle.std.proofs.lemmas.List.{take_all}
use Rattle.sr_base.specs.Literal.{Literal, same, distinct}
use Rattle.sr_base.specs.declared.names.TextKind.TheVariants.{OddMap, Twice}
use Rattle.sr_model.specs.Substitution.{Witness}
use Rattle.sr_model.specs.Witnesses.{before, after, pairs, is_odd, clause_of_literals, fault_of_witness}
use Rattle.sr_base.specs.declared.names.InputError.{InputError}
use Rattle.sr_base.specs.declared.names.InputError.TheVariants.{Text, Limit, Source, NoMemory}
use Rattle.sr_lemma.specs.Parts.{GivesMaps, GivesSubst, GivesWitness, FindsWitness}

pub before-take : (p : Literal) (xs : List Literal) → take (length (before p xs)) xs ≡ before p xs
before-take p [] = refl
before-take p (x ∷ xs) = by (same x p) refl (before-take p xs)
  where
    by : (b : Bool) → same x p ≡ b → take (length (before p xs)) xs ≡ before p xs → take (length (before p (x ∷ xs))) (x ∷ xs) ≡ before p (x ∷ xs)
    by true e more = rw e refl
    by false e more = rw e (ap (λ l. x ∷ l) more)

pub after-none : (p : Literal) (xs : List Literal) → length (before p xs) ≡ length xs → after p xs ≡ None
after-none p [] h = refl
after-none p (x ∷ xs) h = by (same x p) refl h (after-none p xs)
  where
    by : (b : Bool) → same x p ≡ b → length (before p (x ∷ xs)) ≡ length (x ∷ xs) → (length (before p xs) ≡ length xs → after p xs ≡ None) → after p (x ∷ xs) ≡ None
    by true e h more = absurd (omega (arith, rw e at h))
    by false e h more = let rest : length (before p xs) ≡ length xs = omega (arith, rw e at h) in rw e (more rest)

pub after-some : (p : Literal) (xs : List Literal) → length (before p xs) < length xs → after p xs ≡ Some (drop (length (before p xs) + 1) xs)
after-some p [] h = absurd (omega arith)
after-some p (x ∷ xs) h = by (same x p) refl h (after-some p xs)
  where
    by : (b : Bool) → same x p ≡ b → length (before p (x ∷ xs)) < length (x ∷ xs) → (length (before p xs) < length xs → after p xs ≡ Some (drop (length (before p xs) + 1) xs))
        → after p (x ∷ xs) ≡ Some (drop (length (before p (x ∷ xs)) + 1) (x ∷ xs))
    by true e h more = rw e refl
    by false e h more = let rest : length (before p xs) < length xs = omega (arith, rw e at h) in rw (e, add-one) (more rest ∙ ap (λ n. Some (drop n xs)) (add-one (length (before p xs))))

pub is_odd-length : (xs : List Literal) → is_odd xs ≡ (length xs % 2 == 1)
is_odd-length [] = refl
is_odd-length (x ∷ []) = refl
is_odd-length (x ∷ y ∷ zs) = grind (arith, nat_tests, is_odd-length zs)

pub pairs-short : (xs : List Literal) → length xs ≤ 1 → pairs xs ≡ []
pairs-short [] h = refl
pairs-short (x ∷ []) h = refl
pairs-short (x ∷ y ∷ zs) h = absurd (omega arith)

-- a step's literals are the first one and the others
pub first_and_others : (p : Literal) (lits : List Literal) → 1 ≤ length lits → p ≡ get_or lits 0 p → p ∷ take (length lits - 1) (drop 1 lits) ≡ lits
first_and_others p [] l e = absurd (omega arith)
first_and_others p (k ∷ ks) l e = let n : suc (length ks) - 1 ≡ length ks = omega arith in rw (n, take_all (length ks) ks (omega arith), e) refl

pub clause_first : (p : Literal) (rest : List Literal) (n : ℕ) → n ≡ length (before p rest) → distinct (take (1 + n) (p ∷ rest)) ≡ clause_of_literals (p ∷ rest)
clause_first p rest n e =
    let more : 1 + n ≡ suc n = omega arith in
    rw more (ap (λ l. distinct (p ∷ l)) (ap (λ m. take m rest) e ∙ before-take p rest))

-- a witness that has no third pivot
pub witness_alone : (p : Literal) (lits : List Literal) (end : ℕ) (r : Result Witness InputError) → length (before p lits) ≡ length lits → GivesSubst p lits [] end r → GivesWitness p lits end r
witness_alone p lits end r h given = by r given
  where
    all : before p lits ≡ lits
    all = sym (before-take p lits) ∙ take_all (length (before p lits)) lits (omega arith)

    by : (r : Result Witness InputError) → GivesSubst p lits [] end r → GivesWitness p lits end r
    by (Ok w) g = rw (after-none p lits h, all) (ap (option_map (λ v. Twice)) g.0, g.1)
    by (Err (Text kind place)) g = rw (after-none p lits h, all) g
    by (Err (Limit kind)) g = g
    by (Err Source) g = g
    by (Err NoMemory) g = g

-- one that has maps
pub witness_maps : (p : Literal) (lits : List Literal) (trues : List Literal) (maps : List (Literal × Literal)) (end : ℕ) (r : Result Witness InputError) → length (before p lits) < length lits
    → trues ≡ before p lits → is_odd (drop (length (before p lits) + 1) lits) ≡ false → maps ≡ pairs (drop (length (before p lits) + 1) lits)
    → GivesSubst p trues maps end r → GivesWitness p lits end r
witness_maps p lits trues maps end r h t even m given = by r (rw (t, m) at given)
  where
    by : (r : Result Witness InputError) → GivesSubst p (before p lits) (pairs (drop (length (before p lits) + 1) lits)) end r → GivesWitness p lits end r
    by (Ok w) g = rw (after-some p lits h, even) (ap (option_map (λ v. Twice)) g.0, g.1)
    by (Err (Text kind place)) g = rw (after-some p lits h, even) g
    by (Err (Limit kind)) g = g
    by (Err Source) g = g
    by (Err NoMemory) g = g

pub odd_maps : (p : Literal) (lits : List Literal) → length (before p lits) < length lits → is_odd (drop (length (before p lits) + 1) lits) ≡ true → fault_of_witness p (Some lits) ≡ Some OddMap
odd_maps p lits h odd = rw (after-some p lits h, odd) refl

-- the witness among all literals
pub no_witness : (p : Literal) (rest : List Literal) (end : ℕ) → length (before p rest) ≡ length rest → FindsWitness (p ∷ rest) end (Ok None)
no_witness p rest end h = rw (after-none p rest h) (refl, refl)

pub a_witness : (p : Literal) (rest : List Literal) (end : ℕ) (w : Witness) → length (before p rest) < length rest → GivesWitness p (drop (length (before p rest) + 1) rest) end (Ok w)
    → FindsWitness (p ∷ rest) end (Ok (Some w))
a_witness p rest end w h g = rw (after-some p rest h) (g.0, ap Some g.1)

pub bad_witness : (p : Literal) (rest : List Literal) (end : ℕ) (e : InputError) → length (before p rest) < length rest → GivesWitness p (drop (length (before p rest) + 1) rest) end (Err e)
    → FindsWitness (p ∷ rest) end (Err e)
bad_witness p rest end (Text kind place) h g = rw (after-some p rest h) g
bad_witness p rest end (Limit kind) h g = g
bad_witness p rest end Source h g = g
bad_witness p rest end NoMemory h g = g

pub maps_stop : (p : Literal) (lits : List Literal) (end : ℕ) (e : InputError) → length (before p lits) < length lits → GivesMaps (drop (length (before p lits) + 1) lits) end (Err e) → GivesWitness p lits end (Err e)
maps_stop p lits end (Text kind place) h g = (odd_maps p lits h g.0 ∙ ap Some (sym g.1), g.2)
maps_stop p lits end (Limit kind) h g = g
maps_stop p lits end Source h g = g
maps_stop p lits end NoMemory h g = g
