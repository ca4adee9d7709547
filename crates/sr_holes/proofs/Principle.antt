-- The pigeonhole principle.
use Rattle.std.proofs.Common.{◌≡◌, ◌⊎◌, inl, inr, ⊎_elim, ℕ, zero, suc, ◌+◌, subst, refl, sym, arith}
use Rattle.std.proofs.lemmas.Bool.{cases_eq}
use Rattle.sr_holes.specs.Laws.{IsPigeon, IsHole}

-- each pigeon sits in a hole
abbrev pub SitEach : ℕ → (ℕ → ℕ → Type 0) → Type 0
SitEach n sits = (p : ℕ) → IsPigeon n p → (h : ℕ) × IsHole n h × sits p h

-- no two in the same one
abbrev pub SitApart : ℕ → (ℕ → ℕ → Type 0) → Type 0
SitApart n sits = (h p q : ℕ) → IsHole n h → IsPigeon n p → IsPigeon n q → sits p h → sits q h → p ≡ q

-- without the last pigeon and the last hole: who sat in that hole takes the one that the pigeon leaves free
abbrev moved : ℕ → (ℕ → ℕ → Type 0) → ℕ → ℕ → ℕ → Type 0
moved last sits free p h = sits p h ⊎ ((h ≡ free) × sits p last)

-- the last pigeon sits in a hole
record LastSits (n : ℕ) (sits : ℕ → ℕ → Type 0) (free : ℕ) : Type 0 where
  each : SitEach (suc n) sits
  apart : SitApart (suc n) sits
  hole : IsHole (suc n) free
  there : sits (n + 2) free

-- and no other one
alone : (n : ℕ) (sits : ℕ → ℕ → Type 0) (free p : ℕ) → LastSits n sits free → IsPigeon n p → sits p free → ⊥
alone n sits free p l i s = let e = l.apart free p (n + 2) l.hole (i.0, omega (arith, i.1)) (omega arith, omega arith) s l.there in omega (arith, i.1)

each_moved : (n : ℕ) (sits : ℕ → ℕ → Type 0) (free : ℕ) → LastSits n sits free → SitEach n (moved (suc n) sits free)
each_moved n sits free l p i = at (l.each p (i.0, omega (arith, i.1)))
  where
    at : (h : ℕ) × IsHole (suc n) h × sits p h → (h : ℕ) × IsHole n h × moved (suc n) sits free p h
    at s = ⊎_elim takes stays (cases_eq s.0 (suc n))
      where
        takes : s.0 ≡ suc n → (h : ℕ) × IsHole n h × moved (suc n) sits free p h
        takes e =
            let in_last : sits p (suc n) = subst (sits p) e s.2 in
            let ne : free ≡ suc n → ⊥ = λ f. alone n sits free p l i (subst (sits p) (sym f) in_last) in
            (free, (l.hole.0, omega (arith, l.hole.1, ne)), inr (refl, in_last))

        stays : (s.0 ≡ suc n → ⊥) → (h : ℕ) × IsHole n h × moved (suc n) sits free p h
        stays ne = (s.0, (s.1.0, omega (arith, s.1.1)), inl s.2)

apart_moved : (n : ℕ) (sits : ℕ → ℕ → Type 0) (free : ℕ) → LastSits n sits free → SitApart n (moved (suc n) sits free)
apart_moved n sits free l h p q ih ip iq a b = ⊎_elim (λ x. ⊎_elim (both x) (one p q ip x) b) (λ x. ⊎_elim (λ y. sym (one q p iq y x)) (last x) b) a
  where
    wide : (r : ℕ) → IsPigeon n r → IsPigeon (suc n) r
    wide r i = (i.0, omega (arith, i.1))

    both : sits p h → sits q h → p ≡ q
    both x y = l.apart h p q (ih.0, omega (arith, ih.1)) (wide p ip) (wide q iq) x y

    one : (r s : ℕ) → IsPigeon n r → sits r h → (h ≡ free) × sits s (suc n) → r ≡ s
    one r s i x y = absurd (alone n sits free r l i (subst (sits r) y.0 x))

    last : (h ≡ free) × sits p (suc n) → (h ≡ free) × sits q (suc n) → p ≡ q
    last x y = l.apart (suc n) p q (omega arith, omega arith) (wide p ip) (wide q iq) x.1 y.1

pub no_seating : (n : ℕ) (sits : ℕ → ℕ → Type 0) → SitEach n sits → SitApart n sits → ⊥
no_seating zero sits each apart = let s = each 1 (omega arith, omega arith) in absurd (omega (arith, s.1.0, s.1.1))
no_seating (suc n) sits each apart =
    let s = each (n + 2) (omega arith, omega arith) in
    let l : LastSits n sits s.0 = record { each = each; apart = apart; hole = s.1; there = s.2 } in
    no_seating n (moved (suc n) sits s.0) (each_moved n sits s.0 l) (apart_moved n sits s.0 l)
