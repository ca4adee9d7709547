-- What stands under a reference after each change, for the crates above.
use Rattle.std.proofs.Common.{◌≡◌, ◌≢◌, ◌⊎◌, inl, inr, ◌+◌, ◌<◌, ◌≤◌, ℕ, zero, suc, true, false, Bool, cond, ltb, List, [], ◌∷◌, refl, sym, ◌∙◌, ap, arith, get_or, drop, ◌-◌, length, Option, Some, None, get_or-set_same, get_or-set_other}
use Rattle.std.specs.Prelude.{IfSome, IsNone}
use Rattle.std.proofs.lemmas.List.{get_or-drop, drop-drop}
use Rattle.std.proofs.lemmas.Bool.{cases_eq}
use Rattle.std.proofs.lemmas.Bool.Decides.{nat_tests}
use borrow.Author.Tests.{ltb-false}
use Rattle.sr_arena.specs.declared.moves.Move.{Move}
use Rattle.sr_arena.specs.Cells.{Cell, gone, held_in, first_held, held_after, reference, IsHeldOrNone, Memory, cell_at, IsHeld, put}
use Rattle.sr_arena.specs.Compaction.{moved_to, IsCompacted}
use Rattle.sr_arena.proofs.Weighing.{held_within}

-- what was put
pub put_here : (m : Memory) (at : ℕ) (c : Cell) → IsHeld m at → cell_at (put m at c) at ≡ c
put_here m at c h = get_or-set_same m.cells at c gone (held_within m.cells at h)

pub put_other : (m : Memory) (at k : ℕ) (c : Cell) → k ≢ at → cell_at (put m at c) k ≡ cell_at m k
put_other m at k c ne = get_or-set_other m.cells at k c gone ne

-- a held clause is held under its new reference
pub held_moved : (old new : Memory) (ms : List Move) (at : ℕ) → IsCompacted old new ms → IsHeld old at → IsHeld new (moved_to ms at)
held_moved old new ms at z h = ap (λ (c : Cell). c.held) (z.moves at h) ∙ h

-- no two held clauses get one reference
pub one_name : (old new : Memory) (ms : List Move) (a b : ℕ) → IsCompacted old new ms → IsHeld old a → IsHeld old b → moved_to ms a ≡ moved_to ms b → a ≡ b
one_name old new ms a b z h g e = eq (cases_eq a b)
  where
    less : a ≢ b → (t : Bool) → ltb a b ≡ t → a ≡ b
    less ne true f = absurd (omega (arith, z.rising a b (grind (arith, nat_tests)) h g))
    less ne false f = absurd (omega (arith, z.rising b a (omega (arith, ltb-false, ne)) g h))

    eq : (a ≡ b) ⊎ (a ≡ b → ⊥) → a ≡ b
    eq (inl p) = p
    eq (inr ne) = less ne (ltb a b) refl

-- the first held cell is held
first_at : (k : ℕ) (cs : List Cell) → (first_held k cs ≡ 0) ⊎ ((i : ℕ) × ((first_held k cs ≡ k + i) × ((get_or cs i gone).held ≡ true)))
first_at k [] = inl refl
first_at k (c ∷ cs) = at c.held refl (first_at (k + 1) cs)
  where
    at : (b : Bool) → c.held ≡ b → (first_held (k + 1) cs ≡ 0) ⊎ ((i : ℕ) × ((first_held (k + 1) cs ≡ k + 1 + i) × ((get_or cs i gone).held ≡ true))) → (first_held k (c ∷ cs) ≡ 0) ⊎ ((i : ℕ) × ((first_held k (c ∷ cs) ≡ k + i) × ((get_or (c ∷ cs) i gone).held ≡ true)))
    at true e r = inr (0, (rw e (omega arith), e))
    at false e (inl z) = inl (rw e z)
    at false e (inr r) = inr (suc r.0, (rw e (r.1.0 ∙ omega arith), r.1.1))

-- the clause after another one is held, and has a greater reference
pub held_next : (m : Memory) (k : ℕ) → (held_after m k ≡ 0) ⊎ ((k < held_after m k) × IsHeld m (held_after m k))
held_next m k = at (first_at (k + 1) (drop (k + 1) m.cells))
  where
    at : (held_after m k ≡ 0) ⊎ ((i : ℕ) × ((held_after m k ≡ k + 1 + i) × ((get_or (drop (k + 1) m.cells) i gone).held ≡ true))) → (held_after m k ≡ 0) ⊎ ((k < held_after m k) × IsHeld m (held_after m k))
    at (inl z) = inl z
    at (inr r) = inr (omega (arith, r.1.0), rw (r.1.0) (ap (λ (c : Cell). c.held) (sym (get_or-drop (k + 1) m.cells r.0 gone)) ∙ r.1.1))

-- how far a walk has to go
abbrev pub ahead_of : Memory → Option ℕ → ℕ
ahead_of m None = 0
ahead_of m (Some at) = length m.cells - at

-- the next clause, as it is answered
pub held_or_none : (m : Memory) (k n : ℕ) (r : Option ℕ) → reference r ≡ n → n ≡ held_after m k → (n ≡ 0 → IsNone r) → IsHeldOrNone m r
held_or_none m k n None e f z = tt
held_or_none m k n (Some at) e f z = go (held_next m k)
  where
    go : (held_after m k ≡ 0) ⊎ ((k < held_after m k) × IsHeld m (held_after m k)) → IsHeld m at
    go (inl g) = let bad : true ≡ false = z (f ∙ g) in absurd cc
    go (inr h) = rw (e ∙ f) h.1

pub rises_or_none : (m : Memory) (k n : ℕ) (r : Option ℕ) → reference r ≡ n → n ≡ held_after m k → (n ≡ 0 → IsNone r) → IfSome r (λ at. k < at)
rises_or_none m k n None e f z = tt
rises_or_none m k n (Some at) e f z = go (held_next m k)
  where
    go : (held_after m k ≡ 0) ⊎ ((k < held_after m k) × IsHeld m (held_after m k)) → k < at
    go (inl g) = let bad : true ≡ false = z (f ∙ g) in absurd cc
    go (inr h) = rw (e ∙ f) h.0

-- the first held cell, and those after it
pub first_split : (k : ℕ) (cs : List Cell) → 0 < k → ((first_held k cs ≡ 0) × (held_in cs ≡ [])) ⊎ ((i : ℕ) × ((first_held k cs ≡ k + i) × (((get_or cs i gone).held ≡ true) × (held_in cs ≡ get_or cs i gone ∷ held_in (drop (i + 1) cs)))))
first_split k [] lt = inl (refl, refl)
first_split k (c ∷ cs) lt = at c.held refl (first_split (k + 1) cs (omega arith))
  where
    at : (b : Bool) → c.held ≡ b → ((first_held (k + 1) cs ≡ 0) × (held_in cs ≡ [])) ⊎ ((i : ℕ) × ((first_held (k + 1) cs ≡ k + 1 + i) × (((get_or cs i gone).held ≡ true) × (held_in cs ≡ get_or cs i gone ∷ held_in (drop (i + 1) cs)))))
        → ((first_held k (c ∷ cs) ≡ 0) × (held_in (c ∷ cs) ≡ [])) ⊎ ((i : ℕ) × ((first_held k (c ∷ cs) ≡ k + i) × (((get_or (c ∷ cs) i gone).held ≡ true) × (held_in (c ∷ cs) ≡ get_or (c ∷ cs) i gone ∷ held_in (drop (i + 1) (c ∷ cs))))))
    at true e r = inr (0, (rw e (omega arith), (e, rw e refl)))
    at false e (inl z) = inl (rw e z.0, rw e z.1)
    at false e (inr r) =
        let next : drop (suc r.0 + 1) (c ∷ cs) ≡ drop (r.0 + 1) cs = (let n : suc r.0 + 1 ≡ suc (r.0 + 1) = omega arith in rw n refl) in
        inr (suc r.0, (rw e (r.1.0 ∙ omega arith), (r.1.1.0, ap (λ t. cond t (c ∷ held_in cs) (held_in cs)) e ∙ r.1.1.1 ∙ ap (λ ds. get_or cs r.0 gone ∷ held_in ds) (sym next))))

-- what a walk comes to, and what it has left
pub held_split : (m : Memory) (k : ℕ) → ((held_after m k ≡ 0) × (held_in (drop (k + 1) m.cells) ≡ [])) ⊎ (IsHeld m (held_after m k) × (held_in (drop (k + 1) m.cells) ≡ cell_at m (held_after m k) ∷ held_in (drop (held_after m k + 1) m.cells)))
held_split m k = at (first_split (k + 1) (drop (k + 1) m.cells) (omega arith))
  where
    at : ((held_after m k ≡ 0) × (held_in (drop (k + 1) m.cells) ≡ [])) ⊎ ((i : ℕ) × ((held_after m k ≡ k + 1 + i) × (((get_or (drop (k + 1) m.cells) i gone).held ≡ true) × (held_in (drop (k + 1) m.cells) ≡ get_or (drop (k + 1) m.cells) i gone ∷ held_in (drop (i + 1) (drop (k + 1) m.cells))))))
        → ((held_after m k ≡ 0) × (held_in (drop (k + 1) m.cells) ≡ [])) ⊎ (IsHeld m (held_after m k) × (held_in (drop (k + 1) m.cells) ≡ cell_at m (held_after m k) ∷ held_in (drop (held_after m k + 1) m.cells)))
    at (inl z) = inl z
    at (inr r) =
        let here : get_or (drop (k + 1) m.cells) r.0 gone ≡ cell_at m (held_after m k) = get_or-drop (k + 1) m.cells r.0 gone ∙ ap (cell_at m) (sym r.1.0) in
        let far : k + 1 + (r.0 + 1) ≡ held_after m k + 1 = omega (arith, r.1.0) in
        let left : drop (r.0 + 1) (drop (k + 1) m.cells) ≡ drop (held_after m k + 1) m.cells = drop-drop (r.0 + 1) (k + 1) m.cells ∙ ap (λ n. drop n m.cells) far in
        inr (ap (λ (c : Cell). c.held) (sym here) ∙ r.1.1.0, r.1.1.1 ∙ ap (λ c. c ∷ held_in (drop (r.0 + 1) (drop (k + 1) m.cells))) here ∙ ap (λ ds. cell_at m (held_after m k) ∷ held_in ds) left)

-- nothing is held between a clause and the one after it
first_between : (k : ℕ) (cs : List Cell) (i : ℕ) → 0 < k → (get_or cs i gone).held ≡ true → (0 < first_held k cs) × (first_held k cs ≤ k + i)
first_between k [] i lt h = absurd cc
first_between k (c ∷ cs) zero lt h = rw h (lt, omega arith)
first_between k (c ∷ cs) (suc i) lt h = at c.held refl (first_between (k + 1) cs i (omega arith) h)
  where
    at : (b : Bool) → c.held ≡ b → (0 < first_held (k + 1) cs) × (first_held (k + 1) cs ≤ k + 1 + i) → (0 < first_held k (c ∷ cs)) × (first_held k (c ∷ cs) ≤ k + suc i)
    at true e r = rw e (lt, omega arith)
    at false e r = rw e (r.0, omega (arith, r.1))

pub none_between : (m : Memory) (k at : ℕ) → k < at → IsHeld m at → (0 < held_after m k) × (held_after m k ≤ at)
none_between m k at lt h =
    let far : k + 1 + (at - (k + 1)) ≡ at = omega arith in
    let here : (get_or (drop (k + 1) m.cells) (at - (k + 1)) gone).held ≡ true = ap (λ (c : Cell). c.held) (get_or-drop (k + 1) m.cells (at - (k + 1)) gone ∙ ap (cell_at m) far) ∙ h in
    let r = first_between (k + 1) (drop (k + 1) m.cells) (at - (k + 1)) (omega arith) here in
    (r.0, omega (arith, r.1))
