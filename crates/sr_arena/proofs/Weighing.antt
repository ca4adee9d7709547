-- Lemmas on lists of cells and what they weigh.
use Rattle.std.proofs.Common.{◌≡◌, ◌≢◌, ◌<◌, ◌+◌, ℕ, zero, suc, cond, List, [], ◌∷◌, ◌++◌, append-nil, true, refl, sym, ◌∙◌, subst, ap, arith, length, get_or, set}
use Rattle.std.specs.List.{swap}
use Rattle.std.proofs.lemmas.List.Edits.{length-swap}
use Rattle.std.proofs.lemmas.List.{get_or_past}
use Rattle.std.proofs.lemmas.List.Elements.{filter-append}
use Rattle.sr_arena.specs.Cells.{Cell, gone, weight, weights, held_in, Memory, cell_at, IsAdded}
use Rattle.sr_arena.specs.Layout.{Laid, laid_at, lay, with_cell, gones}

pub weights_set : (cs : List Cell) (at : ℕ) (c : Cell) → at < length cs → weights (set cs at c) + weight (get_or cs at gone) ≡ weights cs + weight c
weights_set [] at c h = absurd (omega arith)
weights_set (d ∷ cs) zero c h = omega arith
weights_set (d ∷ cs) (suc at) c h = omega (arith, weights_set cs at c (omega arith))

pub weights_append : (cs ds : List Cell) → weights (cs ++ ds) ≡ weights cs + weights ds
weights_append [] ds = omega arith
weights_append (c ∷ cs) ds = omega (arith, weights_append cs ds)

pub weights_gones : (n : ℕ) → weights (gones n) ≡ 0
weights_gones zero = refl
weights_gones (suc n) = omega (arith, weights_gones n)

-- the cells of a clause's words: only the one at its reference weighs
abbrev pub around : Cell → ℕ → List Cell
around c n = gone ∷ c ∷ gones n

pub weights_around : (cs : List Cell) (c : Cell) (n : ℕ) → weights (cs ++ around c n) ≡ weights cs + weight c
weights_around cs c n = omega (arith, weights_append cs (around c n), weights_gones n)

-- the held clauses among them
held_gones : (n : ℕ) → held_in (gones n) ≡ []
held_gones zero = refl
held_gones (suc n) = held_gones n

pub held_around : (cs : List Cell) (c : Cell) (n : ℕ) → c.held ≡ true → held_in (cs ++ around c n) ≡ held_in cs ++ c ∷ []
held_around cs c n h =
    filter-append (λ (x : Cell). x.held) cs (around c n)
    ∙ ap (λ t. held_in cs ++ cond t (c ∷ held_in (gones n)) (held_in (gones n))) h
    ∙ ap (λ ds. held_in cs ++ (c ∷ ds)) (held_gones n)

pub held_passed : (cs : List Cell) (n : ℕ) → held_in (cs ++ around gone n) ≡ held_in cs
held_passed cs n = filter-append (λ (x : Cell). x.held) cs (around gone n) ∙ ap (λ ds. held_in cs ++ ds) (held_gones n) ∙ append-nil (held_in cs)

gones_gone : (n at : ℕ) → get_or (gones n) at gone ≡ gone
gones_gone zero at = refl
gones_gone (suc n) zero = refl
gones_gone (suc n) (suc at) = gones_gone n at

pub around_here : (cs : List Cell) (c : Cell) (n at : ℕ) → at ≡ length cs + 1 → get_or (cs ++ around c n) at gone ≡ c
around_here [] c n at e = rw e refl
around_here (d ∷ cs) c n zero e = absurd (omega arith)
around_here (d ∷ cs) c n (suc at) e = around_here cs c n at (omega arith)

pub around_other : (cs : List Cell) (c : Cell) (n at : ℕ) → at ≢ length cs + 1 → get_or (cs ++ around c n) at gone ≡ get_or cs at gone
around_other [] c n zero ne = refl
around_other [] c n (suc zero) ne = absurd (ne refl)
around_other [] c n (suc (suc at)) ne = gones_gone n at
around_other (d ∷ cs) c n zero ne = refl
around_other (d ∷ cs) c n (suc at) ne = around_other cs c n at (λ e. ne (ap suc e ∙ omega arith))

-- a reference of a held clause was given
pub held_within : (cs : List Cell) (at : ℕ) → (get_or cs at gone).held ≡ true → at < length cs
held_within [] at e = absurd cc
held_within (c ∷ cs) zero e = omega arith
held_within (c ∷ cs) (suc at) e = omega (arith, held_within cs at e)

-- a held clause weighs its literals and four
pub weight_held : (c : Cell) → c.held ≡ true → weight c ≡ length c.lits + 4
weight_held c e = rw e refl

pub weight_swapped : (c : Cell) (i j : ℕ) → weight (record c { lits = swap c.lits i j }) ≡ weight c
weight_swapped c i j = rw (length-swap c.lits i j) refl

-- what contracts see of a memory over regions
abbrev pub memory_of : Laid → ℕ → Memory
memory_of r most = record { cells = r.cells; used = r.used; most = most; room = r.room }

-- a held cell is written
pub record Wrote (r r' : Laid) (m : Memory) (at : ℕ) (c : Cell) : Type 0 where
  pub held : (laid_at r at).held ≡ true
  pub inside : weights r'.cells + weight (laid_at r at) ≡ weights r.cells + weight c
  pub same : r.cells ≡ m.cells

pub wrote : (r r' : Laid) (m : Memory) (most i at : ℕ) (c : Cell) → memory_of r most ≡ m → i ≡ at → (cell_at m at).held ≡ true → r' ≡ lay r i c → Wrote r r' m i c
wrote r r' m most i at c view e held put =
    let same : r.cells ≡ m.cells = ap (λ (x : Memory). x.cells) view in
    let here : (laid_at r i).held ≡ true = rw (same, e) held in
    record {
      held = here;
      inside = rw put (weights_set r.cells i c (held_within r.cells i here));
      same = same;
    }

-- a cell that weighs the same is written
pub record Kept (r r' : Laid) (m : Memory) : Type 0 where
  pub inside : weights r.cells ≡ weights r'.cells
  pub outside : weights r'.cells ≡ weights m.cells

pub kept : (r r' : Laid) (m : Memory) (most i at : ℕ) (c : Cell) → memory_of r most ≡ m → i ≡ at → (cell_at m at).held ≡ true → r' ≡ lay r i c → weight c ≡ weight (laid_at r i) → Kept r r' m
kept r r' m most i at c view e held put w =
    let f = wrote r r' m most i at c view e held put in
    let same : weights r.cells ≡ weights r'.cells = omega (arith, f.inside, w) in
    record { inside = same; outside = sym same ∙ ap weights f.same }

pub record Freed (r r' : Laid) (m : Memory) (at : ℕ) : Type 0 where
  pub inside : weights r'.cells + (length (laid_at r at).lits + 4) ≡ weights r.cells
  pub outside : weights r'.cells + (length (cell_at m at).lits + 4) ≡ weights m.cells

pub freed : (r r' : Laid) (m : Memory) (most i at : ℕ) → memory_of r most ≡ m → i ≡ at → (cell_at m at).held ≡ true → r' ≡ lay r i gone → Freed r r' m i
freed r r' m most i at view e held put =
    let f = wrote r r' m most i at gone view e held put in
    let n : weights r'.cells + (length (laid_at r i).lits + 4) ≡ weights r.cells = omega (arith, f.inside, weight_held (laid_at r i) f.held) in
    record { inside = n; outside = subst (λ cs. weights r'.cells + (length (get_or cs i gone).lits + 4) ≡ weights cs) f.same n }

pub record Grown (r r' : Laid) (m : Memory) (n : ℕ) : Type 0 where
  pub inside : weights r'.cells ≡ weights r.cells + n
  pub outside : weights r'.cells ≡ weights m.cells + n

pub grown : (r r' : Laid) (m : Memory) (most : ℕ) (c : Cell) → memory_of r most ≡ m → r' ≡ with_cell r c r'.room → Grown r r' m (weight c)
grown r r' m most c view put =
    let n : weights r'.cells ≡ weights r.cells + weight c = rw put (weights_around r.cells c (length c.lits)) in
    record { inside = n; outside = n ∙ ap (λ (x : Memory). weights x.cells + weight c) view }

-- a clause is added
pub added : (r r' : Laid) (m n : Memory) (most at : ℕ) (c : Cell) → memory_of r most ≡ m → memory_of r' most ≡ n → r' ≡ with_cell r c r'.room → at ≡ length r.cells + 1 → c.held ≡ true → IsAdded m n at c
added r r' m n most at c view view' put e live =
    subst (λ x. IsAdded x n at c) view
    (subst (λ x. IsAdded (memory_of r most) x at c) view'
    (rw put (record {
      none = get_or_past r.cells at gone (omega arith);
      here = around_here r.cells c (length c.lits) at e;
      others = λ k ne. around_other r.cells c (length c.lits) k (λ f. ne (f ∙ sym e));
      order = held_around r.cells c (length c.lits) live;
      last = λ k h. omega (arith, held_within r.cells k h);
      used = refl;
      most = refl;
    })))
