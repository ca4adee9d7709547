-- Clauses by reference, as the memory keeps them and as contracts see them.
use Rattle.std.proofs.Common.{Bool, ◌≡◌, ◌≢◌, ◌+◌, ℕ, suc, zero, true, cond, ◌==◌, List, [], ◌∷◌, ◌++◌, Option, refl, sym, ◌∙◌, ap, arith, get_or, set, get_or-set_other}
use Rattle.std.specs.Prelude.{map}
use Rattle.std.proofs.Math.ListN.{get_or-map}
use Rattle.std.proofs.lemmas.List.{map-set, set-set}
use Rattle.sr_arena.specs.Cells.{Cell, Memory, cell_at, gone, put}
use Rattle.sr_arena.specs.Cells as arena
use Rattle.sr_arena.proofs.Standing.{put_here}
use Rattle.sr_model.specs.Assignment.{holds_number}
use Rattle.sr_model.proofs.Soundness.{by_test}
use Rattle.sr_watch.specs.declared.parts.Part.{Part}
use Rattle.sr_watch.specs.declared.parts.Part.TheVariants.{Core, All}
use Rattle.sr_watch.specs.Parts.{is_core}
use Rattle.sr_watch.specs.State.{Slot, slot_in, weights, no_clause}
use Rattle.sr_watch.specs.Changes.{with_part}
use Rattle.sr_watch.specs.Inside.{part_of, slot_of, slots_of, AreKnown}

-- what stands under a reference
pub slot_is : (m : Memory) (r : ℕ) → slot_in (slots_of m) r ≡ slot_of (cell_at m r)
slot_is m r = get_or-map slot_of m.cells r gone

pub slots_put : (m : Memory) (at : ℕ) (c : Cell) → slots_of (put m at c) ≡ set (slots_of m) at (slot_of c)
slots_put m at c = map-set slot_of m.cells at c

pub weights_are : (cs : List Cell) → arena.weights cs ≡ weights (map slot_of cs)
weights_are [] = refl
weights_are (c ∷ cs) = ap (λ x. arena.weight c + x) (weights_are cs)

-- the marks say the part
pub core_or_all : (p : Part) → cond (is_core p) Core All ≡ p
core_or_all Core = refl
core_or_all All = refl

pub part_set : (m : Memory) (at : ℕ) (p : Option Part) (mark flag : Bool) → part_of mark flag ≡ p → arena.IsHeld m at
    → slots_of (put (put m at (record (cell_at m at) { flagged = flag })) at (record (cell_at (put m at (record (cell_at m at) { flagged = flag })) at) { marked = mark })) ≡ with_part (slots_of m) at p
part_set m at p mark flag is h =
    let c1 : Cell = record (cell_at m at) { flagged = flag } in
    let c2 : Cell = record c1 { marked = mark } in
    let here : cell_at (put m at c1) at ≡ c1 = put_here m at c1 h in
    let one : slots_of (put (put m at c1) at c2) ≡ set (slots_of m) at (slot_of c2) = slots_put (put m at c1) at c2 ∙ ap (λ x. set x at (slot_of c2)) (slots_put m at c1) ∙ set-set (slots_of m) at (slot_of c1) (slot_of c2) in
    let two : slot_of c2 ≡ record (slot_in (slots_of m) at) { part = p } = rw (slot_is m at) (ap (λ (q : Option Part). record (slot_of (cell_at m at)) { part = q }) is) in
    ap (λ (c : Cell). slots_of (put (put m at c1) at (record c { marked = mark }))) here ∙ one ∙ ap (set (slots_of m) at) two

-- another part changes nothing else
pub part_here : (ss : List Slot) (at : ℕ) (p : Option Part) → (slot_in ss at).held ≡ true → slot_in (with_part ss at p) at ≡ record (slot_in ss at) { part = p }
part_here [] at p h = absurd cc
part_here (c ∷ ss) zero p h = refl
part_here (c ∷ ss) (suc at) p h = part_here ss at p h

pub part_other : (ss : List Slot) (at r : ℕ) (p : Option Part) → r ≢ at → slot_in (with_part ss at p) r ≡ slot_in ss r
part_other ss at r p ne = get_or-set_other ss at r (record (slot_in ss at) { part = p }) no_clause ne

-- the same clauses are known
pub known_same : (m n : Memory) (known : List ℕ) → ((r : ℕ) → (cell_at n r).held ≡ (cell_at m r).held) → AreKnown m known → AreKnown n known
known_same m n known same k = record {
  held = λ i lt. same (get_or known i 0) ∙ k.held i lt;
  all = λ r h. k.all r (sym (same r) ∙ h);
}

-- a clause that is known
pub knows_push : (r at : ℕ) (known : List ℕ) → holds_number r known ≡ true → holds_number r (known ++ at ∷ []) ≡ true
knows_push r at [] h = absurd cc
knows_push r at (k ∷ known) h = by_test (k == r) (λ t. grind arith) (λ f. grind (arith, knows_push r at known (rw f at h)))
