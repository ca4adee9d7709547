-- Lemmas on the clauses of a part.
use Rattle.std.proofs.Common.{◌≡◌, ℕ, suc, zero, true, false, List, [], ◌∷◌, refl}
use Rattle.sr_base.specs.Literal.{Literal}
use Rattle.sr_model.specs.Refutation.{IsClosed, IsClosedFor, is_empty, has_empty}
use Rattle.sr_model.proofs.Soundness.{by_test}
use Rattle.sr_watch.specs.declared.parts.Part.{Part}
use Rattle.sr_watch.specs.Parts.{counts}
use Rattle.sr_watch.specs.State.{Slot, slot_in, clauses_in}

-- a set that is closed for each clause of a part
pub closed_all : (p : Part) (ss : List Slot) (b : List Literal) → ((r : ℕ) → counts p (slot_in ss r).part ≡ true → IsClosedFor b (slot_in ss r).lits) → IsClosed b (clauses_in p ss)
closed_all p [] b f = tt
closed_all p (c ∷ ss) b f =
    let rest : IsClosed b (clauses_in p ss) = closed_all p ss b (λ r. f (suc r)) in
    by_test (counts p c.part) (λ t. rw t (f 0 t, rest)) (λ t. rw t rest)

pub closed_one : (p : Part) (ss : List Slot) (r : ℕ) (b : List Literal) → IsClosed b (clauses_in p ss) → counts p (slot_in ss r).part ≡ true → IsClosedFor b (slot_in ss r).lits
closed_one p [] r b cl h = absurd cc
closed_one p (c ∷ ss) zero b cl h = (rw h at cl).0
closed_one p (c ∷ ss) (suc r) b cl h = by_test (counts p c.part) (λ t. closed_one p ss r b (rw t at cl).1 h) (λ t. closed_one p ss r b (rw t at cl) h)

pub none_empty : (p : Part) (ss : List Slot) → ((r : ℕ) → counts p (slot_in ss r).part ≡ true → is_empty (slot_in ss r).lits ≡ false) → has_empty (clauses_in p ss) ≡ false
none_empty p [] f = refl
none_empty p (c ∷ ss) f =
    let rest : has_empty (clauses_in p ss) ≡ false = none_empty p ss (λ r. f (suc r)) in
    by_test (counts p c.part) (λ t. let e : is_empty c.lits ≡ false = f 0 t in rw (t, e) rest) (λ t. rw t rest)

pub one_empty : (p : Part) (ss : List Slot) (r : ℕ) → counts p (slot_in ss r).part ≡ true → is_empty (slot_in ss r).lits ≡ true → has_empty (clauses_in p ss) ≡ true
one_empty p [] r h e = absurd cc
one_empty p (c ∷ ss) zero h e = rw (h, e) refl
one_empty p (c ∷ ss) (suc r) h e =
    let rest : has_empty (clauses_in p ss) ≡ true = one_empty p ss r h e in
    by_test (counts p c.part) (λ t. rw t (by_test (is_empty c.lits) (λ u. rw u refl) (λ u. rw u rest))) (λ t. rw t rest)
