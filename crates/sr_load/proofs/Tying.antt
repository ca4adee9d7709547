-- Clauses in a propagator, as they are attached and detached.
use Rattle.std.proofs.Common.{◌≡◌, ◌≢◌, ◌<◌, ◌≤◌, ◌-◌, ℕ, suc, zero, Bool, true, false, ◌==◌, ◌||◌, List, [], ◌∷◌, ◌++◌, Option, Some, refl, sym, ◌∙◌, ap, subst, arith, length, get_or, set, get_or-set_other, get_or-set_same, length-set}
use Rattle.sr_base.specs.Literal.{Literal, has}
use Rattle.sr_model.specs.Assignment.{holds_number}
use Rattle.sr_model.specs.Chain.{Numbered, clause_of}
use Rattle.sr_watch.specs.declared.parts.Part.{Part}
use Rattle.sr_watch.specs.State.{Slot, slot_in, no_clause}
use Rattle.sr_watch.specs.Changes.{with_part, AreReordered}
use Rattle.sr_load.specs.Numbers.{entry_of, has_clause}
use Rattle.sr_load.specs.Tied.{IsClauseIn, IsLed, part_of, IsTied, AreFlagged}
use Rattle.sr_load.proofs.Numbering.{by_eq, is_self, is_not}

-- what is under a reference where one clause changes its part
pub part_here : (ss : List Slot) (at : ℕ) (p : Option Part) → (slot_in ss at).held ≡ true → slot_in (with_part ss at p) at ≡ record (slot_in ss at) { part = p }
part_here [] at p h = absurd cc
part_here (c ∷ ss) zero p h = refl
part_here (c ∷ ss) (suc at) p h = part_here ss at p h

pub part_other : (ss : List Slot) (at r : ℕ) (p : Option Part) → r ≢ at → slot_in (with_part ss at p) r ≡ slot_in ss r
part_other ss at r p ne = get_or-set_other ss at r (record (slot_in ss at) { part = p }) no_clause ne

pub record SameBut (old new : Slot) : Type 0 where
  pub held : new.held ≡ old.held
  pub lits : new.lits ≡ old.lits
  pub number : new.number ≡ old.number

pub same_but : (ss : List Slot) (at r : ℕ) (p : Option Part) → (slot_in ss at).held ≡ true → SameBut (slot_in ss r) (slot_in (with_part ss at p) r)
same_but ss at r p h = by_eq r at
    (λ e. rw (e, part_here ss at p h) (record { held = refl; lits = refl; number = refl }))
    (λ ne. rw (part_other ss at r p ne) (record { held = refl; lits = refl; number = refl }))

clause_but : (c d : Slot) (n : ℕ) (ls : List Literal) → SameBut c d → IsClauseIn c n ls → IsClauseIn d n ls
clause_but c d n ls s i = record { held = s.held ∙ i.held; number = s.number ∙ i.number; set = λ l. ap (has l) s.lits ∙ i.set l; distinct = i.distinct }

led_but : (refs : List ℕ) (at : ℕ) (c d : Slot) → c.number ≡ d.number → IsLed refs at c → IsLed refs at d
led_but refs at c d e l = record {
  some = l.some;
  low = subst (λ n. 0 < n) e l.low;
  high = subst (λ n. n ≤ length refs) e l.high;
  leads = ap (entry_of refs) (sym e) ∙ l.leads;
}

-- two numbers lead to two clauses
pub apart : (all alive : Numbered) (cited : List ℕ) (ss : List Slot) (refs : List ℕ) (m n : ℕ) (c d : List Literal) → IsTied all alive cited ss refs → clause_of all m ≡ Some c → clause_of all n ≡ Some d → entry_of refs m ≡ entry_of refs n → m ≡ n
apart all alive cited ss refs m n c d t e f same = sym (t.linked m c e).number ∙ ap (λ r. (slot_in ss r).number) same ∙ (t.linked n d f).number

-- every number up to the last has a clause
abbrev pub IsTotal : Numbered → List ℕ → Type 0
IsTotal all refs = (n : ℕ) → 0 < n → n ≤ length refs → (c : List Literal) × (clause_of all n ≡ Some c)

-- the others have the parts that they had
abbrev pub KeepOthers : ℕ → Numbered → Numbered → List ℕ → List ℕ → Type 0
KeepOthers k alive alive' cited cited' = (n : ℕ) → n ≢ k → part_of (has_clause alive' n) (holds_number n cited') ≡ part_of (has_clause alive n) (holds_number n cited)

-- one clause changes its part
pub tied_part : (all alive alive' : Numbered) (cited cited' : List ℕ) (ss : List Slot) (refs : List ℕ) (k : ℕ) (p : Option Part) → IsTotal all refs → 0 < k → k ≤ length refs → KeepOthers k alive alive' cited cited'
    → p ≡ part_of (has_clause alive' k) (holds_number k cited') → IsTied all alive cited ss refs → IsTied all alive' cited' (with_part ss (entry_of refs k) p) refs
tied_part all alive alive' cited cited' ss refs k p total low high others here t = record {
  linked = λ n c e. clause_but (slot_in ss (entry_of refs n)) (slot_in (with_part ss at p) (entry_of refs n)) n c (same_but ss at (entry_of refs n) p held) (t.linked n c e);
  led = λ r h. let s = same_but ss at r p held in led_but refs r (slot_in ss r) (slot_in (with_part ss at p) r) (sym s.number) (t.led r (sym s.held ∙ h));
  parts = λ n l h. by_eq n k
      (λ z. subst (λ m. (slot_in (with_part ss at p) (entry_of refs m)).part ≡ part_of (has_clause alive' m) (holds_number m cited')) (sym z) (ap (λ (c : Slot). c.part) (part_here ss at p held) ∙ here))
      (λ z. let there = total n l h in
      let ne : entry_of refs n ≢ at = λ e. z (apart all alive cited ss refs n k there.0 mine.0 t there.1 mine.1 e) in
      ap (λ (c : Slot). c.part) (part_other ss at (entry_of refs n) p ne) ∙ t.parts n l h ∙ sym (others n z));
}
  where
    at : ℕ
    at = entry_of refs k

    mine : (c : List Literal) × (clause_of all k ≡ Some c)
    mine = total k low high

    held : (slot_in ss at).held ≡ true
    held = (t.linked k mine.0 mine.1).held

-- clauses are reordered
pub tied_reordered : (all alive : Numbered) (cited : List ℕ) (ss ss' : List Slot) (refs : List ℕ) → AreReordered ss ss' → IsTied all alive cited ss refs → IsTied all alive cited ss' refs
tied_reordered all alive cited ss ss' refs r t = record {
  linked = λ n c e. let i = t.linked n c e in let o = r.each (entry_of refs n) in record { held = o.held ∙ i.held; number = o.number ∙ i.number; set = λ l. o.set l ∙ i.set l; distinct = i.distinct };
  led = λ at h. let o = r.each at in led_but refs at (slot_in ss at) (slot_in ss' at) (sym o.number) (t.led at (sym o.held ∙ h));
  parts = λ n l h. (r.each (entry_of refs n)).part ∙ t.parts n l h;
}

-- one number more is cited
pub holds_more : (m n : ℕ) (ns : List ℕ) → holds_number n (ns ++ m ∷ []) ≡ (holds_number n ns || (m == n))
holds_more m n [] = by_eq m n (λ e. rw (is_self m n e) refl) (λ e. rw (is_not m n e) refl)
holds_more m n (k ∷ ns) = ap (λ x. (k == n) || x) (holds_more m n ns) ∙ or_assoc (k == n) (holds_number n ns) (m == n)
  where
    or_assoc : (a b c : Bool) → (a || (b || c)) ≡ ((a || b) || c)
    or_assoc true b c = refl
    or_assoc false b c = refl

pub holds_old : (m n : ℕ) (ns : List ℕ) → n ≢ m → holds_number n (ns ++ m ∷ []) ≡ holds_number n ns
holds_old m n ns z = holds_more m n ns ∙ rw (is_not m n (λ e. z (sym e))) (at (holds_number n ns))
  where
    at : (b : Bool) → (b || false) ≡ b
    at true = refl
    at false = refl

pub holds_new : (m : ℕ) (ns : List ℕ) → holds_number m (ns ++ m ∷ []) ≡ true
holds_new m ns = holds_more m m ns ∙ rw (is_self m m refl) (at (holds_number m ns))
  where
    at : (b : Bool) → (b || true) ≡ true
    at true = refl
    at false = refl

pub flagged_more : (alive : Numbered) (next : ℕ) (cited : List ℕ) (flags : List Bool) (id : ℕ) → AreFlagged alive next cited flags → 0 < id → id ≤ length flags → has_clause alive id ≡ true
    → AreFlagged alive next (cited ++ id ∷ []) (set flags (id - 1) true)
flagged_more alive next cited flags id f low high here = record {
  flag = λ n l h. by_eq n id
      (λ e. subst (λ m. get_or (set flags (id - 1) true) (m - 1) false ≡ holds_number m (cited ++ id ∷ [])) (sym e)
      (get_or-set_same flags (id - 1) true false (omega arith) ∙ sym (holds_new id cited)))
      (λ z. let ne : n - 1 ≢ id - 1 = λ e. z (omega arith) in
      get_or-set_other flags (id - 1) (n - 1) true false ne ∙ f.flag n l (omega (arith, h, length-set flags (id - 1) true)) ∙ sym (holds_old id n cited z));
  known = λ n h. by_eq n id
      (λ e. (omega arith, omega (arith, length-set flags (id - 1) true)))
      (λ z. let r = f.known n (sym (holds_old id n cited z) ∙ h) in (r.0, omega (arith, r.1, length-set flags (id - 1) true)));
  alive_or_back = λ n h lt. by_eq n id
      (λ e. subst (λ m. has_clause alive m ≡ true) (sym e) here)
      (λ z. f.alive_or_back n (sym (holds_old id n cited z) ∙ h) lt);
}
