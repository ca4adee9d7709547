-- One clause more, under the next number.
use Rattle.std.proofs.Common.{◌≡◌, ◌≢◌, ◌<◌, ◌≤◌, ◌+◌, ◌-◌, ℕ, true, false, ◌==◌, List, [], ◌∷◌, ◌++◌, Option, Some, None, refl, sym, ◌∙◌, ap, subst, arith, length, get_or}
use Rattle.std.specs.Prelude.{is_some}
use Rattle.std.proofs.lemmas.List.{get_or_append_left, get_or_push, length_push}
use Rattle.sr_base.specs.Literal.{Literal, NoRepeats}
use Rattle.sr_model.specs.Assignment.{holds_number}
use Rattle.sr_model.specs.Chain.{Numbered, clause_of}
use Rattle.sr_watch.specs.declared.parts.Part.TheVariants.{All}
use Rattle.sr_watch.specs.State.{Slot, State, slot_in, held_clause, held_cells}
use Rattle.sr_watch.specs.Changes.{IsAdded, IsReordered, IsAttachedTo}
use Rattle.sr_load.specs.Numbers.{entry_of, has_clause, IsOf}
use Rattle.sr_load.specs.Tied.{IsClauseIn, IsLed, part_of, IsTied}
use Rattle.sr_load.specs.Holding.{HoldsMore}
use Rattle.sr_load.proofs.Numbering.{by_eq, is_self, found_last, found_right}
use Rattle.sr_load.proofs.Tying.{IsTotal, part_here, part_other}
use Rattle.sr_load.proofs.Marking.{over_alike}
use Rattle.sr_load.proofs.Alike.{Within}

pub holds_from : (s g a t : State) (refs refs' : List ℕ) (at : ℕ) (ls : List Literal) → g ≡ record s { vars = g.vars } → IsAdded g a at (held_clause ls (length refs + 1)) → held_cells a ≡ held_cells g + (length ls + 4) → IsAttachedTo a t at All → held_cells t ≡ held_cells a
    → 0 < at → refs' ≡ refs ++ at ∷ [] → HoldsMore s t refs refs' ls
holds_from s g a t refs refs' at ls grown added more attached same some is = record {
  at = at;
  some = some;
  none = ap (λ (x : State). slot_in x.slots at) (sym grown) ∙ added.none;
  here = subst (λ (c : Slot). IsReordered c (slot_in t.slots at)) (part_here a.slots at (Some All) (ap (λ (c : Slot). c.held) added.here) ∙ ap (λ (c : Slot). record c { part = Some All }) added.here) (attached.clauses.each at);
  others = λ r z. subst (λ (c : Slot). IsReordered c (slot_in t.slots r)) (part_other a.slots at r (Some All) z ∙ added.others r z ∙ ap (λ (x : State). slot_in x.slots r) grown) (attached.clauses.each r);
  refs_are = is;
  lits = ap (λ (x : State). x.lits) attached.rest ∙ ap (λ (x : State). x.lits) added.rest ∙ ap (λ (x : State). x.lits) grown;
  size = attached.size ∙ ap length reasons;
  derived = λ i. subst (λ rs. (get_or rs i 0 == 0) ≡ (get_or t.reasons i 0 == 0)) reasons (over_alike a t at some attached.taken_over i);
  cells = same ∙ more ∙ ap (λ n. n + (length ls + 4)) (ap held_cells grown);
}
  where
    reasons : a.reasons ≡ s.reasons
    reasons = ap (λ (x : State). x.reasons) added.rest ∙ ap (λ (x : State). x.reasons) grown

found_both : (all : Numbered) (n m : ℕ) (ls c : List Literal) → clause_of (all ++ (n, ls) ∷ []) m ≡ Some c → n ≢ m → clause_of all m ≡ Some c
found_both all n m ls c e z = sym (found_last all n m ls z) ∙ e

found_here : (all : Numbered) (n : ℕ) (ls c : List Literal) → clause_of all n ≡ None → clause_of (all ++ (n, ls) ∷ []) n ≡ Some c → ls ≡ c
found_here all n ls c none e =
    let is : clause_of ((n, ls) ∷ []) n ≡ Some c = sym (found_right all ((n, ls) ∷ []) n none) ∙ e in
    let same : Some ls ≡ Some c = rw (is_self n n refl) at is in cc

pub here_found : (all : Numbered) (n : ℕ) (ls : List Literal) → clause_of all n ≡ None → clause_of (all ++ (n, ls) ∷ []) n ≡ Some ls
here_found all n ls none = found_right all ((n, ls) ∷ []) n none ∙ rw (is_self n n refl) refl

beyond : (all : Numbered) (refs : List ℕ) (n : ℕ) → Within all refs → length refs < n → clause_of all n ≡ None
beyond all refs n within lt = at (clause_of all n) refl
  where
    at : (o : Option (List Literal)) → clause_of all n ≡ o → clause_of all n ≡ None
    at None e = e
    at (Some c) e = let w = within n c e in absurd (omega (arith, w.1))

none_of : (alive all : Numbered) (n : ℕ) → IsOf alive all → clause_of all n ≡ None → clause_of alive n ≡ None
none_of alive all n of none = at (clause_of alive n) refl
  where
    at : (o : Option (List Literal)) → clause_of alive n ≡ o → clause_of alive n ≡ None
    at None e = e
    at (Some c) e = let bad : Some c ≡ None = sym (of n c e) ∙ none in absurd cc

pub tied_more : (all alive : Numbered) (cited : List ℕ) (s t : State) (refs refs' : List ℕ) (n : ℕ) (ls : List Literal) → n ≡ length refs + 1 → NoRepeats ls → Within all refs → IsTotal all refs → IsOf alive all → holds_number n cited ≡ false → IsTied all alive cited s.slots refs → HoldsMore s t refs refs' ls
    → IsTied (all ++ (n, ls) ∷ []) (alive ++ (n, ls) ∷ []) cited t.slots refs'
tied_more all alive cited s t refs refs' n ls size distinct within total of uncited k h = record {
  linked = λ m c e. by_eq n m
      (λ z. let is : ls ≡ c = found_here all n ls c none (ap (clause_of (all ++ (n, ls) ∷ [])) z ∙ e) in
      subst (λ x. IsClauseIn (slot_in t.slots (entry_of refs' m)) m x) is (subst (λ x. IsClauseIn (slot_in t.slots (entry_of refs' x)) x ls) z (subst (λ r. IsClauseIn (slot_in t.slots r) n ls) (sym last) (record {
        held = h.here.held;
        number = h.here.number ∙ sym size;
        set = h.here.set;
        distinct = distinct;
      }))))
      (λ z. let was = found_both all n m ls c e z in let w = within m c was in let i = k.linked m c was in let o = h.others (entry_of refs m) (other m c was) in
      subst (λ r. IsClauseIn (slot_in t.slots r) m c) (sym (old m w.0 w.1)) (record { held = o.held ∙ i.held; number = o.number ∙ i.number; set = λ l. o.set l ∙ i.set l; distinct = i.distinct }));
  led = λ r held. by_eq r h.at
      (λ e. subst (λ x. IsLed refs' x (slot_in t.slots x)) (sym e) (record {
        some = h.some;
        low = subst (λ x. 0 < x) (sym (h.here.number ∙ sym size)) (omega arith);
        high = subst (λ x. x ≤ length refs') (sym (h.here.number ∙ sym size)) (omega (arith, long));
        leads = ap (entry_of refs') (h.here.number ∙ sym size) ∙ last;
      }))
      (λ z. let o = h.others r z in let l = k.led r (sym o.held ∙ held) in record {
        some = l.some;
        low = subst (λ x. 0 < x) (sym o.number) l.low;
        high = subst (λ x. x ≤ length refs') (sym o.number) (omega (arith, l.high, long));
        leads = ap (entry_of refs') o.number ∙ old (slot_in s.slots r).number l.low l.high ∙ l.leads;
      });
  parts = λ m low high. by_eq n m
      (λ z. subst (λ x. (slot_in t.slots (entry_of refs' x)).part ≡ part_of (has_clause (alive ++ (n, ls) ∷ []) x) (holds_number x cited)) z
      (ap (λ r. (slot_in t.slots r).part) last ∙ h.here.part
      ∙ sym (ap (λ a. part_of a (holds_number n cited)) (ap is_some (here_found alive n ls (none_of alive all n of none))) ∙ ap (part_of true) uncited)))
      (λ z. let le : m ≤ length refs = omega (arith, high, long) in
      ap (λ r. (slot_in t.slots r).part) (old m low le) ∙ same m low le ∙ k.parts m low le ∙ ap (λ a. part_of a (holds_number m cited)) (sym (ap is_some (found_last alive n m ls z))));
}
  where
    long : length refs' ≡ length refs + 1
    long = ap length h.refs_are ∙ length_push refs h.at

    last : entry_of refs' n ≡ h.at
    last = ap (λ x. entry_of x n) h.refs_are ∙ get_or_push refs h.at 0 (n - 1) (omega arith)

    none : clause_of all n ≡ None
    none = beyond all refs n within (omega arith)

    old : (m : ℕ) → 0 < m → m ≤ length refs → entry_of refs' m ≡ entry_of refs m
    old m low high = ap (λ x. entry_of x m) h.refs_are ∙ get_or_append_left refs (h.at ∷ []) 0 (m - 1) (omega arith)

    held_other : (r : ℕ) → (slot_in s.slots r).held ≡ true → r ≢ h.at
    held_other r held e = let bad : true ≡ false = sym held ∙ ap (λ x. (slot_in s.slots x).held) e ∙ ap (λ (c : Slot). c.held) h.none in absurd cc

    other : (m : ℕ) (c : List Literal) → clause_of all m ≡ Some c → entry_of refs m ≢ h.at
    other m c e = held_other (entry_of refs m) (k.linked m c e).held

    same : (m : ℕ) → 0 < m → m ≤ length refs → (slot_in t.slots (entry_of refs m)).part ≡ (slot_in s.slots (entry_of refs m)).part
    same m low high = let x = total m low high in (h.others (entry_of refs m) (other m x.0 x.1)).part
