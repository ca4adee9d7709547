-- Copies, as they are made, detached and asked.
use Rattle.std.proofs.Common.{suc, zero, ◌≡◌, ◌≢◌, ◌<◌, ◌≤◌, ◌-◌, ℕ, Bool, true, false, List, [], ◌∷◌, ◌++◌, Option, Some, None, refl, sym, ◌∙◌, ap, subst, arith, length, get_or, set, take, get_or-set_same, get_or-set_other}
use Rattle.std.proofs.lemmas.List.{take_all, take-take, take-append-le, length-take}
use Rattle.sr_base.specs.Literal.{Literal, same}
use Rattle.sr_watch.specs.declared.parts.Part.{Part}
use Rattle.sr_watch.specs.declared.parts.Part.TheVariants.{All}
use Rattle.sr_watch.specs.State.{Slot, State, slot_in, held_clause, IsSound}
use Rattle.sr_watch.specs.Changes.{IsAdded, with_part, IsReordered, AreReordered, IsAttachedTo, IsDetached, Derives}
use Rattle.sr_load.specs.Numbers.{entry_of}
use Rattle.sr_load.specs.Tied.{AreAssumed}
use Rattle.sr_load.specs.Finding.{Finds}
use Rattle.sr_load.specs.Copies.{Copied, Begins, AreLed, KeepsCopies, copy_of, IsCopied, AreSameCopies, IsFound}
use Rattle.sr_load.proofs.Numbering.{by_eq}
use Rattle.sr_load.proofs.Tying.{part_here, part_other, same_but}
use Rattle.sr_load.proofs.Marking.{over_alike, entries_alike, entries_derived, entries_detached, no_marks}

pub reordered_self : (c : Slot) → IsReordered c c
reordered_self c = record { held = refl; number = refl; part = refl; size = refl; set = λ l. refl }

pub reordered_twice : (a b c : Slot) → IsReordered a b → IsReordered b c → IsReordered a c
reordered_twice a b c r q = record { held = q.held ∙ r.held; number = q.number ∙ r.number; part = q.part ∙ r.part; size = q.size ∙ r.size; set = λ l. q.set l ∙ r.set l }

pub all_reordered_twice : (a b c : List Slot) → AreReordered a b → AreReordered b c → AreReordered a c
all_reordered_twice a b c r q = record { each = λ n. reordered_twice (slot_in a n) (slot_in b n) (slot_in c n) (r.each n) (q.each n) }

pub all_reordered_self : (a b : List Slot) → b ≡ a → AreReordered a b
all_reordered_self a b e = subst (λ x. AreReordered a x) (sym e) (record { each = λ n. reordered_self (slot_in a n) })

-- one copy more
pub led_copied : (old new : Copied) (id : ℕ) (ls : List Literal) → 0 < id → entry_of old.refs id ≡ 0 → AreLed old.slots old.refs → IsCopied old new id ls → AreLed new.slots new.refs
led_copied old new id ls low fresh l c = record {
  some = λ r h. by_eq r c.at (λ e. subst (λ x. 0 < x) (sym e) c.some) (λ z. l.some r (was r z h));
  low = λ r h. by_eq r c.at
      (λ e. subst (λ n. 0 < n) (sym (ap (λ x. (slot_in new.slots x).number) e ∙ c.here.number)) low)
      (λ z. subst (λ n. 0 < n) (sym (c.others r z).number) (l.low r (was r z h)));
  leads = λ r h. by_eq r c.at
      (λ e. ap (λ x. entry_of new.refs (slot_in new.slots x).number) e ∙ ap (entry_of new.refs) c.here.number ∙ c.entry ∙ sym e)
      (λ z. let old_leads = l.leads r (was r z h) in
      let ne : (slot_in old.slots r).number ≢ id = λ e. let zero_r : r ≡ 0 = sym old_leads ∙ ap (entry_of old.refs) e ∙ fresh in let up = l.some r (was r z h) in omega arith in
      ap (entry_of new.refs) (c.others r z).number ∙ c.entries (slot_in old.slots r).number (l.low r (was r z h)) ne ∙ old_leads);
  held = λ n up some. by_eq n id
      (λ e. ap (λ x. (slot_in new.slots x).held) (ap (entry_of new.refs) e ∙ c.entry) ∙ c.here.held)
      (λ z. let same : entry_of new.refs n ≡ entry_of old.refs n = c.entries n up z in
      let there : (slot_in old.slots (entry_of old.refs n)).held ≡ true = l.held n up (λ e. some (same ∙ e)) in
      let ne : entry_of old.refs n ≢ c.at = λ e. let bad : true ≡ false = sym there ∙ ap (λ x. (slot_in old.slots x).held) e ∙ ap (λ (s : Slot). s.held) c.none in absurd cc in
      ap (λ x. (slot_in new.slots x).held) same ∙ (c.others (entry_of old.refs n) ne).held ∙ there);
}
  where
    was : (r : ℕ) → r ≢ c.at → (slot_in new.slots r).held ≡ true → (slot_in old.slots r).held ≡ true
    was r z h = sym (c.others r z).held ∙ h

-- a clause is held and attached, and what follows is derived
pub copied_from : (s g a t r : State) (refs reached refs' : List ℕ) (given given' : List Literal) (id at : ℕ) (ls : List Literal) → g.slots ≡ s.slots → IsAdded g a at (held_clause ls id) → IsAttachedTo a t at All → Derives t r → 0 < at → 0 < id → ((i : ℕ) → get_or reached i 0 ≡ get_or refs i 0)
    → id - 1 < length reached → refs' ≡ set reached (id - 1) at → IsCopied (record { slots = s.slots; refs = refs; assumed = given }) (record { slots = r.slots; refs = refs'; assumed = given' }) id ls
copied_from s g a t r refs reached refs' given given' id at ls grown added attached derived some low same lt is = record {
  at = at;
  some = some;
  none = ap (λ ss. slot_in ss at) (sym grown) ∙ added.none;
  here = reordered_twice (copy_of ls id) (slot_in t.slots at) (slot_in r.slots at)
      (subst (λ (c : Slot). IsReordered c (slot_in t.slots at)) (part_here a.slots at (Some All) held ∙ ap (λ (c : Slot). record c { part = Some All }) added.here) (attached.clauses.each at))
      (derived.clauses.each at);
  others = λ n z. reordered_twice (slot_in s.slots n) (slot_in t.slots n) (slot_in r.slots n)
      (subst (λ (c : Slot). IsReordered c (slot_in t.slots n)) (part_other a.slots at n (Some All) z ∙ added.others n z ∙ ap (λ ss. slot_in ss n) grown) (attached.clauses.each n))
      (derived.clauses.each n);
  entry = ap (λ x. entry_of x id) is ∙ get_or-set_same reached (id - 1) at 0 lt;
  entries = λ n up z. let ne : n - 1 ≢ id - 1 = λ e. z (omega arith) in ap (λ x. entry_of x n) is ∙ get_or-set_other reached (id - 1) (n - 1) at 0 ne ∙ same (n - 1);
}
  where
    held : (slot_in a.slots at).held ≡ true
    held = ap (λ (c : Slot). c.held) added.here

pub entries_in : (s t : State) (given : List Literal) (marks : List ℕ) → t.lits ≡ s.lits → t.reasons ≡ s.reasons → AreAssumed s.lits s.reasons given marks → AreAssumed t.lits t.reasons given marks
entries_in s t given marks e f a = subst (λ x. AreAssumed x t.reasons given marks) (sym e) (subst (λ x. AreAssumed s.lits x given marks) (sym f) a)

pub entries_attached : (s t : State) (at : ℕ) (given : List Literal) (marks : List ℕ) → 0 < at → IsAttachedTo s t at All → AreAssumed s.lits s.reasons given marks → AreAssumed t.lits t.reasons given marks
entries_attached s t at given marks some a e = subst (λ x. AreAssumed x t.reasons given marks) (sym (ap (λ (x : State). x.lits) a.rest)) (entries_alike s.lits s.reasons t.reasons given marks (sym a.size) (over_alike s t at some a.taken_over) e)

pub entries_more : (s t : State) (given : List Literal) (marks : List ℕ) → Derives s t → IsSound t → AreAssumed s.lits s.reasons given marks → AreAssumed t.lits t.reasons given marks
entries_more s t given marks d sound a = entries_derived s.lits t.lits s.reasons t.reasons given marks d.lits d.reasons d.assumed sound.sizes a

-- the entries after a clause was copied
pub entries_copied : (u g a t r : State) (at : ℕ) (given : List Literal) (marks : List ℕ) → g ≡ record u { vars = g.vars } → a ≡ record g { slots = a.slots } → 0 < at → IsAttachedTo a t at All → Derives t r → IsSound r → AreAssumed u.lits u.reasons given marks
    → AreAssumed r.lits r.reasons given marks
entries_copied u g a t r at given marks grown added some attached derived sound e = entries_more t r given marks derived sound
    (entries_attached a t at given marks some attached
    (entries_in u a given marks (ap (λ (x : State). x.lits) added ∙ ap (λ (x : State). x.lits) grown) (ap (λ (x : State). x.reasons) added ∙ ap (λ (x : State). x.reasons) grown) e))

-- the same copies, where each is led
pub led_same : (c d : Copied) → AreLed c.slots c.refs → AreSameCopies c d → AreLed d.slots d.refs
led_same c d l e = record {
  some = λ r h. l.some r (ap (λ ss. (slot_in ss r).held) (sym e.slots) ∙ h);
  low = λ r h. subst (λ ss. 0 < (slot_in ss r).number) (sym e.slots) (l.low r (ap (λ ss. (slot_in ss r).held) (sym e.slots) ∙ h));
  leads = λ r h. ap (λ ss. entry_of d.refs (slot_in ss r).number) e.slots ∙ e.entries (slot_in c.slots r).number ∙ l.leads r (ap (λ ss. (slot_in ss r).held) (sym e.slots) ∙ h);
  held = λ n up some. ap (λ ss. (slot_in ss (entry_of d.refs n)).held) e.slots ∙ ap (λ x. (slot_in c.slots x).held) (e.entries n) ∙ l.held n up (λ z. some (e.entries n ∙ z));
}

-- a copy is detached
pub led_detached : (ss : List Slot) (refs : List ℕ) (at : ℕ) (p : Option Part) → (slot_in ss at).held ≡ true → AreLed ss refs → AreLed (with_part ss at p) refs
led_detached ss refs at p held l = record {
  some = λ r h. l.some r (sym (same_but ss at r p held).held ∙ h);
  low = λ r h. subst (λ n. 0 < n) (sym (same_but ss at r p held).number) (l.low r (sym (same_but ss at r p held).held ∙ h));
  leads = λ r h. ap (entry_of refs) (same_but ss at r p held).number ∙ l.leads r (sym (same_but ss at r p held).held ∙ h);
  held = λ n up some. (same_but ss at (entry_of refs n) p held).held ∙ l.held n up some;
}

pub led_reordered : (ss ss' : List Slot) (refs : List ℕ) → AreReordered ss ss' → AreLed ss refs → AreLed ss' refs
led_reordered ss ss' refs o l = record {
  some = λ r h. l.some r (sym (o.each r).held ∙ h);
  low = λ r h. subst (λ n. 0 < n) (sym (o.each r).number) (l.low r (sym (o.each r).held ∙ h));
  leads = λ r h. ap (entry_of refs) (o.each r).number ∙ l.leads r (sym (o.each r).held ∙ h);
  held = λ n up some. (o.each (entry_of refs n)).held ∙ l.held n up some;
}

-- literals that begin others
pub begins_all : (xs : List Literal) → Begins xs xs
begins_all xs = take_all (length xs) xs (omega arith)

pub begins_under : (xs ys zs : List Literal) → Begins xs ys → Begins ys zs → Begins xs zs
begins_under xs ys zs e f =
    let le : length xs ≤ length ys = omega (arith, ap length e, length-take (length xs) ys) in
    sym (take-take (length xs) (length ys) zs le) ∙ ap (take (length xs)) f ∙ e

pub begins_push : (xs ys : List Literal) (l : Literal) → Begins xs ys → Begins xs (ys ++ l ∷ [])
begins_push xs ys l e = take-append-le (length xs) ys (l ∷ []) (omega (arith, ap length e, length-take (length xs) ys)) ∙ e

pub begins_taken : (m : ℕ) (xs : List Literal) → Begins (take m xs) xs
begins_taken zero xs = refl
begins_taken (suc m) [] = refl
begins_taken (suc m) (x ∷ xs) = ap (λ ys. x ∷ ys) (begins_taken m xs)

begins_cons : (x y : Literal) (xs ys : List Literal) (m : ℕ) → (Begins xs ys → Begins (take m xs) (take m ys)) → Begins (x ∷ xs) (y ∷ ys) → Begins (x ∷ take m xs) (y ∷ take m ys)
begins_cons x y xs ys m f e = let one : y ≡ x = cc in let two : take (length xs) ys ≡ xs = cc in ap (λ z. z ∷ take (length (take m xs)) (take m ys)) one ∙ ap (λ zs. x ∷ zs) (f two)

pub begins_both : (m : ℕ) (xs ys : List Literal) → Begins xs ys → Begins (take m xs) (take m ys)
begins_both zero xs ys e = refl
begins_both (suc m) [] ys e = refl
begins_both (suc m) (x ∷ xs) [] e = absurd cc
begins_both (suc m) (x ∷ xs) (y ∷ ys) e = begins_cons x y xs ys m (begins_both m xs ys) e

pub begins_none : (xs ys : List Literal) → ys ≡ [] → Begins xs ys → xs ≡ []
begins_none [] ys e b = refl
begins_none (x ∷ xs) ys e b = let bad : take (length (x ∷ xs)) [] ≡ x ∷ xs = subst (λ zs. take (length (x ∷ xs)) zs ≡ x ∷ xs) e b in absurd cc

pub keeps_detached : (s t : State) (refs : List ℕ) (given : List Literal) (marks : List ℕ) (at n : ℕ) → given ≡ [] → (slot_in s.slots at).held ≡ true → IsDetached s t at n → KeepsCopies s refs given marks → KeepsCopies t refs given marks
keeps_detached s t refs given marks at n none held d k =
    let unmarked : marks ≡ [] = no_marks s.lits s.reasons given marks none k.entries in
    let before : AreAssumed s.lits s.reasons [] [] = subst (λ x. AreAssumed s.lits s.reasons [] x) unmarked (subst (λ x. AreAssumed s.lits s.reasons x marks) none k.entries) in
    record {
      led = subst (λ ss. AreLed ss refs) (sym d.slots) (led_detached s.slots refs at None held k.led);
      entries = subst (λ x. AreAssumed t.lits t.reasons x marks) (sym none) (subst (λ x. AreAssumed t.lits t.reasons [] x) (sym unmarked) (entries_detached s t at n d before));
    }

-- what the copies found
pub found_now : (s : State) (given : List Literal) (marks ns : List ℕ) (b : Bool) → IsSound s → AreAssumed s.lits s.reasons given marks → Finds s All b ns → IsFound s.slots given b ns
found_now s given marks ns b sound a f = record { state = s; slots_are = refl; set = a.set; sound = sound; finds = f }
