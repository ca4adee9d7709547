-- The clauses of a part are the alive ones.
use Rattle.std.proofs.Common.{◌≡◌, ◌<◌, ◌≤◌, ◌+◌, ℕ, Bool, true, false, List, [], ◌∷◌, ◌++◌, Option, Some, None, refl, sym, ◌∙◌, ap, subst, arith, length, get_or, take}
use Rattle.std.specs.Prelude.{is_some, filter, Result, Ok, Err, IfOk}
use Rattle.std.proofs.lemmas.List.{take_more}
use Rattle.sr_base.specs.Literal.{Literal, has}
use Rattle.sr_model.specs.Assignment.{holds_number}
use Rattle.sr_model.specs.Chain.{Numbered, clause_of}
use Rattle.sr_watch.specs.declared.parts.Part.{Part}
use Rattle.sr_watch.specs.declared.parts.Part.TheVariants.{Core, All}
use Rattle.sr_watch.specs.Parts.{counts}
use Rattle.sr_watch.specs.State.{Slot, State, slot_in, slot_at, assumed, held_cells, IsSound}
use Rattle.sr_watch.specs.Changes.{Derives}
use Rattle.sr_load.specs.declared.records.Told.{Told}
use Rattle.sr_load.specs.Loaded.{LoadedState, all_lines, all_in, next_of, alive_in}
use Rattle.sr_load.specs.Numbers.{entry_of, has_clause, IsOf}
use Rattle.sr_load.specs.Tied.{part_of, IsTied, Keeps}
use Rattle.sr_load.specs.Finding.{Finds, IsOneOf, AreAlike, of_part, PartTests}
use Rattle.sr_model.specs.Judging.{numbered_from}
use Rattle.sr_load.proofs.Numbering.{some_clause, alive_of, by_eq, row_of, all_numbered, found_between, next_row}
use Rattle.sr_load.proofs.Tying.{tied_reordered, holds_old}
use Rattle.sr_load.proofs.Marking.{entries_derived}
use Rattle.sr_load.proofs.Keeping.{keeps_moved}
use Rattle.sr_load.proofs.Conflicts.{AreApart, alive_apart, apart_kept, kept_found, found_kept, numbered_lean, refutes_up}

all_part : (a b : Bool) → counts All (part_of a b) ≡ true → a ≡ true
all_part true b h = refl
all_part false b h = absurd cc

core_part : (a b : Bool) → counts Core (part_of a b) ≡ true → (a ≡ true) × (b ≡ true)
core_part true true h = (refl, refl)
core_part true false h = absurd cc
core_part false b h = absurd cc

part_all : (a b : Bool) → a ≡ true → counts All (part_of a b) ≡ true
part_all true b h = refl
part_all false b h = absurd cc

part_core : (a b : Bool) → a ≡ true → b ≡ true → counts Core (part_of a b) ≡ true
part_core true true h g = refl
part_core true false h g = absurd cc
part_core false b h g = absurd cc

pub some_part : (a b : Bool) → is_some (part_of a b) ≡ a
some_part true b = refl
some_part false b = refl

-- an attached clause is an alive one
one_alive : (all alive : Numbered) (cited : List ℕ) (ss : List Slot) (refs : List ℕ) (r : ℕ) → IsTied all alive cited ss refs → IsOf alive all → (slot_in ss r).held ≡ true → has_clause alive (slot_in ss r).number ≡ true → IsOneOf alive (slot_in ss r)
one_alive all alive cited ss refs r t of held h =
    let c = some_clause alive (slot_in ss r).number h in
    let l = t.led r held in
    let i = t.linked (slot_in ss r).number c.0 (of (slot_in ss r).number c.0 c.1) in
    record {
      clause = c.0;
      found = c.1;
      set = λ k. ap (λ x. has k (slot_in ss x).lits) (sym l.leads) ∙ i.set k;
      distinct = i.distinct;
    }

part_is : (all alive : Numbered) (cited : List ℕ) (ss : List Slot) (refs : List ℕ) (r : ℕ) → IsTied all alive cited ss refs → (slot_in ss r).held ≡ true
    → (slot_in ss r).part ≡ part_of (has_clause alive (slot_in ss r).number) (holds_number (slot_in ss r).number cited)
part_is all alive cited ss refs r t held = let l = t.led r held in ap (λ x. (slot_in ss x).part) (sym l.leads) ∙ t.parts (slot_in ss r).number l.low l.high

abbrev pub HeldWhere : Part → List Slot → Type 0
HeldWhere p ss = (r : ℕ) → counts p (slot_in ss r).part ≡ true → (slot_in ss r).held ≡ true

abbrev pub Within : Numbered → List ℕ → Type 0
Within all refs = (n : ℕ) (c : List Literal) → clause_of all n ≡ Some c → (0 < n) × (n ≤ length refs)

pub alike_all : (all alive : Numbered) (cited : List ℕ) (ss : List Slot) (refs : List ℕ) → IsTied all alive cited ss refs → IsOf alive all → Within all refs → HeldWhere All ss → AreAlike All ss alive
alike_all all alive cited ss refs t of within held = record {
  one = λ r h. one_alive all alive cited ss refs r t of (held r h) (all_part (has_clause alive (slot_in ss r).number) (holds_number (slot_in ss r).number cited) (ap (counts All) (sym (part_is all alive cited ss refs r t (held r h))) ∙ h));
  all = λ n c e. let w = within n c (of n c e) in let i = t.linked n c (of n c e) in record {
    at = entry_of refs n;
    of_part = ap (counts All) (t.parts n w.0 w.1) ∙ part_all (has_clause alive n) (holds_number n cited) (ap is_some e);
    set = i.set;
  };
}

pub alike_core : (all alive : Numbered) (cited : List ℕ) (ss : List Slot) (refs : List ℕ) → IsTied all alive cited ss refs → IsOf alive all → Within all refs → AreApart alive → HeldWhere Core ss → AreAlike Core ss (filter (λ p. holds_number p.0 cited) alive)
alike_core all alive cited ss refs t of within apart held = record {
  one = λ r h.
      let both = core_part (has_clause alive (slot_in ss r).number) (holds_number (slot_in ss r).number cited) (ap (counts Core) (sym (part_is all alive cited ss refs r t (held r h))) ∙ h) in
      let o = one_alive all alive cited ss refs r t of (held r h) both.0 in
      record { clause = o.clause; found = kept_found (λ n. holds_number n cited) alive (slot_in ss r).number o.clause both.1 o.found; set = o.set; distinct = o.distinct };
  all = λ n c e. let k = found_kept (λ m. holds_number m cited) alive n c e apart in let w = within n c (of n c k.1) in let i = t.linked n c (of n c k.1) in record {
    at = entry_of refs n;
    of_part = ap (counts Core) (t.parts n w.0 w.1) ∙ part_core (has_clause alive n) (holds_number n cited) (ap is_some k.1) k.0;
    set = i.set;
  };
}

held_core : (s : State) → IsSound s → HeldWhere Core s.slots
held_core s sound r h = sound.held r (at (slot_at s r).part h)
  where
    at : (p : Option Part) → counts Core p ≡ true → counts All p ≡ true
    at None e = absurd cc
    at (Some q) e = refl

-- what holds of the numbers
pub within_all : (st : LoadedState) (refs : List ℕ) → length refs + 1 ≡ next_of st → Within (all_in st) refs
within_all st refs size n c e =
    let row : clause_of (numbered_from 1 (row_of st.formula.clauses (all_lines st))) n ≡ Some c = ap (λ x. clause_of x n) (sym (all_numbered st.formula.clauses (all_lines st))) ∙ e in
    let r = found_between 1 (row_of st.formula.clauses (all_lines st)) n c row in
    (omega (arith, r.0), omega (arith, r.1, size, next_row st.formula.clauses (all_lines st)))

pub alive_all : (st : LoadedState) → IsOf (alive_in st) (all_in st)
alive_all st = alive_of st.formula.clauses st.standing st.undone

pub keeps_alike : (st : LoadedState) (s : State) (refs : List ℕ) (told : List Told) (flags : List Bool) (marks : List ℕ) (reached : ℕ) (p : Part) → Keeps st s refs told flags marks reached → IsSound s → AreAlike p s.slots (of_part st p)
keeps_alike st s refs told flags marks reached Core k sound = alike_core (all_in st) (alive_in st) st.cited s.slots refs k.tied (alive_all st) (within_all st refs k.size) (alive_apart st.formula.clauses st.standing) (held_core s sound)
keeps_alike st s refs told flags marks reached All k sound = alike_all (all_in st) (alive_in st) st.cited s.slots refs k.tied (alive_all st) (within_all st refs k.size) sound.held

pub part_apart : (st : LoadedState) (p : Part) → AreApart (of_part st p)
part_apart st Core = apart_kept (λ n. holds_number n st.cited) (alive_in st) (alive_apart st.formula.clauses st.standing)
part_apart st All = alive_apart st.formula.clauses st.standing

-- propagation changes nothing that contracts see
pub keeps_derived : (st : LoadedState) (s s' : State) (refs : List ℕ) (told : List Told) (flags : List Bool) (marks : List ℕ) (reached : ℕ) → Keeps st s refs told flags marks reached → Derives s s' → held_cells s' ≡ held_cells s → IsSound s'
    → Keeps st s' refs told flags marks reached
keeps_derived st s s' refs told flags marks reached k d cells sound =
    keeps_moved st st.standing st.undone st.cited st.assumed s s' refs told flags flags marks marks reached reached k refl
    (tied_reordered (all_in st) (alive_in st) st.cited s.slots s'.slots refs d.clauses k.tied)
    (entries_derived s.lits s'.lits s.reasons s'.reasons st.assumed marks d.lits d.reasons d.assumed sound.sizes k.entries)
    k.flagged k.removed cells k.next refl

-- what is found is what is told
pub part_tests : (st : LoadedState) (s : State) (refs : List ℕ) (told : List Told) (flags : List Bool) (marks : List ℕ) (reached : ℕ) (p : Part) (b : Bool) (ns : List ℕ) → Keeps st s refs told flags marks reached → IsSound s → Finds s p b ns → PartTests st p b ns
part_tests st s refs told flags marks reached p false ns k sound f =
    (λ r. f.0 (refutes_up p s.slots (of_part st p) st.assumed (assumed s) (part_apart st p) (keeps_alike st s refs told flags marks reached p k sound) (λ l h. k.entries.set l ∙ h) r), f.1)
part_tests st s refs told flags marks reached p true ns k sound f =
    numbered_lean s (alive_in st) st.assumed ns sound (keeps_alike st s refs told flags marks reached All k sound) k.entries.set f

pub if_ok_map : {A E : Type 0} (r : Result A E) (P Q : A → Type 0) → ((a : A) → P a → Q a) → IfOk r P → IfOk r Q
if_ok_map (Ok a) P Q f h = f a h
if_ok_map (Err e) P Q f h = tt

-- numbers that are cited
pub cited_more : (ns cited : List ℕ) (i id : ℕ) → i < length ns → id ≡ get_or ns i id → holds_number id cited ≡ true → ((n : ℕ) → holds_number n (take i ns) ≡ true → holds_number n cited ≡ true)
    → (n : ℕ) → holds_number n (take (i + 1) ns) ≡ true → holds_number n cited ≡ true
cited_more ns cited i id lt is here before n h =
    let more : take (i + 1) ns ≡ take i ns ++ id ∷ [] = take_more ns i id lt ∙ ap (λ x. take i ns ++ x ∷ []) (sym is) in
    by_eq id n
    (λ e. subst (λ m. holds_number m cited ≡ true) e here)
    (λ z. before n (sym (holds_old id n (take i ns) (λ e. z (sym e))) ∙ ap (holds_number n) (sym more) ∙ h))
