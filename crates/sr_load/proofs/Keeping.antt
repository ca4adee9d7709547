-- What is kept of the lines, through each call.
use Rattle.std.proofs.Common.{◌≡◌, ◌≢◌, ◌<◌, ◌≤◌, ◌+◌, ◌-◌, ℕ, suc, zero, Bool, true, false, List, [], ◌∷◌, ◌++◌, Option, Some, None, refl, sym, ◌∙◌, ap, subst, arith, length, get_or, set, take, drop, length-set}
use Rattle.std.specs.Prelude.{is_some}
use Rattle.std.proofs.lemmas.List.{append_assoc, get_or_read, length-append}
use Rattle.sr_base.specs.Literal.{Literal, has, SameSet, NoRepeats}
use Rattle.sr_model.specs.Assignment.{holds_number}
use Rattle.sr_model.specs.Refutation.{is_empty}
use Rattle.sr_model.specs.Chain.{clauses, clause_of}
use Rattle.sr_model.specs.Judging.{cells_of}
use Rattle.sr_model.specs.Dsr.{Lemma}
use Rattle.sr_model.specs.Dimacs.{Formula}
use Rattle.sr_model.proofs.Soundness.{by_test}
use Rattle.sr_watch.specs.declared.parts.Part.TheVariants.{Core, All}
use Rattle.sr_watch.specs.Parts.{counts}
use Rattle.sr_watch.specs.State.{State, slot_in, slot_at, lits_at, held_cells, weights, IsHeld, IsAttached}
use Rattle.sr_watch.specs.Changes.{with_part, AreReordered, IsAttachedTo, IsDetached}
use Rattle.sr_trimming.specs.Reordered.{IsReordered}
use Rattle.sr_trimming.specs.Loading.{Done, joined, removed, passed, Standing, at_start, after_done, after_all}
use Rattle.sr_trimming.specs.From.{all_loaded, Place, place_of, LemmasHavePivots}
use Rattle.sr_load.specs.declared.records.Event.{Event}
use Rattle.sr_load.specs.declared.records.Told.{Told}
use Rattle.sr_load.specs.Loaded.{LoadedState, all_lines, all_in, standing_in, next_of, alive_in, citing}
use Rattle.sr_load.specs.Taking.{TellsNumber, TookLine}
use Rattle.sr_load.specs.Numbers.{entry_of, has_clause}
use Rattle.sr_load.specs.Records.{done_of, done_in, loaded_at, AreTold, RemoveAlive}
use Rattle.sr_load.specs.Tied.{part_of, IsTied, AreAssumed, AreFlagged, Keeps}
use Rattle.sr_load.proofs.Numbering.{by_eq, is_self, found_last, found_right, without_other, without_self, some_clause, no_clause_of, after_append, alive_below, in_all, next_row, lemma_clauses}
use Rattle.sr_load.proofs.Lines.{IsToldOf, told_at, told_length, last_stands, last_back, next_rises, told_nonempty, remove_split}
use Rattle.sr_load.proofs.Tying.{IsTotal, tied_part, tied_reordered, flagged_more, holds_old, holds_new}
use Rattle.sr_load.proofs.Marking.{over_alike, entries_alike, entries_detached, no_marks}

-- each number has a clause
pub total : (st : LoadedState) (refs : List ℕ) → length refs + 1 ≡ next_of st → IsTotal (all_in st) refs
total st refs size n low high = in_all st.formula.clauses (all_lines st) n low (omega (arith, size))

-- a number that is alive
pub alive_known : (st : LoadedState) (refs : List ℕ) (n : ℕ) → length refs + 1 ≡ next_of st → has_clause (alive_in st) n ≡ true → (0 < n) × (n ≤ length refs)
alive_known st refs n size h =
    let c = some_clause (alive_in st) n h in
    let r = alive_below st.formula.clauses st.standing n c.0 c.1 in
    (r.0, omega (arith, r.1, size, next_rises st.formula.clauses st.standing st.undone))

pub alive_within : (st : LoadedState) (s : State) (refs : List ℕ) (told : List Told) (flags : List Bool) (marks : List ℕ) (reached n : ℕ) → Keeps st s refs told flags marks reached → has_clause (alive_in st) n ≡ true → (0 < n) × (n ≤ length refs)
alive_within st s refs told flags marks reached n k h = alive_known st refs n k.size h

-- a reference that is read
pub read_at : (refs : List ℕ) (n at : ℕ) → 0 < n → n ≤ length refs → at ≡ get_or refs (n - 1) at → at ≡ entry_of refs n
read_at refs n at low high is = get_or_read refs (n - 1) at (omega arith) is 0

-- the clause of a number
pub clause_held : (st : LoadedState) (s : State) (refs : List ℕ) (told : List Told) (flags : List Bool) (marks : List ℕ) (reached n at : ℕ) → Keeps st s refs told flags marks reached → 0 < n → n ≤ length refs
    → at ≡ get_or refs (n - 1) at → IsHeld s at
clause_held st s refs told flags marks reached n at k low high is =
    let there = total st refs k.size n low high in
    subst (λ r. (slot_in s.slots r).held ≡ true) (sym (read_at refs n at low high is)) (k.tied.linked n there.0 there.1).held

pub clause_told : (st : LoadedState) (s : State) (refs : List ℕ) (told : List Told) (flags : List Bool) (marks : List ℕ) (reached n at : ℕ) (c d : List Literal) → Keeps st s refs told flags marks reached → 0 < n → n ≤ length refs
    → at ≡ get_or refs (n - 1) at → SameSet c (lits_at s at) → NoRepeats c → clause_of (all_in st) n ≡ Some d → IsReordered d c
clause_told st s refs told flags marks reached n at c d k low high is same distinct e =
    let i = k.tied.linked n d e in record {
      same_literals = λ l. sym (i.set l) ∙ ap (λ r. has l (slot_in s.slots r).lits) (sym (read_at refs n at low high is)) ∙ sym (same l);
      none_twice = i.distinct;
      none_twice_in_other = distinct;
    }

-- an alive clause is attached
part_attached : (alive cited : Bool) → alive ≡ true → counts All (part_of alive cited) ≡ true
part_attached true cited e = refl
part_attached false cited e = absurd cc

part_loose : (alive cited : Bool) → alive ≡ false → part_of alive cited ≡ None
part_loose false cited e = refl
part_loose true cited e = absurd cc

pub alive_attached : (st : LoadedState) (s : State) (refs : List ℕ) (told : List Told) (flags : List Bool) (marks : List ℕ) (reached n at : ℕ) → Keeps st s refs told flags marks reached → has_clause (alive_in st) n ≡ true
    → at ≡ get_or refs (n - 1) at → IsAttached s at
alive_attached st s refs told flags marks reached n at k h is =
    let r = alive_known st refs n k.size h in
    subst (λ x. counts All (slot_in s.slots x).part ≡ true) (sym (read_at refs n at r.0 r.1 is))
    (ap (counts All) (k.tied.parts n r.0 r.1) ∙ part_attached (has_clause (alive_in st) n) (holds_number n st.cited) h)

-- the lines stand otherwise, and some parts differ
pub keeps_moved : (st : LoadedState) (ds es : List Done) (ns : List ℕ) (given : List Literal) (s s' : State) (refs : List ℕ) (told : List Told) (flags flags' : List Bool) (marks marks' : List ℕ) (reached reached' : ℕ)
    → let st' : LoadedState = record { formula = st.formula; standing = ds; undone = es; cited = ns; assumed = given } in
    Keeps st s refs told flags marks reached → ds ++ es ≡ all_lines st → IsTied (all_in st) (alive_in st') ns s'.slots refs → AreAssumed s'.lits s'.reasons given marks' → AreFlagged (alive_in st') (standing_in st').next ns flags'
    → RemoveAlive (at_start st.formula.clauses) ds → held_cells s' ≡ held_cells s → reached' + 1 ≡ (standing_in st').next → length flags' ≡ length flags
    → Keeps st' s' refs told flags' marks' reached'
keeps_moved st ds es ns given s s' refs told flags flags' marks marks' reached reached' k same tied entries flagged gone cells next size =
    let f = st.formula.clauses in record {
      tied = subst (λ x. IsTied (all_loaded f x) (after_all (at_start f) ds).alive ns s'.slots refs) (sym same) tied;
      entries = entries;
      flagged = flagged;
      lemmas = subst (λ x. AreTold x told) (sym same) k.lemmas;
      pivots = subst LemmasHavePivots (sym same) k.pivots;
      removed = gone;
      cells = cells ∙ k.cells ∙ ap (λ x. cells_of (clauses (all_loaded f x))) (sym same);
      size = k.size ∙ ap (λ x. (after_all (at_start f) x).next) (sym same);
      flags_size = size ∙ k.flags_size;
      next = next;
      small = k.small;
    }

-- a clause is cited
pub keeps_cite : (st : LoadedState) (s s' : State) (refs : List ℕ) (told : List Told) (flags : List Bool) (marks : List ℕ) (reached id at : ℕ) → Keeps st s refs told flags marks reached → has_clause (alive_in st) id ≡ true
    → at ≡ get_or refs (id - 1) at → IsAttachedTo s s' at Core → held_cells s' ≡ held_cells s → Keeps (citing st id) s' refs told (set flags (id - 1) true) marks reached
keeps_cite st s s' refs told flags marks reached id at k h is a cells =
    let r = alive_known st refs id k.size h in
    let here : at ≡ entry_of refs id = read_at refs id at r.0 r.1 is in
    let there = total st refs k.size id r.0 r.1 in
    let i = k.tied.linked id there.0 there.1 in
    let some : 0 < entry_of refs id = (k.tied.led (entry_of refs id) i.held).some in
    let lits : s'.lits ≡ s.lits = ap (λ (x : State). x.lits) a.rest in
    let tied = tied_part (all_in st) (alive_in st) (alive_in st) st.cited (st.cited ++ id ∷ []) s.slots refs id (Some Core) (total st refs k.size) r.0 r.1
    (λ n z. ap (part_of (has_clause (alive_in st) n)) (holds_old id n st.cited z))
    (sym (ap (λ b. part_of b (holds_number id (st.cited ++ id ∷ []))) h ∙ ap (part_of true) (holds_new id st.cited))) k.tied in
    keeps_moved st st.standing st.undone (st.cited ++ id ∷ []) st.assumed s s' refs told flags (set flags (id - 1) true) marks marks reached reached k refl
    (tied_reordered (all_in st) (alive_in st) (st.cited ++ id ∷ []) (with_part s.slots (entry_of refs id) (Some Core)) s'.slots refs (subst (λ x. AreReordered (with_part s.slots x (Some Core)) s'.slots) here a.clauses) tied)
    (subst (λ x. AreAssumed x s'.reasons st.assumed marks) (sym lits) (entries_alike s.lits s.reasons s'.reasons st.assumed marks (sym a.size) (over_alike s s' at (subst (λ x. 0 < x) (sym here) some) a.taken_over) k.entries))
    (flagged_more (alive_in st) (standing_in st).next st.cited flags id k.flagged r.0 (omega (arith, r.1, k.flags_size)) h)
    k.removed cells k.next (length-set flags (id - 1) true)

-- room for more variables alone
pub keeps_grown : (st : LoadedState) (s t : State) (refs : List ℕ) (told : List Told) (flags : List Bool) (marks : List ℕ) (reached : ℕ) → Keeps st s refs told flags marks reached → t ≡ record s { vars = t.vars } → Keeps st t refs told flags marks reached
keeps_grown st s t refs told flags marks reached k grown =
    let lits : t.lits ≡ s.lits = ap (λ (x : State). x.lits) grown in
    let reasons : t.reasons ≡ s.reasons = ap (λ (x : State). x.reasons) grown in
    let slots : t.slots ≡ s.slots = ap (λ (x : State). x.slots) grown in
    keeps_moved st st.standing st.undone st.cited st.assumed s t refs told flags flags marks marks reached reached k refl
    (subst (λ x. IsTied (all_in st) (alive_in st) st.cited x refs) (sym slots) k.tied)
    (subst (λ x. AreAssumed x t.reasons st.assumed marks) (sym lits) (subst (λ x. AreAssumed s.lits x st.assumed marks) (sym reasons) k.entries))
    k.flagged k.removed (ap weights slots) k.next refl

-- other literals are assumed
pub keeps_levels : (st : LoadedState) (given : List Literal) (s s' : State) (refs : List ℕ) (told : List Told) (flags : List Bool) (marks marks' : List ℕ) (reached : ℕ) → Keeps st s refs told flags marks reached → AreReordered s.slots s'.slots → held_cells s' ≡ held_cells s
    → AreAssumed s'.lits s'.reasons given marks' → Keeps (record st { assumed = given }) s' refs told flags marks' reached
keeps_levels st given s s' refs told flags marks marks' reached k slots cells entries =
    keeps_moved st st.standing st.undone st.cited given s s' refs told flags flags marks marks' reached reached k refl
    (tied_reordered (all_in st) (alive_in st) st.cited s.slots s'.slots refs slots k.tied) entries k.flagged k.removed cells k.next refl

-- a line is taken back
back_lines : (st : LoadedState) (ds : List Done) (d : Done) → st.standing ≡ ds ++ d ∷ [] → ds ++ d ∷ st.undone ≡ all_lines st
back_lines st ds d e = sym (append_assoc ds (d ∷ []) st.undone) ∙ ap (λ x. x ++ st.undone) (sym e)

pub back_standing : (f : List (List Literal)) (ds : List Done) (d : Done) → after_all (at_start f) (ds ++ d ∷ []) ≡ after_done (after_all (at_start f) ds) d
back_standing f ds d = after_append (at_start f) ds (d ∷ [])

-- what is alive with a lemma's clause
pub joined_alive : (x : Standing) (l : Lemma) → is_empty l.clause ≡ false → (after_done x (joined l)).alive ≡ x.alive ++ (x.next, l.clause) ∷ []
joined_alive x l e = rw e refl

joined_other : (x : Standing) (l : Lemma) (n : ℕ) → is_empty l.clause ≡ false → n ≢ x.next → has_clause (after_done x (joined l)).alive n ≡ has_clause x.alive n
joined_other x l n e z = ap (λ y. has_clause y n) (joined_alive x l e) ∙ ap is_some (found_last x.alive x.next n l.clause (λ w. z (sym w)))

pub joined_here : (x : Standing) (l : Lemma) → is_empty l.clause ≡ false → has_clause x.alive x.next ≡ false → has_clause (after_done x (joined l)).alive x.next ≡ true
joined_here x l e h = ap (λ y. has_clause y x.next) (joined_alive x l e) ∙ ap is_some (found_right x.alive ((x.next, l.clause) ∷ []) x.next (no_clause_of x.alive x.next h)) ∙ rw (is_self x.next x.next refl) refl

pub next_free : (f : List (List Literal)) (ds : List Done) → has_clause (after_all (at_start f) ds).alive (after_all (at_start f) ds).next ≡ false
next_free f ds = by_test (has_clause (after_all (at_start f) ds).alive (after_all (at_start f) ds).next)
    (λ t. let c = some_clause (after_all (at_start f) ds).alive (after_all (at_start f) ds).next t in let r = alive_below f ds (after_all (at_start f) ds).next c.0 c.1 in absurd (omega (arith, r.1)))
    (λ t. t)

pub record IsBackJoined (st : LoadedState) (ds : List Done) (l : Lemma) (refs : List ℕ) (reached : ℕ) : Type 0 where
  pub number : reached ≡ (after_all (at_start st.formula.clauses) ds).next
  pub low : 0 < reached
  pub high : reached ≤ length refs
  pub alive : has_clause (alive_in st) reached ≡ true
  pub nonempty : is_empty l.clause ≡ false

pub back_joined : (st : LoadedState) (s : State) (refs : List ℕ) (told : List Told) (flags : List Bool) (marks : List ℕ) (reached : ℕ) (ds : List Done) (l : Lemma) → Keeps st s refs told flags marks reached → st.standing ≡ ds ++ joined l ∷ []
    → IsBackJoined st ds l refs reached
back_joined st s refs told flags marks reached ds l k e =
    let f = st.formula.clauses in let x = after_all (at_start f) ds in
    let now : standing_in st ≡ after_done x (joined l) = ap (after_all (at_start f)) e ∙ back_standing f ds (joined l) in
    let number : reached ≡ x.next = omega (arith, k.next, ap (λ (y : Standing). y.next) now) in
    let nonempty : is_empty l.clause ≡ false = told_nonempty ds st.undone l told (subst (λ y. AreTold y told) (sym (back_lines st ds (joined l) e)) k.lemmas) in
    let alive : has_clause (alive_in st) reached ≡ true = ap (λ (y : Standing). has_clause y.alive reached) now ∙ ap (has_clause (after_done x (joined l)).alive) number ∙ joined_here x l nonempty (next_free f ds) in
    let known = alive_known st refs reached k.size alive in record {
      number = number;
      low = known.0;
      high = known.1;
      alive = alive;
      nonempty = nonempty;
    }

pub keeps_joined_back : (st : LoadedState) (s s' : State) (refs : List ℕ) (told : List Told) (flags : List Bool) (marks : List ℕ) (reached : ℕ) (ds : List Done) (l : Lemma) (at n : ℕ) → Keeps st s refs told flags marks reached → st.standing ≡ ds ++ joined l ∷ []
    → st.assumed ≡ [] → at ≡ get_or refs (reached - 1) at → IsDetached s s' at n → held_cells s' ≡ held_cells s
    → Keeps (record st { standing = ds; undone = joined l ∷ st.undone }) s' refs told flags marks (reached - 1)
keeps_joined_back st s s' refs told flags marks reached ds l at n k e none is d cells =
    let f = st.formula.clauses in let x = after_all (at_start f) ds in
    let b = back_joined st s refs told flags marks reached ds l k e in
    let now : standing_in st ≡ after_done x (joined l) = ap (after_all (at_start f)) e ∙ back_standing f ds (joined l) in
    let here : at ≡ entry_of refs reached = read_at refs reached at b.low b.high is in
    let gone : has_clause x.alive reached ≡ false = ap (has_clause x.alive) b.number ∙ next_free f ds in
    let others : (m : ℕ) → m ≢ reached → has_clause x.alive m ≡ has_clause (alive_in st) m = λ m z. sym (joined_other x l m b.nonempty (λ w. z (w ∙ sym b.number))) ∙ ap (λ (y : Standing). has_clause y.alive m) (sym now) in
    let tied = tied_part (all_in st) (alive_in st) x.alive st.cited st.cited s.slots refs reached None (total st refs k.size) b.low b.high
    (λ m z. ap (λ a. part_of a (holds_number m st.cited)) (others m z)) (sym (part_loose (has_clause x.alive reached) (holds_number reached st.cited) gone)) k.tied in
    let marked : marks ≡ [] = no_marks s.lits s.reasons st.assumed marks none k.entries in
    let entries : AreAssumed s.lits s.reasons [] [] = subst (λ y. AreAssumed s.lits s.reasons y []) none (subst (λ y. AreAssumed s.lits s.reasons st.assumed y) marked k.entries) in
    keeps_moved st ds (joined l ∷ st.undone) st.cited st.assumed s s' refs told flags flags marks marks reached (reached - 1) k (back_lines st ds (joined l) e)
    (subst (λ y. IsTied (all_in st) x.alive st.cited y refs) (sym (d.slots ∙ ap (λ r. with_part s.slots r None) here)) tied)
    (subst (λ y. AreAssumed s'.lits s'.reasons y marks) (sym none) (subst (λ y. AreAssumed s'.lits s'.reasons [] y) (sym marked) (entries_detached s s' at n d entries)))
    (record {
      flag = k.flagged.flag;
      known = k.flagged.known;
      alive_or_back = λ m h lt. let ne : m ≢ reached = λ z. omega (arith, lt, b.number) in
          others m ne ∙ k.flagged.alive_or_back m h (omega (arith, lt, ap (λ (y : Standing). y.next) now));
    })
    (remove_split (at_start f) ds (joined l) (subst (RemoveAlive (at_start f)) e k.removed)).0
    cells (omega (arith, b.number, b.low)) refl

pub record IsBackRemoved (st : LoadedState) (ds : List Done) (n : ℕ) (refs : List ℕ) : Type 0 where
  pub low : 0 < n
  pub high : n ≤ length refs
  pub alive : has_clause (after_all (at_start st.formula.clauses) ds).alive n ≡ true
  pub gone : has_clause (alive_in st) n ≡ false
  pub uncited : holds_number n st.cited ≡ false

pub back_removed : (st : LoadedState) (s : State) (refs : List ℕ) (told : List Told) (flags : List Bool) (marks : List ℕ) (reached : ℕ) (ds : List Done) (n : ℕ) → Keeps st s refs told flags marks reached → st.standing ≡ ds ++ removed n ∷ []
    → IsBackRemoved st ds n refs
back_removed st s refs told flags marks reached ds n k e =
    let f = st.formula.clauses in let x = after_all (at_start f) ds in
    let now : standing_in st ≡ after_done x (removed n) = ap (after_all (at_start f)) e ∙ back_standing f ds (removed n) in
    let r = remove_split (at_start f) ds (removed n) (subst (RemoveAlive (at_start f)) e k.removed) in
    let c = some_clause x.alive n r.1 in
    let below = alive_below f ds n c.0 c.1 in
    let gone : has_clause (alive_in st) n ≡ false = ap (λ (y : Standing). has_clause y.alive n) now ∙ ap is_some (without_self x.alive n) in
    record {
      low = below.0;
      high = omega (arith, below.1, k.size, ap (λ (y : Standing). y.next) now, next_rises f st.standing st.undone);
      alive = r.1;
      gone = gone;
      uncited = by_test (holds_number n st.cited)
          (λ t. let bad : has_clause (alive_in st) n ≡ true = k.flagged.alive_or_back n t (omega (arith, below.1, ap (λ (y : Standing). y.next) now)) in let no : true ≡ false = sym bad ∙ gone in absurd cc)
          (λ t. t);
    }

pub removed_loose : (st : LoadedState) (s : State) (refs : List ℕ) (told : List Told) (flags : List Bool) (marks : List ℕ) (reached n at : ℕ) → Keeps st s refs told flags marks reached → has_clause (alive_in st) n ≡ false → 0 < n → n ≤ length refs
    → at ≡ get_or refs (n - 1) at → (slot_at s at).part ≡ None
removed_loose st s refs told flags marks reached n at k h low high is =
    ap (λ x. (slot_in s.slots x).part) (read_at refs n at low high is) ∙ k.tied.parts n low high ∙ part_loose (has_clause (alive_in st) n) (holds_number n st.cited) h

pub keeps_removed_back : (st : LoadedState) (s s' : State) (refs : List ℕ) (told : List Told) (flags : List Bool) (marks : List ℕ) (reached : ℕ) (ds : List Done) (n at : ℕ) → Keeps st s refs told flags marks reached → st.standing ≡ ds ++ removed n ∷ []
    → at ≡ get_or refs (n - 1) at → IsAttachedTo s s' at All → held_cells s' ≡ held_cells s
    → Keeps (record st { standing = ds; undone = removed n ∷ st.undone }) s' refs told flags marks reached
keeps_removed_back st s s' refs told flags marks reached ds n at k e is a cells =
    let f = st.formula.clauses in let x = after_all (at_start f) ds in
    let b = back_removed st s refs told flags marks reached ds n k e in
    let now : standing_in st ≡ after_done x (removed n) = ap (after_all (at_start f)) e ∙ back_standing f ds (removed n) in
    let here : at ≡ entry_of refs n = read_at refs n at b.low b.high is in
    let there = total st refs k.size n b.low b.high in
    let i = k.tied.linked n there.0 there.1 in
    let some : 0 < entry_of refs n = (k.tied.led (entry_of refs n) i.held).some in
    let lits : s'.lits ≡ s.lits = ap (λ (y : State). y.lits) a.rest in
    let others : (m : ℕ) → m ≢ n → has_clause x.alive m ≡ has_clause (alive_in st) m = λ m z. ap is_some (sym (without_other x.alive n m (λ w. z (sym w)))) ∙ ap (λ (y : Standing). has_clause y.alive m) (sym now) in
    let tied = tied_part (all_in st) (alive_in st) x.alive st.cited st.cited s.slots refs n (Some All) (total st refs k.size) b.low b.high
    (λ m z. ap (λ y. part_of y (holds_number m st.cited)) (others m z))
    (sym (ap (λ y. part_of y (holds_number n st.cited)) b.alive ∙ ap (part_of true) b.uncited)) k.tied in
    keeps_moved st ds (removed n ∷ st.undone) st.cited st.assumed s s' refs told flags flags marks marks reached reached k (back_lines st ds (removed n) e)
    (tied_reordered (all_in st) x.alive st.cited (with_part s.slots (entry_of refs n) (Some All)) s'.slots refs (subst (λ y. AreReordered (with_part s.slots y (Some All)) s'.slots) here a.clauses) tied)
    (subst (λ y. AreAssumed y s'.reasons st.assumed marks) (sym lits) (entries_alike s.lits s.reasons s'.reasons st.assumed marks (sym a.size) (over_alike s s' at (subst (λ y. 0 < y) (sym here) some) a.taken_over) k.entries))
    (record {
      flag = k.flagged.flag;
      known = k.flagged.known;
      alive_or_back = λ m h lt. by_eq m n
          (λ z. subst (λ y. has_clause x.alive y ≡ true) (sym z) b.alive)
          (λ z. others m z ∙ k.flagged.alive_or_back m h (omega (arith, lt, ap (λ (y : Standing). y.next) now)));
    })
    (remove_split (at_start f) ds (removed n) (subst (RemoveAlive (at_start f)) e k.removed)).0
    cells (k.next ∙ ap (λ (y : Standing). y.next) now) refl

pub keeps_passed_back : (st : LoadedState) (s : State) (refs : List ℕ) (told : List Told) (flags : List Bool) (marks : List ℕ) (reached : ℕ) (ds : List Done) → Keeps st s refs told flags marks reached → st.standing ≡ ds ++ passed ∷ []
    → Keeps (record st { standing = ds; undone = passed ∷ st.undone }) s refs told flags marks reached
keeps_passed_back st s refs told flags marks reached ds k e =
    let f = st.formula.clauses in
    let now : standing_in st ≡ after_all (at_start f) ds = ap (after_all (at_start f)) e ∙ back_standing f ds passed in
    keeps_moved st ds (passed ∷ st.undone) st.cited st.assumed s s refs told flags flags marks marks reached reached k (back_lines st ds passed e)
    (subst (λ (y : Standing). IsTied (all_in st) y.alive st.cited s.slots refs) now k.tied)
    k.entries
    (subst (λ (y : Standing). AreFlagged y.alive y.next st.cited flags) now k.flagged)
    (remove_split (at_start f) ds passed (subst (RemoveAlive (at_start f)) e k.removed)).0
    refl (k.next ∙ ap (λ (y : Standing). y.next) now) refl

-- the line before which lines were taken back
pub some_stands : (es : List Event) (k : ℕ) → done_in (take k es) ≢ [] → 0 < k
some_stands es zero h = absurd (h refl)
some_stands es (suc k) h = omega arith

pub stood_before : (es : List Event) (k : ℕ) (e : Event) (d : Done) → done_in (take k es) ≢ [] → k ≤ length es → e ≡ get_or es (k - 1) e → done_of e ≡ d → done_in (take k es) ≡ done_in (take (k - 1) es) ++ d ∷ []
stood_before es k e d some le is same =
    let low = some_stands es k some in
    let up : k - 1 + 1 ≡ k = omega arith in
    ap (λ n. done_in (take n es)) (sym up) ∙ last_stands es (k - 1) e (omega arith) is ∙ ap (λ x. done_in (take (k - 1) es) ++ x ∷ []) same

pub undone_before : (es : List Event) (k : ℕ) (e : Event) (d : Done) → done_in (take k es) ≢ [] → k ≤ length es → e ≡ get_or es (k - 1) e → done_of e ≡ d → done_in (drop (k - 1) es) ≡ d ∷ done_in (drop k es)
undone_before es k e d some le is same =
    let low = some_stands es k some in
    let up : k - 1 + 1 ≡ k = omega arith in
    last_back es (k - 1) e (omega arith) is ∙ ap (λ x. x ∷ done_in (drop (k - 1 + 1) es)) same ∙ ap (λ n. d ∷ done_in (drop n es)) up

pub keeps_undone : (f : Formula) (es : List Event) (k : ℕ) (cited : List ℕ) (given : List Literal) (d : Done) (s : State) (refs : List ℕ) (told : List Told) (flags : List Bool) (marks : List ℕ) (reached : ℕ) → done_in (drop (k - 1) es) ≡ d ∷ done_in (drop k es)
    → Keeps (record (loaded_at f es k cited given) { standing = done_in (take (k - 1) es); undone = d ∷ done_in (drop k es) }) s refs told flags marks reached
    → Keeps (loaded_at f es (k - 1) cited given) s refs told flags marks reached
keeps_undone f es k cited given d s refs told flags marks reached e h =
    let P : List Done → Type 0 = λ u. Keeps (record (loaded_at f es k cited given) { standing = done_in (take (k - 1) es); undone = u }) s refs told flags marks reached in subst P (sym e) h

pub took : (f : Formula) (es : List Event) (k : ℕ) (cited : List ℕ) (given : List Literal) (old : LoadedState) (d : Done) (id : Option ℕ) → loaded_at f es k cited given ≡ old → done_in (take k es) ≡ done_in (take (k - 1) es) ++ d ∷ []
    → done_in (drop (k - 1) es) ≡ d ∷ done_in (drop k es) → TellsNumber d (standing_in (loaded_at f es (k - 1) cited given)).next id → TookLine old (loaded_at f es (k - 1) cited given) id
took f es k cited given old d id view stood undone tells = subst (λ (x : LoadedState). TookLine x (loaded_at f es (k - 1) cited given) id) view (record { done = d; stood = stood; undone = undone; same = refl; tells = tells })

-- what is told of a lemma
pub told_index : (st : LoadedState) (s : State) (refs : List ℕ) (told : List Told) (flags : List Bool) (marks : List ℕ) (reached : ℕ) (now : LoadedState) (id m : ℕ) → Keeps st s refs told flags marks reached → st ≡ now → m ≡ length st.formula.clauses
    → length now.formula.clauses < id → id < next_of now → id - m - 1 < length told
told_index st s refs told flags marks reached now id m k e is low high =
    let n : next_of st ≡ next_of now = ap next_of e in
    let f : length st.formula.clauses ≡ length now.formula.clauses = ap (λ (x : LoadedState). length x.formula.clauses) e in
    omega (arith, low, high, n, f, is, told_length (all_lines st) told k.lemmas, next_row st.formula.clauses (all_lines st), length-append st.formula.clauses (lemma_clauses (all_lines st)))

pub told_of : (st : LoadedState) (s : State) (refs : List ℕ) (told : List Told) (flags : List Bool) (marks : List ℕ) (reached id m : ℕ) (t : Told) → Keeps st s refs told flags marks reached → m ≡ length st.formula.clauses
    → t ≡ get_or told (id - m - 1) t → (p : Place) → place_of (at_start st.formula.clauses) (all_lines st) id ≡ Some p → IsToldOf p t
told_of st s refs told flags marks reached id m t k is e p h =
    let i : id - m - 1 ≡ id - (length st.formula.clauses + 1) = omega (arith, is) in
    told_at (at_start st.formula.clauses) (all_lines st) told id p t k.lemmas h (subst (λ n. t ≡ get_or told n t) i e)
