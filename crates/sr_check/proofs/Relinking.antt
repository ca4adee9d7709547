-- Lemmas on walks over the held clauses, and on a table that is made anew.
use Rattle.std.proofs.Common.{◌≡◌, ◌≢◌, ◌⊎◌, inl, inr, ℕ, zero, suc, ◌+◌, ◌*◌, ◌<◌, ◌≤◌, ◌==◌, true, false, cond, ltb, List, [], ◌∷◌, Option, Some, None, map, length, get_or, drop, refl, sym, ◌∙◌, ap, subst, arith}
use Rattle.std.specs.Prelude.{IfSome}
use Rattle.std.proofs.lemmas.List.Sums.{sum_by-cons}
use Rattle.std.proofs.lemmas.Bool.Decides.{nat_tests}
use borrow.Author.Tests.{ltb-false}
use Rattle.sr_model.specs.Chain.{Numbered, clauses, clause_of}
use Rattle.sr_model.specs.Judging.{clause_cells, cells_of}
use Rattle.sr_arena.specs.Cells.{Cell, Memory, gone, held_in, held_after, reference, cell_at, IsHeld, held_cells}
use Rattle.sr_arena.specs.Compaction.{IsPacked}
use Rattle.sr_arena.proofs.Standing.{held_split, none_between}
use Rattle.sr_table.specs.Pages.{Paged, entry, IsOpen, Sets, KeepsOpen}
use Rattle.sr_check.specs.Storage.{numbered_in, live_of, AreApart, AreOpen, LeadsLive, IsLinked, AreUnmarked}
use Rattle.sr_table.proofs.Paging.{by_eq}
use Rattle.sr_table.proofs.Paging.{by_test}
use Rattle.sr_check.proofs.Finding.{is_same, is_self}
use Rattle.sr_check.proofs.Storing.{OwnNumbers, clause_leads, clause_found, entry_here, entry_other, some_reference, marked_none, counts}

-- the clauses after a reference, and those from one on
abbrev pub left_after : Memory → ℕ → Numbered
left_after m k = numbered_in (drop (k + 1) m.cells)

abbrev pub left_from : Memory → Option ℕ → Numbered
left_from m None = []
left_from m (Some r) = ((cell_at m r).number, (cell_at m r).lits) ∷ left_after m r

-- a walk begins at the first clause
first_drop : (cs : List Cell) → (get_or cs 0 gone).held ≡ false → numbered_in cs ≡ numbered_in (drop 1 cs)
first_drop [] h = refl
first_drop (c ∷ cs) h = ap (λ x. map (λ (k : Cell). (k.number, k.lits)) (cond x (c ∷ held_in cs) (held_in cs))) h

pub left_all : (m : Memory) → (cell_at m 0).held ≡ false → live_of m ≡ left_after m 0
left_all m h = first_drop m.cells h

-- and goes on at the next one
pub left_next : (m : Memory) (k : ℕ) (o : Option ℕ) → (cell_at m 0).held ≡ false → reference o ≡ held_after m k → IfSome o (λ r. k < r) → left_from m o ≡ left_after m k
left_next m k None none e lt = go (held_split m k)
  where
    go : ((held_after m k ≡ 0) × (held_in (drop (k + 1) m.cells) ≡ [])) ⊎ (IsHeld m (held_after m k) × (held_in (drop (k + 1) m.cells) ≡ cell_at m (held_after m k) ∷ held_in (drop (held_after m k + 1) m.cells)))
        → [] ≡ left_after m k
    go (inl z) = sym (ap (map (λ (c : Cell). (c.number, c.lits))) z.1)
    go (inr s) = let bad : true ≡ false = sym s.0 ∙ ap (λ j. (cell_at m j).held) (sym e) ∙ none in absurd cc
left_next m k (Some r) none e lt = go (held_split m k)
  where
    go : ((held_after m k ≡ 0) × (held_in (drop (k + 1) m.cells) ≡ [])) ⊎ (IsHeld m (held_after m k) × (held_in (drop (k + 1) m.cells) ≡ cell_at m (held_after m k) ∷ held_in (drop (held_after m k + 1) m.cells)))
        → left_from m (Some r) ≡ left_after m k
    go (inl z) = absurd (omega (arith, e, z.0, lt))
    go (inr s) = ap (λ n. ((cell_at m n).number, (cell_at m n).lits) ∷ left_after m n) e ∙ sym (ap (map (λ (c : Cell). (c.number, c.lits))) s.1)

-- pages of numbers
pub open_all : (old new : Paged) (live : Numbered) → KeepsOpen old new → AreOpen old live → AreOpen new live
open_all old new [] k h = tt
open_all old new (p ∷ ps) k h = (k p.0 h.0, open_all old new ps k h.1)

pub open_at : (t : Paged) (cs : List Cell) (i : ℕ) → AreOpen t (numbered_in cs) → (get_or cs i gone).held ≡ true → IsOpen t (get_or cs i gone).number
open_at t [] i h e = absurd cc
open_at t (c ∷ cs) zero h e = (subst (λ x. AreOpen t (map (λ (k : Cell). (k.number, k.lits)) (cond x (c ∷ held_in cs) (held_in cs)))) e h).0
open_at t (c ∷ cs) (suc i) h e = by_test c.held
    (λ y. open_at t cs i (subst (λ x. AreOpen t (map (λ (k : Cell). (k.number, k.lits)) (cond x (c ∷ held_in cs) (held_in cs)))) y h).1 e)
    (λ n. open_at t cs i (subst (λ x. AreOpen t (map (λ (k : Cell). (k.number, k.lits)) (cond x (c ∷ held_in cs) (held_in cs)))) n h) e)

-- numbers that come once are the cells' own
there : (cs : List Cell) (n i : ℕ) → (get_or cs i gone).held ≡ true → (get_or cs i gone).number ≡ n → clause_of (numbered_in cs) n ≢ None
there [] n i h e z = absurd cc
there (c ∷ cs) n zero h e z =
    let found : clause_of ((c.number, c.lits) ∷ numbered_in cs) n ≡ None = subst (λ x. clause_of (map (λ (k : Cell). (k.number, k.lits)) (cond x (c ∷ held_in cs) (held_in cs))) n ≡ None) h z in
    let bad : Some c.lits ≡ None = rw (is_self c.number n e) at found in
    cc
there (c ∷ cs) n (suc i) h e z = by_test c.held
    (λ y. let found : clause_of ((c.number, c.lits) ∷ numbered_in cs) n ≡ None = subst (λ x. clause_of (map (λ (k : Cell). (k.number, k.lits)) (cond x (c ∷ held_in cs) (held_in cs))) n ≡ None) y z in
    by_test (c.number == n)
    (λ s. let bad : Some c.lits ≡ None = rw s at found in cc)
    (λ f. there cs n i h e (rw f at found)))
    (λ f. there cs n i h e (subst (λ x. clause_of (map (λ (k : Cell). (k.number, k.lits)) (cond x (c ∷ held_in cs) (held_in cs))) n ≡ None) f z))

pub own_of_apart : (cs : List Cell) → AreApart (numbered_in cs) → OwnNumbers cs
own_of_apart [] a i j h k e = absurd cc
own_of_apart (c ∷ cs) a zero zero h k e = refl
own_of_apart (c ∷ cs) a zero (suc j) h k e =
    let split = subst (λ x. AreApart (map (λ (d : Cell). (d.number, d.lits)) (cond x (c ∷ held_in cs) (held_in cs)))) h a in
    absurd (there cs c.number j k (sym e) split.0)
own_of_apart (c ∷ cs) a (suc i) zero h k e =
    let split = subst (λ x. AreApart (map (λ (d : Cell). (d.number, d.lits)) (cond x (c ∷ held_in cs) (held_in cs)))) k a in
    absurd (there cs c.number i h e split.0)
own_of_apart (c ∷ cs) a (suc i) (suc j) h k e = ap suc (own_of_apart cs (rest a) i j h k e)
  where
    rest : AreApart (numbered_in (c ∷ cs)) → AreApart (numbered_in cs)
    rest b = by_test c.held
        (λ y. (subst (λ x. AreApart (map (λ (d : Cell). (d.number, d.lits)) (cond x (c ∷ held_in cs) (held_in cs)))) y b).1)
        (λ n. subst (λ x. AreApart (map (λ (d : Cell). (d.number, d.lits)) (cond x (c ∷ held_in cs) (held_in cs)))) n b)

-- marks of held clauses, as a list tells them
abbrev NoMarks : List Cell → Type 0
NoMarks [] = Unit {0}
NoMarks (c ∷ cs) = (c.marked ≡ false) × NoMarks cs

no_marks : (cs : List Cell) → ((i : ℕ) → (get_or cs i gone).held ≡ true → (get_or cs i gone).marked ≡ false) → NoMarks (held_in cs)
no_marks [] h = tt
no_marks (c ∷ cs) h =
    let rest : NoMarks (held_in cs) = no_marks cs (λ i. h (suc i)) in
    by_test c.held (λ y. rw y (h 0 y, rest)) (λ n. rw n rest)

marks_at : (cs : List Cell) (i : ℕ) → NoMarks (held_in cs) → (get_or cs i gone).held ≡ true → (get_or cs i gone).marked ≡ false
marks_at [] i h e = refl
marks_at (c ∷ cs) zero h e = (subst (λ x. NoMarks (cond x (c ∷ held_in cs) (held_in cs))) e h).0
marks_at (c ∷ cs) (suc i) h e = by_test c.held
    (λ y. marks_at cs i (subst (λ x. NoMarks (cond x (c ∷ held_in cs) (held_in cs))) y h).1 e)
    (λ n. marks_at cs i (subst (λ x. NoMarks (cond x (c ∷ held_in cs) (held_in cs))) n h) e)

pub unmarked_packed : (mem mem' : Memory) (table table' : Paged) → IsLinked mem table → AreUnmarked mem table → IsPacked mem mem' → IsLinked mem' table' → AreUnmarked mem' table'
unmarked_packed mem mem' table table' s u p s' n some =
    marks_at mem'.cells (entry table' n) (subst NoMarks (sym p.order) (no_marks mem.cells (λ i h. marked_none mem table s u i h))) (s'.leads n some)

pub live_packed : (mem mem' : Memory) → IsPacked mem mem' → live_of mem' ≡ live_of mem
live_packed mem mem' p = ap (map (λ (c : Cell). (c.number, c.lits))) p.order

-- a number that leads to a clause was that of one before
pub low_packed : (mem mem' : Memory) (table table' : Paged) (last : ℕ) → IsLinked mem table → ((n : ℕ) → entry table n ≢ 0 → n ≤ last) → IsPacked mem mem' → IsLinked mem' table' → (n : ℕ) → entry table' n ≢ 0 → n ≤ last
low_packed mem mem' table table' last s low p s' n some =
    low n (clause_leads mem table n (λ z. there mem'.cells n (entry table' n) (s'.leads n some) (s'.back n some) (ap (λ x. clause_of x n) (live_packed mem mem' p) ∙ clause_found mem table n s ∙ z)))

-- the walk that makes pages
pub record Opens (m : Memory) (from t : Paged) (o : Option ℕ) : Type 0 where
  pub opens : (t' : Paged) → KeepsOpen t t' → AreOpen t' (left_from m o) → AreOpen t' (live_of m)
  pub pages : length t.entries + 1024 * cells_of (clauses (left_from m o)) ≤ length from.entries + 1024 * held_cells m

pub opens_none : (m : Memory) (t : Paged) (o : Option ℕ) → (cell_at m 0).held ≡ false → reference o ≡ held_after m 0 → IfSome o (λ r. 0 < r) → Opens m t t o
opens_none m t o none e lt =
    let all : left_from m o ≡ live_of m = left_next m 0 o none e lt ∙ sym (left_all m none) in
    record {
      opens = λ t' k h. subst (AreOpen t') all h;
      pages = omega (arith, counts m, ap (λ x. cells_of (clauses x)) all);
    }

pub opens_more : (m : Memory) (from t t' : Paged) (r : ℕ) (o : Option ℕ) → (cell_at m 0).held ≡ false → Opens m from t (Some r) → KeepsOpen t t' → IsOpen t' (cell_at m r).number → length t'.entries ≤ length t.entries + 4096 → reference o ≡ held_after m r → IfSome o (λ k. r < k) → Opens m from t' o
opens_more m from t t' r o none s keeps here more e lt =
    let next : left_from m o ≡ left_after m r = left_next m r o none e lt in
    let sum : cells_of (clauses (left_from m (Some r))) ≡ clause_cells (cell_at m r).lits + cells_of (clauses (left_after m r)) = sum_by-cons clause_cells (cell_at m r).lits (clauses (left_after m r)) in
    record {
      opens = λ t'' k h. s.opens t'' (λ n i. k n (keeps n i)) (k (cell_at m r).number here, subst (AreOpen t'') next h);
      pages = omega (arith, s.pages, sum, more, ap (λ x. cells_of (clauses x)) next);
    }

-- the walk that leads to the clauses
abbrev pub IsBefore : Option ℕ → ℕ → Type 0
IsBefore None at = Unit {0}
IsBefore (Some r) at = at < r

pub record Leads (m : Memory) (from t : Paged) (o : Option ℕ) : Type 0 where
  pub known : LeadsLive t (live_of m)
  pub led : (at : ℕ) → IsHeld m at → IsBefore o at → entry t (cell_at m at).number ≡ at
  pub opened : AreOpen t (live_of m)
  pub pages : length t.entries ≡ length from.entries

none_before : (m : Memory) (k at : ℕ) (o : Option ℕ) → reference o ≡ held_after m k → k < at → IsHeld m at → IsBefore o at → ⊥
none_before m k at None e lt h b = let r = none_between m k at lt h in absurd (omega (arith, r.0, e))
none_before m k at (Some q) e lt h b = let r = none_between m k at lt h in absurd (omega (arith, r.1, e, b))

pub leads_none : (m : Memory) (t : Paged) (o : Option ℕ) → (cell_at m 0).held ≡ false → LeadsLive t (live_of m) → AreOpen t (live_of m) → reference o ≡ held_after m 0 → Leads m t t o
leads_none m t o none known opened e = record {
  known = known;
  led = λ at h b. by_eq at 0
      (λ z. let bad : true ≡ false = sym h ∙ ap (λ k. (cell_at m k).held) z ∙ none in absurd cc)
      (λ z. absurd (none_before m 0 at o e (omega (arith, z)) h b));
  opened = opened;
  pages = refl;
}

pub leads_more : (m : Memory) (from t t' : Paged) (r : ℕ) (o : Option ℕ) → OwnNumbers m.cells → Leads m from t (Some r) → IsHeld m r → Sets t t' (cell_at m r).number r → KeepsOpen t t' → length t'.entries ≡ length t.entries → reference o ≡ held_after m r → Leads m from t' o
leads_more m from t t' r o own s held sets keeps pages e = record {
  known = λ n leads. by_eq (cell_at m r).number n
      (λ q. there m.cells n r held q)
      (λ q. let was = entry_other t t' (cell_at m r).number r n sets q in s.known n (λ z. leads (was ∙ z)));
  led = λ at h b. by_eq at r
      (λ q. ap (λ k. entry t' (cell_at m k).number) q ∙ entry_here t t' (cell_at m r).number r (cell_at m r).number sets refl ∙ sym q)
      (λ q. by_test (ltb at r)
      (λ lt. let low : at < r = grind (arith, nat_tests) in
      entry_other t t' (cell_at m r).number r (cell_at m at).number sets (λ z. q (own at r h held (sym z))) ∙ s.led at h low)
      (λ ge. absurd (none_before m r at o e (omega (arith, ltb-false, q)) h b)));
  opened = open_all t t' (live_of m) keeps s.opened;
  pages = pages ∙ s.pages;
}

-- a number that is found is a held clause's
who : (cs : List Cell) (n : ℕ) → clause_of (numbered_in cs) n ≢ None → (i : ℕ) × (((get_or cs i gone).held ≡ true) × ((get_or cs i gone).number ≡ n))
who [] n h = absurd (h refl)
who (c ∷ cs) n h = by_test c.held
    (λ y. by_test (c.number == n)
    (λ t. (0, (y, is_same c.number n t)))
    (λ f. let r = who cs n (λ z. h (ap (λ x. clause_of (map (λ (k : Cell). (k.number, k.lits)) (cond x (c ∷ held_in cs) (held_in cs))) n) y ∙ rw f z)) in (suc r.0, r.1)))
    (λ f. let r = who cs n (λ z. h (ap (λ x. clause_of (map (λ (k : Cell). (k.number, k.lits)) (cond x (c ∷ held_in cs) (held_in cs))) n) f ∙ z)) in (suc r.0, r.1))

pub leads_all : (m : Memory) (from t : Paged) → (cell_at m 0).held ≡ false → Leads m from t None → IsLinked m t
leads_all m from t none s = record {
  leads = λ n some. let r = who m.cells n (s.known n some) in
      let is : entry t n ≡ r.0 = ap (entry t) (sym r.1.1) ∙ s.led r.0 r.1.0 tt in ap (λ k. (cell_at m k).held) is ∙ r.1.0;
  back = λ n some. let r = who m.cells n (s.known n some) in
      let is : entry t n ≡ r.0 = ap (entry t) (sym r.1.1) ∙ s.led r.0 r.1.0 tt in ap (λ k. (cell_at m k).number) is ∙ r.1.1;
  led = λ at h. s.led at h tt;
  none = none;
}

-- a table that leads to the clauses leads from live numbers, which have pages
pub linked_known : (m : Memory) (t : Paged) → IsLinked m t → LeadsLive t (live_of m)
linked_known m t s n some = there m.cells n (entry t n) (s.leads n some) (s.back n some)

pub linked_open : (t : Paged) (cs : List Cell) → ((n : ℕ) → entry t n ≢ 0 → IsOpen t n) → ((i : ℕ) → (get_or cs i gone).held ≡ true → entry t (get_or cs i gone).number ≢ 0) → AreOpen t (numbered_in cs)
linked_open t [] opened some = tt
linked_open t (c ∷ cs) opened some =
    let rest : AreOpen t (numbered_in cs) = linked_open t cs opened (λ i. some (suc i)) in
    by_test c.held (λ y. rw y (opened c.number (some 0 y), rest)) (λ n. rw n rest)

pub linked_opened : (m : Memory) (t : Paged) → IsLinked m t → ((n : ℕ) → entry t n ≢ 0 → IsOpen t n) → AreOpen t (live_of m)
linked_opened m t s opened = linked_open t m.cells opened (λ i h z. some_reference m t i s h (sym (s.led i h) ∙ z))
