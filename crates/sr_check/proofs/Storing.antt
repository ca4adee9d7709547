-- Lemmas on the storage of the live clauses.
use Rattle.std.proofs.Common.{◌≡◌, ◌≢◌, ℕ, zero, suc, ◌+◌, ◌<◌, ◌==◌, Bool, true, false, cond, List, [], ◌∷◌, ◌++◌, Some, None, map, length, get_or, set, refl, sym, ◌∙◌, ap, arith}
use Rattle.std.proofs.lemmas.List.{map-append}
use Rattle.std.proofs.lemmas.List.Sums.{sum_by-cons}
use Rattle.sr_base.specs.Literal.{Literal}
use Rattle.sr_model.specs.Chain.{Numbered, clauses, clause_of}
use Rattle.sr_model.specs.Judging.{without, clause_cells, cells_of}
use Rattle.sr_arena.specs.Cells.{Cell, Memory, gone, fresh, weights, held_in, cell_at, IsHeld, IsAdded, put, held_cells}
use Rattle.sr_arena.proofs.Weighing.{held_within}
use Rattle.sr_arena.proofs.Standing.{put_here, put_other}
use Rattle.sr_table.specs.Pages.{Paged, entry, Sets, SameEntries}
use Rattle.sr_check.specs.Storage.{Stored, numbered_in, live_of, clause_at, AreApart, IsLinked, AreUnmarked, KeepsClauses, HoldsLive}
use Rattle.sr_table.proofs.Paging.{by_eq}
use Rattle.sr_table.proofs.Paging.{by_test}
use Rattle.std.specs.Prelude.{is_some}
use Rattle.sr_occurs.specs.Occurring.{IsTableFor}
use Rattle.sr_check.proofs.Finding.{is_not, is_self, without_absent}

-- a number leads to a clause, or to none
pub clause_none : (mem : Memory) (table : Paged) (n : ℕ) → entry table n ≡ 0 → clause_at mem table n ≡ None
clause_none mem table n e = rw (is_self (entry table n) 0 e) refl

pub clause_some : (mem : Memory) (table : Paged) (n : ℕ) → entry table n ≢ 0 → clause_at mem table n ≡ Some (cell_at mem (entry table n)).lits
clause_some mem table n e = rw (is_not (entry table n) 0 e) refl

pub clause_leads : (mem : Memory) (table : Paged) (n : ℕ) → clause_at mem table n ≢ None → entry table n ≢ 0
clause_leads mem table n h e = h (clause_none mem table n e)

-- two numbers lead to two clauses, and two clauses have two numbers
pub alone : (mem : Memory) (table : Paged) (m n : ℕ) → IsLinked mem table → entry table m ≢ 0 → entry table m ≡ entry table n → m ≡ n
alone mem table m n s some e = sym (s.back m some) ∙ ap (λ k. (cell_at mem k).number) e ∙ s.back n (λ z. some (e ∙ z))

pub one_number : (mem : Memory) (table : Paged) (a b : ℕ) → IsLinked mem table → IsHeld mem a → IsHeld mem b → (cell_at mem a).number ≡ (cell_at mem b).number → a ≡ b
one_number mem table a b s h k e = sym (s.led a h) ∙ ap (entry table) e ∙ s.led b k

-- a held clause's reference is one
pub some_reference : (mem : Memory) (table : Paged) (at : ℕ) → IsLinked mem table → IsHeld mem at → at ≢ 0
some_reference mem table at s h e = let bad : true ≡ false = sym h ∙ ap (λ k. (cell_at mem k).held) e ∙ s.none in absurd cc

-- no two held cells have one number
abbrev pub OwnNumbers : List Cell → Type 0
OwnNumbers cs = (i j : ℕ) → (get_or cs i gone).held ≡ true → (get_or cs j gone).held ≡ true → (get_or cs i gone).number ≡ (get_or cs j gone).number → i ≡ j

own_rest : (c : Cell) (cs : List Cell) → OwnNumbers (c ∷ cs) → OwnNumbers cs
own_rest c cs own i j h k e = let is : suc i ≡ suc j = own (suc i) (suc j) h k e in omega arith

pub own_numbers : (mem : Memory) (table : Paged) → IsLinked mem table → OwnNumbers mem.cells
own_numbers mem table s i j h k e = one_number mem table i j s h k e

-- what is found among cells
pub found_none : (cs : List Cell) (n : ℕ) → ((i : ℕ) → (get_or cs i gone).held ≡ true → (get_or cs i gone).number ≢ n) → clause_of (numbered_in cs) n ≡ None
found_none [] n h = refl
found_none (c ∷ cs) n h =
    let rest : clause_of (numbered_in cs) n ≡ None = found_none cs n (λ i. h (suc i)) in
    by_test c.held
    (λ t. ap (λ x. clause_of (map (λ (k : Cell). (k.number, k.lits)) (cond x (c ∷ held_in cs) (held_in cs))) n) t ∙ rw (is_not c.number n (h 0 t)) rest)
    (λ f. ap (λ x. clause_of (map (λ (k : Cell). (k.number, k.lits)) (cond x (c ∷ held_in cs) (held_in cs))) n) f ∙ rest)

pub found_some : (cs : List Cell) (n i : ℕ) → OwnNumbers cs → (get_or cs i gone).held ≡ true → (get_or cs i gone).number ≡ n → clause_of (numbered_in cs) n ≡ Some (get_or cs i gone).lits
found_some [] n i own h e = absurd cc
found_some (c ∷ cs) n zero own h e = ap (λ x. clause_of (map (λ (k : Cell). (k.number, k.lits)) (cond x (c ∷ held_in cs) (held_in cs))) n) h ∙ rw (is_self c.number n e) refl
found_some (c ∷ cs) n (suc i) own h e =
    let rest : clause_of (numbered_in cs) n ≡ Some (get_or cs i gone).lits = found_some cs n i (own_rest c cs own) h e in
    by_test c.held
    (λ t. ap (λ x. clause_of (map (λ (k : Cell). (k.number, k.lits)) (cond x (c ∷ held_in cs) (held_in cs))) n) t ∙ rw (is_not c.number n (λ q. let z : 0 ≡ suc i = own 0 (suc i) t h (q ∙ sym e) in absurd (omega arith))) rest)
    (λ f. ap (λ x. clause_of (map (λ (k : Cell). (k.number, k.lits)) (cond x (c ∷ held_in cs) (held_in cs))) n) f ∙ rest)

apart_in : (cs : List Cell) → OwnNumbers cs → AreApart (numbered_in cs)
apart_in [] own = tt
apart_in (c ∷ cs) own =
    let rest : AreApart (numbered_in cs) = apart_in cs (own_rest c cs own) in
    by_test c.held
    (λ t. rw t (found_none cs c.number (λ i h e. let z : suc i ≡ 0 = own (suc i) 0 h t e in absurd (omega arith)), rest))
    (λ f. rw f rest)

-- what is found under a number
pub clause_found : (mem : Memory) (table : Paged) (n : ℕ) → IsLinked mem table → clause_of (live_of mem) n ≡ clause_at mem table n
clause_found mem table n s = by_eq (entry table n) 0
    (λ z. found_none mem.cells n (λ i h e. some_reference mem table i s h (sym (s.led i h) ∙ ap (entry table) e ∙ z)) ∙ sym (clause_none mem table n z))
    (λ z. found_some mem.cells n (entry table n) (own_numbers mem table s) (s.leads n z) (s.back n z) ∙ sym (clause_some mem table n z))

pub apart_stored : (mem : Memory) (table : Paged) → IsLinked mem table → AreApart (live_of mem)
apart_stored mem table s = apart_in mem.cells (own_numbers mem table s)

-- the table leads from the numbers of the clauses, and from no others
pub table_for : (mem : Memory) (table : Paged) → IsLinked mem table → IsTableFor table (live_of mem)
table_for mem table s n = by_eq (entry table n) 0
    (λ z. ap is_some (clause_found mem table n s ∙ clause_none mem table n z) ∙ rw (is_self (entry table n) 0 z) refl)
    (λ z. ap is_some (clause_found mem table n s ∙ clause_some mem table n z) ∙ rw (is_not (entry table n) 0 z) refl)

-- what is read under a number
pub read_none : (mem : Memory) (table : Paged) (n : ℕ) (live : Numbered) → live_of mem ≡ live → IsLinked mem table → entry table n ≡ 0 → None ≡ clause_of live n
read_none mem table n live e s h = sym (ap (λ x. clause_of x n) (sym e) ∙ clause_found mem table n s ∙ clause_none mem table n h)

pub read_some : (mem : Memory) (table : Paged) (n at : ℕ) (ls : List Literal) (live : Numbered) → live_of mem ≡ live → IsLinked mem table → at ≡ entry table n → 0 < at → ls ≡ (cell_at mem at).lits → Some ls ≡ clause_of live n
read_some mem table n at ls live e s is some h =
    ap Some (h ∙ ap (λ k. (cell_at mem k).lits) is)
    ∙ sym (ap (λ x. clause_of x n) (sym e) ∙ clause_found mem table n s ∙ clause_some mem table n (λ z. omega arith))

-- the cells that are counted
weights_in : (cs : List Cell) → weights cs ≡ cells_of (clauses (numbered_in cs))
weights_in [] = refl
weights_in (c ∷ cs) =
    let rest : weights cs ≡ cells_of (clauses (numbered_in cs)) = weights_in cs in
    let sum : cells_of (c.lits ∷ clauses (numbered_in cs)) ≡ clause_cells c.lits + cells_of (clauses (numbered_in cs)) = sum_by-cons clause_cells c.lits (clauses (numbered_in cs)) in
    by_test c.held
    (λ t. rw t (omega (arith, rest, sum)))
    (λ f. rw f (omega (arith, rest)))

pub counts : (mem : Memory) → held_cells mem ≡ cells_of (clauses (live_of mem))
counts mem = weights_in mem.cells

-- one cell is put
pub cell_here : (mem : Memory) (at k : ℕ) (c : Cell) → IsHeld mem at → k ≡ at → cell_at (put mem at c) k ≡ c
cell_here mem at k c h e = rw e (put_here mem at c h)

pub cell_other : (mem : Memory) (at k : ℕ) (c : Cell) → k ≢ at → cell_at (put mem at c) k ≡ cell_at mem k
cell_other mem at k c ne = put_other mem at k c ne

-- a cell that differs in its marks alone
same_in : (cs : List Cell) (at : ℕ) (c : Cell) → at < length cs → c.held ≡ (get_or cs at gone).held → c.number ≡ (get_or cs at gone).number → c.lits ≡ (get_or cs at gone).lits → numbered_in (set cs at c) ≡ numbered_in cs
same_in [] at c lt h n l = absurd (omega arith)
same_in (d ∷ cs) zero c lt h n l =
    ap (λ x. map (λ (k : Cell). (k.number, k.lits)) (cond x (c ∷ held_in cs) (held_in cs))) h
    ∙ by_test d.held
    (λ t. rw t (ap (λ x. (x, c.lits) ∷ numbered_in cs) n ∙ ap (λ x. (d.number, x) ∷ numbered_in cs) l))
    (λ f. rw f refl)
same_in (d ∷ cs) (suc at) c lt h n l =
    let rest : numbered_in (set cs at c) ≡ numbered_in cs = same_in cs at c (omega arith) h n l in
    by_test d.held
    (λ t. rw t (ap (λ x. (d.number, d.lits) ∷ x) rest))
    (λ f. rw f rest)

-- clauses that stay, whatever their marks
pub keeps_same : (mem : Memory) → KeepsClauses mem mem
keeps_same mem = record { held = λ at. refl; lits = λ at. refl; number = λ at. refl; live = refl; cells = refl; used = refl; most = refl }

pub keeps_twice : (a b c : Memory) → KeepsClauses a b → KeepsClauses b c → KeepsClauses a c
keeps_twice a b c k l = record {
  held = λ at. l.held at ∙ k.held at;
  lits = λ at. l.lits at ∙ k.lits at;
  number = λ at. l.number at ∙ k.number at;
  live = l.live ∙ k.live;
  cells = l.cells ∙ k.cells;
  used = l.used ∙ k.used;
  most = l.most ∙ k.most;
}

pub keeps_marked : (mem mem' : Memory) (at : ℕ) (b : Bool) → IsHeld mem at → mem' ≡ put mem at (record (cell_at mem at) { marked = b }) → held_cells mem' ≡ held_cells mem → KeepsClauses mem mem'
keeps_marked mem mem' at b h e cells =
    let c : Cell = record (cell_at mem at) { marked = b } in
    record {
      held = λ k. ap (λ m. (cell_at m k).held) e ∙ by_eq k at (λ s. ap (λ (x : Cell). x.held) (cell_here mem at k c h s) ∙ ap (λ j. (cell_at mem j).held) (sym s)) (λ ne. ap (λ (x : Cell). x.held) (cell_other mem at k c ne));
      lits = λ k. ap (λ m. (cell_at m k).lits) e ∙ by_eq k at (λ s. ap (λ (x : Cell). x.lits) (cell_here mem at k c h s) ∙ ap (λ j. (cell_at mem j).lits) (sym s)) (λ ne. ap (λ (x : Cell). x.lits) (cell_other mem at k c ne));
      number = λ k. ap (λ m. (cell_at m k).number) e ∙ by_eq k at (λ s. ap (λ (x : Cell). x.number) (cell_here mem at k c h s) ∙ ap (λ j. (cell_at mem j).number) (sym s)) (λ ne. ap (λ (x : Cell). x.number) (cell_other mem at k c ne));
      live = ap live_of e ∙ same_in mem.cells at c (held_within mem.cells at h) refl refl refl;
      cells = cells;
      used = ap (λ (m : Memory). m.used) e;
      most = ap (λ (m : Memory). m.most) e;
    }

pub linked_kept : (mem mem' : Memory) (table : Paged) → KeepsClauses mem mem' → IsLinked mem table → IsLinked mem' table
linked_kept mem mem' table k s = record {
  leads = λ n h. k.held (entry table n) ∙ s.leads n h;
  back = λ n h. k.number (entry table n) ∙ s.back n h;
  led = λ at h. ap (entry table) (k.number at) ∙ s.led at (sym (k.held at) ∙ h);
  none = k.held 0 ∙ s.none;
}

pub clause_kept : (mem mem' : Memory) (table : Paged) (n : ℕ) → KeepsClauses mem mem' → clause_at mem' table n ≡ clause_at mem table n
clause_kept mem mem' table n k = ap (λ ls. cond (entry table n == 0) None (Some ls)) (k.lits (entry table n))

-- the same entries in other pages
pub linked_entries : (mem : Memory) (table table' : Paged) → SameEntries table table' → IsLinked mem table → IsLinked mem table'
linked_entries mem table table' same s = record {
  leads = λ n. rw (same n) (s.leads n);
  back = λ n. rw (same n) (s.back n);
  led = λ at h. same (cell_at mem at).number ∙ s.led at h;
  none = s.none;
}

pub unmarked_entries : (mem : Memory) (table table' : Paged) → SameEntries table table' → AreUnmarked mem table → AreUnmarked mem table'
unmarked_entries mem table table' same u n = rw (same n) (u n)

-- a clause is freed
pub entry_here : (table table' : Paged) (n v m : ℕ) → Sets table table' n v → n ≡ m → entry table' m ≡ v
entry_here table table' n v m sets e = sets m ∙ rw (is_self n m e) refl

pub entry_other : (table table' : Paged) (n v m : ℕ) → Sets table table' n v → n ≢ m → entry table' m ≡ entry table m
entry_other table table' n v m sets ne = sets m ∙ rw (is_not n m ne) refl

pub freed_leads : (table table' : Paged) (n m : ℕ) → Sets table table' n 0 → entry table' m ≢ 0 → n ≢ m
freed_leads table table' n m sets some e = some (entry_here table table' n 0 m sets e)

pub cell_freed : (mem : Memory) (table : Paged) (n m : ℕ) → IsLinked mem table → entry table n ≢ 0 → n ≢ m → cell_at (put mem (entry table n) gone) (entry table m) ≡ cell_at mem (entry table m)
cell_freed mem table n m s some ne = cell_other mem (entry table n) (entry table m) gone (λ e. ne (alone mem table n m s some (sym e)))

freed_in : (cs : List Cell) (at n : ℕ) → OwnNumbers cs → (get_or cs at gone).held ≡ true → (get_or cs at gone).number ≡ n → numbered_in (set cs at gone) ≡ without (n ∷ []) (numbered_in cs)
freed_in [] at n own h e = absurd cc
freed_in (c ∷ cs) zero n own h e =
    let absent : clause_of (numbered_in cs) n ≡ None = found_none cs n (λ i k q. let z : suc i ≡ 0 = own (suc i) 0 k h (q ∙ sym e) in absurd (omega arith)) in
    sym (ap (λ x. without (n ∷ []) (map (λ (k : Cell). (k.number, k.lits)) (cond x (c ∷ held_in cs) (held_in cs)))) h
    ∙ rw (is_self n c.number (sym e)) (without_absent (numbered_in cs) n absent))
freed_in (c ∷ cs) (suc at) n own h e =
    let rest : numbered_in (set cs at gone) ≡ without (n ∷ []) (numbered_in cs) = freed_in cs at n (own_rest c cs own) h e in
    by_test c.held
    (λ t. rw t (rw (is_not n c.number (λ q. let z : 0 ≡ suc at = own 0 (suc at) t h (sym q ∙ sym e) in absurd (omega arith))) (ap (λ x. (c.number, c.lits) ∷ x) rest)))
    (λ f. rw f rest)

pub live_freed : (mem mem' : Memory) (table : Paged) (n : ℕ) → IsLinked mem table → entry table n ≢ 0 → mem' ≡ put mem (entry table n) gone → live_of mem' ≡ without (n ∷ []) (live_of mem)
live_freed mem mem' table n s some e = ap live_of e ∙ freed_in mem.cells (entry table n) n (own_numbers mem table s) (s.leads n some) (s.back n some)

pub linked_freed : (mem mem' : Memory) (table table' : Paged) (n : ℕ) → IsLinked mem table → entry table n ≢ 0 → mem' ≡ put mem (entry table n) gone → Sets table table' n 0 → IsLinked mem' table'
linked_freed mem mem' table table' n s some e sets =
    let leads_to : (m : ℕ) → entry table' m ≢ 0 → cell_at mem' (entry table' m) ≡ cell_at mem (entry table m) = λ m leads.
    let ne = freed_leads table table' n m sets leads in
    ap (λ x. cell_at x (entry table' m)) e ∙ ap (cell_at (put mem (entry table n) gone)) (entry_other table table' n 0 m sets ne) ∙ cell_freed mem table n m s some ne in
    let was : (m : ℕ) → entry table' m ≢ 0 → entry table m ≢ 0 = λ m leads z. leads (entry_other table table' n 0 m sets (freed_leads table table' n m sets leads) ∙ z) in
    let other : (at : ℕ) → at ≢ entry table n → cell_at mem' at ≡ cell_at mem at = λ at q. ap (λ x. cell_at x at) e ∙ cell_other mem (entry table n) at gone q in
    record {
      leads = λ m leads. ap (λ (x : Cell). x.held) (leads_to m leads) ∙ s.leads m (was m leads);
      back = λ m leads. ap (λ (x : Cell). x.number) (leads_to m leads) ∙ s.back m (was m leads);
      led = λ at h. by_eq at (entry table n)
          (λ q. let bad : false ≡ true = sym (ap (λ (x : Cell). x.held) (cell_here mem (entry table n) at gone (s.leads n some) q)) ∙ ap (λ x. (cell_at x at).held) (sym e) ∙ h in absurd cc)
          (λ q.
          let held : IsHeld mem at = ap (λ (x : Cell). x.held) (sym (other at q)) ∙ h in
          let number : (cell_at mem' at).number ≡ (cell_at mem at).number = ap (λ (x : Cell). x.number) (other at q) in
          ap (entry table') number ∙ entry_other table table' n 0 (cell_at mem at).number sets (λ z. q (sym (s.led at held) ∙ ap (entry table) (sym z))) ∙ s.led at held);
      none = ap (λ (x : Cell). x.held) (other 0 (λ q. some (sym q))) ∙ s.none;
    }

pub unmarked_freed : (mem mem' : Memory) (table table' : Paged) (n : ℕ) → IsLinked mem table → AreUnmarked mem table → entry table n ≢ 0 → mem' ≡ put mem (entry table n) gone → Sets table table' n 0 → AreUnmarked mem' table'
unmarked_freed mem mem' table table' n s u some e sets m leads =
    let ne = freed_leads table table' n m sets leads in
    let was = entry_other table table' n 0 m sets ne in
    ap (λ x. (cell_at x (entry table' m)).marked) e ∙ ap (λ k. (cell_at (put mem (entry table n) gone) k).marked) was ∙ ap (λ (x : Cell). x.marked) (cell_freed mem table n m s some ne) ∙ u m (λ z. leads (was ∙ z))

-- the room doesn't matter
pub same_room : (m n : Memory) (r at : ℕ) (c : Cell) → (let m' : Memory = record m { room = r } in IsAdded m' n at c) → IsAdded m n at c
same_room m n r at c a = record { none = a.none; here = a.here; others = a.others; order = a.order; last = a.last; used = a.used; most = a.most }

-- a clause is added
pub live_added : (mem mem' : Memory) (at n : ℕ) (ls : List Literal) → IsAdded mem mem' at (fresh ls n) → live_of mem' ≡ live_of mem ++ (n, ls) ∷ []
live_added mem mem' at n ls a = ap (map (λ (c : Cell). (c.number, c.lits))) a.order ∙ map-append (λ (c : Cell). (c.number, c.lits)) (held_in mem.cells) (fresh ls n ∷ [])

added_other : (mem mem' : Memory) (table table' : Paged) (at n m : ℕ) (ls : List Literal) → IsLinked mem table → IsAdded mem mem' at (fresh ls n) → Sets table table' n at → n ≢ m → entry table' m ≢ 0 → cell_at mem' (entry table' m) ≡ cell_at mem (entry table m)
added_other mem mem' table table' at n m ls s a sets ne leads =
    let to : entry table' m ≡ entry table m = entry_other table table' n at m sets ne in
    ap (cell_at mem') to ∙ a.others (entry table m) (λ q. let bad : true ≡ false = sym (s.leads m (λ z. leads (to ∙ z))) ∙ ap (λ k. (cell_at mem k).held) q ∙ ap (λ (c : Cell). c.held) a.none in absurd cc)

added_here : (mem mem' : Memory) (table table' : Paged) (at n m : ℕ) (ls : List Literal) → IsAdded mem mem' at (fresh ls n) → Sets table table' n at → n ≡ m → cell_at mem' (entry table' m) ≡ fresh ls n
added_here mem mem' table table' at n m ls a sets e = ap (cell_at mem') (entry_here table table' n at m sets e) ∙ a.here

pub linked_added : (mem mem' : Memory) (table table' : Paged) (at n : ℕ) (ls : List Literal) → IsLinked mem table → entry table n ≡ 0 → 0 < at → IsAdded mem mem' at (fresh ls n) → Sets table table' n at → IsLinked mem' table'
linked_added mem mem' table table' at n ls s out low a sets = record {
  leads = λ m leads. by_eq n m
      (λ q. ap (λ (c : Cell). c.held) (added_here mem mem' table table' at n m ls a sets q))
      (λ q. ap (λ (c : Cell). c.held) (added_other mem mem' table table' at n m ls s a sets q leads) ∙ s.leads m (λ z. leads (entry_other table table' n at m sets q ∙ z)));
  back = λ m leads. by_eq n m
      (λ q. ap (λ (c : Cell). c.number) (added_here mem mem' table table' at n m ls a sets q) ∙ q)
      (λ q. ap (λ (c : Cell). c.number) (added_other mem mem' table table' at n m ls s a sets q leads) ∙ s.back m (λ z. leads (entry_other table table' n at m sets q ∙ z)));
  led = λ k h. by_eq k at
      (λ q. ap (λ j. entry table' (cell_at mem' j).number) q ∙ ap (λ (c : Cell). entry table' c.number) a.here ∙ entry_here table table' n at n sets refl ∙ sym q)
      (λ q.
      let was : cell_at mem' k ≡ cell_at mem k = a.others k q in
      let held : IsHeld mem k = ap (λ (c : Cell). c.held) (sym was) ∙ h in
      let led : entry table (cell_at mem k).number ≡ k = s.led k held in
      ap (λ (c : Cell). entry table' c.number) was
      ∙ entry_other table table' n at (cell_at mem k).number sets (λ z. some_reference mem table k s held (sym led ∙ ap (entry table) (sym z) ∙ out)) ∙ led);
  none = ap (λ (c : Cell). c.held) (a.others 0 (λ q. omega arith)) ∙ s.none;
}

pub unmarked_added : (mem mem' : Memory) (table table' : Paged) (at n : ℕ) (ls : List Literal) → IsLinked mem table → AreUnmarked mem table → IsAdded mem mem' at (fresh ls n) → Sets table table' n at → AreUnmarked mem' table'
unmarked_added mem mem' table table' at n ls s u a sets m leads = by_eq n m
    (λ q. ap (λ (c : Cell). c.marked) (added_here mem mem' table table' at n m ls a sets q))
    (λ q. ap (λ (c : Cell). c.marked) (added_other mem mem' table table' at n m ls s a sets q leads) ∙ u m (λ z. leads (entry_other table table' n at m sets q ∙ z)))

-- no marks are left where all held clauses are unmarked
pub marked_none : (mem : Memory) (table : Paged) → IsLinked mem table → AreUnmarked mem table → (at : ℕ) → IsHeld mem at → (cell_at mem at).marked ≡ false
marked_none mem table s u at h =
    let led : entry table (cell_at mem at).number ≡ at = s.led at h in
    ap (λ k. (cell_at mem k).marked) (sym led) ∙ u (cell_at mem at).number (λ z. some_reference mem table at s h (sym led ∙ z))

-- the value that contracts see
abbrev pub stored : Numbered → ℕ → ℕ → ℕ → Stored
stored live last most used = record { clauses = live; last = last; most = most; used = used }

pub stored_is : (live live' : Numbered) (last most used used' : ℕ) → live ≡ live' → used ≡ used' → stored live last most used ≡ stored live' last most used'
stored_is live live' last most used used' e f = ap (λ x. stored x last most used) e ∙ ap (stored live' last most) f

pub stored_fields : (live live' : Numbered) (last last' most most' used used' : ℕ) → live ≡ live' → last ≡ last' → most ≡ most' → used ≡ used' → stored live last most used ≡ stored live' last' most' used'
stored_fields live live' last last' most most' used used' e f g h = stored_is live live' last most used used' e h ∙ ap (λ x. stored live' x most used') f ∙ ap (λ x. stored live' last' x used') g

-- the memory holds the live clauses
pub holds_live : (mem : Memory) (table : Paged) → IsLinked mem table → HoldsLive mem (live_of mem)
holds_live mem table s = record {
  reference = entry table;
  holds = λ n c h. by_eq (entry table n) 0
      (λ q. let bad : Some c ≡ None = sym h ∙ clause_found mem table n s ∙ clause_none mem table n q in absurd cc)
      (λ q. let is : Some (cell_at mem (entry table n)).lits ≡ Some c = sym (clause_found mem table n s ∙ clause_some mem table n q) ∙ h in (s.leads n q, cc));
  alone = λ m n c d h k e. alone mem table m n s (clause_leads mem table m (λ z. let bad : Some c ≡ None = sym h ∙ clause_found mem table m s ∙ z in cc)) e;
  led = λ at h.
      let led : entry table (cell_at mem at).number ≡ at = s.led at h in
      ((cell_at mem at).number, (led, clause_found mem table (cell_at mem at).number s ∙ clause_some mem table (cell_at mem at).number (λ z. some_reference mem table at s h (sym led ∙ z)) ∙ ap (λ k. Some (cell_at mem k).lits) led));
  apart = apart_stored mem table s;
}
