use Rattle.std.proofs.Common.{◌≡◌, ◌∙◌, ◌+◌, ◌<◌, ◌≤◌, ◌≢◌, ◌++◌, ◌∷◌, [], ◌==◌, cond, ℕ, Err, subst, ap, refl, arith, length}
use Rattle.sr_model.specs.Chain.{clauses}
use Rattle.sr_model.specs.Judging.{clause_cells, cells_of}
use Rattle.sr_base.specs.declared.names.AddError.{AddError}
use Rattle.sr_base.specs.declared.names.AddError.TheVariants.{Cells, NoMemory}
use Rattle.sr_arena.specs.Cells.{Memory, IsAdded, fresh, held_cells}
use Rattle.sr_table.specs.Pages.{Paged, entry, Sets, SameEntries}
use Rattle.sr_check.specs.Storage.{Stored, with_last, live_of}
use Rattle.sr_table.proofs.Paging.{by_eq}
use Rattle.sr_check.proofs.Storing.{counts, same_room, entry_other, stored_is, live_added, linked_added, unmarked_added}
use Rattle.sr_check.proofs.storage.Storage.add_last.Goals as goal

two : (e : AddError) → (e ≡ Cells → ⊥) → (e ≡ NoMemory → ⊥) → ⊥
two Cells f g = f refl
two NoMemory f g = g refl

-- the number is new, and leads to the new clause
sets_at : (old now new : Paged) (n at to : ℕ) → SameEntries old now → Sets now new n to → to ≡ at → Sets old new n at
sets_at old now new n at to same sets e m = sets m ∙ ap (λ k. cond (n == m) k (entry now m)) e ∙ ap (λ k. cond (n == m) at k) (same m)

fresh_entry : (table : Paged) (last n : ℕ) → ((m : ℕ) → entry table m ≢ 0 → m ≤ last) → last < n → entry table n ≡ 0
fresh_entry table last n low lt = by_eq (entry table n) 0 (λ z. z) (λ z. absurd (omega (arith, low n z)))

pub reserve-requires : goal.reserve-requires
reserve-requires c =
    let most : c.self.inside.most ≡ c.args.self.now.most = ap (λ (s : Stored). s.most) c.self.view_is in
    omega (arith, c.requires.fits, most, c.self.invariant.bound)

pub invariant_of-self-in_default : goal.invariant_of-self-in_default
invariant_of-self-in_default c = absurd (two c.in_default.field-0
    (λ e. let over : c.reserve.new.self.most < held_cells c.reserve.new.self + (length c.args.lits.now + 4) = c.in_default.ensures.cells.0 (ap Err e) in
    let held : held_cells c.reserve.new.self ≡ cells_of (clauses c.args.self.now.clauses) = ap held_cells c.in_ok-reserve.ensures.same ∙ counts c.self.inside.mem ∙ ap (λ (s : Stored). cells_of (clauses s.clauses)) c.self.view_is in
    omega (arith, over, held, c.requires.fits, ap (λ (m : Memory). m.most) c.in_ok-reserve.ensures.same, c.self.invariant.limit, ap (λ (s : Stored). s.most) c.self.view_is))
    (λ e. let lacks : c.reserve.new.self.room < length c.args.lits.now + 2 = c.in_default.ensures.memory (ap Err e) in
    omega (arith, lacks, c.in_ok-reserve.ensures.ok)))

pub invariant_of-self-2 : goal.invariant_of-self-2
invariant_of-self-2 c =
    let last : c.self.inside.last ≡ c.args.self.now.last = ap (λ (s : Stored). s.last) c.self.view_is in
    let s = c.self.invariant in
    let out : entry c.self.inside.table c.args.id ≡ 0 = fresh_entry c.self.inside.table c.self.inside.last c.args.id s.low (omega (arith, last, c.requires.new)) in
    let sets : Sets c.self.inside.table c.put.new.self c.args.id c.in-Ok.at = sets_at c.self.inside.table c.open.new.self c.put.new.self c.args.id c.in-Ok.at c.index.result c.in_ok-open.ensures.same c.put.ensures.value c.index.ensures.value in
    let added : IsAdded c.self.inside.mem c.add.new.self c.in-Ok.at (fresh c.args.lits.now c.args.id) =
    same_room c.self.inside.mem c.add.new.self c.reserve.new.self.room c.in-Ok.at (fresh c.args.lits.now c.args.id) (subst (λ m. IsAdded m c.add.new.self c.in-Ok.at (fresh c.args.lits.now c.args.id)) c.in_ok-reserve.ensures.same c.in-Ok.ensures.ok) in
    record {
      linked = linked_added c.self.inside.mem c.add.new.self c.self.inside.table c.put.new.self c.in-Ok.at c.args.id c.args.lits.now s.linked out (omega (arith, c.index.ensures)) added sets;
      unmarked = unmarked_added c.self.inside.mem c.add.new.self c.self.inside.table c.put.new.self c.in-Ok.at c.args.id c.args.lits.now s.linked s.unmarked added sets;
      low = λ n leads. by_eq c.args.id n
          (λ q. omega (arith, q))
          (λ q. omega (arith, s.low n (λ z. leads (entry_other c.self.inside.table c.put.new.self c.args.id c.in-Ok.at n sets q ∙ z)), last, c.requires.new));
      limit = added.most ∙ s.limit;
      bound = s.bound;
      pages = omega (arith, s.pages, c.put.ensures.pages, c.in_ok-open.ensures.pages, added.used);
    }

pub returns-clause-ok : goal.returns-clause-ok
returns-clause-ok c =
    let added : IsAdded c.self.inside.mem c.add.new.self c.in-Ok.at (fresh c.args.lits.now c.args.id) =
    same_room c.self.inside.mem c.add.new.self c.reserve.new.self.room c.in-Ok.at (fresh c.args.lits.now c.args.id) (subst (λ m. IsAdded m c.add.new.self c.in-Ok.at (fresh c.args.lits.now c.args.id)) c.in_ok-reserve.ensures.same c.in-Ok.ensures.ok) in
    stored_is (live_of c.add.new.self) (live_of c.self.inside.mem ++ (c.args.id, c.args.lits.now) ∷ []) c.args.id c.self.inside.most c.add.new.self.used (c.self.inside.mem.used + clause_cells c.args.lits.now)
    (live_added c.self.inside.mem c.add.new.self c.in-Ok.at c.args.id c.args.lits.now added) added.used
    ∙ ap (λ s. with_last s c.args.id c.args.lits.now) c.self.view_is
