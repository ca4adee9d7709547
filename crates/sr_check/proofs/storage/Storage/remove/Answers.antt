use Rattle.std.proofs.Common.{◌≡◌, ◌≢◌, ◌∙◌, sym, ap, refl, arith, [], ◌∷◌}
use Rattle.sr_model.specs.Judging.{without}
use Rattle.sr_arena.specs.Cells.{Memory}
use Rattle.sr_table.specs.Pages.{entry}
use Rattle.sr_check.specs.Storage.{Stored, live_of}
use Rattle.sr_check.proofs.Finding.{without_absent}
use Rattle.sr_check.proofs.Storing.{clause_found, clause_none, entry_other, freed_leads, live_freed, linked_freed, unmarked_freed, stored_is}
use Rattle.sr_check.proofs.storage.Storage.remove.Goals as goal

pub returns-in_default : goal.returns-in_default
returns-in_default c =
    let none : entry c.self.inside.table c.args.id ≡ 0 = sym c.get.ensures ∙ sym c.in_default.ensures.value in
    let same = without_absent (live_of c.self.inside.mem) c.args.id
    (clause_found c.self.inside.mem c.self.inside.table c.args.id c.self.invariant.linked ∙ clause_none c.self.inside.mem c.self.inside.table c.args.id none) in
    sym c.self.view_is
    ∙ stored_is (live_of c.self.inside.mem) (without (c.args.id ∷ []) (live_of c.self.inside.mem)) c.self.inside.last c.self.inside.most c.self.inside.mem.used c.self.inside.mem.used
    (sym same) refl
    ∙ ap (λ (s : Stored). let t : Stored = record s { clauses = without (c.args.id ∷ []) s.clauses } in t) c.self.view_is

pub invariant_of-self : goal.invariant_of-self
invariant_of-self c =
    let is = c.in-Some.ensures.value ∙ c.get.ensures in
    let some : entry c.self.inside.table c.args.id ≢ 0 = (λ z. omega arith) in
    let s = c.self.invariant in
    record {
      linked = linked_freed c.self.inside.mem c.free.new.self c.self.inside.table c.unset.new.self c.args.id s.linked some (rw (← is) c.free.ensures.value) c.unset.ensures.value;
      unmarked = unmarked_freed c.self.inside.mem c.free.new.self c.self.inside.table c.unset.new.self c.args.id s.linked s.unmarked some (rw (← is) c.free.ensures.value) c.unset.ensures.value;
      low = λ m leads. s.low m (λ z. leads (entry_other c.self.inside.table c.unset.new.self c.args.id 0 m c.unset.ensures.value (freed_leads c.self.inside.table c.unset.new.self c.args.id m c.unset.ensures.value leads) ∙ z));
      limit = ap (λ (m : Memory). m.most) c.free.ensures.value ∙ s.limit;
      bound = s.bound;
      pages = omega (arith, s.pages, c.unset.ensures.pages, ap (λ (m : Memory). m.used) c.free.ensures.value);
    }

pub returns : goal.returns
returns c =
    let is = c.in-Some.ensures.value ∙ c.get.ensures in
    let some : entry c.self.inside.table c.args.id ≢ 0 = (λ z. omega arith) in
    let freed = live_freed c.self.inside.mem c.free.new.self c.self.inside.table c.args.id c.self.invariant.linked some (rw (← is) c.free.ensures.value) in
    stored_is (live_of c.free.new.self) (without (c.args.id ∷ []) (live_of c.self.inside.mem)) c.self.inside.last c.self.inside.most c.free.new.self.used c.self.inside.mem.used
    freed (ap (λ (m : Memory). m.used) c.free.ensures.value)
    ∙ ap (λ (s : Stored). let t : Stored = record s { clauses = without (c.args.id ∷ []) s.clauses } in t) c.self.view_is
