use Rattle.std.proofs.Common.{◌∙◌, ap, refl, arith, subst, sym}
use Rattle.sr_model.specs.Chain.{clauses}
use Rattle.sr_model.specs.Judging.{cells_of}
use Rattle.sr_check.specs.Storage.{Stored, live_of, AreApart}
use Rattle.sr_check.proofs.Storing.{counts, apart_stored, stored_is}
use Rattle.sr_check.proofs.Relinking.{live_packed, unmarked_packed, low_packed}
use Rattle.sr_check.proofs.storage.Storage.tidy.Goals as goal

pub returns-then-used_cells-held-clause-ok : goal.returns-then-used_cells-held-clause-ok
returns-then-used_cells-held-clause-ok c =
    omega (arith, c.if-used_cells-held.true, c.used_cells.ensures, c.held_cells-held.ensures.value, counts c.self.inside.mem, ap (λ (s : Stored). s.used) c.self.view_is, ap (λ (s : Stored). cells_of (clauses s.clauses)) c.self.view_is)

pub link-requires-clause-apart : goal.link-requires-clause-apart
link-requires-clause-apart c = subst AreApart (sym (live_packed c.self.inside.mem c.pack.new.self c.pack.ensures)) (apart_stored c.self.inside.mem c.self.inside.table c.self.invariant.linked)

pub invariant_of-self-2 : goal.invariant_of-self-2
invariant_of-self-2 c =
    let s = c.self.invariant in
    record {
      linked = c.link.ensures.linked;
      unmarked = unmarked_packed c.self.inside.mem c.pack.new.self c.self.inside.table c.link.new.table s.linked s.unmarked c.pack.ensures c.link.ensures.linked;
      low = low_packed c.self.inside.mem c.pack.new.self c.self.inside.table c.link.new.table c.self.inside.last s.linked s.low c.pack.ensures c.link.ensures.linked;
      limit = c.pack.ensures.most ∙ s.limit;
      bound = s.bound;
      pages = omega (arith, c.link.ensures.pages, c.in_ok-prepare.ensures.pages, c.pack.ensures.used, c.pack.ensures.held);
    }

pub returns-clause-same : goal.returns-clause-same
returns-clause-same c =
    stored_is (live_of c.pack.new.self) (live_of c.self.inside.mem) c.self.inside.last c.self.inside.most c.pack.new.self.used c.pack.new.self.used (live_packed c.self.inside.mem c.pack.new.self c.pack.ensures) refl
    ∙ ap (λ (s : Stored). let t : Stored = record s { used = c.pack.new.self.used } in t) c.self.view_is

pub returns-clause-rare : goal.returns-clause-rare
returns-clause-rare c low =
    absurd (omega (arith, low, c.if-used_cells-held.false, c.used_cells.ensures, c.held_cells-held.ensures.value, counts c.self.inside.mem, ap (λ (s : Stored). s.used) c.self.view_is, ap (λ (s : Stored). cells_of (clauses s.clauses)) c.self.view_is))

pub returns-clause-ok : goal.returns-clause-ok
returns-clause-ok c =
    omega (arith, c.pack.ensures.used, c.pack.ensures.held, counts c.self.inside.mem, ap (λ (s : Stored). cells_of (clauses s.clauses)) c.self.view_is)
