use Rattle.std.proofs.Common.{refl, subst, arith}
use Rattle.sr_arena.specs.Cells.{cell_at}
use Rattle.sr_watch.specs.Attaching.{IsArranged, IsEnlisted}
use Rattle.sr_watch.proofs.Choosing.{arranged_on, first_stays}
use Rattle.sr_watch.proofs.Entering.{entered_rests, enlisted_once}
use Rattle.sr_watch.proofs.attaching.enter_counted.Goals as goal

pub note-requires-clause-chosen : goal.note-requires-clause-chosen
note-requires-clause-chosen g c =
    let t = c.raise-2.ensures.arranged.each c.args.at in
    record {
      first = first_stays c.args.trail.now.lits (cell_at c.raise.new.memory c.args.at).lits (cell_at c.raise-2.new.memory c.args.at).lits t.set t.size (c.raise-2.ensures.before 0 (omega arith)) c.raise.ensures.last;
      second = c.raise-2.ensures.last;
    }

pub returns-clause-rests : goal.returns-clause-rests
returns-clause-rests g c core n y off none put =
    let ar : IsArranged c.args.at c.args.memory.now c.raise-2.new.memory = arranged_on c.args.at c.args.memory.now c.raise.new.memory c.raise-2.new.memory c.raise.ensures.arranged c.raise-2.ensures.arranged in
    let en : IsEnlisted c.args.watches.now.lists c.enlist.new.lists (cell_at c.raise-2.new.memory c.args.at).lits c.args.at = subst (λ x. IsEnlisted c.args.watches.now.lists c.enlist.new.lists x c.args.at) c.lits.ensures.value c.enlist.ensures in
    entered_rests core c.args.memory.now c.raise-2.new.memory n c.args.trail.now c.args.watches.now (record c.args.watches.now { lists = c.enlist.new.lists }) c.note.new.watches c.args.at y off none ar put en refl c.note.ensures

pub returns-clause-once : goal.returns-clause-once
returns-clause-once g c none =
    let en : IsEnlisted c.args.watches.now.lists c.enlist.new.lists (cell_at c.raise-2.new.memory c.args.at).lits c.args.at = subst (λ x. IsEnlisted c.args.watches.now.lists c.enlist.new.lists x c.args.at) c.lits.ensures.value c.enlist.ensures in
    rw c.note.ensures.lists (enlisted_once c.args.watches.now.lists c.enlist.new.lists (cell_at c.raise-2.new.memory c.args.at).lits c.args.at en none)
