use Rattle.std.proofs.Common.{subst, sym}
use Rattle.sr_arena.specs.Cells.{IsHeld, IsHeldOrNone, cell_at}
use Rattle.sr_table.specs.Pages.{IsOpen, Sets}
use Rattle.sr_check.proofs.Relinking.{Leads, leads_none, leads_more, leads_all, open_at, own_of_apart}
use Rattle.sr_check.proofs.storage.link.Goals as goal

pub loop-next-init : goal.loop-next-init
loop-next-init c = record {
  held = c.next-next.ensures.held;
  leads = leads_none c.args.mem.now c.args.table.now c.next-next.result c.requires.none c.requires.known c.requires.«open» c.next-next.ensures.value;
}

pub put-requires : goal.put-requires
put-requires c =
    let s = c.loop-next.invariant in
    let held : IsHeld c.args.mem.now c.in-Some.at = subst (IsHeldOrNone c.args.mem.now) c.in-Some.is s.held in
    subst (IsOpen c.loop-next.table) (sym c.number.ensures) (open_at c.loop-next.table c.args.mem.now.cells c.in-Some.at s.leads.opened held)

pub loop-next-preserved : goal.loop-next-preserved
loop-next-preserved c =
    let s = c.loop-next.invariant in
    let held : IsHeld c.args.mem.now c.in-Some.at = subst (IsHeldOrNone c.args.mem.now) c.in-Some.is s.held in
    let sets : Sets c.loop-next.table c.put.new.self (cell_at c.args.mem.now c.in-Some.at).number c.in-Some.at = subst (λ n. Sets c.loop-next.table c.put.new.self n c.in-Some.at) c.number.ensures (subst (λ v. Sets c.loop-next.table c.put.new.self c.number.result v) c.index.ensures.value c.put.ensures.value) in
    record {
      held = c.next-next-in-Some.ensures.held;
      leads = leads_more c.args.mem.now c.args.table.now c.loop-next.table c.put.new.self c.in-Some.at c.next-next-in-Some.result (own_of_apart c.args.mem.now.cells c.requires.apart) (subst (Leads c.args.mem.now c.args.table.now c.loop-next.table) c.in-Some.is s.leads)
          held sets c.put.ensures.kept c.put.ensures.pages c.next-next-in-Some.ensures.value;
    }

pub returns-clause-linked : goal.returns-clause-linked
returns-clause-linked c = leads_all c.args.mem.now c.args.table.now c.loop-next.table c.requires.none (subst (Leads c.args.mem.now c.args.table.now c.loop-next.table) c.in_default.is c.loop-next.invariant.leads)
