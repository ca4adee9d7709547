use Rattle.std.proofs.Common.{◌∙◌, refl, subst}
use Rattle.sr_table.specs.Pages.{IsOpen}
use Rattle.sr_check.proofs.Relinking.{Opens, opens_none, opens_more}
use Rattle.sr_check.proofs.storage.open_pages.Goals as goal

pub loop-next-init : goal.loop-next-init
loop-next-init c = record {
  held = c.next-next.ensures.held;
  same = λ m. refl;
  opens = opens_none c.args.mem.now c.args.table.now c.next-next.result c.requires.none c.next-next.ensures.value c.next-next.ensures.rises;
}

pub loop-next-preserved : goal.loop-next-preserved
loop-next-preserved c =
    let s = c.loop-next.invariant in
    record {
      held = c.next-next-in-Some.ensures.held;
      same = λ m. c.in_ok-open.ensures.same m ∙ s.same m;
      opens = opens_more c.args.mem.now c.args.table.now c.loop-next.table c.open.new.self c.in-Some.at c.next-next-in-Some.result c.requires.none (subst (Opens c.args.mem.now c.args.table.now c.loop-next.table) c.in-Some.is s.opens)
          c.in_ok-open.ensures.kept (subst (IsOpen c.open.new.self) c.number.ensures c.in_ok-open.ensures.ok) c.in_ok-open.ensures.pages c.next-next-in-Some.ensures.value c.next-next-in-Some.ensures.rises;
    }

pub returns-clause-open : goal.returns-clause-open
returns-clause-open c = (subst (Opens c.args.mem.now c.args.table.now c.loop-next.table) c.in_default.is c.loop-next.invariant.opens).opens c.loop-next.table (λ n i. i) tt
