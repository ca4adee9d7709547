use Rattle.std.proofs.Common.{arith, ◌≡◌, ◌≢◌, ℕ, ◌∙◌, sym, ap, refl, inl, inr, get_or, take, false, true}
use Rattle.sr_arena.specs.Cells.{IsHeld, cell_at}
use Rattle.sr_model.specs.Assignment.{holds_number}
use Rattle.sr_table.specs.Pages.{entry}
use Rattle.sr_check.proofs.Storing.{clause_none, keeps_same, keeps_twice, keeps_marked, linked_kept}
use Rattle.sr_check.proofs.Turns.{live_none, live_more, live_stops, live_all, marks_more}
use Rattle.sr_check.proofs.dead.mark_each.Goals as goal

pub loop-i-init : goal.loop-i-init
loop-i-init c = record {
  same = keeps_same c.args.mem.now;
  marks = c.requires.unmarked;
  dead = live_none c.args.mem.now c.args.table.now c.args.ids.now;
}

pub returns-in_default-clause-dead : goal.returns-in_default-clause-dead
returns-in_default-clause-dead c = live_stops c.args.mem.now c.args.table.now c.args.ids.now c.loop-i.i (get_or c.args.ids.now c.loop-i.i 0) (omega arith) refl c.loop-i.invariant.dead
    (inl (clause_none c.args.mem.now c.args.table.now (get_or c.args.ids.now c.loop-i.i 0) (sym c.get.ensures ∙ sym c.in_default.ensures.value)))

pub returns-then-mark-clause-dead : goal.returns-then-mark-clause-dead
returns-then-mark-clause-dead c =
    let n : ℕ = get_or c.args.ids.now c.loop-i.i 0 in
    let is : c.in-Some.at ≡ entry c.args.table.now n = c.in-Some.ensures.value ∙ c.get.ensures in
    let some : entry c.args.table.now n ≢ 0 = (λ z. omega arith) in
    live_stops c.args.mem.now c.args.table.now c.args.ids.now c.loop-i.i n (omega arith) refl c.loop-i.invariant.dead
    (inr (sym (c.loop-i.invariant.marks n some) ∙ ap (λ k. (cell_at c.loop-i.mem k).marked) (sym is) ∙ sym c.mark.ensures ∙ c.if-mark.true))

pub loop-i-preserved : goal.loop-i-preserved
loop-i-preserved c =
    let n : ℕ = get_or c.args.ids.now c.loop-i.i 0 in
    let is : c.in-Some.at ≡ entry c.args.table.now n = c.in-Some.ensures.value ∙ c.get.ensures in
    let some : entry c.args.table.now n ≢ 0 = (λ z. omega arith) in
    let out : holds_number n (take c.loop-i.i c.args.ids.now) ≡ false = sym (c.loop-i.invariant.marks n some) ∙ ap (λ k. (cell_at c.loop-i.mem k).marked) (sym is) ∙ sym c.mark.ensures ∙ c.if-mark.false in
    let linked = linked_kept c.args.mem.now c.loop-i.mem c.args.table.now c.loop-i.invariant.same c.requires.linked in
    let held : IsHeld c.loop-i.mem c.in-Some.at = ap (λ k. (cell_at c.loop-i.mem k).held) is ∙ linked.leads n some in
    record {
      same = keeps_twice c.args.mem.now c.loop-i.mem c.set_mark.new.self c.loop-i.invariant.same (keeps_marked c.loop-i.mem c.set_mark.new.self c.in-Some.at true held c.set_mark.ensures.value c.set_mark.ensures.held);
      marks = λ m other. marks_more c.loop-i.mem c.set_mark.new.self c.args.table.now c.args.ids.now c.loop-i.i n m (omega arith) refl linked some other (rw (← is) c.set_mark.ensures.value) (c.loop-i.invariant.marks m other);
      dead = live_more c.args.mem.now c.args.table.now c.args.ids.now c.loop-i.i n (omega arith) refl some out c.loop-i.invariant.dead;
    }

pub returns-clause-dead : goal.returns-clause-dead
returns-clause-dead c = live_all c.args.mem.now c.args.table.now c.args.ids.now c.loop-i.i (omega arith) c.loop-i.invariant.dead
