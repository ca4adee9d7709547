use Rattle.std.proofs.Common.{arith, ◌≡◌, ◌≢◌, ℕ, ◌&&◌, not, ◌∙◌, sym, ap, refl, get_or, false, subst}
use Rattle.std.proofs.lemmas.List.{take_all}
use Rattle.sr_model.specs.Assignment.{holds_number}
use Rattle.sr_arena.specs.Cells.{IsHeld, cell_at}
use Rattle.sr_table.specs.Pages.{entry}
use Rattle.sr_check.specs.Storage.{KeepsClauses}
use Rattle.sr_check.proofs.Storing.{keeps_twice, keeps_marked, linked_kept}
use Rattle.sr_check.proofs.Turns.{unmarked_more, unmarked_passed}
use Rattle.sr_check.proofs.dead.unmark.Goals as goal
use Rattle.sr_check.proofs.dead.unmark.Goals.{in-Some, in_default}

pub loop-id-preserved : goal.loop-id-preserved
loop-id-preserved c =
    let n : ℕ = get_or c.args.ids.now c.loop-id.id-index 0 in
    let linked = linked_kept c.args.mem.now c.loop-id.mem c.args.table.now c.loop-id.invariant.same c.requires in
    elim c.match-from_index.branch [
      | in-Some w ↦
          let is : w.in-Some.at ≡ entry c.args.table.now n = w.in-Some.ensures.value ∙ c.get.ensures in
          let some : entry c.args.table.now n ≢ 0 = (λ z. omega arith) in
          let held : IsHeld c.loop-id.mem w.in-Some.at = ap (λ k. (cell_at c.loop-id.mem k).held) is ∙ linked.leads n some in
          let same : KeepsClauses c.args.mem.now w.set_mark.new.self = keeps_twice c.args.mem.now c.loop-id.mem w.set_mark.new.self c.loop-id.invariant.same (keeps_marked c.loop-id.mem w.set_mark.new.self w.in-Some.at false held w.set_mark.ensures.value w.set_mark.ensures.held) in
          record {
            same = subst (KeepsClauses c.args.mem.now) (sym w.mem-is) same;
            marks = λ m b other was. rw w.mem-is (unmarked_more c.loop-id.mem w.set_mark.new.self c.args.table.now c.args.ids.now c.loop-id.id-index n m b (omega arith) refl linked some other (rw (← is) w.set_mark.ensures.value) (c.loop-id.invariant.marks m b other was));
          }
      | in_default w ↦
          let none : entry c.args.table.now n ≡ 0 = sym c.get.ensures ∙ sym w.in_default.ensures.value in
          record {
            same = rw w.mem-is c.loop-id.invariant.same;
            marks = λ m b other was. rw w.mem-is (unmarked_passed c.loop-id.mem c.args.table.now c.args.ids.now c.loop-id.id-index n m b (omega arith) refl none other (c.loop-id.invariant.marks m b other was));
          }
    ]

pub returns-clause-marks : goal.returns-clause-marks
returns-clause-marks c n b some m = c.loop-id.invariant.marks n b some m ∙ ap (λ ns. b && not (holds_number n ns)) (take_all c.loop-id.id-index c.args.ids.now (omega arith))
