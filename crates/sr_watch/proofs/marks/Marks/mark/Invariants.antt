use Rattle.sr_watch.proofs.Marking.{MarksFirst}
use Rattle.sr_watch.proofs.marks.Marks.mark.Given as goal

abbrev pub invariant-loop-k : goal.invariant-loop-k
invariant-loop-k l = MarksFirst l.fn.self l.self-inside.table.items l.clause l.k-index l.value
