use Rattle.std.proofs.Common.{sym, ap, ◌∙◌}
use Rattle.sr_model.specs.Assignment.{holds_number}
use Rattle.sr_back.proofs.Indexing.{new_more, new_same}
use Rattle.sr_back.proofs.groups.put_new.Goals as goal
use Rattle.sr_back.proofs.groups.put_new.Goals.{then-not-is_cited+in_ok-put, else-not-is_cited}

pub loop-id-preserved : goal.loop-id-preserved
loop-id-preserved g c n = elim c.if-not-is_cited.branch [
  | then-not-is_cited+in_ok-put w ↦ ap (holds_number n) w.queue-is ∙ new_more c.args.ids.now c.args.queue.now c.loop-id.queue w.put.new.self (g.L.Loaded.state c.args.loaded.now).cited c.loop-id.id-index c.loop-id-test.true (sym w.if-not-is_cited.ensures) w.in_ok-put.ensures.puts c.loop-id.invariant n
  | else-not-is_cited w ↦ ap (holds_number n) w.queue-is ∙ new_same c.args.ids.now c.args.queue.now c.loop-id.queue (g.L.Loaded.state c.args.loaded.now).cited c.loop-id.id-index c.loop-id-test.true (sym w.if-not-is_cited.ensures) c.loop-id.invariant n
]
