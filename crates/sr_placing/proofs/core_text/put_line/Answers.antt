use Rattle.std.proofs.Common.{ℕ, List, subst}
use Rattle.sr_placing.proofs.Coring.{line_put}
use Rattle.sr_placing.proofs.core_text.put_line.Goals as goal

pub returns : goal.returns
returns g c =
    subst (λ (x : List ℕ). g.S.Sink.puts c.args.sink.now c.args.out.now c.put_end.new.sink c.put_end.new.out x) (line_put c.args.lits.now) (g.met.S.Sink.joined _ _ _ _ _ _ _ _ c.put_literals.ensures c.put_end.ensures)
