use Rattle.sr_cnf.proofs.WriteLemmas.{line_put}
use Rattle.sr_cnf.proofs.write.put_line.Goals as goal

pub returns : goal.returns
returns c = line_put c.args.out.now c.put_literals.new.out c.put_end.new.out c.args.lits.now c.put_end.result c.in_ok-put_literals.ensures.ok c.put_end.ensures.ok
