use Rattle.sr_cli.proofs.Printing.{cut_at_end}
use Rattle.sr_cli.proofs.report.print.Goals as goal

pub returns-in-Err-finish-clause-err : goal.returns-in-Err-finish-clause-err
returns-in-Err-finish-clause-err g c =
    cut_at_end c.args.bytes.now (g.D.Desk.outside c.args.desk.now) (g.D.Desk.outside c.put_all.new.desk) (g.D.Desk.outside c.finish.new.self) c.in-Err-finish.field-0
    c.in-Ok.ensures.ok c.in-Ok.ensures.only c.in-Err-finish.ensures.finishes c.in-Err-finish.ensures.cause
