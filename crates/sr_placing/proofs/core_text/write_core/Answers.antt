use Rattle.sr_model.specs.Writing.{written_formula}
use Rattle.sr_trimming.specs.Citing.{core}
use Rattle.sr_placing.proofs.Sending.{file_ended}
use Rattle.sr_placing.proofs.core_text.write_core.Goals as goal

pub returns-clause-sends : goal.returns-clause-sends
returns-clause-sends g c ss placed = (file_ended c.args.slot.number c.begin.new.self (g.D.Desk.outside c.args.desk.now) c.put_core.new.sink (g.D.Desk.outside c.put_core.new.out) c.end.new.self (g.D.Desk.outside c.end.new.desk)
    (written_formula (record { vars = c.args.formula.now.vars; clauses = core c.args.formula.now.clauses ss })) c.end.result c.begin.ensures (c.put_core.ensures ss placed) c.end.ensures.puts c.end.ensures.ok c.end.ensures.err).0

pub returns-clause-only : goal.returns-clause-only
returns-clause-only g c = (file_ended c.args.slot.number c.begin.new.self (g.D.Desk.outside c.args.desk.now) c.put_core.new.sink (g.D.Desk.outside c.put_core.new.out) c.end.new.self (g.D.Desk.outside c.end.new.desk)
    (written_formula (record { vars = c.args.formula.now.vars; clauses = core c.args.formula.now.clauses c.requires.placed.0 })) c.end.result c.begin.ensures (c.put_core.ensures c.requires.placed.0 c.requires.placed.1)
    c.end.ensures.puts c.end.ensures.ok c.end.ensures.err).2

pub returns-clause-cause : goal.returns-clause-cause
returns-clause-cause g c = (file_ended c.args.slot.number c.begin.new.self (g.D.Desk.outside c.args.desk.now) c.put_core.new.sink (g.D.Desk.outside c.put_core.new.out) c.end.new.self (g.D.Desk.outside c.end.new.desk)
    (written_formula (record { vars = c.args.formula.now.vars; clauses = core c.args.formula.now.clauses c.requires.placed.0 })) c.end.result c.begin.ensures (c.put_core.ensures c.requires.placed.0 c.requires.placed.1)
    c.end.ensures.puts c.end.ensures.ok c.end.ensures.err).1
