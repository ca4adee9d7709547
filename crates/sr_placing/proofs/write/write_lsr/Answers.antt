use Rattle.sr_model.specs.Writing.{written_items}
use Rattle.sr_trimming.specs.Placing.{placed}
use Rattle.sr_load.specs.Loaded.{LoadedState}
use Rattle.sr_placing.proofs.Sending.{file_ended}
use Rattle.sr_placing.proofs.write.write_lsr.Goals as goal

pub returns : goal.returns
returns g c =
    let st : LoadedState = g.L.Loaded.state c.args.loaded.now in
    let put = c.put_lsr.ensures in
    let ended = file_ended c.args.slot.number c.begin.new.self (g.D.Desk.outside c.args.desk.now) c.put_lsr.new.sink (g.D.Desk.outside c.put_lsr.new.out) c.end.new.self (g.D.Desk.outside c.end.new.desk)
    (written_items c.args.form (placed st.formula.clauses put.0)) c.end.result c.begin.ensures put.2 c.end.ensures.puts c.end.ensures.ok c.end.ensures.err in
    record { sends = (put.0, put.1, ended.0); only = ended.2; cause = ended.1 }
