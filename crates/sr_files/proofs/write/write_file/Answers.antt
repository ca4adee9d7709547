use Rattle.sr_files.proofs.Writing.{not_begun, write_failed, file_written, finish_failed}
use Rattle.sr_files.proofs.write.write_file.Goals as goal

pub returns-in-Err-clause-err : goal.returns-in-Err-clause-err
returns-in-Err-clause-err g c =
    not_begun c.args.name.now c.args.bytes.now (g.D.Desk.outside c.args.desk.now) (g.D.Desk.outside c.begin_write.new.self) c.in-Err.field-0 c.in-Err.ensures.begins c.in-Err.ensures.cause

pub returns-in-Err-put_all-clause-err : goal.returns-in-Err-put_all-clause-err
returns-in-Err-put_all-clause-err g c =
    write_failed c.args.name.now c.in-Ok.slot (g.D.Desk.outside c.args.desk.now) (g.D.Desk.outside c.begin_write.new.self) c.in-Ok.ensures.begins c.args.bytes.now (g.D.Desk.outside c.put_all.new.desk)
    c.in-Err-put_all.ensures.only c.in-Err-put_all.ensures.err c.in-Err-put_all.ensures.cause

pub returns-in-Ok-finish-clause-ok : goal.returns-in-Ok-finish-clause-ok
returns-in-Ok-finish-clause-ok g c =
    file_written c.args.name.now c.in-Ok.slot (g.D.Desk.outside c.args.desk.now) (g.D.Desk.outside c.begin_write.new.self) c.in-Ok.ensures.begins c.args.bytes.now (g.D.Desk.outside c.put_all.new.desk)
    (g.D.Desk.outside c.finish.new.self) c.in-Ok-put_all.ensures.only c.in-Ok-put_all.ensures.ok c.in-Ok-finish.field-0 c.in-Ok-finish.ensures.finishes

pub returns-in-Err-finish-clause-err : goal.returns-in-Err-finish-clause-err
returns-in-Err-finish-clause-err g c =
    finish_failed c.args.name.now c.in-Ok.slot (g.D.Desk.outside c.args.desk.now) (g.D.Desk.outside c.begin_write.new.self) c.in-Ok.ensures.begins c.args.bytes.now (g.D.Desk.outside c.put_all.new.desk)
    (g.D.Desk.outside c.finish.new.self) c.in-Ok-put_all.ensures.only c.in-Ok-put_all.ensures.ok c.in-Err-finish.field-0 c.in-Err-finish.ensures.finishes c.in-Err-finish.ensures.cause
