use Rattle.sr_files.proofs.Writing.{not_begun, write_failed, file_written, finish_failed}
use Rattle.sr_trim.specs.Trimming.{core_text}
use Rattle.sr_trim.proofs.writing.write_core_file.Goals as goal

pub returns-in-Err : goal.returns-in-Err
returns-in-Err g c ss is =
    not_begun c.args.name.now (core_text c.args.formula.now ss) (g.D.Desk.outside c.args.desk.now) (g.D.Desk.outside c.begin_write.new.self) c.in-Err.field-0 c.in-Err.ensures.begins c.in-Err.ensures.cause

pub returns-in-Err-write_core : goal.returns-in-Err-write_core
returns-in-Err-write_core g c ss is =
    write_failed c.args.name.now c.in-Ok.slot (g.D.Desk.outside c.args.desk.now) (g.D.Desk.outside c.begin_write.new.self) c.in-Ok.ensures.begins (core_text c.args.formula.now ss)
    (g.D.Desk.outside c.write_core.new.desk) c.in-Err-write_core.ensures.only (c.in-Err-write_core.ensures.sends ss is) c.in-Err-write_core.ensures.cause

pub returns-in-Ok-finish : goal.returns-in-Ok-finish
returns-in-Ok-finish g c ss is =
    file_written c.args.name.now c.in-Ok.slot (g.D.Desk.outside c.args.desk.now) (g.D.Desk.outside c.begin_write.new.self) c.in-Ok.ensures.begins (core_text c.args.formula.now ss)
    (g.D.Desk.outside c.write_core.new.desk) (g.D.Desk.outside c.finish.new.self) c.in-Ok-write_core.ensures.only (c.in-Ok-write_core.ensures.sends ss is) c.in-Ok-finish.field-0 c.in-Ok-finish.ensures.finishes

pub returns-in-Err-finish : goal.returns-in-Err-finish
returns-in-Err-finish g c ss is =
    finish_failed c.args.name.now c.in-Ok.slot (g.D.Desk.outside c.args.desk.now) (g.D.Desk.outside c.begin_write.new.self) c.in-Ok.ensures.begins (core_text c.args.formula.now ss)
    (g.D.Desk.outside c.write_core.new.desk) (g.D.Desk.outside c.finish.new.self) c.in-Ok-write_core.ensures.only (c.in-Ok-write_core.ensures.sends ss is) c.in-Err-finish.field-0
    c.in-Err-finish.ensures.finishes c.in-Err-finish.ensures.cause
