use Rattle.sr_files.proofs.Writing.{not_begun, write_failed, file_written, finish_failed}
use Rattle.sr_trim.specs.Trimming.{lsr_text}
use Rattle.sr_trim.specs.Passing.{kept_steps}
use Rattle.sr_trim.proofs.Passed.{as_kept}
use Rattle.sr_trim.proofs.writing.write_lsr_file.Goals as goal

pub returns-in-Err : goal.returns-in-Err
returns-in-Err g c =
    let st = g.L.Loaded.state c.args.loaded.now in (
      kept_steps st c.args.steps.now,
      as_kept st c.args.steps.now c.requires.writable,
      not_begun c.args.name.now (lsr_text c.args.form st.formula.clauses (kept_steps st c.args.steps.now)) (g.D.Desk.outside c.args.desk.now) (g.D.Desk.outside c.begin_write.new.self) c.in-Err.field-0
          c.in-Err.ensures.begins c.in-Err.ensures.cause,
    )

pub returns-in-Err-write_lsr : goal.returns-in-Err-write_lsr
returns-in-Err-write_lsr g c =
    let st = g.L.Loaded.state c.args.loaded.now in
    let w = c.in-Err-write_lsr.ensures.sends in (
      w.0,
      w.1,
      write_failed c.args.name.now c.in-Ok.slot (g.D.Desk.outside c.args.desk.now) (g.D.Desk.outside c.begin_write.new.self) c.in-Ok.ensures.begins (lsr_text c.args.form st.formula.clauses w.0)
          (g.D.Desk.outside c.write_lsr.new.desk) c.in-Err-write_lsr.ensures.only w.2 c.in-Err-write_lsr.ensures.cause,
    )

pub returns-in-Ok-finish : goal.returns-in-Ok-finish
returns-in-Ok-finish g c =
    let st = g.L.Loaded.state c.args.loaded.now in
    let w = c.in-Ok-write_lsr.ensures.sends in (
      w.0,
      w.1,
      file_written c.args.name.now c.in-Ok.slot (g.D.Desk.outside c.args.desk.now) (g.D.Desk.outside c.begin_write.new.self) c.in-Ok.ensures.begins (lsr_text c.args.form st.formula.clauses w.0)
          (g.D.Desk.outside c.write_lsr.new.desk) (g.D.Desk.outside c.finish.new.self) c.in-Ok-write_lsr.ensures.only w.2 c.in-Ok-finish.field-0 c.in-Ok-finish.ensures.finishes,
    )

pub returns-in-Err-finish : goal.returns-in-Err-finish
returns-in-Err-finish g c =
    let st = g.L.Loaded.state c.args.loaded.now in
    let w = c.in-Ok-write_lsr.ensures.sends in (
      w.0,
      w.1,
      finish_failed c.args.name.now c.in-Ok.slot (g.D.Desk.outside c.args.desk.now) (g.D.Desk.outside c.begin_write.new.self) c.in-Ok.ensures.begins (lsr_text c.args.form st.formula.clauses w.0)
          (g.D.Desk.outside c.write_lsr.new.desk) (g.D.Desk.outside c.finish.new.self) c.in-Ok-write_lsr.ensures.only w.2 c.in-Err-finish.field-0 c.in-Err-finish.ensures.finishes c.in-Err-finish.ensures.cause,
    )
