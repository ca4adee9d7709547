use Rattle.std.proofs.Common.{List, arith}
use Rattle.sr_model.specs.Meeting.{Step}
use Rattle.sr_load.specs.Loaded.{LoadedState}
use Rattle.sr_placing.specs.Placing.{steps_of}
use Rattle.sr_placing.proofs.Totals.{as_long}
use Rattle.sr_placing.proofs.write.lsr_length.Goals as goal

pub returns : goal.returns
returns g c ts r =
    let st : LoadedState = g.L.Loaded.state c.args.loaded.now in
    let ss : List Step = steps_of st c.args.steps.now in
    let put = c.put_lsr.ensures in
    let one = as_long c.args.form st.formula.clauses ss put.0 put.1 in
    let other = as_long c.args.form st.formula.clauses ss ts r in
    omega (arith, put.2, one, other, c.count.ensures, c.new-length.ensures)
