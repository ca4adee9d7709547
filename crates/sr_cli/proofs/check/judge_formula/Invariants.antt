use Rattle.sr_model.specs.Chain.{clauses}
use Rattle.sr_cli.proofs.check.judge_formula.Given as goal

-- the clauses that a new checker holds are those of its formula
abbrev pub ghost-judge_proof : goal.ghost-judge_proof
ghost-judge_proof g a = clauses a.checker.state.live.clauses
