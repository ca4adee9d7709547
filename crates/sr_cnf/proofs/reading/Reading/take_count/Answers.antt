use Rattle.std.proofs.Common.{sym, ap, subst}
use Rattle.sr_model.specs.Tokens.{Tokens}
use Rattle.sr_scan.specs.Left.{front_word}
use Rattle.sr_cnf.specs.Reading.{left_at, RefusesHere}
use Rattle.sr_cnf.proofs.Steps.{at_stage}
use Rattle.sr_cnf.proofs.reading.Reading.take_count.Goals as goal

pub returns-in-Err-clause-takes : goal.returns-in-Err-clause-takes
returns-in-Err-clause-takes c = λ (rest : Tokens).
    subst (λ r. RefusesHere r c.in-Err.error) (sym (at_stage c.args.self.now _ (front_word c.args.token.place c.args.token.word rest) c.requires.stage)) (c.in-Err.ensures rest _)
