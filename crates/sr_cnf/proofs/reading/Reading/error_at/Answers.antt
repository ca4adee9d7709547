use Rattle.std.proofs.Common.{refl}
use Rattle.sr_model.specs.Tokens.{Tokens}
use Rattle.sr_cnf.proofs.Steps.{text_refused, other_refused}
use Rattle.sr_cnf.proofs.reading.Reading.error_at.Goals as goal

pub returns-in-Text-clause-error : goal.returns-in-Text-clause-error
returns-in-Text-clause-error c = λ (all : Tokens) h.
    rw (c.text.ensures, c.kind_at.ensures) (text_refused c.args.self.now all c.in-Text.kind c.in-Text.place (rw c.in-Text.is at h))

pub returns-in_default : goal.returns-in_default
returns-in_default c = record { error = λ (all : Tokens) h. other_refused c.args.self.now all c.args.error c.in_default.not-Text h; fault = refl }
