use Rattle.std.proofs.Common.{◌≡◌, ◌∙◌, true, false, sym, subst, refl, Ok, length}
use Rattle.sr_model.specs.Tokens.{Tokens}
use Rattle.sr_model.specs.Dimacs.{by_end, at_end}
use Rattle.sr_cnf.specs.Reading.{open_of, is_open}
use Rattle.sr_cnf.proofs.Steps.{decided_end, decided_last, word_taken, word_refused, left-end, left-last}
use Rattle.sr_cnf.proofs.reading.Reading.take_clauses.Goals as goal

pub returns-in-End-clause-takes : goal.returns-in-End-clause-takes
returns-in-End-clause-takes c =
    decided_end c.args.self.now c.args.self.now.formula c.args.token (by_end c.args.self.now.formula.vars c.args.count c.args.self.now.formula.clauses (open_of c.args.self.now.inside c.args.self.now.lits) c.args.token.place)
    c.take_end.result c.args.self.now c.in-End.is refl (left-end c.args.self.now c.args.count c.args.token c.requires.stage c.in-End.is) c.take_end.ensures

pub returns-then-not-is_open-clause-takes : goal.returns-then-not-is_open-clause-takes
returns-then-not-is_open-clause-takes c =
    let closed : is_open c.args.self.now.inside (length c.args.self.now.formula.clauses) c.args.count ≡ false = sym c.is_open.ensures ∙ c.if-not-is_open.true in
    decided_last c.args.self.now c.args.self.now.formula c.args.token (at_end c.args.self.now.formula.vars c.args.self.now.formula.clauses c.args.token.word c.args.token.place)
    c.take_last.result c.args.self.now refl (left-last c.args.self.now c.args.count c.args.token c.requires.stage c.in_default.not-End closed) c.take_last.ensures

pub returns-in-Ok-clause-takes : goal.returns-in-Ok-clause-takes
returns-in-Ok-clause-takes c =
    let opened : is_open c.args.self.now.inside (length c.args.self.now.formula.clauses) c.args.count ≡ true = sym c.is_open.ensures ∙ c.if-not-is_open.false in
    word_taken c.args.self.now c.take_word.new.self c.args.count c.args.token c.in-Ok.field-0 c.requires.stage c.in_default.not-End opened c.in-Ok.ensures.takes

pub returns-in-Err-clause-takes : goal.returns-in-Err-clause-takes
returns-in-Err-clause-takes c =
    let opened : is_open c.args.self.now.inside (length c.args.self.now.formula.clauses) c.args.count ≡ true = sym c.is_open.ensures ∙ c.if-not-is_open.false in
    word_refused c.args.self.now c.take_word.new.self c.args.count c.args.token c.in-Err.error c.requires.stage c.in_default.not-End opened c.in-Err.ensures.takes
