use Rattle.std.proofs.Common.{◌≡◌, true, Bool, Ok, subst, refl, sym, false}
use Rattle.sr_base.specs.Contents.{Contents}
use Rattle.sr_model.specs.Dimacs.{formula_at}
use Rattle.sr_model.specs.Tokens.{Tokens, lost}
use Rattle.sr_scan.specs.Left.{text_left, is_source}
use Rattle.sr_desk.proofs.ReaderLemmas.{Reads-trans}
use Rattle.sr_scan.proofs.ReadLemmas.{agreed, Reads-as}
use Rattle.sr_cnf.specs.Reading.{Takes}
use Rattle.sr_cnf.proofs.Fronts.{fault_given, error_given, formula_given, goes_on, no_source}
use Rattle.sr_cnf.proofs.read.read_formula.Goals as goal

pub returns-in-Err-clause-formula : goal.returns-in-Err-clause-formula
returns-in-Err-clause-formula g c = λ (k : Contents) h.
    error_given (formula_at c.args.limits.now (text_left c.args.reader.now k)) (text_left c.tokens.reader k) c.tokens.reading c.in-Err.error c.error_at.result
    (c.tokens.invariant.spells k (agreed c.in-Err.ensures.reads h)) (c.in-Err.ensures.token k h) c.error_at.ensures.error

pub returns-in-Err-clause-reads : goal.returns-in-Err-clause-reads
returns-in-Err-clause-reads g c = Reads-as (sym c.error_at.ensures.fault) (Reads-trans c.tokens.invariant.reads c.in-Err.ensures.reads)

pub returns-in-Err-take-clause-formula : goal.returns-in-Err-take-clause-formula
returns-in-Err-take-clause-formula g c = λ (k : Contents) h.
    fault_given (formula_at c.args.limits.now (text_left c.args.reader.now k)) (text_left c.tokens.reader k) (text_left c.text_item.new.reader k) c.tokens.reading c.take.new.self c.in-Ok.token c.in-Err-take.error
    (c.tokens.invariant.spells k (agreed c.in-Ok.ensures.reads h)) (c.in-Ok.ensures.token k h) c.in-Err-take.ensures.takes

pub returns-in-Err-take-clause-reads : goal.returns-in-Err-take-clause-reads
returns-in-Err-take-clause-reads g c = Reads-as (sym (no_source _ c.in-Err-take.error (c.in-Err-take.ensures.takes lost))) (Reads-trans c.tokens.invariant.reads c.in-Ok.ensures.reads)

pub returns-in-Ok-true-clause-reads : goal.returns-in-Ok-true-clause-reads
returns-in-Ok-true-clause-reads g c = Reads-trans c.tokens.invariant.reads c.in-Ok.ensures.reads

pub returns-in-Ok-true-clause-formula : goal.returns-in-Ok-true-clause-formula
returns-in-Ok-true-clause-formula g c = λ (k : Contents) h.
    let takes : Takes c.tokens.reading c.take.new.self c.in-Ok.token (Ok true) = subst (λ (b : Bool). Takes c.tokens.reading c.take.new.self c.in-Ok.token (Ok b)) c.in-Ok-true.field-0-test c.in-Ok-true.ensures.takes in
    formula_given (formula_at c.args.limits.now (text_left c.args.reader.now k)) (text_left c.tokens.reader k) (text_left c.text_item.new.reader k) c.tokens.reading c.take.new.self c.in-Ok.token
    (c.tokens.invariant.spells k (agreed c.in-Ok.ensures.reads h)) (c.in-Ok.ensures.token k h) takes

pub tokens-preserved : goal.tokens-preserved
tokens-preserved g c =
    let takes : Takes c.tokens.reading c.take.new.self c.in-Ok.token (Ok false) = subst (λ (b : Bool). Takes c.tokens.reading c.take.new.self c.in-Ok.token (Ok b)) c.in-Ok-false.field-0-test c.in-Ok-false.ensures.takes in
    record {
      spells = λ (k : Contents) h. goes_on (formula_at c.args.limits.now (text_left c.args.reader.now k)) (text_left c.tokens.reader k) (text_left c.text_item.new.reader k) c.tokens.reading c.take.new.self c.in-Ok.token
          (c.tokens.invariant.spells k (agreed c.in-Ok.ensures.reads h)) (c.in-Ok.ensures.token k h) takes;
      keeps = c.in-Ok-false.ensures.keeps;
      reads = Reads-trans c.tokens.invariant.reads c.in-Ok.ensures.reads;
      stands = c.in-Ok.ensures.reads.stands refl;
    }
