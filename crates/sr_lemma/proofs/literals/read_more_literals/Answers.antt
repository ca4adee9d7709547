use Rattle.std.proofs.Common.{ℕ, ◌≡◌, ◌++◌, ◌∷◌, [], suc, map, Ok, Some, None, refl, arith}
use Rattle.std.proofs.lemmas.Grind.{common_steps}
use Rattle.sr_base.specs.Contents.{Contents}
use Rattle.sr_base.specs.Literal.{number}
use Rattle.sr_base.specs.declared.names.LimitKind.TheVariants.{Vars}
use Rattle.sr_desk.specs.Outside.{Agrees}
use Rattle.sr_desk.proofs.ReaderLemmas.{Reads-trans}
use Rattle.sr_model.specs.Lsr.{numbers_after}
use Rattle.sr_scan.specs.Left.{tokens_left}
use Rattle.sr_scan.proofs.ReadLemmas.{agreed, Reads-skips}
use Rattle.sr_lemma.specs.Reads.{SaysLiteral, TakesLiterals}
use Rattle.sr_lemma.proofs.NumberLemmas.{more_ahead, holds_more, more_stop, more_fault, more_end, named_more}
use Rattle.sr_lemma.proofs.literals.read_more_literals.Given.{Over}
use Rattle.sr_lemma.proofs.literals.read_more_literals.Goals as goal
use Rattle.sr_lemma.proofs.literals.read_more_literals.Goals.{After-next_token}

-- the literals with those that were at hand
ahead : (g : Over) (c : After-next_token g) (k : Contents) (lists o : ℕ) → Agrees ((g.D.Desk.outside c.tokens.desk).slot c.take_at_hand.new.reader.slot) k
    → numbers_after Vars c.args.bound (map number c.args.lits.now) (tokens_left c.args.form lists (suc o) c.args.reader.now k)
    ≡ numbers_after Vars c.args.bound (map number c.take_at_hand.new.lits) (tokens_left c.args.form lists (suc o) c.take_at_hand.new.reader k)
ahead g c k lists o h =
    let takes : TakesLiterals c.args.form c.args.bound c.tokens.reader c.take_at_hand.new.reader c.tokens.lits c.take_at_hand.new.lits = grind (arith, common_steps) in
    more_ahead c.args.form c.args.bound c.args.lits.now c.tokens.lits c.take_at_hand.new.lits c.args.reader.now c.tokens.reader c.take_at_hand.new.reader (g.D.Desk.outside c.tokens.desk) k lists o
    c.tokens.invariant.literals c.tokens.invariant.stands takes c.take_at_hand.ensures.skips h

pub returns-in-Err-clause-literals : goal.returns-in-Err-clause-literals
returns-in-Err-clause-literals g c = λ (lists o : ℕ) (k : Contents) h.
    more_stop c.args.form c.args.bound c.args.lits.now c.take_at_hand.new.lits c.args.reader.now c.take_at_hand.new.reader c.next_token.new.reader k c.in-Err.error lists o
    (ahead g (goal.at.returns-in-Err-clause-literals g c).After-next_token k lists o (agreed c.in-Err.ensures.reads h)) (c.in-Err.ensures.token lists (suc o) (omega arith) k h)

pub returns-in-Err-said_literal-clause-literals : goal.returns-in-Err-said_literal-clause-literals
returns-in-Err-said_literal-clause-literals g c = λ (lists o : ℕ) (k : Contents) h.
    more_fault c.args.form c.args.bound c.args.lits.now c.take_at_hand.new.lits c.args.reader.now c.take_at_hand.new.reader c.next_token.new.reader k c.in-Ok.token c.in-Err-said_literal.error lists o
    (ahead g (goal.at.returns-in-Err-said_literal-clause-literals g c).After-next_token k lists o (agreed c.in-Ok.ensures.reads h)) (c.in-Ok.ensures.token lists (suc o) (omega arith) k h)
    c.in-Err-said_literal.ensures

pub returns-in-Ok-None-clause-literals : goal.returns-in-Ok-None-clause-literals
returns-in-Ok-None-clause-literals g c = λ (lists o : ℕ) (k : Contents) h.
    let says : SaysLiteral c.args.bound c.in-Ok.token (Ok None) = rw c.in-Ok-None.field-0-is at c.in-Ok-None.ensures in
    more_end c.args.form c.args.bound c.args.lits.now c.take_at_hand.new.lits c.args.reader.now c.take_at_hand.new.reader c.next_token.new.reader k c.in-Ok.token lists o
    (ahead g (goal.at.returns-in-Ok-None-clause-literals g c).After-next_token k lists o (agreed c.in-Ok.ensures.reads h)) (c.in-Ok.ensures.token lists (suc o) (omega arith) k h) says

pub tokens-preserved : goal.tokens-preserved
tokens-preserved g c =
    let says : SaysLiteral c.args.bound c.in-Ok.token (Ok (Some c.in-Ok-Some.l)) = rw c.in-Ok-Some.field-0-is at c.in-Ok-Some.ensures in
    let takes : TakesLiterals c.args.form c.args.bound c.tokens.reader c.take_at_hand.new.reader c.tokens.lits c.take_at_hand.new.lits = grind (arith, common_steps) in
    let pushed : c.push.new.self ≡ c.take_at_hand.new.lits ++ c.in-Ok-Some.l ∷ [] = grind (arith, common_steps) in
    let skips = Reads-skips c.tokens.reader c.take_at_hand.new.reader (g.D.Desk.outside c.tokens.desk) c.tokens.invariant.stands c.take_at_hand.ensures.skips in
    record {
      literals = λ (k : Contents) h lists o.
          holds_more c.args.form c.args.bound c.args.lits.now c.take_at_hand.new.lits c.push.new.self c.args.reader.now c.take_at_hand.new.reader c.next_token.new.reader k c.in-Ok.token c.in-Ok-Some.l lists o
          (ahead g (goal.at.tokens-preserved g c).After-next_token k lists o (agreed c.in-Ok.ensures.reads h)) (c.in-Ok.ensures.token lists (suc o) (omega arith) k h) says pushed;
      named = λ h. named_more c.take_at_hand.new.lits c.push.new.self (number c.in-Ok-Some.l) c.in-Ok-Some.l (takes.named (c.tokens.invariant.named h)) says.3 refl pushed;
      reads = Reads-trans (Reads-trans c.tokens.invariant.reads skips) c.in-Ok.ensures.reads;
      stands = c.in-Ok.ensures.reads.stands refl;
    }
