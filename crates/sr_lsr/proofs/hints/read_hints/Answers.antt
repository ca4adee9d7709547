use Rattle.std.proofs.Common.{rules, pos, ◌≡◌, ◌∙◌, ◌≤◌, ◌<◌, false, refl, subst, sym, arith}
use Rattle.std.specs.Prelude.{nat_abs, is_err}
use Rattle.std.specs.Int.Signed.{lt_z}
use Rattle.std.proofs.lemmas.Int.{ints, to_z-of_z}
use mir.Val.{SFits, to_z, of_z}
use mir.Syntax.{w64}
use Rattle.sr_base.specs.Contents.{Contents}
use Rattle.sr_desk.specs.Outside.{Agrees}
use Rattle.sr_desk.specs.Next.{Reads}
use Rattle.sr_desk.proofs.ReaderLemmas.{Reads-trans}
use Rattle.sr_model.specs.Words.{signed}
use Rattle.sr_scan.specs.Left.{tokens_left}
use Rattle.sr_scan.proofs.ReadLemmas.{agreed, Reads-skips}
use Rattle.sr_lsr.specs.Told.{SpellsMore, KeepsSmall}
use Rattle.sr_lsr.proofs.HintLemmas.{Reading, on_ok, signed-is, reading_ahead, reading_stop, reading_default, reading_above, reading_end, reading_more}
use Rattle.sr_lsr.proofs.hints.read_hints.Given.{Over}
use Rattle.sr_lsr.proofs.hints.read_hints.Goals as goal
use Rattle.sr_lsr.proofs.hints.read_hints.Goals.{After-next_token}

-- the hints with those that were at hand
ahead : (g : Over) (c : After-next_token g) (k : Contents) → Agrees ((g.D.Desk.outside c.tokens.desk).slot c.take_ahead.new.reader.slot) k
    → Reading c.args.bound (tokens_left c.args.form 2 1 c.args.reader.now k) (tokens_left c.args.form 2 1 c.take_ahead.new.reader k) c.take_ahead.new.hints
ahead g c k h =
    reading_ahead c.take_ahead.result c.args.form c.args.bound c.args.reader.now c.tokens.reader c.take_ahead.new.reader (g.D.Desk.outside c.tokens.desk) k c.tokens.hints c.take_ahead.new.hints
    (sym c.is_err.ensures.value ∙ c.if-is_err.false) c.take_ahead.ensures.spells c.tokens.invariant.stands c.take_ahead.ensures.skips h c.tokens.invariant.hints

pub returns-in-Err-clause-hints : goal.returns-in-Err-clause-hints
returns-in-Err-clause-hints g c = λ (k : Contents) h.
    reading_stop c.args.bound (tokens_left c.args.form 2 1 c.args.reader.now k) (tokens_left c.args.form 2 1 c.take_ahead.new.reader k) (tokens_left c.args.form 2 0 c.next_token.new.reader k) c.take_ahead.new.hints c.in-Err.error
    (ahead g (goal.at.returns-in-Err-clause-hints g c).After-next_token k (agreed c.in-Err.ensures.reads h)) (c.in-Err.ensures.token 2 1 (omega arith) k h)

pub returns-in_default-clause-hints : goal.returns-in_default-clause-hints
returns-in_default-clause-hints g c = λ (k : Contents) h.
    rw c.misplaced.ensures (reading_default c.args.bound (tokens_left c.args.form 2 1 c.args.reader.now k) (tokens_left c.args.form 2 1 c.take_ahead.new.reader k) _ (tokens_left c.args.form 2 0 c.next_token.new.reader k)
    c.take_ahead.new.hints c.in-Ok.token (ahead g (goal.at.returns-in_default-clause-hints g c).After-next_token k (agreed c.in-Ok.ensures.reads h)) (c.in-Ok.ensures.token 2 1 (omega arith) k h) c.in_default.not-Number)

pub returns-then-x-eq0-clause-hints : goal.returns-then-x-eq0-clause-hints
returns-then-x-eq0-clause-hints g c = λ (k : Contents) h.
    let nought : c.in-Number.x ≡ pos 0 = omega (arith, ints, c.if-x-eq0.true) in
    reading_end c.args.form c.args.bound (tokens_left c.args.form 2 1 c.args.reader.now k) c.take_ahead.new.reader c.next_token.new.reader k c.take_ahead.new.hints c.in-Ok.token c.in-Number.x
    (ahead g (goal.at.returns-then-x-eq0-clause-hints g c).After-next_token k (agreed c.in-Ok.ensures.reads h)) (c.in-Ok.ensures.token 2 1 (omega arith) k h) c.in-Number.is nought

pub returns-then-size-from-clause-hints : goal.returns-then-size-from-clause-hints
returns-then-size-from-clause-hints g c = λ (k : Contents) h.
    let some : c.in-Number.x ≡ pos 0 → ⊥ = λ e. c.if-x-eq0.false (rw e refl) in
    let fits : SFits w64 c.in-Number.x = search rules in
    let size : c.unsigned_abs-size.result ≡ nat_abs c.in-Number.x = rw (to_z-of_z w64 c.in-Number.x fits) at c.unsigned_abs-size.ensures.value in
    let past : c.args.bound < nat_abs c.in-Number.x = omega (arith, size) in
    reading_above c.args.bound (tokens_left c.args.form 2 1 c.args.reader.now k) (tokens_left c.args.form 2 1 c.take_ahead.new.reader k) _ (tokens_left c.args.form 2 0 c.next_token.new.reader k)
    c.take_ahead.new.hints c.in-Ok.token c.in-Number.x (ahead g (goal.at.returns-then-size-from-clause-hints g c).After-next_token k (agreed c.in-Ok.ensures.reads h)) (c.in-Ok.ensures.token 2 1 (omega arith) k h) c.in-Number.is some past

pub tokens-preserved : goal.tokens-preserved
tokens-preserved g c =
    let some : c.in-Number.x ≡ pos 0 → ⊥ = λ e. c.if-x-eq0.false (rw e refl) in
    let fits : SFits w64 c.in-Number.x = search rules in
    let size : c.unsigned_abs-size.result ≡ nat_abs c.in-Number.x = rw (to_z-of_z w64 c.in-Number.x fits) at c.unsigned_abs-size.ensures.value in
    let inside : nat_abs c.in-Number.x ≤ c.args.bound = omega (arith, size) in
    let took : is_err c.take_ahead.result ≡ false = sym c.is_err.ensures.value ∙ c.if-is_err.false in
    let went : is_err c.add.result ≡ false = sym c.is_err-in-tokens.ensures.value ∙ c.if-is_err-2.false in
    let number : signed (lt_z (to_z w64 (of_z w64 c.in-Number.x)) (pos 0)) c.unsigned_abs-size.result ≡ c.in-Number.x =
    rw (to_z-of_z w64 c.in-Number.x fits) (signed-is c.in-Number.x c.unsigned_abs-size.result some size) in
    let more : SpellsMore c.take_ahead.new.hints c.add.new.self c.in-Number.x =
    subst (SpellsMore c.take_ahead.new.hints c.add.new.self) number (on_ok c.add.result _ went c.add.ensures.spells) in
    let first : KeepsSmall c.tokens.hints c.take_ahead.new.hints c.args.bound = on_ok c.take_ahead.result _ took c.take_ahead.ensures.small in
    let small : KeepsSmall c.take_ahead.new.hints c.add.new.self c.unsigned_abs-size.result = on_ok c.add.result _ went c.add.ensures.small in
    let skips = Reads-skips c.tokens.reader c.take_ahead.new.reader (g.D.Desk.outside c.tokens.desk) c.tokens.invariant.stands c.take_ahead.ensures.skips in
    record {
      hints = λ (k : Contents) h.
          reading_more c.args.form c.args.bound (tokens_left c.args.form 2 1 c.args.reader.now k) c.take_ahead.new.reader c.next_token.new.reader k c.take_ahead.new.hints c.add.new.self c.in-Ok.token c.in-Number.x
          (ahead g (goal.at.tokens-preserved g c).After-next_token k (agreed c.in-Ok.ensures.reads h)) (c.in-Ok.ensures.token 2 1 (omega arith) k h) c.in-Number.is some inside more;
      small = small (omega (arith, size, inside, c.requires.bound)) (first c.requires.bound c.tokens.invariant.small);
      reads = Reads-trans (Reads-trans c.tokens.invariant.reads skips) c.in-Ok.ensures.reads;
      stands = c.in-Ok.ensures.reads.stands refl;
    }

-- what was read up to the token
to_token : (g : Over) (c : After-next_token g) → Reads c.args.reader.now c.take_ahead.new.reader (g.D.Desk.outside c.args.desk.now) (g.D.Desk.outside c.tokens.desk) false
to_token g c = Reads-trans c.tokens.invariant.reads (Reads-skips c.tokens.reader c.take_ahead.new.reader (g.D.Desk.outside c.tokens.desk) c.tokens.invariant.stands c.take_ahead.ensures.skips)

pub returns-then-is_err-2-clause-reads : goal.returns-then-is_err-2-clause-reads
returns-then-is_err-2-clause-reads g c = Reads-trans (to_token g (goal.at.returns-then-is_err-2-clause-reads g c).After-next_token) c.in-Ok.ensures.reads

pub returns-then-size-from-clause-reads : goal.returns-then-size-from-clause-reads
returns-then-size-from-clause-reads g c = Reads-trans (to_token g (goal.at.returns-then-size-from-clause-reads g c).After-next_token) c.in-Ok.ensures.reads

pub returns-in_default-clause-reads : goal.returns-in_default-clause-reads
returns-in_default-clause-reads g c = Reads-trans (to_token g (goal.at.returns-in_default-clause-reads g c).After-next_token) c.in-Ok.ensures.reads

pub returns-then-x-eq0-clause-reads : goal.returns-then-x-eq0-clause-reads
returns-then-x-eq0-clause-reads g c = Reads-trans (to_token g (goal.at.returns-then-x-eq0-clause-reads g c).After-next_token) c.in-Ok.ensures.reads
