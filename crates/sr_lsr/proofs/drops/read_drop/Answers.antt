use Rattle.std.proofs.Common.{rules, ◌≡◌, ◌++◌, ◌∷◌, [], ℤ, Ok, Err, refl, subst, sym, arith}
use Rattle.std.proofs.lemmas.Int.{to_z-of_z}
use Rattle.std.proofs.lemmas.Grind.{common_steps}
use Rattle.std.proofs.lemmas.List.Elements.{All-push}
use Rattle.std.specs.List.{All}
use mir.Val.{SFits}
use mir.Syntax.{w64}
use Rattle.sr_base.specs.Contents.{Contents}
use Rattle.sr_desk.proofs.ReaderLemmas.{Reads-trans}
use Rattle.sr_scan.specs.Left.{tokens_left}
use Rattle.sr_scan.proofs.ReadLemmas.{agreed}
use Rattle.sr_lsr.specs.Written.{IsSmall}
use Rattle.sr_lsr.specs.Reads.{GivesSize}
use Rattle.sr_lsr.proofs.DropLemmas.{dropping_stop, dropping_default, dropping_fault, dropping_end, dropping_more}
use Rattle.sr_lsr.proofs.drops.read_drop.Goals as goal

pub returns-in-Err-clause-item : goal.returns-in-Err-clause-item
returns-in-Err-clause-item g c = λ (k : Contents) h.
    dropping_stop c.args.bound c.args.id (tokens_left c.args.form 2 1 c.args.reader.now k) (tokens_left c.args.form 2 1 c.tokens.reader k) c.tokens.lists.ids c.in-Err.error
    (c.tokens.invariant.ids k (agreed c.in-Err.ensures.reads h)) (c.in-Err.ensures.token 2 1 (omega arith) k h)

pub returns-in_default-clause-item : goal.returns-in_default-clause-item
returns-in_default-clause-item g c = λ (k : Contents) h.
    rw c.misplaced.ensures (dropping_default c.args.form c.args.bound c.args.id (tokens_left c.args.form 2 1 c.args.reader.now k) c.tokens.reader c.next_token.new.reader k c.tokens.lists.ids c.in-Ok.token
    (c.tokens.invariant.ids k (agreed c.in-Ok.ensures.reads h)) (c.in-Ok.ensures.token 2 1 (omega arith) k h) c.in_default.not-Number)

pub returns-in-Err-size_within-clause-item : goal.returns-in-Err-size_within-clause-item
returns-in-Err-size_within-clause-item g c = λ (k : Contents) h.
    let fits : SFits w64 c.in-Number.x = search rules in
    let fault = subst (λ (x : ℤ). GivesSize x c.args.bound c.in-Ok.token.place (Err c.in-Err-size_within.error)) (to_z-of_z w64 c.in-Number.x fits) c.in-Err-size_within.ensures in
    dropping_fault c.args.form c.args.bound c.args.id (tokens_left c.args.form 2 1 c.args.reader.now k) c.tokens.reader c.next_token.new.reader k c.tokens.lists.ids c.in-Ok.token c.in-Number.x c.in-Err-size_within.error
    (c.tokens.invariant.ids k (agreed c.in-Ok.ensures.reads h)) (c.in-Ok.ensures.token 2 1 (omega arith) k h) c.in-Number.is fault

pub returns-then-size-eq0-clause-item : goal.returns-then-size-eq0-clause-item
returns-then-size-eq0-clause-item g c = λ (k : Contents) h.
    let fits : SFits w64 c.in-Number.x = search rules in
    let is = subst (λ (x : ℤ). GivesSize x c.args.bound c.in-Ok.token.place (Ok c.in-Ok-size_within.size)) (to_z-of_z w64 c.in-Number.x fits) c.in-Ok-size_within.ensures in
    dropping_end c.args.form c.args.bound c.args.id (tokens_left c.args.form 2 1 c.args.reader.now k) c.tokens.reader c.next_token.new.reader k c.tokens.lists.ids c.in-Ok.token c.in-Number.x c.in-Ok-size_within.size
    (c.tokens.invariant.ids k (agreed c.in-Ok.ensures.reads h)) (c.in-Ok.ensures.token 2 1 (omega arith) k h) c.in-Number.is is.0 c.if-size-eq0.true

pub tokens-preserved : goal.tokens-preserved
tokens-preserved g c =
    let fits : SFits w64 c.in-Number.x = search rules in
    let is = subst (λ (x : ℤ). GivesSize x c.args.bound c.in-Ok.token.place (Ok c.in-Ok-size_within.size)) (to_z-of_z w64 c.in-Number.x fits) c.in-Ok-size_within.ensures in
    let pushed : c.push.new.self ≡ c.tokens.lists.ids ++ c.in-Ok-size_within.size ∷ [] = grind (arith, common_steps) in
    record {
      ids = λ (k : Contents) h.
          dropping_more c.args.form c.args.bound c.args.id (tokens_left c.args.form 2 1 c.args.reader.now k) c.tokens.reader c.next_token.new.reader k c.tokens.lists.ids c.push.new.self c.in-Ok.token c.in-Number.x c.in-Ok-size_within.size
          (c.tokens.invariant.ids k (agreed c.in-Ok.ensures.reads h)) (c.in-Ok.ensures.token 2 1 (omega arith) k h) c.in-Number.is is.0 c.if-size-eq0.false is.1 pushed;
      small = subst (All IsSmall) (sym pushed) (All-push IsSmall c.tokens.lists.ids c.in-Ok-size_within.size c.tokens.invariant.small (omega (arith, is.1, c.requires.bound)));
      reads = Reads-trans c.tokens.invariant.reads c.in-Ok.ensures.reads;
      stands = c.in-Ok.ensures.reads.stands refl;
    }
