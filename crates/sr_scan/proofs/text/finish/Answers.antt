use Rattle.std.proofs.Common.{◌≡◌, ◌∙◌, ℕ, refl, sym}
use Rattle.sr_base.specs.Contents.{Contents}
use Rattle.sr_desk.specs.Next.{TakesByte, MeetsEnd}
use Rattle.sr_scan.specs.Machine.{within}
use Rattle.sr_scan.specs.Lexeme.{gap_at}
use Rattle.sr_scan.specs.Machine.{between}
use Rattle.sr_desk.proofs.ReaderLemmas.{Reads-trans}
use Rattle.sr_scan.proofs.ReadLemmas.{agreed}
use Rattle.sr_scan.proofs.TextLemmas.{begins_err, end_finishes, token_ends, token_goes_on}
use Rattle.sr_scan.proofs.text.finish.Goals as goal

pub returns-in-Err-clause-finishes : goal.returns-in-Err-clause-finishes
returns-in-Err-clause-finishes g c = λ (k : Contents) h place.
    rw c.stopped.ensures (begins_err c.args.reader.now c.bytes.reader c.next.new.self (g.D.Desk.outside c.next.new.desk) k c.in-Err.stop (within place c.bytes.lexeme) (within place c.args.first)
    (c.bytes.invariant.left k (agreed c.in-Err.ensures.reads h) place) c.in-Err.ensures.next h)

pub returns-in-Ok-None-clause-finishes : goal.returns-in-Ok-None-clause-finishes
returns-in-Ok-None-clause-finishes g c = λ (k : Contents) h place.
    let met : MeetsEnd c.bytes.reader c.next.new.self (g.D.Desk.outside c.next.new.desk) = rw c.in-Ok-None.field-0-is at c.in-Ok-None.ensures.next in
    c.bytes.invariant.left k (agreed c.in-Ok-None.ensures.reads h) place ∙ end_finishes _ _ _ k place c.bytes.lexeme met h

pub returns-then-is_white-clause-finishes : goal.returns-then-is_white-clause-finishes
returns-then-is_white-clause-finishes g c = λ (k : Contents) h place.
    let takes : TakesByte c.bytes.reader c.next.new.self (g.D.Desk.outside c.next.new.desk) c.in-Ok-Some.byte = rw c.in-Ok-Some.field-0-is at c.in-Ok-Some.ensures.next in
    c.bytes.invariant.left k (agreed c.in-Ok-Some.ensures.reads h) place
    ∙ token_ends _ _ _ _ k takes h c.bytes.lexeme (sym c.is_white.ensures ∙ c.if-is_white.true) place

pub bytes-preserved : goal.bytes-preserved
bytes-preserved g c =
    let takes : TakesByte c.bytes.reader c.next.new.self (g.D.Desk.outside c.next.new.desk) c.in-Ok-Some.byte = rw c.in-Ok-Some.field-0-is at c.in-Ok-Some.ensures.next in
    record {
      left = λ (k : Contents) h place. c.bytes.invariant.left k (agreed c.in-Ok-Some.ensures.reads h) place
          ∙ rw c.with-lexeme.ensures (token_goes_on _ _ _ _ k takes h c.bytes.lexeme (sym c.is_white.ensures ∙ c.if-is_white.false) place);
      reads = Reads-trans c.bytes.invariant.reads c.in-Ok-Some.ensures.reads;
      stands = c.in-Ok-Some.ensures.reads.stands refl;
    }
