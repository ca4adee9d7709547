use Rattle.std.proofs.Common.{◌≡◌, ◌∙◌, ℕ, ◌+◌, ◌-◌, refl, sym, ap, arith}
use Rattle.sr_base.specs.Contents.{Contents, ended}
use Rattle.sr_desk.specs.Reader.{Reader}
use Rattle.sr_desk.specs.Next.{TakesByte, MeetsEnd}
use Rattle.sr_model.specs.Tokens.{finished}
use Rattle.sr_scan.specs.Lexeme.{gap_at}
use Rattle.sr_scan.specs.Machine.{between}
use Rattle.sr_desk.proofs.ReaderLemmas.{Reads-trans}
use Rattle.sr_scan.proofs.ReadLemmas.{agreed}
use Rattle.sr_scan.proofs.TextLemmas.{begins_err, met_end, at_end, gap_ends, gap_goes_on}
use Rattle.sr_scan.proofs.text.begin.Goals as goal

pub returns-in-Err-clause-begins : goal.returns-in-Err-clause-begins
returns-in-Err-clause-begins g c = λ (k : Contents) h.
    rw c.stopped.ensures (begins_err c.args.reader.now c.gaps.reader c.next.new.self (g.D.Desk.outside c.next.new.desk) k c.in-Err.stop (between c.gaps.gap) (between (gap_at c.args.reader.now.last))
    (c.gaps.invariant.left k (agreed c.in-Err.ensures.reads h)) c.in-Err.ensures.next h)

pub returns-in-Ok-None-clause-begins : goal.returns-in-Ok-None-clause-begins
returns-in-Ok-None-clause-begins g c = λ (k : Contents) h.
    let met : MeetsEnd c.gaps.reader c.next.new.self (g.D.Desk.outside c.next.new.desk) = rw c.in-Ok-None.field-0-is at c.in-Ok-None.ensures.next in
    let taken : c.next.new.self.taken ≡ c.gaps.reader.taken = ap (λ (r : Reader). r.taken) met.same in (
      c.gaps.invariant.left k (agreed c.in-Ok-None.ensures.reads h) ∙ met_end _ _ _ k met h (between c.gaps.gap) ∙ ap finished (sym taken),
      at_end _ _ _ k met h (between (gap_at c.next.new.self.last)),
    )

pub returns-in-None-clause-begins : goal.returns-in-None-clause-begins
returns-in-None-clause-begins g c = λ (k : Contents) h.
    let takes : TakesByte c.gaps.reader c.next.new.self (g.D.Desk.outside c.next.new.desk) c.in-Ok-Some.byte = rw c.in-Ok-Some.field-0-is at c.in-Ok-Some.ensures.next in
    c.gaps.invariant.left k (agreed c.in-Ok-Some.ensures.reads h) ∙ gap_ends _ _ _ _ k takes h c.gaps.gap c.in-None.ensures

pub gaps-preserved : goal.gaps-preserved
gaps-preserved g c =
    let takes : TakesByte c.gaps.reader c.next.new.self (g.D.Desk.outside c.next.new.desk) c.in-Ok-Some.byte = rw c.in-Ok-Some.field-0-is at c.in-Ok-Some.ensures.next in
    record {
      left = λ (k : Contents) h. c.gaps.invariant.left k (agreed c.in-Ok-Some.ensures.reads h) ∙ gap_goes_on _ _ _ _ k takes h c.gaps.gap c.in-Some.next c.in-Some.ensures;
      reads = Reads-trans c.gaps.invariant.reads c.in-Ok-Some.ensures.reads;
      stands = c.in-Ok-Some.ensures.reads.stands refl;
    }
