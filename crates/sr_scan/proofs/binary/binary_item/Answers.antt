use Rattle.std.proofs.Common.{ℕ, ◌≡◌, true, false, refl, sym, subst, Ok}
use Rattle.sr_base.specs.Contents.{Contents}
use Rattle.sr_scan.specs.Left.{IsStart}
use Rattle.sr_scan.specs.BinaryLeft.{GivesBinary}
use Rattle.sr_desk.proofs.ReaderLemmas.{remaining-ahead}
use Rattle.sr_scan.proofs.ReadLemmas.{agreed, Reads-skips}
use Rattle.sr_scan.proofs.BinaryStands.{gives_front}
use Rattle.sr_scan.proofs.binary.binary_item.Goals as goal

pub returns-then-at_start-clause-token : goal.returns-then-at_start-clause-token
returns-then-at_start-clause-token g c = λ (lists o : ℕ) start (k : Contents) h.
    gives_front true lists o c.args.reader.now c.item_start.new.reader k c.item_start.result c.item_start.ensures.reads.same.limit (rw c.if-at_start.true at start) (c.item_start.ensures.token k h)

pub returns-in-Some-clause-token : goal.returns-in-Some-clause-token
returns-in-Some-clause-token g c = λ (lists o : ℕ) start (k : Contents) h.
    let takes = c.in-Some.ensures.some in
    let reads = Reads-skips c.args.reader.now c.number_at_hand.new.reader (g.D.Desk.outside c.args.desk.now) c.requires takes.skips in
    let agrees = agreed reads h in
    gives_front false lists o c.args.reader.now c.number_at_hand.new.reader k (Ok c.in-Some.token) reads.same.limit (rw c.if-at_start.false at start) (takes.gives k agrees.more (remaining-ahead k c.requires agrees))

pub returns-in-None-clause-token : goal.returns-in-None-clause-token
returns-in-None-clause-token g c = λ (lists o : ℕ) start (k : Contents) h.
    let gives : GivesBinary false c.args.reader.now c.number_item.new.reader k c.number_item.result = rw c.in-None.ensures.none at (c.number_item.ensures.token k h) in
    let same = rw c.in-None.ensures.none at c.number_item.ensures.reads.same.limit in
    gives_front false lists o c.args.reader.now c.number_item.new.reader k c.number_item.result same (rw c.if-at_start.false at start) gives
