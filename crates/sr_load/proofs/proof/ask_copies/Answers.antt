use Rattle.std.proofs.Common.{subst, length}
use Rattle.sr_load.specs.Copies.{CoversFirst, IsFound}
use Rattle.sr_load.proofs.Alike.{if_ok_map}
use Rattle.sr_load.proofs.Asking.{copies_reordered, covers_kept, cited_tests}
use Rattle.sr_load.proofs.proof.ask_copies.Goals as goal

pub returns-clause-copies : goal.returns-clause-copies
returns-clause-copies c = copies_reordered _ _ _ c.test.ensures.refs c.test.ensures.slots c.in_ok-copy_cited.ensures.copies

pub returns-clause-ok : goal.returns-clause-ok
returns-clause-ok c =
    let st = c.args.timeline.now in
    let copies = copies_reordered st c.copy_cited.new.copies c.test.new.self c.test.ensures.refs c.test.ensures.slots c.in_ok-copy_cited.ensures.copies in
    let covers = covers_kept st c.copy_cited.new.copies c.test.new.self (length st.cited) c.test.ensures.refs (subst (CoversFirst st c.copy_cited.new.copies) c.in_ok-copy_cited.ensures.all c.in_ok-copy_cited.ensures.covers) in
    if_ok_map c.test.result _ _ (λ b h. cited_tests st c.test.new.self b c.test.new.chain copies covers (subst (λ ls. IsFound c.test.new.self.slots ls b c.test.new.chain) c.assumed.ensures h)) c.test.ensures.ok
