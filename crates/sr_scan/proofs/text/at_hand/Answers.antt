use Rattle.sr_scan.proofs.HandLemmas.{takes_at_hand}
use Rattle.sr_scan.proofs.text.at_hand.Goals as goal

pub returns-clause-some : goal.returns-clause-some
returns-clause-some c =
    takes_at_hand c.args.reader.now c.skip.new.self c.buffered-bytes.result.now c.blanks-start.result c.in_ok-leading.leading.len c.place.result c.in_ok-leading.leading.word
    c.buffered-bytes.ensures c.blanks-start.ensures.within c.blanks-start.ensures.white c.in_ok-leading.ensures c.place.ensures.value c.skip.ensures
