use Rattle.sr_scan.proofs.ValueLemmas.{takes_number}
use Rattle.sr_scan.proofs.binary.number_at_hand.Goals as goal

pub returns-clause-some : goal.returns-clause-some
returns-clause-some c =
    takes_number c.args.reader.now c.skip.new.self c.buffered.result.now c.in_ok-value.value.len c.in_ok-value.value.value c.place-place.result c.in-Ok.word
    c.buffered.ensures c.in_ok-value.ensures c.in-Ok.ensures c.place-place.ensures.value c.skip.ensures
