use Rattle.sr_scan.proofs.FrontLemmas.{leads_behind}
use Rattle.sr_scan.proofs.front.text_number.Goals as goal

pub returns : goal.returns
returns c =
    let number = c.in_ok-number.number in
    leads_behind c.args.bytes.now c.blanks-start.result number.len number.size number.negative c.blanks-start.ensures.within c.blanks-start.ensures.white c.in_ok-number.ensures
