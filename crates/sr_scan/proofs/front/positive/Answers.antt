use Rattle.std.proofs.Common.{sym, ◌∙◌}
use Rattle.sr_scan.proofs.FrontLemmas.{leads_positive}
use Rattle.sr_scan.proofs.front.positive.Goals as goal

pub returns : goal.returns
returns c =
    let digits = c.digits_at-digits.ensures in
    rw c.plus.ensures (leads_positive c.args.bytes.now c.digits_at-digits.result.len c.digits_at-digits.result.size c.if-digits-eq0.false digits.within digits.digits digits.size digits.small
    (sym c.ends_at.ensures ∙ c.if-not-ends_at.false))
