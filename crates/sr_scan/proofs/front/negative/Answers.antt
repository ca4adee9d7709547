use Rattle.std.proofs.Common.{sym, ◌∙◌}
use Rattle.sr_scan.proofs.FrontLemmas.{leads_signed}
use Rattle.sr_scan.proofs.front.negative.Goals as goal

pub returns : goal.returns
returns c =
    let digits = c.digits_at-digits.ensures in
    rw c.minus.ensures (leads_signed c.args.bytes.now c.digits_at-digits.result.len c.digits_at-digits.result.size c.requires.some c.requires.sign digits.within digits.digits digits.size
    digits.small c.if-digits-eq0.false (sym c.ends_at.ensures ∙ c.if-not-ends_at.false))
