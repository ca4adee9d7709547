use Rattle.std.proofs.Common.{◌≡◌, ◌≤◌, ◌<◌, ◌∙◌, sym, true, arith, get_or, refl, length}
use Rattle.sr_model.specs.Words.{is_digit}
use Rattle.sr_scan.proofs.FrontLemmas.{digits_more, value-more, digit-below, ten_times}
use Rattle.sr_scan.proofs.front.few_digits.Goals as goal

pub loop-len-preserved : goal.loop-len-preserved
loop-len-preserved c =
    let old = c.loop-len.invariant in
    let inside : c.loop-len.len < length c.args.bytes.now = omega (arith, c.loop-len-test.true, c.requires) in
    let digit : is_digit (get_or c.args.bytes.now c.loop-len.len 0) ≡ true = sym c.is_digit.ensures ∙ c.if-is_digit.true in
    let low : c.from.result ≤ 9 = omega (arith, c.from.ensures, digit-below (get_or c.args.bytes.now c.loop-len.len 0) digit) in
    record {
      few = omega (arith, c.loop-len-test.true);
      digits = digits_more c.args.bytes.now c.loop-len.len 0 inside old.digits digit;
      size = rw (value-more c.args.bytes.now c.loop-len.len 0 inside, ← c.from.ensures, ← old.size) refl;
      small = ten_times c.loop-len.len c.loop-len.size c.from.result old.small low;
    }
