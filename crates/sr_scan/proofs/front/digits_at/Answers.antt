use Rattle.std.proofs.Common.{◌≡◌, ◌≤◌, ◌∙◌, sym, true, arith, get_or, refl}
use Rattle.sr_model.specs.Words.{is_digit}
use Rattle.sr_scan.proofs.FrontLemmas.{digits_more, value-more, digit-below}
use Rattle.sr_scan.proofs.front.digits_at.Goals as goal

pub loop-len-preserved : goal.loop-len-preserved
loop-len-preserved c =
    let old = c.loop-len.invariant in
    let digit : is_digit (get_or c.args.bytes.now c.loop-len.len 0) ≡ true = sym c.is_digit.ensures ∙ c.if-is_digit.true in
    let low : c.from.result ≤ 9 = omega (arith, c.from.ensures, digit-below (get_or c.args.bytes.now c.loop-len.len 0) digit) in
    record {
      within = omega (arith, c.loop-len-test.true);
      digits = digits_more c.args.bytes.now c.loop-len.len 0 c.loop-len-test.true old.digits digit;
      size = rw (value-more c.args.bytes.now c.loop-len.len 0 c.loop-len-test.true, ← c.from.ensures, ← old.size) refl;
      small = omega (arith, c.if-size-lt-ROOM.true, low);
    }
