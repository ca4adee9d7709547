use Rattle.std.proofs.Common.{◌-◌, ◌≡◌, ◌<◌, ◌≤◌, ◌^◌, true, take}
use Rattle.std.specs.List.{list_all}
use Rattle.sr_model.specs.Words.{is_digit, value_after}
use Rattle.sr_scan.proofs.front.few_digits.Given as goal

abbrev pub invariant-loop-len : goal.invariant-loop-len
invariant-loop-len l = record {
  few : l.len ≤ 10;
  digits : list_all is_digit (take l.len l.bytes) ≡ true;
  size : l.size ≡ value_after 0 (take l.len l.bytes);
  small : l.size < 10 ^ l.len;
}

abbrev pub decreases-loop-len : goal.decreases-loop-len
decreases-loop-len l = 10 - l.len
