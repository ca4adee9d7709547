use Rattle.std.proofs.Common.{◌≡◌, ◌++◌, ◌<◌, ◌≤◌, ◌^◌, ◌-◌, take}
use Rattle.sr_model.specs.Writing.{groups_for}
use Rattle.sr_placing.proofs.spelling.spell_value.Given as goal

-- the bytes so far, and then those of what is left
abbrev pub invariant-loop-left : goal.invariant-loop-left
invariant-loop-left l = record {
  few : l.len ≤ 4;
  room : l.left < 128 ^ (5 - l.len);
  bytes : groups_for 10 l.value ≡ take l.len l.bytes ++ groups_for (10 - l.len) l.left;
}

abbrev pub decreases-loop-left : goal.decreases-loop-left
decreases-loop-left l = l.left
