use Rattle.std.proofs.Common.{◌≡◌, ◌≤◌, length}
use Rattle.sr_desk.specs.MemoryParts.{names_of, latest, last_below}
use Rattle.sr_desk.proofs.find.find.Given as goal

-- the last among those that are left is the last of all
abbrev pub invariant-loop-left : goal.invariant-loop-left
invariant-loop-left l = record {
  within : l.left ≤ length l.versions;
  same : latest (names_of l.versions) l.name ≡ last_below l.left (names_of l.versions) l.name;
}

abbrev pub decreases-loop-left : goal.decreases-loop-left
decreases-loop-left l = l.left
