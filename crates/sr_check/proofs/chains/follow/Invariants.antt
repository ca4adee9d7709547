use Rattle.std.proofs.Common.{◌≡◌, drop}
use Rattle.std.specs.Option.{option_copied}
use Rattle.sr_check.specs.Ends.{KeepsFront, first_clause}
use Rattle.sr_check.proofs.Following.{IsFollowed}
use Rattle.sr_check.proofs.chains.follow.Given as goal

abbrev pub invariant-loop-i : goal.invariant-loop-i
invariant-loop-i l = record {
  followed : IsFollowed l.strict l.live l.fn.trail.lits l.trail.lits l.hints (drop l.i l.hints);
  front : KeepsFront l.fn.trail l.trail;
  ahead : option_copied l.ahead ≡ first_clause l.live (drop l.i l.hints);
}
