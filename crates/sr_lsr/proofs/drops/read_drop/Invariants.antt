use Rattle.std.proofs.Common.{◌≡◌, ◌-◌, [], false}
use Rattle.std.specs.List.{All}
use Rattle.sr_desk.specs.Next.{Stands, Reads, ForContents}
use Rattle.sr_model.specs.Lsr.{dropped_after}
use Rattle.sr_scan.specs.Left.{tokens_left}
use Rattle.sr_lsr.specs.Written.{IsSmall}
use Rattle.sr_lsr.proofs.drops.read_drop.Given as goal

-- the numbers that were read and what is left spell what stood at the front
abbrev pub invariant-tokens : goal.invariant-tokens
invariant-tokens g l = record {
  ids : ForContents l.reader (g.D.Desk.outside l.desk) (λ c.
      dropped_after l.bound l.fn.id [] (tokens_left l.form 2 1 l.fn.reader c) ≡ dropped_after l.bound l.fn.id l.lists.ids (tokens_left l.form 2 1 l.reader c));
  small : All IsSmall l.lists.ids;
  reads : Reads l.fn.reader l.reader (g.D.Desk.outside l.fn.desk) (g.D.Desk.outside l.desk) false;
  stands : Stands l.reader (g.D.Desk.outside l.desk);
}

abbrev pub decreases-tokens : goal.decreases-tokens
decreases-tokens g l = l.reader.limit - l.reader.taken
