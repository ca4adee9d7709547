use Rattle.std.proofs.Common.{◌≡◌, sym, false, subst, List, ℕ}
use Rattle.sr_model.specs.Chain.{Numbered}
use Rattle.sr_base.specs.Literal.{complement, same}
use Rattle.sr_occurs.specs.Candidates.{HoldsWith}
use Rattle.sr_occurs.proofs.Gathering.{with_more}
use Rattle.sr_occurs.proofs.candidates.gather_map.Goals as goal

pub returns-clause-ok : goal.returns-clause-ok
returns-clause-ok c live t u =
    let all : List ℕ = c.gather-2.new.numbers in
    let first : HoldsWith c.args.from all live = with_more c.args.from c.gather.new.numbers all live c.in_ok-gather-2.ensures.kept (c.in_ok-gather.ensures.ok live t u).0 in
    let second : HoldsWith (complement c.args.from) all live = subst (λ l. HoldsWith l all live) c.neg.ensures.value (c.in_ok-gather-2.ensures.ok live t (c.in_ok-gather.ensures.listed live t u)).0 in
    let f : same c.args.from c.args.to ≡ false = sym c.if-is.ensures in
    rw f (first, (second, tt))
