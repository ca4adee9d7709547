use Rattle.std.proofs.Common.{◌≡◌, ◌<◌, ◌-◌, ◌∙◌, ap, arith, length, get_or}
use Rattle.std.proofs.lemmas.List.{get_or_default}
use Rattle.sr_watch.proofs.Rises.{last_at}
use Rattle.sr_watch.proofs.watches.last.Goals as goal

pub returns : goal.returns
returns c =
    let n : c.len-count.result ≡ length c.args.kept.now.items = c.len-count.ensures ∙ c.args.kept.now.ok.0 in
    let some : 0 < length c.args.kept.now.items = omega (arith, n, c.if-count-eq0.false) in
    c.index.ensures ∙ get_or_default c.args.kept.now.items (c.len-count.result - 1) c.index.result.now 0 (omega (arith, n, some)) ∙ ap (λ k. get_or c.args.kept.now.items (k - 1) 0) n ∙ last_at 0 c.args.kept.now.items some
