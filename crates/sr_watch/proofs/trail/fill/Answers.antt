use Rattle.std.proofs.Common.{◌≡◌, ◌-◌, ◌++◌, ◌∙◌, ap, arith, length, replicate}
use Rattle.sr_watch.proofs.trail.fill.Goals as goal

pub returns : goal.returns
returns g c =
    let n : c.loop-i._i - length c.args.list.now.items ≡ c.args.size - length c.args.list.now.items = omega (arith, c.len-i.ensures, c.args.list.now.ok.0, c.requires.size) in
    c.loop-i.invariant.value ∙ ap (λ m. c.args.list.now.items ++ replicate m c.args.item) n
