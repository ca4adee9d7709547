use Rattle.std.proofs.Common.{◌-◌, arith, refl, sym, ◌∙◌, ap}
use Rattle.sr_arena.proofs.Laying.{found, read_size}
use Rattle.sr_arena.specs.Cells.{Cell}
use Rattle.sr_arena.specs.Layout.{is_flagged}
use Rattle.sr_arena.proofs.regions.Regions.flag.Goals as goal

pub index-requires : goal.index-requires
index-requires c =
    let f = found c.self.inside.words.items c.self.inside.used _ c.args.at c.args.self.now c.self.invariant c.self.view_is c.requires in
    omega (arith, f.place, f.fits, c.self.inside.words.ok.0)

pub returns : goal.returns
returns c =
    let f = found c.self.inside.words.items c.self.inside.used _ c.args.at c.args.self.now c.self.invariant c.self.view_is c.requires in
    ap is_flagged (read_size c.self.inside.words.items c.args.at (c.args.at - 1) _ c.index.result.now f refl c.index.ensures) ∙ ap (λ (x : Cell). x.flagged) (sym f.cell)
