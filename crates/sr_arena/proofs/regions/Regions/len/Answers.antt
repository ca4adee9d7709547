use Rattle.std.proofs.Common.{◌-◌, arith, refl, sym, ◌∙◌, ap, length}
use Rattle.std.proofs.lemmas.List.{length-map}
use Rattle.sr_base.specs.Words.{literal_in}
use Rattle.sr_arena.proofs.Laying.{found, read_length}
use Rattle.sr_arena.specs.Cells.{Cell}
use Rattle.sr_arena.proofs.regions.Regions.len.Goals as goal

pub index-requires : goal.index-requires
index-requires c =
    let f = found c.self.inside.words.items c.self.inside.used _ c.args.at c.args.self.now c.self.invariant c.self.view_is c.requires in
    omega (arith, f.place, f.fits, c.self.inside.words.ok.0)

pub returns : goal.returns
returns c =
    let f = found c.self.inside.words.items c.self.inside.used _ c.args.at c.args.self.now c.self.invariant c.self.view_is c.requires in
    read_length c.self.inside.words.items c.args.at (c.args.at - 1) _ c.index.result.now f refl c.index.ensures ∙ sym (ap (λ (x : Cell). length x.lits) f.cell ∙ length-map f.body literal_in)
