use Rattle.std.proofs.Common.{◌-◌, ◌/◌, arith, refl, ap}
use Rattle.sr_arena.proofs.Laying.{found, read_size, bits_written}
use Rattle.sr_arena.specs.Layout.{size_of}
use Rattle.sr_arena.proofs.regions.Regions.set_bits.Goals as goal

pub index-requires : goal.index-requires
index-requires c =
    let f = found c.self.inside.words.items c.self.inside.used _ c.args.at c.args.self.now c.self.invariant c.self.view_is c.requires in
    omega (arith, f.place, f.fits, c.self.inside.words.ok.0)

pub write-requires : goal.write-requires
write-requires c =
    let f = found c.self.inside.words.items c.self.inside.used _ c.args.at c.args.self.now c.self.invariant c.self.view_is c.requires in
    omega (arith, f.place, f.fits, c.self.inside.words.ok.0)

pub invariant_of-self : goal.invariant_of-self
invariant_of-self c =
    let f = found c.self.inside.words.items c.self.inside.used _ c.args.at c.args.self.now c.self.invariant c.self.view_is c.requires in
    let h = ap size_of (read_size c.self.inside.words.items c.args.at (c.args.at - 1) _ c.index.result.now f refl c.index.ensures) in
    let s = bits_written c.self.inside.words.items c.write.new.words.items c.self.inside.used _ _ c.args.at (c.args.at - 1) (c.index.result.now.code / 8) c.args.self.now c.args.marked c.args.flagged f c.self.invariant c.self.view_is c.write.ensures.room refl h c.write.ensures.words in
    s.laid

pub returns : goal.returns
returns c =
    let f = found c.self.inside.words.items c.self.inside.used _ c.args.at c.args.self.now c.self.invariant c.self.view_is c.requires in
    let h = ap size_of (read_size c.self.inside.words.items c.args.at (c.args.at - 1) _ c.index.result.now f refl c.index.ensures) in
    let s = bits_written c.self.inside.words.items c.write.new.words.items c.self.inside.used _ _ c.args.at (c.args.at - 1) (c.index.result.now.code / 8) c.args.self.now c.args.marked c.args.flagged f c.self.invariant c.self.view_is c.write.ensures.room refl h c.write.ensures.words in
    s.view
