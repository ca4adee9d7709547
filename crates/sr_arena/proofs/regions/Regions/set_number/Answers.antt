use Rattle.std.proofs.Common.{◌-◌, arith, refl}
use Rattle.sr_arena.proofs.Laying.{found, number_written}
use Rattle.sr_arena.proofs.regions.Regions.set_number.Goals as goal

pub write-requires : goal.write-requires
write-requires c =
    let f = found c.self.inside.words.items c.self.inside.used _ c.args.at c.args.self.now c.self.invariant c.self.view_is c.requires in
    omega (arith, f.place, f.fits, c.self.inside.words.ok.0)

pub invariant_of-self : goal.invariant_of-self
invariant_of-self c =
    let f = found c.self.inside.words.items c.self.inside.used _ c.args.at c.args.self.now c.self.invariant c.self.view_is c.requires in
    let s = number_written c.self.inside.words.items c.write.new.words.items c.self.inside.used _ _ c.args.at (c.args.at - 2) c.args.number c.args.self.now f c.self.invariant c.self.view_is c.write.ensures.room refl c.write.ensures.words in
    s.laid

pub returns : goal.returns
returns c =
    let f = found c.self.inside.words.items c.self.inside.used _ c.args.at c.args.self.now c.self.invariant c.self.view_is c.requires in
    let s = number_written c.self.inside.words.items c.write.new.words.items c.self.inside.used _ _ c.args.at (c.args.at - 2) c.args.number c.args.self.now f c.self.invariant c.self.view_is c.write.ensures.room refl c.write.ensures.words in
    s.view
