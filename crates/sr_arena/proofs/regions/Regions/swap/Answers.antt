use Rattle.std.proofs.Common.{arith, ap, length}
use Rattle.sr_arena.proofs.Laying.{found, swapped}
use Rattle.sr_arena.specs.Cells.{Cell}
use Rattle.sr_base.specs.Words.{literal_in}
use Rattle.std.proofs.lemmas.List.{length-map}
use Rattle.sr_arena.proofs.regions.Regions.swap.Goals as goal

pub overflow_add-at : goal.overflow_add-at
overflow_add-at c =
    let f = found c.self.inside.words.items c.self.inside.used _ c.args.at c.args.self.now c.self.invariant c.self.view_is c.requires.held in
    omega (arith, f.fits, ap (λ (x : Cell). length x.lits) f.cell, length-map f.body literal_in, c.requires.i_within, c.self.invariant.within, c.self.invariant.room)

pub overflow_add-at-2 : goal.overflow_add-at-2
overflow_add-at-2 c =
    let f = found c.self.inside.words.items c.self.inside.used _ c.args.at c.args.self.now c.self.invariant c.self.view_is c.requires.held in
    omega (arith, f.fits, ap (λ (x : Cell). length x.lits) f.cell, length-map f.body literal_in, c.requires.j_within, c.self.invariant.within, c.self.invariant.room)

pub exchange-requires-clause-a_within : goal.exchange-requires-clause-a_within
exchange-requires-clause-a_within c =
    let f = found c.self.inside.words.items c.self.inside.used _ c.args.at c.args.self.now c.self.invariant c.self.view_is c.requires.held in
    omega (arith, f.fits, ap (λ (x : Cell). length x.lits) f.cell, length-map f.body literal_in, c.requires.i_within, c.self.invariant.within, c.self.invariant.room)

pub exchange-requires-clause-b_within : goal.exchange-requires-clause-b_within
exchange-requires-clause-b_within c =
    let f = found c.self.inside.words.items c.self.inside.used _ c.args.at c.args.self.now c.self.invariant c.self.view_is c.requires.held in
    omega (arith, f.fits, ap (λ (x : Cell). length x.lits) f.cell, length-map f.body literal_in, c.requires.j_within, c.self.invariant.within, c.self.invariant.room)

pub invariant_of-self : goal.invariant_of-self
invariant_of-self c =
    let f = found c.self.inside.words.items c.self.inside.used _ c.args.at c.args.self.now c.self.invariant c.self.view_is c.requires.held in
    let s = swapped c.self.inside.words.items c.exchange.new.words.items c.self.inside.used _ _ c.args.at c.args.i c.args.j c.args.self.now f c.self.invariant c.self.view_is c.exchange.ensures.room c.requires.i_within c.requires.j_within c.exchange.ensures.words in
    s.laid

pub returns : goal.returns
returns c =
    let f = found c.self.inside.words.items c.self.inside.used _ c.args.at c.args.self.now c.self.invariant c.self.view_is c.requires.held in
    let s = swapped c.self.inside.words.items c.exchange.new.words.items c.self.inside.used _ _ c.args.at c.args.i c.args.j c.args.self.now f c.self.invariant c.self.view_is c.exchange.ensures.room c.requires.i_within c.requires.j_within c.exchange.ensures.words in
    s.view
