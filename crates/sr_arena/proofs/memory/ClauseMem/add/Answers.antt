use Rattle.std.proofs.Common.{◌≡◌, arith, refl, ◌∙◌, ap}
use Rattle.sr_arena.proofs.Weighing.{grown, added}
use Rattle.sr_arena.specs.Layout.{with_cell}
use Rattle.sr_arena.specs.Cells.{Memory, fresh}
use Rattle.sr_arena.proofs.memory.ClauseMem.add.Goals as goal

pub invariant_of-self-2 : goal.invariant_of-self-2
invariant_of-self-2 c =
    let put : c.push.new.self ≡ with_cell c.self.inside.regions (fresh c.args.lits.now c.args.number) c.push.new.self.room = c.in-Ok.ensures.ok in
    let g = grown c.self.inside.regions c.push.new.self c.args.self.now c.self.inside.most (fresh c.args.lits.now c.args.number) c.self.view_is put in
    (omega (arith, g.inside, c.self.invariant), omega (arith, c.self.invariant, c.if-free-lt4.false, c.if-lits-free.false), c.self.invariant.2)

pub returns-clause-ok : goal.returns-clause-ok
returns-clause-ok c =
    let put : c.push.new.self ≡ with_cell c.self.inside.regions (fresh c.args.lits.now c.args.number) c.push.new.self.room = c.in-Ok.ensures.ok in
    added c.self.inside.regions c.push.new.self c.args.self.now _ c.self.inside.most c.at.result (fresh c.args.lits.now c.args.number) c.self.view_is refl put (c.at.ensures ∙ c.in-Ok.ensures.at) refl

pub returns-clause-held : goal.returns-clause-held
returns-clause-held c =
    let put : c.push.new.self ≡ with_cell c.self.inside.regions (fresh c.args.lits.now c.args.number) c.push.new.self.room = c.in-Ok.ensures.ok in
    let g = grown c.self.inside.regions c.push.new.self c.args.self.now c.self.inside.most (fresh c.args.lits.now c.args.number) c.self.view_is put in
    g.outside

pub returns-clause-fits : goal.returns-clause-fits
returns-clause-fits c =
    let put : c.push.new.self ≡ with_cell c.self.inside.regions (fresh c.args.lits.now c.args.number) c.push.new.self.room = c.in-Ok.ensures.ok in
    let g = grown c.self.inside.regions c.push.new.self c.args.self.now c.self.inside.most (fresh c.args.lits.now c.args.number) c.self.view_is put in
    let most : c.self.inside.most ≡ c.args.self.now.most = ap (λ (m : Memory). m.most) c.self.view_is in
    omega (arith, g.inside, most, c.self.invariant, c.if-free-lt4.false, c.if-lits-free.false)
