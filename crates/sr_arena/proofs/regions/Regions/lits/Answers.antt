use Rattle.std.proofs.Common.{◌≡◌, ◌+◌, ◌-◌, ◌/◌, arith, refl, sym, ◌∙◌, ap, take, drop, length}
use Rattle.sr_arena.proofs.Laying.{found, read_length, read_body}
use Rattle.sr_arena.specs.Cells.{Cell}
use Rattle.sr_base.specs.Words.{literal_in, AllLiterals}
use Rattle.std.proofs.Common.{map, subst}
use Rattle.sr_arena.proofs.regions.Regions.lits.Goals as goal

pub index-requires : goal.index-requires
index-requires c =
    let f = found c.self.inside.words.items c.self.inside.used _ c.args.at c.args.self.now c.self.invariant c.self.view_is c.requires in
    omega (arith, f.place, f.fits, c.self.inside.words.ok.0)

pub overflow_add-part : goal.overflow_add-part
overflow_add-part c =
    let f = found c.self.inside.words.items c.self.inside.used _ c.args.at c.args.self.now c.self.invariant c.self.view_is c.requires in
    omega (arith, read_length c.self.inside.words.items c.args.at (c.args.at - 1) _ c.index.result.now f refl c.index.ensures, f.fits, c.self.invariant.within, c.self.invariant.room)

pub offset_bounds-deref-at : goal.offset_bounds-deref-at
offset_bounds-deref-at c =
    let f = found c.self.inside.words.items c.self.inside.used _ c.args.at c.args.self.now c.self.invariant c.self.view_is c.requires in
    omega (arith, f.fits, c.self.invariant.within, c.self.invariant.room)

pub slice_bounds-part-end : goal.slice_bounds-part-end
slice_bounds-part-end c =
    let f = found c.self.inside.words.items c.self.inside.used _ c.args.at c.args.self.now c.self.invariant c.self.view_is c.requires in
    omega (arith, read_length c.self.inside.words.items c.args.at (c.args.at - 1) _ c.index.result.now f refl c.index.ensures, f.fits)

pub as_lits-requires : goal.as_lits-requires
as_lits-requires c =
    let f = found c.self.inside.words.items c.self.inside.used _ c.args.at c.args.self.now c.self.invariant c.self.view_is c.requires in
    let n : (c.args.at + c.index.result.now.code / 8 - c.args.at) ≡ length f.body = omega (arith, read_length c.self.inside.words.items c.args.at (c.args.at - 1) _ c.index.result.now f refl c.index.ensures) in
    let e : take (c.args.at + c.index.result.now.code / 8 - c.args.at) (drop c.args.at c.deref.result.now) ≡ f.body = ap (λ l. take (c.args.at + c.index.result.now.code / 8 - c.args.at) (drop c.args.at l)) c.deref.ensures.value ∙ read_body c.self.inside.words.items c.args.at (c.args.at + c.index.result.now.code / 8 - c.args.at) _ f n in
    subst AllLiterals (sym e) f.sized.all

pub returns : goal.returns
returns c =
    let f = found c.self.inside.words.items c.self.inside.used _ c.args.at c.args.self.now c.self.invariant c.self.view_is c.requires in
    let n : (c.args.at + c.index.result.now.code / 8 - c.args.at) ≡ length f.body = omega (arith, read_length c.self.inside.words.items c.args.at (c.args.at - 1) _ c.index.result.now f refl c.index.ensures) in
    let e : take (c.args.at + c.index.result.now.code / 8 - c.args.at) (drop c.args.at c.deref.result.now) ≡ f.body = ap (λ l. take (c.args.at + c.index.result.now.code / 8 - c.args.at) (drop c.args.at l)) c.deref.ensures.value ∙ read_body c.self.inside.words.items c.args.at (c.args.at + c.index.result.now.code / 8 - c.args.at) _ f n in
    c.as_lits.ensures ∙ ap (map literal_in) e ∙ ap (λ (x : Cell). x.lits) (sym f.cell)
