use Rattle.std.proofs.Common.{◌<◌, [], arith, length, ap, get_or, sym, ◌∙◌}
use Rattle.sr_wit.proofs.PieceLemmas.{length-pieces, get_or-pieces}
use Rattle.sr_placing.proofs.chains.NumberLists.list.Goals as goal

pub piece-requires : goal.piece-requires
piece-requires c =
    let count = length-pieces 0 c.self.inside.ends.items c.self.inside.numbers.items in
    let same = ap length c.self.view_is in
    record {
      cut = rw (c.deref.ensures.value, c.deref-2.ensures.value) c.self.invariant;
      index = rw c.deref-2.ensures.value (omega arith);
    }

pub returns : goal.returns
returns c =
    let count = length-pieces 0 c.self.inside.ends.items c.self.inside.numbers.items in
    let same = ap length c.self.view_is in
    let inside : c.args.i < length c.self.inside.ends.items = omega arith in
    let at = get_or-pieces 0 c.self.inside.ends.items c.self.inside.numbers.items c.args.i inside in
    let list = ap (λ f. get_or f c.args.i []) c.self.view_is in
    rw (c.deref.ensures.value, c.deref-2.ensures.value) at c.piece.ensures ∙ sym at ∙ list
