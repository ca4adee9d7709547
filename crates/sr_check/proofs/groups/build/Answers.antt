use Rattle.std.proofs.Common.{arith, ◌∙◌, ◌+◌, ◌≡◌, [], get_or, subst, refl}
use Rattle.std.proofs.lemmas.List.{get_or_default}
use Rattle.sr_model.specs.Meeting.{Group}
use Rattle.sr_check.specs.Indexing.{Notes}
use Rattle.sr_check.proofs.Grouping.{index_more, within_more, holds_take}
use Rattle.sr_check.proofs.groups.build.Goals as goal

pub loop-i-preserved : goal.loop-i-preserved
loop-i-preserved c =
    let g : Group = get_or c.args.groups.now c.loop-i.i (0, []) in
    let is : g ≡ get_or c.args.groups.now c.loop-i.i g = get_or_default c.args.groups.now c.loop-i.i (0, []) g (omega arith) in
    let notes : Notes c.args.live.now c.loop-i.index c.note.new.index g.0 (c.loop-i.i + 1) = subst (λ n. Notes c.args.live.now c.loop-i.index c.note.new.index n (c.loop-i.i + 1)) c.id.ensures c.in_ok-note.ensures.ok in
    record {
      index = index_more c.args.live.now c.loop-i.index c.note.new.index c.args.groups.now c.loop-i.i (c.loop-i.i + 1) g (omega arith) is refl notes c.loop-i.invariant.index;
      within = within_more c.args.live.now c.loop-i.index c.note.new.index c.args.groups.now c.loop-i.i (c.loop-i.i + 1) g (omega arith) is notes c.loop-i.invariant.within;
    }

pub returns-in_err-note-clause-within : goal.returns-in_err-note-clause-within
returns-in_err-note-clause-within c n h = c.in_err-note.ensures.err n ∙ c.loop-i.invariant.within n (holds_take c.args.groups.now c.loop-i.i n h)
