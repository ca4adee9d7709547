use Rattle.std.proofs.Common.{ap, ◌∙◌, sym}
use Rattle.sr_load.specs.Loaded.{LoadedState}
use Rattle.sr_load.proofs.Backing.{back_start, back_more, back_fewer, back_found, back_all, none_stands, none_assumed_yet}
use Rattle.sr_load.proofs.timeline.Timeline.back.Goals as goal

pub lines-init : goal.lines-init
lines-init c = back_start c.args.self.now

pub take_back-lemma-requires-clause-none : goal.take_back-lemma-requires-clause-none
take_back-lemma-requires-clause-none c = none_assumed_yet c.args.self.now c.lines.self c.requires c.lines.invariant

pub returns-then-is_some : goal.returns-then-is_some
returns-then-is_some c = back_found c.args.self.now c.lines.self c.take_back-lemma.new.self c.take_back-lemma.result (sym c.is_some.ensures ∙ c.if-is_some.true) c.lines.invariant c.take_back-lemma.ensures

pub lines-smaller : goal.lines-smaller
lines-smaller c = back_fewer c.lines.self c.take_back-lemma.new.self c.take_back-lemma.result c.take_back-lemma.ensures

pub lines-preserved : goal.lines-preserved
lines-preserved c = back_more c.args.self.now c.lines.self c.take_back-lemma.new.self c.take_back-lemma.result (sym c.is_some.ensures ∙ c.if-is_some.false) c.lines.invariant c.take_back-lemma.ensures

pub returns : goal.returns
returns c = back_all c.args.self.now c.lines.self (sym (ap (λ (x : LoadedState). x.standing) c.self.view_is) ∙ none_stands c.self.inside.lines.items c.self.inside.standing c.lines-test.false) c.lines.invariant
