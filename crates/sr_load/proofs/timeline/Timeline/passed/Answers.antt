use Rattle.std.proofs.Common.{ap, ◌∙◌, sym}
use Rattle.sr_load.specs.Loaded.{LoadedState, all_lines}
use Rattle.sr_load.specs.Loading.{passed_in}
use Rattle.sr_load.proofs.Extending.{lines_are}
use Rattle.sr_load.proofs.timeline.Timeline.passed.Goals as goal

pub returns : goal.returns
returns c = c.self.invariant.1.passes ∙ ap passed_in (sym (lines_are c.self.inside.lines.items c.self.inside.standing)) ∙ ap (λ (st : LoadedState). passed_in (all_lines st)) c.self.view_is
