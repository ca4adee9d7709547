use Rattle.std.proofs.Common.{ap, sym, ◌∙◌, length}
use Rattle.sr_lists.specs.Stacks.{Stacked}
use Rattle.sr_lists.proofs.Chains.{stacks_count}
use Rattle.sr_lists.proofs.stacks.Stacks.keys.Goals as goal

pub returns : goal.returns
returns c = c.len.ensures ∙ c.self.inside.newest.ok.0 ∙ sym (stacks_count c.self.inside.newest.items c.self.inside.below.items) ∙ ap (λ (s : Stacked). length s.stacks) c.self.view_is
