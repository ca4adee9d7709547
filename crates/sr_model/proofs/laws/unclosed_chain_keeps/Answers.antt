use Rattle.sr_model.proofs.Chains.{unclosed_keeps}
use Rattle.sr_model.proofs.laws.unclosed_chain_keeps.Goals as goal

pub returns : goal.returns
returns c = unclosed_keeps
