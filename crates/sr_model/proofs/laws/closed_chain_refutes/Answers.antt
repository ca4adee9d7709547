use Rattle.sr_model.proofs.Chains.{closed_refutes}
use Rattle.sr_model.proofs.laws.closed_chain_refutes.Goals as goal

pub returns : goal.returns
returns c = closed_refutes
