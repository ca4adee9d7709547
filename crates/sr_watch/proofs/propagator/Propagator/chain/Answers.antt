use Rattle.std.proofs.Common.{refl}
use Rattle.sr_watch.proofs.Leaning.{chain_of_pair}
use Rattle.sr_watch.proofs.propagator.Propagator.chain.Goals as goal

pub returns-in_default : goal.returns-in_default
returns-in_default g c = record { same = refl; ok = rw c.truncate.ensures (chain_of_pair c.args.self.now c.args.found c.requires c.in_default.not-Conflict); err = tt }
