use Rattle.std.proofs.Common.{◌≡◌, take}
use Rattle.sr_model.specs.Judging.{without}
use Rattle.sr_check.proofs.storage.Storage.remove_all.Given as goal

abbrev pub invariant-loop-id : goal.invariant-loop-id
invariant-loop-id l = l.self ≡ record l.fn.self { clauses = without (take l.id-index l.ids) l.fn.self.clauses }
