use Rattle.std.proofs.Common.{◌≡◌, subst}
use Rattle.sr_table.specs.Pages.{Paged, IsOpen, entry}
use Rattle.sr_table.proofs.Paging.{set_open}
use Rattle.sr_table.proofs.pages.IdTable.size.Goals as goal

pub returns-clause-set : goal.returns-clause-set
returns-clause-set c n = subst (λ (t : Paged). (entry t n ≡ 0 → ⊥) → IsOpen t n) c.self.view_is (set_open c.self.inside.pages.items c.self.inside.entries.items n c.self.invariant)
