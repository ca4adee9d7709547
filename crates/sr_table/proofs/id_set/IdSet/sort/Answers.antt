use Rattle.std.proofs.lemmas.List.Sorted.{IsNonDecreasingBy-from_sort}
use Rattle.sr_table.proofs.Numbering.{held_moved, noted_moved}
use Rattle.sr_table.proofs.id_set.IdSet.sort.Goals as goal

pub invariant_of-self : goal.invariant_of-self
invariant_of-self c = noted_moved c.self.inside.ids.items c.sort_unstable.new.self.items c.self.inside.rounds c.self.inside.round c.sort_unstable.ensures.permutation c.self.invariant

pub returns-clause-held : goal.returns-clause-held
returns-clause-held c = rw (← c.self.view_is) (held_moved c.self.inside.ids.items c.sort_unstable.new.self.items c.sort_unstable.ensures.permutation)

pub returns-clause-sorted : goal.returns-clause-sorted
returns-clause-sorted c = IsNonDecreasingBy-from_sort (λ x. x) c.sort_unstable.new.self.items c.sort_unstable.ensures.sorted
