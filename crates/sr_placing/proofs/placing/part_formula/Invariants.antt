use Rattle.std.proofs.Common.{◌≡◌, ◌++◌, ◌==◌, not, take}
use Rattle.sr_placing.specs.Marks.{numbers_where}
use Rattle.sr_placing.proofs.placing.part_formula.Given as goal

abbrev pub invariant-loop-i : goal.invariant-loop-i
invariant-loop-i l = record {
  uncited : l.uncited ≡ l.fn.uncited ++ numbers_where (λ x. x == 0) 1 (take l.i l.uses);
  core : l.core ≡ l.fn.core ++ numbers_where (λ x. not (x == 0)) 1 (take l.i l.uses);
}
