use Rattle.std.proofs.Common.{◌≡◌, List, Result, Ok, Err, Vec, subst, sym}
use Rattle.std.specs.Prelude.{IfOk}
use Rattle.std.specs.declared.alloc.Global.{Global}
use Rattle.sr_base.specs.declared.lists.NoMemory.{NoMemory}
use Rattle.sr_arena.specs.declared.moves.Move.{Move}
use Rattle.sr_arena.specs.Cells.{Cell}
use Rattle.sr_arena.specs.Layout.{cells_of}
use Rattle.sr_arena.specs.Compaction.{AreRising, moves_of}
use Rattle.sr_arena.proofs.Moving.{moves_rise}
use Rattle.sr_arena.proofs.regions.Regions.moves.Goals as goal

rises : (cs : List Cell) (r : Result (Vec Move Global) NoMemory) → IfOk r (λ ms. ms.items ≡ moves_of cs) → IfOk r (λ ms. AreRising ms.items)
rises cs (Ok v) h = subst AreRising (sym h) (moves_rise 0 2 cs)
rises cs (Err e) h = tt

pub returns-clause-rising : goal.returns-clause-rising
returns-clause-rising c = rises (cells_of c.deref.result.now) c.moves_of.result c.moves_of.ensures
