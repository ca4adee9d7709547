use Rattle.std.proofs.Common.{rules, refl}
use Rattle.std.proofs.lemmas.Int.{to_z-of_z}
use mir.Val.{SFits}
use mir.Syntax.{w64}
use Rattle.sr_cnf.proofs.Steps.{number_taken}
use Rattle.sr_cnf.proofs.reading.Reading.take_word.Goals as goal

pub returns-in-Number-clause-takes : goal.returns-in-Number-clause-takes
returns-in-Number-clause-takes c =
    let fits : SFits w64 c.in-Number.x = search rules in
    let takes = rw (to_z-of_z w64 c.in-Number.x fits) at c.take_number.ensures.takes in
    rw c.in-Number.is (number_taken c.args.self.now c.take_number.new.self c.in-Number.x c.args.place c.take_number.result c.requires.keeps.none takes)
