use Rattle.sr_sure.specs.SureView.{outside_of}
use Rattle.sr_sure.proofs.Never.{never_fails}
use Rattle.sr_cli.specs.Demo.{formula_text, proof_text}
use Rattle.sr_cli.specs.Words.{demo_said}
use Rattle.sr_cli.proofs.Demos.{finds_texts, texts_stay}
use Rattle.sr_cli.proofs.demo.trim_sure.Goals as goal

pub returns-clause-finds : goal.returns-clause-finds
returns-clause-finds g c =
    finds_texts c.args.limits.now (demo_said c.args.words.now) (outside_of c.args.sure.now) (outside_of c.trim_between.new.from) (g.D.Desk.outside c.args.desk.now) (g.D.Desk.outside c.trim_between.new.desk)
    c.trim_between.result.outcome c.trim_between.result.counts c.requires.fresh c.requires.texts (never_fails c.args.sure.now) (never_fails c.trim_between.new.from) c.trim_between.ensures.finds

pub returns-clause-texts : goal.returns-clause-texts
returns-clause-texts g c =
    texts_stay (formula_text c.args.words.now.holes) (proof_text c.args.words.now.holes) (demo_said c.args.words.now) (outside_of c.args.sure.now) (outside_of c.trim_between.new.from) c.requires.texts
    c.trim_between.ensures.finds.0
