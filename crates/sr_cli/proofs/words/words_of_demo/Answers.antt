use Rattle.std.proofs.Common.{map, string_bytes, ◌∙◌, sym, refl}
use Rattle.clap.specs.Words.{app_of, found_of, rows_of}
use Rattle.sr_cli.proofs.WordsLemmas.{demo_taken, demo_refused, demo_left}
use Rattle.sr_cli.proofs.words.words_of_demo.Goals as goal

pub returns-in-Err : goal.returns-in-Err
returns-in-Err c = demo_refused (app_of c.in-Ok.command) (map string_bytes c.args.words.now) c.in-Err.stop c.in-Ok.ensures c.in-Err.ensures

pub returns-in-Some : goal.returns-in-Some
returns-in-Some c = (
  demo_taken (app_of c.in-Ok.command) (map string_bytes c.args.words.now) (rows_of (found_of c.in-Ok-matches_for.matches)) c.in-Ok.ensures
      c.in-Ok-matches_for.ensures.0 c.in-Ok-matches_for.ensures.1 ∙ sym c.in-Some.ensures.said,
  c.in-Some.ensures.are,
)

pub returns : goal.returns
returns c = (
  demo_taken (app_of c.in-Ok.command) (map string_bytes c.args.words.now) (rows_of (found_of c.in-Ok-matches_for.matches)) c.in-Ok.ensures
      c.in-Ok-matches_for.ensures.0 c.in-Ok-matches_for.ensures.1 ∙ sym c.in-None.ensures.said,
  refl,
  demo_left (app_of c.in-Ok.command) (map string_bytes c.args.words.now) c.in-Ok.ensures c.in-Ok-matches_for.ensures.0,
)
