use Rattle.std.proofs.Common.{map, string_bytes, ◌∙◌, sym}
use Rattle.sr_cli.proofs.WordsLemmas.{check_stops}
use Rattle.sr_cli.proofs.words.check_task.Goals as goal

pub returns-in-Err : goal.returns-in-Err
returns-in-Err c = check_stops (map string_bytes c.args.rest.now) c.in-Err.stop (sym c.asks_help.ensures ∙ c.if-asks_help.false) c.in-Err.ensures
