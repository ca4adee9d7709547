use Rattle.std.proofs.Common.{◌≡◌, map, string_bytes, drop}
use Rattle.sr_cli.specs.Words.{asks_help}
use Rattle.sr_cli.proofs.words.asks_help.Given as goal

abbrev pub invariant-loop-word : goal.invariant-loop-word
invariant-loop-word l = asks_help (map string_bytes l.words) ≡ asks_help (map string_bytes (drop l.word-index l.words))
