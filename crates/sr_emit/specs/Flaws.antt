-- What is wrong with refused words, by the name that the last line has for it.
use Rattle.sr_emit.specs.declared.outcome.UsageKind.{UsageKind}
use Rattle.sr_emit.specs.declared.outcome.UsageKind.TheVariants as usage
use Rattle.sr_emit.specs.declared.topic.Flaw.{Flaw}
use Rattle.sr_emit.specs.declared.topic.Flaw.TheVariants as flaw

abbrev pub kind_of_flaw : Flaw → UsageKind
kind_of_flaw flaw.NoCommand = usage.NoCommand
kind_of_flaw flaw.UnknownCommand = usage.UnknownCommand
kind_of_flaw flaw.SameName = usage.SameName
kind_of_flaw f = usage.Words
