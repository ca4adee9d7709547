-- Lines that say why a run isn't verified: each begins with `c `, and a line feed ends it.
use Rattle.std.specs.Prelude.{ℕ, ◌==◌, ◌||◌, nat_lt, if◌then◌else◌, List, [], ◌++◌, Option, Some, None, map, codes, decimal}
use Rattle.sr_base.specs.declared.names.Which.{Which}
use Rattle.sr_base.specs.declared.names.Which.TheVariants as which
use Rattle.sr_base.specs.declared.names.TextKind.{TextKind}
use Rattle.sr_emit.specs.declared.report.Command.{Command}
use Rattle.sr_emit.specs.declared.report.Command.TheVariants.{Refused}
use Rattle.sr_emit.specs.declared.outcome.Outcome.{Outcome}
use Rattle.sr_emit.specs.declared.outcome.Outcome.TheVariants.{RejectedStep, RejectedLemma, NoEmptyClause, Usage, Text, Limit, SourceFault}
use Rattle.sr_emit.specs.declared.topic.Topic.{Topic}
use Rattle.sr_emit.specs.declared.topic.Flaw.{Flaw}
use Rattle.sr_emit.specs.FileNames.{Names, name_of}
use Rattle.sr_emit.specs.Names.{which_name}
use Rattle.sr_emit.specs.Help.{synopsis}
use Rattle.sr_emit.specs.Sentences.{flaw_sentence, text_sentence, limit_sentence, cause_sentence, lemma_sentence, end_sentence, source_sentence}

-- a control byte and a double quote are shown as `?`, so that a name neither ends its line nor its quotes
abbrev pub shown_byte : ℕ → ℕ
shown_byte b = if nat_lt b 32 || b == 127 || b == 34 then 63 else b

abbrev pub shown : List ℕ → List ℕ
shown name = map shown_byte name

-- the name of a file in quotes, where it is known
abbrev pub quoted : Option (List ℕ) → List ℕ
quoted None = []
quoted (Some name) = codes " \"" ++ shown name ++ codes "\""

-- a line about a file
abbrev pub file_reason : Which → Option (List ℕ) → List ℕ → List ℕ
file_reason which name sentence = codes "c " ++ which_name which ++ quoted name ++ codes ": " ++ sentence ++ codes ".\n"

-- what a text has at a place
abbrev pub placed_sentence : TextKind → ℕ → List ℕ
placed_sentence kind place = text_sentence kind ++ codes ", at the byte " ++ decimal place ++ codes ", counted from 0"

-- what is wrong with the words, and which words the command takes
abbrev pub words_reason : Topic → Flaw → List ℕ
words_reason topic flaw = codes "c " ++ flaw_sentence flaw ++ codes ".\nc usage: " ++ synopsis topic ++ codes "\n"

abbrev pub usage_reason : Command → List ℕ
usage_reason (Refused topic flaw) = words_reason topic flaw
usage_reason command = []

-- why a run isn't verified; a fault of writing, and want of memory, give no reason
abbrev pub reason_of : Command → Names → Outcome → List ℕ
reason_of command names (RejectedStep id cause) = file_reason which.Proof (name_of which.Proof names) (cause_sentence cause)
reason_of command names (RejectedLemma lemma against) = file_reason which.Proof (name_of which.Proof names) (lemma_sentence against)
reason_of command names NoEmptyClause = file_reason which.Proof (name_of which.Proof names) (end_sentence command)
reason_of command names (Usage kind) = usage_reason command
reason_of command names (Text which kind place) = file_reason which (name_of which names) (placed_sentence kind place)
reason_of command names (Limit which kind) = file_reason which (name_of which names) (limit_sentence kind)
reason_of command names (SourceFault which) = file_reason which (name_of which names) source_sentence
reason_of command names outcome = []
