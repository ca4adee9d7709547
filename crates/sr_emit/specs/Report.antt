-- The report on standard output: statistics or a reason, and a last line; or help. A space parts the parts of a line, a line feed ends it.
use Rattle.std.specs.Prelude.{ℕ, ◌≡◌, Bool, if◌then◌else◌, List, [], ◌∷◌, ◌++◌, Option, Some, None, codes, decimal}
use Rattle.sr_emit.specs.FileNames.{Names}
use Rattle.sr_emit.specs.Help.{help_text}
use Rattle.sr_emit.specs.Reasons.{reason_of}
use Rattle.sr_emit.specs.Names.{which_name, text_name, limit_name, usage_name, cause_text}
use Rattle.sr_emit.specs.declared.counts.Counts.{Counts}
use Rattle.sr_emit.specs.declared.report.Command.{Command}
use Rattle.sr_emit.specs.declared.report.Command.TheVariants.{Check, Trim, Demo}
use Rattle.sr_emit.specs.declared.outcome.Outcome.{Outcome}
use Rattle.sr_emit.specs.declared.outcome.Outcome.TheVariants.{Verified, RejectedStep, RejectedLemma, NoEmptyClause, Usage, Text, Limit, SourceFault, SinkFault, NoMemory, Helped}

abbrev pub space : List ℕ
space = 32 ∷ []

abbrev pub line_end : List ℕ
line_end = 10 ∷ []

abbrev pub rejected_line : ℕ → List ℕ → List ℕ
rejected_line id cause = codes "s REJECTED step " ++ decimal id ++ space ++ cause ++ line_end

-- a lemma is rejected against a clause, or because it is empty
abbrev pub against_text : Option ℕ → List ℕ
against_text None = codes "empty"
against_text (Some id) = codes "against " ++ decimal id

abbrev pub rejected_lemma_line : ℕ → Option ℕ → List ℕ
rejected_lemma_line lemma against = codes "s REJECTED lemma " ++ decimal lemma ++ space ++ against_text against ++ line_end

abbrev pub verified_line : List ℕ
verified_line = codes "s VERIFIED UNSAT\n"

-- the last line; a fault of writing and want of memory print none, and help is a text of its own
abbrev pub last_line : Outcome → List ℕ
last_line Verified = verified_line
last_line (RejectedStep id cause) = rejected_line id (cause_text cause)
last_line (RejectedLemma lemma against) = rejected_lemma_line lemma against
last_line NoEmptyClause = codes "s NO EMPTY CLAUSE" ++ line_end
last_line (Usage kind) = codes "e usage " ++ usage_name kind ++ line_end
last_line (Text which kind place) = codes "e text " ++ which_name which ++ space ++ text_name kind ++ space ++ decimal place ++ line_end
last_line (Limit which kind) = codes "e limit " ++ which_name which ++ space ++ limit_name kind ++ line_end
last_line (SourceFault which) = codes "e source " ++ which_name which ++ line_end
last_line (SinkFault which) = []
last_line NoMemory = []
last_line (Helped topic) = help_text topic

abbrev pub count_line : List ℕ → ℕ → List ℕ
count_line name n = codes "c " ++ name ++ space ++ decimal n ++ line_end

abbrev pub check_lines : Counts → List ℕ
check_lines k = count_line (codes "clauses") k.clauses ++ count_line (codes "steps") k.steps ++ count_line (codes "hints") k.hints

abbrev pub trim_lines : Counts → List ℕ
trim_lines k = count_line (codes "clauses") k.clauses ++ count_line (codes "core") k.core ++ count_line (codes "lemmas") k.lemmas
    ++ count_line (codes "steps") k.steps ++ count_line (codes "hints") k.hints ++ count_line (codes "passed") k.passed

abbrev pub short_lines : Counts → List ℕ
short_lines k = count_line (codes "clauses") k.clauses ++ count_line (codes "lemmas") k.lemmas

-- the holes, and then what was counted, all of it where that is asked for
abbrev pub demo_lines : ℕ → Bool → Counts → List ℕ
demo_lines holes stats k = count_line (codes "holes") holes ++ (if stats then trim_lines k else short_lines k)

-- statistics stand before the last line of a verified run that is asked for them
abbrev pub statistics_of : Command → Option Counts → Outcome → List ℕ
statistics_of Check (Some k) Verified = check_lines k
statistics_of Trim (Some k) Verified = trim_lines k
statistics_of (Demo holes stats) (Some k) Verified = demo_lines holes stats k
statistics_of command counts outcome = []

abbrev pub report : Command → Names → Option Counts → Outcome → List ℕ
report command names counts outcome = statistics_of command counts outcome ++ reason_of command names outcome ++ last_line outcome

-- the report of a verified run, whatever its files are called
abbrev pub IsVerifiedReport : Command → Option Counts → List ℕ → Type 0
IsVerifiedReport command counts bytes = (names : Names) → bytes ≡ report command names counts Verified

-- a report of which a prefix ends with the line of a verified run is the report of one
abbrev pub OnlyVerifiedSaysSo : Type 0
OnlyVerifiedSaysSo = (command : Command) (names : Names) (counts : Option Counts) (outcome : Outcome) (before rest : List ℕ)
    → report command names counts outcome ≡ before ++ verified_line ++ rest → outcome ≡ Verified
