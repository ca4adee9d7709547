-- The sentences that say what is wrong, without their full stops.
use Rattle.std.specs.Prelude.{ℕ, List, Option, Some, None, codes}
use Rattle.sr_base.specs.declared.names.TextKind.{TextKind}
use Rattle.sr_base.specs.declared.names.TextKind.TheVariants as text
use Rattle.sr_base.specs.declared.names.LimitKind.{LimitKind}
use Rattle.sr_base.specs.declared.names.LimitKind.TheVariants as limit
use Rattle.sr_base.specs.declared.names.Cause.{Cause}
use Rattle.sr_base.specs.declared.names.Cause.TheVariants as cause
use Rattle.sr_emit.specs.declared.topic.Flaw.{Flaw}
use Rattle.sr_emit.specs.declared.topic.Flaw.TheVariants as flaw
use Rattle.sr_emit.specs.declared.report.Command.{Command}
use Rattle.sr_emit.specs.declared.report.Command.TheVariants as command

unfoldable pub flaw_sentence : Flaw → List ℕ
flaw_sentence flaw.NoCommand = codes "no command is given: these are check, trim, demo and help"
flaw_sentence flaw.UnknownCommand = codes "the first word is no command of sr: these are check, trim, demo and help"
flaw_sentence flaw.UnknownWord = codes "the command doesn't know a word or an option, or a word is spare"
flaw_sentence flaw.MissingWord = codes "a word that the command needs is missing"
flaw_sentence flaw.Repeated = codes "an option is given twice"
flaw_sentence flaw.MissingValue = codes "an option lacks its value"
flaw_sentence flaw.SpareValue = codes "an option that takes no value has one"
flaw_sentence flaw.BadForm = codes "the name of a form is text or binary"
flaw_sentence flaw.BadHoles = codes "N is a number from 2 to 60"
flaw_sentence flaw.SameName = codes "two of the files have one name"

unfoldable pub text_sentence : TextKind → List ℕ
text_sentence text.BadNumber = codes "a number is wanted here, and this is none or one that can't stand here"
text_sentence text.BadWord = codes "this word can't stand here"
text_sentence text.Unended = codes "it ends in the middle of a clause or an item"
text_sentence text.TooWide = codes "a number here is above what the format allows"
text_sentence text.NoHeader = codes "a formula begins with a header such as p cnf 2 3, and this one does not"
text_sentence text.AboveHeader = codes "a variable here is above the number of variables in the header"
text_sentence text.WrongCount = codes "it has more or fewer clauses than its header says"
text_sentence text.OddMap = codes "a witness that maps variables ends here, and its last literal has no image"
text_sentence text.Twice = codes "a witness that maps variables ends here, and one variable has two images"

unfoldable pub limit_sentence : LimitKind → List ℕ
limit_sentence limit.Vars = codes "it passes the limit of variables"
limit_sentence limit.Ids = codes "it passes the limit of numbers of clauses"
limit_sentence limit.Cells = codes "it passes the limit of memory for clauses"
limit_sentence limit.Bytes = codes "it passes the limit of bytes of a file"

-- what rule an item of a proof with hints breaks
unfoldable pub cause_sentence : Cause → List ℕ
cause_sentence cause.NotNew = codes "the number of a step has to be above all numbers of clauses before it, and this one's isn't"
cause_sentence (cause.DeadHint n) = codes "a hint has to name a clause that is live, and this one's isn't"
cause_sentence (cause.NotUnit n) = codes "a hint has to name a clause of which all literals but one are false by then, and two or more of this one's aren't"
cause_sentence cause.Unclosed = codes "the hints of a step with the empty clause have to end in a conflict, and these don't"
cause_sentence (cause.GroupUnclosed n) = codes "the hints for a clause that the witness changes have to end in a conflict, and these don't"
cause_sentence (cause.HintAfter n) = codes "under strict checking no hint may stand after the conflict, and one does"
cause_sentence (cause.GroupSpare n) = codes "under strict checking a group has to be for a clause that needs one, and this one's doesn't"
cause_sentence (cause.GroupTwice n) = codes "under strict checking a clause may have one group, and this one has a second"
cause_sentence (cause.DeadDrop n) = codes "under strict checking a deletion has to name clauses that are live, and one of these isn't"

unfoldable pub lemma_sentence : Option ℕ → List ℕ
lemma_sentence (Some against) = codes "a lemma that the refutation needs isn't redundant: the clause that is named shows it"
lemma_sentence None = codes "an empty lemma comes where unit propagation over the clauses before it finds no conflict"

-- what is missing where a proof ends
unfoldable pub end_sentence : Command → List ℕ
end_sentence command.Check = codes "it ends, and no step has the empty clause"
end_sentence c = codes "it ends before unit propagation finds a conflict"

unfoldable pub source_sentence : List ℕ
source_sentence = codes "it can't be opened or read"
