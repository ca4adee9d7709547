-- The names that the report gives to files, faults and causes.
use Rattle.std.specs.Prelude.{ℕ, List, ◌++◌, codes, decimal}
use Rattle.sr_base.specs.declared.names.Which.{Which}
use Rattle.sr_base.specs.declared.names.Which.TheVariants as which
use Rattle.sr_base.specs.declared.names.TextKind.{TextKind}
use Rattle.sr_base.specs.declared.names.TextKind.TheVariants as text
use Rattle.sr_base.specs.declared.names.LimitKind.{LimitKind}
use Rattle.sr_base.specs.declared.names.LimitKind.TheVariants as limit
use Rattle.sr_base.specs.declared.names.Cause.{Cause}
use Rattle.sr_base.specs.declared.names.Cause.TheVariants.{NotNew, DeadHint, NotUnit, Unclosed, GroupUnclosed, HintAfter, GroupSpare, GroupTwice, DeadDrop}
use Rattle.sr_emit.specs.declared.outcome.UsageKind.{UsageKind}
use Rattle.sr_emit.specs.declared.outcome.UsageKind.TheVariants as usage

abbrev pub which_name : Which → List ℕ
which_name which.Formula = codes "formula"
which_name which.Proof = codes "proof"
which_name which.Lsr = codes "lsr"
which_name which.Core = codes "core"
which_name which.Report = codes "report"

abbrev pub text_name : TextKind → List ℕ
text_name text.BadNumber = codes "bad-number"
text_name text.BadWord = codes "bad-word"
text_name text.Unended = codes "unended"
text_name text.TooWide = codes "too-wide"
text_name text.NoHeader = codes "no-header"
text_name text.AboveHeader = codes "above-header"
text_name text.WrongCount = codes "wrong-count"
text_name text.OddMap = codes "odd-map"
text_name text.Twice = codes "twice"

abbrev pub limit_name : LimitKind → List ℕ
limit_name limit.Vars = codes "vars"
limit_name limit.Ids = codes "ids"
limit_name limit.Cells = codes "cells"
limit_name limit.Bytes = codes "bytes"

abbrev pub usage_name : UsageKind → List ℕ
usage_name usage.NoCommand = codes "no-command"
usage_name usage.UnknownCommand = codes "unknown-command"
usage_name usage.Words = codes "words"
usage_name usage.SameName = codes "same-name"

abbrev pub cause_text : Cause → List ℕ
cause_text NotNew = codes "not-new"
cause_text (DeadHint h) = codes "dead-hint " ++ decimal h
cause_text (NotUnit h) = codes "not-unit " ++ decimal h
cause_text Unclosed = codes "unclosed"
cause_text (GroupUnclosed d) = codes "group-unclosed " ++ decimal d
cause_text (HintAfter h) = codes "hint-after " ++ decimal h
cause_text (GroupSpare d) = codes "group-spare " ++ decimal d
cause_text (GroupTwice d) = codes "group-twice " ++ decimal d
cause_text (DeadDrop d) = codes "dead-drop " ++ decimal d
