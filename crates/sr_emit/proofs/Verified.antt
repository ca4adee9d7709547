-- In the report of a run that isn't verified, no line feed comes right after a `T`.
use Rattle.std.proofs.Common.{◌≡◌, ◌∙◌, inl, inr, ℕ, Bool, true, false, refl, ap, List, [], ◌++◌, Option, Some, None, arith}
use Rattle.std.specs.Prelude.{codes, decimal, ◌||◌, ◌⊎◌}
use Rattle.sr_base.specs.declared.names.Which.TheVariants as which
use Rattle.sr_emit.specs.declared.counts.Counts.{Counts}
use Rattle.sr_emit.specs.declared.report.Command.{Command}
use Rattle.sr_emit.specs.declared.report.Command.TheVariants.{Check, Trim, Demo, Help, Refused}
use Rattle.sr_emit.specs.declared.outcome.Outcome.{Outcome}
use Rattle.sr_emit.specs.declared.outcome.Outcome.TheVariants.{Verified, RejectedStep, RejectedLemma, NoEmptyClause, Usage, Text, Limit, SourceFault, SinkFault, NoMemory, Helped}
use Rattle.sr_emit.specs.FileNames.{Names, name_of}
use Rattle.sr_emit.specs.Names.{which_name, text_name, limit_name, usage_name, cause_text}
use Rattle.sr_emit.specs.Sentences.{limit_sentence, cause_sentence, lemma_sentence, end_sentence, source_sentence}
use Rattle.sr_emit.specs.Reasons.{placed_sentence, reason_of}
use Rattle.sr_emit.specs.Report.{space, against_text, last_line, verified_line, statistics_of, report}
use Rattle.sr_emit.proofs.Quiet.{Quiet, ends_in_t, last_is_t, ends_append, both, decimal_quiet, which_quiet, text_quiet, limit_quiet, usage_quiet, cause_quiet, against_quiet, ended, spaced, spaced_line, limit_sentence_quiet, cause_sentence_quiet, lemma_sentence_quiet, end_sentence_quiet, source_sentence_quiet, placed_quiet, file_quiet, usage_reason_quiet, help_quiet}

quiet_or_verified : (o : Outcome) → (o ≡ Verified) ⊎ Quiet (last_line o)
unfolding ends_in_t last_is_t
quiet_or_verified Verified = inl refl
quiet_or_verified (RejectedStep id cause) =
    inr (spaced_line (codes "s REJECTED step " ++ decimal id) (cause_text cause) (both (codes "s REJECTED step ") (decimal id) (refl, refl) (decimal_quiet id)) (cause_quiet cause))
quiet_or_verified (RejectedLemma lemma against) =
    inr (spaced_line (codes "s REJECTED lemma " ++ decimal lemma) (against_text against) (both (codes "s REJECTED lemma ") (decimal lemma) (refl, refl) (decimal_quiet lemma)) (against_quiet against))
quiet_or_verified NoEmptyClause = inr (refl, refl)
quiet_or_verified (Usage kind) = inr (ended (codes "e usage " ++ usage_name kind) (both (codes "e usage ") (usage_name kind) (refl, refl) (usage_quiet kind)))
quiet_or_verified (Text which kind place) =
    let file : Quiet (codes "e text " ++ which_name which) = both (codes "e text ") (which_name which) (refl, refl) (which_quiet which) in
    let fault : Quiet (codes "e text " ++ which_name which ++ space ++ text_name kind) = spaced (codes "e text " ++ which_name which) (text_name kind) file (text_quiet kind) in
    inr (spaced_line (codes "e text " ++ which_name which ++ space ++ text_name kind) (decimal place) fault (decimal_quiet place))
quiet_or_verified (Limit which kind) =
    inr (spaced_line (codes "e limit " ++ which_name which) (limit_name kind) (both (codes "e limit ") (which_name which) (refl, refl) (which_quiet which)) (limit_quiet kind))
quiet_or_verified (SourceFault which) = inr (ended (codes "e source " ++ which_name which) (both (codes "e source ") (which_name which) (refl, refl) (which_quiet which)))
quiet_or_verified (SinkFault which) = inr (refl, refl)
quiet_or_verified NoMemory = inr (refl, refl)
quiet_or_verified (Helped t) = inr (help_quiet t)

reason_quiet : (command : Command) (names : Names) (o : Outcome) → Quiet (reason_of command names o)
unfolding ends_in_t last_is_t
reason_quiet command names Verified = (refl, refl)
reason_quiet command names (RejectedStep id cause) = file_quiet which.Proof names.proof (cause_sentence cause) (cause_sentence_quiet cause)
reason_quiet command names (RejectedLemma lemma against) = file_quiet which.Proof names.proof (lemma_sentence against) (lemma_sentence_quiet against)
reason_quiet command names NoEmptyClause = file_quiet which.Proof names.proof (end_sentence command) (end_sentence_quiet command)
reason_quiet command names (Usage kind) = usage_reason_quiet command
reason_quiet command names (Text w kind place) = file_quiet w (name_of w names) (placed_sentence kind place) (placed_quiet kind place)
reason_quiet command names (Limit w kind) = file_quiet w (name_of w names) (limit_sentence kind) (limit_sentence_quiet kind)
reason_quiet command names (SourceFault w) = file_quiet w (name_of w names) source_sentence source_sentence_quiet
reason_quiet command names (SinkFault w) = (refl, refl)
reason_quiet command names NoMemory = (refl, refl)
reason_quiet command names (Helped t) = (refl, refl)

-- statistics stand in the report of a verified run alone
without_statistics : (command : Command) (counts : Option Counts) (o : Outcome) → (o ≡ Verified) ⊎ (statistics_of command counts o ≡ [])
without_statistics command counts Verified = inl refl
without_statistics Help counts o = inr refl
without_statistics (Refused t f) counts o = inr refl
without_statistics Check None o = inr refl
without_statistics Check (Some k) (RejectedStep id cause) = inr refl
without_statistics Check (Some k) (RejectedLemma lemma against) = inr refl
without_statistics Check (Some k) NoEmptyClause = inr refl
without_statistics Check (Some k) (Usage kind) = inr refl
without_statistics Check (Some k) (Text which kind place) = inr refl
without_statistics Check (Some k) (Limit which kind) = inr refl
without_statistics Check (Some k) (SourceFault which) = inr refl
without_statistics Check (Some k) (SinkFault which) = inr refl
without_statistics Check (Some k) NoMemory = inr refl
without_statistics Check (Some k) (Helped t) = inr refl
without_statistics Trim None o = inr refl
without_statistics Trim (Some k) (RejectedStep id cause) = inr refl
without_statistics Trim (Some k) (RejectedLemma lemma against) = inr refl
without_statistics Trim (Some k) NoEmptyClause = inr refl
without_statistics Trim (Some k) (Usage kind) = inr refl
without_statistics Trim (Some k) (Text which kind place) = inr refl
without_statistics Trim (Some k) (Limit which kind) = inr refl
without_statistics Trim (Some k) (SourceFault which) = inr refl
without_statistics Trim (Some k) (SinkFault which) = inr refl
without_statistics Trim (Some k) NoMemory = inr refl
without_statistics Trim (Some k) (Helped t) = inr refl
without_statistics (Demo holes stats) None o = inr refl
without_statistics (Demo holes stats) (Some k) (RejectedStep id cause) = inr refl
without_statistics (Demo holes stats) (Some k) (RejectedLemma lemma against) = inr refl
without_statistics (Demo holes stats) (Some k) NoEmptyClause = inr refl
without_statistics (Demo holes stats) (Some k) (Usage kind) = inr refl
without_statistics (Demo holes stats) (Some k) (Text which kind place) = inr refl
without_statistics (Demo holes stats) (Some k) (Limit which kind) = inr refl
without_statistics (Demo holes stats) (Some k) (SourceFault which) = inr refl
without_statistics (Demo holes stats) (Some k) (SinkFault which) = inr refl
without_statistics (Demo holes stats) (Some k) NoMemory = inr refl
without_statistics (Demo holes stats) (Some k) (Helped t) = inr refl

report_quiet : (command : Command) (names : Names) (counts : Option Counts) (o : Outcome) → (o ≡ Verified) ⊎ (ends_in_t false (report command names counts o) ≡ false)
report_quiet command names counts o = elim (quiet_or_verified o) [
  | inl v ↦ inl v
  | inr q ↦ elim (without_statistics command counts o) [
    | inl v ↦ inl v
    | inr e ↦ inr (rw e (both (reason_of command names o) (last_line o) (reason_quiet command names o) q).0)
  ]
]

line_heard : (before rest : List ℕ) → ends_in_t false (before ++ verified_line ++ rest) ≡ true
unfolding ends_in_t last_is_t
line_heard before rest = ends_append false (before ++ verified_line) rest ∙ ap (λ b. b || ends_in_t (last_is_t false (before ++ verified_line)) rest) (ends_append false before verified_line ∙ at (ends_in_t false before))
  where
    at : (b : Bool) → (b || ends_in_t (last_is_t false before) verified_line) ≡ true
    at true = refl
    at false = more (last_is_t false before)
      where
        more : (t : Bool) → ends_in_t t verified_line ≡ true
        more true = refl
        more false = refl

pub says_so : (command : Command) (names : Names) (counts : Option Counts) (outcome : Outcome) (before rest : List ℕ)
    → report command names counts outcome ≡ before ++ verified_line ++ rest → outcome ≡ Verified
says_so command names counts outcome before rest e = elim (report_quiet command names counts outcome) [
  | inl v ↦ v
  | inr q ↦ let heard : ends_in_t false (report command names counts outcome) ≡ true = ap (ends_in_t false) e ∙ line_heard before rest in absurd (grind (arith, q))
]
