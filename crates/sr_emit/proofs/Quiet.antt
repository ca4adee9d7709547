-- Texts in which no line feed comes right after a `T`.
use Rattle.std.proofs.Common.{◌≡◌, ◌∙◌, ◌+◌, ℕ, zero, suc, ◌/◌, ◌%◌, ◌<◌, ◌==◌, Bool, true, false, refl, ap, List, [], ◌∷◌, ◌++◌, Option, Some, None, not, arith}
use Rattle.std.specs.Prelude.{codes, decimal, nat_lt, ◌||◌, ◌&&◌}
use Rattle.std.specs.Fmt.{digit_glyph, digits_onto, digits}
use Rattle.std.proofs.lemmas.Bool.Decides.{nat_tests}
use Rattle.sr_base.specs.declared.names.Which.{Which}
use Rattle.sr_base.specs.declared.names.Which.TheVariants as which
use Rattle.sr_base.specs.declared.names.TextKind.{TextKind}
use Rattle.sr_base.specs.declared.names.TextKind.TheVariants as text
use Rattle.sr_base.specs.declared.names.LimitKind.{LimitKind}
use Rattle.sr_base.specs.declared.names.LimitKind.TheVariants as limit
use Rattle.sr_base.specs.declared.names.Cause.{Cause}
use Rattle.sr_base.specs.declared.names.Cause.TheVariants.{NotNew, DeadHint, NotUnit, Unclosed, GroupUnclosed, HintAfter, GroupSpare, GroupTwice, DeadDrop}
use Rattle.sr_emit.specs.declared.outcome.UsageKind.{UsageKind}
use Rattle.sr_emit.specs.declared.outcome.UsageKind.TheVariants as usage
use Rattle.sr_emit.specs.declared.report.Command.{Command}
use Rattle.sr_emit.specs.declared.report.Command.TheVariants.{Check, Trim, Demo, Help, Refused}
use Rattle.sr_emit.specs.declared.topic.Topic.{Topic}
use Rattle.sr_emit.specs.declared.topic.Topic.TheVariants as topic
use Rattle.sr_emit.specs.declared.topic.Flaw.{Flaw}
use Rattle.sr_emit.specs.declared.topic.Flaw.TheVariants as flaw
use Rattle.sr_emit.specs.Names.{which_name, text_name, limit_name, usage_name, cause_text}
use Rattle.sr_emit.specs.Help.{synopsis, text_lines, help_lines, help_text}
use Rattle.sr_emit.specs.Sentences.{flaw_sentence, text_sentence, limit_sentence, cause_sentence, lemma_sentence, end_sentence, source_sentence}
use Rattle.sr_emit.specs.Reasons.{shown_byte, shown, quoted, file_reason, placed_sentence, words_reason, usage_reason}
use Rattle.sr_emit.specs.Report.{space, line_end, against_text}

-- whether a line feed comes right after a `T`, where the byte before is a `T` or not
unfoldable pub ends_in_t : Bool → List ℕ → Bool
ends_in_t t [] = false
ends_in_t t (b ∷ bs) = (t && b == 10) || ends_in_t (b == 84) bs

-- whether the last byte is a `T`
unfoldable pub last_is_t : Bool → List ℕ → Bool
last_is_t t [] = t
last_is_t t (b ∷ bs) = last_is_t (b == 84) bs

by_test : {P : Type 0} (b : Bool) → (b ≡ true → P) → (b ≡ false → P) → P
by_test true f g = f refl
by_test false f g = g refl

abbrev pub Quiet : List ℕ → Type 0
Quiet xs = (ends_in_t false xs ≡ false) × (last_is_t false xs ≡ false)

pub ends_append : (t : Bool) (xs ys : List ℕ) → ends_in_t t (xs ++ ys) ≡ (ends_in_t t xs || ends_in_t (last_is_t t xs) ys)
unfolding ends_in_t last_is_t
ends_append t [] ys = refl
ends_append t (b ∷ bs) ys = ap (λ e. (t && b == 10) || e) (ends_append (b == 84) bs ys) ∙ at (t && b == 10)
  where
    at : (c : Bool) → (c || (ends_in_t (b == 84) bs || ends_in_t (last_is_t (b == 84) bs) ys)) ≡ ((c || ends_in_t (b == 84) bs) || ends_in_t (last_is_t (b == 84) bs) ys)
    at true = refl
    at false = refl

last_append : (t : Bool) (xs ys : List ℕ) → last_is_t t (xs ++ ys) ≡ last_is_t (last_is_t t xs) ys
unfolding last_is_t
last_append t [] ys = refl
last_append t (b ∷ bs) ys = last_append (b == 84) bs ys

pub both : (xs ys : List ℕ) → Quiet xs → Quiet ys → Quiet (xs ++ ys)
both xs ys p q = (ends_append false xs ys ∙ rw (p.0, p.1) q.0, last_append false xs ys ∙ rw p.1 q.1)

digit_quiet : (n : ℕ) (acc : List ℕ) → Quiet acc → Quiet (digit_glyph false (n % 10) ∷ acc)
unfolding ends_in_t last_is_t
digit_quiet n acc q =
    let small : n % 10 < 10 = omega arith in
    let digit : nat_lt (n % 10) 10 ≡ true = grind (arith, nat_tests) in
    let other : (48 + n % 10 == 84) ≡ false = grind (arith, nat_tests) in
    rw (digit, other) q

digits_quiet : (k n : ℕ) (acc : List ℕ) → Quiet acc → Quiet (digits_onto k 10 false n acc)
digits_quiet zero n acc q = q
digits_quiet (suc k) n acc q = by_test (n / 10 == 0)
    (λ e. rw e (digit_quiet n acc q))
    (λ e. rw e (digits_quiet k (n / 10) (digit_glyph false (n % 10) ∷ acc) (digit_quiet n acc q)))

pub decimal_quiet : (n : ℕ) → Quiet (decimal n)
unfolding digits ends_in_t last_is_t
decimal_quiet n = digits_quiet 64 n [] (refl, refl)

pub which_quiet : (w : Which) → Quiet (which_name w)
unfolding ends_in_t last_is_t
which_quiet which.Formula = (refl, refl)
which_quiet which.Proof = (refl, refl)
which_quiet which.Lsr = (refl, refl)
which_quiet which.Core = (refl, refl)
which_quiet which.Report = (refl, refl)

pub text_quiet : (k : TextKind) → Quiet (text_name k)
unfolding ends_in_t last_is_t
text_quiet text.BadNumber = (refl, refl)
text_quiet text.BadWord = (refl, refl)
text_quiet text.Unended = (refl, refl)
text_quiet text.TooWide = (refl, refl)
text_quiet text.NoHeader = (refl, refl)
text_quiet text.AboveHeader = (refl, refl)
text_quiet text.WrongCount = (refl, refl)
text_quiet text.OddMap = (refl, refl)
text_quiet text.Twice = (refl, refl)

pub limit_quiet : (k : LimitKind) → Quiet (limit_name k)
unfolding ends_in_t last_is_t
limit_quiet limit.Vars = (refl, refl)
limit_quiet limit.Ids = (refl, refl)
limit_quiet limit.Cells = (refl, refl)
limit_quiet limit.Bytes = (refl, refl)

pub usage_quiet : (k : UsageKind) → Quiet (usage_name k)
unfolding ends_in_t last_is_t
usage_quiet usage.NoCommand = (refl, refl)
usage_quiet usage.UnknownCommand = (refl, refl)
usage_quiet usage.Words = (refl, refl)
usage_quiet usage.SameName = (refl, refl)

pub cause_quiet : (x : Cause) → Quiet (cause_text x)
unfolding ends_in_t last_is_t
cause_quiet NotNew = (refl, refl)
cause_quiet Unclosed = (refl, refl)
cause_quiet (DeadHint h) = both (codes "dead-hint ") (decimal h) (refl, refl) (decimal_quiet h)
cause_quiet (NotUnit h) = both (codes "not-unit ") (decimal h) (refl, refl) (decimal_quiet h)
cause_quiet (GroupUnclosed d) = both (codes "group-unclosed ") (decimal d) (refl, refl) (decimal_quiet d)
cause_quiet (HintAfter h) = both (codes "hint-after ") (decimal h) (refl, refl) (decimal_quiet h)
cause_quiet (GroupSpare d) = both (codes "group-spare ") (decimal d) (refl, refl) (decimal_quiet d)
cause_quiet (GroupTwice d) = both (codes "group-twice ") (decimal d) (refl, refl) (decimal_quiet d)
cause_quiet (DeadDrop d) = both (codes "dead-drop ") (decimal d) (refl, refl) (decimal_quiet d)

pub against_quiet : (a : Option ℕ) → Quiet (against_text a)
unfolding ends_in_t last_is_t
against_quiet None = (refl, refl)
against_quiet (Some id) = both (codes "against ") (decimal id) (refl, refl) (decimal_quiet id)

space_quiet : Quiet space
unfolding ends_in_t last_is_t
space_quiet = (refl, refl)

end_quiet : Quiet line_end
unfolding ends_in_t last_is_t
end_quiet = (refl, refl)

pub ended : (xs : List ℕ) → Quiet xs → Quiet (xs ++ line_end)
ended xs q = both xs line_end q end_quiet

pub spaced : (xs ys : List ℕ) → Quiet xs → Quiet ys → Quiet (xs ++ space ++ ys)
spaced xs ys p q = both (xs ++ space) ys (both xs space p space_quiet) q

pub spaced_line : (xs ys : List ℕ) → Quiet xs → Quiet ys → Quiet (xs ++ space ++ ys ++ line_end)
spaced_line xs ys p q = ended (xs ++ space ++ ys) (spaced xs ys p q)

synopsis_quiet : (x : Topic) → Quiet (synopsis x)
unfolding ends_in_t last_is_t synopsis
synopsis_quiet topic.General = (refl, refl)
synopsis_quiet topic.Check = (refl, refl)
synopsis_quiet topic.Trim = (refl, refl)
synopsis_quiet topic.Demo = (refl, refl)
synopsis_quiet topic.Version = (refl, refl)

flaw_sentence_quiet : (x : Flaw) → Quiet (flaw_sentence x)
unfolding ends_in_t last_is_t flaw_sentence
flaw_sentence_quiet flaw.NoCommand = (refl, refl)
flaw_sentence_quiet flaw.UnknownCommand = (refl, refl)
flaw_sentence_quiet flaw.UnknownWord = (refl, refl)
flaw_sentence_quiet flaw.MissingWord = (refl, refl)
flaw_sentence_quiet flaw.Repeated = (refl, refl)
flaw_sentence_quiet flaw.MissingValue = (refl, refl)
flaw_sentence_quiet flaw.SpareValue = (refl, refl)
flaw_sentence_quiet flaw.BadForm = (refl, refl)
flaw_sentence_quiet flaw.BadHoles = (refl, refl)
flaw_sentence_quiet flaw.SameName = (refl, refl)

text_sentence_quiet : (x : TextKind) → Quiet (text_sentence x)
unfolding ends_in_t last_is_t text_sentence
text_sentence_quiet text.BadNumber = (refl, refl)
text_sentence_quiet text.BadWord = (refl, refl)
text_sentence_quiet text.Unended = (refl, refl)
text_sentence_quiet text.TooWide = (refl, refl)
text_sentence_quiet text.NoHeader = (refl, refl)
text_sentence_quiet text.AboveHeader = (refl, refl)
text_sentence_quiet text.WrongCount = (refl, refl)
text_sentence_quiet text.OddMap = (refl, refl)
text_sentence_quiet text.Twice = (refl, refl)

pub limit_sentence_quiet : (x : LimitKind) → Quiet (limit_sentence x)
unfolding ends_in_t last_is_t limit_sentence
limit_sentence_quiet limit.Vars = (refl, refl)
limit_sentence_quiet limit.Ids = (refl, refl)
limit_sentence_quiet limit.Cells = (refl, refl)
limit_sentence_quiet limit.Bytes = (refl, refl)

pub cause_sentence_quiet : (x : Cause) → Quiet (cause_sentence x)
unfolding ends_in_t last_is_t cause_sentence
cause_sentence_quiet NotNew = (refl, refl)
cause_sentence_quiet (DeadHint n) = (refl, refl)
cause_sentence_quiet (NotUnit n) = (refl, refl)
cause_sentence_quiet Unclosed = (refl, refl)
cause_sentence_quiet (GroupUnclosed n) = (refl, refl)
cause_sentence_quiet (HintAfter n) = (refl, refl)
cause_sentence_quiet (GroupSpare n) = (refl, refl)
cause_sentence_quiet (GroupTwice n) = (refl, refl)
cause_sentence_quiet (DeadDrop n) = (refl, refl)

pub lemma_sentence_quiet : (x : Option ℕ) → Quiet (lemma_sentence x)
unfolding ends_in_t last_is_t lemma_sentence
lemma_sentence_quiet None = (refl, refl)
lemma_sentence_quiet (Some id) = (refl, refl)

pub end_sentence_quiet : (x : Command) → Quiet (end_sentence x)
unfolding ends_in_t last_is_t end_sentence
end_sentence_quiet Check = (refl, refl)
end_sentence_quiet Trim = (refl, refl)
end_sentence_quiet (Demo holes stats) = (refl, refl)
end_sentence_quiet Help = (refl, refl)
end_sentence_quiet (Refused t f) = (refl, refl)

pub source_sentence_quiet : Quiet source_sentence
unfolding ends_in_t last_is_t source_sentence
source_sentence_quiet = (refl, refl)

pub placed_quiet : (kind : TextKind) (place : ℕ) → Quiet (placed_sentence kind place)
unfolding ends_in_t last_is_t
placed_quiet kind place =
    let at : Quiet (text_sentence kind ++ codes ", at the byte ") = both (text_sentence kind) (codes ", at the byte ") (text_sentence_quiet kind) (refl, refl) in
    let number : Quiet (text_sentence kind ++ codes ", at the byte " ++ decimal place) = both (text_sentence kind ++ codes ", at the byte ") (decimal place) at (decimal_quiet place) in
    both (text_sentence kind ++ codes ", at the byte " ++ decimal place) (codes ", counted from 0") number (refl, refl)

-- a name as it is shown has no line feed
no_feed : (b : ℕ) → (shown_byte b == 10) ≡ false
no_feed b = by_test (nat_lt b 32 || b == 127 || b == 34) (λ e. rw e refl) (λ e. rw e (other e))
  where
    other : (nat_lt b 32 || b == 127 || b == 34) ≡ false → (b == 10) ≡ false
    other e = grind (arith, nat_tests)

shown_silent : (t : Bool) (name : List ℕ) → ends_in_t t (shown name) ≡ false
unfolding ends_in_t
shown_silent true [] = refl
shown_silent false [] = refl
shown_silent true (b ∷ bs) = rw (no_feed b) (shown_silent (shown_byte b == 84) bs)
shown_silent false (b ∷ bs) = shown_silent (shown_byte b == 84) bs

-- its last byte may be a `T`, but a double quote comes next
quoted_quiet : (name : Option (List ℕ)) → Quiet (quoted name)
unfolding ends_in_t last_is_t
quoted_quiet None = (refl, refl)
quoted_quiet (Some name) =
    let inside : ends_in_t false (codes " \"" ++ shown name) ≡ false = ends_append false (codes " \"") (shown name) ∙ shown_silent false name in
    (ends_append false (codes " \"" ++ shown name) (codes "\"") ∙ rw inside (quote (last_is_t false (codes " \"" ++ shown name))), last_append false (codes " \"" ++ shown name) (codes "\""))
  where
    quote : (t : Bool) → ends_in_t t (codes "\"") ≡ false
    quote true = refl
    quote false = refl

pub file_quiet : (w : Which) (name : Option (List ℕ)) (sentence : List ℕ) → Quiet sentence → Quiet (file_reason w name sentence)
unfolding ends_in_t last_is_t
file_quiet w name sentence q =
    let file : Quiet (codes "c " ++ which_name w) = both (codes "c ") (which_name w) (refl, refl) (which_quiet w) in
    let named : Quiet (codes "c " ++ which_name w ++ quoted name) = both (codes "c " ++ which_name w) (quoted name) file (quoted_quiet name) in
    let begun : Quiet (codes "c " ++ which_name w ++ quoted name ++ codes ": ") = both (codes "c " ++ which_name w ++ quoted name) (codes ": ") named (refl, refl) in
    let said : Quiet (codes "c " ++ which_name w ++ quoted name ++ codes ": " ++ sentence) = both (codes "c " ++ which_name w ++ quoted name ++ codes ": ") sentence begun q in
    both (codes "c " ++ which_name w ++ quoted name ++ codes ": " ++ sentence) (codes ".\n") said (refl, refl)

words_quiet : (t : Topic) (f : Flaw) → Quiet (words_reason t f)
unfolding ends_in_t last_is_t
words_quiet t f =
    let flaw : Quiet (codes "c " ++ flaw_sentence f) = both (codes "c ") (flaw_sentence f) (refl, refl) (flaw_sentence_quiet f) in
    let begun : Quiet (codes "c " ++ flaw_sentence f ++ codes ".\nc usage: ") = both (codes "c " ++ flaw_sentence f) (codes ".\nc usage: ") flaw (refl, refl) in
    let said : Quiet (codes "c " ++ flaw_sentence f ++ codes ".\nc usage: " ++ synopsis t) = both (codes "c " ++ flaw_sentence f ++ codes ".\nc usage: ") (synopsis t) begun (synopsis_quiet t) in
    both (codes "c " ++ flaw_sentence f ++ codes ".\nc usage: " ++ synopsis t) (codes "\n") said (refl, refl)

pub usage_reason_quiet : (command : Command) → Quiet (usage_reason command)
unfolding ends_in_t last_is_t
usage_reason_quiet (Refused t f) = words_quiet t f
usage_reason_quiet Check = (refl, refl)
usage_reason_quiet Trim = (refl, refl)
usage_reason_quiet (Demo holes stats) = (refl, refl)
usage_reason_quiet Help = (refl, refl)

-- whether each line is quiet
unfoldable are_quiet : List (List ℕ) → Bool
are_quiet [] = true
are_quiet (l ∷ ls) = not (ends_in_t false l || last_is_t false l) && are_quiet ls

lines_quiet : (ls : List (List ℕ)) → are_quiet ls ≡ true → Quiet (text_lines ls)
unfolding ends_in_t last_is_t text_lines are_quiet
lines_quiet [] e = (refl, refl)
lines_quiet (l ∷ ls) e =
    let parts = each (ends_in_t false l) (last_is_t false l) (are_quiet ls) e in
    both l (10 ∷ text_lines ls) (parts.0, parts.1) (lines_quiet ls parts.2)
  where
    each : (a b c : Bool) → (not (a || b) && c) ≡ true → (a ≡ false) × (b ≡ false) × (c ≡ true)
    each true b c h = cc
    each false true c h = cc
    each false false c h = (refl, refl, h)

pub help_quiet : (t : Topic) → Quiet (help_text t)
unfolding ends_in_t last_is_t are_quiet help_text help_lines synopsis
help_quiet topic.General = lines_quiet (help_lines topic.General) refl
help_quiet topic.Check = lines_quiet (help_lines topic.Check) refl
help_quiet topic.Trim = lines_quiet (help_lines topic.Trim) refl
help_quiet topic.Demo = lines_quiet (help_lines topic.Demo) refl
help_quiet topic.Version = lines_quiet (help_lines topic.Version) refl
