-- What the words of a command line ask for.
use Rattle.std.specs.Prelude.{ℕ, ◌≡◌, ◌⊎◌, ◌≤◌, ◌||◌, ◌&&◌, nat_le, map, option_map, Bool, false, List, [], ◌∷◌, Option, Some, None, Result, Ok, Err, codes, if◌then◌else◌}
use Rattle.std.specs.List.{list_all, list_any}
use Rattle.std.specs.Str.{bytes_eq}
use Rattle.clap.specs.Words.{Row, Text, first_of, matches_of, fault_of, Kinds, rows_of, found_of}
use Rattle.clap.specs.declared.error.kind.ErrorKind.{ErrorKind}
use Rattle.clap.specs.declared.error.kind.ErrorKind.TheVariants as kind
use Rattle.clap.specs.declared.parser.matches.ArgMatches.{ArgMatches}
use Rattle.sr_base.specs.declared.names.Form.{Form}
use Rattle.sr_base.specs.declared.names.Form.TheVariants as form
use Rattle.sr_model.specs.Words.{is_digit, value_after}
use Rattle.sr_holes.specs.declared.literals.TheConstants.{MOST_HOLES}
use Rattle.sr_emit.specs.declared.outcome.UsageKind.{UsageKind}
use Rattle.sr_emit.specs.declared.outcome.UsageKind.TheVariants as usage
use Rattle.sr_emit.specs.Flaws.{kind_of_flaw}
use Rattle.sr_emit.specs.declared.topic.Topic.{Topic}
use Rattle.sr_emit.specs.declared.topic.Topic.TheVariants as topic
use Rattle.sr_emit.specs.declared.topic.Flaw.{Flaw}
use Rattle.sr_emit.specs.declared.topic.Flaw.TheVariants as flaw
use Rattle.sr_trim.specs.Said.{TrimSaid, trim_said}
use Rattle.sr_trim.specs.declared.words.TrimWords.{TrimWords}
use Rattle.sr_cli.specs.Commands.{check_app, trim_app, demo_app}
use Rattle.sr_cli.specs.Demo.{DemoSaid}
use Rattle.sr_cli.specs.declared.words.CheckWords.{CheckWords}
use Rattle.sr_cli.specs.declared.words.DemoWords.{DemoWords}
use Rattle.sr_cli.specs.declared.words.Task.{Task}
use Rattle.sr_cli.specs.declared.words.Task.TheVariants as task
use Rattle.sr_cli.specs.declared.words.WordsError.{WordsError}
use Rattle.sr_cli.specs.declared.words.WordsError.TheVariants.{Refused, NoMemory}

-- a form, or text where none is named
abbrev pub form_of : Option Text → Option Form
form_of None = Some form.Text
form_of (Some name) =
    if bytes_eq name (codes "text") then Some form.Text else (if bytes_eq name (codes "binary") then Some form.Binary else None)

abbrev pub is_on : Option Text → Bool
is_on None = false
is_on (Some t) = bytes_eq t (codes "true")

-- what the words of `check` say
pub record Said : Type 0 where
  pub formula : Text
  pub proof : Text
  pub proof_form : Form
  pub strict : Bool
  pub stats : Bool

abbrev pub said_in : Option Text → Option Text → Option Form → Bool → Bool → Option Said
said_in (Some formula) (Some proof) (Some proof_form) strict stats =
    Some (record { formula = formula; proof = proof; proof_form = proof_form; strict = strict; stats = stats })
said_in formula proof proof_form strict stats = None

abbrev pub said_by : List Row → Option Said
said_by rows = said_in (first_of (codes "FORMULA") rows) (first_of (codes "PROOF") rows)
    (form_of (first_of (codes "proof-form") rows)) (is_on (first_of (codes "strict") rows)) (is_on (first_of (codes "stats") rows))

-- what taken words say; none where the command doesn't take them
abbrev pub said_where : Kinds → List Row → Option Said
said_where [] rows = said_by rows
said_where (k ∷ ks) rows = None

abbrev pub check_said : List Text → Option Said
check_said words = said_where (fault_of check_app words) (matches_of check_app words)

-- what a run that writes no file is asked for; or why its words are refused, whose usage is then shown, and what is wrong, of
-- which one flaw is named
pub data ReadOnly : Type 0 where
  refused : UsageKind → Topic → List Flaw → ReadOnly
  helps : Topic → ReadOnly
  checks : Said → ReadOnly

-- what a run is asked for
pub data Asked : Type 0 where
  only_reads : ReadOnly → Asked
  trims : TrimSaid → Asked
  demos : DemoSaid → Asked

-- what is wrong with words that the parser refuses
abbrev pub flaw_of : ErrorKind → Flaw
flaw_of kind.MissingRequiredArgument = flaw.MissingWord
flaw_of kind.ArgumentConflict = flaw.Repeated
flaw_of kind.InvalidValue = flaw.MissingValue
flaw_of kind.TooFewValues = flaw.MissingValue
flaw_of kind.WrongNumberOfValues = flaw.MissingValue
flaw_of kind.NoEquals = flaw.MissingValue
flaw_of kind.TooManyValues = flaw.SpareValue
flaw_of other = flaw.UnknownWord

-- the flaws that the parser finds, or the one that is left where it finds none
abbrev pub flaws_of : Flaw → Kinds → List Flaw
flaws_of left [] = left ∷ []
flaws_of left (k ∷ ks) = map flaw_of (k ∷ ks)

abbrev pub check_flaws : List Text → List Flaw
check_flaws words = flaws_of flaw.BadForm (fault_of check_app words)

-- a request for help
abbrev pub is_help : Text → Bool
is_help word = bytes_eq word (codes "--help") || bytes_eq word (codes "-h")

abbrev pub asks_help : List Text → Bool
asks_help words = list_any is_help words

-- files with one name are refused
abbrev pub checks_apart : Said → ReadOnly
checks_apart s = if bytes_eq s.formula s.proof then refused usage.SameName topic.Check (flaw.SameName ∷ []) else checks s

abbrev pub check_by_words : List Flaw → Option Said → Asked
check_by_words flaws None = only_reads (refused usage.Words topic.Check flaws)
check_by_words flaws (Some s) = only_reads (checks_apart s)

abbrev pub check_asked : List Text → Asked
check_asked words = if asks_help words then only_reads (helps topic.Check) else check_by_words (check_flaws words) (check_said words)

-- what the words of `trim` say
abbrev pub trim_in : Option Text → Option Text → Option Form → Option Text → Option Form → Option Text → Bool → Bool → Option TrimSaid
trim_in (Some formula) (Some proof) (Some proof_form) lsr (Some lsr_form) core keep stats = Some (record {
  formula = formula;
  proof = proof;
  proof_form = proof_form;
  lsr = lsr;
  lsr_form = lsr_form;
  core = core;
  keep = keep;
  stats = stats;
})
trim_in formula proof proof_form lsr lsr_form core keep stats = None

abbrev pub trim_by : List Row → Option TrimSaid
trim_by rows = trim_in (first_of (codes "FORMULA") rows) (first_of (codes "PROOF") rows) (form_of (first_of (codes "proof-form") rows))
    (first_of (codes "lsr") rows) (form_of (first_of (codes "lsr-form") rows)) (first_of (codes "core") rows)
    (is_on (first_of (codes "keep-units") rows)) (is_on (first_of (codes "stats") rows))

abbrev pub trim_where : Kinds → List Row → Option TrimSaid
trim_where [] rows = trim_by rows
trim_where (k ∷ ks) rows = None

abbrev pub trim_words : List Text → Option TrimSaid
trim_words words = trim_where (fault_of trim_app words) (matches_of trim_app words)

-- whether a file is named, and so
abbrev pub is_named : Option Text → Text → Bool
is_named None other = false
is_named (Some name) other = bytes_eq name other

abbrev pub core_is_named : TrimSaid → Bool
core_is_named s = elim s.lsr [ None ↦ false | Some lsr ↦ is_named s.core lsr ]

-- whether two of the files have one name
abbrev pub has_same_names : TrimSaid → Bool
has_same_names s = bytes_eq s.formula s.proof || is_named s.lsr s.formula || is_named s.lsr s.proof || is_named s.core s.formula || is_named s.core s.proof
    || core_is_named s

abbrev pub trim_flaws : List Text → List Flaw
trim_flaws words = flaws_of flaw.BadForm (fault_of trim_app words)

abbrev pub trims_apart : TrimSaid → Asked
trims_apart s = if has_same_names s then only_reads (refused usage.SameName topic.Trim (flaw.SameName ∷ [])) else trims s

abbrev pub trim_by_words : List Flaw → Option TrimSaid → Asked
trim_by_words flaws None = only_reads (refused usage.Words topic.Trim flaws)
trim_by_words flaws (Some s) = trims_apart s

abbrev pub trim_asked : List Text → Asked
trim_asked words = if asks_help words then only_reads (helps topic.Trim) else trim_by_words (trim_flaws words) (trim_words words)

-- a number of holes: digits alone, with a value for which the formula is made
abbrev pub holes_of : Text → Option ℕ
holes_of digits =
    if list_all is_digit digits && (nat_le 2 (value_after 0 digits) && nat_le (value_after 0 digits) MOST_HOLES) then Some (value_after 0 digits) else None

-- what the words of `demo` say
abbrev pub demo_in : Option ℕ → Option Text → Option Text → Option Text → Option Text → Bool → Option DemoSaid
demo_in (Some holes) formula proof lsr core stats =
    Some (record { holes = holes; formula = formula; proof = proof; lsr = lsr; core = core; stats = stats })
demo_in None formula proof lsr core stats = None

abbrev pub holes_in : Option Text → Option ℕ
holes_in None = None
holes_in (Some digits) = holes_of digits

abbrev pub demo_by : List Row → Option DemoSaid
demo_by rows = demo_in (holes_in (first_of (codes "N") rows)) (first_of (codes "formula") rows) (first_of (codes "proof") rows)
    (first_of (codes "lsr") rows) (first_of (codes "core") rows) (is_on (first_of (codes "stats") rows))

abbrev pub demo_where : Kinds → List Row → Option DemoSaid
demo_where [] rows = demo_by rows
demo_where (k ∷ ks) rows = None

abbrev pub demo_words : List Text → Option DemoSaid
demo_words words = demo_where (fault_of demo_app words) (matches_of demo_app words)

-- whether both files are named, and alike
abbrev pub share_name : Option Text → Option Text → Bool
share_name (Some name) (Some other) = bytes_eq name other
share_name name other = false

-- whether two of the files have one name
abbrev pub demo_shares : DemoSaid → Bool
demo_shares s = share_name s.formula s.proof || share_name s.formula s.lsr || share_name s.formula s.core || share_name s.proof s.lsr
    || share_name s.proof s.core || share_name s.lsr s.core

abbrev pub demo_flaws : List Text → List Flaw
demo_flaws words = flaws_of flaw.BadHoles (fault_of demo_app words)

abbrev pub demos_apart : DemoSaid → Asked
demos_apart s = if demo_shares s then only_reads (refused usage.SameName topic.Demo (flaw.SameName ∷ [])) else demos s

abbrev pub demo_by_words : List Flaw → Option DemoSaid → Asked
demo_by_words flaws None = only_reads (refused usage.Words topic.Demo flaws)
demo_by_words flaws (Some s) = demos_apart s

abbrev pub demo_asked : List Text → Asked
demo_asked words = if asks_help words then only_reads (helps topic.Demo) else demo_by_words (demo_flaws words) (demo_words words)

-- what `help` is asked about
abbrev pub topic_of : Text → Option Topic
topic_of name = if bytes_eq name (codes "check") then Some topic.Check
    else (if bytes_eq name (codes "trim") then Some topic.Trim
    else (if bytes_eq name (codes "demo") then Some topic.Demo
    else (if bytes_eq name (codes "help") then Some topic.General else None)))

abbrev pub help_on : Option Topic → ReadOnly
help_on None = refused usage.UnknownCommand topic.General (flaw.UnknownCommand ∷ [])
help_on (Some t) = helps t

abbrev pub help_asked : List Text → ReadOnly
help_asked [] = helps topic.General
help_asked (name ∷ []) = help_on (topic_of name)
help_asked (name ∷ w ∷ ws) = refused usage.Words topic.General (flaw.UnknownWord ∷ [])

abbrev pub is_version : Text → Bool
is_version word = bytes_eq word (codes "--version") || bytes_eq word (codes "-V")

-- the first word where it is no command that has files
abbrev pub first_asked : Text → List Text → ReadOnly
first_asked w ws = if bytes_eq w (codes "help") then help_asked ws
    else (if is_help w then helps topic.General
    else (if is_version w then helps topic.Version
    else refused usage.UnknownCommand topic.General (flaw.UnknownCommand ∷ [])))

-- the first word is the command
abbrev pub asked : List Text → Asked
asked [] = only_reads (refused usage.NoCommand topic.General (flaw.NoCommand ∷ []))
asked (w ∷ ws) = if bytes_eq w (codes "check") then check_asked ws
    else (if bytes_eq w (codes "trim") then trim_asked ws
    else (if bytes_eq w (codes "demo") then demo_asked ws else only_reads (first_asked w ws)))

-- what the words say, without where they lie in memory
abbrev pub said : CheckWords → Said
said w = record {
  formula = w.formula.now;
  proof = w.proof.now;
  proof_form = w.proof_form;
  strict = w.strict;
  stats = w.stats;
}

abbrev pub demo_said : DemoWords → DemoSaid
demo_said w = record {
  holes = w.holes;
  formula = option_map (λ s. s.now) w.formula;
  proof = option_map (λ s. s.now) w.proof;
  lsr = option_map (λ s. s.now) w.lsr;
  core = option_map (λ s. s.now) w.core;
  stats = w.stats;
}

-- the formula is made for so many holes
abbrev pub AreHoles : ℕ → Type 0
AreHoles n = (2 ≤ n) × (n ≤ MOST_HOLES)

abbrev pub IsOneOf : Flaw → List Flaw → Type 0
IsOneOf f [] = ⊥
IsOneOf f (x ∷ xs) = (f ≡ x) ⊎ IsOneOf f xs

-- memory ran out, or the words say this, or they have one of these flaws
abbrev pub Says : List Flaw → Option Said → Result CheckWords WordsError → Type 0
Says flaws these (Ok w) = these ≡ Some (said w)
Says flaws these (Err (Refused t f)) = (these ≡ None) × (t ≡ topic.Check) × IsOneOf f flaws
Says flaws these (Err NoMemory) = Unit {0}

abbrev pub SaysTrim : List Flaw → Option TrimSaid → Result TrimWords WordsError → Type 0
SaysTrim flaws these (Ok w) = these ≡ Some (trim_said w)
SaysTrim flaws these (Err (Refused t f)) = (these ≡ None) × (t ≡ topic.Trim) × IsOneOf f flaws
SaysTrim flaws these (Err NoMemory) = Unit {0}

abbrev pub SaysDemo : List Flaw → Option DemoSaid → Result DemoWords WordsError → Type 0
SaysDemo flaws these (Ok w) = (these ≡ Some (demo_said w)) × AreHoles w.holes
SaysDemo flaws these (Err (Refused t f)) = (these ≡ None) × (t ≡ topic.Demo) × IsOneOf f flaws
SaysDemo flaws these (Err NoMemory) = Unit {0}

-- the words are refused, with this topic and for this flaw
abbrev pub AreRefused : Topic → Flaw → Asked → Type 0
AreRefused t f (only_reads (refused kind about flaws)) = (kind_of_flaw f ≡ kind) × (t ≡ about) × IsOneOf f flaws
AreRefused t f these = ⊥

abbrev pub SaysTask : Asked → Result Task WordsError → Type 0
SaysTask these (Ok (task.Check w)) = these ≡ only_reads (checks (said w))
SaysTask these (Ok (task.Trim w)) = these ≡ trims (trim_said w)
SaysTask these (Ok (task.Demo w)) = (these ≡ demos (demo_said w)) × AreHoles w.holes
SaysTask these (Ok (task.Help t)) = these ≡ only_reads (helps t)
SaysTask these (Err (Refused t f)) = AreRefused t f these
SaysTask these (Err NoMemory) = Unit {0}

-- the matches have these rows and no fault, or the flaw is one of the faults'
abbrev pub Matches : Topic → Kinds → List Row → Result ArgMatches WordsError → Type 0
Matches about faults rows (Ok m) = (faults ≡ []) × (rows_of (found_of m) ≡ rows)
Matches about faults rows (Err (Refused t f)) = (t ≡ about) × IsOneOf f (map flaw_of faults)
Matches about faults rows (Err NoMemory) = Unit {0}
