-- When the words of a command are taken.
use Rattle.std.proofs.Common.{◌≡◌, ◌≢◌, ◌∙◌, ◌&&◌, inl, inr, refl, Bool, true, false, List, [], ◌∷◌, None, Err, ap, sym, subst, map}
use Rattle.clap.specs.Words.{App, Row, Text, Kinds, HasKind, IsAmong, kind_of, is_simple, is_simple_and_free, fault_of, matches_of}
use Rattle.clap.specs.declared.error.Error.{Error}
use Rattle.clap.specs.declared.error.kind.ErrorKind.{ErrorKind}
use Rattle.clap.specs.declared.error.kind.ErrorKind.TheVariants as kind
use Rattle.clap.specs.declared.error.kind.ErrorKind.TheVariants.{OutOfMemory}
use Rattle.clap.proofs.OnLiterals.{clap_on_literals}
use Rattle.sr_cli.specs.Commands.{check_app, trim_app, demo_app}
use Rattle.clap.specs.Simple.{built}
use Rattle.clap.specs.Faults.{is_free_app}
use Rattle.sr_emit.specs.Flaws.{kind_of_flaw}
use Rattle.sr_emit.specs.declared.topic.Topic.TheVariants as topic
use Rattle.sr_emit.specs.declared.topic.Flaw.{Flaw}
use Rattle.sr_emit.specs.declared.topic.Flaw.TheVariants as flaw
use Rattle.sr_emit.specs.declared.outcome.UsageKind.TheVariants as usage
use Rattle.sr_cli.specs.declared.words.WordsError.{WordsError}
use Rattle.sr_cli.specs.declared.words.WordsError.TheVariants.{Refused, NoMemory}
use Rattle.sr_cli.specs.Words.{said_by, said_where, check_said, check_flaws, trim_by, trim_where, trim_words, trim_flaws, demo_by, demo_where, demo_words, demo_flaws, check_asked, trim_asked, demo_asked, asks_help, flaw_of, flaws_of, IsOneOf, Matches, Says, SaysTrim, SaysDemo, SaysTask}

pub is_simple-check : is_simple_and_free check_app ≡ true
unfolding clap_on_literals
is_simple-check = refl

-- the flaw of a kind of error is one of the flaws
among_flaws : (kinds : Kinds) (k : ErrorKind) → IsAmong k kinds → IsOneOf (flaw_of k) (map flaw_of kinds)
among_flaws [] k h = absurd h
among_flaws (x ∷ kinds) k (inl e) = inl (ap flaw_of e)
among_flaws (x ∷ kinds) k (inr h) = inr (among_flaws kinds k h)

pub has_flaw : (kinds : Kinds) (e : Error) → HasKind kinds e → (kind_of e ≡ OutOfMemory → ⊥) → IsOneOf (flaw_of (kind_of e)) (map flaw_of kinds)
has_flaw kinds e (inl m) ne = absurd (ne m)
has_flaw kinds e (inr h) ne = among_flaws kinds (kind_of e) h

-- where the parser finds a flaw
pub is_fault : (kinds : Kinds) (f : Flaw) → IsOneOf f (map flaw_of kinds) → kinds ≢ []
is_fault [] f h = absurd h
is_fault (k ∷ ks) f h = λ bad. cc

pub found_flaw : (left : Flaw) (kinds : Kinds) (f : Flaw) → IsOneOf f (map flaw_of kinds) → IsOneOf f (flaws_of left kinds)
found_flaw left [] f h = absurd h
found_flaw left (k ∷ ks) f h = h

-- and where it finds none
pub left_flaw : (left : Flaw) (kinds : Kinds) → kinds ≡ [] → IsOneOf left (flaws_of left kinds)
left_flaw left [] e = inl refl
left_flaw left (k ∷ ks) e = absurd cc

-- each is named `words` in the last line
flaw_words : (k : ErrorKind) → kind_of_flaw (flaw_of k) ≡ usage.Words
flaw_words kind.InvalidValue = refl
flaw_words kind.UnknownArgument = refl
flaw_words kind.InvalidSubcommand = refl
flaw_words kind.NoEquals = refl
flaw_words kind.ValueValidation = refl
flaw_words kind.TooManyValues = refl
flaw_words kind.TooFewValues = refl
flaw_words kind.WrongNumberOfValues = refl
flaw_words kind.ArgumentConflict = refl
flaw_words kind.MissingRequiredArgument = refl
flaw_words kind.MissingSubcommand = refl
flaw_words kind.DisplayHelp = refl
flaw_words kind.DisplayHelpOnMissingArgumentOrSubcommand = refl
flaw_words kind.DisplayVersion = refl
flaw_words kind.Io = refl
flaw_words kind.Format = refl
flaw_words kind.OutOfMemory = refl

all_words : (kinds : Kinds) (f : Flaw) → IsOneOf f (map flaw_of kinds) → kind_of_flaw f ≡ usage.Words
all_words [] f h = absurd h
all_words (k ∷ ks) f (inl e) = ap kind_of_flaw e ∙ flaw_words k
all_words (k ∷ ks) f (inr h) = all_words ks f h

pub flaws_words : (left : Flaw) (kinds : Kinds) (f : Flaw) → kind_of_flaw left ≡ usage.Words → IsOneOf f (flaws_of left kinds) → kind_of_flaw f ≡ usage.Words
flaws_words left [] f own (inl e) = ap kind_of_flaw e ∙ own
flaws_words left [] f own (inr h) = absurd h
flaws_words left (k ∷ ks) f own h = all_words (k ∷ ks) f h

pub said_where-none : (kinds : Kinds) (rows : List Row) → kinds ≢ [] → said_where kinds rows ≡ None
said_where-none [] rows ne = absurd (ne refl)
said_where-none (k ∷ ks) rows ne = refl

pub is_simple-and : (a : App) → is_simple_and_free a ≡ true → is_simple a ≡ true
is_simple-and a h = and_left (is_simple a) (is_free_app (built a)) h
  where
    and_left : (x y : Bool) → (x && y) ≡ true → x ≡ true
    and_left true y h = refl
    and_left false y h = h

said_where-some : (kinds : Kinds) (rows : List Row) → kinds ≡ [] → said_where kinds rows ≡ said_by rows
said_where-some [] rows e = refl
said_where-some (k ∷ ks) rows e = cc

-- words that are taken say what the matches say
pub said_taken : (a : App) (words : List Text) (rows : List Row) → a ≡ check_app → fault_of a words ≡ [] → rows ≡ matches_of a words
    → check_said words ≡ said_by rows
said_taken a words rows e f m =
    said_where-some (fault_of check_app words) (matches_of check_app words) (ap (λ (x : App). fault_of x words) (sym e) ∙ f)
    ∙ ap said_by (ap (λ (x : App). matches_of x words) (sym e) ∙ sym m)

pub said_refused : (a : App) (words : List Text) (stop : WordsError) → a ≡ check_app
    → Matches topic.Check (fault_of a words) (matches_of a words) (Err stop) → Says (check_flaws words) (check_said words) (Err stop)
said_refused a words (Refused t f) e m =
    let same : fault_of a words ≡ fault_of check_app words = ap (λ (x : App). fault_of x words) e in
    let one : IsOneOf f (map flaw_of (fault_of check_app words)) = subst (λ (k : Kinds). IsOneOf f (map flaw_of k)) same m.1 in
    (said_where-none (fault_of check_app words) (matches_of check_app words) (is_fault (fault_of check_app words) f one), m.0, found_flaw flaw.BadForm (fault_of check_app words) f one)
said_refused a words NoMemory e m = tt

-- a form or a number that the parser leaves
pub said_left : (a : App) (words : List Text) → a ≡ check_app → fault_of a words ≡ [] → IsOneOf flaw.BadForm (check_flaws words)
said_left a words e f = left_flaw flaw.BadForm (fault_of check_app words) (ap (λ (x : App). fault_of x words) (sym e) ∙ f)

pub is_simple-trim : is_simple_and_free trim_app ≡ true
unfolding clap_on_literals
is_simple-trim = refl

-- the same of the words of `trim`
trim_where-none : (kinds : Kinds) (rows : List Row) → kinds ≢ [] → trim_where kinds rows ≡ None
trim_where-none [] rows ne = absurd (ne refl)
trim_where-none (k ∷ ks) rows ne = refl

trim_where-some : (kinds : Kinds) (rows : List Row) → kinds ≡ [] → trim_where kinds rows ≡ trim_by rows
trim_where-some [] rows e = refl
trim_where-some (k ∷ ks) rows e = cc

pub trim_taken : (a : App) (words : List Text) (rows : List Row) → a ≡ trim_app → fault_of a words ≡ [] → rows ≡ matches_of a words
    → trim_words words ≡ trim_by rows
trim_taken a words rows e f m =
    trim_where-some (fault_of trim_app words) (matches_of trim_app words) (ap (λ (x : App). fault_of x words) (sym e) ∙ f)
    ∙ ap trim_by (ap (λ (x : App). matches_of x words) (sym e) ∙ sym m)

pub trim_refused : (a : App) (words : List Text) (stop : WordsError) → a ≡ trim_app
    → Matches topic.Trim (fault_of a words) (matches_of a words) (Err stop) → SaysTrim (trim_flaws words) (trim_words words) (Err stop)
trim_refused a words (Refused t f) e m =
    let same : fault_of a words ≡ fault_of trim_app words = ap (λ (x : App). fault_of x words) e in
    let one : IsOneOf f (map flaw_of (fault_of trim_app words)) = subst (λ (k : Kinds). IsOneOf f (map flaw_of k)) same m.1 in
    (trim_where-none (fault_of trim_app words) (matches_of trim_app words) (is_fault (fault_of trim_app words) f one), m.0, found_flaw flaw.BadForm (fault_of trim_app words) f one)
trim_refused a words NoMemory e m = tt

-- a form or a number that the parser leaves
pub trim_left : (a : App) (words : List Text) → a ≡ trim_app → fault_of a words ≡ [] → IsOneOf flaw.BadForm (trim_flaws words)
trim_left a words e f = left_flaw flaw.BadForm (fault_of trim_app words) (ap (λ (x : App). fault_of x words) (sym e) ∙ f)

pub is_simple-demo : is_simple_and_free demo_app ≡ true
unfolding clap_on_literals
is_simple-demo = refl

-- the same of the words of `demo`
demo_where-none : (kinds : Kinds) (rows : List Row) → kinds ≢ [] → demo_where kinds rows ≡ None
demo_where-none [] rows ne = absurd (ne refl)
demo_where-none (k ∷ ks) rows ne = refl

demo_where-some : (kinds : Kinds) (rows : List Row) → kinds ≡ [] → demo_where kinds rows ≡ demo_by rows
demo_where-some [] rows e = refl
demo_where-some (k ∷ ks) rows e = cc

pub demo_taken : (a : App) (words : List Text) (rows : List Row) → a ≡ demo_app → fault_of a words ≡ [] → rows ≡ matches_of a words
    → demo_words words ≡ demo_by rows
demo_taken a words rows e f m =
    demo_where-some (fault_of demo_app words) (matches_of demo_app words) (ap (λ (x : App). fault_of x words) (sym e) ∙ f)
    ∙ ap demo_by (ap (λ (x : App). matches_of x words) (sym e) ∙ sym m)

pub demo_refused : (a : App) (words : List Text) (stop : WordsError) → a ≡ demo_app
    → Matches topic.Demo (fault_of a words) (matches_of a words) (Err stop) → SaysDemo (demo_flaws words) (demo_words words) (Err stop)
demo_refused a words (Refused t f) e m =
    let same : fault_of a words ≡ fault_of demo_app words = ap (λ (x : App). fault_of x words) e in
    let one : IsOneOf f (map flaw_of (fault_of demo_app words)) = subst (λ (k : Kinds). IsOneOf f (map flaw_of k)) same m.1 in
    (demo_where-none (fault_of demo_app words) (matches_of demo_app words) (is_fault (fault_of demo_app words) f one), m.0, found_flaw flaw.BadHoles (fault_of demo_app words) f one)
demo_refused a words NoMemory e m = tt

-- a form or a number that the parser leaves
pub demo_left : (a : App) (words : List Text) → a ≡ demo_app → fault_of a words ≡ [] → IsOneOf flaw.BadHoles (demo_flaws words)
demo_left a words e f = left_flaw flaw.BadHoles (fault_of demo_app words) (ap (λ (x : App). fault_of x words) (sym e) ∙ f)

-- words that a command refuses
pub check_stops : (words : List Text) (stop : WordsError) → asks_help words ≡ false → Says (check_flaws words) (check_said words) (Err stop) → SaysTask (check_asked words) (Err stop)
check_stops words (Refused t f) off h = rw (off, h.0) (flaws_words flaw.BadForm (fault_of check_app words) f refl h.2, h.1, h.2)
check_stops words NoMemory off h = tt

-- the same of trim
pub trim_stops : (words : List Text) (stop : WordsError) → asks_help words ≡ false → SaysTrim (trim_flaws words) (trim_words words) (Err stop) → SaysTask (trim_asked words) (Err stop)
trim_stops words (Refused t f) off h = rw (off, h.0) (flaws_words flaw.BadForm (fault_of trim_app words) f refl h.2, h.1, h.2)
trim_stops words NoMemory off h = tt

-- the same of demo
pub demo_stops : (words : List Text) (stop : WordsError) → asks_help words ≡ false → SaysDemo (demo_flaws words) (demo_words words) (Err stop) → SaysTask (demo_asked words) (Err stop)
demo_stops words (Refused t f) off h = rw (off, h.0) (flaws_words flaw.BadHoles (fault_of demo_app words) f refl h.2, h.1, h.2)
demo_stops words NoMemory off h = tt
