-- Words that are answered without a file, and words that aren't read.
use Rattle.std.proofs.Common.{◌≡◌, ◌∙◌, inl, inr, sym, refl, subst, arith, None}
use Rattle.sr_base.specs.Limits.{LimitValues}
use Rattle.sr_desk.specs.Outside.{Outside}
use Rattle.sr_emit.specs.Flaws.{kind_of_flaw}
use Rattle.sr_emit.specs.Report.{report}
use Rattle.sr_emit.specs.declared.topic.Topic.{Topic}
use Rattle.sr_emit.specs.declared.topic.Flaw.{Flaw}
use Rattle.sr_emit.specs.declared.report.Command.{Command}
use Rattle.sr_emit.specs.declared.report.Command.TheVariants as command
use Rattle.sr_emit.specs.declared.outcome.Outcome.{Outcome}
use Rattle.sr_emit.specs.declared.outcome.Outcome.TheVariants as outcome
use Rattle.sr_files.specs.Files.{HasReadCause}
use Rattle.sr_cli.specs.Words.{Asked, only_reads, trims, demos, refused, helps, checks, AreRefused}
use Rattle.sr_cli.specs.Run.{Runs, IsSound, SaysSo, OnlyPrints, Reports, HasFilesCause, HasRunCause, IsCommandOf, no_names, StaysUnwritten}
use Rattle.sr_cli.specs.Touching.{GivesFiles, OnlyTouches}
use Rattle.sr_cli.proofs.Printing.{none, runs_out}
use Rattle.sr_cli.proofs.Refuted.{runs_sound, runs_say_so}
use Rattle.sr_cli.proofs.Trimmed.{trim_out, trim_says_so}
use Rattle.sr_cli.proofs.Demonstrated.{demo_out, demo_says_so}

-- memory runs out before a file is begun
pub words_out : (lim : LimitValues) (a : Asked) (o : Outside) → o.begun ≡ 0 → Runs lim a o o outcome.NoMemory
words_out lim (only_reads a) o zero = runs_out lim a o zero
words_out lim (trims s) o zero = trim_out lim s o zero
words_out lim (demos s) o zero = demo_out lim s o

pub words_out_say : (lim : LimitValues) (a : Asked) (o : Outside) → o.begun ≡ 0 → SaysSo lim a o o
words_out_say lim (only_reads a) o zero = runs_say_so lim a o o outcome.NoMemory (runs_out lim a o zero)
words_out_say lim (trims s) o zero = trim_says_so lim s o o outcome.NoMemory zero (trim_out lim s o zero)
words_out_say lim (demos s) o zero = demo_says_so lim s o o outcome.NoMemory zero (demo_out lim s o)

pub words_out_give : (a : Asked) (o : Outside) → o.begun ≡ 0 → GivesFiles a o o
words_out_give (only_reads (refused kind t flaws)) o zero = tt
words_out_give (only_reads (helps t)) o zero = tt
words_out_give (only_reads (checks s)) o zero = (λ le. absurd (omega (arith, le, zero)), λ le. absurd (omega (arith, le, zero)))
words_out_give (trims s) o zero = λ le. absurd (omega (arith, le, zero))
words_out_give (demos s) o zero = tt

pub words_out_touch : (a : Asked) (o : Outside) → o.begun ≡ 0 → OnlyTouches a o o
words_out_touch (only_reads (refused kind t flaws)) o zero = record { begun = omega (arith, zero); named = tt; file = refl; unread = λ k le ne. refl; writes = λ k lt. refl }
words_out_touch (only_reads (helps t)) o zero = record { begun = omega (arith, zero); named = tt; file = refl; unread = λ k le ne. refl; writes = λ k lt. refl }
words_out_touch (only_reads (checks s)) o zero = record {
  begun = omega (arith, zero);
  named = (λ le. absurd (omega (arith, le, zero)), λ le. absurd (omega (arith, le, zero)));
  file = refl;
  unread = λ k le ne. refl;
  writes = λ k lt. refl;
}
words_out_touch (trims s) o zero = record { begun = omega (arith, zero); slots = λ k lt. absurd (omega (arith, lt, zero)); file = λ other apart. refl; unread = λ k le ne. refl }
words_out_touch (demos s) o zero = record { begun = omega (arith, zero); slots = λ k lt. absurd (omega (arith, lt, zero)); file = λ other apart. refl; unread = λ k le ne. refl }

-- such words are answered so, without a file
abbrev pub IsTold : Command → Outcome → Asked → Type 0
IsTold c o (only_reads (refused kind t flaws)) = (o ≡ outcome.Usage kind) × IsCommandOf (refused kind t flaws) c
IsTold c o (only_reads (helps t)) = (o ≡ outcome.Helped t) × (c ≡ command.Help)
IsTold c o a = ⊥

pub refused_told : (t : Topic) (f : Flaw) (a : Asked) → AreRefused t f a → IsTold (command.Refused t f) (outcome.Usage (kind_of_flaw f)) a
refused_told t f (only_reads (refused kind about flaws)) h = (rw h.0 refl, (f, (rw h.1 refl, h.2)))
refused_told t f (only_reads (helps about)) h = absurd h
refused_told t f (only_reads (checks s)) h = absurd h
refused_told t f (trims s) h = absurd h
refused_told t f (demos s) h = absurd h

pub help_told : (t : Topic) (a : Asked) → a ≡ only_reads (helps t) → IsTold command.Help (outcome.Helped t) a
help_told t a is = subst (λ x. IsTold command.Help (outcome.Helped t) x) (sym is) (refl, refl)

module _ (lim : LimitValues) (c : Command) (found answered : Outcome) (old new : Outside) (zero : old.begun ≡ 0) (only : OnlyPrints old new)
    (r : Reports (report c no_names None found) old new found answered) where
  pub told_runs : (a : Asked) → IsTold c found a → Runs lim a old new answered
  told_runs (only_reads (refused kind t flaws)) h = record {
    found = found;
    counts = none;
    finds = inr (λ formula proof f p. (h.0, subst (λ n. n ≡ 0) (sym only.begun) zero));
    named = tt;
    cause = subst (λ (x : Outcome). HasReadCause old new x) (sym h.0) tt;
    given = c;
    is_given = inr h.1;
    reports = r;
    quiet = λ e. let bad : outcome.Usage kind ≡ outcome.NoMemory = sym h.0 ∙ e in absurd cc;
  }
  told_runs (only_reads (helps t)) h = record {
    found = found;
    counts = none;
    finds = inr (λ formula proof f p. (h.0, subst (λ n. n ≡ 0) (sym only.begun) zero));
    named = tt;
    cause = subst (λ (x : Outcome). HasReadCause old new x) (sym h.0) tt;
    given = c;
    is_given = inr h.1;
    reports = r;
    quiet = λ e. let bad : outcome.Helped t ≡ outcome.NoMemory = sym h.0 ∙ e in absurd cc;
  }
  told_runs (only_reads (checks s)) h = absurd h
  told_runs (trims s) h = absurd h
  told_runs (demos s) h = absurd h

  pub told_sound : (a : Asked) → IsTold c found a → IsSound lim a new answered
  told_sound (only_reads a) h = runs_sound lim a old new answered (told_runs (only_reads a) h)
  told_sound (trims s) h = absurd h
  told_sound (demos s) h = absurd h

  pub told_printed : (a : Asked) → IsTold c found a → SaysSo lim a old new
  told_printed (only_reads a) h = runs_say_so lim a old new answered (told_runs (only_reads a) h)
  told_printed (trims s) h = absurd h
  told_printed (demos s) h = absurd h

  found_cause : (a : Asked) → IsTold c found a → HasFilesCause old new found
  found_cause (only_reads (refused kind t flaws)) h = subst (λ (x : Outcome). HasFilesCause old new x) (sym h.0) tt
  found_cause (only_reads (helps t)) h = subst (λ (x : Outcome). HasFilesCause old new x) (sym h.0) tt
  found_cause (only_reads (checks s)) h = absurd h
  found_cause (trims s) h = absurd h
  found_cause (demos s) h = absurd h

  files_cause : (a : Asked) → IsTold c found a → HasFilesCause old new answered
  files_cause a h = elim r [
    | inl e ↦ subst (λ (x : Outcome). HasFilesCause old new x) (sym e.0) tt
    | inr (inl e) ↦ subst (λ (x : Outcome). HasFilesCause old new x) (sym e.0) (found_cause a h)
    | inr (inr e) ↦ subst (λ (x : Outcome). HasFilesCause old new x) (sym e.0) e.1.rose
  ]

  pub told_cause : (a : Asked) → IsTold c found a → HasRunCause a old new answered
  told_cause (only_reads a) h = files_cause (only_reads a) h
  told_cause (trims s) h = absurd h
  told_cause (demos s) h = absurd h

  pub told_files : (a : Asked) → IsTold c found a → GivesFiles a old new
  told_files (only_reads (refused kind t flaws)) h = tt
  told_files (only_reads (helps t)) h = tt
  told_files (only_reads (checks s)) h = absurd h
  told_files (trims s) h = absurd h
  told_files (demos s) h = absurd h

  pub told_touches : (a : Asked) → IsTold c found a → OnlyTouches a old new
  told_touches (only_reads (refused kind t flaws)) h = record {
    begun = omega (arith, only.begun, zero);
    named = tt;
    file = only.file;
    unread = λ k le ne. only.elsewhere k ne;
    writes = λ k lt. rw (only.elsewhere k (λ e. omega (arith, e, lt))) refl;
  }
  told_touches (only_reads (helps t)) h = record {
    begun = omega (arith, only.begun, zero);
    named = tt;
    file = only.file;
    unread = λ k le ne. only.elsewhere k ne;
    writes = λ k lt. rw (only.elsewhere k (λ e. omega (arith, e, lt))) refl;
  }
  told_touches (only_reads (checks s)) h = absurd h
  told_touches (trims s) h = absurd h
  told_touches (demos s) h = absurd h

  pub told_memory : (a : Asked) → IsTold c found a → StaysUnwritten a old new answered
  told_memory (only_reads a) h = λ e. record { file = only.file; writes = λ k lt. rw (only.elsewhere k (λ x. omega (arith, x, lt))) refl }
  told_memory (trims s) h = absurd h
  told_memory (demos s) h = absurd h

-- words that ask for this
pub says_for : (lim : LimitValues) (a b : Asked) (old new : Outside) → a ≡ b → SaysSo lim b old new → SaysSo lim a old new
says_for lim a b old new is h = subst (λ x. SaysSo lim x old new) (sym is) h
