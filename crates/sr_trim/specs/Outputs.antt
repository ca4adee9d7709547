-- What `trim` writes, and what it answers then.
use Rattle.std.specs.Prelude.{ℕ, ◌≡◌, ◌⊎◌, false, Option, Some, List, option_map, Result, Ok, Err}
use Rattle.sr_base.specs.declared.names.Which.{Which}
use Rattle.sr_base.specs.declared.names.Which.TheVariants as which
use Rattle.sr_model.specs.Dimacs.{Formula}
use Rattle.sr_model.specs.Meeting.{Step}
use Rattle.sr_desk.specs.Outside.{Outside}
use Rattle.sr_files.specs.Written.{IsWritten, IsCutOff}
use Rattle.sr_emit.specs.declared.outcome.Outcome.{Outcome}
use Rattle.sr_emit.specs.declared.outcome.Outcome.TheVariants as outcome
use Rattle.sr_emit.specs.Status.{is_verified}
use Rattle.sr_trim.specs.Said.{TrimSaid}
use Rattle.sr_trim.specs.Trimming.{lsr_text, core_text}
use Rattle.sr_trim.specs.Deciding.{Decision, stops, trims}

-- a file was written whole under this name, or a call on it failed
abbrev pub WritesFile : {E : Type 0} → List ℕ → List ℕ → Outside → Outside → Result (Unit {0}) E → Type 0
WritesFile name bytes old new (Ok v) = IsWritten name bytes old new
WritesFile name bytes old new (Err e) = IsCutOff name bytes old new

-- a file, where it is asked for: it is written, or a call on it failed
abbrev pub WritesOne : Which → Option (List ℕ) → Option (List ℕ) → Outside → Outside → Outcome → Type 0
WritesOne which (Some name) (Some bytes) old new o = (IsWritten name bytes old new × (o ≡ outcome.Verified)) ⊎ (IsCutOff name bytes old new × (o ≡ outcome.SinkFault which))
WritesOne which name bytes old new o = (new ≡ old) × (o ≡ outcome.Verified)

-- the proof and then the core; after a fault of the proof's file the core's isn't begun
pub record WritesBoth (lsr lsr_bytes core core_bytes : Option (List ℕ)) (old new : Outside) (o : Outcome) : Type 0 where
  pub mid : Outside
  pub lsr_written : WritesOne which.Lsr lsr lsr_bytes old mid outcome.Verified
  pub core_written : WritesOne which.Core core core_bytes mid new o

abbrev pub WritesTwo : Option (List ℕ) → Option (List ℕ) → Option (List ℕ) → Option (List ℕ) → Outside → Outside → Outcome → Type 0
WritesTwo lsr lsr_bytes core core_bytes old new o = WritesBoth lsr lsr_bytes core core_bytes old new o
    ⊎ (WritesOne which.Lsr lsr lsr_bytes old new o × (is_verified o ≡ false))

-- the bytes of what is asked for
abbrev pub asked_lsr : TrimSaid → Formula → List Step → Option (List ℕ)
asked_lsr s f steps = option_map (λ name. lsr_text s.lsr_form f.clauses steps) s.lsr

abbrev pub asked_core : TrimSaid → Formula → List Step → Option (List ℕ)
asked_core s f steps = option_map (λ name. core_text f steps) s.core

-- nothing is written but where the steps are there
abbrev pub Writes : TrimSaid → Decision → Outside → Outside → Outcome → Type 0
Writes s (stops x) old new o = (new ≡ old) × (o ≡ x)
Writes s (trims f ds steps) old new o = WritesTwo s.lsr (asked_lsr s f steps) s.core (asked_core s f steps) old new o
