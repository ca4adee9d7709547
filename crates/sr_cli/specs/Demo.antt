-- What `demo` is asked for, and what it does: it trims the proof by swaps of the pigeonhole formula, and writes the files that are
-- asked for.
use Rattle.std.specs.Prelude.{ℕ, ◌≡◌, ◌⊎◌, Bool, true, false, List, [], ◌∷◌, Option, Some, codes}
use Rattle.sr_base.specs.Limits.{LimitValues}
use Rattle.sr_base.specs.Contents.{whole}
use Rattle.sr_base.specs.declared.names.Form.TheVariants.{Text}
use Rattle.sr_base.specs.declared.names.Which.{Which}
use Rattle.sr_base.specs.declared.names.Which.TheVariants as which
use Rattle.sr_model.specs.Writing.{written_formula, written_lines}
use Rattle.sr_desk.specs.Outside.{Outside}
use Rattle.sr_holes.specs.Holes.{pigeonhole_formula, pigeonhole_proof}
use Rattle.sr_emit.specs.Status.{is_verified}
use Rattle.sr_emit.specs.declared.counts.Counts.{Counts}
use Rattle.sr_emit.specs.declared.outcome.Outcome.{Outcome}
use Rattle.sr_emit.specs.declared.outcome.Outcome.TheVariants as outcome
use Rattle.sr_emit.specs.declared.report.Command.TheVariants.{Demo}
use Rattle.sr_trim.specs.Said.{TrimSaid}
use Rattle.sr_trim.specs.Deciding.{Decision, stops, trims, IsDecided}
use Rattle.sr_trim.specs.Outputs.{WritesOne, Writes, asked_lsr, asked_core}
use Rattle.sr_trim.specs.Finding.{AreCounts}
use Rattle.sr_trim.specs.declared.reporting.Wanted.{Wanted}

-- what the words of `demo` say: the number of holes, the files that are to be written, and whether statistics are asked for
pub record DemoSaid : Type 0 where
  pub holes : ℕ
  pub formula : Option (List ℕ)
  pub proof : Option (List ℕ)
  pub lsr : Option (List ℕ)
  pub core : Option (List ℕ)
  pub stats : Bool

abbrev pub formula_text : ℕ → List ℕ
formula_text n = written_formula (pigeonhole_formula n)

abbrev pub proof_text : ℕ → List ℕ
proof_text n = written_lines Text (pigeonhole_proof n)

-- `trim` on two files with these texts
abbrev pub trim_of : DemoSaid → TrimSaid
trim_of s = record {
  formula = codes "formula";
  proof = codes "proof";
  proof_form = Text;
  lsr = s.lsr;
  lsr_form = Text;
  core = s.core;
  keep = false;
  stats = s.stats;
}

-- the report that is wanted where it is verified
abbrev pub demo_report : DemoSaid → Wanted
demo_report s = record { command = Demo s.holes s.stats; with_counts = true }

-- what the texts come to, whose files have no failed read
pub record IsDemo (lim : LimitValues) (s : DemoSaid) (d : Decision) : Type 0 where
  pub begun : ℕ
  pub decided : IsDecided lim (trim_of s) (whole (formula_text s.holes)) (whole (proof_text s.holes)) d begun

-- it is no fault of the outside
abbrev pub HasNoFault : Decision → Type 0
HasNoFault (stops (outcome.SourceFault w)) = ⊥
HasNoFault (stops (outcome.SinkFault w)) = ⊥
HasNoFault d = Unit {0}

-- a file that may be asked for
pub record Output : Type 0 where
  pub which : Which
  pub name : Option (List ℕ)
  pub bytes : Option (List ℕ)

-- those that are asked for are written one after another, up to the first on which a call fails
abbrev pub WritesEach : List Output → Outside → Outside → Outcome → Type 0
WritesEach [] old new o = (new ≡ old) × (o ≡ outcome.Verified)
WritesEach (f ∷ fs) old new o = ((mid : Outside) × (WritesOne f.which f.name f.bytes old mid outcome.Verified × WritesEach fs mid new o))
    ⊎ (WritesOne f.which f.name f.bytes old new o × (is_verified o ≡ false))

-- the texts that are made
abbrev pub made_outputs : DemoSaid → List Output
made_outputs s = record { which = which.Formula; name = s.formula; bytes = Some (formula_text s.holes) } ∷ record { which = which.Proof; name = s.proof; bytes = Some (proof_text s.holes) } ∷ []

-- the trimmed proof and the core, and then the formula and its proof
abbrev pub outputs : DemoSaid → Option (List ℕ) → Option (List ℕ) → List Output
outputs s lsr core = record { which = which.Lsr; name = s.lsr; bytes = lsr } ∷ record { which = which.Core; name = s.core; bytes = core } ∷ made_outputs s

-- nothing is written but where the steps are there
abbrev pub WritesDemo : DemoSaid → Decision → Outside → Outside → Outcome → Type 0
WritesDemo s (stops x) old new o = (new ≡ old) × (o ≡ x)
WritesDemo s (trims f ds steps) old new o = WritesEach (outputs s (asked_lsr (trim_of s) f steps) (asked_core (trim_of s) f steps)) old new o

-- what the texts come to was decided, and then written
pub record Demonstrates (lim : LimitValues) (s : DemoSaid) (old new : Outside) (o : Outcome) (k : Counts) : Type 0 where
  pub decision : Decision
  pub decided : IsDemo lim s decision
  pub sure : HasNoFault decision
  pub writes : WritesDemo s decision old new o
  pub counts : AreCounts decision k

-- or memory ran out, and nothing was begun
abbrev pub FindsDemo : LimitValues → DemoSaid → Outside → Outside → Outcome → Counts → Type 0
FindsDemo lim s old new o k = ((o ≡ outcome.NoMemory) × (new ≡ old)) ⊎ Demonstrates lim s old new o k

-- the same up to where the formula and its proof would be written
pub record TrimsTexts (lim : LimitValues) (s : DemoSaid) (old new : Outside) (o : Outcome) (k : Counts) : Type 0 where
  pub decision : Decision
  pub decided : IsDemo lim s decision
  pub sure : HasNoFault decision
  pub writes : Writes (trim_of s) decision old new o
  pub counts : AreCounts decision k

abbrev pub FindsTexts : LimitValues → DemoSaid → Outside → Outside → Outcome → Counts → Type 0
FindsTexts lim s old new o k = ((o ≡ outcome.NoMemory) × (new ≡ old)) ⊎ TrimsTexts lim s old new o k
