-- Two texts that are read as files, and what each slot stands for.
use Rattle.std.specs.Prelude.{ℕ, ◌≤◌, ◌<◌, ◌≡◌, ◌≢◌, Bool, true, false, List, [], length, take, drop, Option, Some, None, if◌then◌else◌, slice_index_or, codes}
use Rattle.std.specs.Str.{bytes_eq}
use Rattle.sr_base.specs.Contents.{ended}
use Rattle.sr_desk.specs.Outside.{Outside, SlotState, Rose}
use Rattle.sr_sure.specs.declared.standing.Usage.{Usage}
use Rattle.sr_sure.specs.declared.standing.Usage.TheVariants.{Unused, Formula, Proof, Nothing, Writing}
use Rattle.sr_sure.specs.declared.standing.Standing.{Standing}

-- what a file of this name is read for
abbrev pub usage_of : List ℕ → Usage
usage_of name = if bytes_eq name (codes "formula") then Formula else (if bytes_eq name (codes "proof") then Proof else Nothing)

abbrev pub text_by : List ℕ → List ℕ → Usage → List ℕ
text_by formula proof Formula = formula
text_by formula proof Proof = proof
text_by formula proof _ = []

-- the two files are known, and no others
abbrev pub file_by : List ℕ → List ℕ → Usage → Option (List ℕ)
file_by formula proof Formula = Some formula
file_by formula proof Proof = Some proof
file_by formula proof _ = None

abbrev pub reads_by : Usage → Bool
reads_by Unused = false
reads_by Writing = false
reads_by _ = true

abbrev pub writes_by : Usage → Bool
writes_by Writing = true
writes_by _ = false

-- a slot by where it stands: no read of it failed, and nothing is written
abbrev pub state_by : Option (List ℕ) → Option (List ℕ) → List ℕ → List ℕ → Standing → SlotState
state_by reads_from writes_to formula proof s = record {
  reads_from = reads_from;
  writes_to = writes_to;
  given = take s.place (text_by formula proof s.usage);
  ending = if s.ended then Some ended else None;
  left = if reads_by s.usage then Some (drop s.place (text_by formula proof s.usage)) else None;
  sent = [];
  written = None;
  reads = reads_by s.usage;
  writes = writes_by s.usage;
  finished = false;
  faults = s.faults;
}

abbrev pub unused : Standing
unused = record { usage = Unused; place = 0; ended = false; faults = 0 }

abbrev pub standing_at : List Standing → ℕ → Standing
standing_at slots n = slice_index_or slots n unused

abbrev pub name_at : List (Option (List ℕ)) → ℕ → Option (List ℕ)
name_at names n = slice_index_or names n None

abbrev pub sure_outside : List ℕ → List ℕ → ℕ → List (Option (List ℕ)) → List (Option (List ℕ)) → List Standing → Outside
sure_outside formula proof begun reads_from writes_to slots = record {
  begun = begun;
  slot = λ n. state_by (name_at reads_from n) (name_at writes_to n) formula proof (standing_at slots n);
  file = λ name. file_by formula proof (usage_of name);
}

-- the places are within the texts
abbrev pub AllFit : List ℕ → List ℕ → List Standing → Type 0
AllFit formula proof slots = (n : ℕ) → (standing_at slots n).place ≤ length (text_by formula proof (standing_at slots n).usage)

-- slots that were not begun are unused
abbrev pub AllUnused : ℕ → List Standing → Type 0
AllUnused begun slots = (n : ℕ) → begun ≤ n → n < 8 → standing_at slots n ≡ unused

-- only calls that write fail
abbrev pub AllSure : List Standing → Type 0
AllSure slots = (n : ℕ) → n < 8 → writes_by (standing_at slots n).usage ≡ false → (standing_at slots n).faults ≡ 0

-- the count of one slot rose, and all else is as it was
pub record RaisesFaults (n : ℕ) (old new : List Standing) : Type 0 where
  pub elsewhere : (k : ℕ) → k ≢ n → standing_at new k ≡ standing_at old k
  pub same : standing_at new n ≡ record (standing_at old n) { faults = (standing_at new n).faults }
  pub rose : Rose (standing_at old n).faults (standing_at new n).faults
  pub later : (standing_at old n).faults ≤ (standing_at new n).faults
