-- A desk in memory, by its parts: the versions of files, and what each slot is used for.
use Rattle.std.specs.Prelude.{ℕ, zero, suc, ◌≢◌, ◌==◌, ◌&&◌, nat_lt, nat_le, Bool, true, false, not, IsTrue, List, [], map, length, take, drop, Option, Some, None, option_map, if◌then◌else◌, slice_index_or, slice_set, ◌++◌, ◌≡◌, ◌≤◌, ◌<◌}
use Rattle.std.specs.Str.{bytes_eq}
use Rattle.sr_desk.specs.Outside.{Outside, SlotState, Rose}
use Rattle.sr_desk.specs.declared.held.Version.{Version}
use Rattle.sr_desk.specs.LastReads.{ending_of}
use Rattle.sr_desk.specs.declared.last_read.LastRead.{LastRead}
use Rattle.sr_desk.specs.declared.last_read.LastRead.TheVariants.{Fine}
use Rattle.sr_desk.specs.declared.held.Usage.{Usage}
use Rattle.sr_desk.specs.declared.held.Usage.TheVariants.{Unused, Reading, Writing, Output}

abbrev pub names_of : List Version → List (List ℕ)
names_of vs = map (λ (v : Version). v.name.items) vs

abbrev pub texts_of : List Version → List (List ℕ)
texts_of vs = map (λ (v : Version). v.bytes.items) vs

abbrev pub text_at : List (List ℕ) → ℕ → List ℕ
text_at texts v = slice_index_or texts v []

-- the last of the first k names that is this one
abbrev pub last_below : ℕ → List (List ℕ) → List ℕ → Option ℕ
last_below zero names name = None
last_below (suc k) names name = if bytes_eq (text_at names k) name then Some k else last_below k names name

-- the version that is the file of a name now: the one begun last
abbrev pub latest : List (List ℕ) → List ℕ → Option ℕ
latest names name = last_below (length names) names name

abbrev pub file_in : List (List ℕ) → List (List ℕ) → List ℕ → Option (List ℕ)
file_in names texts name = option_map (text_at texts) (latest names name)

-- a slot, by what it is used for
abbrev pub left_by : List (List ℕ) → Usage → Option (List ℕ)
left_by texts (Reading version place end) = Some (drop place (take end (text_at texts version)))
left_by texts _ = None

-- the bytes of it that were read
abbrev pub given_by : List (List ℕ) → Usage → List ℕ
given_by texts (Reading version place end) = take place (take end (text_at texts version))
given_by texts _ = []

-- the bytes that it wrote
abbrev pub sent_by : List (List ℕ) → List ℕ → Usage → List ℕ
sent_by texts out (Writing version) = text_at texts version
sent_by texts out Output = out
sent_by texts out _ = []

abbrev pub written_by : List (List ℕ) → List ℕ → Usage → Option (List ℕ)
written_by texts out (Writing version) = Some (text_at texts version)
written_by texts out Output = Some out
written_by texts out _ = None

abbrev pub reads_by : Usage → Bool
reads_by (Reading version place end) = true
reads_by _ = false

abbrev pub writes_by : Usage → Bool
writes_by (Writing version) = true
writes_by _ = false

abbrev pub is_version : Option ℕ → ℕ → Bool
is_version None v = false
is_version (Some w) v = w == v

-- what is written goes to the version that is the file of the name
abbrev pub writes_file_by : List (List ℕ) → Usage → List ℕ → Bool
writes_file_by names (Writing version) name = is_version (latest names name) version
writes_file_by names _ name = false

abbrev pub state_by : Option (List ℕ) → Option (List ℕ) → List (List ℕ) → List ℕ → Usage → LastRead → Bool → ℕ → SlotState
state_by reads_from writes_to texts out usage last finished faults = record {
  reads_from = reads_from;
  writes_to = writes_to;
  given = given_by texts usage;
  ending = ending_of last;
  left = left_by texts usage;
  sent = sent_by texts out usage;
  written = written_by texts out usage;
  reads = reads_by usage;
  writes = writes_by usage;
  finished = finished;
  faults = faults;
}

abbrev pub usage_at : List Usage → ℕ → Usage
usage_at uses n = slice_index_or uses n Unused

abbrev pub name_at : List (Option (List ℕ)) → ℕ → Option (List ℕ)
name_at names n = slice_index_or names n None

-- the names that slots were begun with, how the last calls for reading ended, which slots are finished, and the counts of faults
pub record Marks : Type 0 where
  pub reads_from : List (Option (List ℕ))
  pub writes_to : List (Option (List ℕ))
  pub last : List LastRead
  pub finished : List Bool
  pub faults : List ℕ

abbrev pub memory_outside : List (List ℕ) → List (List ℕ) → List ℕ → ℕ → List Usage → Marks → Outside
memory_outside names texts out begun uses m = record {
  begun = begun;
  slot = λ n. state_by (name_at m.reads_from n) (name_at m.writes_to n) texts out (usage_at uses n) (slice_index_or m.last n Fine)
      (slice_index_or m.finished n false) (slice_index_or m.faults n 0);
  file = file_in names texts;
}

-- what a slot is used for lies within the texts
abbrev pub fits : List (List ℕ) → Usage → Bool
fits texts (Reading version place end) = nat_lt version (length texts) && (nat_le place end && nat_le end (length (text_at texts version)))
fits texts (Writing version) = nat_lt version (length texts)
fits texts _ = true

-- two slots don't write to one text
abbrev pub apart : Usage → Usage → Bool
apart (Writing v) (Writing w) = not (v == w)
apart Output Output = false
apart _ _ = true

abbrev pub AllFit : List (List ℕ) → List Usage → Type 0
AllFit texts uses = (n : ℕ) → IsTrue (fits texts (usage_at uses n))

abbrev pub AllApart : List Usage → Type 0
AllApart uses = (i j : ℕ) → i ≢ j → IsTrue (apart (usage_at uses i) (usage_at uses j))

-- a slot that writes was begun with the name of its version
abbrev pub is_named : List (List ℕ) → Usage → Option (List ℕ) → Bool
is_named names (Writing version) (Some name) = bytes_eq name (text_at names version)
is_named names (Writing version) None = false
is_named names _ told = true

abbrev pub AllNamed : List (List ℕ) → List Usage → List (Option (List ℕ)) → Type 0
AllNamed names uses told = (n : ℕ) → IsTrue (is_named names (usage_at uses n) (name_at told n))

-- slots that were not begun are not used
abbrev pub AllUnused : ℕ → List Usage → Type 0
AllUnused begun uses = (k : ℕ) → begun ≤ k → k < 8 → usage_at uses k ≡ Unused

-- the count of one slot rose, and the others are as they were
pub record Raises (n : ℕ) (old new : List ℕ) : Type 0 where
  pub later : slice_index_or old n 0 ≤ slice_index_or new n 0
  pub rose : Rose (slice_index_or old n 0) (slice_index_or new n 0)
  pub elsewhere : (k : ℕ) → k ≢ n → slice_index_or new k 0 ≡ slice_index_or old k 0

-- a piece appended to what a slot writes
abbrev pub more_texts : List (List ℕ) → Usage → List ℕ → List (List ℕ)
more_texts texts (Writing version) piece = slice_set texts version (text_at texts version ++ piece)
more_texts texts _ piece = texts

abbrev pub more_out : List ℕ → Usage → List ℕ → List ℕ
more_out out Output piece = out ++ piece
more_out out _ piece = out
