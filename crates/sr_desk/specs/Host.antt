-- What a contract sees of the real outside: which slots were begun, what was given and sent, and what the open files tell.
use Rattle.std.specs.Prelude.{ℕ, ◌≡◌, ◌≤◌, ◌-◌, Bool, false, List, [], ◌∷◌, length, drop, Option, None, Some, option_map}
use Rattle.std.specs.List.{slice_index_or}
use Rattle.sr_desk.specs.Outside.{Outside, SlotState}
use Rattle.sr_desk.specs.LastReads.{ending_of}
use Rattle.sr_desk.specs.declared.target.Target.{Target}
use Rattle.sr_desk.specs.declared.target.Target.TheVariants.{Nothing, File, Output}
use Rattle.sr_desk.specs.declared.last_read.LastRead.{LastRead}
use Rattle.sr_desk.specs.declared.last_read.LastRead.TheVariants.{Fine}

-- the bytes that an open file has still to give
abbrev pub left_in : {F : Type 0} → (F → Option (List ℕ)) → Option F → Option (List ℕ)
left_in remaining None = None
left_in remaining (Some f) = remaining f

-- the bytes that it holds; standard output tells none
abbrev pub held_in : {F : Type 0} → (F → Option (List ℕ)) → Target F → Option (List ℕ)
held_in contents (File f) = contents f
held_in contents _ = None

-- the last bytes that a file holds, as many as were sent to it
abbrev pub last_sent : List ℕ → Option (List ℕ) → Option (List ℕ)
last_sent sent held = option_map (λ bytes. drop (length bytes - length sent) bytes) held

pub record HostParts (F : Type 0) : Type 0 where
  pub begun : ℕ
  pub reads_from : List (Option (List ℕ))
  pub writes_to : List (Option (List ℕ))
  pub reads : List Bool
  pub writes : List Bool
  pub finished : List Bool
  pub last : List LastRead
  pub faults : List ℕ
  pub given : List (List ℕ)
  pub sent : List (List ℕ)
  pub sources : List (Option F)
  pub targets : List (Target F)

-- a slot, where files tell what they have still to give, and what they hold
abbrev pub host_state : {F : Type 0} → (F → Option (List ℕ)) → (F → Option (List ℕ)) → HostParts F → ℕ → SlotState
host_state remaining contents d n = record {
  reads_from = slice_index_or d.reads_from n None;
  writes_to = slice_index_or d.writes_to n None;
  given = slice_index_or d.given n [];
  ending = ending_of (slice_index_or d.last n Fine);
  left = left_in remaining (slice_index_or d.sources n None);
  sent = slice_index_or d.sent n [];
  written = last_sent (slice_index_or d.sent n []) (held_in contents (slice_index_or d.targets n Nothing));
  reads = slice_index_or d.reads n false;
  writes = slice_index_or d.writes n false;
  finished = slice_index_or d.finished n false;
  faults = slice_index_or d.faults n 0;
}

abbrev pub host_outside : {F : Type 0} → (F → Option (List ℕ)) → (F → Option (List ℕ)) → HostParts F → Outside
host_outside remaining contents d = record { begun = d.begun; slot = host_state remaining contents d; file = λ name. None }

abbrev pub no_targets : {F : Type 0} → List (Target F)
no_targets = Nothing ∷ Nothing ∷ Nothing ∷ Nothing ∷ Nothing ∷ Nothing ∷ Nothing ∷ Nothing ∷ Output ∷ []

-- a slot that wasn't begun: it has no name, it gave and took nothing, no call on it has failed, and no bytes are known
pub record IsIdle (s : SlotState) : Type 0 where
  pub given : s.given ≡ []
  pub ending : s.ending ≡ None
  pub left : s.left ≡ None
  pub sent : s.sent ≡ []
  pub written : s.written ≡ None
  pub reads_from : s.reads_from ≡ None
  pub writes_to : s.writes_to ≡ None
  pub reads : s.reads ≡ false
  pub writes : s.writes ≡ false
  pub finished : s.finished ≡ false
  pub faults : s.faults ≡ 0

-- no slot was begun, and no file's bytes are known
pub record IsUnused (o : Outside) : Type 0 where
  pub begun : o.begun ≡ 0
  pub slots : (n : ℕ) → n ≤ 8 → IsIdle (o.slot n)
  pub files : (name : List ℕ) → o.file name ≡ None
