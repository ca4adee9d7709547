-- What contracts see of a desk in memory.
use Rattle.std.specs.Prelude.{◌≡◌, ◌≢◌, ℕ, ◌≤◌, ◌<◌, ◌==◌, ◌&&◌, ◌||◌, min, Bool, true, false, List, [], length, Some, None, if◌then◌else◌}
use Rattle.sr_desk.specs.Outside.{Outside}
use Rattle.sr_desk.specs.Calls.{Grows}
use Rattle.sr_desk.specs.Refusing.{same_kind, one_more}
use Rattle.sr_desk.specs.declared.refusals.CallKind.{CallKind}

pub record Memory : Type 0 where
  pub outside : Outside
  -- what is written to the slot is the file of the name: it was begun last with that name
  pub writes_file : ℕ → List ℕ → Bool
  -- the most bytes that a read or a write moves
  pub most : ℕ
  -- how often a kind of call was made
  pub calls : CallKind → ℕ
  -- the n-th call of a kind is to fail
  pub refuses : CallKind → ℕ → Bool

-- the next call of a kind is to fail
abbrev pub is_due : Memory → CallKind → Bool
is_due m kind = m.refuses kind (one_more (m.calls kind))

-- a call of this kind was counted, and what is set stayed as it was
pub record Counts (kind : CallKind) (old new : Memory) : Type 0 where
  pub calls : (k : CallKind) → new.calls k ≡ (if same_kind k kind then one_more (old.calls k) else old.calls k)
  pub most : new.most ≡ old.most
  pub refuses : new.refuses ≡ old.refuses

-- the file of the name is empty, the slot alone writes it, and the slots of other names write what they wrote
pub record EmptiesFile (n : ℕ) (name : List ℕ) (old new : Memory) : Type 0 where
  pub file : new.outside.file name ≡ Some []
  pub named : (new.outside.slot n).writes_to ≡ Some name
  pub written : (new.outside.slot n).written ≡ Some []
  pub own : (k : ℕ) → new.writes_file k name ≡ (k == n)
  pub others : (k : ℕ) (other : List ℕ) → other ≢ name → new.writes_file k other ≡ old.writes_file k other

-- the file that the slot writes grows by what was sent, and the other files are as they were
pub record GrowsFile (n : ℕ) (old new : Memory) (sent : List ℕ) : Type 0 where
  pub own : (name : List ℕ) → old.writes_file n name ≡ true → Grows (old.outside.file name) (new.outside.file name) sent
  pub others : (name : List ℕ) → old.writes_file n name ≡ false → new.outside.file name ≡ old.outside.file name

-- what is known to be left is moved as far as the buffer and the most allow
abbrev pub MovesMost : Memory → ℕ → ℕ → ℕ → Type 0
MovesMost m n room moved = (left : List ℕ) → (m.outside.slot n).left ≡ Some left → moved ≡ min (min (length left) room) m.most

pub record SameOutside (old new : Outside) : Type 0 where
  pub begun : new.begun ≡ old.begun
  pub slots : (n : ℕ) → new.slot n ≡ old.slot n
  pub files : new.file ≡ old.file

-- the file of the name has these bytes and no slot writes it, and all else is as it was
pub record PutsFile (old new : Memory) (name bytes : List ℕ) : Type 0 where
  pub begun : new.outside.begun ≡ old.outside.begun
  pub slots : (n : ℕ) → new.outside.slot n ≡ old.outside.slot n
  pub file : new.outside.file name ≡ Some bytes
  pub own : (n : ℕ) → new.writes_file n name ≡ false
  pub others : (other : List ℕ) → other ≢ name → new.outside.file other ≡ old.outside.file other
  pub others_own : (n : ℕ) (other : List ℕ) → other ≢ name → new.writes_file n other ≡ old.writes_file n other

-- one call more is to fail
abbrev pub Refuses : CallKind → ℕ → Memory → Memory → Type 0
Refuses kind nth old new = (k : CallKind) (n : ℕ) → new.refuses k n ≡ (old.refuses k n || (same_kind kind k && nth == n))

-- no slot was begun or finished, and nothing is printed
pub record IsFresh (o : Outside) : Type 0 where
  pub begun : o.begun ≡ 0
  pub printed : (o.slot 8).written ≡ Some []
  pub reads_from : (n : ℕ) → n ≤ 8 → (o.slot n).reads_from ≡ None
  pub writes_to : (n : ℕ) → n ≤ 8 → (o.slot n).writes_to ≡ None
  pub given : (n : ℕ) → n ≤ 8 → (o.slot n).given ≡ []
  pub ending : (n : ℕ) → n ≤ 8 → (o.slot n).ending ≡ None
  pub left : (n : ℕ) → n ≤ 8 → (o.slot n).left ≡ None
  pub sent : (n : ℕ) → n ≤ 8 → (o.slot n).sent ≡ []
  pub written : (n : ℕ) → n < 8 → (o.slot n).written ≡ None
  pub reads : (n : ℕ) → n ≤ 8 → (o.slot n).reads ≡ false
  pub writes : (n : ℕ) → n ≤ 8 → (o.slot n).writes ≡ false
  pub finished : (n : ℕ) → n ≤ 8 → (o.slot n).finished ≡ false

-- besides, no call was counted, and none is to fail
pub record IsRestarted (m : Memory) : Type 0 where
  pub fresh : IsFresh m.outside
  pub writes_file : (n : ℕ) (name : List ℕ) → n ≤ 8 → m.writes_file n name ≡ false
  pub calls : (kind : CallKind) → m.calls kind ≡ 0
  pub refuses : (kind : CallKind) (n : ℕ) → m.refuses kind n ≡ false

-- besides, there are no files and no faults
pub record IsNew (m : Memory) : Type 0 where
  pub restarted : IsRestarted m
  pub files : (name : List ℕ) → m.outside.file name ≡ None
  pub faults : (n : ℕ) → n ≤ 8 → (m.outside.slot n).faults ≡ 0
