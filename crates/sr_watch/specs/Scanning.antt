-- What one look at a clause finds.
use Rattle.std.specs.Prelude.{ℕ, ◌≡◌, ◌<◌, ◌≢◌, true, false, List, length, slice_index_or}
use Rattle.sr_base.specs.Literal.{Literal, plus, complement, has}
use Rattle.sr_model.specs.Refutation.{IsClosedFor, is_empty}
use Rattle.sr_watch.specs.declared.settling.Standing.{Standing}
use Rattle.sr_watch.specs.declared.settling.Standing.TheVariants.{Settled, Refuted, Single}
use Rattle.sr_watch.specs.State.{AllFalse, IsForcedBy, IsOpen}

-- a list is closed for a clause, which isn't empty
pub record IsSettled (ls c : List Literal) : Type 0 where
  pub closed : IsClosedFor ls c
  pub some : is_empty c ≡ false

pub record IsSingle (ls c : List Literal) (l : Literal) : Type 0 where
  pub forced : IsForcedBy c ls l
  pub open_here : IsOpen l ls

abbrev pub Stands : List Literal → List Literal → Standing → Type 0
Stands c ls Settled = IsSettled ls c
Stands c ls Refuted = AllFalse ls c
Stands c ls (Single l) = IsSingle ls c l

-- the entry is derived by the clause and its complement is in the list
pub record IsDerivedPair (ls : List Literal) (rs : List ℕ) (at : ℕ) : Type 0 where
  pub entry : ℕ
  pub some : at ≢ 0
  pub within : entry < length ls
  pub reason : slice_index_or rs entry 0 ≡ at
  pub complement : has (complement (slice_index_or ls entry (plus 0))) ls ≡ true
