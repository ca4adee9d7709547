-- What a contract sees of a desk of two texts.
use Rattle.std.specs.Prelude.{ℕ, ◌<◌, ◌≡◌, ◌≢◌, false, List, [], Some, None, codes}
use Rattle.sr_base.specs.Contents.{failed}
use Rattle.sr_desk.specs.Outside.{Outside}
use Rattle.sr_sure.specs.Sure.{sure_outside}
use Rattle.sr_sure.specs.declared.sure.SureDesk.{SureDesk}

abbrev pub outside_of : SureDesk → Outside
outside_of d = sure_outside d.formula d.proof d.begun d.reads_from d.writes_to d.slots

-- the texts are the files of these names
pub record HasTexts (formula proof : List ℕ) (o : Outside) : Type 0 where
  pub formula_file : o.file (codes "formula") ≡ Some formula
  pub proof_file : o.file (codes "proof") ≡ Some proof

-- no slot was begun, and none gave anything
pub record IsFresh (o : Outside) : Type 0 where
  pub begun : o.begun ≡ 0
  pub writes : (n : ℕ) → (o.slot n).writes ≡ false
  pub given : (n : ℕ) → (o.slot n).given ≡ []
  pub ending : (n : ℕ) → (o.slot n).ending ≡ None

-- no read failed: where a call did, it was to write
pub record NeverFails (o : Outside) : Type 0 where
  pub ending : (n : ℕ) → (o.slot n).ending ≢ Some failed
  pub faults : (n : ℕ) → n < 8 → (o.slot n).writes ≡ false → (o.slot n).faults ≡ 0
