-- What is alive may be cited.
use Rattle.std.proofs.Common.{ℕ, true, ◌≡◌, ◌∙◌}
use Rattle.sr_model.specs.Assignment.{holds_number}
use Rattle.sr_model.specs.Chain.{Numbered}
use Rattle.sr_trimming.specs.Placing.{numbers}
use Rattle.sr_load.specs.Numbers.{has_clause}
use Rattle.sr_load.proofs.Numbering.{has_number}

pub alive_is_numbered : (ps : Numbered) (n : ℕ) → has_clause ps n ≡ true → holds_number n (numbers ps) ≡ true
alive_is_numbered ps n alive = has_number ps n ∙ alive
