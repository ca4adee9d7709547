-- The limits that the program ships with.
use Rattle.std.specs.Prelude.{◌≡◌}
use Rattle.sr_base.specs.Limits.{shipped}

-- variables up to 16,777,215, clause numbers up to 2,147,483,647, 1 GiB of cells of four bytes, 4 GiB a file
pub record AreShipped : Type 0 where
  pub vars : shipped.vars ≡ 16777215
  pub ids : shipped.ids ≡ 2147483647
  pub cells : shipped.cells ≡ 268435456
  pub bytes : shipped.bytes ≡ 4294967296
