-- What stands at the front of the tokens of a file.
use Rattle.std.specs.Prelude.{ℕ}
use Rattle.sr_base.specs.declared.names.TextKind.{TextKind}
use Rattle.sr_base.specs.declared.names.LimitKind.{LimitKind}
use Rattle.sr_model.specs.Tokens.{Tokens}

pub data Read (A : Type 0) : Type 0 where
  -- this, and these tokens are left
  reads : A → Tokens → Read A
  -- a fault of the text, at this place
  misspells : TextKind → ℕ → Read A
  passes : LimitKind → Read A
  -- a read of the file failed before the rest was known
  fails : Read A

-- what is read next, and of both
abbrev pub then_reads : {A B : Type 0} → Read A → (A → Tokens → Read B) → Read B
then_reads (reads x rest) more = more x rest
then_reads (misspells kind place) more = misspells kind place
then_reads (passes kind) more = passes kind
then_reads fails more = fails
