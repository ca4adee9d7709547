-- What the reads of a file give.
use Rattle.std.specs.Prelude.{ℕ, List}

-- after the last byte the file ends, or a read of it fails
pub data Ending : Type 0 where
  ended : Ending
  failed : Ending

pub record Contents : Type 0 where
  pub bytes : List ℕ
  pub ending : Ending

-- all bytes of a file, and then its end
abbrev pub whole : List ℕ → Contents
whole bytes = record { bytes = bytes; ending = ended }
