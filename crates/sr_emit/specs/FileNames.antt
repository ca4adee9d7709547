-- The names of the files of a run, without where they lie in memory.
use Rattle.std.specs.Prelude.{ℕ, List, Option, None, option_map}
use Rattle.sr_base.specs.declared.names.Which.{Which}
use Rattle.sr_base.specs.declared.names.Which.TheVariants as which
use Rattle.sr_emit.specs.declared.files.FileNames.{FileNames}

pub record Names : Type 0 where
  pub formula : Option (List ℕ)
  pub proof : Option (List ℕ)
  pub lsr : Option (List ℕ)
  pub core : Option (List ℕ)

abbrev pub names_of : FileNames → Names
names_of n = record {
  formula = option_map (λ s. s.now) n.formula;
  proof = option_map (λ s. s.now) n.proof;
  lsr = option_map (λ s. s.now) n.lsr;
  core = option_map (λ s. s.now) n.core;
}

abbrev pub name_of : Which → Names → Option (List ℕ)
name_of which.Formula n = n.formula
name_of which.Proof n = n.proof
name_of which.Lsr n = n.lsr
name_of which.Core n = n.core
name_of which.Report n = None
