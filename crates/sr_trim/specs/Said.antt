-- What the words of `trim` say.
use Rattle.std.specs.Prelude.{ℕ, Bool, List, Option, option_map}
use Rattle.sr_base.specs.declared.names.Form.{Form}
use Rattle.sr_trim.specs.declared.words.TrimWords.{TrimWords}

-- the names of the files and their forms; whether deletions of clauses that have become units are passed over, and whether
-- statistics are asked for
pub record TrimSaid : Type 0 where
  pub formula : List ℕ
  pub proof : List ℕ
  pub proof_form : Form
  pub lsr : Option (List ℕ)
  pub lsr_form : Form
  pub core : Option (List ℕ)
  pub keep : Bool
  pub stats : Bool

-- without where the names lie in memory
abbrev pub trim_said : TrimWords → TrimSaid
trim_said w = record {
  formula = w.formula.now;
  proof = w.proof.now;
  proof_form = w.proof_form;
  lsr = option_map (λ s. s.now) w.lsr;
  lsr_form = w.lsr_form;
  core = option_map (λ s. s.now) w.core;
  keep = w.keep_units;
  stats = w.stats;
}
