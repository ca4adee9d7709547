-- What is kept of the steps that a backward pass makes.
use Rattle.std.specs.Prelude.{ℕ, Bool, cond, Option, Some, None, List, []}
use Rattle.sr_base.specs.Literal.{Literal}
use Rattle.sr_model.specs.Meeting.{Group, Step}
use Rattle.sr_trimming.specs.Loading.{Done, at_start}
use Rattle.sr_trimming.specs.From.{Place, place_of, witness_of}

-- a step's number, whether it has a witness, and its hints; its clause and its witness are those of its lemma
pub record Kept : Type 0 where
  pub id : ℕ
  pub by_witness : Bool
  pub prefix : List ℕ
  pub groups : List Group

-- the step of a lemma, with its clause as it was read; the one that no lemma has the number of is empty
abbrev pub step_at : Option Place → Kept → Step
step_at None k = record { id = k.id; clause = []; witness = None; prefix = k.prefix; groups = k.groups }
step_at (Some p) k = record {
  id = k.id;
  clause = p.stated.clause;
  witness = cond k.by_witness (witness_of p.stated) None;
  prefix = k.prefix;
  groups = k.groups;
}

abbrev pub step_of : List (List Literal) → List Done → Kept → Step
step_of f ds k = step_at (place_of (at_start f) ds k.id) k
