-- What is written of a formula and a proof.
use Rattle.std.specs.Prelude.{ℕ, ◌+◌, ◌-◌, ◌^◌, min, Bool, ◌≡◌, List, length, sum_by}
use Rattle.sr_base.specs.Literal.{Literal}
use Rattle.sr_base.specs.declared.names.Form.{Form}
use Rattle.sr_model.specs.declared.verdict.Verdict.TheVariants.{Verified}
use Rattle.sr_model.specs.Assignment.{Unsat}
use Rattle.sr_model.specs.Dimacs.{Formula}
use Rattle.sr_model.specs.Meeting.{Group, Step}
use Rattle.sr_model.specs.Judging.{numbered_from, first_live, judge}
use Rattle.sr_model.specs.Writing.{written_items, written_formula}
use Rattle.sr_trimming.specs.Citing.{cited_of, all_of, core}
use Rattle.sr_trimming.specs.Placing.{placed}
use Rattle.sr_trimming.specs.Loading.{Done}
use Rattle.sr_trimming.specs.From.{AreFrom}
use Rattle.sr_trimming.specs.Backward.{AreLinked, AreMet}
use Rattle.sr_trimming.specs.Trimmed.{IsTrimmed}
use Rattle.sr_trimming.specs.CoreFirst.{AreCoreFirst}
use Rattle.sr_load.specs.Loading.{lemmas_in, passed_in}
use Rattle.sr_emit.specs.declared.counts.Counts.{Counts}

-- the steps come from the lemmas that were loaded; placed among deletions they make a trimmed proof, each step of which is met
-- over the live clauses, and which is verified, strictly or not; no assignment satisfies the clauses of the formula that they
-- cite; and clauses that are cited already come first
pub record IsTrimming (f : List (List Literal)) (ds : List Done) (steps : List Step) : Type 0 where
  pub from : AreFrom f ds steps
  pub linked : AreLinked (length f) steps
  pub trimmed : IsTrimmed f (placed f steps)
  pub met : (strict : Bool) → AreMet strict (first_live f) (placed f steps)
  pub verified : (strict : Bool) → judge strict f (placed f steps) ≡ Verified
  pub unsat : Unsat (core f steps)
  pub core_first : AreCoreFirst (all_of f steps) steps

-- the bytes of the proof that is written
abbrev pub lsr_text : Form → List (List Literal) → List Step → List ℕ
lsr_text form f steps = written_items form (placed f steps)

-- the bytes of the core that is written: the formula of the clauses that are cited
abbrev pub core_text : Formula → List Step → List ℕ
core_text f steps = written_formula (record { vars = f.vars; clauses = core f.clauses steps })

abbrev pub group_hints : Group → ℕ
group_hints g = length g.1

abbrev pub step_hints : Step → ℕ
step_hints s = length s.prefix + sum_by group_hints s.groups

-- a count stays at the greatest value of 64 bits
abbrev pub counted : ℕ → ℕ
counted n = min n (2 ^ 64 - 1)

abbrev pub trim_counts : List (List Literal) → List Done → List Step → Counts
trim_counts f ds steps = record {
  clauses = length f;
  core = length (cited_of (numbered_from 1 f) steps);
  lemmas = lemmas_in ds;
  steps = length steps;
  hints = counted (sum_by step_hints steps);
  passed = passed_in ds;
}
