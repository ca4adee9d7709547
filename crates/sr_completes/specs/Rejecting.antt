-- What a rejection of a proof by lemmas rests on.
use Rattle.std.specs.Prelude.{ℕ, ◌≡◌, ◌||◌, Bool, true, Some, List, Contains}
use Rattle.sr_base.specs.Limits.{LimitValues}
use Rattle.sr_base.specs.Contents.{Contents}
use Rattle.sr_base.specs.declared.names.Form.{Form}
use Rattle.sr_model.specs.Tokens.{Tokens}
use Rattle.sr_model.specs.Reading.{reads}
use Rattle.sr_model.specs.TextTokens.{spelled}
use Rattle.sr_model.specs.Chain.{clauses}
use Rattle.sr_model.specs.Meeting.{Group, Step}
use Rattle.sr_model.specs.Dimacs.{Formula, formula_at}
use Rattle.sr_model.specs.Dsr.{Line, line_tokens, SpellLines}
use Rattle.sr_trimming.specs.Loading.{Done, Standing, at_start, AllDid}
use Rattle.sr_trimming.specs.Citing.{groups_cite, is_cited}
use Rattle.sr_trimming.specs.From.{all_loaded, LemmasHavePivots}
use Rattle.sr_trimming.specs.Backward.{MeetNeed}
use Rattle.sr_trimming.specs.Passing.{Passes}
use Rattle.sr_trimming.specs.Evidence.{FailsAt}
use Rattle.sr_desk.specs.Outside.{Outside, Agrees}
use Rattle.sr_emit.specs.declared.counts.Counts.{Counts}
use Rattle.sr_emit.specs.declared.outcome.Outcome.TheVariants as outcome
use Rattle.sr_trim.specs.Said.{TrimSaid}
use Rattle.sr_trim.specs.Deciding.{stops, IsDecided}
use Rattle.sr_trim.specs.Finding.{Trims}

-- each lemma that was read and loaded has its clause's first literal as the pivot of the witness that is written for it
abbrev pub LoadedLinesHavePivots : Type 0
LoadedLinesHavePivots = (form : Form) (lim : LimitValues) (keep : Bool) (st : Standing) (ts rest : Tokens) (lines : List Line) (ds : List Done)
    → SpellLines form lim ts lines rest → AllDid keep st lines ds → LemmasHavePivots ds

-- The files spell a formula and, at the front of the proof, lines that did this, and over it a lemma is shown to fail at a clause:
-- it doesn't pass over the clauses alive before its line, the clause is one of them and is cited later or by a group before, and
-- each later step is met over what it and those after it cite, strictly too.
pub record IsShownToFail (lim : LimitValues) (s : TrimSaid) (formula proof : Contents) (number against : ℕ) : Type 0 where
  pub f : Formula
  pub after : Tokens
  pub is_formula : formula_at lim (spelled lim.bytes formula) ≡ reads f after
  pub lines : List Line
  pub rest : Tokens
  pub spelled_lines : SpellLines s.proof_form lim (line_tokens s.proof_form lim.bytes proof) lines rest
  pub done : List Done
  pub did : AllDid s.keep (at_start f.clauses) lines done
  pub groups : List Group
  pub tail : List Step
  pub fails : FailsAt f.clauses done number against groups tail
  pub not_passed : ¬ Passes (clauses fails.place.alive) (clauses fails.place.alive) fails.place.stated
  pub cited : is_cited against tail || groups_cite against groups ≡ true
  pub alive : Contains fails.place.alive (against, fails.clause)
  pub met : (strict : Bool) → MeetNeed strict (all_loaded f.clauses done) tail

-- where two files come to the rejection of a lemma against a clause, that is so
abbrev pub RejectionsStand : Type 0
RejectionsStand = (lim : LimitValues) (s : TrimSaid) (formula proof : Contents) (number against begun : ℕ)
    → IsDecided lim s formula proof (stops (outcome.RejectedLemma number (Some against))) begun → IsShownToFail lim s formula proof number against

-- so it is where `trim` finds that on two files whose reads gave this
abbrev pub FoundRejectionsStand : Type 0
FoundRejectionsStand = (lim : LimitValues) (s : TrimSaid) (old new : Outside) (k : Counts) (number against : ℕ) (t : Trims lim s old new (outcome.RejectedLemma number (Some against)) k) (formula proof : Contents)
    → Agrees (t.mid.slot 0) formula → Agrees (t.mid.slot 1) proof → IsShownToFail lim s formula proof number against
