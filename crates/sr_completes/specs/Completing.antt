-- Where each lemma of a proof passes, `trim` doesn't reject it.
use Rattle.std.specs.Prelude.{ℕ, ◌≡◌, ◌⊎◌, false, nat_lt, List, []}
use Rattle.sr_base.specs.Limits.{LimitValues}
use Rattle.sr_base.specs.Contents.{Contents}
use Rattle.sr_base.specs.declared.names.LimitKind.TheVariants.{Bytes}
use Rattle.sr_base.specs.declared.names.Which.TheVariants as which
use Rattle.sr_model.specs.Tokens.{Tokens}
use Rattle.sr_model.specs.Reading.{reads}
use Rattle.sr_model.specs.TextTokens.{spelled}
use Rattle.sr_model.specs.Meeting.{Step}
use Rattle.sr_model.specs.Judging.{cells_of}
use Rattle.sr_model.specs.Dimacs.{Formula, formula_at}
use Rattle.sr_model.specs.Dsr.{Line, line_tokens, SpellLines}
use Rattle.sr_trimming.specs.Loading.{Done, at_start, AllDid, StopsAfter, at_conflict}
use Rattle.sr_trimming.specs.Evidence.{EachPasses}
use Rattle.sr_desk.specs.Outside.{Outside, Agrees}
use Rattle.sr_emit.specs.declared.counts.Counts.{Counts}
use Rattle.sr_emit.specs.declared.outcome.Outcome.{Outcome}
use Rattle.sr_emit.specs.declared.outcome.Outcome.TheVariants as outcome
use Rattle.sr_trim.specs.Said.{TrimSaid}
use Rattle.sr_trim.specs.Trimming.{IsTrimming}
use Rattle.sr_trim.specs.Deciding.{Decision, by_length, LinesFit, IsDecided}
use Rattle.sr_trim.specs.Finding.{Trims}

-- the first file spells a formula, and the second begins with lines that did this; none of them passes a limit, and the clauses
-- conflict after the last one and not before
pub record ComesToConflict (lim : LimitValues) (s : TrimSaid) (formula proof : Contents) (f : Formula) (ds : List Done) : Type 0 where
  pub after : Tokens
  pub is_formula : formula_at lim (spelled lim.bytes formula) ≡ reads f after
  pub cells : nat_lt lim.cells (cells_of f.clauses) ≡ false
  pub lines : List Line
  pub rest : Tokens
  pub spelled_lines : SpellLines s.proof_form lim (line_tokens s.proof_form lim.bytes proof) lines rest
  pub did : AllDid s.keep (at_start f.clauses) lines ds
  pub fits : LinesFit lim s f [] lines ds
  pub conflict : StopsAfter (at_start f.clauses) ds at_conflict

-- where each lemma of these lines passes over the clauses alive before it, the files come to steps
abbrev pub PassingIsTrimmed : Type 0
PassingIsTrimmed = (lim : LimitValues) (s : TrimSaid) (formula proof : Contents) (f : Formula) (ds : List Done) (d : Decision) (begun : ℕ)
    → ComesToConflict lim s formula proof f ds → EachPasses (at_start f.clauses) ds → IsDecided lim s formula proof d begun
    → (steps : List Step) × (IsTrimming f.clauses ds steps × (d ≡ by_length lim s f ds steps))

-- verified; or a file that was asked for can't be written, or would pass the limit of bytes
abbrev pub IsVerifiedOrUnwritten : Outcome → Type 0
IsVerifiedOrUnwritten o = (o ≡ outcome.Verified)
    ⊎ (o ≡ outcome.SinkFault which.Lsr) ⊎ (o ≡ outcome.SinkFault which.Core)
    ⊎ (o ≡ outcome.Limit which.Lsr Bytes) ⊎ (o ≡ outcome.Limit which.Core Bytes)

-- so what `trim` finds on two files whose reads gave this, unless memory runs out, is that
abbrev pub PassingIsVerified : Type 0
PassingIsVerified = (lim : LimitValues) (s : TrimSaid) (old new : Outside) (o : Outcome) (k : Counts) (t : Trims lim s old new o k) (formula proof : Contents) (f : Formula) (ds : List Done)
    → Agrees (t.mid.slot 0) formula → Agrees (t.mid.slot 1) proof
    → ComesToConflict lim s formula proof f ds → EachPasses (at_start f.clauses) ds → IsVerifiedOrUnwritten o
