-- What `trim` comes to on two files before it writes: the first of these events. The formula isn't spelled, or a read of it
-- fails; its clauses pass the limit of cells; a line of the proof isn't spelled, or a read of it fails, or its lemma passes the
-- limit of numbers or of cells, or is empty while the clauses don't conflict; the proof ends before they do. Where they
-- conflict, with the formula alone or after a line, what follows isn't read: a lemma that is needed is shown to fail, or the
-- steps are there; then the bytes of the proof to write, and of the core, pass the limit of bytes.
use Rattle.std.specs.Prelude.{ℕ, Bool, ◌-◌, ◌≡◌, ◌⊎◌, ◌&&◌, nat_lt, is_some, cond, Option, Some, None, List, [], ◌∷◌, ◌++◌, length}
use Rattle.sr_base.specs.Limits.{LimitValues}
use Rattle.sr_base.specs.Contents.{Contents}
use Rattle.sr_base.specs.declared.names.Which.TheVariants as which
use Rattle.sr_base.specs.declared.names.LimitKind.{LimitKind}
use Rattle.sr_base.specs.declared.names.LimitKind.TheVariants.{Ids, Cells, Bytes}
use Rattle.sr_model.specs.Tokens.{Tokens}
use Rattle.sr_model.specs.Reading.{Read, reads, misspells, passes, fails}
use Rattle.sr_model.specs.TextTokens.{spelled}
use Rattle.sr_model.specs.Meeting.{Group, Step}
use Rattle.sr_model.specs.Judging.{numbered_from, cells_of}
use Rattle.sr_model.specs.Dimacs.{Formula, formula_at}
use Rattle.sr_model.specs.Dsr.{Line, MaybeLine, line_in, line_tokens, SpellLines}
use Rattle.sr_trimming.specs.Loading.{Done, at_start, after_all, Did, AllDid, InConflict, StopsAfter, at_conflict, at_empty_lemma, going_on}
use Rattle.sr_trimming.specs.Evidence.{FailsAt}
use Rattle.sr_load.specs.Loading.{LoaderState, passes_ids, passes_cells}
use Rattle.sr_emit.specs.declared.outcome.Outcome.{Outcome}
use Rattle.sr_emit.specs.declared.outcome.Outcome.TheVariants as outcome
use Rattle.sr_trim.specs.Said.{TrimSaid}
use Rattle.sr_trim.specs.Trimming.{IsTrimming, lsr_text, core_text}

-- it ends with an outcome, or with what is to be written: the formula, what its lines did, and the steps
pub data Decision : Type 0 where
  stops : Outcome → Decision
  trims : Formula → List Done → List Step → Decision

-- whether a file that is asked for passes the limit of bytes
abbrev pub passes_lsr : LimitValues → TrimSaid → Formula → List Step → Bool
passes_lsr lim s f steps = is_some s.lsr && nat_lt lim.bytes (length (lsr_text s.lsr_form f.clauses steps))

abbrev pub passes_core : LimitValues → TrimSaid → Formula → List Step → Bool
passes_core lim s f steps = is_some s.core && nat_lt lim.bytes (length (core_text f steps))

-- what passes the limit of bytes, in the order in which it would be written
abbrev pub by_length : LimitValues → TrimSaid → Formula → List Done → List Step → Decision
by_length lim s f ds steps = cond (passes_lsr lim s f steps) (stops (outcome.Limit which.Lsr Bytes))
    (cond (passes_core lim s f steps) (stops (outcome.Limit which.Core Bytes)) (trims f ds steps))

-- a lemma that is needed is shown to fail
pub record IsRejected (f : Formula) (ds : List Done) (d : Decision) : Type 0 where
  pub lemma : ℕ
  pub against : ℕ
  pub groups : List Group
  pub tail : List Step
  pub fails : FailsAt f.clauses ds lemma against groups tail
  pub is : d ≡ stops (outcome.RejectedLemma lemma (Some against))

-- the steps are there
pub record IsPassed (lim : LimitValues) (s : TrimSaid) (f : Formula) (ds : List Done) (d : Decision) : Type 0 where
  pub steps : List Step
  pub trimming : IsTrimming f.clauses ds steps
  pub is : d ≡ by_length lim s f ds steps

abbrev pub ByPass : LimitValues → TrimSaid → Formula → List Done → Decision → Type 0
ByPass lim s f ds d = IsRejected f ds d ⊎ IsPassed lim s f ds d

-- where loading stands after some lines
abbrev pub loading : LimitValues → TrimSaid → Formula → List Done → LoaderState
loading lim s f ds = record { keep = s.keep; ids = lim.ids; cells = lim.cells; formula = f; done = ds; stop = going_on }

-- the limit that a line passes
abbrev pub limit_of : LoaderState → Line → Option LimitKind
limit_of st l = cond (passes_ids st l) (Some Ids) (cond (passes_cells st l) (Some Cells) None)

-- no line passed one
abbrev pub LinesFit : LimitValues → TrimSaid → Formula → List Done → List Line → List Done → Type 0
LinesFit lim s f before [] [] = Unit {0}
LinesFit lim s f before [] (d ∷ ds) = ⊥
LinesFit lim s f before (l ∷ ls) [] = ⊥
LinesFit lim s f before (l ∷ ls) (d ∷ ds) = (limit_of (loading lim s f before) l ≡ None) × LinesFit lim s f (before ++ d ∷ []) ls ds

-- the clauses conflict after these lines, or the last line is an empty lemma and they don't
abbrev pub AtStop : LimitValues → TrimSaid → Formula → List Done → Decision → Type 0
AtStop lim s f ds d = (StopsAfter (at_start f.clauses) ds at_conflict × ByPass lim s f ds d)
    ⊎ (StopsAfter (at_start f.clauses) ds at_empty_lemma × (d ≡ stops (outcome.RejectedLemma ((after_all (at_start f.clauses) ds).next - 1) None)))

abbrev pub ByLine : LimitValues → TrimSaid → Formula → List Done → Line → Option LimitKind → Decision → Type 0
ByLine lim s f ds l (Some kind) d = d ≡ stops (outcome.Limit which.Proof kind)
ByLine lim s f ds l None d = (x : Done) × Did s.keep (after_all (at_start f.clauses) ds).alive l x × AtStop lim s f (ds ++ x ∷ []) d

-- what comes after the lines at which loading goes on
abbrev pub EndsLoading : LimitValues → TrimSaid → Formula → List Done → Read MaybeLine → Decision → Type 0
EndsLoading lim s f ds (reads (Some l) rest) d = ByLine lim s f ds l (limit_of (loading lim s f ds) l) d
EndsLoading lim s f ds (reads None rest) d = d ≡ stops outcome.NoEmptyClause
EndsLoading lim s f ds (misspells kind place) d = d ≡ stops (outcome.Text which.Proof kind place)
EndsLoading lim s f ds (passes kind) d = d ≡ stops (outcome.Limit which.Proof kind)
EndsLoading lim s f ds fails d = d ≡ stops (outcome.SourceFault which.Proof)

-- the lines at the front of the proof are loaded, loading goes on, and what follows ends it
pub record ByLines (lim : LimitValues) (s : TrimSaid) (f : Formula) (proof : Tokens) (d : Decision) : Type 0 where
  pub lines : List Line
  pub rest : Tokens
  pub done : List Done
  pub spelled : SpellLines s.proof_form lim proof lines rest
  pub did : AllDid s.keep (at_start f.clauses) lines done
  pub fits : LinesFit lim s f [] lines done
  pub going : StopsAfter (at_start f.clauses) done going_on
  pub ends : EndsLoading lim s f done (line_in s.proof_form lim rest) d

-- the formula alone conflicts, and the proof isn't begun; or the proof is read
abbrev pub ByProof : LimitValues → TrimSaid → Formula → Tokens → Decision → ℕ → Type 0
ByProof lim s f proof d begun = (InConflict (numbered_from 1 f.clauses) × ByPass lim s f [] d × (begun ≡ 1))
    ⊎ ((¬ InConflict (numbered_from 1 f.clauses)) × ByLines lim s f proof d × (begun ≡ 2))

abbrev pub ByClauses : LimitValues → TrimSaid → Formula → Tokens → Decision → ℕ → Type 0
ByClauses lim s f proof d begun = cond (nat_lt lim.cells (cells_of f.clauses)) ((d ≡ stops (outcome.Limit which.Formula Cells)) × (begun ≡ 1))
    (ByProof lim s f proof d begun)

abbrev pub ByFormula : LimitValues → TrimSaid → Tokens → Read Formula → Decision → ℕ → Type 0
ByFormula lim s proof (reads f rest) d begun = ByClauses lim s f proof d begun
ByFormula lim s proof (misspells kind place) d begun = (d ≡ stops (outcome.Text which.Formula kind place)) × (begun ≡ 1)
ByFormula lim s proof (passes kind) d begun = (d ≡ stops (outcome.Limit which.Formula kind)) × (begun ≡ 1)
ByFormula lim s proof fails d begun = (d ≡ stops (outcome.SourceFault which.Formula)) × (begun ≡ 1)

-- what two files of such contents come to, with as many files as are begun for it
abbrev pub IsDecided : LimitValues → TrimSaid → Contents → Contents → Decision → ℕ → Type 0
IsDecided lim s formula proof d begun = ByFormula lim s (line_tokens s.proof_form lim.bytes proof) (formula_at lim (spelled lim.bytes formula)) d begun
