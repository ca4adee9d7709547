-- Loading the lines of a proof, one after another.
use Rattle.std.specs.Prelude.{ℕ, ◌-◌, ◌≡◌, ◌⊎◌, Some, List, [], None, Result, Ok, Err}
use Rattle.sr_base.specs.Limits.{LimitValues}
use Rattle.sr_model.specs.Dimacs.{Formula}
use Rattle.sr_base.specs.declared.names.Which.{Which}
use Rattle.sr_base.specs.declared.names.Which.TheVariants as which
use Rattle.sr_base.specs.declared.names.LimitKind.{LimitKind}
use Rattle.sr_base.specs.Contents.{Contents}
use Rattle.sr_model.specs.Dsr.{Line, SpellLines, line_tokens}
use Rattle.sr_desk.specs.Outside.{Outside, Agrees, Rose}
use Rattle.sr_desk.specs.Reader.{Reader}
use Rattle.sr_desk.specs.Next.{ForContents}
use Rattle.sr_scan.specs.Left.{tokens_left}
use Rattle.sr_trimming.specs.Loading.{at_start, AllDid, StopsAfter, at_conflict, at_empty_lemma, going_on}
use Rattle.sr_load.specs.Loading.{LoaderState, loaded_in, TakesLine}
use Rattle.sr_emit.specs.declared.outcome.Outcome.{Outcome}
use Rattle.sr_emit.specs.declared.outcome.Outcome.TheVariants as outcome
use Rattle.sr_files.specs.Files.{HasReadCause}
use Rattle.sr_trim.specs.Said.{TrimSaid}
use Rattle.sr_trim.specs.Deciding.{Decision, stops, loading, LinesFit, ByPass, ByLines, ByClauses, IsDecided, limit_of}
use Rattle.sr_trim.specs.declared.loading.Taken.{Taken}
use Rattle.sr_trim.specs.declared.loading.Taken.TheVariants as taken

-- where loading stands after some lines, at all of which it goes on; `first` is the reader before them
pub record Standing (lim : LimitValues) (s : TrimSaid) (f : Formula) (first now : Reader) (o : Outside) (st : LoaderState) : Type 0 where
  pub lines : List Line
  pub loader : st ≡ loading lim s f st.done
  pub did : AllDid s.keep (at_start f.clauses) lines st.done
  pub fits : LinesFit lim s f [] lines st.done
  pub going : StopsAfter (at_start f.clauses) st.done going_on
  pub spelled : ForContents now o (λ c. SpellLines s.proof_form lim (tokens_left s.proof_form 1 0 first c) lines (tokens_left s.proof_form 1 0 now c))

-- a line ended loading: a limit was passed, or it is an empty lemma and the clauses don't conflict
abbrev pub EndsBy : LoaderState → LoaderState → Line → Outcome → Type 0
EndsBy old new l o = ((kind : LimitKind) × (limit_of old l ≡ Some kind) × (o ≡ outcome.Limit which.Proof kind))
    ⊎ ((limit_of old l ≡ None) × TakesLine old new l × (new.stop ≡ at_empty_lemma) × (o ≡ outcome.RejectedLemma ((loaded_in new).next - 1) None))

-- a line was taken: loading goes on; or the clauses conflict; or it ended
abbrev pub Takes : LoaderState → LoaderState → Line → Taken → Type 0
Takes old new l taken.Going = (limit_of old l ≡ None) × TakesLine old new l × (new.stop ≡ going_on)
Takes old new l taken.Conflict = (limit_of old l ≡ None) × TakesLine old new l × (new.stop ≡ at_conflict)
Takes old new l (taken.Ended o) = (o ≡ outcome.NoMemory) ⊎ EndsBy old new l o

-- all lines up to a conflict were loaded, and then what the pass comes to decides; or it ended
abbrev pub LoadsTo : LimitValues → TrimSaid → Formula → Reader → Outside → Result LoaderState Outcome → Type 0
LoadsTo lim s f first after (Ok st) = (st ≡ record (loading lim s f st.done) { stop = at_conflict }) × StopsAfter (at_start f.clauses) st.done at_conflict
    × ((d : Decision) → ByPass lim s f st.done d → ForContents first after (λ c. ByLines lim s f (tokens_left s.proof_form 1 0 first c) d))
LoadsTo lim s f first after (Err o) = (o ≡ outcome.NoMemory) ⊎ ForContents first after (λ c. ByLines lim s f (tokens_left s.proof_form 1 0 first c) (stops o))

-- the same of the file of the slot 1
abbrev pub LoadsProof : LimitValues → TrimSaid → Formula → Outside → Result LoaderState Outcome → Type 0
LoadsProof lim s f new (Ok st) = (st ≡ record (loading lim s f st.done) { stop = at_conflict }) × StopsAfter (at_start f.clauses) st.done at_conflict
    × ((d : Decision) → ByPass lim s f st.done d → (proof : Contents) → Agrees (new.slot 1) proof → ByLines lim s f (line_tokens s.proof_form lim.bytes proof) d)
LoadsProof lim s f new (Err o) = (o ≡ outcome.NoMemory) ⊎ ((proof : Contents) → Agrees (new.slot 1) proof → ByLines lim s f (line_tokens s.proof_form lim.bytes proof) (stops o))

-- the same of a formula and the file of the slot 1, which isn't begun where the formula alone conflicts
abbrev pub LoadsClauses : LimitValues → TrimSaid → Formula → Outside → Result LoaderState Outcome → Type 0
LoadsClauses lim s f new (Ok st) = (st ≡ record (loading lim s f st.done) { stop = at_conflict })
    × ((d : Decision) → ByPass lim s f st.done d → (proof : Contents) → Agrees (new.slot 1) proof → ByClauses lim s f (line_tokens s.proof_form lim.bytes proof) d new.begun)
LoadsClauses lim s f new (Err o) = (o ≡ outcome.NoMemory) ⊎ ((proof : Contents) → Agrees (new.slot 1) proof → ByClauses lim s f (line_tokens s.proof_form lim.bytes proof) (stops o) new.begun)

-- the same of two files
abbrev pub LoadsFiles : LimitValues → TrimSaid → Outside → Result LoaderState Outcome → Type 0
LoadsFiles lim s new (Ok st) = (st ≡ record (loading lim s st.formula st.done) { stop = at_conflict })
    × ((d : Decision) → ByPass lim s st.formula st.done d → (formula proof : Contents) → Agrees (new.slot 0) formula → Agrees (new.slot 1) proof → IsDecided lim s formula proof d new.begun)
LoadsFiles lim s new (Err o) = (o ≡ outcome.NoMemory) ⊎ ((formula proof : Contents) → Agrees (new.slot 0) formula → Agrees (new.slot 1) proof → IsDecided lim s formula proof (stops o) new.begun)

-- a failed read of a file is told by the count of its slot
abbrev pub HasErrCause : {T : Type 0} → Which → ℕ → Outside → Outside → Result T Outcome → Type 0
HasErrCause w n old new (Ok x) = Unit {0}
HasErrCause w n old new (Err (outcome.SourceFault v)) = (v ≡ w) × Rose (old.slot n).faults (new.slot n).faults
HasErrCause w n old new (Err (outcome.SinkFault v)) = ⊥
HasErrCause w n old new (Err o) = Unit {0}

-- the first file has the slot 0, the second one the slot 1
abbrev pub HasLoadCause : {T : Type 0} → Outside → Outside → Result T Outcome → Type 0
HasLoadCause old new (Ok x) = Unit {0}
HasLoadCause old new (Err o) = HasReadCause old new o
