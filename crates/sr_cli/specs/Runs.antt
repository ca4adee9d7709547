-- What the parts of a run promise to one another.
use Rattle.std.specs.Prelude.{◌≡◌, ◌⊎◌, ℕ, ◌+◌, ◌≤◌, Bool, List, length, Option, Some, None}
use Rattle.sr_base.specs.Literal.{Literal}
use Rattle.sr_base.specs.Limits.{LimitValues}
use Rattle.sr_base.specs.Contents.{Contents}
use Rattle.sr_base.specs.declared.names.Form.{Form}
use Rattle.sr_base.specs.declared.names.Which.{Which}
use Rattle.sr_base.specs.declared.names.Which.TheVariants as which
use Rattle.sr_model.specs.Judging.{Item, first_live, live_with, live_after, judge}
use Rattle.sr_model.specs.LsrBinary.{SpellItemsIn}
use Rattle.sr_model.specs.declared.verdict.Verdict.TheVariants.{Going}
use Rattle.sr_desk.specs.Outside.{Outside, Agrees, Rose}
use Rattle.sr_desk.specs.Reader.{Reader}
use Rattle.sr_desk.specs.Next.{ForContents}
use Rattle.sr_scan.specs.Left.{tokens_left}
use Rattle.sr_check.specs.Checking.{Checking}
use Rattle.sr_emit.specs.declared.outcome.Outcome.{Outcome}
use Rattle.sr_emit.specs.declared.outcome.Outcome.TheVariants as outcome
use Rattle.sr_emit.specs.declared.counts.Counts.{Counts}
use Rattle.sr_cli.specs.Check.{CellsFit, by_item, counted, steps_of, hints_of, item_steps, item_hints, ByProof, ByClauses}
use Rattle.sr_files.specs.Files.{ReadsFiles, GivesFile}
use Rattle.sr_cli.specs.declared.check.Checked.{Checked}
use Rattle.sr_cli.specs.declared.proof.Tally.{Tally}

-- where judging stands after some items of a proof, all of them met, none of them the last; `first` is the reader before them
pub record Progress (lim : LimitValues) (form : Form) (strict : Bool) (f : List (List Literal)) (first now : Reader) (o : Outside) (c : Checking) (t : Tally) : Type 0 where
  pub items : List Item
  pub going : judge strict f items ≡ Going
  pub fits : CellsFit lim.cells (first_live f) items
  pub checker : c ≡ record { strict = strict; most = lim.cells; state = record { live = live_after (first_live f) items; verdict = Going }; used = c.used }
  pub steps : t.steps ≡ counted (steps_of items)
  pub hints : t.hints ≡ counted (hints_of items)
  pub spelled : ForContents now o (λ d. SpellItemsIn form lim (tokens_left form 2 0 first d) items (tokens_left form 2 0 now d))

-- one more item was counted
pub record Tallies (old : Tally) (it : Item) (new : Tally) : Type 0 where
  pub steps : new.steps ≡ counted (old.steps + item_steps it)
  pub hints : new.hints ≡ counted (old.hints + item_hints it)

-- an item was taken: judging goes on, or ends
abbrev pub Takes : Checking → Checking → Tally → Tally → Item → Option Outcome → Type 0
Takes old new t u it None = (by_item old.most old.strict old.state.live it ≡ None)
    × (new ≡ record old { state = record { live = live_with old.state.live it; verdict = Going }; used = new.used }) × Tallies t it u
Takes old new t u it (Some outcome.NoMemory) = Unit {0}
Takes old new t u it (Some o) = (by_item old.most old.strict old.state.live it ≡ Some o) × (o ≡ outcome.Verified → Tallies t it u)

abbrev pub counts_by : List (List Literal) → Tally → Counts
counts_by f t = record { clauses = length f; core = 0; lemmas = 0; steps = t.steps; hints = t.hints; passed = 0 }

-- a failed read of a file is told by the count of its slot
abbrev pub HasFileCause : Which → ℕ → Outside → Outside → Outcome → Type 0
HasFileCause w n old new (outcome.SourceFault v) = (v ≡ w) × Rose (old.slot n).faults (new.slot n).faults
HasFileCause w n old new (outcome.SinkFault v) = ⊥
HasFileCause w n old new o = Unit {0}

-- a failed call on the second file is told by the count of the slot 1
abbrev pub HasProofCause : Outside → Outside → Outcome → Type 0
HasProofCause old new (outcome.SourceFault which.Proof) = Rose (old.slot 1).faults (new.slot 1).faults × (new.begun ≡ 2)
HasProofCause old new (outcome.SourceFault w) = ⊥
HasProofCause old new (outcome.SinkFault w) = ⊥
HasProofCause old new o = Unit {0}

-- memory ran out, or the proof was judged up to its last event
abbrev pub Judges : LimitValues → Form → Bool → List (List Literal) → Reader → Outside → Outcome → Tally → Type 0
Judges lim form strict f first after o t =
    (o ≡ outcome.NoMemory) ⊎ ForContents first after (λ c. ByProof lim form strict f (tokens_left form 2 0 first c) o (counts_by f t))

-- what is answered on a formula that was read, with one file begun
pub record JudgesFormula (lim : LimitValues) (form : Form) (strict : Bool) (f : List (List Literal)) (name : List ℕ) (r : Checked) (old new : Outside) : Type 0 where
  pub answer : (r.outcome ≡ outcome.NoMemory)
      ⊎ ((proof : Contents) → Agrees (new.slot 1) proof → ByClauses lim form strict proof f r.outcome r.counts new.begun)
  pub slots : ReadsFiles old new
  pub file : 2 ≤ new.begun → GivesFile 1 name old new
  pub cause : HasProofCause old new r.outcome
