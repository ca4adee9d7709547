-- What ends reading, or passing back, is no verified run.
use Rattle.std.proofs.Common.{◌≡◌, ◌∙◌, inl, inr, ℕ, Bool, true, false, List, Some, Err, refl, sym, ap, subst}
use Rattle.sr_base.specs.Limits.{LimitValues}
use Rattle.sr_base.specs.declared.names.Which.{Which}
use Rattle.sr_base.specs.declared.names.Which.TheVariants as which
use Rattle.sr_base.specs.declared.names.LimitKind.TheVariants.{Bytes}
use Rattle.sr_base.specs.declared.names.InputError.{InputError}
use Rattle.sr_base.specs.declared.names.InputError.TheVariants as fault
use Rattle.sr_model.specs.Dimacs.{Formula}
use Rattle.sr_model.specs.Dsr.{Line}
use Rattle.sr_trimming.specs.Loading.{Done}
use Rattle.sr_desk.specs.Outside.{Outside, Rose}
use Rattle.sr_scan.specs.Left.{is_source}
use Rattle.sr_load.specs.Loaded.{LoadedState, all_lines}
use Rattle.sr_load.specs.Loading.{LoaderState}
use Rattle.sr_emit.specs.declared.counts.Counts.{Counts}
use Rattle.sr_emit.specs.declared.outcome.Outcome.{Outcome}
use Rattle.sr_emit.specs.declared.outcome.Outcome.TheVariants as outcome
use Rattle.sr_emit.specs.Status.{is_verified}
use Rattle.sr_files.specs.Files.{outcome_by}
use Rattle.sr_trim.specs.Said.{TrimSaid}
use Rattle.sr_trim.specs.Deciding.{stops, trims, passes_lsr, passes_core, ByPass}
use Rattle.sr_trim.specs.Lines.{Takes, HasErrCause}
use Rattle.sr_trim.specs.Passing.{Prepares}
use Rattle.sr_trim.specs.Reporting.{IsWanted, HasReport}
use Rattle.sr_trim.specs.declared.loading.Taken.TheVariants as taken
use Rattle.sr_trim.specs.declared.reporting.Wanted.{Wanted}

-- a file isn't read
pub unread : (w : Which) (e : InputError) (o : Outcome) → o ≡ outcome_by w e → is_verified o ≡ false
unread w e o is = ap is_verified is ∙ at e
  where
    at : (e : InputError) → is_verified (outcome_by w e) ≡ false
    at (fault.Text kind place) = refl
    at (fault.Limit kind) = refl
    at fault.Source = refl
    at fault.NoMemory = refl

-- and where a read of it failed, the count of its slot rose
pub unread_cause : (T : Type 0) (w : Which) (n : ℕ) (old new : Outside) (e : InputError) (o : Outcome) → o ≡ outcome_by w e
    → (is_source e ≡ true → Rose (old.slot n).faults (new.slot n).faults) → HasErrCause {T = T} w n old new (Err o)
unread_cause T w n old new e o is rose = subst (λ (x : Outcome). HasErrCause {T = T} w n old new (Err x)) (sym is) (at e rose)
  where
    at : (e : InputError) → (is_source e ≡ true → Rose (old.slot n).faults (new.slot n).faults) → HasErrCause {T = T} w n old new (Err (outcome_by w e))
    at (fault.Text kind place) rose = tt
    at (fault.Limit kind) rose = tt
    at fault.Source rose = (refl, rose refl)
    at fault.NoMemory rose = tt

-- a line ends loading
pub line_ends : (old new : LoaderState) (l : Line) (o : Outcome) → Takes old new l (taken.Ended o) → is_verified o ≡ false
line_ends old new l o (inl e) = ap is_verified e
line_ends old new l o (inr (inl limit)) = ap is_verified limit.2
line_ends old new l o (inr (inr empty)) = ap is_verified empty.3

-- the pass back stops
pass_stops : (lim : LimitValues) (s : TrimSaid) (f : Formula) (ds : List Done) (o : Outcome) → ByPass lim s f ds (stops o) → is_verified o ≡ false
pass_stops lim s f ds o (inl r) =
    let is : stops o ≡ stops (outcome.RejectedLemma r.lemma (Some r.against)) = r.is in
    let e : o ≡ outcome.RejectedLemma r.lemma (Some r.against) = cc in
    ap is_verified e
pass_stops lim s f ds o (inr p) = at (passes_lsr lim s f p.steps) refl (passes_core lim s f p.steps) refl
  where
    at : (x : Bool) → passes_lsr lim s f p.steps ≡ x → (y : Bool) → passes_core lim s f p.steps ≡ y → is_verified o ≡ false
    at true ex y ey = let e : stops o ≡ stops (outcome.Limit which.Lsr Bytes) = p.is ∙ rw ex refl in let i : o ≡ outcome.Limit which.Lsr Bytes = cc in ap is_verified i
    at false ex true ey = let e : stops o ≡ stops (outcome.Limit which.Core Bytes) = p.is ∙ rw (ex, ey) refl in let i : o ≡ outcome.Limit which.Core Bytes = cc in ap is_verified i
    at false ex false ey = let e : stops o ≡ trims f ds p.steps = p.is ∙ rw (ex, ey) refl in absurd cc

pub not_ready : (lim : LimitValues) (s : TrimSaid) (st : LoadedState) (o : Outcome) → Prepares lim s st (Err o) → is_verified o ≡ false
not_ready lim s st o (inl e) = ap is_verified e
not_ready lim s st o (inr by) = pass_stops lim s st.formula (all_lines st) o by

-- a run that isn't verified owes no report
pub none_owed : (w : Wanted) (o p : Outcome) (k : Counts) (bytes : List ℕ) → p ≡ o → is_verified o ≡ false → HasReport w p k bytes
none_owed w o p k bytes e n = λ v. let t : is_verified o ≡ true = ap is_verified (sym e ∙ v) in absurd cc

-- the report that was made is still there
pub still_wanted : (w : Wanted) (k l : Counts) (a b : List ℕ) → l ≡ k → b ≡ a → IsWanted w k a → IsWanted w l b
still_wanted w k l a b e s h = subst (λ (x : Counts). IsWanted w x b) (sym e) (subst (λ (y : List ℕ). IsWanted w k y) (sym s) h)
