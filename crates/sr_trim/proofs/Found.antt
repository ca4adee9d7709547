-- From reading, passing and writing to what `trim` finds.
use Rattle.std.proofs.Common.{◌≡◌, ◌∙◌, ◌⊎◌, inl, inr, ◌≤◌, Bool, true, false, List, Some, Ok, refl, sym, subst}
use Rattle.sr_base.specs.declared.names.Which.TheVariants as which
use Rattle.sr_base.specs.declared.names.LimitKind.TheVariants.{Bytes}
use Rattle.sr_model.specs.Dimacs.{Formula}
use Rattle.sr_trimming.specs.Loading.{Done}
use Rattle.sr_base.specs.Limits.{LimitValues}
use Rattle.sr_base.specs.Contents.{Contents}
use Rattle.sr_desk.specs.Outside.{Outside, Agrees}
use Rattle.sr_load.specs.Loading.{LoaderState}
use Rattle.sr_emit.specs.declared.outcome.Outcome.{Outcome}
use Rattle.sr_emit.specs.declared.outcome.Outcome.TheVariants as outcome
use Rattle.sr_emit.specs.declared.counts.Counts.{Counts}
use Rattle.sr_files.specs.Files.{ReadsFiles, GivesFile, HasReadCause}
use Rattle.sr_trim.specs.Said.{TrimSaid}
use Rattle.sr_trim.specs.Deciding.{Decision, stops, trims, passes_lsr, passes_core, ByPass, IsDecided}
use Rattle.sr_trim.specs.Lines.{LoadsFiles}
use Rattle.sr_trim.specs.Passing.{PassesTo}
use Rattle.sr_trim.specs.Finding.{Finds, HasDecidedCause, ReadsTexts, FindsBetween}

module _ (lim : LimitValues) (s : TrimSaid) (old mid : Outside) where
  -- it ended before anything was written
  pub found_stop : (o : Outcome) (k : Counts) → ReadsFiles old mid → GivesFile 0 s.formula old mid → (2 ≤ mid.begun → GivesFile 1 s.proof old mid)
      → HasReadCause old mid o
      → (o ≡ outcome.NoMemory) ⊎ ((formula proof : Contents) → Agrees (mid.slot 0) formula → Agrees (mid.slot 1) proof → IsDecided lim s formula proof (stops o) mid.begun)
      → Finds lim s old mid o k
  found_stop o k slots formula proof cause (inl e) = inl (record { is = e; reads = inr slots; formula = λ le. formula; proof = proof })
  found_stop o k slots formula proof cause (inr by) = inr (record {
    decision = stops o;
    mid = mid;
    reads = slots;
    decided = by;
    formula = formula;
    proof = proof;
    writes = (refl, refl);
    counts = tt;
    cause = cause;
  })

-- what the pass answers is no failed read
pub pass_cause : (lim : LimitValues) (s : TrimSaid) (f : Formula) (ds : List Done) (old mid : Outside) (o : Outcome) → ByPass lim s f ds (stops o) → HasReadCause old mid o
pass_cause lim s f ds old mid o (inl r) =
    let is : stops o ≡ stops (outcome.RejectedLemma r.lemma (Some r.against)) = r.is in
    let e : o ≡ outcome.RejectedLemma r.lemma (Some r.against) = cc in subst (λ (x : Outcome). HasReadCause old mid x) (sym e) tt
pass_cause lim s f ds old mid o (inr p) = at (passes_lsr lim s f p.steps) refl (passes_core lim s f p.steps) refl
  where
    at : (x : Bool) → passes_lsr lim s f p.steps ≡ x → (y : Bool) → (passes_core lim s f p.steps) ≡ y → HasReadCause old mid o
    at true ex y ey = let e : stops o ≡ stops (outcome.Limit which.Lsr Bytes) = p.is ∙ rw ex refl in let i : o ≡ outcome.Limit which.Lsr Bytes = cc in subst (λ (x : Outcome). HasReadCause old mid x) (sym i) tt
    at false ex true ey = let e : stops o ≡ stops (outcome.Limit which.Core Bytes) = p.is ∙ rw (ex, ey) refl in let i : o ≡ outcome.Limit which.Core Bytes = cc in subst (λ (x : Outcome). HasReadCause old mid x) (sym i) tt
    at false ex false ey = let e : stops o ≡ trims f ds p.steps = p.is ∙ rw (ex, ey) refl in absurd cc

cause_of : (lim : LimitValues) (s : TrimSaid) (f : Formula) (ds : List Done) (old mid : Outside) (d : Decision) → ByPass lim s f ds d → HasDecidedCause old mid d
cause_of lim s f ds old mid (stops o) by = pass_cause lim s f ds old mid o by
cause_of lim s f ds old mid (trims g es steps) by = tt

-- what the pass comes to is what is found
pub found_pass : (lim : LimitValues) (s : TrimSaid) (old mid : Outside) (st : LoaderState) (new : Outside) (o : Outcome) (k : Counts) → ReadsFiles old mid → GivesFile 0 s.formula old mid
    → (2 ≤ mid.begun → GivesFile 1 s.proof old mid) → LoadsFiles lim s mid (Ok st) → PassesTo lim s st.formula st.done mid new o k → Finds lim s old new o k
found_pass lim s old mid st new o k slots formula proof loads (inl e) =
    subst (λ (x : Outside). Finds lim s old x o k) (sym e.0) (inl (record { is = e.1; reads = inr slots; formula = λ le. formula; proof = proof }))
found_pass lim s old mid st new o k slots formula proof loads (inr p) = inr (record {
  decision = p.0;
  mid = mid;
  reads = slots;
  decided = loads.1 p.0 p.1;
  formula = formula;
  proof = proof;
  writes = p.2;
  counts = p.3;
  cause = cause_of lim s st.formula st.done old mid p.0 p.1;
})

-- reading from one outside ended before anything was written to another
pub between_stop : (lim : LimitValues) (s : TrimSaid) (from_old from_new old : Outside) (o : Outcome) (k : Counts) → ReadsTexts s from_old from_new → HasReadCause from_old from_new o
    → (o ≡ outcome.NoMemory) ⊎ ((formula proof : Contents) → Agrees (from_new.slot 0) formula → Agrees (from_new.slot 1) proof → IsDecided lim s formula proof (stops o) from_new.begun)
    → FindsBetween lim s from_old from_new old old o k
between_stop lim s from_old from_new old o k reads cause (inl e) = (reads, inl (e, refl))
between_stop lim s from_old from_new old o k reads cause (inr by) = (reads, inr (record { decision = stops o; decided = by; writes = (refl, refl); counts = tt; cause = cause }))

-- what the pass comes to was written to the other
pub between_pass : (lim : LimitValues) (s : TrimSaid) (from_old from_new : Outside) (st : LoaderState) (old new : Outside) (o : Outcome) (k : Counts) → ReadsTexts s from_old from_new
    → LoadsFiles lim s from_new (Ok st) → PassesTo lim s st.formula st.done old new o k → FindsBetween lim s from_old from_new old new o k
between_pass lim s from_old from_new st old new o k reads loads (inl e) = (reads, inl (e.1, e.0))
between_pass lim s from_old from_new st old new o k reads loads (inr p) = (
  reads,
  inr (record {
    decision = p.0;
    decided = loads.1 p.0 p.1;
    writes = p.2;
    counts = p.3;
    cause = cause_of lim s st.formula st.done from_old from_new p.0 p.1;
  }),
)
