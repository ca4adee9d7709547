-- From the calls on the files that are written to what is left.
use Rattle.std.proofs.Common.{◌≡◌, ◌∙◌, inl, inr, ℕ, true, List, Option, Ok, Err, refl, sym, ap, subst}
use Rattle.std.specs.Prelude.{option_map}
use Rattle.sr_base.specs.declared.names.Which.TheVariants as which
use Rattle.sr_model.specs.Dimacs.{Formula}
use Rattle.sr_model.specs.Meeting.{Step}
use Rattle.sr_desk.specs.Outside.{Outside}
use Rattle.sr_emit.specs.declared.outcome.Outcome.{Outcome}
use Rattle.sr_emit.specs.declared.outcome.Outcome.TheVariants as outcome
use Rattle.sr_emit.specs.Status.{is_verified}
use Rattle.sr_trimming.specs.Reordered.{AreStepsRewritten}
use Rattle.sr_placing.specs.Placing.{PlacingValue, placing_of}
use Rattle.sr_load.specs.Loaded.{LoadedState, all_lines}
use Rattle.sr_steps.specs.Kept.{Kept}
use Rattle.sr_trim.specs.Said.{TrimSaid}
use Rattle.sr_base.specs.Limits.{LimitValues}
use Rattle.sr_trimming.specs.Loading.{Done}
use Rattle.sr_emit.specs.declared.counts.Counts.{Counts}
use Rattle.sr_trim.specs.declared.ready.Ready.{Ready}
use Rattle.sr_trim.specs.Deciding.{trims}
use Rattle.sr_trim.specs.Passing.{kept_steps, IsPlaced, PreparesTo, PassesTo}
use Rattle.sr_trim.specs.Outputs.{WritesOne, WritesTwo, asked_lsr, asked_core}
use Rattle.sr_trim.proofs.Passed.{core_text_same, passed}

verified_is : (o : Outcome) → is_verified o ≡ true → o ≡ outcome.Verified
verified_is outcome.Verified e = refl
verified_is (outcome.RejectedStep id cause) e = absurd cc
verified_is (outcome.RejectedLemma lemma against) e = absurd cc
verified_is outcome.NoEmptyClause e = absurd cc
verified_is (outcome.Usage kind) e = absurd cc
verified_is (outcome.Text which kind place) e = absurd cc
verified_is (outcome.Limit which kind) e = absurd cc
verified_is (outcome.SourceFault which) e = absurd cc
verified_is (outcome.SinkFault which) e = absurd cc
verified_is outcome.NoMemory e = absurd cc
verified_is (outcome.Helped topic) e = absurd cc

-- the core is that of the steps as they are written
asked_same : (s : TrimSaid) (f : Formula) (ss ts : List Step) → AreStepsRewritten ss ts → asked_core s f ss ≡ asked_core s f ts
asked_same s f ss ts w = ap (λ (x : List ℕ). option_map (λ name. x) s.core) (core_text_same f ss ts w)

-- both files were written, or the core's wasn't
pub both_written : (s : TrimSaid) (st : LoadedState) (ks : List Kept) (p : PlacingValue) (g : Formula) (old mid new : Outside) (o q : Outcome)
    → (ts : List Step) × AreStepsRewritten (kept_steps st ks) ts × WritesOne which.Lsr s.lsr (asked_lsr s st.formula ts) old mid o → is_verified o ≡ true → IsPlaced st ks p → g ≡ st.formula
    → ((ss : List Step) → p ≡ placing_of g.clauses ss → WritesOne which.Core s.core (asked_core s g ss) mid new q)
    → (ts : List Step) × AreStepsRewritten (kept_steps st ks) ts × WritesTwo s.lsr (asked_lsr s st.formula ts) s.core (asked_core s st.formula ts) old new q
both_written s st ks p g old mid new o q w e placed is core =
    let ss : List Step = kept_steps st ks in
    let as_read : WritesOne which.Core s.core (asked_core s st.formula (kept_steps st ks)) mid new q = subst (λ (f : Formula). WritesOne which.Core s.core (asked_core s f ss) mid new q) is
    (core (kept_steps st ks) (placed ∙ ap (λ (f : Formula). placing_of f.clauses ss) (sym is))) in (
      w.0,
      w.1,
      inl (record {
        mid = mid;
        lsr_written = subst (λ (x : Outcome). WritesOne which.Lsr s.lsr (asked_lsr s st.formula w.0) old mid x) (verified_is o e) w.2;
        core_written = subst (λ (x : Option (List ℕ)). WritesOne which.Core s.core x mid new q) (asked_same s st.formula ss w.0 w.1) as_read;
      }),
    )

-- what was ready was written
pub ready_written : (lim : LimitValues) (s : TrimSaid) (old new : LoadedState) (r : Ready) (before after : Outside) (o : Outcome) (k : Counts) → PreparesTo lim s old new (Ok r)
    → (ts : List Step) × AreStepsRewritten (kept_steps new r.steps) ts × WritesTwo s.lsr (asked_lsr s new.formula ts) s.core (asked_core s new.formula ts) before after o → k ≡ r.counts
    → PassesTo lim s old.formula old.standing before after o k
ready_written lim s old new r before after o k p w e =
    let h = p.prepares in
    let here : PassesTo lim s new.formula (all_lines new) before after o k =
    inr (trims new.formula (all_lines new) w.0, passed lim s new r.steps h.distinct h.writable w.0 w.1 (h.fits w.0 w.1), w.2, e ∙ h.counts w.0 w.1) in
    subst (λ (f : Formula). PassesTo lim s f old.standing before after o k) p.formula (subst (λ (ds : List Done). PassesTo lim s new.formula ds before after o k) p.lines here)
