-- What taking an item says of judging.
use Rattle.std.proofs.Common.{sym, ◌≡◌, ℕ, Bool, true, false, ◌&&◌, Some, None, refl, ◌∙◌}
use Rattle.sr_base.specs.declared.names.Cause.{Cause}
use Rattle.sr_model.specs.Refutation.{is_empty}
use Rattle.sr_model.specs.Meeting.{Meeting, met, unmet}
use Rattle.sr_model.specs.Judging.{Item, stepped, dropped, Live, live_with, item_meets, item_number, ends_proof, after_meeting, after_item}
use Rattle.sr_model.specs.declared.verdict.Verdict.TheVariants.{Going, Verified, Rejected}
use Rattle.sr_base.specs.declared.names.Which.TheVariants as which
use Rattle.sr_base.specs.declared.names.LimitKind.TheVariants.{Cells}
use Rattle.sr_check.specs.Checking.{Checking, is_met, passes_cells}
use Rattle.sr_emit.specs.declared.outcome.Outcome.TheVariants as outcome
use Rattle.sr_cli.specs.Check.{grows_past, by_item, by_meeting}

passes_is : (c : Checking) (it : Item) → passes_cells c it ≡ (is_met (item_meets c.strict c.state.live it) && grows_past c.most c.state.live it)
passes_is c (stepped s) = refl
passes_is c (dropped id ids) = at (is_met (item_meets c.strict c.state.live (dropped id ids)))
  where
    at : (b : Bool) → false ≡ (b && false)
    at true = refl
    at false = refl

-- going on: the item is met, isn't the last, and its clause fits
pub taken_going : (c : Checking) (it : Item) → (after_item c.strict c.state it).verdict ≡ Going → passes_cells c it ≡ false
    → (by_item c.most c.strict c.state.live it ≡ None) × (after_item c.strict c.state it ≡ record { live = live_with c.state.live it; verdict = Going })
taken_going c it v p = go (item_meets c.strict c.state.live it) v (sym (passes_is c it) ∙ p)
  where
    go : (m : Meeting) → (after_meeting c.state it m).verdict ≡ Going → (is_met m && grows_past c.most c.state.live it) ≡ false
        → (by_meeting c.most c.state.live it m ≡ None) × (after_meeting c.state it m ≡ record { live = live_with c.state.live it; verdict = Going })
    go (unmet x) v p = absurd cc
    go met v p = at (ends_proof it) refl (grows_past c.most c.state.live it) refl
      where
        at : (e : Bool) → ends_proof it ≡ e → (g : Bool) → grows_past c.most c.state.live it ≡ g
            → (by_meeting c.most c.state.live it met ≡ None) × (after_meeting c.state it met ≡ record { live = live_with c.state.live it; verdict = Going })
        at true e g h = let bad : Verified ≡ Going = rw e at v in absurd cc
        at false e true h = let bad : true ≡ false = rw h at p in absurd cc
        at false e false h = (rw (e, h) refl, rw e refl)

pub taken_verified : (c : Checking) (it : Item) → (after_item c.strict c.state it).verdict ≡ Verified → by_item c.most c.strict c.state.live it ≡ Some outcome.Verified
taken_verified c it v = go (item_meets c.strict c.state.live it) v
  where
    go : (m : Meeting) → (after_meeting c.state it m).verdict ≡ Verified → by_meeting c.most c.state.live it m ≡ Some outcome.Verified
    go (unmet x) v = absurd cc
    go met v = at (ends_proof it) refl
      where
        at : (e : Bool) → ends_proof it ≡ e → by_meeting c.most c.state.live it met ≡ Some outcome.Verified
        at true e = rw e refl
        at false e = let bad : Going ≡ Verified = rw e at v in absurd cc

pub taken_rejected : (c : Checking) (it : Item) (id : ℕ) (x : Cause) → (after_item c.strict c.state it).verdict ≡ Rejected id x → by_item c.most c.strict c.state.live it ≡ Some (outcome.RejectedStep id x)
taken_rejected c it id x v = go (item_meets c.strict c.state.live it) v
  where
    go : (m : Meeting) → (after_meeting c.state it m).verdict ≡ Rejected id x → by_meeting c.most c.state.live it m ≡ Some (outcome.RejectedStep id x)
    go (unmet y) v = let n : item_number it ≡ id = cc in let s : y ≡ x = cc in rw (n, s) refl
    go met v = at (ends_proof it) refl
      where
        at : (e : Bool) → ends_proof it ≡ e → by_meeting c.most c.state.live it met ≡ Some (outcome.RejectedStep id x)
        at true e = let bad : Verified ≡ Rejected id x = rw e at v in absurd cc
        at false e = let bad : Going ≡ Rejected id x = rw e at v in absurd cc

grown_not_last : (most : ℕ) (lv : Live) (it : Item) → grows_past most lv it ≡ true → ends_proof it ≡ false
grown_not_last most lv (dropped id ids) h = refl
grown_not_last most lv (stepped s) h = at (is_empty s.clause) refl
  where
    at : (e : Bool) → is_empty s.clause ≡ e → is_empty s.clause ≡ false
    at true e = let bad : false ≡ true = rw e at h in absurd cc
    at false e = e

pub taken_past : (c : Checking) (it : Item) → passes_cells c it ≡ true → by_item c.most c.strict c.state.live it ≡ Some (outcome.Limit which.Proof Cells)
taken_past c it p = go (item_meets c.strict c.state.live it) (sym (passes_is c it) ∙ p)
  where
    go : (m : Meeting) → (is_met m && grows_past c.most c.state.live it) ≡ true → by_meeting c.most c.state.live it m ≡ Some (outcome.Limit which.Proof Cells)
    go (unmet x) p = absurd cc
    go met p = rw (grown_not_last c.most c.state.live it p, p) refl
