-- The laws of the definitions. Each is the contract of a public function.
use Rattle.std.specs.Prelude.{ℕ, ◌≡◌, ◌⊎◌, Bool, true, false, List, [], ◌∷◌, ◌++◌}
use Rattle.sr_base.specs.Literal.{Literal}
use Rattle.sr_base.specs.declared.names.Cause.{Cause}
use Rattle.sr_model.specs.declared.verdict.Verdict.TheVariants.{Going, Verified, Rejected}
use Rattle.sr_model.specs.Assignment.{satisfies, satisfies_all, makes_all_true, Unsat}
use Rattle.sr_model.specs.Refutation.{Refutes}
use Rattle.sr_model.specs.Substitution.{Substitution}
use Rattle.sr_model.specs.Redundancy.{Rup, Sr, moved}
use Rattle.sr_model.specs.Chain.{Numbered, clauses, chain, closed, unclosed}
use Rattle.sr_model.specs.Meeting.{met}
use Rattle.sr_model.specs.Judging.{Item, Live, first_live, live_with, live_after, item_meets, ends_proof, ItemHasPivot, HavePivots, judge, start, after_items}

-- what is refuted holds under no assignment that satisfies the clauses
abbrev pub RefutationIsSound : Type 0
RefutationIsSound = (s : List (List Literal)) (a : List Literal) → Refutes s a
    → (t : List ℕ) → satisfies_all t s ≡ true → makes_all_true t a ≡ true → ⊥

-- a chain that closes refutes, strict or not
abbrev pub ClosedChainRefutes : Type 0
ClosedChainRefutes = (strict : Bool) (live : Numbered) (a : List Literal) (hints : List ℕ) → chain strict live a hints ≡ closed → Refutes (clauses live) a

-- where a chain ends unclosed, an assignment that satisfies the clauses and what was assumed makes all true that was reached
abbrev pub UnclosedChainKeeps : Type 0
UnclosedChainKeeps = (strict : Bool) (live : Numbered) (a b : List Literal) (hints : List ℕ) → chain strict live a hints ≡ unclosed b
    → (t : List ℕ) → satisfies_all t (clauses live) ≡ true → makes_all_true t a ≡ true → makes_all_true t b ≡ true

-- a clause with the property of reverse unit propagation holds in each assignment that satisfies the clauses
abbrev pub RupHolds : Type 0
RupHolds = (s : List (List Literal)) (c : List Literal) → Rup s c → (t : List ℕ) → satisfies_all t s ≡ true → satisfies t c ≡ true

-- an assignment that satisfies the clauses and not a substitution redundant one is moved to one that satisfies all
abbrev pub RedundancyKeeps : Type 0
RedundancyKeeps = (s : List (List Literal)) (c : List Literal) (w : Substitution) → Sr s s c w → (t : List ℕ) → satisfies_all t s ≡ true → satisfies t c ≡ false
    → (satisfies_all (moved w t) s ≡ true) × (satisfies (moved w t) c ≡ true)

-- so where the clauses with a redundant one have no solution, they have none without it
abbrev pub RedundancyIsSound : Type 0
RedundancyIsSound = (s : List (List Literal)) (c : List Literal) (w : Substitution) → Rup s c ⊎ Sr s s c w → Unsat (s ++ c ∷ []) → Unsat s

-- where an item is met and what is live after it has no solution, what was live before it has none
abbrev pub MetIsSound : Type 0
MetIsSound = (strict : Bool) (lv : Live) (item : Item) → ItemHasPivot item → item_meets strict lv item ≡ met
    → Unsat (clauses (live_with lv item).clauses) → Unsat (clauses lv.clauses)

-- where a step with the empty clause is met, what is live has no solution
abbrev pub EmptyIsSound : Type 0
EmptyIsSound = (strict : Bool) (lv : Live) (item : Item) → item_meets strict lv item ≡ met → ends_proof item ≡ true → Unsat (clauses lv.clauses)

-- what is verified has no solution
abbrev pub VerifiedIsUnsat : Type 0
VerifiedIsUnsat = (strict : Bool) (f : List (List Literal)) (items : List Item) → HavePivots items → judge strict f items ≡ Verified → Unsat f

-- what is verified under strict checking is verified without
abbrev pub StrictIsVerified : Type 0
StrictIsVerified = (f : List (List Literal)) (items : List Item) → judge true f items ≡ Verified → judge false f items ≡ Verified

-- the items taken from a new checker end with the verdict on them
abbrev pub TakingJudges : Type 0
TakingJudges = (strict : Bool) (f : List (List Literal)) (items : List Item) → (after_items strict (start f) items).verdict ≡ judge strict f items

-- while the verdict is open they end with the clauses that are live after them
abbrev pub TakingKeepsLive : Type 0
TakingKeepsLive = (strict : Bool) (f : List (List Literal)) (items : List Item) → judge strict f items ≡ Going
    → (after_items strict (start f) items).live ≡ live_after (first_live f) items

-- and where one is rejected, with those that were live before it
abbrev pub RejectionKeepsLive : Type 0
RejectionKeepsLive = (strict : Bool) (f : List (List Literal)) (before items : List Item) (item : Item) (id : ℕ) (x : Cause)
    → judge strict f before ≡ Going → judge strict f (before ++ item ∷ []) ≡ Rejected id x
    → (after_items strict (start f) (before ++ item ∷ items)).live ≡ live_after (first_live f) before

-- and where the empty clause verifies the proof, with those that were live before it
abbrev pub VerificationKeepsLive : Type 0
VerificationKeepsLive = (strict : Bool) (f : List (List Literal)) (before items : List Item) (item : Item)
    → judge strict f before ≡ Going → judge strict f (before ++ item ∷ []) ≡ Verified
    → (after_items strict (start f) (before ++ item ∷ items)).live ≡ live_after (first_live f) before
