-- Which slots `trim` touches.
use Rattle.std.proofs.Common.{◌≡◌, ◌∙◌, inl, inr, ◌+◌, ◌-◌, ◌≤◌, ◌<◌, ℕ, List, Option, Some, None, refl, sym, subst, arith}
use Rattle.sr_base.specs.declared.names.Which.{Which}
use Rattle.sr_base.specs.declared.names.Which.TheVariants as which
use Rattle.sr_desk.specs.Outside.{Outside, SlotState, Rose}
use Rattle.sr_emit.specs.declared.outcome.Outcome.{Outcome}
use Rattle.sr_emit.specs.declared.outcome.Outcome.TheVariants as outcome
use Rattle.sr_emit.specs.declared.counts.Counts.{Counts}
use Rattle.sr_base.specs.Limits.{LimitValues}
use Rattle.sr_files.specs.Files.{ReadsFiles, HasReadCause}
use Rattle.sr_files.specs.Written.{OnlyWritesNext, IsCutOff}
use Rattle.sr_trim.specs.Said.{TrimSaid}
use Rattle.sr_trim.specs.Deciding.{Decision, stops, trims}
use Rattle.sr_trim.specs.Outputs.{WritesOne, WritesTwo, Writes}
use Rattle.sr_trim.specs.Finding.{Finds, Trims}

-- slots were begun, so many at most, and no others changed
pub record Begins (most : ℕ) (old new : Outside) : Type 0 where
  pub grows : old.begun ≤ new.begun
  pub few : new.begun ≤ old.begun + most
  pub below : (k : ℕ) → k < old.begun → new.slot k ≡ old.slot k
  pub above : (k : ℕ) → new.begun ≤ k → new.slot k ≡ old.slot k

pub begins_none : (old new : Outside) → new ≡ old → Begins 0 old new
begins_none old new e = subst (λ (o : Outside). Begins 0 old o) (sym e) (record { grows = omega arith; few = omega arith; below = λ k lt. refl; above = λ k le. refl })

begins_one : (name : List ℕ) (old new : Outside) → OnlyWritesNext name old new → Begins 1 old new
begins_one name old new h = record {
  grows = omega (arith, h.begun);
  few = omega (arith, h.begun);
  below = λ k lt. h.elsewhere k (λ e. omega (arith, e, lt));
  above = λ k le. h.elsewhere k (λ e. omega (arith, e, le, h.begun));
}

pub begins_more : (m n : ℕ) (old new : Outside) → m ≤ n → Begins m old new → Begins n old new
begins_more m n old new le h = record { grows = h.grows; few = omega (arith, h.few, le); below = h.below; above = h.above }

pub begins_then : (m n : ℕ) (old mid new : Outside) → Begins m old mid → Begins n mid new → Begins (m + n) old new
begins_then m n old mid new a b = record {
  grows = omega (arith, a.grows, b.grows);
  few = omega (arith, a.few, b.few);
  below = λ k lt. b.below k (omega (arith, lt, a.grows)) ∙ a.below k lt;
  above = λ k le. b.above k le ∙ a.above k (omega (arith, le, b.grows));
}

pub one_begins : (w : Which) (name bytes : Option (List ℕ)) (old new : Outside) (o : Outcome) → WritesOne w name bytes old new o → Begins 1 old new
one_begins w (Some name) (Some bytes) old new o (inl h) = begins_one name old new h.0.only
one_begins w (Some name) (Some bytes) old new o (inr h) = begins_one name old new h.0.only
one_begins w (Some name) None old new o h = begins_more 0 1 old new (omega arith) (begins_none old new h.0)
one_begins w None bytes old new o h = begins_more 0 1 old new (omega arith) (begins_none old new h.0)

two_begin : (lsr lsr_bytes core core_bytes : Option (List ℕ)) (old new : Outside) (o : Outcome) → WritesTwo lsr lsr_bytes core core_bytes old new o → Begins 2 old new
two_begin lsr lsr_bytes core core_bytes old new o (inl h) =
    begins_then 1 1 old h.mid new (one_begins which.Lsr lsr lsr_bytes old h.mid outcome.Verified h.lsr_written) (one_begins which.Core core core_bytes h.mid new o h.core_written)
two_begin lsr lsr_bytes core core_bytes old new o (inr h) = begins_more 1 2 old new (omega arith) (one_begins which.Lsr lsr lsr_bytes old new o h.0)

pub writes_begin : (s : TrimSaid) (d : Decision) (old new : Outside) (o : Outcome) → Writes s d old new o → Begins 2 old new
writes_begin s (stops x) old new o h = begins_more 0 2 old new (omega arith) (begins_none old new h.0)
writes_begin s (trims f ds steps) old new o h = two_begin s.lsr _ s.core _ old new o h

pub reads_begin : (old new : Outside) → old.begun ≡ 0 → ReadsFiles old new → Begins 2 old new
reads_begin old new zero (inl r) = record {
  grows = omega (arith, zero);
  few = omega (arith, r.begun, zero);
  below = λ k lt. r.before k lt;
  above = λ k le. r.others k (omega (arith, le, r.begun));
}
reads_begin old new zero (inr r) = record {
  grows = omega (arith, zero);
  few = omega (arith, r.begun, zero);
  below = λ k lt. r.before k lt;
  above = λ k le. r.others k (omega (arith, le, r.begun));
}

-- four files at most are begun
pub finds_begin : (lim : LimitValues) (s : TrimSaid) (old new : Outside) (o : Outcome) (k : Counts) → old.begun ≡ 0 → Finds lim s old new o k → Begins 4 old new
finds_begin lim s old new o k zero (inl h) = elim h.reads [
  | inl e ↦ begins_more 0 4 old new (omega arith) (begins_none old new e)
  | inr r ↦ begins_more 2 4 old new (omega arith) (reads_begin old new zero r)
]
finds_begin lim s old new o k zero (inr h) = begins_then 2 2 old h.mid new (reads_begin old h.mid zero h.reads) (writes_begin s h.decision h.mid new o h.writes)

pub some_read : (old mid : Outside) → ReadsFiles old mid → 0 < mid.begun
some_read old mid (inl r) = omega (arith, r.begun)
some_read old mid (inr r) = omega (arith, r.begun)

-- what the formula's slot gave stays
pub formula_stays : (lim : LimitValues) (s : TrimSaid) (old new : Outside) (o : Outcome) (k : Counts) (h : Trims lim s old new o k) → new.slot 0 ≡ h.mid.slot 0
formula_stays lim s old new o k h = (writes_begin s h.decision h.mid new o h.writes).below 0 (some_read old h.mid h.reads)

-- a fault of a file that is written is told by the last slot that was begun
cut_cause : (name bytes : List ℕ) (first old new : Outside) → Begins 4 first old → IsCutOff name bytes old new → Rose (first.slot (new.begun - 1)).faults (new.slot (new.begun - 1)).faults
cut_cause name bytes first old new b h =
    let n : new.begun - 1 ≡ old.begun = omega (arith, h.only.begun) in
    subst (λ k. Rose (first.slot k).faults (new.slot k).faults) (sym n) (subst (λ (x : SlotState). Rose x.faults (new.slot old.begun).faults) (b.above old.begun (omega arith)) h.rose)

abbrev pub SinkCause : Outside → Outside → Outcome → Type 0
SinkCause first new (outcome.SinkFault which.Lsr) = Rose (first.slot (new.begun - 1)).faults (new.slot (new.begun - 1)).faults
SinkCause first new (outcome.SinkFault which.Core) = Rose (first.slot (new.begun - 1)).faults (new.slot (new.begun - 1)).faults
SinkCause first new (outcome.SinkFault w) = ⊥
SinkCause first new o = Unit {0}

lsr_cause : (name bytes : Option (List ℕ)) (first old new : Outside) (o : Outcome) → Begins 4 first old → WritesOne which.Lsr name bytes old new o → SinkCause first new o
lsr_cause (Some name) (Some bytes) first old new o b (inl h) = subst (λ (x : Outcome). SinkCause first new x) (sym h.1) tt
lsr_cause (Some name) (Some bytes) first old new o b (inr h) = subst (λ (x : Outcome). SinkCause first new x) (sym h.1) (cut_cause name bytes first old new b h.0)
lsr_cause (Some name) None first old new o b h = subst (λ (x : Outcome). SinkCause first new x) (sym h.1) tt
lsr_cause None bytes first old new o b h = subst (λ (x : Outcome). SinkCause first new x) (sym h.1) tt

core_cause : (name bytes : Option (List ℕ)) (first old new : Outside) (o : Outcome) → Begins 4 first old → WritesOne which.Core name bytes old new o → SinkCause first new o
core_cause (Some name) (Some bytes) first old new o b (inl h) = subst (λ (x : Outcome). SinkCause first new x) (sym h.1) tt
core_cause (Some name) (Some bytes) first old new o b (inr h) = subst (λ (x : Outcome). SinkCause first new x) (sym h.1) (cut_cause name bytes first old new b h.0)
core_cause (Some name) None first old new o b h = subst (λ (x : Outcome). SinkCause first new x) (sym h.1) tt
core_cause None bytes first old new o b h = subst (λ (x : Outcome). SinkCause first new x) (sym h.1) tt

pub two_cause : (lsr lsr_bytes core core_bytes : Option (List ℕ)) (first old new : Outside) (o : Outcome) → Begins 2 first old → WritesTwo lsr lsr_bytes core core_bytes old new o → SinkCause first new o
two_cause lsr lsr_bytes core core_bytes first old new o b (inl h) =
    core_cause core core_bytes first h.mid new o (begins_more 3 4 first h.mid (omega arith) (begins_then 2 1 first old h.mid b (one_begins which.Lsr lsr lsr_bytes old h.mid outcome.Verified h.lsr_written))) h.core_written
two_cause lsr lsr_bytes core core_bytes first old new o b (inr h) = lsr_cause lsr lsr_bytes first old new o (begins_more 2 4 first old (omega arith) b) h.0

-- what is found is a failed read only where its count rose, and a fault of a file that is written likewise
abbrev pub FoundCause : Outside → Outside → Outcome → Type 0
FoundCause old new (outcome.SinkFault w) = SinkCause old new (outcome.SinkFault w)
FoundCause old new o = HasReadCause old new o
