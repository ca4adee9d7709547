-- Under which names `trim` and `demo` begin files.
use Rattle.std.proofs.Common.{◌≡◌, ◌∙◌, ◌⊎◌, inl, inr, ◌+◌, ◌≤◌, ◌<◌, ℕ, zero, suc, List, [], ◌∷◌, Option, Some, None, refl, sym, ap, subst, arith}
use Rattle.std.proofs.lemmas.Bool.Decides.{nat_tests}
use Rattle.sr_base.specs.declared.names.Which.{Which}
use Rattle.sr_base.specs.declared.names.Which.TheVariants as which
use Rattle.sr_base.specs.Limits.{LimitValues}
use Rattle.sr_desk.specs.Outside.{Outside, SlotState}
use Rattle.sr_emit.specs.declared.outcome.Outcome.{Outcome}
use Rattle.sr_emit.specs.declared.outcome.Outcome.TheVariants as outcome
use Rattle.sr_emit.specs.declared.counts.Counts.{Counts}
use Rattle.sr_files.specs.Files.{ReadsFiles, GivesFile, IsOnlyRead}
use Rattle.sr_files.specs.Written.{OnlyWritesNext}
use Rattle.sr_trim.specs.Said.{TrimSaid}
use Rattle.sr_trim.specs.Deciding.{Decision, stops, trims}
use Rattle.sr_trim.specs.Outputs.{WritesOne, WritesTwo, Writes}
use Rattle.sr_trim.specs.Finding.{Finds}
use Rattle.sr_trim.proofs.Opened.{gives_still}
use Rattle.sr_cli.specs.Touching.{IsGiven, WritesOneOf, OnlyChanges, ReadsFile, trim_outputs, IsTrimSlot}
use Rattle.sr_cli.proofs.Touched.{Begins, one_begins, writes_begin, some_read}

-- the slots that were begun write files of these names, and no other file changed
pub record BeginsNamed (names : List (Option (List ℕ))) (old new : Outside) : Type 0 where
  pub slots : (k : ℕ) → old.begun ≤ k → k < new.begun → WritesOneOf names (new.slot k)
  pub file : OnlyChanges names old new

pub named_none : (names : List (Option (List ℕ))) (old new : Outside) → new ≡ old → BeginsNamed names old new
named_none names old new e = subst (λ (o : Outside). BeginsNamed names old o) (sym e) (record { slots = λ k le lt. absurd (omega arith); file = λ other apart. refl })

named_next : (names : List (Option (List ℕ))) (name : List ℕ) (old new : Outside) → IsGiven name names → OnlyWritesNext name old new → BeginsNamed names old new
named_next names name old new given h = record {
  slots = λ k le lt.
      let is : k ≡ old.begun = omega (arith, h.begun) in
      (name, (ap (λ (n : ℕ). (new.slot n).writes_to) is ∙ h.named, given));
  file = λ other apart. h.file other (λ e. apart (subst (λ (n : List ℕ). IsGiven n names) (sym e) given));
}

-- a name that is asked for is one of these
abbrev pub IsAmong : Option (List ℕ) → List (Option (List ℕ)) → Type 0
IsAmong name names = (n : List ℕ) → name ≡ Some n → IsGiven n names

pub one_named : (names : List (Option (List ℕ))) (w : Which) (name bytes : Option (List ℕ)) (old new : Outside) (o : Outcome) → IsAmong name names → WritesOne w name bytes old new o → BeginsNamed names old new
one_named names w (Some name) (Some bytes) old new o among (inl h) = named_next names name old new (among name refl) h.0.only
one_named names w (Some name) (Some bytes) old new o among (inr h) = named_next names name old new (among name refl) h.0.only
one_named names w (Some name) None old new o among h = named_none names old new h.0
one_named names w None bytes old new o among h = named_none names old new h.0

at_or_past : (k n : ℕ) → (k < n) ⊎ (n ≤ k)
at_or_past k n = grind (arith, nat_tests)

pub named_then : (names : List (Option (List ℕ))) (m : ℕ) (old mid new : Outside) → BeginsNamed names old mid → Begins m mid new → BeginsNamed names mid new → BeginsNamed names old new
named_then names m old mid new a b c = record {
  slots = λ k le lt. elim (at_or_past k mid.begun) [
    | inl low ↦ subst (λ (s : SlotState). WritesOneOf names s) (sym (b.below k low)) (a.slots k le low)
    | inr high ↦ c.slots k high lt
  ];
  file = λ other apart. c.file other apart ∙ a.file other apart;
}

two_named : (lsr lsr_bytes core core_bytes : Option (List ℕ)) (old new : Outside) (o : Outcome) → WritesTwo lsr lsr_bytes core core_bytes old new o → BeginsNamed (lsr ∷ core ∷ []) old new
two_named lsr lsr_bytes core core_bytes old new o (inl h) =
    named_then (lsr ∷ core ∷ []) 1 old h.mid new (one_named (lsr ∷ core ∷ []) which.Lsr lsr lsr_bytes old h.mid outcome.Verified (λ n e. inl e) h.lsr_written)
    (one_begins which.Core core core_bytes h.mid new o h.core_written) (one_named (lsr ∷ core ∷ []) which.Core core core_bytes h.mid new o (λ n e. inr (inl e)) h.core_written)
two_named lsr lsr_bytes core core_bytes old new o (inr h) = one_named (lsr ∷ core ∷ []) which.Lsr lsr lsr_bytes old new o (λ n e. inl e) h.0

writes_named : (s : TrimSaid) (d : Decision) (old new : Outside) (o : Outcome) → Writes s d old new o → BeginsNamed (trim_outputs s) old new
writes_named s (stops x) old new o h = named_none (trim_outputs s) old new h.0
writes_named s (trims f ds steps) old new o h = two_named s.lsr _ s.core _ old new o h

-- a slot that only read
only_read : (old mid : Outside) (k : ℕ) → ReadsFiles old mid → IsOnlyRead (old.slot k) (mid.slot k)
only_read old mid k (inl r) = r.only k
only_read old mid k (inr r) = r.only k

two_read : (old mid : Outside) → ReadsFiles old mid → mid.begun ≤ 2
two_read old mid (inl r) = omega (arith, r.begun)
two_read old mid (inr r) = omega (arith, r.begun)

read_file : (old mid : Outside) → ReadsFiles old mid → mid.file ≡ old.file
read_file old mid (inl r) = r.file
read_file old mid (inr r) = r.file

-- a slot that stays as it is reads what it read
pub reads_still : (n : ℕ) (name : List ℕ) (old mid new : Outside) → new.slot n ≡ mid.slot n → ReadsFile n name old mid → ReadsFile n name old new
reads_still n name old mid new e h = record { gives = gives_still n name old old mid new refl e h.gives; writes = ap (λ (x : SlotState). x.writes) e ∙ h.writes }

pub slot_still : (s : TrimSaid) (old mid new : Outside) (k : ℕ) → new.slot k ≡ mid.slot k → IsTrimSlot s old mid k → IsTrimSlot s old new k
slot_still s old mid new zero e h = reads_still 0 s.formula old mid new e h
slot_still s old mid new (suc k) e (inl h) = inl (h.0, reads_still 1 s.proof old mid new (ap (λ (n : ℕ). new.slot (suc n)) (sym h.0) ∙ e ∙ ap (λ (n : ℕ). mid.slot (suc n)) h.0) h.1)
slot_still s old mid new (suc k) e (inr h) = inr (subst (λ (x : SlotState). WritesOneOf (trim_outputs s) x) (sym e) h)

-- the slots of what is read
read_slots : (s : TrimSaid) (old mid : Outside) → ReadsFiles old mid → (1 ≤ mid.begun → GivesFile 0 s.formula old mid) → (2 ≤ mid.begun → GivesFile 1 s.proof old mid) → (k : ℕ) → k < mid.begun
    → IsTrimSlot s old mid k
read_slots s old mid r formula proof zero lt = record { gives = formula (omega (arith, lt)); writes = (only_read old mid 0 r).writes }
read_slots s old mid r formula proof (suc k) lt =
    let first : k ≡ 0 = omega (arith, lt, two_read old mid r) in
    inl (first, record { gives = proof (omega (arith, lt)); writes = (only_read old mid 1 r).writes })

-- the slots of what `trim` reads and writes
pub finds_slots : (lim : LimitValues) (s : TrimSaid) (old new : Outside) (o : Outcome) (k : Counts) → old.begun ≡ 0 → Finds lim s old new o k → (n : ℕ) → n < new.begun → IsTrimSlot s old new n
finds_slots lim s old new o k none (inl h) n lt = at h.reads
  where
    at : (new ≡ old) ⊎ ReadsFiles old new → IsTrimSlot s old new n
    at (inl e) = let still : new.begun ≡ 0 = ap (λ (x : Outside). x.begun) e ∙ none in absurd (omega (arith, still, lt))
    at (inr r) = read_slots s old new r h.formula h.proof n lt
finds_slots lim s old new o k none (inr h) n lt = at (at_or_past n h.mid.begun)
  where
    written : (m : ℕ) → h.mid.begun ≤ m → m < new.begun → IsTrimSlot s old new m
    written zero le low = absurd (omega (arith, le, some_read old h.mid h.reads))
    written (suc m) le low = inr ((writes_named s h.decision h.mid new o h.writes).slots (suc m) le low)

    at : (n < h.mid.begun) ⊎ (h.mid.begun ≤ n) → IsTrimSlot s old new n
    at (inl low) = slot_still s old h.mid new n ((writes_begin s h.decision h.mid new o h.writes).below n low) (read_slots s old h.mid h.reads (λ le. h.formula) h.proof n low)
    at (inr high) = written n high lt

-- and the files that it changes
pub finds_file : (lim : LimitValues) (s : TrimSaid) (old new : Outside) (o : Outcome) (k : Counts) → Finds lim s old new o k → OnlyChanges (trim_outputs s) old new
finds_file lim s old new o k (inl h) other apart = at h.reads
  where
    at : (new ≡ old) ⊎ ReadsFiles old new → new.file other ≡ old.file other
    at (inl e) = ap (λ (x : Outside). x.file other) e
    at (inr r) = ap (λ (f : List ℕ → Option (List ℕ)). f other) (read_file old new r)
finds_file lim s old new o k (inr h) other apart =
    (writes_named s h.decision h.mid new o h.writes).file other apart ∙ ap (λ (f : List ℕ → Option (List ℕ)). f other) (read_file old h.mid h.reads)
