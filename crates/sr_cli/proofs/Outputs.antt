-- Files that are written one after another.
use Rattle.std.proofs.Common.{◌≡◌, inl, inr, ℕ, ◌+◌, ◌-◌, Bool, true, false, List, [], ◌∷◌, Option, Some, None, refl, sym, subst, arith}
use Rattle.sr_base.specs.declared.names.Which.{Which}
use Rattle.sr_base.specs.declared.names.Which.TheVariants as which
use Rattle.sr_desk.specs.Outside.{Outside, SlotState, Rose}
use Rattle.sr_emit.specs.Status.{is_verified}
use Rattle.sr_emit.specs.declared.outcome.Outcome.{Outcome}
use Rattle.sr_emit.specs.declared.outcome.Outcome.TheVariants as outcome
use Rattle.sr_files.specs.Written.{IsCutOff}
use Rattle.sr_trim.specs.Outputs.{WritesOne}
use Rattle.sr_cli.specs.Demo.{Output, WritesEach}
use Rattle.sr_cli.specs.Touching.{one_if_named}
use Rattle.sr_cli.proofs.Refuted.{verified_is}
use Rattle.sr_cli.proofs.Touched.{Begins, one_begins, begins_more, begins_then, begins_none}
use Rattle.sr_cli.proofs.Named.{BeginsNamed, IsAmong, one_named, named_then, named_none}

abbrev pub output : Which → Option (List ℕ) → Option (List ℕ) → Output
output w name bytes = record { which = w; name = name; bytes = bytes }

module _ (w : Which) (name bytes : Option (List ℕ)) (fs : List Output) (old new : Outside) (o : Outcome) where
  -- a call on the file failed
  pub each_stops : WritesOne w name bytes old new o → is_verified o ≡ false → WritesEach (output w name bytes ∷ fs) old new o
  each_stops h v = inr (h, v)

  -- it was written, and then the others
  pub each_goes : (mid : Outside) (x : Outcome) → WritesOne w name bytes old mid x → is_verified x ≡ true → WritesEach fs mid new o → WritesEach (output w name bytes ∷ fs) old new o
  each_goes mid x h v rest = inl (mid, (subst (λ (y : Outcome). WritesOne w name bytes old mid y) (verified_is x v) h, rest))

-- the last one
pub each_last : (w : Which) (name bytes : Option (List ℕ)) (old new : Outside) (o : Outcome) → WritesOne w name bytes old new o → WritesEach (output w name bytes ∷ []) old new o
each_last w name bytes old new o h = at (is_verified o) refl
  where
    at : (x : Bool) → is_verified o ≡ x → WritesEach (output w name bytes ∷ []) old new o
    at true v = each_goes w name bytes [] old new o new o h v (refl, verified_is o v)
    at false v = each_stops w name bytes [] old new o h v

-- how many files are begun at most
named_begins : (w : Which) (name bytes : Option (List ℕ)) (old new : Outside) (o : Outcome) → WritesOne w name bytes old new o → Begins (one_if_named name) old new
named_begins w (Some name) bytes old new o h = one_begins w (Some name) bytes old new o h
named_begins w None bytes old new o h = begins_none old new h.0

abbrev pub most_of : List Output → ℕ
most_of [] = 0
most_of (f ∷ fs) = one_if_named f.name + most_of fs

pub each_begins : (fs : List Output) (old new : Outside) (o : Outcome) → WritesEach fs old new o → Begins (most_of fs) old new
each_begins [] old new o h = begins_none old new h.0
each_begins (f ∷ fs) old new o (inl h) =
    begins_then (one_if_named f.name) (most_of fs) old h.0 new (named_begins f.which f.name f.bytes old h.0 outcome.Verified h.1.0) (each_begins fs h.0 new o h.1.1)
each_begins (f ∷ fs) old new o (inr h) = begins_more (one_if_named f.name) (most_of (f ∷ fs)) old new (omega arith) (named_begins f.which f.name f.bytes old new o h.0)

-- no report
abbrev pub is_file : Which → Bool
is_file which.Report = false
is_file w = true

abbrev pub AreFiles : List Output → Type 0
AreFiles [] = Unit {0}
AreFiles (f ∷ fs) = (is_file f.which ≡ true) × AreFiles fs

-- a fault of a file is told by the last slot that was begun
abbrev pub WriteCause : Outside → Outside → Outcome → Type 0
WriteCause first new (outcome.SinkFault w) = (is_file w ≡ true) × Rose (first.slot (new.begun - 1)).faults (new.slot (new.begun - 1)).faults
WriteCause first new outcome.Verified = Unit {0}
WriteCause first new o = ⊥

cut_cause : (name bytes : List ℕ) (n : ℕ) (first old new : Outside) → Begins n first old → IsCutOff name bytes old new → Rose (first.slot (new.begun - 1)).faults (new.slot (new.begun - 1)).faults
cut_cause name bytes n first old new b h =
    let last : new.begun - 1 ≡ old.begun = omega (arith, h.only.begun) in
    subst (λ k. Rose (first.slot k).faults (new.slot k).faults) (sym last) (subst (λ (x : SlotState). Rose x.faults (new.slot old.begun).faults) (b.above old.begun (omega arith)) h.rose)

one_cause : (w : Which) (name bytes : Option (List ℕ)) (n : ℕ) (first old new : Outside) (o : Outcome) → is_file w ≡ true → Begins n first old → WritesOne w name bytes old new o → WriteCause first new o
one_cause w (Some name) (Some bytes) n first old new o file b (inl h) = subst (λ (x : Outcome). WriteCause first new x) (sym h.1) tt
one_cause w (Some name) (Some bytes) n first old new o file b (inr h) = subst (λ (x : Outcome). WriteCause first new x) (sym h.1) (file, cut_cause name bytes n first old new b h.0)
one_cause w (Some name) None n first old new o file b h = subst (λ (x : Outcome). WriteCause first new x) (sym h.1) tt
one_cause w None bytes n first old new o file b h = subst (λ (x : Outcome). WriteCause first new x) (sym h.1) tt

pub each_cause : (fs : List Output) (n : ℕ) (first old new : Outside) (o : Outcome) → AreFiles fs → Begins n first old → WritesEach fs old new o → WriteCause first new o
each_cause [] n first old new o files b h = subst (λ (x : Outcome). WriteCause first new x) (sym h.1) tt
each_cause (f ∷ fs) n first old new o files b (inl h) =
    each_cause fs (n + one_if_named f.name) first h.0 new o files.1
    (begins_then n (one_if_named f.name) first old h.0 b (named_begins f.which f.name f.bytes old h.0 outcome.Verified h.1.0)) h.1.1
each_cause (f ∷ fs) n first old new o files b (inr h) = one_cause f.which f.name f.bytes n first old new o files.0 b h.0

-- all names that are asked for are among these
abbrev pub AreAmong : List Output → List (Option (List ℕ)) → Type 0
AreAmong [] names = Unit {0}
AreAmong (f ∷ fs) names = IsAmong f.name names × AreAmong fs names

pub each_named : (fs : List Output) (names : List (Option (List ℕ))) (old new : Outside) (o : Outcome) → AreAmong fs names → WritesEach fs old new o → BeginsNamed names old new
each_named [] names old new o among h = named_none names old new h.0
each_named (f ∷ fs) names old new o among (inl h) =
    named_then names (most_of fs) old h.0 new (one_named names f.which f.name f.bytes old h.0 outcome.Verified among.0 h.1.0) (each_begins fs h.0 new o h.1.1)
    (each_named fs names h.0 new o among.1 h.1.1)
each_named (f ∷ fs) names old new o among (inr h) = one_named names f.which f.name f.bytes old new o among.0 h.0
