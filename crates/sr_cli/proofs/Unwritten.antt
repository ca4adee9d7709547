-- Where memory runs out, no file is written.
use Rattle.std.proofs.Common.{◌≡◌, ◌⊎◌, ◌∙◌, inl, inr, ℕ, true, false, List, [], ◌∷◌, Option, Some, None, refl, sym, ap, subst, arith}
use Rattle.sr_base.specs.Limits.{LimitValues}
use Rattle.sr_base.specs.declared.names.Which.{Which}
use Rattle.sr_base.specs.declared.names.Which.TheVariants as which
use Rattle.sr_desk.specs.Outside.{Outside}
use Rattle.sr_emit.specs.Status.{is_verified}
use Rattle.sr_emit.specs.declared.counts.Counts.{Counts}
use Rattle.sr_emit.specs.declared.outcome.Outcome.{Outcome}
use Rattle.sr_emit.specs.declared.outcome.Outcome.TheVariants as outcome
use Rattle.sr_files.specs.Files.{ReadsFiles}
use Rattle.sr_trim.specs.Said.{TrimSaid}
use Rattle.sr_trim.specs.Deciding.{Decision, stops, trims}
use Rattle.sr_trim.specs.Outputs.{WritesOne, WritesTwo, Writes, asked_lsr, asked_core}
use Rattle.sr_trim.specs.Finding.{Finds}
use Rattle.sr_cli.specs.Demo.{DemoSaid, Output, WritesEach, WritesDemo, FindsDemo, outputs, trim_of}
use Rattle.sr_cli.specs.Words as words
use Rattle.sr_cli.specs.Words.{Asked, only_reads}
use Rattle.sr_cli.specs.Run.{OnlyPrints, Shows, WritesNoFile, StaysUnwritten, is_unreported}

-- what a run ends with that has begun to write
abbrev pub HasWritten : Outcome → Type 0
HasWritten o = (o ≡ outcome.Verified) ⊎ ((w : Which) × (o ≡ outcome.SinkFault w))

-- this holds, or something was written
abbrev pub UnlessWritten : Outcome → Type 0 → Type 0
UnlessWritten o A = A ⊎ HasWritten o

pub when_out : {A : Type 0} (o : Outcome) → UnlessWritten o A → o ≡ outcome.NoMemory → A
when_out o (inl a) e = a
when_out o (inr (inl v)) e = let bad : outcome.Verified ≡ outcome.NoMemory = sym v ∙ e in absurd cc
when_out o (inr (inr s)) e = let bad : outcome.SinkFault s.0 ≡ outcome.NoMemory = sym s.1 ∙ e in absurd cc

pub when_reported : {A : Type 0} (o : Outcome) → UnlessWritten o A → is_verified o ≡ false → is_unreported o ≡ false → A
when_reported o (inl a) v u = a
when_reported o (inr (inl e)) v u = let bad : true ≡ false = ap is_verified (sym e) ∙ v in absurd cc
when_reported o (inr (inr s)) v u = let bad : true ≡ false = ap is_unreported (sym s.1) ∙ u in absurd cc

one_ends : (w : Which) (name bytes : Option (List ℕ)) (old new : Outside) (o : Outcome) → WritesOne w name bytes old new o → HasWritten o
one_ends w (Some name) (Some bytes) old new o (inl h) = inl h.1
one_ends w (Some name) (Some bytes) old new o (inr h) = inr (w, h.1)
one_ends w (Some name) None old new o h = inl h.1
one_ends w None bytes old new o h = inl h.1

two_ends : (lsr lsr_bytes core core_bytes : Option (List ℕ)) (old new : Outside) (o : Outcome) → WritesTwo lsr lsr_bytes core core_bytes old new o → HasWritten o
two_ends lsr lsr_bytes core core_bytes old new o (inl h) = one_ends which.Core core core_bytes h.mid new o h.core_written
two_ends lsr lsr_bytes core core_bytes old new o (inr h) = one_ends which.Lsr lsr lsr_bytes old new o h.0

each_ends : (fs : List Output) (old new : Outside) (o : Outcome) → WritesEach fs old new o → HasWritten o
each_ends [] old new o h = inl h.1
each_ends (f ∷ fs) old new o (inl h) = each_ends fs h.0 new o h.1.1
each_ends (f ∷ fs) old new o (inr h) = one_ends f.which f.name f.bytes old new o h.0

same_unwritten : (old new : Outside) → new ≡ old → WritesNoFile old new
same_unwritten old new e = subst (λ (o : Outside). WritesNoFile old o) (sym e) (record { file = refl; writes = λ k lt. refl })

read_unwritten : (old new : Outside) → ReadsFiles old new → WritesNoFile old new
read_unwritten old new (inl r) = record { file = r.file; writes = λ k lt. (r.only k).writes }
read_unwritten old new (inr r) = record { file = r.file; writes = λ k lt. (r.only k).writes }

-- `trim` writes no file but where it has steps
pub trim_unwritten : (lim : LimitValues) (s : TrimSaid) (old mid : Outside) (o : Outcome) (k : Counts) → Finds lim s old mid o k → UnlessWritten o (WritesNoFile old mid)
trim_unwritten lim s old mid o k (inl h) = elim h.reads [
  | inl e ↦ inl (same_unwritten old mid e)
  | inr r ↦ inl (read_unwritten old mid r)
]
trim_unwritten lim s old mid o k (inr h) = at h.decision h.writes
  where
    at : (d : Decision) → Writes s d h.mid mid o → UnlessWritten o (WritesNoFile old mid)
    at (stops x) w = inl (subst (λ (m : Outside). WritesNoFile old m) (sym w.0) (read_unwritten old h.mid h.reads))
    at (trims f ds steps) w = inr (two_ends s.lsr _ s.core _ h.mid mid o w)

abbrev pub LeavesAll : Outside → Outside → Type 0
LeavesAll old new = WritesNoFile old new × (new.begun ≡ old.begun)

-- nor does `demo`, which reads none
pub demo_unwritten : (lim : LimitValues) (s : DemoSaid) (old mid : Outside) (o : Outcome) (k : Counts) → FindsDemo lim s old mid o k → UnlessWritten o (LeavesAll old mid)
demo_unwritten lim s old mid o k (inl h) = inl (same_unwritten old mid h.1, ap (λ (x : Outside). x.begun) h.1)
demo_unwritten lim s old mid o k (inr h) = at h.decision h.writes
  where
    at : (d : Decision) → WritesDemo s d old mid o → UnlessWritten o (LeavesAll old mid)
    at (stops x) w = inl (same_unwritten old mid w.0, ap (λ (x : Outside). x.begun) w.0)
    at (trims f ds steps) w = inr (each_ends (outputs s (asked_lsr (trim_of s) f steps) (asked_core (trim_of s) f steps)) old mid o w)

-- printing writes no file
pub print_unwritten : (old mid new : Outside) → OnlyPrints mid new → WritesNoFile old mid → WritesNoFile old new
print_unwritten old mid new only h = record {
  file = only.file ∙ h.file;
  writes = λ k lt. rw (only.elsewhere k (λ e. omega (arith, e, lt))) (h.writes k lt);
}

pub print_leaves : (old mid new : Outside) → OnlyPrints mid new → LeavesAll old mid → LeavesAll old new
print_leaves old mid new only h = (print_unwritten old mid new only h.0, only.begun ∙ h.1)

-- a report that was made before takes no memory
pub shown_in : {A : Type 0} (bytes : List ℕ) (mid new : Outside) (found answered : Outcome) → is_verified found ≡ true → Shows bytes mid new found answered → answered ≡ outcome.NoMemory → A
shown_in bytes mid new found answered v (inl h) e = let bad : false ≡ true = ap is_verified (sym (sym h.0 ∙ e)) ∙ v in absurd cc
shown_in bytes mid new found answered v (inr h) e = let bad : outcome.SinkFault which.Report ≡ outcome.NoMemory = sym h.0 ∙ e in absurd cc

-- words that aren't read, and runs that only read
pub out_unwritten : (a : Asked) (o : Outside) → StaysUnwritten a o o outcome.NoMemory
out_unwritten (only_reads a) o = λ e. record { file = refl; writes = λ k lt. refl }
out_unwritten (words.trims s) o = λ e. record { file = refl; writes = λ k lt. refl }
out_unwritten (words.demos s) o = λ e. (record { file = refl; writes = λ k lt. refl }, refl)

pub unwritten_for : (a b : Asked) (old new : Outside) (o : Outcome) → a ≡ b → StaysUnwritten b old new o → StaysUnwritten a old new o
unwritten_for a b old new o is h = subst (λ x. StaysUnwritten x old new o) (sym is) h
