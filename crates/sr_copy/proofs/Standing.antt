-- A reader stands also after what is written elsewhere.
use Rattle.std.proofs.Common.{◌≡◌, ◌∙◌, ◌==◌, ◌≤◌, ℕ, Bool, true, false, ap, sym, refl, arith, List, length, drop, IsTrue, Option}
use Rattle.std.proofs.lemmas.Bool.Decides.{nat_tests}
use Rattle.sr_base.specs.Contents.{Ending}
use Rattle.sr_desk.specs.Outside.{Outside, SlotState, OnlyWrites}
use Rattle.sr_desk.specs.Reader.{Reader}
use Rattle.sr_desk.specs.Next.{Stands}

record SameReads (a b : SlotState) : Type 0 where
  given : b.given ≡ a.given
  ending : b.ending ≡ a.ending
  reads : b.reads ≡ a.reads

same_reads : {n : ℕ} {o p : Outside} (k : ℕ) → OnlyWrites n o p → SameReads (o.slot k) (p.slot k)
same_reads {n} {o} {p} k w = go (k == n) refl
  where
    go : (t : Bool) → (k == n) ≡ t → SameReads (o.slot k) (p.slot k)
    go true t =
        let e : k ≡ n = grind (arith, nat_tests) in
        rw e record { given = ap (λ (s : SlotState). s.given) w.slot; ending = ap (λ (s : SlotState). s.ending) w.slot; reads = ap (λ (s : SlotState). s.reads) w.slot }
    go false t =
        let same : p.slot k ≡ o.slot k = w.elsewhere k (λ e. let f : (k == n) ≡ true = grind (arith, nat_tests) in cc) in
        record { given = ap (λ (s : SlotState). s.given) same; ending = ap (λ (s : SlotState). s.ending) same; reads = ap (λ (s : SlotState). s.reads) same }

pub stands_kept : {n : ℕ} {o p : Outside} (r : Reader) → OnlyWrites n o p → Stands r o → Stands r p
stands_kept {n} {o} {p} r w s =
    let same = same_reads r.slot w in
    record {
      reads = rw same.reads s.reads;
      ending = same.ending ∙ s.ending;
      taken = rw same.given s.taken;
      ahead = ap (drop r.taken) same.given ∙ s.ahead;
    }
