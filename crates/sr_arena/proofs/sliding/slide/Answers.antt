use Rattle.std.proofs.Common.{◌≡◌, ◌+◌, ◌/◌, ◌==◌, ◌<◌, ◌≤◌, ℕ, List, false, arith, refl, ap, drop, length}
use Rattle.std.proofs.lemmas.List.{length-drop}
use Rattle.std.proofs.lemmas.Bool.Decides.{nat_tests}
use Rattle.sr_base.specs.declared.words.Word.{Word}
use Rattle.sr_arena.specs.Layout.{IsWalk}
use Rattle.sr_arena.proofs.Moving.{head_of, next_of, slid_takes, slid_passes}
use Rattle.sr_arena.proofs.sliding.slide.Goals.{then-not-is_freed, else-not-is_freed}
use Rattle.sr_arena.proofs.sliding.slide.Goals as goal

bit_off : (n : ℕ) → (n ≡ 1 → ⊥) → (n == 1) ≡ false
bit_off n h = grind (arith, nat_tests)

within : (ls : List Word) → IsWalk 0 ls → 0 < length ls → 2 ≤ length ls
within ls w lt = let h = head_of ls w lt in omega (arith, ap length h.is)

pub index-requires : goal.index-requires
index-requires c =
    let s = c.loop-read.invariant in
    omega (arith, s.size, c.loop-read-test.true, c.len.ensures, c.loop-read.words.ok.0, length-drop c.loop-read.read c.args.words.now.items, within (drop c.loop-read.read c.args.words.now.items) s.walked.ahead (omega (arith, s.size, c.loop-read-test.true, c.len.ensures, c.loop-read.words.ok.0, length-drop c.loop-read.read c.args.words.now.items)))

pub move_down-requires-clause-within : goal.move_down-requires-clause-within
move_down-requires-clause-within c =
    let s = c.loop-read.invariant in
    let n = next_of c.args.words.now.items c.loop-read.words.items c.loop-read.read (c.loop-read.read + 1) c.index.result.now c.index.result.now s.left s.walked.ahead (omega (arith, s.size, c.loop-read-test.true, c.len.ensures, c.loop-read.words.ok.0)) refl c.index.ensures in
    omega (arith, n.inside, s.size)

pub loop-read-preserved : goal.loop-read-preserved
loop-read-preserved c =
    let s = c.loop-read.invariant in
    let n = next_of c.args.words.now.items c.loop-read.words.items c.loop-read.read (c.loop-read.read + 1) c.index.result.now c.index.result.now s.left s.walked.ahead (omega (arith, s.size, c.loop-read-test.true, c.len.ensures, c.loop-read.words.ok.0)) refl c.index.ensures in
    elim c.if-not-is_freed.branch [
      | then-not-is_freed w ↦
          rw (w.words-is, w.place-is)
          (slid_takes c.args.words.now.items c.loop-read.words.items w.move_down.new.words.items c.loop-read.place c.loop-read.read (c.index.result.now.code / 8 + 2) c.index.result.now s n
          (bit_off _ w.if-not-is_freed.true) refl w.move_down.ensures)
      | else-not-is_freed w ↦
          rw (w.words-is, w.place-is)
          (slid_passes c.args.words.now.items c.loop-read.words.items c.loop-read.place c.loop-read.read c.index.result.now s n
          (ap (λ k. k == 1) w.if-not-is_freed.false))
    ]
