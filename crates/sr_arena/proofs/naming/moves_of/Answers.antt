use Rattle.std.proofs.Common.{◌≡◌, ◌==◌, ◌+◌, [], ◌∷◌, ◌++◌, ℕ, true, false, not, arith, refl, ◌∙◌, ap, get_or}
use Rattle.std.specs.Result.{is_ok}
use Rattle.std.proofs.lemmas.Bool.Decides.{nat_tests}
use Rattle.sr_arena.proofs.Clauses.{blank, here_two}
use Rattle.sr_arena.proofs.Moving.{next_of, named_takes, named_passes}
use Rattle.sr_arena.proofs.naming.moves_of.Goals.{then-not-is_freed+else-is_err, else-not-is_freed}
use Rattle.sr_arena.proofs.naming.moves_of.Goals as goal

bit_off : (n : ℕ) → (n ≡ 1 → ⊥) → (n == 1) ≡ false
bit_off n h = grind (arith, nat_tests)

pub bounds-words-read : goal.bounds-words-read
bounds-words-read c = omega (arith, here_two c.args.words.now c.loop-read.read c.loop-read.invariant.walked.ahead c.loop-read-test.true)

pub overflow_add-from : goal.overflow_add-from
overflow_add-from c = omega (arith, c.requires.room, here_two c.args.words.now c.loop-read.read c.loop-read.invariant.walked.ahead c.loop-read-test.true)

pub overflow_add-to : goal.overflow_add-to
overflow_add-to c = omega (arith, c.requires.room, c.loop-read.invariant.walked.below, here_two c.args.words.now c.loop-read.read c.loop-read.invariant.walked.ahead c.loop-read-test.true)

pub loop-read-preserved : goal.loop-read-preserved
loop-read-preserved c =
    let s = c.loop-read.invariant in
    let size = get_or c.args.words.now (c.loop-read.read + 1) blank in
    let n = next_of c.args.words.now c.args.words.now c.loop-read.read (c.loop-read.read + 1) size blank refl s.walked.ahead c.loop-read-test.true refl refl in
    elim c.if-not-is_freed.branch [
      | then-not-is_freed+else-is_err w ↦
          let ok : is_ok w.push.result ≡ true = w.is_err.ensures.negation ∙ ap not w.if-is_err.false in
          let pushed : w.push.new.self.items ≡ c.loop-read.moves.items ++ record { from = c.loop-read.read + 2; to = c.loop-read.place + 2 } ∷ [] = rw ok at w.push.ensures.items in
          rw (w.moves-is, w.place-is, pushed)
          (named_takes c.args.words.now c.loop-read.moves.items c.loop-read.place c.loop-read.read size s n (bit_off _ w.if-not-is_freed.true))
      | else-not-is_freed w ↦
          rw (w.moves-is, w.place-is)
          (named_passes c.args.words.now c.loop-read.moves.items c.loop-read.place c.loop-read.read size s n (ap (λ k. k == 1) w.if-not-is_freed.false))
    ]
