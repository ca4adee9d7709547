use Rattle.std.proofs.Common.{◌≡◌, ◌==◌, ◌+◌, ◌/◌, ◌%◌, ℕ, true, arith, refl, sym, ◌∙◌, ap, get_or}
use Rattle.sr_arena.proofs.Clauses.{blank, here_of, here_two, onward_more}
use Rattle.sr_arena.proofs.walking.next_held.Goals as goal

bit_on : (n : ℕ) → (n % 2 ≡ 0 → ⊥) → (n % 2 == 1) ≡ true
bit_on n h = let e : n % 2 ≡ 1 = omega (arith, h) in ap (λ k. k == 1) e

pub bounds-words-read : goal.bounds-words-read
bounds-words-read c = omega (arith, here_two c.args.words.now c.loop-read.read c.loop-read.invariant.walk c.loop-read-test.true)

pub returns-then-size-eq0-clause-fits : goal.returns-then-size-eq0-clause-fits
returns-then-size-eq0-clause-fits c = omega (arith, c.requires.room, here_two c.args.words.now c.loop-read.read c.loop-read.invariant.walk c.loop-read-test.true)

pub returns-then-size-eq0-clause-value : goal.returns-then-size-eq0-clause-value
returns-then-size-eq0-clause-value c =
    let o = c.loop-read.invariant in
    let h = here_of c.args.words.now c.loop-read.read (get_or c.args.words.now (c.loop-read.read + 1) blank) blank o.walk c.loop-read-test.true refl in
    sym (o.same ∙ h.held (ap (λ k. k == 1) c.if-size-eq0.true))

pub loop-read-preserved : goal.loop-read-preserved
loop-read-preserved c =
    let o = c.loop-read.invariant in
    let h = here_of c.args.words.now c.loop-read.read (get_or c.args.words.now (c.loop-read.read + 1) blank) blank o.walk c.loop-read-test.true refl in
    onward_more c.args.words.now c.args.read c.loop-read.read (get_or c.args.words.now (c.loop-read.read + 1) blank) o h (bit_on ((get_or c.args.words.now (c.loop-read.read + 1) blank).code / 4) c.if-size-eq0.false)
