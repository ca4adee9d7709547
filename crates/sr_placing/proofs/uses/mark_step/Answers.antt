use Rattle.std.proofs.Common.{◌≡◌, ◌∙◌, ℕ, List, ◌+◌, ◌<◌, ◌||◌, true, false, cond, [], take, ap, sym, arith, length, get_or}
use Rattle.sr_model.specs.Assignment.{holds_number}
use Rattle.sr_model.specs.Meeting.{Group}
use Rattle.sr_trimming.specs.Citing.{groups_cite}
use Rattle.sr_steps.specs.Kept.{Kept}
use Rattle.sr_steps.specs.Adding.{bare}
use Rattle.sr_placing.proofs.Using.{groups_more, group_cites, mark_twice}
use Rattle.sr_placing.proofs.uses.mark_step.Goals as goal

pub mark_all-requires-in-loop-j : goal.mark_all-requires-in-loop-j
mark_all-requires-in-loop-j c n h =
    let k : Kept = get_or c.args.steps.now c.args.i (bare 0 false) in
    let in_group : holds_number n (get_or k.groups c.loop-j.j (0, [])).1 ≡ true = ap (holds_number n) (sym c.group_hints.ensures) ∙ h in
    let cited : groups_cite n k.groups ≡ true = group_cites n k.groups c.loop-j.j (omega arith) in_group in
    let low = c.requires.within n (grind arith) in omega (arith, low)

-- what the groups so far cite is marked, and then what one more cites
one_group : (n mark now was old : ℕ) (prefix hints : List ℕ) (gs : List Group) (j : ℕ) → j < length gs → hints ≡ (get_or gs j (0, [])).1
    → now ≡ cond (holds_number n hints) mark was → was ≡ cond (holds_number n prefix || groups_cite n (take j gs)) mark old
    → now ≡ cond (holds_number n prefix || groups_cite n (take (j + 1) gs)) mark old
one_group n mark now was old prefix hints gs j h is e b =
    let more : groups_cite n (take (j + 1) gs) ≡ (groups_cite n (take j gs) || holds_number n hints) = groups_more n gs j h ∙ ap (λ x. groups_cite n (take j gs) || holds_number n x) (sym is) in
    e ∙ ap (λ x. cond (holds_number n hints) mark x) b ∙ mark_twice (holds_number n prefix || groups_cite n (take j gs)) (holds_number n hints) mark old
    ∙ ap (λ x. cond x mark old) (grind (arith, more))

pub loop-j-preserved : goal.loop-j-preserved
loop-j-preserved c n =
    let k : Kept = get_or c.args.steps.now c.args.i (bare 0 false) in
    one_group n c.args.mark (get_or c.mark_all-in-loop-j.new.marks n 0) (get_or c.loop-j.marks n 0) (get_or c.args.marks.now n 0) k.prefix c.group_hints.result.now k.groups c.loop-j.j
    (omega arith) c.group_hints.ensures (c.mark_all-in-loop-j.ensures n) (c.loop-j.invariant n)
