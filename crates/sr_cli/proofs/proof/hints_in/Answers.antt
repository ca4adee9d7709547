use Rattle.std.proofs.Common.{◌≡◌, ◌<◌, ◌≤◌, ◌+◌, ℕ, List, [], length, arith, take, drop, get_or, ap}
use Rattle.std.specs.Prelude.{sum_by}
use Rattle.std.proofs.lemmas.List.{drop_all}
use Rattle.std.proofs.lemmas.List.Sums.{sum_by_more, sum_by-take-drop}
use Rattle.sr_model.specs.Meeting.{Group}
use Rattle.sr_cli.specs.Check.{counted, group_hints}
use Rattle.sr_cli.proofs.proof.hints_in.Goals as goal

more : (groups : List Group) (i hints next : ℕ) (these : List ℕ) → i < length groups → hints ≡ counted (sum_by group_hints (take i groups)) → these ≡ (get_or groups i (0, [])).1
    → next ≡ counted (hints + length these) → next ≡ counted (sum_by group_hints (take (i + 1) groups))
more groups i hints next these lt so is sum =
    let step = sum_by_more group_hints groups i (0, []) lt in
    let size : length these ≡ group_hints (get_or groups i (0, [])) = ap length is in
    omega (arith, step, size)

all : (groups : List Group) (i hints : ℕ) → length groups ≤ i → hints ≡ counted (sum_by group_hints (take i groups)) → hints ≡ counted (sum_by group_hints groups)
all groups i hints le so =
    let none : sum_by group_hints (drop i groups) ≡ 0 = ap (λ (l : List Group). sum_by group_hints l) (drop_all i groups le) in
    omega (arith, sum_by-take-drop group_hints groups i, none)

pub loop-i-preserved : goal.loop-i-preserved
loop-i-preserved c =
    more c.args.groups.now c.loop-i.i c.loop-i.hints c.saturating_add-hints.result c.hints.result.now (omega (arith, c.loop-i-test.true, c.len-i-end.ensures)) c.loop-i.invariant c.hints.ensures c.saturating_add-hints.ensures

pub returns : goal.returns
returns c = all c.args.groups.now c.loop-i.i c.loop-i.hints (omega (arith, c.loop-i-test.false, c.len-i-end.ensures)) c.loop-i.invariant
