use Rattle.std.proofs.Common.{◌≡◌, inl, inr, ◌≤◌, ◌==◌, true, [], ◌∷◌, ◌++◌, ◌∙◌, sym, ap, arith}
use Rattle.std.proofs.lemmas.Bool.Decides.{nat_tests}
use Rattle.sr_model.specs.Assignment.{holds_number}
use Rattle.sr_model.proofs.Soundness.{by_test}
use Rattle.sr_watch.specs.Rising.{last_above}
use Rattle.sr_watch.proofs.Rises.{rising_push, last_most, holds_push}
use Rattle.sr_watch.proofs.watches.Watches.keep.Goals as goal

pub returns-clause-rising : goal.returns-clause-rising
returns-clause-rising c =
    let le : last_above 0 c.args.self.now.kept.items ≤ c.args.len = last_most c.args.len c.args.self.now.kept.items c.requires.within in
    rw c.push_reserved.ensures.items (rising_push 0 c.args.len c.args.self.now.kept.items c.requires.rising (omega (arith, le, c.last.ensures, c.if-last-len.false)))

pub returns-clause-kept : goal.returns-clause-kept
returns-clause-kept c n h =
    let g : holds_number n (c.args.self.now.kept.items ++ c.args.len ∷ []) ≡ true = ap (holds_number n) (sym c.push_reserved.ensures.items) ∙ h in
    by_test (c.args.len == n)
    (λ t. inl (let is : c.args.len ≡ n = grind (arith, nat_tests) in sym is))
    (λ f. inr (grind (arith, holds_push n c.args.len c.args.self.now.kept.items, g, f)))
