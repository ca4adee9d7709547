use Rattle.std.proofs.Common.{rules, List, ℕ, ◌≡◌, ◌≤◌, ◌+◌, ◌-◌, ◌++◌, length, take, drop, refl, sym, subst, ap, ◌∙◌, arith}
use Rattle.std.specs.List.Sorted.{IsNonDecreasingBy, IsPermutation}
use Rattle.std.proofs.lemmas.List.{take_all, drop_at, length-take-le}
use Rattle.std.proofs.lemmas.List.Sorted.{IsNonDecreasingBy-from_sort_by_key, IsPermutation-put_mid, length_permutation}
use Rattle.std.proofs.lemmas.Slice.{take-put_mid}
use borrow.Rule.Slice.PartMut.{put_mid, mid_of}
use Rattle.sr_steps.proofs.table.sort_from.Goals as goal

-- what was put at the end of a list stands there
drop-put : {X : Type 0} (a : ℕ) (xs ys : List X) → a ≤ length xs → length ys ≡ length xs - a → IsPermutation (mid_of a (length xs - a) xs) ys → drop a (put_mid a (length xs - a) xs ys) ≡ ys
drop-put a xs ys h e p =
    let long : length (put_mid a (length xs - a) xs ys) ≡ length xs = length_permutation xs (put_mid a (length xs - a) xs ys) (IsPermutation-put_mid a (length xs - a) xs ys p) in
    let whole : put_mid a (length xs - a) xs ys ≡ take a xs ++ ys = sym (take_all (a + length ys) (put_mid a (length xs - a) xs ys) (omega arith)) ∙ take-put_mid a (length xs - a) xs ys (a + length ys) refl h in
    ap (drop a) whole ∙ drop_at (take a xs) ys a (length-take-le a xs h)

pub returns-clause-sorted : goal.returns-clause-sorted
returns-clause-sorted c =
    let sorted : IsNonDecreasingBy (λ g. g.id) c.sort_unstable_by_key.new.self = IsNonDecreasingBy-from_sort_by_key (λ g. g.id) c.sort_unstable_by_key.new.self c.sort_unstable_by_key.ensures.sorted (λ a r q k. search rules) in
    let e = drop-put c.args.start c.args.groups.now c.sort_unstable_by_key.new.self c.requires (search rules) c.sort_unstable_by_key.ensures.permutation in
    subst (IsNonDecreasingBy (λ g. g.id)) (sym e) sorted
