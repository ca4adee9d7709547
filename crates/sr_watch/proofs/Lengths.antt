-- Lists that have each watch equally often are equally long.
use Rattle.std.proofs.Common.{◌≡◌, ◌∙◌, true, cond, List, [], ◌∷◌, length, refl, sym, arith}
use Rattle.std.specs.List.{count_by}
use Rattle.std.proofs.lemmas.List.Sums.{sum_by-cons}
use Rattle.sr_lists.specs.declared.blocks.Watch.{Watch}
use Rattle.sr_lists.specs.Family.{AreSame}

count_all : (xs : List Watch) → count_by (λ w. true) xs ≡ length xs
count_all [] = refl
count_all (x ∷ xs) = omega (arith, count_all xs, sum_by-cons (λ (w : Watch). cond true 1 0) x xs)

pub same_length : (a b : List Watch) → AreSame a b → length a ≡ length b
same_length a b s = sym (count_all a) ∙ s (λ w. true) ∙ count_all b
