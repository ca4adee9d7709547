use Rattle.std.proofs.Common.{◌≡◌, ◌-◌, ◌++◌, ◌≤◌, true, length, take, drop, get_or, sym, subst, ap, ◌∙◌, arith}
use Rattle.std.specs.List.Sorted.{IsPermutation}
use Rattle.std.proofs.lemmas.List.{take_at}
use Rattle.std.proofs.lemmas.Grind.{common_steps}
use Rattle.sr_trimming.specs.CoreFirst.{rising}
use Rattle.sr_steps.specs.Places.{AreLaid, steps_in}
use Rattle.sr_steps.specs.Adding.{takes_groups, first_groups, with_groups, AreOfDistinct}
use Rattle.sr_steps.proofs.Growing.{sorts, starts-within}
use Rattle.sr_steps.proofs.table.StepTable.sort_groups.Goals as goal

pub sort_from-requires : goal.sort_from-requires
sort_from-requires c =
    let count : c.len-last.result ≡ length c.self.inside.steps.items = grind (arith, common_steps) in
    let last : c.index.result.now ≡ get_or c.self.inside.steps.items (length c.self.inside.steps.items - 1) c.index.result.now = subst (λ n. c.index.result.now ≡ get_or c.self.inside.steps.items (n - 1) c.index.result.now) count c.index.ensures in
    let takes : takes_groups (steps_in c.self.inside.hints.items c.self.inside.groups.items c.self.inside.steps.items) ≡ true = ap takes_groups c.self.view_is ∙ c.requires.takes in
    let h : c.index.result.now.start ≤ length c.self.inside.groups.items = starts-within c.self.inside.hints.items c.self.inside.groups.items c.self.inside.steps.items c.index.result.now takes last c.self.invariant in
    subst (λ gs. c.index.result.now.start ≤ length gs) (sym c.as_mut_slice.ensures.value) h

pub invariant_of-self : goal.invariant_of-self
invariant_of-self c =
    let count : c.len-last.result ≡ length c.self.inside.steps.items = grind (arith, common_steps) in
    let last : c.index.result.now ≡ get_or c.self.inside.steps.items (length c.self.inside.steps.items - 1) c.index.result.now = subst (λ n. c.index.result.now ≡ get_or c.self.inside.steps.items (n - 1) c.index.result.now) count c.index.ensures in
    let takes : takes_groups (steps_in c.self.inside.hints.items c.self.inside.groups.items c.self.inside.steps.items) ≡ true = ap takes_groups c.self.view_is ∙ c.requires.takes in
    let was : c.as_mut_slice.result.now ≡ c.self.inside.groups.items = c.as_mut_slice.ensures.value in
    let distinct : AreOfDistinct (first_groups (steps_in c.self.inside.hints.items c.self.inside.groups.items c.self.inside.steps.items)) = subst (λ ks. AreOfDistinct (first_groups ks)) (sym c.self.view_is) c.requires.distinct in
    let r = sorts c.self.inside.hints.items c.self.inside.groups.items c.sort_from.new.groups c.self.inside.steps.items c.index.result.now takes last
    (c.sort_from.ensures.before ∙ ap (take c.index.result.now.start) was) (subst (λ gs. IsPermutation (drop c.index.result.now.start gs) (drop c.index.result.now.start c.sort_from.new.groups)) was c.sort_from.ensures.moved)
    c.sort_from.ensures.sorted distinct c.self.invariant in
    let written : take c.self.inside.groups.len (c.sort_from.new.groups ++ drop (length c.sort_from.new.groups) c.self.inside.groups.items) ≡ c.sort_from.new.groups = take_at c.sort_from.new.groups (drop (length c.sort_from.new.groups) c.self.inside.groups.items) c.self.inside.groups.len (grind (arith, common_steps)) in
    subst (λ gs. AreLaid c.self.inside.hints.items gs c.self.inside.steps.items) (sym written) r.0

pub returns : goal.returns
returns c =
    let count : c.len-last.result ≡ length c.self.inside.steps.items = grind (arith, common_steps) in
    let last : c.index.result.now ≡ get_or c.self.inside.steps.items (length c.self.inside.steps.items - 1) c.index.result.now = subst (λ n. c.index.result.now ≡ get_or c.self.inside.steps.items (n - 1) c.index.result.now) count c.index.ensures in
    let takes : takes_groups (steps_in c.self.inside.hints.items c.self.inside.groups.items c.self.inside.steps.items) ≡ true = ap takes_groups c.self.view_is ∙ c.requires.takes in
    let was : c.as_mut_slice.result.now ≡ c.self.inside.groups.items = c.as_mut_slice.ensures.value in
    let distinct : AreOfDistinct (first_groups (steps_in c.self.inside.hints.items c.self.inside.groups.items c.self.inside.steps.items)) = subst (λ ks. AreOfDistinct (first_groups ks)) (sym c.self.view_is) c.requires.distinct in
    let r = sorts c.self.inside.hints.items c.self.inside.groups.items c.sort_from.new.groups c.self.inside.steps.items c.index.result.now takes last
    (c.sort_from.ensures.before ∙ ap (take c.index.result.now.start) was) (subst (λ gs. IsPermutation (drop c.index.result.now.start gs) (drop c.index.result.now.start c.sort_from.new.groups)) was c.sort_from.ensures.moved)
    c.sort_from.ensures.sorted distinct c.self.invariant in
    let written : take c.self.inside.groups.len (c.sort_from.new.groups ++ drop (length c.sort_from.new.groups) c.self.inside.groups.items) ≡ c.sort_from.new.groups = take_at c.sort_from.new.groups (drop (length c.sort_from.new.groups) c.self.inside.groups.items) c.self.inside.groups.len (grind (arith, common_steps)) in
    ap (λ gs. steps_in c.self.inside.hints.items gs c.self.inside.steps.items) written ∙ r.1 ∙ ap (λ ks. with_groups (rising (first_groups ks)) ks) c.self.view_is
