use Rattle.std.proofs.Common.{◌≡◌, [], ◌++◌, ◌∙◌, ap, replicate, get_or, ◌+◌, ◌*◌, ◌/◌, ◌%◌}
use Rattle.sr_table.proofs.Paging.{paged_none, zeros_are_zero}
use Rattle.sr_table.proofs.pages.IdTable.new.Goals as goal

pub invariant_of-result : goal.invariant_of-result
invariant_of-result c =
    let zeros : c.add_page.new.entries.items ≡ replicate 4096 0 = c.in_ok-add_page.ensures.ok ∙ ap (λ x. x ++ replicate 4096 0) c.new-entries.ensures.items in
    rw (zeros, c.new.ensures.items) paged_none

pub returns-clause-blank : goal.returns-clause-blank
returns-clause-blank c n =
    let zeros : c.add_page.new.entries.items ≡ replicate 4096 0 = c.in_ok-add_page.ensures.ok ∙ ap (λ x. x ++ replicate 4096 0) c.new-entries.ensures.items in
    rw (zeros, c.new.ensures.items) (zeros_are_zero 4096 (get_or [] (n / 4096) 0 * 4096 + n % 4096))
