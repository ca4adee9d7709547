use Rattle.std.proofs.Common.{◌≡◌, ◌<◌, ◌/◌, arith, ◌∙◌, sym, ap, length, get_or, set}
use Rattle.std.proofs.lemmas.List.{get_or_default}
use Rattle.sr_table.specs.Pages.{paged, entry, IsPaged}
use Rattle.sr_table.proofs.Paging.{paged_reach, entry_reach, entry_make}
use Rattle.sr_table.proofs.pages.open_page.Goals as goal

pub returns-in_ok-add_page-clause-same : goal.returns-in_ok-add_page-clause-same
returns-in_ok-add_page-clause-same c m =
    let reached : IsPaged c.reach.new.pages.items c.args.entries.now.items = paged_reach c.args.pages.now.items c.reach.new.pages.items c.args.entries.now.items c.requires c.in_ok-reach.ensures.same in
    let within : c.args.page < length c.reach.new.pages.items = omega (arith, c.in_ok-reach.ensures.long, c.reach.new.pages.ok.0) in
    let none : get_or c.reach.new.pages.items c.args.page 0 ≡ 0 = get_or_default c.reach.new.pages.items c.args.page 0 c.index.result.now within ∙ sym c.index.ensures ∙ c.if-index-eq0.true in
    ap (λ x. entry (paged (set c.reach.new.pages.items c.args.page (c.len-made.result / 4096)) x) m) c.in_ok-add_page.ensures.ok
    ∙ entry_make c.reach.new.pages.items c.args.entries.now.items c.args.page (c.len-made.result / 4096) within (omega (arith, c.args.entries.now.ok.0)) none reached m
    ∙ entry_reach c.args.pages.now.items c.reach.new.pages.items c.args.entries.now.items c.in_ok-reach.ensures.same m
