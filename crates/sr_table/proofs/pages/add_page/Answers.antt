use Rattle.std.proofs.Common.{◌≡◌, ◌+◌, ◌-◌, ◌++◌, vec_len, arith, ◌∙◌, ap, replicate}
use Rattle.std.proofs.lemmas.List.{take_all}
use Rattle.sr_table.proofs.pages.add_page.Goals as goal

pub returns-in-Ok-clause-ok : goal.returns-in-Ok-clause-ok
returns-in-Ok-clause-ok c =
    let more : c.len.result + 4096 - vec_len c.args.entries.now ≡ 4096 = omega arith in
    c.in-Ok.ensures.items ∙ ap (λ x. x ++ replicate (c.len.result + 4096 - vec_len c.args.entries.now) 0) (take_all (c.len.result + 4096) c.args.entries.now.items (omega arith))
    ∙ ap (λ n. c.args.entries.now.items ++ replicate n 0) more
