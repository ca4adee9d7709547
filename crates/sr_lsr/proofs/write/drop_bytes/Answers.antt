use Rattle.std.proofs.Common.{◌∙◌, ◌++◌, pos, map, ap}
use Rattle.sr_scan.specs.Written.{written_numbers, written_end}
use Rattle.sr_lsr.specs.Written.{drop_start}
use Rattle.sr_lsr.proofs.WriteLemmas.{drop_whole}
use Rattle.sr_lsr.proofs.write.drop_bytes.Goals as goal

pub returns : goal.returns
returns c =
    c.in_ok-put_end.ensures.ok ∙ ap (λ o. o ++ written_end c.args.form) (c.in_ok-put_ids.ensures ∙ ap (λ o. o ++ written_numbers c.args.form (map pos c.args.ids.now))
    (c.in_ok-put_drop_start.ensures ∙ ap (λ o. o ++ drop_start c.args.form c.args.id) c.in_ok-out.ensures)) ∙ drop_whole c.args.form c.args.id c.args.ids.now
