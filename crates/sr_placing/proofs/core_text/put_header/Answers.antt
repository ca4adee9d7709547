use Rattle.std.proofs.Common.{◌∙◌, ℕ, List, ap, subst}
use Rattle.sr_cnf.specs.Written.{header}
use Rattle.sr_placing.proofs.Coring.{header_put}
use Rattle.sr_placing.proofs.core_text.put_header.Goals as goal

pub returns : goal.returns
returns g c =
    let two = g.met.S.Sink.joined _ _ _ _ _ _ _ _ c.put.ensures c.put_decimal.ensures in
    let three = g.met.S.Sink.joined _ _ _ _ _ _ _ _ two c.put-2.ensures in
    let four = g.met.S.Sink.joined _ _ _ _ _ _ _ _ three c.put_decimal-2.ensures in
    subst (λ (x : List ℕ). g.S.Sink.puts c.args.sink.now c.args.out.now c.put-3.new.self c.put-3.new.out x) (header_put c.from.result c.args.count ∙ ap (λ (n : ℕ). header n c.args.count) c.from.ensures) (g.met.S.Sink.joined _ _ _ _ _ _ _ _ four c.put-3.ensures)
