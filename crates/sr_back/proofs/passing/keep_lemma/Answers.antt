use Rattle.std.proofs.Common.{◌≡◌, [], sym, ap, ◌∙◌}
use Rattle.sr_back.specs.Testing.{with_assumed}
use Rattle.sr_back.proofs.Turns.{end_undone}
use Rattle.sr_back.proofs.passing.keep_lemma.Goals as goal

pub returns-clause-kept : goal.returns-clause-kept
returns-clause-kept g c =
    let st = g.L.Loaded.state c.keep_by_witness.new.loaded in
    let new = g.L.Loaded.state c.undo_to.new.self in
    let is : new ≡ with_assumed st [] = c.undo_to.ensures in
    end_undone st new c.args.id c.keep_by_witness.new.steps c.in_ok-against.against (is ∙ ap (with_assumed st) (sym (ap (λ x. x.assumed) is))) c.in_ok-against.ensures.kept
