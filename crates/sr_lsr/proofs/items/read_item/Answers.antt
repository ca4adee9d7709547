use Rattle.std.proofs.Common.{◌≡◌, ◌∙◌, ℕ, sym, ap, refl, None}
use Rattle.sr_base.specs.Contents.{Contents}
use Rattle.sr_model.specs.Tokens.{finished}
use Rattle.sr_model.specs.BinaryTokens.{open_after}
use Rattle.sr_model.specs.Reading.{reads}
use Rattle.sr_model.specs.LsrBinary.{item_in}
use Rattle.sr_scan.specs.Left.{tokens_left, front_word}
use Rattle.sr_lsr.proofs.BeginLemmas.{unbegun}
use Rattle.sr_lsr.proofs.ItemLemmas.{item_none, items_hand_on}
use Rattle.sr_lsr.proofs.items.read_item.Goals as goal

pub returns-in-Err-clause-item : goal.returns-in-Err-clause-item
returns-in-Err-clause-item g c = λ (k : Contents) h.
    unbegun (item_in c.args.form c.args.limits.now) (tokens_left c.args.form 2 0 c.args.reader.now k) c.in-Err.error (items_hand_on c.args.form c.args.limits.now) (c.in-Err.ensures.token 2 0 refl k h)

pub returns-in-End-clause-item : goal.returns-in-End-clause-item
returns-in-End-clause-item g c = λ (k : Contents) h.
    let given = c.in-Ok.ensures.token 2 0 refl k h in
    let none : tokens_left c.args.form 2 0 c.next_token.new.reader k ≡ finished c.in-Ok.token.place =
    ap (λ (n : ℕ). tokens_left c.args.form 2 n c.next_token.new.reader k) (sym (ap (open_after 2 0) c.in-End.is)) ∙ given.1 c.in-End.is in
    ap (item_in c.args.form c.args.limits.now) (given.0 ∙ ap (λ w. front_word c.in-Ok.token.place w (tokens_left c.args.form 2 (open_after 2 0 c.in-Ok.token.word) c.next_token.new.reader k)) c.in-End.is)
    ∙ item_none c.args.form c.args.limits.now c.in-Ok.token.place ∙ ap (reads None) (sym none)
