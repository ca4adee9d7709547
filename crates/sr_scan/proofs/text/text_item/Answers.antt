use Rattle.std.proofs.Common.{◌≡◌, subst, sym, Ok}
use Rattle.sr_base.specs.Contents.{Contents}
use Rattle.sr_desk.specs.Reader.{Reader}
use Rattle.sr_model.specs.Tokens.{Tokens}
use Rattle.sr_scan.specs.Left.{GivesToken, text_left}
use Rattle.sr_scan.specs.Machine.{machine_left}
use Rattle.sr_scan.proofs.HandLemmas.{gives_hand}
use Rattle.sr_scan.proofs.TokenLemmas.{machine_left_is}
use Rattle.sr_scan.proofs.text.text_item.Goals as goal

pub returns-in-Some-clause-token : goal.returns-in-Some-clause-token
returns-in-Some-clause-token g c = λ (k : Contents) h.
    gives_hand c.args.reader.now c.at_hand.new.reader (g.D.Desk.outside c.args.desk.now) k c.in-Some.token c.requires c.in-Some.ensures.some h

pub returns-in-None-clause-token : goal.returns-in-None-clause-token
returns-in-None-clause-token g c = λ (k : Contents) h.
    let there = c.machine_item.ensures.token k h in
    let here : GivesToken (machine_left c.args.reader.now k) (machine_left c.machine_item.new.reader k) c.machine_item.result = rw c.in-None.ensures.none at there in
    subst (λ (t : Tokens). GivesToken t (text_left c.machine_item.new.reader k) c.machine_item.result) (machine_left_is c.args.reader.now k)
    (subst (λ (t : Tokens). GivesToken (machine_left c.args.reader.now k) t c.machine_item.result) (machine_left_is c.machine_item.new.reader k) here)
