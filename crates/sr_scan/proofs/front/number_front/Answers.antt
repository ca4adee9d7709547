use Rattle.std.proofs.Common.{◌+◌, ◌<◌, ◌∙◌, sym, true, false, length, arith}
use Rattle.sr_scan.proofs.FrontLemmas.{leads_positive, leads_signed, leads_number}
use Rattle.sr_scan.proofs.front.number_front.Goals as goal

pub returns-then-bytes-eq45 : goal.returns-then-bytes-eq45
returns-then-bytes-eq45 c =
    let few = c.few_digits-few in
    let some : 0 < length c.args.bytes.now = omega (arith, c.if-bytes.false) in
    let leads = leads_signed c.args.bytes.now few.result.len few.result.size some c.if-bytes-eq45.true few.ensures.within few.ensures.digits few.ensures.size few.ensures.small c.if-few-eq0.false
    (sym c.ends_at.ensures ∙ c.if-not-ends_at.false) in
    leads_number c.args.bytes.now (few.result.len + 1) (few.result.len + 2) few.result.size true leads (omega arith) few.ensures.small

pub returns : goal.returns
returns c =
    let few = c.few_digits-few-2 in
    let leads = leads_positive c.args.bytes.now few.result.len few.result.size c.if-few-eq0-2.false few.ensures.within few.ensures.digits few.ensures.size few.ensures.small
    (sym c.ends_at-else-few-eq0-2.ensures ∙ c.if-not-ends_at-2.false) in
    leads_number c.args.bytes.now few.result.len (few.result.len + 1) few.result.size false leads (omega arith) few.ensures.small
