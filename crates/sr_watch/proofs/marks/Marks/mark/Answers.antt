use Rattle.std.proofs.Common.{◌≡◌, ◌<◌, ◌∙◌, ap, arith}
use Rattle.sr_base.specs.Literal.{complement, literal_code, variable}
use Rattle.sr_watch.proofs.Marking.{complement_within, marks_more}
use Rattle.sr_watch.proofs.marks.Marks.mark.Goals as goal

pub index_mut-requires : goal.index_mut-requires
index_mut-requires c =
    let pos : 0 < variable c.k-item.result = omega (arith, c.var-var.ensures.value, c.var-var.ensures.low) in
    let code : c.code.result ≡ literal_code (complement c.k-item.result) = c.code.ensures.value ∙ ap literal_code c.neg.ensures.value in
    let w = complement_within c.args.clause.now c.loop-k.k-index c.k-item.result c.args.vars (omega arith) c.k-item.is c.requires.within pos in
    omega (arith, code, w, c.loop-k.invariant.size, c.requires.room, c.loop-k.self-inside.table.ok.0)

pub loop-k-preserved : goal.loop-k-preserved
loop-k-preserved c =
    let pos : 0 < variable c.k-item.result = omega (arith, c.var-var.ensures.value, c.var-var.ensures.low) in
    let code : c.code.result ≡ literal_code (complement c.k-item.result) = c.code.ensures.value ∙ ap literal_code c.neg.ensures.value in
    let w = complement_within c.args.clause.now c.loop-k.k-index c.k-item.result c.args.vars (omega arith) c.k-item.is c.requires.within pos in
    rw code (marks_more c.args.self.now c.loop-k.self-inside.table.items c.args.clause.now c.loop-k.k-index c.k-item.result c.args.value (omega arith) c.k-item.is (omega (arith, w, c.loop-k.invariant.size, c.requires.room)) c.loop-k.invariant)
