use Rattle.sr_watch.proofs.Replacing.{entries_replaced, tables_replaced, pair_replaced, root_replaced}
use Rattle.sr_watch.specs.Trail.{Entries}
use Rattle.std.proofs.Common.{◌∙◌, subst, sym, ◌≢◌, get_or}
use Rattle.sr_watch.proofs.trail.Trail.set_reason.Goals as goal

pub invariant_of-self : goal.invariant_of-self
invariant_of-self c =
    let e : Entries = record { vars = c.self.inside.vars; lits = c.self.inside.lits.items; reasons = c.self.inside.reasons.items } in
    let d : get_or e.reasons c.args.place 0 ≢ 0 = subst (λ (x : Entries). get_or x.reasons c.args.place 0 ≢ 0) (sym c.self.view_is) c.requires.derived in (
      entries_replaced e c.args.place c.args.reason d c.requires.some c.self.invariant.0,
      tables_replaced e c.args.place c.args.reason c.self.inside.first.items c.self.inside.marks.items d c.requires.some c.self.invariant.1,
      c.self.invariant.2,
      c.self.invariant.3,
      c.self.invariant.4,
      pair_replaced e.lits e.reasons c.self.inside.pair c.args.place c.args.reason d c.requires.some c.self.invariant.5,
      c.self.invariant.6 ∙ sym (root_replaced e.reasons c.args.place c.args.reason d c.requires.some),
    )
