use Rattle.std.proofs.Common.{◌≡◌, ◌≤◌, ◌<◌, ◌+◌, ◌*◌, ◌-◌, ◌++◌, replicate, subst, arith, length, ◌==◌, false, ℕ, List, Bool}
use Rattle.std.proofs.lemmas.Bool.Decides.{nat_tests}
use Rattle.std.specs.Prelude.{vec_capacity}
use Rattle.sr_watch.proofs.Tables.{entries_grow, tables_grow}
use Rattle.sr_watch.proofs.trail.Trail.grow.Goals as goal

pub invariant_of-self-2 : goal.invariant_of-self-2
invariant_of-self-2 c =
    let lt : c.self.inside.vars < c.args.var = c.if-var-self.false in
    let z : (c.args.var == 0) ≡ false = grind (arith, nat_tests) in
    let first : c.fill.new.list.items ≡ c.self.inside.first.items ++ replicate (2 * c.args.var + 2 - length c.self.inside.first.items) 0 =
    subst (λ (t : List ℕ). c.fill.new.list.items ≡ t ++ replicate (2 * c.args.var + 2 - length t) 0) c.in_ok-reserve_to-3.ensures.items c.fill.ensures in
    let marks : c.fill-2.new.list.items ≡ c.self.inside.marks.items ++ replicate (2 * c.args.var + 2 - length c.self.inside.marks.items) false =
    subst (λ (t : List Bool). c.fill-2.new.list.items ≡ t ++ replicate (2 * c.args.var + 2 - length t) false) c.in_ok-reserve_to-4.ensures.items c.fill-2.ensures in
    let one : 4 * c.args.var + 4 ≤ vec_capacity c.reserve_to.new.list = c.in_ok-reserve_to.ensures.room in
    let two : 4 * c.args.var + 4 ≤ vec_capacity c.reserve_to-2.new.list = c.in_ok-reserve_to-2.ensures.room in
    rw (c.in_ok-reserve_to.ensures.items, c.in_ok-reserve_to-2.ensures.items, first, marks, z) (
      entries_grow (record { vars = c.self.inside.vars; lits = c.self.inside.lits.items; reasons = c.self.inside.reasons.items }) c.args.var lt c.requires c.self.invariant.0,
      tables_grow (record { vars = c.self.inside.vars; lits = c.self.inside.lits.items; reasons = c.self.inside.reasons.items }) c.args.var c.self.inside.first.items c.self.inside.marks.items c.self.invariant.0 lt c.self.invariant.1,
      one,
      two,
      c.self.invariant.4,
      c.self.invariant.5,
      c.self.invariant.6,
    )
