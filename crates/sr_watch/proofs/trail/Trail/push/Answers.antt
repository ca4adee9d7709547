use Rattle.std.proofs.Common.{◌≡◌, ◌<◌, ◌+◌, ◌∙◌, sym, ap, subst, arith, length, ◌==◌, get_or, set, cond, true, false, [], ◌∷◌, ◌++◌}
use Rattle.sr_base.specs.Literal.{has, variable, literal_code}
use Rattle.sr_base.specs.Literal.{Literal, complement}
use Rattle.sr_watch.specs.State.{assumed_in}
use Rattle.sr_watch.specs.Trail.{Entries, MayEnter, with_entry, IsClashAt, IsAssumedPairAt, root_length}
use Rattle.sr_watch.proofs.Firsts.{assumed_pair_push, root_push}
use Rattle.sr_watch.proofs.Tables.{few, room_for, pushed_entries, tables_push, clash_push}
use Rattle.sr_watch.proofs.trail.Trail.push.Goals as goal

pub overflow_cast-place : goal.overflow_cast-place
overflow_cast-place c = omega (arith, few (record { vars = c.self.inside.vars; lits = c.self.inside.lits.items; reasons = c.self.inside.reasons.items }) c.self.invariant.0, c.self.invariant.0.fits, c.len.ensures, c.self.inside.lits.ok.0)

pub overflow_add-place : goal.overflow_add-place
overflow_add-place c = omega (arith, few (record { vars = c.self.inside.vars; lits = c.self.inside.lits.items; reasons = c.self.inside.reasons.items }) c.self.invariant.0, c.self.invariant.0.fits, c.len.ensures, c.self.inside.lits.ok.0)

pub push_reserved-requires : goal.push_reserved-requires
push_reserved-requires c =
    let some : 0 < variable c.args.l = omega (arith, c.var-var.ensures.value, c.var-var.ensures.low) in
    let r = room_for (record { vars = c.self.inside.vars; lits = c.self.inside.lits.items; reasons = c.self.inside.reasons.items }) c.args.l c.args.reason _ c.self.invariant.0 (subst (λ (e : Entries). MayEnter e c.args.l c.args.reason) (sym c.self.view_is) c.requires) some c.self.invariant.2 in
    omega (arith, r, c.self.inside.lits.ok.0)

pub push_reserved-requires-2 : goal.push_reserved-requires-2
push_reserved-requires-2 c =
    let some : 0 < variable c.args.l = omega (arith, c.var-var.ensures.value, c.var-var.ensures.low) in
    let r = room_for (record { vars = c.self.inside.vars; lits = c.self.inside.lits.items; reasons = c.self.inside.reasons.items }) c.args.l c.args.reason _ c.self.invariant.0 (subst (λ (e : Entries). MayEnter e c.args.l c.args.reason) (sym c.self.view_is) c.requires) some c.self.invariant.3 in
    omega (arith, r, c.self.inside.reasons.ok.0, c.self.invariant.0.sizes)

pub invariant_of-self : goal.invariant_of-self
invariant_of-self c =
    let some : 0 < variable c.args.l = omega (arith, c.var-var.ensures.value, c.var-var.ensures.low) in
    let n : c.len.result ≡ length c.self.inside.lits.items = c.len.ensures ∙ c.self.inside.lits.ok.0 in
    let x = tables_push (record { vars = c.self.inside.vars; lits = c.self.inside.lits.items; reasons = c.self.inside.reasons.items }) c.args.l c.args.reason c.self.inside.first.items c.self.inside.marks.items c.self.invariant.0 (subst (λ (e : Entries). MayEnter e c.args.l c.args.reason) (sym c.self.view_is) c.requires) some c.self.invariant.1 in
    let first : c.replace.new.table.items ≡ cond (get_or c.self.inside.first.items (literal_code c.args.l) 0 == 0) (set c.self.inside.first.items (literal_code c.args.l) (length c.self.inside.lits.items + 1)) c.self.inside.first.items =
    subst (λ m. c.replace.new.table.items ≡ cond (get_or c.self.inside.first.items (literal_code c.args.l) 0 == 0) (set c.self.inside.first.items (literal_code c.args.l) (m + 1)) c.self.inside.first.items) n
    (subst (λ k. c.replace.new.table.items ≡ cond (get_or c.self.inside.first.items k 0 == 0) (set c.self.inside.first.items k (c.len.result + 1)) c.self.inside.first.items) c.code-code.ensures.value c.replace.ensures) in
    let marks : c.mark_if.new.marks.items ≡ cond (c.args.reason == 0) (set c.self.inside.marks.items (literal_code c.args.l) true) c.self.inside.marks.items =
    subst (λ k. c.mark_if.new.marks.items ≡ cond (c.args.reason == 0) (set c.self.inside.marks.items k true) c.self.inside.marks.items) c.code-code.ensures.value c.mark_if.ensures in
    let after : c.first_after-self-inside.result ≡ cond (c.self.inside.clash == 0) (cond c.is_true-is_false.result (length c.self.inside.lits.items + 1) 0) c.self.inside.clash =
    subst (λ m. c.first_after-self-inside.result ≡ cond (c.self.inside.clash == 0) (cond c.is_true-is_false.result (m + 1) 0) c.self.inside.clash) n c.first_after-self-inside.ensures in
    let is_false : c.is_true-is_false.result ≡ has (complement c.args.l) c.self.inside.lits.items = c.is_true-is_false.ensures ∙ ap (λ (k : Literal). has k c.args.self.now.lits) c.neg.ensures.value ∙ sym (ap (λ (e : Entries). has (complement c.args.l) e.lits) c.self.view_is) in
    let clash : IsClashAt (c.self.inside.lits.items ++ c.args.l ∷ []) c.first_after-self-inside.result = subst (λ m. IsClashAt (c.self.inside.lits.items ++ c.args.l ∷ []) m) (sym after) (clash_push c.self.inside.lits.items c.args.l c.self.inside.clash c.is_true-is_false.result c.self.invariant.4 is_false) in
    let pair_after : c.first_after-self-inside-2.result ≡ cond (c.self.inside.pair == 0) (cond c.makes_pair-makes_pair.result (length c.self.inside.lits.items + 1) 0) c.self.inside.pair =
    subst (λ m. c.first_after-self-inside-2.result ≡ cond (c.self.inside.pair == 0) (cond c.makes_pair-makes_pair.result (m + 1) 0) c.self.inside.pair) n c.first_after-self-inside-2.ensures in
    let makes_pair : c.makes_pair-makes_pair.result ≡ cond (c.args.reason == 0) (has (complement c.args.l) (assumed_in c.self.inside.lits.items c.self.inside.reasons.items)) false =
    c.makes_pair-makes_pair.ensures ∙ sym (ap (λ (e : Entries). cond (c.args.reason == 0) (has (complement c.args.l) (assumed_in e.lits e.reasons)) false) c.self.view_is) in
    let pair : IsAssumedPairAt (c.self.inside.lits.items ++ c.args.l ∷ []) (c.self.inside.reasons.items ++ c.args.reason ∷ []) c.first_after-self-inside-2.result =
    subst (λ m. IsAssumedPairAt (c.self.inside.lits.items ++ c.args.l ∷ []) (c.self.inside.reasons.items ++ c.args.reason ∷ []) m) (sym pair_after)
    (assumed_pair_push c.self.inside.lits.items c.self.inside.reasons.items c.args.l c.args.reason c.self.inside.pair c.makes_pair-makes_pair.result c.self.invariant.0.sizes c.self.invariant.5 makes_pair) in
    let size : c.len.result ≡ length c.self.inside.reasons.items = n ∙ sym c.self.invariant.0.sizes in
    let root_after : c.root_after-self-inside.result ≡ cond (c.args.reason == 0) (root_length c.self.inside.reasons.items) (cond (root_length c.self.inside.reasons.items + 1 == length c.self.inside.reasons.items + 1) (length c.self.inside.reasons.items + 1) (root_length c.self.inside.reasons.items)) =
    c.root_after-self-inside.ensures ∙ ap (λ m. cond (c.args.reason == 0) m (cond (m + 1 == c.len.result + 1) (c.len.result + 1) m)) c.self.invariant.6
    ∙ ap (λ m. cond (c.args.reason == 0) (root_length c.self.inside.reasons.items) (cond (root_length c.self.inside.reasons.items + 1 == m + 1) (m + 1) (root_length c.self.inside.reasons.items))) size in
    let root : c.root_after-self-inside.result ≡ root_length (c.self.inside.reasons.items ++ c.args.reason ∷ []) = root_after ∙ sym (root_push c.self.inside.reasons.items c.args.reason) in
    rw (c.push_reserved.ensures.items, c.push_reserved-2.ensures.items, first, marks, c.push_reserved.ensures.capacity, c.push_reserved-2.ensures.capacity)
    (pushed_entries (record { vars = c.self.inside.vars; lits = c.self.inside.lits.items; reasons = c.self.inside.reasons.items }) c.args.l c.args.reason c.self.invariant.0 (subst (λ (e : Entries). MayEnter e c.args.l c.args.reason) (sym c.self.view_is) c.requires), x, c.self.invariant.2, c.self.invariant.3, clash, pair, root)

pub returns-clause-room : goal.returns-clause-room
returns-clause-room c = rw c.push_reserved.ensures.items (few (with_entry (record { vars = c.self.inside.vars; lits = c.self.inside.lits.items; reasons = c.self.inside.reasons.items }) c.args.l c.args.reason) (pushed_entries (record { vars = c.self.inside.vars; lits = c.self.inside.lits.items; reasons = c.self.inside.reasons.items }) c.args.l c.args.reason c.self.invariant.0 (subst (λ (e : Entries). MayEnter e c.args.l c.args.reason) (sym c.self.view_is) c.requires)))
