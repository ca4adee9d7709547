use Rattle.std.proofs.Common.{◌≡◌, ◌≤◌, ◌<◌, ◌+◌, ◌-◌, ◌∙◌, sym, ap, subst, min, arith, length, ◌==◌, get_or, set, cond, true, false, take}
use Rattle.std.proofs.lemmas.List.{get_or_default}
use Rattle.sr_base.specs.Literal.{has, variable, literal_code}
use Rattle.std.specs.Prelude.{nat_le}
use Rattle.std.proofs.lemmas.Bool.Decides.{nat_tests}
use Rattle.sr_model.proofs.Soundness.{by_test}
use Rattle.sr_watch.specs.Trail.{Entries, IsClashAt, IsAssumedPairAt, root_length}
use Rattle.sr_watch.proofs.Firsts.{assumed_pair_pop, root_take}
use Rattle.sr_watch.proofs.Tables.{few, entries_cut, tables_pop, code_within, in_list, clash_pop}
use Rattle.sr_watch.proofs.trail.Trail.pop.Goals as goal

pub overflow_cast-last : goal.overflow_cast-last
overflow_cast-last c = omega (arith, few (record { vars = c.self.inside.vars; lits = c.self.inside.lits.items; reasons = c.self.inside.reasons.items }) c.self.invariant.0, c.self.invariant.0.fits, c.len-last.ensures, c.self.inside.lits.ok.0)

pub overflow_add-last : goal.overflow_add-last
overflow_add-last c = omega (arith, few (record { vars = c.self.inside.vars; lits = c.self.inside.lits.items; reasons = c.self.inside.reasons.items }) c.self.invariant.0, c.self.invariant.0.fits, c.len-last.ensures, c.self.inside.lits.ok.0)

pub replace-requires : goal.replace-requires
replace-requires c =
    let n : c.len-last.result ≡ length c.self.inside.lits.items = c.len-last.ensures ∙ c.self.inside.lits.ok.0 in
    let pos : 0 < length c.self.inside.lits.items = subst (λ (e : Entries). 0 < length e.lits) (sym c.self.view_is) c.requires in
    let some : 0 < variable c.index-l.result.now = omega (arith, c.var-var.ensures.value, c.var-var.ensures.low) in
    let mine : has c.index-l.result.now c.self.inside.lits.items ≡ true = in_list c.self.inside.lits.items (c.len-last.result - 1) c.index-l.result.now (omega (arith, n, pos)) c.index-l.ensures in
    let within : variable c.index-l.result.now ≤ c.self.inside.vars = c.self.invariant.0.within c.index-l.result.now mine in
    omega (arith, c.code-code.ensures.value, c.self.invariant.1.first_size, code_within c.index-l.result.now c.self.inside.vars some within)

pub mark_if-requires : goal.mark_if-requires
mark_if-requires c =
    let n : c.len-last.result ≡ length c.self.inside.lits.items = c.len-last.ensures ∙ c.self.inside.lits.ok.0 in
    let pos : 0 < length c.self.inside.lits.items = subst (λ (e : Entries). 0 < length e.lits) (sym c.self.view_is) c.requires in
    let some : 0 < variable c.index-l.result.now = omega (arith, c.var-var.ensures.value, c.var-var.ensures.low) in
    let mine : has c.index-l.result.now c.self.inside.lits.items ≡ true = in_list c.self.inside.lits.items (c.len-last.result - 1) c.index-l.result.now (omega (arith, n, pos)) c.index-l.ensures in
    let within : variable c.index-l.result.now ≤ c.self.inside.vars = c.self.invariant.0.within c.index-l.result.now mine in
    omega (arith, c.code-code.ensures.value, c.self.invariant.1.marks_size, code_within c.index-l.result.now c.self.inside.vars some within)

pub invariant_of-self : goal.invariant_of-self
invariant_of-self c =
    let n : c.len-last.result ≡ length c.self.inside.lits.items = c.len-last.ensures ∙ c.self.inside.lits.ok.0 in
    let pos : 0 < length c.self.inside.lits.items = subst (λ (e : Entries). 0 < length e.lits) (sym c.self.view_is) c.requires in
    let some : 0 < variable c.index-l.result.now = omega (arith, c.var-var.ensures.value, c.var-var.ensures.low) in
    let mine : has c.index-l.result.now c.self.inside.lits.items ≡ true = in_list c.self.inside.lits.items (c.len-last.result - 1) c.index-l.result.now (omega (arith, n, pos)) c.index-l.ensures in
    let within : variable c.index-l.result.now ≤ c.self.inside.vars = c.self.invariant.0.within c.index-l.result.now mine in
    let size : length c.self.inside.lits.items ≡ (c.len-last.result - 1) + 1 = omega (arith, n, pos) in
    let x = tables_pop (record { vars = c.self.inside.vars; lits = c.self.inside.lits.items; reasons = c.self.inside.reasons.items }) (c.len-last.result - 1) c.index-l.result.now c.self.inside.first.items c.self.inside.marks.items c.self.invariant.0 size c.index-l.ensures some c.self.invariant.1 in
    let first : c.replace.new.table.items ≡ cond (get_or c.self.inside.first.items (literal_code c.index-l.result.now) 0 == (c.len-last.result - 1) + 1) (set c.self.inside.first.items (literal_code c.index-l.result.now) 0) c.self.inside.first.items =
    subst (λ k. c.replace.new.table.items ≡ cond (get_or c.self.inside.first.items k 0 == (c.len-last.result - 1) + 1) (set c.self.inside.first.items k 0) c.self.inside.first.items) c.code-code.ensures.value c.replace.ensures in
    let reason : c.index.result.now ≡ get_or c.self.inside.reasons.items (c.len-last.result - 1) 0 = c.index.ensures ∙ get_or_default c.self.inside.reasons.items (c.len-last.result - 1) c.index.result.now 0 (omega (arith, n, pos, c.self.invariant.0.sizes)) in
    let marks : c.mark_if.new.marks.items ≡ cond (get_or c.self.inside.reasons.items (c.len-last.result - 1) 0 == 0) (set c.self.inside.marks.items (literal_code c.index-l.result.now) false) c.self.inside.marks.items =
    subst (λ m. c.mark_if.new.marks.items ≡ cond (m == 0) (set c.self.inside.marks.items (literal_code c.index-l.result.now) false) c.self.inside.marks.items) reason
    (subst (λ k. c.mark_if.new.marks.items ≡ cond (c.index.result.now == 0) (set c.self.inside.marks.items k false) c.self.inside.marks.items) c.code-code.ensures.value c.mark_if.ensures) in
    let w = clash_pop c.self.inside.lits.items (c.len-last.result - 1) c.self.inside.clash (omega (arith, n)) c.self.invariant.4 in
    let clash : IsClashAt (take (c.len-last.result - 1) c.self.inside.lits.items) c.first_within-self-inside.result = by_test (nat_le c.self.inside.clash (c.len-last.result - 1))
    (λ t. let le : c.self.inside.clash ≤ c.len-last.result - 1 = grind (arith, nat_tests) in subst (λ m. IsClashAt (take (c.len-last.result - 1) c.self.inside.lits.items) m) (sym (c.first_within-self-inside.ensures.less le)) (w.0 le))
    (λ t. let lt : c.len-last.result - 1 < c.self.inside.clash = grind (arith, nat_tests) in subst (λ m. IsClashAt (take (c.len-last.result - 1) c.self.inside.lits.items) m) (sym (c.first_within-self-inside.ensures.none lt)) (w.1 lt)) in
    let v = assumed_pair_pop c.self.inside.lits.items c.self.inside.reasons.items (c.len-last.result - 1) c.self.inside.pair (omega (arith, n)) c.self.invariant.5 in
    let pair : IsAssumedPairAt (take (c.len-last.result - 1) c.self.inside.lits.items) (take (c.len-last.result - 1) c.self.inside.reasons.items) c.first_within-self-inside-2.result = by_test (nat_le c.self.inside.pair (c.len-last.result - 1))
    (λ t. let le : c.self.inside.pair ≤ c.len-last.result - 1 = grind (arith, nat_tests) in subst (λ m. IsAssumedPairAt (take (c.len-last.result - 1) c.self.inside.lits.items) (take (c.len-last.result - 1) c.self.inside.reasons.items) m) (sym (c.first_within-self-inside-2.ensures.less le)) (v.0 le))
    (λ t. let lt : c.len-last.result - 1 < c.self.inside.pair = grind (arith, nat_tests) in subst (λ m. IsAssumedPairAt (take (c.len-last.result - 1) c.self.inside.lits.items) (take (c.len-last.result - 1) c.self.inside.reasons.items) m) (sym (c.first_within-self-inside-2.ensures.none lt)) (v.1 lt)) in
    let root : c.root_within-self-inside.result ≡ root_length (take (c.len-last.result - 1) c.self.inside.reasons.items) =
    c.root_within-self-inside.ensures ∙ ap (λ m. min m (c.len-last.result - 1)) c.self.invariant.6 ∙ sym (root_take (c.len-last.result - 1) c.self.inside.reasons.items) in
    rw (c.truncate.ensures.items, c.truncate-2.ensures.items, first, marks, c.truncate.ensures.capacity, c.truncate-2.ensures.capacity)
    (entries_cut (record { vars = c.self.inside.vars; lits = c.self.inside.lits.items; reasons = c.self.inside.reasons.items }) (c.len-last.result - 1) (omega (arith, n)) c.self.invariant.0, x, c.self.invariant.2, c.self.invariant.3, clash, pair, root)
