use Rattle.std.proofs.Common.{◌≡◌, ◌∙◌, ℕ, ◌-◌, false, length, get_or, ap, subst, arith}
use Rattle.std.proofs.lemmas.Result.{IfOk-weaker}
use Rattle.sr_load.specs.Loaded.{LoadedState, all_lines, all_in}
use Rattle.sr_steps.specs.Adding.{bare}
use Rattle.sr_placing.specs.Placing.{PlacingValue, steps_of, placing_of, IsPartedBy}
use Rattle.sr_placing.proofs.Knowing.{formula_known}
use Rattle.sr_placing.proofs.Placings.{last_id, last_at, linked_facts, cited_low, use_within, all_placed}
use Rattle.sr_placing.proofs.placing.Placing.new.Goals as goal

pub last_uses-requires-clause-few : goal.last_uses-requires-clause-few
last_uses-requires-clause-few g c =
    let st : LoadedState = g.L.Loaded.state c.args.loaded.now in
    let facts = linked_facts st.formula.clauses (all_lines st) c.args.steps.now c.requires.linked in
    let last = last_at 0 c.args.steps.now (bare 0 false) facts.0 in
    omega (arith, facts.2, c.id-last.ensures, ap (λ (n : ℕ). (get_or c.args.steps.now (n - 1) (bare 0 false)).id) c.len.ensures)

pub last_uses-requires-clause-within : goal.last_uses-requires-clause-within
last_uses-requires-clause-within g c n h =
    let st : LoadedState = g.L.Loaded.state c.args.loaded.now in
    let facts = linked_facts st.formula.clauses (all_lines st) c.args.steps.now c.requires.linked in
    let last = last_at 0 c.args.steps.now (bare 0 false) facts.0 in
    let known = formula_known st.formula.clauses (all_in st) (steps_of st c.args.steps.now) c.requires.linked c.requires.known c.requires.lean in
    let low = cited_low st.formula.clauses (all_lines st) c.args.steps.now c.requires.linked known n h in
    omega (arith, low, c.id-last.ensures, ap (λ (n : ℕ). (get_or c.args.steps.now (n - 1) (bare 0 false)).id) c.len.ensures)

pub parted-requires-clause-within : goal.parted-requires-clause-within
parted-requires-clause-within g c =
    let st : LoadedState = g.L.Loaded.state c.args.loaded.now in
    let facts = linked_facts st.formula.clauses (all_lines st) c.args.steps.now c.requires.linked in
    let last = last_at 0 c.args.steps.now (bare 0 false) facts.0 in
    let count : c.count-clauses.result ≡ length st.formula.clauses = c.count-clauses.ensures.value ∙ ap (λ f. length f.clauses) c.formula.ensures in
    omega (arith, facts.1, count, c.in_ok-uses.ensures.size, c.id-last.ensures, ap (λ (n : ℕ). (get_or c.args.steps.now (n - 1) (bare 0 false)).id) c.len.ensures)

pub parted-requires-clause-uses : goal.parted-requires-clause-uses
parted-requires-clause-uses g c n = omega (arith, c.in_ok-uses.ensures.uses n, use_within 0 n c.args.steps.now)

pub returns : goal.returns
returns g c =
    let st : LoadedState = g.L.Loaded.state c.args.loaded.now in
    let facts = linked_facts st.formula.clauses (all_lines st) c.args.steps.now c.requires.linked in
    let last = last_at 0 c.args.steps.now (bare 0 false) facts.0 in
    let known = formula_known st.formula.clauses (all_in st) (steps_of st c.args.steps.now) c.requires.linked c.requires.known c.requires.lean in
    let count : c.count-clauses.result ≡ length st.formula.clauses = c.count-clauses.ensures.value ∙ ap (λ f. length f.clauses) c.formula.ensures in
    let size : length c.in_ok-uses.uses.items ≡ last_id 0 c.args.steps.now =
    omega (arith, c.in_ok-uses.ensures.size, c.id-last.ensures, ap (λ (n : ℕ). (get_or c.args.steps.now (n - 1) (bare 0 false)).id) c.len.ensures) in
    IfOk-weaker c.parted.result (IsPartedBy c.in_ok-uses.uses.items c.count-clauses.result c.len-2.result) (λ (p : PlacingValue). p ≡ placing_of st.formula.clauses (steps_of st c.args.steps.now))
    (λ p parted. all_placed st.formula.clauses (all_lines st) c.args.steps.now c.in_ok-uses.uses.items p c.requires.linked known c.in_ok-uses.ensures.uses size
    (subst (λ n. IsPartedBy c.in_ok-uses.uses.items (length st.formula.clauses) n p) c.len-2.ensures (subst (λ n. IsPartedBy c.in_ok-uses.uses.items n c.len-2.result p) count parted)))
    c.parted.ensures
