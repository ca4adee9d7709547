use Rattle.std.proofs.Common.{◌∙◌, sym}
use Rattle.sr_load.specs.Loaded.{all_lines}
use Rattle.sr_trim.specs.Said.{trim_said}
use Rattle.sr_trim.specs.Passing.{kept_steps}
use Rattle.sr_trim.proofs.Passed.{lsr_long, core_long, none_long, passes_core_same, core_told}
use Rattle.sr_trim.proofs.ready.too_long.Goals as goal

pub returns-then-is_lsr_long : goal.returns-then-is_lsr_long
returns-then-is_lsr_long g c ts w =
    let st = g.L.Loaded.state c.args.loaded.now in
    lsr_long c.args.limits.now (trim_said c.args.words.now) st.formula (all_lines st) ts (sym (c.is_lsr_long.ensures ts w) ∙ c.if-is_lsr_long.true)

pub returns-then-is_core_long : goal.returns-then-is_core_long
returns-then-is_core_long g c ts w =
    let st = g.L.Loaded.state c.args.loaded.now in
    let ss = kept_steps st c.args.steps.now in
    core_long c.args.limits.now (trim_said c.args.words.now) st.formula (all_lines st) ts (sym (c.is_lsr_long.ensures ts w) ∙ c.if-is_lsr_long.false)
    (sym (passes_core_same c.args.limits.now (trim_said c.args.words.now) st.formula ss ts w)
    ∙ sym (core_told c.args.limits.now (trim_said c.args.words.now) st.formula c.formula.result.now c.args.placing.now ss c.is_core_long.result c.formula.ensures c.is_core_long.ensures c.requires.placed)
    ∙ c.if-is_core_long.true)

pub returns : goal.returns
returns g c ts w =
    let st = g.L.Loaded.state c.args.loaded.now in
    let ss = kept_steps st c.args.steps.now in
    none_long c.args.limits.now (trim_said c.args.words.now) st.formula (all_lines st) ts (sym (c.is_lsr_long.ensures ts w) ∙ c.if-is_lsr_long.false)
    (sym (passes_core_same c.args.limits.now (trim_said c.args.words.now) st.formula ss ts w)
    ∙ sym (core_told c.args.limits.now (trim_said c.args.words.now) st.formula c.formula.result.now c.args.placing.now ss c.is_core_long.result c.formula.ensures c.is_core_long.ensures c.requires.placed)
    ∙ c.if-is_core_long.false)
