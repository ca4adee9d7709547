use Rattle.std.proofs.Common.{◌≡◌, false, ◌+◌, ◌<◌, ◌∷◌, [], ◌++◌, ap, ◌∙◌, sym, subst, take, map}
use Rattle.std.proofs.lemmas.List.{take_more, map-append}
use Rattle.std.specs.Prelude.{Result, Ok, Err, is_err, OnOk}
use Rattle.sr_load.specs.Finding.{number_at}
use Rattle.sr_load.proofs.Conflicts.{some_attached, attached_push}
use Rattle.sr_load.proofs.finding.write_numbers.Goals as goal

ok_of : {A E P : Type 0} (r : Result A E) → is_err r ≡ false → OnOk r P → P
ok_of (Ok x) e h = h
ok_of (Err x) e h = absurd cc

pub number-requires : goal.number-requires
number-requires c =
    let low = subst (λ n. 0 < n) c.index-some.ensures.value c.index-some.ensures.low in
    c.requires.sound.held c.at-item.result (some_attached c.args.propagator.now c.args.refs.now c.loop-at.at-index c.at-item.result c.requires.attached c.loop-at-test.true c.at-item.is low)

pub loop-at-preserved : goal.loop-at-preserved
loop-at-preserved c =
    let low = subst (λ n. 0 < n) c.index-some.ensures.value c.index-some.ensures.low in
    let s = c.args.propagator.now in
    let more : take (c.loop-at.at-index + 1) c.args.refs.now ≡ take c.loop-at.at-index c.args.refs.now ++ c.at-item.result ∷ [] =
    take_more c.args.refs.now c.loop-at.at-index c.at-item.result c.loop-at-test.true ∙ ap (λ x. take c.loop-at.at-index c.args.refs.now ++ x ∷ []) (sym c.at-item.is) in
    record {
      written = ok_of c.push.result (sym c.is_err.ensures.value ∙ c.if-is_err.false) c.push.ensures.ok
          ∙ ap (λ ns. ns ++ c.number.result ∷ []) c.loop-at.invariant.written
          ∙ ap (λ n. map (number_at s) (take c.loop-at.at-index c.args.refs.now) ++ n ∷ []) c.number.ensures
          ∙ sym (ap (map (number_at s)) more ∙ map-append (number_at s) (take c.loop-at.at-index c.args.refs.now) (c.at-item.result ∷ []));
      attached = rw more (attached_push s (take c.loop-at.at-index c.args.refs.now) c.at-item.result c.loop-at.invariant.attached (some_attached s c.args.refs.now c.loop-at.at-index c.at-item.result c.requires.attached c.loop-at-test.true c.at-item.is low));
    }
