use Rattle.std.proofs.Common.{◌∙◌, sym, ℕ, List, subst}
use Rattle.sr_cli.specs.Words.{demo_said}
use Rattle.sr_cli.specs.Run.{Shows}
use Rattle.sr_cli.proofs.Demonstrated.{demo_unreported, demo_shown, demo_reported, demo_sound, demo_says_so, demo_cause, demo_only}
use Rattle.sr_cli.proofs.Unwritten.{demo_unwritten, when_out, when_reported, shown_in, print_leaves}
use Rattle.sr_cli.proofs.running.run_demo.Goals as goal

pub returns-then-is_verified : goal.returns-then-is_verified
returns-then-is_verified g c =
    let lim = c.args.limits.now in
    let s = demo_said c.args.asked_for.now in
    let old = g.D.Desk.outside c.args.desk.now in
    let mid = g.D.Desk.outside c.demo_files-made.new.desk in
    let new = g.D.Desk.outside c.show.new.desk in
    let found = c.demo_files-made.result.outcome in
    let o = c.show.result in
    let v = sym c.is_verified.ensures ∙ c.if-is_verified.true in
    let shows = subst (λ (b : List ℕ). Shows b (g.D.Desk.outside c.demo_files-made.new.desk) (g.D.Desk.outside c.show.new.desk) c.demo_files-made.result.outcome c.show.result) c.as_slice.ensures c.show.ensures.shows in
    let runs = demo_shown lim s old mid new found o c.demo_files-made.result.counts c.demo_files-made.result.report c.demo_files-made.ensures.finds v c.demo_files-made.ensures.report c.show.ensures.only shows in
    record {
      runs = runs;
      sound = demo_sound lim s old new o c.requires.none runs;
      printed = demo_says_so lim s old new o c.requires.none runs;
      cause = demo_cause lim s old new o c.requires.none runs;
      only = demo_only lim s old new o c.requires.none runs;
      memory = shown_in c.demo_files-made.result.report mid new found o v shows;
    }

pub returns-then-is_unreported : goal.returns-then-is_unreported
returns-then-is_unreported g c =
    let lim = c.args.limits.now in
    let s = demo_said c.args.asked_for.now in
    let old = g.D.Desk.outside c.args.desk.now in
    let new = g.D.Desk.outside c.demo_files-made.new.desk in
    let o = c.demo_files-made.result.outcome in
    let k = c.demo_files-made.result.counts in
    let runs = demo_unreported lim s old new o k c.demo_files-made.ensures.finds (sym c.is_unreported.ensures ∙ c.if-is_unreported.true) in
    record {
      runs = runs;
      sound = demo_sound lim s old new o c.requires.none runs;
      printed = demo_says_so lim s old new o c.requires.none runs;
      cause = demo_cause lim s old new o c.requires.none runs;
      only = demo_only lim s old new o c.requires.none runs;
      memory = when_out o (demo_unwritten lim s old new o k c.demo_files-made.ensures.finds);
    }

pub returns : goal.returns
returns g c =
    let lim = c.args.limits.now in
    let s = demo_said c.args.asked_for.now in
    let old = g.D.Desk.outside c.args.desk.now in
    let mid = g.D.Desk.outside c.demo_files-made.new.desk in
    let new = g.D.Desk.outside c.report.new.desk in
    let found = c.demo_files-made.result.outcome in
    let o = c.report.result in
    let k = c.demo_files-made.result.counts in
    let v = sym c.is_verified.ensures ∙ c.if-is_verified.false in
    let u = sym c.is_unreported.ensures ∙ c.if-is_unreported.false in
    let runs = demo_reported lim s old mid new found o k c.demo_files-made.ensures.finds v u c.report.ensures.only c.report.ensures.reports in
    record {
      runs = runs;
      sound = demo_sound lim s old new o c.requires.none runs;
      printed = demo_says_so lim s old new o c.requires.none runs;
      cause = demo_cause lim s old new o c.requires.none runs;
      only = demo_only lim s old new o c.requires.none runs;
      memory = λ e. print_leaves old mid new c.report.ensures.only (when_reported found (demo_unwritten lim s old mid found k c.demo_files-made.ensures.finds) v u);
    }
