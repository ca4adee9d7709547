use Rattle.std.proofs.Common.{◌∙◌, sym, ℕ, List, subst}
use Rattle.sr_trim.specs.Said.{trim_said}
use Rattle.sr_cli.specs.Run.{Shows}
use Rattle.sr_cli.proofs.Trimmed.{runs_unreported, runs_shown, runs_reported, trim_sound, trim_says_so, trim_cause, trim_gives, trim_only}
use Rattle.sr_cli.proofs.Unwritten.{trim_unwritten, when_out, when_reported, shown_in, print_unwritten}
use Rattle.sr_cli.proofs.running.run_trim.Goals as goal

pub returns-then-is_verified : goal.returns-then-is_verified
returns-then-is_verified g c =
    let lim = c.args.limits.now in
    let s = trim_said c.args.asked_for.now in
    let old = g.D.Desk.outside c.args.desk.now in
    let mid = g.D.Desk.outside c.trim_files-found.new.desk in
    let new = g.D.Desk.outside c.show.new.desk in
    let found = c.trim_files-found.result.outcome in
    let o = c.show.result in
    let v = sym c.is_verified.ensures ∙ c.if-is_verified.true in
    let shows = subst (λ (b : List ℕ). Shows b (g.D.Desk.outside c.trim_files-found.new.desk) (g.D.Desk.outside c.show.new.desk) c.trim_files-found.result.outcome c.show.result) c.as_slice.ensures c.show.ensures.shows in
    let runs = runs_shown lim s old mid new found o c.trim_files-found.result.counts c.trim_files-found.result.report c.trim_files-found.ensures.finds v c.trim_files-found.ensures.report c.show.ensures.only shows in
    record {
      runs = runs;
      sound = trim_sound lim s old new o c.requires runs;
      printed = trim_says_so lim s old new o c.requires runs;
      cause = trim_cause lim s old new o c.requires runs;
      files = trim_gives lim s old new o c.requires runs;
      only = trim_only lim s old new o c.requires runs;
      memory = shown_in c.trim_files-found.result.report mid new found o v shows;
    }

pub returns-then-is_unreported : goal.returns-then-is_unreported
returns-then-is_unreported g c =
    let lim = c.args.limits.now in
    let s = trim_said c.args.asked_for.now in
    let old = g.D.Desk.outside c.args.desk.now in
    let new = g.D.Desk.outside c.trim_files-found.new.desk in
    let o = c.trim_files-found.result.outcome in
    let k = c.trim_files-found.result.counts in
    let runs = runs_unreported lim s old new o k c.trim_files-found.ensures.finds (sym c.is_unreported.ensures ∙ c.if-is_unreported.true) in
    record {
      runs = runs;
      sound = trim_sound lim s old new o c.requires runs;
      printed = trim_says_so lim s old new o c.requires runs;
      cause = trim_cause lim s old new o c.requires runs;
      files = trim_gives lim s old new o c.requires runs;
      only = trim_only lim s old new o c.requires runs;
      memory = when_out o (trim_unwritten lim s old new o k c.trim_files-found.ensures.finds);
    }

pub returns : goal.returns
returns g c =
    let lim = c.args.limits.now in
    let s = trim_said c.args.asked_for.now in
    let old = g.D.Desk.outside c.args.desk.now in
    let mid = g.D.Desk.outside c.trim_files-found.new.desk in
    let new = g.D.Desk.outside c.report.new.desk in
    let found = c.trim_files-found.result.outcome in
    let o = c.report.result in
    let k = c.trim_files-found.result.counts in
    let v = sym c.is_verified.ensures ∙ c.if-is_verified.false in
    let u = sym c.is_unreported.ensures ∙ c.if-is_unreported.false in
    let runs = runs_reported lim s old mid new found o k c.trim_files-found.ensures.finds v u c.report.ensures.only c.report.ensures.reports in
    record {
      runs = runs;
      sound = trim_sound lim s old new o c.requires runs;
      printed = trim_says_so lim s old new o c.requires runs;
      cause = trim_cause lim s old new o c.requires runs;
      files = trim_gives lim s old new o c.requires runs;
      only = trim_only lim s old new o c.requires runs;
      memory = λ e. print_unwritten old mid new c.report.ensures.only (when_reported found (trim_unwritten lim s old mid found k c.trim_files-found.ensures.finds) v u);
    }
