use Rattle.std.proofs.Common.{◌≡◌, sym, Ok, Err, map, string_bytes, subst}
use Rattle.sr_trim.specs.Said.{trim_said}
use Rattle.sr_cli.specs.Words.{Asked, asked, only_reads, helps, checks, trims, said, AreRefused, SaysTask}
use Rattle.sr_emit.specs.declared.topic.Topic.{Topic}
use Rattle.sr_emit.specs.declared.topic.Flaw.{Flaw}
use Rattle.sr_emit.specs.declared.outcome.UsageKind.{UsageKind}
use Rattle.sr_emit.specs.declared.outcome.Outcome.TheVariants as outcome
use Rattle.sr_emit.specs.declared.report.Command.TheVariants as command
use Rattle.sr_cli.specs.declared.words.Task.{Task}
use Rattle.sr_cli.specs.declared.words.WordsError.{WordsError}
use Rattle.sr_cli.proofs.Dispatch.{words_out, words_out_say, words_out_give, words_out_touch, IsTold, refused_told, help_told, told_runs, told_sound, told_printed, told_cause, told_files, told_touches, told_memory, says_for}
use Rattle.sr_cli.proofs.Unwritten.{out_unwritten, unwritten_for}
use Rattle.sr_cli.proofs.running.run_with.Goals as goal

pub returns-in-Err-NoMemory-clause-runs : goal.returns-in-Err-NoMemory-clause-runs
returns-in-Err-NoMemory-clause-runs g c = words_out c.args.limits.now (asked (map string_bytes c.args.words.now)) (g.D.Desk.outside c.args.desk.now) c.requires

pub returns-in-Err-NoMemory-clause-printed : goal.returns-in-Err-NoMemory-clause-printed
returns-in-Err-NoMemory-clause-printed g c = words_out_say c.args.limits.now (asked (map string_bytes c.args.words.now)) (g.D.Desk.outside c.args.desk.now) c.requires

pub returns-in-Err-NoMemory-clause-files : goal.returns-in-Err-NoMemory-clause-files
returns-in-Err-NoMemory-clause-files g c = words_out_give (asked (map string_bytes c.args.words.now)) (g.D.Desk.outside c.args.desk.now) c.requires

pub returns-in-Err-NoMemory-clause-only : goal.returns-in-Err-NoMemory-clause-only
returns-in-Err-NoMemory-clause-only g c = words_out_touch (asked (map string_bytes c.args.words.now)) (g.D.Desk.outside c.args.desk.now) c.requires

pub returns-in-Err-Refused : goal.returns-in-Err-Refused
returns-in-Err-Refused g c =
    let t : Topic = c.in-Err-Refused.topic in
    let f : Flaw = c.in-Err-Refused.flaw in
    let a : Asked = asked (map string_bytes c.args.words.now) in
    let says : AreRefused t f a = subst (λ (stop : WordsError). SaysTask a (Err stop)) c.in-Err-Refused.field-0-is c.in-Err-Refused.ensures in
    let is : IsTold (command.Refused t f) (outcome.Usage c.kind.result) a = subst (λ (k : UsageKind). IsTold (command.Refused t f) (outcome.Usage k) a) (sym c.kind.ensures) (refused_told t f a says) in
    let lim = c.args.limits.now in
    let found = outcome.Usage c.kind.result in
    let old = g.D.Desk.outside c.args.desk.now in
    let new = g.D.Desk.outside c.tell.new.desk in
    let only = c.tell.ensures.only in
    let r = c.tell.ensures.reports in
    record {
      runs = told_runs lim (command.Refused t f) found c.tell.result old new c.requires only r a is;
      sound = told_sound lim (command.Refused t f) found c.tell.result old new c.requires only r a is;
      printed = told_printed lim (command.Refused t f) found c.tell.result old new c.requires only r a is;
      cause = told_cause lim (command.Refused t f) found c.tell.result old new c.requires only r a is;
      files = told_files lim (command.Refused t f) found c.tell.result old new c.requires only r a is;
      only = told_touches lim (command.Refused t f) found c.tell.result old new c.requires only r a is;
      memory = told_memory lim (command.Refused t f) found c.tell.result old new c.requires only r a is;
    }

pub returns-in-Ok-Help : goal.returns-in-Ok-Help
returns-in-Ok-Help g c =
    let a : Asked = asked (map string_bytes c.args.words.now) in
    let says : a ≡ only_reads (helps c.in-Ok-Help.topic) = subst (λ (task : Task). SaysTask a (Ok task)) c.in-Ok-Help.field-0-is c.in-Ok-Help.ensures in
    let is : IsTold command.Help (outcome.Helped c.in-Ok-Help.topic) a = help_told c.in-Ok-Help.topic a says in
    let lim = c.args.limits.now in
    let found = outcome.Helped c.in-Ok-Help.topic in
    let old = g.D.Desk.outside c.args.desk.now in
    let new = g.D.Desk.outside c.tell-in-Ok-Help.new.desk in
    let only = c.tell-in-Ok-Help.ensures.only in
    let r = c.tell-in-Ok-Help.ensures.reports in
    record {
      runs = told_runs lim command.Help found c.tell-in-Ok-Help.result old new c.requires only r a is;
      sound = told_sound lim command.Help found c.tell-in-Ok-Help.result old new c.requires only r a is;
      printed = told_printed lim command.Help found c.tell-in-Ok-Help.result old new c.requires only r a is;
      cause = told_cause lim command.Help found c.tell-in-Ok-Help.result old new c.requires only r a is;
      files = told_files lim command.Help found c.tell-in-Ok-Help.result old new c.requires only r a is;
      only = told_touches lim command.Help found c.tell-in-Ok-Help.result old new c.requires only r a is;
      memory = told_memory lim command.Help found c.tell-in-Ok-Help.result old new c.requires only r a is;
    }

pub returns-in-Ok-Check-clause-printed : goal.returns-in-Ok-Check-clause-printed
returns-in-Ok-Check-clause-printed g c =
    let says : asked (map string_bytes c.args.words.now) ≡ only_reads (checks (said c.in-Ok-Check.said)) = subst (λ (task : Task). SaysTask (asked (map string_bytes c.args.words.now)) (Ok task)) c.in-Ok-Check.field-0-is c.in-Ok-Check.ensures in
    says_for c.args.limits.now (asked (map string_bytes c.args.words.now)) (only_reads (checks (said c.in-Ok-Check.said))) (g.D.Desk.outside c.args.desk.now) (g.D.Desk.outside c.run_check.new.desk)
    says c.run_check.ensures.printed

pub returns-in-Ok-Trim-clause-printed : goal.returns-in-Ok-Trim-clause-printed
returns-in-Ok-Trim-clause-printed g c =
    let says : asked (map string_bytes c.args.words.now) ≡ trims (trim_said c.in-Ok-Trim.said) = subst (λ (task : Task). SaysTask (asked (map string_bytes c.args.words.now)) (Ok task)) c.in-Ok-Trim.field-0-is c.in-Ok-Trim.ensures in
    says_for c.args.limits.now (asked (map string_bytes c.args.words.now)) (trims (trim_said c.in-Ok-Trim.said)) (g.D.Desk.outside c.args.desk.now) (g.D.Desk.outside c.run_trim.new.desk)
    says c.run_trim.ensures.printed

pub returns-in-Err-NoMemory-clause-memory : goal.returns-in-Err-NoMemory-clause-memory
returns-in-Err-NoMemory-clause-memory g c = out_unwritten (asked (map string_bytes c.args.words.now)) (g.D.Desk.outside c.args.desk.now)

pub returns-in-Ok-Check-clause-memory : goal.returns-in-Ok-Check-clause-memory
returns-in-Ok-Check-clause-memory g c =
    let a : Asked = asked (map string_bytes c.args.words.now) in
    let says : a ≡ only_reads (checks (said c.in-Ok-Check.said)) = subst (λ (task : Task). SaysTask a (Ok task)) c.in-Ok-Check.field-0-is c.in-Ok-Check.ensures in
    unwritten_for a (only_reads (checks (said c.in-Ok-Check.said))) (g.D.Desk.outside c.args.desk.now) (g.D.Desk.outside c.run_check.new.desk) c.run_check.result says
    (λ e. record { file = c.run_check.ensures.only.file; writes = c.run_check.ensures.only.writes })

pub returns-in-Ok-Trim-clause-memory : goal.returns-in-Ok-Trim-clause-memory
returns-in-Ok-Trim-clause-memory g c =
    let a : Asked = asked (map string_bytes c.args.words.now) in
    let says : a ≡ trims (trim_said c.in-Ok-Trim.said) = subst (λ (task : Task). SaysTask a (Ok task)) c.in-Ok-Trim.field-0-is c.in-Ok-Trim.ensures in
    unwritten_for a (trims (trim_said c.in-Ok-Trim.said)) (g.D.Desk.outside c.args.desk.now) (g.D.Desk.outside c.run_trim.new.desk) c.run_trim.result says c.run_trim.ensures.memory
