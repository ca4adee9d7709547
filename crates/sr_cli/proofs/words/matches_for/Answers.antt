use Rattle.std.proofs.Common.{◌≡◌, ◌∙◌, refl, sym, ap, subst, map, string_bytes}
use Rattle.clap.specs.Words.{app_of, fault_of, kind_of}
use Rattle.sr_emit.specs.declared.topic.Flaw.{Flaw}
use Rattle.sr_cli.specs.Words.{flaw_of, IsOneOf}
use Rattle.sr_cli.proofs.WordsLemmas.{is_simple-and, has_flaw}
use Rattle.sr_cli.proofs.words.matches_for.Goals as goal

pub returns-in-Ok : goal.returns-in-Ok
returns-in-Ok c = (c.in-Ok.ensures.kinds c.requires, (c.in-Ok.ensures.matches (is_simple-and (app_of c.args.command) c.requires)).0)

pub returns : goal.returns
returns c =
    let e : c.flaw_of.result ≡ flaw_of (kind_of c.in-Err.error) = c.flaw_of.ensures ∙ ap flaw_of c.kind.ensures in
    let h = has_flaw (fault_of (app_of c.args.command) (map string_bytes c.args.words.now)) c.in-Err.error (c.in-Err.ensures.kinds c.requires) (λ m. c.in_default.not-OutOfMemory (c.kind.ensures ∙ m)) in
    (refl, subst (λ (f : Flaw). IsOneOf f (map flaw_of (fault_of (app_of c.args.command) (map string_bytes c.args.words.now)))) (sym e) h)
