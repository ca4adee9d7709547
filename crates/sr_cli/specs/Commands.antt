-- The commands, as the parser of command lines sees them.
use Rattle.std.specs.Prelude.{true, Some, codes}
use Rattle.clap.specs.Words.{App, Rule, Text, new_app, new_rule, with_rule}
use Rattle.clap.specs.Simple.{Shape, on_top}
use Rattle.clap.specs.declared.builder.ArgAction.TheVariants.{Set, SetTrue}

abbrev pub positional_rule : Text → Rule
positional_rule id = record (new_rule id) { required = true; action = Some Set }

abbrev pub option_rule : Text → Rule
option_rule id = record (new_rule id) { long = Some id; action = Some Set }

abbrev pub flag_rule : Text → Rule
flag_rule id = record (new_rule id) { long = Some id; action = Some SetTrue }

-- the words begin with no program's name
abbrev pub bare_app : Text → App
bare_app name = on_top (λ (s : Shape). record s { no_binary_name = true }) (new_app name)

abbrev pub check_app : App
check_app = with_rule (with_rule (with_rule (with_rule (with_rule (bare_app (codes "check"))
    (positional_rule (codes "FORMULA"))) (positional_rule (codes "PROOF")))
    (option_rule (codes "proof-form"))) (flag_rule (codes "strict"))) (flag_rule (codes "stats"))

-- the files of `trim` and the form of its proof
abbrev pub trim_files_app : App
trim_files_app = with_rule (with_rule (with_rule (with_rule (bare_app (codes "trim"))
    (positional_rule (codes "FORMULA"))) (positional_rule (codes "PROOF"))) (option_rule (codes "proof-form"))) (option_rule (codes "lsr"))

abbrev pub trim_app : App
trim_app = with_rule (with_rule (with_rule (with_rule trim_files_app
    (option_rule (codes "lsr-form"))) (option_rule (codes "core"))) (flag_rule (codes "keep-units"))) (flag_rule (codes "stats"))

-- the number of holes of `demo`, and its files
abbrev pub demo_files_app : App
demo_files_app = with_rule (with_rule (with_rule (with_rule (bare_app (codes "demo"))
    (positional_rule (codes "N"))) (option_rule (codes "formula"))) (option_rule (codes "proof"))) (option_rule (codes "lsr"))

abbrev pub demo_app : App
demo_app = with_rule (with_rule demo_files_app (option_rule (codes "core"))) (flag_rule (codes "stats"))
