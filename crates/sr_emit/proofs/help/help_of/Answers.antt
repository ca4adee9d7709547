use Rattle.sr_emit.specs.Help.{help_text, help_lines, synopsis}
use Rattle.sr_emit.proofs.help.help_of.Goals as goal

pub returns-in-General : goal.returns-in-General
unfolding help_text help_lines synopsis
returns-in-General c = rw c.in-General.is c.joined.ensures

pub returns-in-Check : goal.returns-in-Check
unfolding help_text help_lines synopsis
returns-in-Check c = rw c.in-Check.is c.joined-in-Check.ensures

pub returns-in-Trim : goal.returns-in-Trim
unfolding help_text help_lines synopsis
returns-in-Trim c = rw c.in-Trim.is c.joined-in-Trim.ensures

pub returns-in-Demo : goal.returns-in-Demo
unfolding help_text help_lines synopsis
returns-in-Demo c = rw c.in-Demo.is c.joined-in-Demo.ensures
