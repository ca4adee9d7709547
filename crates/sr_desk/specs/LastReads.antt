-- How the last call for reading of a slot ended.
use Rattle.std.specs.Prelude.{Option, Some, None}
use Rattle.sr_base.specs.Contents as contents
use Rattle.sr_base.specs.Contents.{Ending}
use Rattle.sr_desk.specs.declared.last_read.LastRead.{LastRead}
use Rattle.sr_desk.specs.declared.last_read.LastRead.TheVariants.{Fine, Ended, Failed}

abbrev pub ending_of : LastRead → Option Ending
ending_of Fine = None
ending_of Ended = Some contents.ended
ending_of Failed = Some contents.failed
