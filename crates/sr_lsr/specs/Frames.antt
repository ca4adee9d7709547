-- Items that were read but not made yet: a frame, and lists.
use Rattle.std.specs.Prelude.{◌≡◌, [], Option, Some, None, Result, Ok, Err, All}
use Rattle.sr_model.specs.Judging.{stepped, dropped}
use Rattle.sr_model.specs.Tokens.{Tokens}
use Rattle.sr_model.specs.Witnesses.{clause_of_literals, witness_of_literals, fault_of_literals}
use Rattle.sr_model.specs.Reading.{Read, reads, misspells}
use Rattle.sr_model.specs.Lsr.{MaybeItem, judged_step}
use Rattle.sr_wit.specs.LsrItems.{item_of}
use Rattle.sr_wit.specs.declared.item.LsrItem.{LsrItem}
use Rattle.sr_wit.specs.declared.item.LsrItem.TheVariants as made
use Rattle.sr_base.specs.declared.names.InputError.{InputError}
use Rattle.sr_base.specs.declared.names.InputError.TheVariants.{Text, Limit, Source, NoMemory}
use Rattle.sr_lsr.specs.declared.lists.ItemFrame.{ItemFrame}
use Rattle.sr_lsr.specs.declared.lists.ItemFrame.TheVariants.{Step, Drop}
use Rattle.sr_lsr.specs.declared.lists.ItemLists.{ItemLists}
use Rattle.sr_lsr.specs.Told.{AreSmall}
use Rattle.sr_lsr.specs.Written.{IsSmall}

-- the item of a frame and its lists, with what is left behind it, or the fault of the whole
abbrev pub framed : ItemFrame → ItemLists → Tokens → Read MaybeItem
framed (Step id end) lists rest = judged_step (fault_of_literals lists.lits) end (stepped (record {
  id = id;
  clause = clause_of_literals lists.lits;
  witness = witness_of_literals lists.lits;
  prefix = lists.hints.prefix;
  groups = lists.hints.groups;
})) rest
framed (Drop id) lists rest = reads (Some (dropped id lists.ids)) rest

-- what was read, as a function of what is left
abbrev pub told : ItemLists → Result ItemFrame InputError → Result (Tokens → Read MaybeItem) InputError
told lists (Ok f) = Ok (framed f lists)
told lists (Err e) = Err e

abbrev pub some_told : ItemLists → Result (Option ItemFrame) InputError → Result (Option (Tokens → Read MaybeItem)) InputError
some_told lists (Ok (Some f)) = Ok (Some (framed f lists))
some_told lists (Ok None) = Ok None
some_told lists (Err e) = Err e

-- an item that is made of its frame and its lists
abbrev pub MakesItem : ItemFrame → ItemLists → Result LsrItem InputError → Type 0
MakesItem f lists (Ok x) = (rest : Tokens) → framed f lists rest ≡ reads (Some (item_of x)) rest
MakesItem f lists (Err (Text kind place)) = (rest : Tokens) → framed f lists rest ≡ misspells kind place
MakesItem f lists (Err (Limit kind)) = ⊥
MakesItem f lists (Err Source) = ⊥
MakesItem f lists (Err NoMemory) = Unit {0}

-- its numbers are such as each file can have
abbrev pub IsSmallFrame : ItemFrame → ItemLists → Type 0
IsSmallFrame (Step id end) lists = IsSmall id × AreSmall lists.hints
IsSmallFrame (Drop id) lists = IsSmall id × All IsSmall lists.ids

-- the lists with those of an item in place of their own
abbrev pub holds_parts : LsrItem → ItemLists → ItemLists
holds_parts (made.Step s) lists = record { lits = s.clause; hints = record { prefix = s.prefix; groups = s.groups }; ids = lists.ids }
holds_parts (made.Drop id ids) lists = record lists { ids = ids }

abbrev pub no_lists : ItemLists
no_lists = record { lits = []; hints = record { prefix = []; groups = [] }; ids = [] }

-- the lists without those of an item
abbrev pub left_by : ItemFrame → ItemLists → ItemLists
left_by (Step id end) lists = record no_lists { ids = lists.ids }
left_by (Drop id) lists = record lists { ids = [] }
