-- What an item of a program stands for.
use Rattle.sr_model.specs.Judging.{Item, stepped, dropped}
use Rattle.sr_wit.specs.declared.item.LsrItem.{LsrItem}
use Rattle.sr_wit.specs.declared.item.LsrItem.TheVariants as item

abbrev pub item_of : LsrItem → Item
item_of (item.Step s) = stepped s
item_of (item.Drop id ids) = dropped id ids
