use Rattle.sr_lists.proofs.Walking.{newest_holds, holds_one}
use Rattle.sr_lists.proofs.lists.close.Goals as goal

pub watch-watch-requires : goal.watch-watch-requires
watch-watch-requires c = newest_holds c.args.stacks.now c.args.key c.args.hole c.newest.result c.apart.ensures c.requires.there c.newest.ensures

pub put-requires : goal.put-requires
put-requires c = holds_one c.args.stacks.now c.args.key c.args.hole c.apart.ensures c.requires.there
