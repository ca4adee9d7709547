use Rattle.std.proofs.Common.{◌≡◌, ℕ, ◌+◌, ◌-◌, vec_len, slice_index_or}
use Rattle.sr_table.proofs.pages.reach.Given as goal

abbrev pub invariant-loop-pages : goal.invariant-loop-pages
invariant-loop-pages l = (p : ℕ) → slice_index_or l.pages.items p 0 ≡ slice_index_or l.fn.pages.items p 0

abbrev pub decreases-loop-pages : goal.decreases-loop-pages
decreases-loop-pages l = l.page + 1 - vec_len l.pages
