-- The calls of a desk in memory, and which of them are to fail.
use Rattle.std.specs.Prelude.{ℕ, ◌+◌, ◌-◌, ◌^◌, ◌==◌, ◌&&◌, min, Bool, List, slice_index_or, slice_set}
use Rattle.std.specs.List.{list_any}
use Rattle.sr_desk.specs.declared.refusals.CallKind.{CallKind}
use Rattle.sr_desk.specs.declared.refusals.CallKind.TheVariants.{BeginRead, BeginWrite, Read, Write, Finish}
use Rattle.sr_desk.specs.declared.refusals.Refusal.{Refusal}

abbrev pub kind_number : CallKind → ℕ
kind_number BeginRead = 0
kind_number BeginWrite = 1
kind_number Read = 2
kind_number Write = 3
kind_number Finish = 4

abbrev pub same_kind : CallKind → CallKind → Bool
same_kind a b = kind_number a == kind_number b

-- one call more; the count stays at its greatest value
abbrev pub one_more : ℕ → ℕ
one_more count = min (count + 1) (2 ^ 64 - 1)

-- the count of a kind among the counts of all kinds
abbrev pub calls_in : List ℕ → CallKind → ℕ
calls_in calls kind = slice_index_or calls (kind_number kind) 0

abbrev pub calls_after : List ℕ → CallKind → List ℕ
calls_after calls kind = slice_set calls (kind_number kind) (one_more (calls_in calls kind))

-- one of the refusals is of the n-th call of this kind
abbrev pub refuses_in : List Refusal → CallKind → ℕ → Bool
refuses_in refused kind n = list_any (λ (r : Refusal). same_kind r.kind kind && r.nth == n) refused
