-- Counted calls.
use Rattle.std.proofs.Common.{◌≡◌, ◌≢◌, ℕ, Bool, true, false, List, refl}
use Rattle.std.proofs.Common.{arith}
use Rattle.std.specs.Prelude.{if◌then◌else◌}
use Rattle.std.proofs.lemmas.List.{get_or-set_other}
use Rattle.std.proofs.lemmas.Bool.Decides.{nat_tests}
use Rattle.sr_desk.specs.Refusing.{kind_number, same_kind, one_more, calls_in, calls_after}
use Rattle.sr_desk.specs.declared.refusals.CallKind.{CallKind}

-- a call of a kind counts for that kind alone
pub calls-counted : (old new : List ℕ) (kind k : CallKind) → new ≡ calls_after old kind → calls_in new kind ≡ one_more (calls_in old kind)
    → calls_in new k ≡ (if same_kind k kind then one_more (calls_in old k) else calls_in old k)
calls-counted old new kind k is counted = go (same_kind k kind) refl
  where
    go : (b : Bool) → same_kind k kind ≡ b → calls_in new k ≡ (if same_kind k kind then one_more (calls_in old k) else calls_in old k)
    go true t =
        let e : kind_number k ≡ kind_number kind = grind (arith, nat_tests) in rw (t, e) counted
    go false t =
        let ne : kind_number k ≢ kind_number kind = grind (arith, nat_tests) in
        rw (t, is) (get_or-set_other old (kind_number kind) (kind_number k) (one_more (calls_in old kind)) 0 ne)
