use Rattle.std.proofs.Common.{◌≡◌, ◌==◌, not, ◌∙◌, ◌-◌, ◌<◌, [], sym, ap, subst, suc, arith, get_or, set, length, List, ℕ}
use Rattle.std.proofs.lemmas.List.{get_or_default}
use Rattle.sr_base.specs.Literal.{literal_code}
use Rattle.std.specs.Prelude.{is_some}
use Rattle.std.proofs.lemmas.List.Elements.{filter_agree}
use Rattle.sr_table.specs.Pages.{entry}
use Rattle.sr_model.specs.Chain.{Numbered, clause_of}
use Rattle.sr_occurs.specs.Occurring.{Occurring, AreListed, AreUnder, numbers_under, head_at}
use Rattle.sr_table.specs.Numbers.{HoldsAll}
use Rattle.sr_occurs.proofs.Entering.{none_gathered, gathered, kept_listed, live_only}
use Rattle.sr_occurs.proofs.occurrences.Occurrences.gather.Goals as goal

found : (ls : List (List ℕ)) (i : ℕ) (live : Numbered) (old new : List ℕ) → i < length ls → old ≡ get_or ls i old → new ≡ live_only live old → new ≡ live_only live (get_or ls i [])
found ls i live old new h is e = e ∙ ap (live_only live) (is ∙ get_or_default ls i old [] h)

kept : (heads : List ℕ) (ls : List (List ℕ)) (i : ℕ) (live : Numbered) (new : List ℕ) → i < length ls → new ≡ live_only live (get_or ls i []) → AreUnder (numbers_under heads ls) live → AreUnder (numbers_under heads (set ls i new)) live
kept heads ls i live new h e u = rw e (kept_listed heads ls i live h u)

pub returns-then-head-eq0-clause-ok : goal.returns-then-head-eq0-clause-ok
returns-then-head-eq0-clause-ok c live t u =
    let listed : AreListed (record { built = c.self.inside.built; heads = c.self.inside.heads.items; lists = c.self.inside.lists.items; entered = c.self.inside.entered }) live = subst (λ (o : Occurring). AreListed o live) (sym c.self.view_is) u in
    let head : c.head_of-head.result ≡ head_at c.self.inside.heads.items (literal_code c.args.l) = c.head_of-head.ensures ∙ ap (λ x. head_at x (literal_code c.args.l)) c.deref.ensures.value in
    (none_gathered c.self.inside.heads.items c.self.inside.lists.items c.args.l c.args.numbers.now live (sym head ∙ c.if-head-eq0.true) listed.under, tt)

pub returns-in_err-add_all-clause-listed : goal.returns-in_err-add_all-clause-listed
returns-in_err-add_all-clause-listed c live t u =
    let listed : AreListed (record { built = c.self.inside.built; heads = c.self.inside.heads.items; lists = c.self.inside.lists.items; entered = c.self.inside.entered }) live = subst (λ (o : Occurring). AreListed o live) (sym c.self.view_is) u in
    let head : c.head_of-head.result ≡ head_at c.self.inside.heads.items (literal_code c.args.l) = c.head_of-head.ensures ∙ ap (λ x. head_at x (literal_code c.args.l)) c.deref.ensures.value in
    let within : c.head_of-head.result - 1 < length c.self.inside.lists.items = omega (arith, head, c.self.invariant.known (literal_code c.args.l), c.if-head-eq0.false) in
    let is : c.keep_set.new.self ≡ live_only live (get_or c.self.inside.lists.items (c.head_of-head.result - 1) []) = found c.self.inside.lists.items (c.head_of-head.result - 1) live c.index_mut-list.result.now c.keep_set.new.self within c.index_mut-list.ensures.value (c.keep_set.ensures ∙ filter_agree (λ n. not (entry c.args.table.now n == 0)) (λ n. is_some (clause_of live n)) (λ n. sym (t n)) c.index_mut-list.result.now) in
    record { built = listed.built; under = kept c.self.inside.heads.items c.self.inside.lists.items (c.head_of-head.result - 1) live c.keep_set.new.self within is listed.under }

pub returns-clause-listed : goal.returns-clause-listed
returns-clause-listed c live t u =
    let listed : AreListed (record { built = c.self.inside.built; heads = c.self.inside.heads.items; lists = c.self.inside.lists.items; entered = c.self.inside.entered }) live = subst (λ (o : Occurring). AreListed o live) (sym c.self.view_is) u in
    let head : c.head_of-head.result ≡ head_at c.self.inside.heads.items (literal_code c.args.l) = c.head_of-head.ensures ∙ ap (λ x. head_at x (literal_code c.args.l)) c.deref.ensures.value in
    let within : c.head_of-head.result - 1 < length c.self.inside.lists.items = omega (arith, head, c.self.invariant.known (literal_code c.args.l), c.if-head-eq0.false) in
    let is : c.keep_set.new.self ≡ live_only live (get_or c.self.inside.lists.items (c.head_of-head.result - 1) []) = found c.self.inside.lists.items (c.head_of-head.result - 1) live c.index_mut-list.result.now c.keep_set.new.self within c.index_mut-list.ensures.value (c.keep_set.ensures ∙ filter_agree (λ n. not (entry c.args.table.now n == 0)) (λ n. is_some (clause_of live n)) (λ n. sym (t n)) c.index_mut-list.result.now) in
    record { built = listed.built; under = kept c.self.inside.heads.items c.self.inside.lists.items (c.head_of-head.result - 1) live c.keep_set.new.self within is listed.under }

pub returns-clause-ok : goal.returns-clause-ok
returns-clause-ok c live t u =
    let listed : AreListed (record { built = c.self.inside.built; heads = c.self.inside.heads.items; lists = c.self.inside.lists.items; entered = c.self.inside.entered }) live = subst (λ (o : Occurring). AreListed o live) (sym c.self.view_is) u in
    let head : c.head_of-head.result ≡ head_at c.self.inside.heads.items (literal_code c.args.l) = c.head_of-head.ensures ∙ ap (λ x. head_at x (literal_code c.args.l)) c.deref.ensures.value in
    let within : c.head_of-head.result - 1 < length c.self.inside.lists.items = omega (arith, head, c.self.invariant.known (literal_code c.args.l), c.if-head-eq0.false) in
    let is : c.keep_set.new.self ≡ live_only live (get_or c.self.inside.lists.items (c.head_of-head.result - 1) []) = found c.self.inside.lists.items (c.head_of-head.result - 1) live c.index_mut-list.result.now c.keep_set.new.self within c.index_mut-list.ensures.value (c.keep_set.ensures ∙ filter_agree (λ n. not (entry c.args.table.now n == 0)) (λ n. is_some (clause_of live n)) (λ n. sym (t n)) c.index_mut-list.result.now) in
    let all : HoldsAll c.add_all.new.self (live_only live (get_or c.self.inside.lists.items (c.head_of-head.result - 1) [])) = subst (HoldsAll c.add_all.new.self) (c.as_slice.ensures ∙ is) c.in_ok-add_all.ensures.ok in
    let place : head_at c.self.inside.heads.items (literal_code c.args.l) ≡ suc (c.head_of-head.result - 1) = omega (arith, head, c.if-head-eq0.false) in
    (gathered c.self.inside.heads.items c.self.inside.lists.items c.args.l (c.head_of-head.result - 1) c.add_all.new.self live place all listed.under, tt)
