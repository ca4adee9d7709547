use Rattle.std.proofs.Common.{◌≡◌, ◌<◌, ◌^◌, ◌||◌, ◌&&◌, not, [], List, ℕ, true, length, get_or, arith, sym, ap, subst, ◌∙◌}
use Rattle.sr_model.specs.Assignment.{holds_number}
use Rattle.sr_model.specs.Substitution.{substitution}
use Rattle.sr_model.specs.Meeting.{Group}
use Rattle.sr_steps.specs.Adding.{first_groups, with_group}
use Rattle.sr_trimming.specs.Placing.{numbers}
use Rattle.sr_trimming.specs.CoreFirst.{AreOf}
use Rattle.sr_trimming.specs.From.{Place}
use Rattle.sr_trimming.specs.Evidence.{assumed, moves}
use Rattle.sr_load.specs.Loaded.{alive_in}
use Rattle.sr_back.specs.declared.testing.Trial.TheVariants.{Spare, Met, Stuck}
use Rattle.sr_back.specs.Queued.{AreAbove, Puts}
use Rattle.sr_back.specs.Citing.{with_cited, CitesAll, CitedAreAlive, IsIndexed}
use Rattle.sr_back.specs.Testing.{steps_in, IsTested, Tells}
use Rattle.sr_back.specs.Tries.{HasTried, IsQueued}
use Rattle.sr_back.proofs.Indexing.{alive_positive, alive_high}
use Rattle.sr_back.proofs.Alive.{lean_live}
use Rattle.sr_back.proofs.Short.{lean_short}
use Rattle.sr_back.proofs.Trying.{IsTrying, pending_count, waiting, tells_of, tested_at, waits_alive, spare_falls, met_falls, trying_spare, trying_stuck, trying_met, cites_alive, steps_more, steps_sorted}
use Rattle.sr_back.proofs.groups.find_groups.Goals as goal

pub try_clause-requires-clause-from : goal.try_clause-requires-clause-from
try_clause-requires-clause-from g c =
    let old = g.L.Loaded.state c.args.loaded.now in
    let st = g.L.Loaded.state c.tries.loaded in
    let inv = c.tries.invariant in
    let tested = c.requires.tested in
    let p : Place = tested.0 in
    let gs : List Group = first_groups c.tries.steps in
    let taken : Puts c.next.new.self c.tries.queue c.in-Some.id = c.in-Some.ensures.taken in
    let least : AreAbove c.in-Some.id c.next.new.self = c.in-Some.ensures.least in
    let t : IsTrying old st (steps_in old c.args.steps.now) p gs c.tries.queue = inv.trying p tested.1 in
    alive_positive st c.in-Some.id (waits_alive st p gs c.tries.queue c.next.new.self c.in-Some.id inv.alive t.queued taken)

pub try_clause-requires-clause-below : goal.try_clause-requires-clause-below
try_clause-requires-clause-below g c =
    let old = g.L.Loaded.state c.args.loaded.now in
    let st = g.L.Loaded.state c.tries.loaded in
    let inv = c.tries.invariant in
    let tested = c.requires.tested in
    let p : Place = tested.0 in
    let gs : List Group = first_groups c.tries.steps in
    let taken : Puts c.next.new.self c.tries.queue c.in-Some.id = c.in-Some.ensures.taken in
    let least : AreAbove c.in-Some.id c.next.new.self = c.in-Some.ensures.least in
    let t : IsTrying old st (steps_in old c.args.steps.now) p gs c.tries.queue = inv.trying p tested.1 in
    alive_high st c.in-Some.id (waits_alive st p gs c.tries.queue c.next.new.self c.in-Some.id inv.alive t.queued taken)

pub tries-smaller-in-Spare : goal.tries-smaller-in-Spare
tries-smaller-in-Spare g c =
    let old = g.L.Loaded.state c.args.loaded.now in
    let st = g.L.Loaded.state c.tries.loaded in
    let inv = c.tries.invariant in
    let tested = c.requires.tested in
    let p : Place = tested.0 in
    let gs : List Group = first_groups c.tries.steps in
    let taken : Puts c.next.new.self c.tries.queue c.in-Some.id = c.in-Some.ensures.taken in
    let least : AreAbove c.in-Some.id c.next.new.self = c.in-Some.ensures.least in
    let t : IsTrying old st (steps_in old c.args.steps.now) p gs c.tries.queue = inv.trying p tested.1 in
    let new = g.L.Loaded.state c.try_clause.new.loaded in
    let less : pending_count new.cited c.next.new.self (alive_in new) < pending_count st.cited c.tries.queue (alive_in st) =
    spare_falls st new p gs c.tries.queue c.next.new.self c.in-Some.id inv.alive t.queued taken least c.in_ok-try_clause.ensures.kept in
    less

pub tries-preserved-in-Spare : goal.tries-preserved-in-Spare
tries-preserved-in-Spare g c =
    let old = g.L.Loaded.state c.args.loaded.now in
    let st = g.L.Loaded.state c.tries.loaded in
    let new = g.L.Loaded.state c.try_clause.new.loaded in
    let inv = c.tries.invariant in
    let same : new ≡ st = c.in_ok-try_clause.ensures.kept in
    record {
      same = same ∙ inv.same ∙ ap (λ x. with_cited old x.cited) (sym same);
      alive = subst CitedAreAlive (sym same) inv.alive;
      index = subst (λ x. IsIndexed x c.tries.index) (sym same) inv.index;
      made = inv.made;
      steps = inv.steps;
      trying = λ p it.
          let gs : List Group = first_groups c.tries.steps in
          let taken : Puts c.next.new.self c.tries.queue c.in-Some.id = c.in-Some.ensures.taken in
          let t : IsTrying old st (steps_in old c.args.steps.now) p gs c.tries.queue = inv.trying p it in
          let w = waiting old st (steps_in old c.args.steps.now) p gs c.tries.queue c.next.new.self c.in-Some.id it.alive inv.alive t taken in
          let told : Tells st (assumed p) (moves p) w.0 c.try_clause.new.chain Spare = tells_of old st c.args.lemma c.args.own.now c.args.steps.now p c.in-Some.id w.0 c.try_clause.new.chain Spare it inv.same c.requires.witness w.1.of_all
          (λ b d v a s i f. subst (Tells st b (substitution v) d c.try_clause.new.chain) c.in-Spare.is (c.in_ok-try_clause.ensures.tells b d v a s i f)) in
          subst (λ x. IsTrying old x (steps_in old c.args.steps.now) p gs c.next.new.self) (sym same)
          (trying_spare old st (steps_in old c.args.steps.now) p gs c.tries.queue c.next.new.self c.in-Some.id w.0 t taken c.in-Some.ensures.least w.1 told);
    }

pub returns-in-Stuck-clause-groups : goal.returns-in-Stuck-clause-groups
returns-in-Stuck-clause-groups g c q e =
    let old = g.L.Loaded.state c.args.loaded.now in
    let st = g.L.Loaded.state c.tries.loaded in
    let inv = c.tries.invariant in
    let tested = c.requires.tested in
    let it : IsTested old c.args.lemma c.args.steps.now q = tested_at old c.args.lemma c.args.steps.now tested.0 q tested.1 e in
    let gs : List Group = first_groups c.tries.steps in
    let taken : Puts c.next.new.self c.tries.queue c.in-Some.id = c.in-Some.ensures.taken in
    let least : AreAbove c.in-Some.id c.next.new.self = c.in-Some.ensures.least in
    let t : IsTrying old st (steps_in old c.args.steps.now) q gs c.tries.queue = inv.trying q it in
    let w = waiting old st (steps_in old c.args.steps.now) q gs c.tries.queue c.next.new.self c.in-Some.id it.alive inv.alive t taken in
    let told : Tells st (assumed q) (moves q) w.0 c.try_clause.new.chain Stuck = tells_of old st c.args.lemma c.args.own.now c.args.steps.now q c.in-Some.id w.0 c.try_clause.new.chain Stuck it inv.same c.requires.witness w.1.of_all
    (λ b d v a s i f. subst (Tells st b (substitution v) d c.try_clause.new.chain) c.in-Stuck.is (c.in_ok-try_clause.ensures.tells b d v a s i f)) in
    let same : g.L.Loaded.state c.try_clause.new.loaded ≡ st = c.in_ok-try_clause.ensures.kept in (
      gs,
      subst (λ x. HasTried old x (steps_in old c.args.steps.now) q gs) (sym same) t.tried,
      trying_stuck old st (steps_in old c.args.steps.now) q gs c.tries.queue c.next.new.self c.in-Some.id w.0 it.alive t taken least w.1 told.0 told.1,
    )

pub cite_all-requires-clause-alive : goal.cite_all-requires-clause-alive
cite_all-requires-clause-alive g c n h =
    let old = g.L.Loaded.state c.args.loaded.now in
    let st = g.L.Loaded.state c.tries.loaded in
    let inv = c.tries.invariant in
    let tested = c.requires.tested in
    let p : Place = tested.0 in
    let gs : List Group = first_groups c.tries.steps in
    let taken : Puts c.next.new.self c.tries.queue c.in-Some.id = c.in-Some.ensures.taken in
    let least : AreAbove c.in-Some.id c.next.new.self = c.in-Some.ensures.least in
    let t : IsTrying old st (steps_in old c.args.steps.now) p gs c.tries.queue = inv.trying p tested.1 in
    let w = waiting old st (steps_in old c.args.steps.now) p gs c.tries.queue c.next.new.self c.in-Some.id tested.1.alive inv.alive t taken in
    let told : Tells st (assumed p) (moves p) w.0 c.try_clause.new.chain Met = tells_of old st c.args.lemma c.args.own.now c.args.steps.now p c.in-Some.id w.0 c.try_clause.new.chain Met tested.1 inv.same c.requires.witness w.1.of_all
    (λ b d v a s i f. subst (Tells st b (substitution v) d c.try_clause.new.chain) c.in-Met.is (c.in_ok-try_clause.ensures.tells b d v a s i f)) in
    let chain : holds_number n c.try_clause.new.chain ≡ true = subst (λ ns. holds_number n ns ≡ true) c.as_slice-hints.ensures h in
    subst (λ x. holds_number n (numbers (alive_in x)) ≡ true) (sym c.in_ok-try_clause.ensures.kept) (lean_live (alive_in st) _ c.try_clause.new.chain n told.1.lean chain)

pub add_group-requires-clause-small : goal.add_group-requires-clause-small
add_group-requires-clause-small g c =
    let old = g.L.Loaded.state c.args.loaded.now in
    let st = g.L.Loaded.state c.tries.loaded in
    let inv = c.tries.invariant in
    let tested = c.requires.tested in
    let p : Place = tested.0 in
    let gs : List Group = first_groups c.tries.steps in
    let taken : Puts c.next.new.self c.tries.queue c.in-Some.id = c.in-Some.ensures.taken in
    let t : IsTrying old st (steps_in old c.args.steps.now) p gs c.tries.queue = inv.trying p tested.1 in
    let w = waiting old st (steps_in old c.args.steps.now) p gs c.tries.queue c.next.new.self c.in-Some.id tested.1.alive inv.alive t taken in
    let told : Tells st (assumed p) (moves p) w.0 c.try_clause.new.chain Met = tells_of old st c.args.lemma c.args.own.now c.args.steps.now p c.in-Some.id w.0 c.try_clause.new.chain Met tested.1 inv.same c.requires.witness w.1.of_all
    (λ b d v a s i f. subst (Tells st b (substitution v) d c.try_clause.new.chain) c.in-Met.is (c.in_ok-try_clause.ensures.tells b d v a s i f)) in
    let is : c.as_slice-hints.result.now ≡ c.try_clause.new.chain = c.as_slice-hints.ensures in
    subst (λ hs. length hs < 2 ^ 32) (sym is) (lean_short (alive_in st) _ c.try_clause.new.chain (2 ^ 32) told.1.lean
    (λ n h. alive_positive st n (lean_live (alive_in st) _ c.try_clause.new.chain n told.1.lean h))
    (λ i. subst (λ hs. get_or hs i 0 < 2 ^ 32) is (search (arith, c.type_inv.hints i))) (omega arith))

pub tries-smaller : goal.tries-smaller
tries-smaller g c =
    let old = g.L.Loaded.state c.args.loaded.now in
    let st = g.L.Loaded.state c.tries.loaded in
    let inv = c.tries.invariant in
    let tested = c.requires.tested in
    let p : Place = tested.0 in
    let gs : List Group = first_groups c.tries.steps in
    let taken : Puts c.next.new.self c.tries.queue c.in-Some.id = c.in-Some.ensures.taken in
    let least : AreAbove c.in-Some.id c.next.new.self = c.in-Some.ensures.least in
    let t : IsTrying old st (steps_in old c.args.steps.now) p gs c.tries.queue = inv.trying p tested.1 in
    let new = g.L.Loaded.state c.cite_all.new.loaded in
    let mid = g.L.Loaded.state c.try_clause.new.loaded in
    let same : mid ≡ st = c.in_ok-try_clause.ensures.kept in
    let cites : CitesAll st new c.as_slice-hints.result.now = subst (λ x. CitesAll x new c.as_slice-hints.result.now) same c.in_ok-cite_all-in-Met.ensures.cites in
    let less : pending_count new.cited c.put_new.new.queue (alive_in new) < pending_count st.cited c.tries.queue (alive_in st) =
    met_falls st new p gs c.tries.queue c.next.new.self c.put_new.new.queue c.as_slice-hints.result.now c.in-Some.id inv.alive t.queued taken least cites
    (λ m. c.in_ok-put_new-in-Met.ensures m ∙ ap (λ x. holds_number m c.next.new.self || (holds_number m c.as_slice-hints.result.now && not (holds_number m x.cited))) same) in
    less

pub tries-preserved : goal.tries-preserved
tries-preserved g c =
    let old = g.L.Loaded.state c.args.loaded.now in
    let st = g.L.Loaded.state c.tries.loaded in
    let mid = g.L.Loaded.state c.try_clause.new.loaded in
    let new = g.L.Loaded.state c.cite_all.new.loaded in
    let inv = c.tries.invariant in
    let same : mid ≡ st = c.in_ok-try_clause.ensures.kept in
    let chain : c.as_slice-hints.result.now ≡ c.try_clause.new.chain = c.as_slice-hints.ensures in
    let cites : CitesAll st new c.try_clause.new.chain = subst (CitesAll st new) chain (subst (λ x. CitesAll x new c.as_slice-hints.result.now) same c.in_ok-cite_all-in-Met.ensures.cites) in
    let put : (m : ℕ) → holds_number m c.put_new.new.queue ≡ (holds_number m c.next.new.self || (holds_number m c.try_clause.new.chain && not (holds_number m st.cited))) = λ m.
    c.in_ok-put_new-in-Met.ensures m ∙ ap (λ ns. holds_number m c.next.new.self || (holds_number m ns && not (holds_number m mid.cited))) c.as_slice-hints.ensures
    ∙ ap (λ x. holds_number m c.next.new.self || (holds_number m c.try_clause.new.chain && not (holds_number m x.cited))) same in
    let more = steps_more c.tries.steps c.add_group.new.self c.args.steps.now c.args.lemma (c.in-Some.id, c.try_clause.new.chain) inv.steps
    (c.in_ok-add_group-in-Met.ensures.ok ∙ ap (λ ns. with_group (c.in-Some.id, ns) c.tries.steps) c.as_slice-hints.ensures) in
    let gs : List Group = first_groups c.tries.steps in
    let taken : Puts c.next.new.self c.tries.queue c.in-Some.id = c.in-Some.ensures.taken in
    let tested = c.requires.tested in
    let alive-chain : AreOf c.try_clause.new.chain (alive_in st) =
    (let p : Place = tested.0 in
    let t : IsTrying old st (steps_in old c.args.steps.now) p gs c.tries.queue = inv.trying p tested.1 in
    let w = waiting old st (steps_in old c.args.steps.now) p gs c.tries.queue c.next.new.self c.in-Some.id tested.1.alive inv.alive t taken in
    let told : Tells st (assumed p) (moves p) w.0 c.try_clause.new.chain Met = tells_of old st c.args.lemma c.args.own.now c.args.steps.now p c.in-Some.id w.0 c.try_clause.new.chain Met tested.1 inv.same c.requires.witness w.1.of_all
    (λ b d v a s i f. subst (Tells st b (substitution v) d c.try_clause.new.chain) c.in-Met.is (c.in_ok-try_clause.ensures.tells b d v a s i f)) in
    λ n h. lean_live (alive_in st) _ c.try_clause.new.chain n told.1.lean h) in
    let made : c.cite_all.new.index.lists.built ≡ true = c.in_ok-cite_all-in-Met.ensures.made ∙ inv.made in
    record {
      same = cites.same ∙ ap (λ x. with_cited x new.cited) inv.same;
      alive = cites_alive st new c.try_clause.new.chain inv.alive alive-chain cites;
      index = c.in_ok-cite_all-in-Met.ensures.index made;
      made = made;
      steps = more.0;
      trying = λ p it.
          let t : IsTrying old st (steps_in old c.args.steps.now) p gs c.tries.queue = inv.trying p it in
          let w = waiting old st (steps_in old c.args.steps.now) p gs c.tries.queue c.next.new.self c.in-Some.id it.alive inv.alive t taken in
          let told : Tells st (assumed p) (moves p) w.0 c.try_clause.new.chain Met = tells_of old st c.args.lemma c.args.own.now c.args.steps.now p c.in-Some.id w.0 c.try_clause.new.chain Met it inv.same c.requires.witness w.1.of_all
          (λ b d v a s i f. subst (Tells st b (substitution v) d c.try_clause.new.chain) c.in-Met.is (c.in_ok-try_clause.ensures.tells b d v a s i f)) in
          subst (λ gs. IsTrying old new (steps_in old c.args.steps.now) p gs c.put_new.new.queue) (sym more.1)
          (trying_met old st new (steps_in old c.args.steps.now) p gs c.tries.queue c.next.new.self c.put_new.new.queue c.try_clause.new.chain c.in-Some.id w.0 it.alive t taken c.in-Some.ensures.least w.1 told.0 told.1 cites put);
    }

pub sort_groups-requires-clause-distinct : goal.sort_groups-requires-clause-distinct
sort_groups-requires-clause-distinct g c = (c.tries.invariant.trying c.requires.tested.0 c.requires.tested.1).tried.distinct

pub returns-clause-groups : goal.returns-clause-groups
returns-clause-groups g c q e =
    let old = g.L.Loaded.state c.args.loaded.now in
    let st = g.L.Loaded.state c.tries.loaded in
    let inv = c.tries.invariant in
    let gs : List Group = first_groups c.tries.steps in
    let it : IsTested old c.args.lemma c.args.steps.now q = tested_at old c.args.lemma c.args.steps.now c.requires.tested.0 q c.requires.tested.1 e in
    let t : IsTrying old st (steps_in old c.args.steps.now) q gs c.tries.queue = inv.trying q it in
    let empty : c.tries.queue ≡ [] = c.in_default.ensures.taken in
    (gs, t.tried, subst (IsQueued st q gs) empty t.queued, steps_sorted c.tries.steps c.sort_groups.new.self c.args.steps.now c.args.lemma inv.steps c.sort_groups.ensures)
