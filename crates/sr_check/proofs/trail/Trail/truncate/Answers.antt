use Rattle.std.proofs.Common.{◌≡◌, ℕ, List, ◌∙◌, ap, take, length}
use Rattle.sr_base.specs.Literal.{Literal}
use Rattle.sr_model.specs.Substitution.{has_pair}
use Rattle.sr_check.specs.Trail.{lits_of, TrailValue}
use Rattle.sr_check.proofs.Trailing.{marked_cut, lits-take}
use Rattle.sr_check.proofs.trail.Trail.truncate.Goals as goal

same_marking : (ls ks : List Literal) (m n : ℕ) → ls ≡ ks → m ≡ n → ◌≡◌ {A = TrailValue} (record { lits = ls; room = m }) (record { lits = ks; room = n })
same_marking ls ks m n e f = ap (λ (x : List Literal). let r : TrailValue = record { lits = x; room = m } in r) e ∙ ap (λ (x : ℕ). let r : TrailValue = record { lits = ks; room = x } in r) f

pub invariant_of-self : goal.invariant_of-self
invariant_of-self c =
    let lits_is : lits_of c.self.inside.entries.items ≡ c.args.self.now.lits = ap (λ (m : TrailValue). m.lits) c.self.view_is in
    marked_cut c.self.inside.table.items c.undo.new.table.items c.self.inside.entries.items c.truncate.new.self.items c.self.inside.pair c.args.len c.self.invariant (rw c.deref.ensures.value at c.undo.ensures.trail) c.truncate.ensures.items
    (ap (λ x. has_pair (take c.args.len x)) lits_is ∙ c.requires.no_pair)

pub returns : goal.returns
returns c =
    let lits_is : lits_of c.self.inside.entries.items ≡ c.args.self.now.lits = ap (λ (m : TrailValue). m.lits) c.self.view_is in
    same_marking (lits_of c.truncate.new.self.items) (take c.args.len c.args.self.now.lits) (length c.undo.new.table.items) c.args.self.now.room
    (ap lits_of c.truncate.ensures.items ∙ lits-take c.self.inside.entries.items c.args.len ∙ ap (take c.args.len) lits_is)
    (c.undo.ensures.room ∙ ap (λ (m : TrailValue). m.room) c.self.view_is)
