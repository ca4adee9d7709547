use Rattle.std.proofs.Common.{rules, [], ◌∷◌}
use Rattle.sr_base.specs.Literal.{Literal}
use Rattle.sr_model.specs.Substitution.{made_true}
use Rattle.sr_wit.specs.Tables.{HoldsSubst, witness_with}
use Rattle.sr_wit.proofs.subst.Subst.pivot_only.Goals as goal

alone : (p : Literal) → HoldsSubst (witness_with p [] []) (made_true p ∷ [])
alone p = search rules

pub substitution_of-requires : goal.substitution_of-requires
substitution_of-requires c = rw (c.in_ok-table.ensures, c.new-2.ensures.items, c.new-3.ensures.items, c.in-Ok.ensures.items, c.new-table.ensures.items, c.made_true.ensures) (alone c.args.pivot)
