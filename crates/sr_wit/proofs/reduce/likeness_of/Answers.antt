use Rattle.std.proofs.Common.{List, ℕ, map, sym, ◌∙◌}
use Rattle.std.specs.List.Sorted.{IsPermutation}
use Rattle.sr_base.specs.Literal.{Literal, literal_code}
use Rattle.sr_wit.specs.declared.reduce.Likeness.{Likeness}
use Rattle.sr_wit.specs.declared.reduce.Likeness.TheVariants.{Apart, Repeated, Paired}
use Rattle.sr_wit.specs.Reductions.{IsLikeness, IsLikenessOfCodes}
use Rattle.sr_wit.proofs.ReduceLemmas.{pair-codes, distinct-codes}
use Rattle.sr_wit.proofs.reduce.likeness_of.Goals as goal

-- what holds of the codes holds of the literals
by_codes : (k : Likeness) (ls : List Literal) (cs : List ℕ) → IsPermutation (map literal_code ls) cs → IsLikenessOfCodes k cs → IsLikeness k ls
by_codes Apart ls cs moved h = (sym (pair-codes ls cs moved) ∙ h.0, distinct-codes ls cs moved h.1)
by_codes Repeated ls cs moved h = sym (pair-codes ls cs moved) ∙ h
by_codes Paired ls cs moved h = sym (pair-codes ls cs moved) ∙ h

pub returns : goal.returns
returns c =
    by_codes c.likeness_by_codes.result c.args.lits.now c.in_ok-codes.codes.items c.in_ok-codes.ensures.same
    (rw c.deref.ensures.value at c.likeness_by_codes.ensures)
