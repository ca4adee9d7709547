use Rattle.std.proofs.Common.{◌≡◌, ◌-◌, ℕ, suc, map, false}
use Rattle.sr_base.specs.Literal.{number, literal_of}
use Rattle.sr_base.specs.declared.names.LimitKind.TheVariants.{Vars}
use Rattle.sr_desk.specs.Next.{Stands, Reads, ForContents}
use Rattle.sr_model.specs.Lsr.{numbers_after}
use Rattle.sr_scan.specs.Left.{tokens_left}
use Rattle.sr_lemma.proofs.literals.read_more_literals.Given as goal

abbrev pub invariant-tokens : goal.invariant-tokens
invariant-tokens g l = record {
  literals : ForContents l.reader (g.D.Desk.outside l.desk) (λ c. (lists o : ℕ)
      → numbers_after Vars l.bound (map number l.fn.lits) (tokens_left l.form lists (suc o) l.fn.reader c) ≡ numbers_after Vars l.bound (map number l.lits) (tokens_left l.form lists (suc o) l.reader c));
  named : map literal_of (map number l.fn.lits) ≡ l.fn.lits → map literal_of (map number l.lits) ≡ l.lits;
  reads : Reads l.fn.reader l.reader (g.D.Desk.outside l.fn.desk) (g.D.Desk.outside l.desk) false;
  stands : Stands l.reader (g.D.Desk.outside l.desk);
}

abbrev pub decreases-tokens : goal.decreases-tokens
decreases-tokens g l = l.reader.limit - l.reader.taken
