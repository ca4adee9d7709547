use Rattle.std.proofs.Common.{◌≡◌, ◌<◌, ◌≤◌, false, subst, sym, ◌∙◌, length, reverse}
use Rattle.sr_model.specs.Substitution.{has_pair}
use Rattle.sr_watch.specs.State.{State, assumed}
use Rattle.sr_watch.specs.Lean.{IsChain}
use Rattle.sr_watch.specs.Running.{NoClash, IsClash, ClosesAt}
use Rattle.sr_watch.proofs.Leaning.{chain_for, closes_is}
use Rattle.sr_watch.proofs.propagator.Propagator.chain_of.Goals as goal
use Rattle.sr_watch.proofs.propagator.Propagator.chain_of.Goals.{in-Err, in-Ok}

pub collect-requires-clause-ends : goal.collect-requires-clause-ends
collect-requires-clause-ends g c =
    let s : State = c.args.self.now in
    let pair : has_pair (assumed c.args.self.now) ≡ false = subst (λ (x : State). has_pair (assumed x) ≡ false) c.self.view_is (sym c.has_assumed_pair.ensures ∙ c.if-has_assumed_pair.false) in
    let within : c.first_clash-end.result ≤ length c.args.self.now.lits = subst (λ (x : State). c.first_clash-end.result ≤ length x.lits) c.self.view_is c.first_clash-end.ensures.within in
    let clear : NoClash c.args.self.now.lits c.args.self.now.reasons c.first_clash-end.result = subst (λ (x : State). NoClash x.lits x.reasons c.first_clash-end.result) c.self.view_is c.first_clash-end.ensures.before in
    let clash : c.first_clash-end.result < length c.args.self.now.lits → IsClash c.args.self.now.lits c.args.self.now.reasons c.first_clash-end.result =
    subst (λ (x : State). c.first_clash-end.result < length x.lits → IsClash x.lits x.reasons c.first_clash-end.result) c.self.view_is c.first_clash-end.ensures.here in
    subst (λ (x : State). ClosesAt x c.closing-last.result c.first_clash-end.result) (sym c.self.view_is) (closes_is c.args.self.now c.args.at c.closing-last.result c.first_clash-end.result c.closing-last.ensures.sound c.requires.attached c.requires.all_false pair within clear clash c.closing-last.ensures.past c.closing-last.ensures.within)

pub returns-clause-ok : goal.returns-clause-ok
returns-clause-ok g c =
    let within : c.first_clash-end.result ≤ length c.args.self.now.lits = subst (λ (x : State). c.first_clash-end.result ≤ length x.lits) c.self.view_is c.first_clash-end.ensures.within in
    elim c.match-collect.branch [
      | in-Err w ↦ rw w.result-is tt
      | in-Ok w ↦
          let chain : IsChain c.args.self.now c.closing-last.result (reverse c.collect.new.chain) = subst (λ (x : State). IsChain x c.closing-last.result (reverse c.collect.new.chain)) c.self.view_is w.in-Ok.ensures.ok in
          rw (w.result-is, w.chain-is, w.reverse.ensures) (chain_for c.args.self.now c.args.at c.closing-last.result c.first_clash-end.result (reverse c.collect.new.chain) within c.closing-last.ensures.past c.closing-last.ensures.within chain)
    ]
