-- What places hold after a write, and after new ones.
use Rattle.std.proofs.Common.{◌≡◌, ◌≢◌, ℕ, suc, zero, ◌<◌, List, [], ◌∷◌, ◌++◌, length, refl, arith, set}
use Rattle.sr_lists.specs.declared.blocks.Watch.{Watch}
use Rattle.sr_lists.specs.Stacks.{held_at}

pub held_same : (ws : List Watch) (p : ℕ) (w : Watch) → p < length ws → held_at (set ws p w) p ≡ w ∷ []
held_same [] p w lt = absurd (omega arith)
held_same (v ∷ vs) zero w lt = refl
held_same (v ∷ vs) (suc p) w lt = held_same vs p w (omega arith)

pub held_other : (ws : List Watch) (p q : ℕ) (w : Watch) → q ≢ p → held_at (set ws p w) q ≡ held_at ws q
held_other [] p q w ne = refl
held_other (v ∷ vs) zero zero w ne = absurd (ne refl)
held_other (v ∷ vs) zero (suc q) w ne = refl
held_other (v ∷ vs) (suc p) zero w ne = refl
held_other (v ∷ vs) (suc p) (suc q) w ne = held_other vs p q w (λ e. omega arith)

pub held_append : (ws vs : List Watch) (q : ℕ) → q < length ws → held_at (ws ++ vs) q ≡ held_at ws q
held_append [] vs q lt = absurd (omega arith)
held_append (w ∷ ws) vs zero lt = refl
held_append (w ∷ ws) vs (suc q) lt = held_append ws vs q (omega arith)
