use Rattle.std.proofs.Common.{◌≡◌, ◌-◌, ◌+◌, ◌<◌, ◌⊎◌, inl, inr, ℕ, ◌/◌, arith, refl, sym, ◌∙◌, ap, subst, drop}
use Rattle.sr_arena.proofs.Laying.{found, read_length}
use Rattle.sr_arena.proofs.Clauses.{first_from, first_after, left_after}
use Rattle.sr_arena.specs.Cells.{first_held}
use Rattle.sr_arena.specs.Layout.{Laid, IsWalk, cells_of}
use Rattle.sr_arena.proofs.regions.Regions.next.Goals.{then-after-gt0, else-after-gt0}
use Rattle.sr_arena.proofs.regions.Regions.next.Goals as goal

held_if : {P : Type 0} (n : ℕ) → (n ≡ 0) ⊎ P → 0 < n → P
held_if n (inl e) lt = absurd (omega arith)
held_if n (inr p) lt = p

pub index-requires : goal.index-requires
index-requires c =
    let f = found c.self.inside.words.items c.self.inside.used _ c.args.after c.args.self.now c.self.invariant c.self.view_is (held_if _ c.requires c.if-after-gt0.true) in
    omega (arith, f.place, f.fits, c.self.inside.words.ok.0)

pub overflow_add-read : goal.overflow_add-read
overflow_add-read c =
    let f = found c.self.inside.words.items c.self.inside.used _ c.args.after c.args.self.now c.self.invariant c.self.view_is (held_if _ c.requires c.if-after-gt0.true) in
    omega (arith, read_length c.self.inside.words.items c.args.after (c.args.after - 1) _ c.index.result.now f refl c.index.ensures, f.fits, c.self.invariant.within, c.self.invariant.room)

pub next_held-requires-clause-walk : goal.next_held-requires-clause-walk
next_held-requires-clause-walk c =
    elim c.if-after-gt0.branch [
      | then-after-gt0 w ↦
          let f = found c.self.inside.words.items c.self.inside.used _ c.args.after c.args.self.now c.self.invariant c.self.view_is (held_if _ c.requires w.if-after-gt0.true) in
          let n = read_length c.self.inside.words.items c.args.after (c.args.after - 1) _ w.index.result.now f refl w.index.ensures in
          rw (c.deref.ensures.value, w.read-is) (subst (IsWalk 0) (sym (left_after f.front f.number f.size f.body f.rest c.self.inside.words.items (c.args.after + w.index.result.now.code / 8) f.is (omega (arith, f.place, n)))) f.after)
      | else-after-gt0 w ↦ rw (c.deref.ensures.value, w.read-is) c.self.invariant.walk
    ]

pub next_held-requires-clause-within : goal.next_held-requires-clause-within
next_held-requires-clause-within c =
    elim c.if-after-gt0.branch [
      | then-after-gt0 w ↦
          let f = found c.self.inside.words.items c.self.inside.used _ c.args.after c.args.self.now c.self.invariant c.self.view_is (held_if _ c.requires w.if-after-gt0.true) in
          let n = read_length c.self.inside.words.items c.args.after (c.args.after - 1) _ w.index.result.now f refl w.index.ensures in
          rw (c.deref.ensures.value, w.read-is) (omega (arith, f.fits, n))
      | else-after-gt0 w ↦ rw (w.read-is) (omega arith)
    ]

pub returns-clause-value : goal.returns-clause-value
returns-clause-value c =
    let same : c.next_held.result ≡ first_from c.self.inside.words.items c.if-after-gt0.read = c.next_held.ensures.value ∙ ap (λ l. first_from l c.if-after-gt0.read) c.deref.ensures.value in
    let goes = λ (e : first_held (c.args.after + 1) (drop (c.args.after + 1) (cells_of c.self.inside.words.items)) ≡ first_from c.self.inside.words.items c.if-after-gt0.read). same ∙ sym e ∙ ap (λ (m : Laid). first_held (c.args.after + 1) (drop (c.args.after + 1) m.cells)) c.self.view_is in
    elim c.if-after-gt0.branch [
      | then-after-gt0 w ↦
          let f = found c.self.inside.words.items c.self.inside.used _ c.args.after c.args.self.now c.self.invariant c.self.view_is (held_if _ c.requires w.if-after-gt0.true) in
          let n = read_length c.self.inside.words.items c.args.after (c.args.after - 1) _ w.index.result.now f refl w.index.ensures in
          goes (first_after f.front f.number f.size f.body f.rest c.self.inside.words.items c.args.after c.if-after-gt0.read f.before f.sized f.is f.place (w.read-is ∙ omega (arith, n)))
      | else-after-gt0 w ↦
          let zero_is : c.args.after ≡ 0 = omega (arith, w.if-after-gt0.false) in
          goes (ap (λ k. first_held (k + 1) (drop (k + 1) (cells_of c.self.inside.words.items))) zero_is ∙ sym (ap (first_from c.self.inside.words.items) w.read-is))
    ]
