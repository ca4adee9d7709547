use Rattle.std.proofs.Common.{◌≡◌, ◌⊎◌, inl, inr, ◌<◌, ◌≤◌, ℕ, refl, ap, subst, arith, length, take}
use Rattle.sr_base.specs.Literal.{Literal}
use Rattle.sr_arena.specs.Cells.{cell_at}
use Rattle.sr_watch.specs.Watching.{SomeTrue}
use Rattle.sr_watch.specs.Attaching.{AreOpenWatches, IsWatchFalse}
use Rattle.sr_watch.proofs.Walks.{some_more}
use Rattle.sr_watch.proofs.OnWalk.{includes_take}
use Rattle.sr_watch.proofs.Falls.{includes_less}
use Rattle.sr_watch.proofs.Choosing.{chosen_stuck, open_guarded, open_less, short_open}
use Rattle.sr_watch.proofs.attaching.note.Goals as goal

pub returns-then-clause-lt2 : goal.returns-then-clause-lt2
returns-then-clause-lt2 g c =
    let short : length (cell_at c.args.memory.now c.args.at).lits < 2 = (let t = c.if-clause-lt2.true in omega (arith, t, ap (length {A = Literal}) c.lits-clause.ensures.value)) in
    record {
      lists = refl;
      shade = refl;
      top = refl;
      less = omega arith;
      rising = c.requires.rising;
      fewer = λ i h. (h, open_guarded (cell_at c.args.memory.now c.args.at).lits (take i c.args.trail.now.lits) (take i c.args.trail.now.lits) (short_open (cell_at c.args.memory.now c.args.at).lits (take i c.args.trail.now.lits) short));
      others = λ r ne f t. absurd cc;
      still = λ r ne t. t;
      guarded = λ f. open_guarded (cell_at c.args.memory.now c.args.at).lits (take c.args.watches.now.done c.args.trail.now.lits) c.args.trail.now.lits (short_open (cell_at c.args.memory.now c.args.at).lits (take c.args.watches.now.done c.args.trail.now.lits) short);
      stuck = λ t. absurd ((c.requires.pending c.args.at t).1 refl);
    }

pub returns-then-low-len : goal.returns-then-low-len
returns-then-low-len g c =
    let o : AreOpenWatches (cell_at c.args.memory.now c.args.at).lits (take c.open_length-low.result c.args.trail.now.lits) = subst (λ x. AreOpenWatches x (take c.open_length-low.result c.args.trail.now.lits)) c.lits-clause.ensures.value c.open_length-low.ensures.open_here in
    let n : length c.lits-len.result.now ≡ length c.args.trail.now.lits = ap (length {A = Literal}) c.lits-len.ensures.value in
    let le : length c.args.trail.now.lits ≤ c.open_length-low.result = omega (arith, n, c.if-low-len.true) in
    record {
      lists = refl;
      shade = refl;
      top = refl;
      less = omega arith;
      rising = c.requires.rising;
      fewer = λ i h. (h, open_guarded (cell_at c.args.memory.now c.args.at).lits (take i c.args.trail.now.lits) (take i c.args.trail.now.lits) (open_less i c.open_length-low.result (cell_at c.args.memory.now c.args.at).lits c.args.trail.now.lits (omega (arith, le, c.requires.kept_within i h)) o));
      others = λ r ne f t. absurd cc;
      still = λ r ne t. t;
      guarded = λ f. open_guarded (cell_at c.args.memory.now c.args.at).lits (take c.args.watches.now.done c.args.trail.now.lits) c.args.trail.now.lits (open_less c.args.watches.now.done c.open_length-low.result (cell_at c.args.memory.now c.args.at).lits c.args.trail.now.lits (omega (arith, le, c.requires.done_within)) o);
      stuck = λ t. absurd ((c.requires.pending c.args.at t).1 refl);
    }

pub returns-then-high-gt0 : goal.returns-then-high-gt0
returns-then-high-gt0 g c =
    let o : AreOpenWatches (cell_at c.args.memory.now c.args.at).lits (take c.open_length-low.result c.args.trail.now.lits) = subst (λ x. AreOpenWatches x (take c.open_length-low.result c.args.trail.now.lits)) c.lits-clause.ensures.value c.open_length-low.ensures.open_here in
    let t : SomeTrue (take c.true_length-high.result c.args.trail.now.lits) (cell_at c.args.memory.now c.args.at).lits = subst (SomeTrue (take c.true_length-high.result c.args.trail.now.lits)) c.lits-clause.ensures.value (c.true_length-high.ensures (let p = c.if-high-gt0.true in p)) in
    let whole : SomeTrue c.args.trail.now.lits (cell_at c.args.memory.now c.args.at).lits = some_more (take c.true_length-high.result c.args.trail.now.lits) c.args.trail.now.lits (cell_at c.args.memory.now c.args.at).lits (includes_take c.true_length-high.result c.args.trail.now.lits) t in
    let some : 0 < c.true_length-high.result = (let p = c.if-high-gt0.true in p) in
    record {
      lists = refl;
      shade = refl;
      top = refl;
      less = omega arith;
      rising = c.drop_between.ensures.rising;
      fewer = λ i h. let w = c.drop_between.ensures.fewer i h in (
        w.0,
        elim w.1 [
          | inl lo ↦ open_guarded (cell_at c.args.memory.now c.args.at).lits (take i c.args.trail.now.lits) (take i c.args.trail.now.lits) (open_less i c.open_length-low.result (cell_at c.args.memory.now c.args.at).lits c.args.trail.now.lits lo o)
          | inr hi ↦ λ k wk f. some_more (take c.true_length-high.result c.args.trail.now.lits) (take i c.args.trail.now.lits) (cell_at c.args.memory.now c.args.at).lits (includes_less c.true_length-high.result i c.args.trail.now.lits (omega (arith, hi, some))) t
        ],
      );
      others = λ r ne f t. absurd cc;
      still = λ r ne t. t;
      guarded = λ f k wk h. whole;
      stuck = λ t. absurd ((c.requires.pending c.args.at t).1 refl);
    }

fewer_below : (low len n : ℕ) → (n ≤ low) ⊎ (len < n) → n ≤ len → n ≤ low
fewer_below low len n (inl h) le = h
fewer_below low len n (inr h) le = absurd (omega arith)

pub returns-then-low-watches : goal.returns-then-low-watches
returns-then-low-watches g c =
    let o : AreOpenWatches (cell_at c.args.memory.now c.args.at).lits (take c.open_length-low.result c.args.trail.now.lits) = subst (λ x. AreOpenWatches x (take c.open_length-low.result c.args.trail.now.lits)) c.lits-clause.ensures.value c.open_length-low.ensures.open_here in
    let n : length c.lits-len.result.now ≡ length c.args.trail.now.lits = ap (length {A = Literal}) c.lits-len.ensures.value in
    let long : 2 ≤ length c.lits-clause.result.now = (let t = c.if-clause-lt2.false in t) in
    let w : IsWatchFalse c.args.trail.now.lits (cell_at c.args.memory.now c.args.at).lits = subst (IsWatchFalse c.args.trail.now.lits) c.lits-clause.ensures.value (c.open_length-low.ensures.most long (omega (arith, n, c.if-low-len.false))) in
    rw c.hold.ensures.rest (record {
      lists = refl;
      shade = refl;
      top = refl;
      less = c.hold.ensures.less;
      rising = c.drop_between-2.ensures.rising;
      fewer = λ i h. let q = c.drop_between-2.ensures.fewer i h in let le : i ≤ c.open_length-low.result = fewer_below c.open_length-low.result (length c.lits-len.result.now) i q.1 (omega (arith, n, c.requires.kept_within i q.0)) in
          (q.0, open_guarded (cell_at c.args.memory.now c.args.at).lits (take i c.args.trail.now.lits) (take i c.args.trail.now.lits) (open_less i c.open_length-low.result (cell_at c.args.memory.now c.args.at).lits c.args.trail.now.lits le o));
      others = λ r ne f t. c.hold.ensures.others r ne f t;
      still = λ r ne t. c.hold.ensures.still r ne t;
      guarded = λ f. open_guarded (cell_at c.args.memory.now c.args.at).lits (take c.hold.new.watches.done c.args.trail.now.lits) c.args.trail.now.lits (open_less c.hold.new.watches.done c.open_length-low.result (cell_at c.args.memory.now c.args.at).lits c.args.trail.now.lits (c.hold.ensures.taken f) o);
      stuck = λ t. chosen_stuck c.args.trail.now.lits (cell_at c.args.memory.now c.args.at).lits c.requires.chosen w;
    })

pub returns-else-low-watches : goal.returns-else-low-watches
returns-else-low-watches g c =
    let o : AreOpenWatches (cell_at c.args.memory.now c.args.at).lits (take c.open_length-low.result c.args.trail.now.lits) = subst (λ x. AreOpenWatches x (take c.open_length-low.result c.args.trail.now.lits)) c.lits-clause.ensures.value c.open_length-low.ensures.open_here in
    let n : length c.lits-len.result.now ≡ length c.args.trail.now.lits = ap (length {A = Literal}) c.lits-len.ensures.value in
    record {
      lists = refl;
      shade = refl;
      top = refl;
      less = omega arith;
      rising = c.drop_between-2.ensures.rising;
      fewer = λ i h. let q = c.drop_between-2.ensures.fewer i h in let le : i ≤ c.open_length-low.result = fewer_below c.open_length-low.result (length c.lits-len.result.now) i q.1 (omega (arith, n, c.requires.kept_within i q.0)) in
          (q.0, open_guarded (cell_at c.args.memory.now c.args.at).lits (take i c.args.trail.now.lits) (take i c.args.trail.now.lits) (open_less i c.open_length-low.result (cell_at c.args.memory.now c.args.at).lits c.args.trail.now.lits le o));
      others = λ r ne f t. absurd cc;
      still = λ r ne t. t;
      guarded = λ f. open_guarded (cell_at c.args.memory.now c.args.at).lits (take c.args.watches.now.done c.args.trail.now.lits) c.args.trail.now.lits (open_less c.args.watches.now.done c.open_length-low.result (cell_at c.args.memory.now c.args.at).lits c.args.trail.now.lits (omega (arith, c.if-low-watches.false)) o);
      stuck = λ t. absurd ((c.requires.pending c.args.at t).1 refl);
    }
