use Rattle.std.proofs.Common.{◌≡◌, ◌+◌, ◌*◌, ◌∷◌, ◌++◌, arith, ap, sym, subst, ◌∙◌, length, map}
use Rattle.sr_base.specs.Words.{word_of}
use Rattle.sr_arena.specs.Cells.{fresh}
use Rattle.sr_arena.specs.Layout.{Laid, IsLaid, laid_of, with_cell, room_of}
use Rattle.sr_arena.proofs.Laying.{pushed}
use Rattle.sr_arena.proofs.Clauses.{cells_length}
use Rattle.sr_arena.proofs.regions.Regions.push.Goals as goal

pub invariant_of-self-2 : goal.invariant_of-self-2
invariant_of-self-2 c =
    let put : c.extend.new.words.items ≡ c.self.inside.words.items ++ (record { code = c.args.number } ∷ record { code = 8 * length c.args.lits.now } ∷ map word_of c.args.lits.now) =
    c.extend.ensures.words ∙ ap (λ l. l ++ (record { code = c.args.number } ∷ record { code = 8 * length c.args.lits.now } ∷ map word_of c.args.lits.now)) c.reserve.ensures.items in
    let p = pushed c.self.inside.words.items c.args.lits.now c.self.inside.used _ (room_of c.extend.new.words) c.args.number c.args.self.now c.self.invariant c.self.view_is c.extend.ensures.all (omega (arith, c.requires, ap (λ (m : Laid). m.used) c.self.view_is)) in
    subst (λ l. IsLaid l (c.self.inside.used + (length c.args.lits.now + 4))) (sym put) p.laid

pub returns-clause-at : goal.returns-clause-at
returns-clause-at c =
    omega (arith, c.len.ensures, c.reserve.ensures.len, c.self.inside.words.ok.0, cells_length 0 c.self.inside.words.items, ap (λ (m : Laid). length m.cells) c.self.view_is)

pub returns-clause-ok : goal.returns-clause-ok
returns-clause-ok c =
    let put : c.extend.new.words.items ≡ c.self.inside.words.items ++ (record { code = c.args.number } ∷ record { code = 8 * length c.args.lits.now } ∷ map word_of c.args.lits.now) =
    c.extend.ensures.words ∙ ap (λ l. l ++ (record { code = c.args.number } ∷ record { code = 8 * length c.args.lits.now } ∷ map word_of c.args.lits.now)) c.reserve.ensures.items in
    let p = pushed c.self.inside.words.items c.args.lits.now c.self.inside.used _ (room_of c.extend.new.words) c.args.number c.args.self.now c.self.invariant c.self.view_is c.extend.ensures.all (omega (arith, c.requires, ap (λ (m : Laid). m.used) c.self.view_is)) in
    subst (λ l. laid_of l (c.self.inside.used + (length c.args.lits.now + 4)) (room_of c.extend.new.words) ≡ with_cell c.args.self.now (fresh c.args.lits.now c.args.number) (room_of c.extend.new.words)) (sym put) p.view
