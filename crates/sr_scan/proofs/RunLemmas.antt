-- Bytes of a token that are taken at once.
use Rattle.std.proofs.Common.{◌≡◌, ◌∙◌, ℕ, suc, ◌+◌, ◌-◌, ◌≤◌, not, Bool, true, false, refl, ap, List, [], ◌∷◌, ◌++◌, length, arith}
use Rattle.std.specs.List.{list_all}
use Rattle.sr_base.specs.Contents.{Ending}
use Rattle.sr_scan.specs.declared.lexeme.Lexeme.{Lexeme}
use Rattle.sr_model.specs.Words.{is_white}
use Rattle.sr_scan.specs.Lexeme.{extended}
use Rattle.sr_scan.specs.Machine.{lexeme_after}
use Rattle.sr_scan.specs.Machine.{within, moved, told, texts}
use Rattle.sr_scan.proofs.TextLemmas.{texts-cons}

pub texts-run : (e : Ending) (p : ℕ) (l : Lexeme) (room place : ℕ) (run rest : List ℕ) → list_all (λ b. not (is_white b)) run ≡ true → length run ≤ room
    → texts e (within p l) room place (run ++ rest) ≡ texts e (within p (lexeme_after l run)) (room - length run) (place + length run) rest
texts-run e p l room place [] rest dark le =
    let a : room - 0 ≡ room = omega arith in
    let b : place + 0 ≡ place = omega arith in
    rw (a, b) refl
texts-run e p l room place (b ∷ run) rest dark le = go (is_white b) refl (λ h. texts-run e p (extended l b) (room - 1) (place + 1) run rest h (omega arith))
  where
    go : (w : Bool) → is_white b ≡ w
        → (list_all (λ b. not (is_white b)) run ≡ true
        → texts e (within p (extended l b)) (room - 1) (place + 1) (run ++ rest) ≡ texts e (within p (lexeme_after (extended l b) run)) (room - 1 - length run) (place + 1 + length run) rest)
        → texts e (within p l) room place (b ∷ (run ++ rest)) ≡ texts e (within p (lexeme_after l (b ∷ run))) (room - suc (length run)) (place + suc (length run)) rest
    go true w again = let bad = rw w at dark in cc
    go false w again =
        let all : list_all (λ b. not (is_white b)) run ≡ true = rw w at dark in
        let step : told (within p l) b (texts e (moved (within p l) b place) (room - 1) (place + 1) (run ++ rest)) ≡ texts e (within p (extended l b)) (room - 1) (place + 1) (run ++ rest) = rw w refl in
        let a : room - 1 - length run ≡ room - suc (length run) = omega arith in
        let f : place + 1 + length run ≡ place + suc (length run) = omega arith in
        texts-cons e (within p l) room place b (run ++ rest) (omega arith) ∙ step ∙ again all
        ∙ ap (λ (k : ℕ). texts e (within p (lexeme_after (extended l b) run)) k (place + 1 + length run) rest) a
        ∙ ap (λ (k : ℕ). texts e (within p (lexeme_after (extended l b) run)) (room - suc (length run)) k rest) f
