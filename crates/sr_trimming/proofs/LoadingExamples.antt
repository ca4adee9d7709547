-- Small proofs as they are loaded.
use Rattle.std.proofs.Common.{◌≡◌, false, refl, inr, List, [], ◌∷◌, Some, None}
use Rattle.sr_base.specs.Literal.{Literal, plus, minus, same}
use Rattle.sr_model.specs.Dsr.{Lemma, lemma_line, deletion_line}
use Rattle.sr_trimming.specs.Loading.{joined, removed, passed, at_start, after_all, AllDid}
use Rattle.sr_trimming.specs.From.{all_loaded, place_of}

one : Lemma
one = record { clause = plus 2 ∷ []; witness = None }

empty : Lemma
empty = record { clause = []; witness = None }

-- four clauses on two variables, and the first one again in another order
square : List (List Literal)
square = (plus 1 ∷ plus 2 ∷ []) ∷ (minus 1 ∷ plus 2 ∷ []) ∷ (plus 1 ∷ minus 2 ∷ []) ∷ (minus 1 ∷ minus 2 ∷ []) ∷ []

copied : List (List Literal)
copied = (plus 1 ∷ plus 2 ∷ []) ∷ (minus 1 ∷ plus 2 ∷ []) ∷ (plus 1 ∷ minus 2 ∷ []) ∷ (minus 1 ∷ minus 2 ∷ []) ∷ (plus 2 ∷ plus 1 ∷ []) ∷ []

-- of two copies the one with the greater number goes, and the first one stays
copy_goes : AllDid false (at_start copied) (deletion_line (plus 1 ∷ plus 2 ∷ []) ∷ lemma_line one ∷ []) (removed 5 ∷ joined one ∷ [])
unfolding copied one same
copy_goes = (inr (λ k. absurd cc, refl), (refl, tt))

first_stays : (after_all (at_start copied) (removed 5 ∷ joined one ∷ [])).alive
    ≡ (1, plus 1 ∷ plus 2 ∷ []) ∷ (2, minus 1 ∷ plus 2 ∷ []) ∷ (3, plus 1 ∷ minus 2 ∷ []) ∷ (4, minus 1 ∷ minus 2 ∷ []) ∷ (6, plus 2 ∷ []) ∷ []
unfolding copied one
first_stays = refl

-- a deletion of a set that no clause has is passed over
nothing_goes : AllDid false (at_start square) (deletion_line (plus 1 ∷ plus 3 ∷ []) ∷ lemma_line one ∷ []) (passed ∷ joined one ∷ [])
unfolding square one same
nothing_goes = (refl, (refl, tt))

-- a deletion finds a lemma, and the number of a lemma isn't used again
lemma_goes : AllDid false (at_start square) (lemma_line one ∷ deletion_line (plus 2 ∷ []) ∷ lemma_line one ∷ []) (joined one ∷ removed 5 ∷ joined one ∷ [])
unfolding square one same
lemma_goes = (refl, (inr (λ k. absurd cc, refl), (refl, tt)))

lemma_again : all_loaded square (joined one ∷ removed 5 ∷ joined one ∷ [])
    ≡ (1, plus 1 ∷ plus 2 ∷ []) ∷ (2, minus 1 ∷ plus 2 ∷ []) ∷ (3, plus 1 ∷ minus 2 ∷ []) ∷ (4, minus 1 ∷ minus 2 ∷ []) ∷ (5, plus 2 ∷ []) ∷ (6, plus 2 ∷ []) ∷ []
unfolding square one
lemma_again = refl

-- an empty lemma takes a number, and doesn't join the clauses
empty_joins_not : after_all (at_start square) (joined empty ∷ []) ≡ record { next = 6; alive = (at_start square).alive }
unfolding square empty
empty_joins_not = refl

-- the lemma of a number stands over the clauses that were alive before its line
placed_before : place_of (at_start square) (removed 1 ∷ joined one ∷ []) 5 ≡ Some (record { alive = (2, minus 1 ∷ plus 2 ∷ []) ∷ (3, plus 1 ∷ minus 2 ∷ []) ∷ (4, minus 1 ∷ minus 2 ∷ []) ∷ []; stated = one })
unfolding square one
placed_before = refl
