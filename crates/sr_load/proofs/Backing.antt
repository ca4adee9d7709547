-- Lines are taken back one after another.
use Rattle.std.proofs.Common.{◌≡◌, ◌<◌, ◌≤◌, ℕ, suc, zero, true, false, List, [], ◌∷◌, ◌++◌, Option, Some, None, refl, sym, ◌∙◌, ap, arith, length, take}
use Rattle.std.specs.Prelude.{is_some}
use Rattle.std.proofs.lemmas.List.{append_assoc, append-nil, length-append}
use Rattle.sr_trimming.specs.Loading.{Done, joined, removed, passed}
use Rattle.sr_load.specs.declared.records.Event.{Event}
use Rattle.sr_load.specs.Loaded.{LoadedState, standing_in, joins_none, TookBack, TookAll, TakesBack}
use Rattle.sr_load.specs.Records.{done_in}
use Rattle.sr_load.specs.Taking.{TellsNumber, TookLine}

-- lines that stated no lemma were taken back
pub record IsBackTo (old new : LoadedState) : Type 0 where
  pub rest : List Done
  pub stood : old.standing ≡ new.standing ++ rest
  pub undone : new.undone ≡ rest ++ old.undone
  pub no_lemma : joins_none rest ≡ true
  pub same : new ≡ record old { standing = new.standing; undone = new.undone }

pub back_start : (st : LoadedState) → IsBackTo st st
back_start st = record { rest = []; stood = sym (append-nil st.standing); undone = refl; no_lemma = refl; same = refl }

no_lemma_more : (d : Done) (rest : List Done) (n : ℕ) → TellsNumber d n None → joins_none rest ≡ true → joins_none (d ∷ rest) ≡ true
no_lemma_more (joined l) rest n t h = absurd t
no_lemma_more (removed k) rest n t h = h
no_lemma_more passed rest n t h = h

pub back_more : (a b c : LoadedState) (o : Option ℕ) → is_some o ≡ false → IsBackTo a b → TookLine b c o → IsBackTo a c
back_more a b c (Some id) e h t = absurd cc
back_more a b c None e h t = record {
  rest = t.done ∷ h.rest;
  stood = h.stood ∙ ap (λ x. x ++ h.rest) t.stood ∙ append_assoc c.standing (t.done ∷ []) h.rest;
  undone = t.undone ∙ ap (λ x. t.done ∷ x) h.undone;
  no_lemma = no_lemma_more t.done h.rest (standing_in c).next t.tells h.no_lemma;
  same = t.same ∙ ap (λ (x : LoadedState). record x { standing = c.standing; undone = c.undone }) h.same;
}

pub back_fewer : (b c : LoadedState) (o : Option ℕ) → TookLine b c o → length c.standing < length b.standing
back_fewer b c o t = omega (arith, ap length t.stood, length-append c.standing (t.done ∷ []))

-- a lemma was taken back
lemma_back : (a b c : LoadedState) (id : ℕ) (d : Done) → IsBackTo a b → b.standing ≡ c.standing ++ d ∷ [] → c.undone ≡ d ∷ b.undone → c ≡ record b { standing = c.standing; undone = c.undone } → TellsNumber d (standing_in c).next (Some id) → TookBack a c id
lemma_back a b c id (joined l) h stood undone same t = record {
  stated = l;
  rest = h.rest;
  stood = h.stood ∙ ap (λ x. x ++ h.rest) stood ∙ append_assoc c.standing (joined l ∷ []) h.rest;
  undone = undone ∙ ap (λ x. joined l ∷ x) h.undone;
  no_lemma = h.no_lemma;
  number = t;
  same = same ∙ ap (λ (x : LoadedState). record x { standing = c.standing; undone = c.undone }) h.same;
}
lemma_back a b c id (removed k) h stood undone same t = absurd t
lemma_back a b c id passed h stood undone same t = absurd t

pub back_found : (a b c : LoadedState) (o : Option ℕ) → is_some o ≡ true → IsBackTo a b → TookLine b c o → TakesBack a c o
back_found a b c None e h t = absurd cc
back_found a b c (Some id) e h t = lemma_back a b c id t.done h t.stood t.undone t.same t.tells

pub none_stands : (es : List Event) (k : ℕ) → k ≤ 0 → done_in (take k es) ≡ []
none_stands es zero h = refl
none_stands es (suc k) h = absurd (omega arith)

pub back_all : (a b : LoadedState) → b.standing ≡ [] → IsBackTo a b → TookAll a b
back_all a b e h =
    let rest : a.standing ≡ h.rest = h.stood ∙ ap (λ x. x ++ h.rest) e in record {
      standing = e;
      undone = h.undone ∙ ap (λ x. x ++ a.undone) (sym rest);
      no_lemma = ap joins_none rest ∙ h.no_lemma;
      same = h.same;
    }

pub none_assumed_yet : (a b : LoadedState) → a.assumed ≡ [] → IsBackTo a b → b.assumed ≡ []
none_assumed_yet a b e h = ap (λ (x : LoadedState). x.assumed) h.same ∙ e
