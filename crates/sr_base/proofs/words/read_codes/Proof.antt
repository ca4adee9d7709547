-- `read_codes` shares literals as words: both lie as a struct of one number. A walk of its MIR by hand.
use Rattle.std.proofs.Common.{◌≡◌, ℕ, suc, ◌+◌, ◌*◌, ◌^◌, ◌<◌, List, [], ◌∷◌, length, map, sym, refl, ap, subst, arith, ◌∙◌}
use seplogic.Ra.Ura.{Ura}
use mir.Syntax.{Body, named, w64, seq, assign, place, rv_opd, copy, return}
use mir.Val.{Val, vint}
use base.Logic.{SProp, ent}
use base.Fml.{Lft, Share, ftrue, flft}
use prog.Memory.{Memory}
use prog.Routine.{Routine}
use prog.Wp.{Env, Calls, Loops, WpFn, Tables}
use types.Logic.{Logic, sem}
use contract.Monad.{Fun}
use contract.Running.{tables, tables_of}
use sound.WpLaws.{WpFn-mono}
use types.Kit.{Item, mean, ‵, ◌⊛◌, raw, given, at_ret, ◌$◌, ◌∵◌, !, qed, by, move, keep, use1, drop, learn, fsplit, fjoin, fpick, feq_i, flt_i, suffices, check, frame, done}
use types.Part.{whole, sub, agg}
use types.Run.{stop, fld, hop, from, addr, of_opd, and_then, no_more, first, blocks, exec, returns, enter}
use types.ByLocal.{alloc_all, pass_all, free_all, look_at, look_in_at, get, sets, sets_last, env}
use denote.Builtin.{usize}
use denote.Exit.{yes}
use denote.Memory.{each_shared, shared_of}
use denote.Opens.{unhide, hide}
use denote.Plain.{uint_vals, uint_Tells}
use denote.RattleType.{RattleType, owns}
use denote.Ref.{Bor}
use denote.Signature.{plain, shr_slice_of}
use denote.Slice.{ShrSlice, Room, slice_val, shr_slice_vals, shr_slice_Tells}
use denote.Steps.{nothing}
use denote.Triple.Clauses.{Clauses}
use denote.Triple.Entry.{on_entry}
use denote.Triple.Spec.{Meets, triple_of}
use denote.Triple.Table.{entered}
use denote.Triple.Walked.{says, Stays, stay_dropped, walk_of, ends_at, walked, Goes-dropped, walk_Meets}
use Rattle.sr_base.specs.Literal.{Literal}
use Rattle.sr_base.specs.Words.{AllLiterals, IsLiteral, word_of}
use Rattle.sr_base.specs.declared.words.Word.{Word}
use Rattle.sr_base.specs.contracts.words.Word as word
use Rattle.sr_base.specs.contracts.literal.Lit as lit
use Rattle.sr_base.specs.contracts.literal.Lit.TheInside as inside
use Rattle.sr_base.specs.contracts.words.read_codes as F
use Rattle.sr_base.specs.contracts.words.read_codes.Key.{name as #self}
use Rattle.sr_base.proofs.words.read_codes.Statement as stated
use Rattle.sr_base.proofs.words.read_codes.Code as code

abbrev W : RattleType
W = word.the_row

abbrev L : RattleType
L = lit.the_row

abbrev I : RattleType
I = inside.the_row

-- the invariant of a literal bounds its word
bounded : (l : Literal) → lit.the_invariant (lit.the_inverse l) → IsLiteral (word_of l)
bounded l h = (omega (arith, h.0), omega (arith, h.1))

length_words : (xs : List Literal) → length (map word_of xs) ≡ length xs
length_words [] = refl
length_words (x ∷ xs) = ap (λ n. suc n) (length_words xs)

module _ {M : Type 1} {𝓤 : Ura M} (𝓛 : Logic 𝓤) (κ : Lft) (b : ℕ) where
  -- what is inside a literal lies as a word
  inner : (x : Literal) (o : ℕ) → ent 𝓤 (sem 𝓛 (shared_of I (lit.the_inverse x) b o κ)) (sem 𝓛 (shared_of W (word_of x) b o κ))
  inner x o = qed 𝓛 (‵ (shared_of I (lit.the_inverse x) b o κ) ∷ []) ∵ done !

  abbrev one_word : Literal → ℕ → Item 𝓤
  one_word x o = given (IsLiteral (word_of x)) (‵ (shared_of W (word_of x) b o κ))

  one_item : (x : Literal) (o : ℕ) → ent 𝓤 (sem 𝓛 (shared_of L x b o κ)) (mean 𝓛 (one_word x o))
  one_item x o =
      qed 𝓛 (‵ (shared_of L x b o κ) ∷ []) ∵
      fsplit ! $ move ! (1 ∷ []) $ fpick ! (λ inv. drop ! $ check ! (bounded x inv.1) $
      use1 𝓛 (‵ (shared_of W (word_of x) b o κ)) (inner x o) $ done !)

  abbrev all_words : List Literal → ℕ → Item 𝓤
  all_words xs o = given (AllLiterals (map word_of xs)) (‵ (each_shared (map word_of xs) (shared_of W) 4 b o κ))

  all_items : (xs : List Literal) (o : ℕ) → ent 𝓤 (sem 𝓛 (each_shared xs (shared_of L) 4 b o κ)) (mean 𝓛 (all_words xs o))
  all_items [] o = qed 𝓛 (‵ (each_shared [] (shared_of L) 4 b o κ) ∷ []) ∵ check ! tt $ done !
  all_items (x ∷ xs) o =
      qed 𝓛 (‵ (each_shared (x ∷ xs) (shared_of L) 4 b o κ) ∷ []) ∵
      fsplit ! $ use1 𝓛 (one_word x o) (one_item x o) $ learn ! (λ here.
      move ! (1 ∷ []) $ use1 𝓛 (all_words xs (o + 4)) (all_items xs (o + 4)) $ learn ! (λ left.
      check ! (here, left) $ move ! (1 ∷ []) $ fjoin ! $ done !))

abbrev stayed : Stays (F.ended).signature.params (F.ended).kept
stayed = (stay_dropped (shr_slice_of (0 ∷ []) tt (plain (λ _. L))) yes, (stay_dropped (plain (λ _. usize)) yes, tt))

abbrev rest : Body
rest = seq (assign (place 0 []) (rv_opd (copy (place 3 [])))) return

module _ {M : Type 1} {𝓤 : Ura M} (𝓛 : Logic 𝓤) (at_mem : Memory → SProp 𝓤) (run : Routine → Fun 𝓤) where
  open 𝓛 use {H}

  abbrev clauses : Clauses 𝓤 F.ended
  clauses = F.clauses 𝓛 at_mem run

  module _ (C : Calls 𝓤 H) (Λ : Loops 𝓤 H) (κ : Lft) (q : Share) (b o : ℕ) (xs : List Literal) (m : ℕ) where
    abbrev lits : Bor (List Literal)
    lits = record { ref_ptr = (b, o); now = xs }

    abbrev bound : (walk_of 𝓛 F.ended stayed clauses).Ghost
    bound = (((κ, tt), (q, tt), tt, (lits, (m, tt)), (shr_slice_vals lits, (vint w64 m ∷ [], tt))), tt)

    abbrev Post : Val → SProp 𝓤
    Post = (walk_of 𝓛 F.ended stayed clauses).post bound

    walk : m < 2 ^ 64 → Room L (length xs) → m ≡ length xs → ent 𝓤 (on_entry 𝓛 F.signature (κ, tt) (q, tt) (lits, (m, tt)) (shr_slice_vals lits, (vint w64 m ∷ [], tt))) (WpFn 𝓤 H C Λ code.function (slice_val (b, o) (length xs) ∷ vint w64 m ∷ []) Post)
    walk fm rm many =
        let ys : List Word = map word_of xs in
        let same : length ys ≡ m = length_words xs ∙ sym many in
        qed 𝓛 ((‵ (flft κ q) ⊛ ‵ ftrue) ∷ ‵ (owns (ShrSlice (named 0) κ L ∷ usize ∷ []) (lits, (m, tt)) (shr_slice_vals lits, (vint w64 m ∷ [], tt))) ∷ []) ∵ enter ! C Λ code.function (slice_val (b, o) (length xs) ∷ vint w64 m ∷ []) _ $
        alloc_all ! (λ l. pass_all ! refl ((tt, (tt, (record { fits = rm.0 }, tt))), ((tt, record { fits = fm }), tt)) $
        let En : Env 𝓤 H = env (code.function).locals l in
        first ! $ blocks ! $
        sets ! (addr ! (from ! (fld ! refl (hop ! (look_in_at ! 1 (sub ! 0 refl (whole !))) (stop !))))) refl (tt, tt) $
        sets_last ! (agg ! (and_then ! (get ! refl) (and_then ! (get ! refl) (no_more !)))) refl (tt, (tt, (record { fits = fm }, tt))) $
        exec ! C Λ En rest (at_ret En Post) $
        sets ! (of_opd ! (get ! refl)) refl (tt, (tt, (record { fits = fm }, tt))) $
        move ! (1 ∷ []) $ fsplit ! $ fsplit ! $ drop ! $ unhide ! $
        use1 𝓛 (all_words 𝓛 κ b xs o) (all_items 𝓛 κ b xs o) $ learn ! (λ all. hide ! $
        returns ! (look_at ! 0 refl) $ free_all ! refl $ keep ! (2 ∷ 0 ∷ []) $
        suffices ! _ (ends_at 𝓛 F.ended stayed clauses bound (slice_val (b, o) m) (record { ref_ptr = (b, o); now = ys }) (tt, (tt, tt)) (tt, (tt, tt))) $ says ! (refl, all) $
        frame ! $ nothing ! $ nothing ! $ fjoin ! $ nothing ! $ fjoin ! $ frame ! $
        flt_i ! (length ys * 4) (2 ^ 63) (subst (λ (k : ℕ). k * 4 < 2 ^ 63) (sym (length_words xs)) rm.1) $ flt_i ! (length ys) (2 ^ 64) (subst (λ (k : ℕ). k < 2 ^ 64) (sym same) fm) $ fjoin ! $
        feq_i ! (List Val) (slice_val (b, o) m ∷ []) (slice_val (b, o) (length ys) ∷ []) (λ i. slice_val (b, o) (sym same i) ∷ []) $ fjoin ! $ fjoin ! $ done !))

  meets : (𝓣 : Tables 𝓤 H) → Meets 𝓛 F.signature (WpFn 𝓤 H 𝓣.C 𝓣.Λ code.function) (F.spec 𝓛 at_mem run)
  meets 𝓣 =
      walk_Meets 𝓛 F.ended stayed (Goes-dropped 𝓛 1 (shr_slice_of (0 ∷ []) tt (plain (λ _. L))) yes (λ κs x f. refl), (Goes-dropped 𝓛 1 (plain (λ _. usize)) yes (λ κs x f. refl), tt)) clauses (WpFn 𝓤 H 𝓣.C 𝓣.Λ code.function) (WpFn-mono 𝓤 H 𝓛.laws 𝓣 code.function)
      (walked 𝓛 F.ended stayed clauses (WpFn 𝓤 H 𝓣.C 𝓣.Λ code.function) (λ κs. (shr_slice_vals, (uint_vals w64, tt))) (λ κs. (shr_slice_Tells (named 0) κs.0 L, (uint_Tells w64, tt)))
      (λ κs qs bounds a g are.
      let On : SProp 𝓤 = on_entry 𝓛 F.signature κs qs a (shr_slice_vals a.0, (vint w64 a.1.0 ∷ [], tt)) in
      qed 𝓛 (raw On ∷ given (a.1.0 ≡ length a.0.now) (‵ ftrue) ∷ []) ∵
      move ! (1 ∷ []) $ learn ! (λ many. drop ! $
      by ! (walk 𝓣.C 𝓣.Λ κs.0 qs.0 a.0.ref_ptr.0 a.0.ref_ptr.1 a.0.now a.1.0 are.1.0.1 are.0.0.1 many))))

pub read_codes_spec : {M : Type 1} → stated.statement M
unfolding tables_of
read_codes_spec 𝓤 𝓛 𝓜 𝓡 wired =
    entered 𝓤 𝓛.H (triple_of 𝓛 F.signature (F.spec 𝓛 𝓜.mem 𝓡.returns))
    (tables 𝓤 𝓛.H 𝓜 𝓡 𝓡.env).C (tables 𝓤 𝓛.H 𝓜 𝓡 𝓡.env).Λ #self code.function (code.unfolded 𝓤 𝓛.H 𝓜 𝓡 wired)
    (meets 𝓛 𝓜.mem 𝓡.returns (tables_of 𝓤 𝓛.H 𝓜 (tables 𝓤 𝓛.H 𝓜 𝓡 𝓡.env)))
