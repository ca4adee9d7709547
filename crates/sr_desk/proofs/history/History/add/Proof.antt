-- Nothing runs: what the borrow holds is taken out and put back as the longer bytes.
use Rattle.std.proofs.Common.{ℕ, List, [], ◌∷◌, ◌++◌, refl}
use types.Kit.{‵, ◌⊛◌, ◌$◌, ◌∵◌, !, qed, move, keep, drop, use1, split, fsplit, fsplit3, fjoin, fjoin3, fpick, fpack, suffices, frame, feq_i, done, join}
use base.Logic.{id⊢}
use base.Fml.{ftrue, flft, fsep}
use mir.Syntax.{named}
use mir.Val.{Val, vunit}
use types.Run.{enter, of_opd, unit_lit, returns}
use types.ByLocal.{alloc_all, pass_all, free_all, look_at, sets}
use denote.Builtin.{u8}
use denote.Exit.{yes}
use denote.RattleType.{owns}
use denote.Ref.{MutRef, mut_vals, mut_Tells}
use denote.Slice.{ShrSlice, shr_slice_vals, shr_slice_Tells}
use denote.Signature.{plain}
use denote.Steps.{opens, closes}
use denote.Triple.Walked.{Stays, walk_of, says, stay_ref, stay_none_slice, Goes-ref, Goes-none_slice, ends_at}
use Rattle.std.proofs.raw_atomic.Walks.{proved}
use Rattle.sr_desk.specs.declared.history.History.TheInside.{Inside}
use Rattle.sr_desk.specs.contracts.history.History.{the_row as bytes_row}
use Rattle.sr_desk.specs.contracts.history.History.TheInside.{the_row as inside_row}
use Rattle.sr_desk.specs.contracts.history.History.add as f
use Rattle.sr_desk.proofs.history.History.add.Statement.{statement}
use Rattle.sr_desk.proofs.history.History.add.Code as code

abbrev stayed : Stays f.ended.signature.params f.ended.kept
stayed = (stay_ref (0 ∷ []) tt (plain (λ _. bytes_row)), (stay_none_slice (1 ∷ []) tt (plain (λ _. u8)) yes, tt))

pub add_spec : {M : Type 1} → statement M
add_spec 𝓤 𝓛 𝓜 𝓡 wired =
    let c = f.clauses 𝓛 𝓜.mem 𝓡.returns in let W = walk_of 𝓛 f.ended stayed c in
    proved 𝓛 f.ended stayed c 𝓜 𝓡 (Goes-ref 𝓛 2 0 tt (plain (λ _. bytes_row)), (Goes-none_slice 𝓛 2 (1 ∷ []) tt (plain (λ _. u8)) yes, tt))
    f.Key.name code.function (code.unfolded 𝓤 𝓛.H 𝓜 𝓡 wired)
    (λ κs. (mut_vals, (shr_slice_vals, tt))) (λ κs. (mut_Tells (named 0) κs.0 bytes_row, (shr_slice_Tells (named 1) κs.1.0 u8, tt))) (λ κs qs bounds a _ are.
    let block = a.0.ref_ptr.0 in let offset = a.0.ref_ptr.1 in
    let more = a.1.0 in let longer : List ℕ = a.0.now ++ more.now in
    let self = mut_vals a.0 in let slice = shr_slice_vals more in
    let y : W.Ghost = ((κs, qs, bounds, a, (self, (slice, tt))), tt) in
    qed 𝓛 (((‵ (flft κs.0 qs.0) ⊛ (‵ (flft κs.1.0 qs.1.0) ⊛ ‵ ftrue)) ⊛ ‵ ((MutRef (named 0) κs.0 bytes_row).own_val a.0 self) ⊛ ‵ (owns (ShrSlice (named 1) κs.1.0 u8 ∷ []) a.1 (slice, tt))) ∷ ‵ ftrue ∷ []) ∵
    split ! $ split ! $ move ! (2 ∷ []) $ split ! $ fsplit3 ! $ drop ! $ move ! (0 ∷ 1 ∷ 3 ∷ []) $
    enter ! _ _ _ _ _ $ alloc_all ! (λ l. pass_all ! refl ((tt, tt), ((tt, (tt, (record { fits = are.1.0.0.1.0 }, tt))), tt)) $
    opens ! tt bytes_row {h = a.0.now} block offset (λ us.
    sets ! (of_opd ! (unit_lit !)) refl (tt, tt) $
    move ! (1 ∷ []) $ fpick ! (λ was. fsplit ! $
    let now : Inside = record { unit = was.0.unit; bytes = longer } in
    use1 𝓛 (‵ (inside_row.own_val now us)) (id⊢ 𝓤 _) $ fjoin ! $
    fpack ! _ (λ i. fsep (inside_row.own_val i.0 us) ftrue) (now, (refl, tt)) $
    use1 𝓛 (‵ (bytes_row.own_val longer us)) (id⊢ 𝓤 _) $
    move ! (1 ∷ 0 ∷ []) $ closes ! tt bytes_row longer us block offset $
    returns ! (look_at ! 0 refl) $ free_all ! refl $ keep ! (2 ∷ 4 ∷ 0 ∷ 1 ∷ 3 ∷ []) $
    suffices ! _ (ends_at 𝓛 f.ended stayed c y vunit tt (longer, (tt, tt)) (tt, (tt, tt))) $ says ! refl $
    join ! $ frame ! $ feq_i ! (List Val) self self refl $ fjoin3 ! $ fjoin ! $
    feq_i ! (List Val) (vunit ∷ []) (vunit ∷ []) refl $ move ! (1 ∷ 0 ∷ []) $ done !))))
