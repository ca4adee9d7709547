-- What was put is put after what was put before.
use Rattle.std.proofs.Common.{◌≡◌, ℕ, Bool, true, false, cond, List, [], ◌++◌, refl, sym, ◌∙◌, ap, subst, arith, append_assoc, append-nil, IsTrue, length-append}
use Rattle.sr_desk.specs.Outside.{Outside, Rose, OnlyWrites, can_write}
use Rattle.sr_desk.specs.Calls.{Sends, SendsPrefix}
use Rattle.sr_desk.proofs.CallLemmas.{OnlyWrites-refl, OnlyWrites-trans, Sends-none, Sends-trans, Rose-after, can_write-kept}
use Rattle.sr_table.proofs.Paging.{by_test}
use Rattle.sr_placing.specs.Sinking.{FileState, FilePuts, kept, LengthPuts, ListState, ListPuts}

pub file_stays : (s : FileState) (a : Outside) (t : FileState) (b : Outside) (x : List ℕ) → IsTrue (can_write a s.slot) → FilePuts s a t b x → IsTrue (can_write b t.slot)
file_stays s a t b x can p = subst (λ n. IsTrue (can_write b n)) (sym p.same) (can_write-kept p.only can)

pub file_none : (s : FileState) (a : Outside) → FilePuts s a s a []
file_none s a = record {
  same = refl;
  only = OnlyWrites-refl s.slot a;
  goes_on = λ h g. ([], Sends-none (a.slot s.slot), append-nil s.buffered);
  fails = λ h g. absurd cc;
  stays = λ h. (h, refl);
}

pub file_joined : (s : FileState) (a : Outside) (t : FileState) (b : Outside) (u : FileState) (c : Outside) (x y : List ℕ) → FilePuts s a t b x → FilePuts t b u c y → FilePuts s a u c (x ++ y)
file_joined s a t b u c x y p q = record {
  same = q.same ∙ p.same;
  only = OnlyWrites-trans p.only (subst (λ n. OnlyWrites n b c) p.same q.only);
  goes_on = λ h g. by_test t.failed
      (λ f. let bad : false ≡ true = sym g ∙ (q.stays f).0 in absurd cc)
      (λ f. let one = p.goes_on h f in let two = q.goes_on f g in (
        one.0 ++ two.0,
        Sends-trans one.1 (subst (λ n. Sends (b.slot n) (c.slot n) two.0) p.same two.1),
        sym (append_assoc s.buffered x y) ∙ ap (λ l. l ++ y) one.2 ∙ append_assoc one.0 t.buffered y ∙ ap (λ l. one.0 ++ l) two.2 ∙ sym (append_assoc one.0 two.0 u.buffered),
      ));
  fails = λ h g. by_test t.failed
      (λ f. let one = p.fails h f in let same : c ≡ b = (q.stays f).1 in
      subst (λ o. SendsPrefix (a.slot s.slot) (o.slot s.slot) (s.buffered ++ (x ++ y)) × Rose (a.slot s.slot).faults (o.slot s.slot).faults) (sym same) (longer one.0, one.1))
      (λ f. let one = p.goes_on h f in let two = q.fails f g in
      (after one two.0, Rose-after (a.slot s.slot).faults (b.slot s.slot).faults (c.slot s.slot).faults p.only.later (subst (λ n. Rose (b.slot n).faults (c.slot n).faults) p.same two.1)));
  stays = λ h. let one = p.stays h in let two = q.stays one.0 in (two.0, two.1 ∙ one.1);
}
  where
    longer : SendsPrefix (a.slot s.slot) (b.slot s.slot) (s.buffered ++ x) → SendsPrefix (a.slot s.slot) (b.slot s.slot) (s.buffered ++ (x ++ y))
    longer (front, (rest, e, sent)) = (front, (rest ++ y, sym (append_assoc s.buffered x y) ∙ ap (λ l. l ++ y) e ∙ append_assoc front rest y, sent))

    after : (front : List ℕ) × Sends (a.slot s.slot) (b.slot s.slot) front × (s.buffered ++ x ≡ front ++ t.buffered) → SendsPrefix (b.slot t.slot) (c.slot t.slot) (t.buffered ++ y)
        → SendsPrefix (a.slot s.slot) (c.slot s.slot) (s.buffered ++ (x ++ y))
    after (front, sent, e) (more, (rest, d, then)) = (
      front ++ more,
      (
        rest,
        sym (append_assoc s.buffered x y) ∙ ap (λ l. l ++ y) e ∙ append_assoc front t.buffered y ∙ ap (λ l. front ++ l) d ∙ sym (append_assoc front more rest),
        Sends-trans sent (subst (λ n. Sends (b.slot n) (c.slot n) more) p.same then),
      ),
    )

-- what is kept was put
kept_by : (b : Bool) (s : FileState) (x : List ℕ) → s.failed ≡ b → kept s x ≡ cond b s (record s { buffered = s.buffered ++ x })
kept_by b s x e = ap (λ f. cond f s (record s { buffered = s.buffered ++ x })) e

pub file_kept : (s : FileState) (a : Outside) (x : List ℕ) → FilePuts s a (kept s x) a x
file_kept s a x = by_test s.failed
    (λ f. subst (λ t. FilePuts s a t a x) (sym (kept_by true s x f)) (record {
      same = refl;
      only = OnlyWrites-refl s.slot a;
      goes_on = λ h g. let bad : false ≡ true = sym h ∙ f in absurd cc;
      fails = λ h g. let bad : false ≡ true = sym h ∙ f in absurd cc;
      stays = λ h. (h, refl);
    }))
    (λ f. subst (λ t. FilePuts s a t a x) (sym (kept_by false s x f)) (record {
      same = refl;
      only = OnlyWrites-refl s.slot a;
      goes_on = λ h g. ([], Sends-none (a.slot s.slot), refl);
      fails = λ h g. let bad : false ≡ true = sym h ∙ g in absurd cc;
      stays = λ h. (h, refl);
    }))

pub length_none : (a : ℕ) → LengthPuts a a []
length_none a = omega arith

pub length_joined : (a b c : ℕ) (x y : List ℕ) → LengthPuts a b x → LengthPuts b c y → LengthPuts a c (x ++ y)
length_joined a b c x y p q = let long = length-append x y in omega (arith, p, q, long)

pub list_none : (s : ListState) → ListPuts s s []
list_none s = record { list = λ h. sym (append-nil s.list); failed = λ h. h }

pub list_joined : (s t u : ListState) (x y : List ℕ) → ListPuts s t x → ListPuts t u y → ListPuts s u (x ++ y)
list_joined s t u x y p q = record {
  list = λ h. by_test t.failed
      (λ f. let bad : false ≡ true = sym h ∙ q.failed f in absurd cc)
      (λ f. q.list h ∙ ap (λ l. l ++ y) (p.list f) ∙ append_assoc s.list x y);
  failed = λ h. q.failed (p.failed h);
}
