-- What the first token tells of what is read.
use Rattle.std.proofs.Common.{◌≡◌, ◌∙◌, ℕ, sym, ap, subst, Ok, Err}
use Rattle.std.specs.Prelude.{Result}
use Rattle.sr_base.specs.declared.names.TextKind.{TextKind}
use Rattle.sr_base.specs.declared.names.LimitKind.TheVariants as limit
use Rattle.sr_base.specs.declared.names.InputError.{InputError}
use Rattle.sr_base.specs.declared.names.InputError.TheVariants.{Text, Limit, Source, NoMemory}
use Rattle.sr_model.specs.declared.tokens.Token.{Token}
use Rattle.sr_model.specs.Tokens.{Tokens, stopped, over, lost}
use Rattle.sr_model.specs.Reading.{Read, misspells, passes, fails}
use Rattle.sr_model.specs.Lsr.{MaybeItem}
use Rattle.sr_scan.specs.Left.{front_word, GivesToken, RefusesToken, Refuses}
use Rattle.sr_lsr.specs.declared.lists.ItemFrame.{ItemFrame}
use Rattle.sr_lsr.specs.declared.lists.ItemLists.{ItemLists}
use Rattle.sr_lsr.specs.Frames.{framed, MakesItem}
use Rattle.sr_lsr.specs.Reads.{GivesFrom}

-- a reading hands on what stops the tokens
pub record HandsOn (read : Tokens → Read MaybeItem) : Type 0 where
  pub misspelled : (kind : TextKind) (place : ℕ) → read (stopped kind place) ≡ misspells kind place
  pub past : read over ≡ passes limit.Bytes
  pub failed : read lost ≡ fails

-- no token stands at the front
pub unbegun : (read : Tokens → Read MaybeItem) (all : Tokens) (e : InputError) → HandsOn read → RefusesToken all e → Refuses (read all) e
unbegun read all (Text kind place) on r = ap read r ∙ on.misspelled kind place
unbegun read all (Limit limit.Bytes) on r = ap read r ∙ on.past
unbegun read all (Limit limit.Vars) on r = absurd r
unbegun read all (Limit limit.Ids) on r = absurd r
unbegun read all (Limit limit.Cells) on r = absurd r
unbegun read all Source on r = ap read r ∙ on.failed
unbegun read all NoMemory on r = absurd r

pub refuses_same : (e : InputError) (m n : Read MaybeItem) → m ≡ n → Refuses n e → Refuses m e
refuses_same e m n same r = subst (λ x. Refuses x e) (sym same) r

-- the token at the front is refused
pub refused : (read : Tokens → Read MaybeItem) (all left : Tokens) (t : Token) (e : InputError) → GivesToken all left (Ok t) → Refuses (read (front_word t.place t.word left)) e → Refuses (read all) e
refused read all left t e given r = refuses_same e (read all) (read (front_word t.place t.word left)) (ap read given.0) r

-- what is read is the same
pub gives_as : (m n : Read MaybeItem) (left : Tokens) (result : Result (Tokens → Read MaybeItem) InputError) → m ≡ n → GivesFrom n left result → GivesFrom m left result
gives_as m n left (Ok made) same given = same ∙ given
gives_as m n left (Err e) same given = refuses_same e m n same given

-- the item isn't made of what was read
pub made_refused : (f : ItemFrame) (lists : ItemLists) (left : Tokens) (e : InputError) → MakesItem f lists (Err e) → Refuses (framed f lists left) e
made_refused f lists left (Text kind place) h = h left
made_refused f lists left (Limit kind) h = absurd h
made_refused f lists left Source h = absurd h
made_refused f lists left NoMemory h = tt
