-- From the token at the front to what the whole text spells.
use Rattle.std.proofs.Common.{◌≡◌, ◌∙◌, true, false, Ok, Err, refl, sym, ap, subst}
use Rattle.sr_model.specs.declared.tokens.Token.{Token}
use Rattle.sr_model.specs.Tokens.{Tokens}
use Rattle.sr_model.specs.Reading.{Read}
use Rattle.sr_model.specs.Dimacs.{Formula}
use Rattle.sr_base.specs.declared.names.InputError.{InputError}
use Rattle.sr_base.specs.declared.names.InputError.TheVariants.{Text, Limit, Source, NoMemory}
use Rattle.sr_scan.specs.Left.{GivesToken, RefusesToken, Refuses, Gives, is_source}
use Rattle.sr_cnf.specs.Reading.{left_of, RefusesHere, Takes}
use Rattle.sr_cnf.specs.declared.reading.Reading.{Reading}

refused_whole : (read : Read Formula) (e : InputError) → RefusesHere read e → Refuses read e
refused_whole read (Text kind place) h = h
refused_whole read (Limit kind) h = h
refused_whole read Source h = absurd h
refused_whole read NoMemory h = tt

-- the token is refused
pub fault_given : (read : Read Formula) (now left : Tokens) (r r' : Reading) (t : Token) (e : InputError) → read ≡ left_of r now → GivesToken now left (Ok t) → Takes r r' t (Err e)
    → Refuses read e
fault_given read now left r r' t e same given takes = subst (λ (x : Read Formula). Refuses x e) (sym (same ∙ ap (left_of r) given.0)) (refused_whole _ e (takes left))

-- there is none
pub error_given : (read : Read Formula) (now : Tokens) (r : Reading) (e e' : InputError) → read ≡ left_of r now → RefusesToken now e → ((all : Tokens) → RefusesToken all e → Refuses (left_of r all) e')
    → Refuses read e'
error_given read now r e e' same given error = subst (λ (x : Read Formula). Refuses x e') (sym same) (error now given)

-- the formula is whole
pub formula_given : (read : Read Formula) (now left : Tokens) (r r' : Reading) (t : Token) → read ≡ left_of r now → GivesToken now left (Ok t) → Takes r r' t (Ok true)
    → Gives read left (Ok r'.formula)
formula_given read now left r r' t same given takes = same ∙ ap (left_of r) given.0 ∙ takes left given.1

-- it goes on
pub goes_on : (read : Read Formula) (now left : Tokens) (r r' : Reading) (t : Token) → read ≡ left_of r now → GivesToken now left (Ok t) → Takes r r' t (Ok false)
    → read ≡ left_of r' left
goes_on read now left r r' t same given takes = same ∙ ap (left_of r) given.0 ∙ takes.1 left

-- what a token refuses is no failed read
pub no_source : (read : Read Formula) (e : InputError) → RefusesHere read e → is_source e ≡ false
no_source read (Text kind place) h = refl
no_source read (Limit kind) h = refl
no_source read Source h = absurd h
no_source read NoMemory h = refl
