-- Errors that are kept and answered.
use Rattle.std.proofs.Common.{◌≡◌, ap, ◌∙◌, subst, Result, Err}
use Rattle.basic_toml_emit.specs.Open.{State}
use Rattle.basic_toml_emit.specs.Rules.{CallFault, duplicate_key}
use Rattle.basic_toml_write.specs.Error.{Names}
use Rattle.basic_toml_write.specs.Again.{IsAgain}
use Rattle.basic_toml_write.specs.declared.error.WriteError.{WriteError}
use Rattle.basic_toml_write.specs.declared.error.WriteError.TheVariants.{UnsupportedType, KeyNotString}
use Rattle.basic_toml_write.specs.declared.error.WriteError.TheVariants.{ValueAfterTable, UnsupportedNone, Custom}
use Rattle.basic_toml_write.specs.declared.error.WriteError.TheVariants.{DuplicateKey, CallOrder, NestedTooDeeply}
use Rattle.basic_toml_write.specs.declared.error.WriteError.TheVariants.{OutOfMemory}

-- a list that is refused stays refused
pub refuses_later : (x : WriteError) (r r' : Result State CallFault) → ((e : CallFault) → r ≡ Err e → r' ≡ Err e)
    → Names x r → Names x r'
refuses_later UnsupportedType r r' k h = k _ h
refuses_later KeyNotString r r' k h = k _ h
refuses_later ValueAfterTable r r' k h = k _ h
refuses_later UnsupportedNone r r' k h = k _ h
refuses_later (Custom s) r r' k h = h
refuses_later (DuplicateKey s) r r' k h = k _ h
refuses_later CallOrder r r' k h = k _ h
refuses_later NestedTooDeeply r r' k h = k _ h
refuses_later OutOfMemory r r' k h = tt

-- want of memory may stand for any error
pub refuses_again : (e k : WriteError) (r : Result State CallFault) → IsAgain e k → Names e r → Names k r
refuses_again UnsupportedType k r a h = subst (λ x. Names x r) a h
refuses_again KeyNotString k r a h = subst (λ x. Names x r) a h
refuses_again ValueAfterTable k r a h = subst (λ x. Names x r) a h
refuses_again UnsupportedNone k r a h = subst (λ x. Names x r) a h
refuses_again (Custom s) k r a h = absurd h
refuses_again (DuplicateKey s) (DuplicateKey t) r a h = h ∙ ap (λ x. Err (duplicate_key x)) a
refuses_again (DuplicateKey s) UnsupportedType r a h = absurd (cc)
refuses_again (DuplicateKey s) KeyNotString r a h = absurd (cc)
refuses_again (DuplicateKey s) ValueAfterTable r a h = absurd (cc)
refuses_again (DuplicateKey s) UnsupportedNone r a h = absurd (cc)
refuses_again (DuplicateKey s) (Custom t) r a h = absurd (cc)
refuses_again (DuplicateKey s) CallOrder r a h = absurd (cc)
refuses_again (DuplicateKey s) NestedTooDeeply r a h = absurd (cc)
refuses_again (DuplicateKey s) OutOfMemory r a h = tt
refuses_again CallOrder k r a h = subst (λ x. Names x r) a h
refuses_again NestedTooDeeply k r a h = subst (λ x. Names x r) a h
refuses_again OutOfMemory k r a h = subst (λ x. Names x r) a h
