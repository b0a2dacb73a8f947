-- What the text of a value is, by what its items come to.
use Rattle.std.proofs.Common.{◌≡◌, ℕ, List, sym, ◌∙◌, subst, Result, Ok, Err, inl, inr, string_bytes, String, refl}
use Rattle.std.specs.declared.alloc.Global.{Global}
use Rattle.basic_toml_emit.specs.Items.{Item}
use Rattle.basic_toml_layout.specs.Layout.{layout}
use Rattle.basic_toml_value.specs.Nesting.{nesting_limit}
use Rattle.basic_toml_emit.specs.Rules.{CallFault}
use Rattle.basic_toml_write.specs.Error.{Names}
use Rattle.basic_toml_write.specs.Write.{WritesOut, IsLayout, Succeeds}
use Rattle.basic_toml_write.proofs.OutcomeIsLayout.{outcome-layout, layout-outcome}
use Rattle.basic_toml_write.specs.declared.error.WriteError.{WriteError}
use Rattle.basic_toml_write.specs.declared.error.WriteError.TheVariants.{UnsupportedType, KeyNotString}
use Rattle.basic_toml_write.specs.declared.error.WriteError.TheVariants.{ValueAfterTable, UnsupportedNone, Custom}
use Rattle.basic_toml_write.specs.declared.error.WriteError.TheVariants.{DuplicateKey, CallOrder, NestedTooDeeply}
use Rattle.basic_toml_write.specs.declared.error.WriteError.TheVariants.{OutOfMemory}

pub is_layout : (is : List Item) (G : List Item → WriteError → Type 0) (r : Result (String Global) WriteError) → WritesOut is G r
    → IsLayout is r
is_layout is G (Ok t) h = layout-outcome nesting_limit is (string_bytes t) h.0
is_layout is G (Err e) h = tt

abbrev given : List ℕ → Result (List ℕ) CallFault
given t = Ok t

-- where the items come to a text, only want of memory is answered
no_error : (e : WriteError) (t : List ℕ) → Names e (given t) → e ≡ OutOfMemory
no_error UnsupportedType t h = absurd (cc)
no_error KeyNotString t h = absurd (cc)
no_error ValueAfterTable t h = absurd (cc)
no_error UnsupportedNone t h = absurd (cc)
no_error (Custom s) t h = absurd h
no_error (DuplicateKey s) t h = absurd (cc)
no_error CallOrder t h = absurd (cc)
no_error NestedTooDeeply t h = absurd (cc)
no_error OutOfMemory t h = refl

same_text : (t u : List ℕ) → given t ≡ given u → t ≡ u
same_text t u e = cc

pub succeeds : (is : List Item) (G : List Item → WriteError → Type 0) (r : Result (String Global) WriteError) → WritesOut is G r
    → Succeeds is G r
succeeds is G (Ok t) h w s u = same_text _ _ (sym h.0 ∙ outcome-layout nesting_limit is w s u)
succeeds is G (Err e) (inl g) w s u = inl g
succeeds is G (Err e) (inr d) w s u =
    inr (no_error e (layout w) (subst (Names e) (outcome-layout nesting_limit is w s u) d))
