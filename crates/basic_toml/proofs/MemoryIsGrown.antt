-- Where want of memory comes in writing: only of what grows something.
use Rattle.std.proofs.Common.{◌≡◌, List, sym, ◌∙◌, ap, Result, Ok, Err, IfErr, String}
use Rattle.std.specs.declared.alloc.Global.{Global}
use Rattle.basic_toml_emit.specs.Items.{Item}
use Rattle.basic_toml_value.specs.Nesting.{nesting_limit}
use Rattle.basic_toml_write.specs.Write.{HasCause}
use Rattle.basic_toml_write.proofs.SpelledListGrows.{spelled_grow}
use Rattle.basic_toml_write.specs.declared.error.WriteError.{WriteError}
use Rattle.basic_toml_write.specs.declared.error.WriteError.TheVariants.{UnsupportedType, KeyNotString}
use Rattle.basic_toml_write.specs.declared.error.WriteError.TheVariants.{ValueAfterTable, UnsupportedNone, Custom}
use Rattle.basic_toml_write.specs.declared.error.WriteError.TheVariants.{DuplicateKey, CallOrder, NestedTooDeeply}
use Rattle.basic_toml_write.specs.declared.error.WriteError.TheVariants.{OutOfMemory}
use Rattle.basic_toml_error.specs.Fault.{Fault, without_offset, want_of_memory, out_of_memory, nested_too_deeply}
use Rattle.basic_toml_error.specs.WriteFaults.{write_kind}
use Rattle.basic_toml.specs.Ser.{Writes, CallsGrow}

-- one error of the writer alone is named want of memory
kind_is : (w : WriteError) → write_kind w ≡ out_of_memory → w ≡ OutOfMemory
kind_is UnsupportedType e = absurd (cc)
kind_is KeyNotString e = absurd (cc)
kind_is ValueAfterTable e = absurd (cc)
kind_is UnsupportedNone e = absurd (cc)
kind_is (Custom m) e = absurd (cc)
kind_is (DuplicateKey k) e = absurd (cc)
kind_is CallOrder e = absurd (cc)
kind_is NestedTooDeeply e = absurd (cc)
kind_is OutOfMemory e = cc

pub named_cause : (calls : List Item) (w : WriteError) (f : Fault) → HasCause calls w
    → f ≡ without_offset (write_kind w) → CallsGrow calls f
named_cause calls w f cause named = λ wanted. cause (kind_is w (ap (λ g. g.kind) (sym named ∙ wanted)))

-- where there is a text, the calls have grown it
pub text_has_grown : {A : Type 0} (calls : List Item) (gives_up : List Item → WriteError → Type 0) (s : String Global)
    (r : Result A Fault) → Writes calls gives_up (Ok s) → IfErr r (CallsGrow calls)
text_has_grown calls gives_up s (Ok x) written = tt
text_has_grown calls gives_up s (Err f) written =
    λ wanted. spelled_grow nesting_limit calls written.text.value written.text.spelled written.text.supported

-- a table that is too deep wants no memory
pub deep_wants_none : {P : Type 0} (f : Fault) → f ≡ without_offset nested_too_deeply → f ≡ want_of_memory → P
deep_wants_none f deep wanted =
    let never : nested_too_deeply ≡ out_of_memory = ap (λ g. g.kind) (sym deep ∙ wanted) in absurd (cc)
