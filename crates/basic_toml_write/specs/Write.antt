-- What the text of a value is, by the items that it spells (own).
use Rattle.std.specs.Prelude.{◌≡◌, List, Result, Ok, IsOk, MatchResult, ◌⊎◌, ⊤, true, false, string_bytes, String}
use Rattle.std.specs.declared.alloc.Global.{Global}
use Rattle.basic_toml_layout.specs.Written.{Written}
use Rattle.basic_toml_emit.specs.Items.{Item}
use Rattle.basic_toml_write.specs.Recordable.{AreRecordable}
use Rattle.basic_toml_write.specs.Spelling.{Spells}
use Rattle.basic_toml_write.specs.Serializer.{ran}
use Rattle.basic_toml_layout.specs.Layout.{layout}
use Rattle.basic_toml_value.specs.Nesting.{nesting_limit}
use Rattle.basic_toml_write.specs.Shapes.{is_unsupported}
use Rattle.basic_toml_emit.specs.Rules.{CallFault, key_not_string, call_order}
use Rattle.basic_toml_emit.specs.Open.{fresh}
use Rattle.basic_toml_emit.specs.Calls.{outcome}
use Rattle.basic_toml_emit.specs.Growth.{items_grow}
use Rattle.basic_toml_write.specs.Error.{Names}
use Rattle.basic_toml_write.specs.declared.error.WriteError.{WriteError}
use Rattle.basic_toml_write.specs.declared.error.WriteError.TheVariants.{OutOfMemory}

-- an error of the type's own, with which it may give up after items of which none is refused
pub record IsOwnError (gives_up : List Item → WriteError → Type 0) (e : WriteError) : Type 0 where
  pub sent : List Item
  pub allowed : gives_up sent e
  pub recordable : AreRecordable sent
  pub unrefused : IsOk (ran sent)

-- the text that the items come to, each of which a call can record; or an error of the type's own, before any was met;
-- or the first error that is met
abbrev pub WritesOut : List Item → (List Item → WriteError → Type 0) → Result (String Global) WriteError → Type 0
WritesOut is gives_up r =
    MatchResult r
    (λ t. (outcome nesting_limit is ≡ Ok (string_bytes t)) × AreRecordable is)
    (λ e. IsOwnError gives_up e ⊎ Names e (outcome nesting_limit is))

-- a text is the layout of a written value that the items spell, which has no unsupported shape
abbrev pub IsLayout : List Item → Result (String Global) WriteError → Type 0
IsLayout is r =
    MatchResult r
    (λ t. (w : Written) × (Spells is w) × (is_unsupported nesting_limit w ≡ false) × (string_bytes t ≡ layout w))
    (λ e. ⊤)

-- where the items spell a written value without an unsupported shape, only memory or an error of the type's own stands
-- in the way of its layout
abbrev pub Succeeds : List Item → (List Item → WriteError → Type 0) → Result (String Global) WriteError → Type 0
Succeeds is gives_up r =
    (w : Written) → Spells is w → is_unsupported nesting_limit w ≡ false
    → MatchResult r (λ t. string_bytes t ≡ layout w) (λ e. IsOwnError gives_up e ⊎ (e ≡ OutOfMemory))

-- want of memory comes only where one of the items grows something
abbrev pub HasCause : List Item → WriteError → Type 0
HasCause is e = e ≡ OutOfMemory → items_grow fresh is ≡ true

-- an error that a list that spells a value may meet: none for the order of the calls, and none for a key that is no
-- text
abbrev pub IsFair : CallFault → Type 0
IsFair key_not_string = ⊥
IsFair call_order = ⊥
IsFair _ = ⊤

abbrev pub ComesInOrder : List Item → Type 0
ComesInOrder is = MatchResult (outcome nesting_limit is) (λ _. ⊤) IsFair
