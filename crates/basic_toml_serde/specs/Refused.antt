-- Which item of a list is refused. (own)
use Rattle.std.specs.Prelude.{◌≡◌, List, ◌∷◌, [], ◌++◌, Bool, true, false, IsOk, MatchOption, ⊤, map, string_bytes}
use Rattle.basic_toml_emit.specs.Items.{Item}
use Rattle.basic_toml_write.specs.Error.{Names}
use Rattle.basic_toml_write.specs.Serializer.{ran, HasRecorded, error_of}
use Rattle.basic_toml_write.specs.declared.serializer.Serializer.{Serializer}
use Rattle.basic_toml_serde.specs.KeysTo.{keys_to}
use Rattle.basic_toml_serde.specs.Recorded.{Records}
use Rattle.basic_toml_serde.specs.declared.refused.Refusal.{Refusal}

-- a serializer that had taken a list keeps the error that is due with this item, if it keeps one
pub record Refuses (item : Item) (old new : Serializer) : Type 0 where
  pub due : (before : List Item) → HasRecorded old before
      → MatchOption (error_of new) ⊤ (λ e. Names e (ran (before ++ item ∷ [])))

-- whether it takes the item
abbrev pub TakesIf : Bool → Item → Serializer → Serializer → Type 0
TakesIf true item old new = Records HasRecorded (item ∷ []) old new
TakesIf false item old new = Refuses item old new

-- one of the items, behind some that are all taken
pub record Place (items : List Item) : Type 0 where
  pub before : List Item
  pub item : Item
  pub rest : List Item
  pub split : items ≡ before ++ item ∷ rest
  pub taken : IsOk (ran before)

-- One of the items is the first that is refused, as the error names it, and the keys lead to it.
pub record IsFirstRefused (items : List Item) (refusal : Refusal) : Type 0 where
  pub place : Place items
  pub met : Names refusal.error (ran (place.before ++ place.item ∷ []))
  pub keys : map string_bytes refusal.keys.items ≡ keys_to place.before
