-- Fields that are written one after another: what they leave for those behind them. (own)
-- What fields spell is said by what they put in front of whatever follows them.
use Rattle.std.specs.Prelude.{List, [], ◌∷◌, Result, Err, ⊤}
use Rattle.basic_toml_emit.specs.Items.{Item}
use Rattle.basic_toml_write.specs.Serializer.{NoFault, Sends}
use Rattle.basic_toml_write.specs.declared.error.WriteError.{WriteError}
use Rattle.basic_toml_write.specs.declared.serializer.Serializer.{Serializer}

-- what is sent after these is sent with them
pub record AreAdded (spells : List Item → List Item) (old new : Serializer) : Type 0 where
  pub next : (rest : List Item) (last : Serializer) (r : Result (Unit {0}) WriteError) → Sends rest NoFault new last r
      → Sends (spells rest) NoFault old last r

-- an error in these is one of all that would follow
pub record FailToBeAdded (spells : List Item → List Item) (old new : Serializer) (e : WriteError) : Type 0 where
  pub whole : (rest : List Item) → Sends (spells rest) NoFault old new (Err e)

-- All of these hold. Closed, so that to a proof about a record all of its fields are one thing.
unfoldable pub AllHold : List (Type 0) → Type 0
AllHold [] = ⊤
AllHold (P ∷ Ps) = P × AllHold Ps
