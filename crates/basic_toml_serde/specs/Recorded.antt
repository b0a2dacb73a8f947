-- What a sink has taken. (own)
use Rattle.std.specs.Prelude.{List, ◌++◌}
use Rattle.basic_toml_emit.specs.Items.{Item}

-- a sink that had taken a list has these items behind it
pub record Records {S : Type 0} (has_recorded : S → List Item → Type 0) (sent : List Item) (old new : S) : Type 0 where
  pub more : (before : List Item) → has_recorded old before → has_recorded new (before ++ sent)
