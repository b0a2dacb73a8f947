-- The keys that lead to the item that stands behind others. (own)
-- Each array and table that is open has a stage. That of a table says how far its entry has come: no key, the place of
-- a key, or a key that is set, whose value comes or is open itself. An array has no key.
use Rattle.std.specs.Prelude.{ℕ, Bool, true, false, List, [], ◌∷◌, reverse, fold}
use Rattle.std.specs.List.{flat_map}
use Rattle.basic_toml_layout.specs.Written.{text}
use Rattle.basic_toml_emit.specs.Items.{Item, a_scalar, open_array, open_table, close, key, field}
use Rattle.basic_toml_emit.specs.Items.{some_prefix, value_prefix, element_prefix}
use Rattle.basic_toml_emit.specs.Open.{Stage, no_key, key_place, key_set}

-- the innermost comes to another stage
abbrev pub with_stage : Stage → List Stage → List Stage
with_stage stage [] = []
with_stage stage (_ ∷ stages) = stage ∷ stages

abbrev pub is_key_place : List Stage → Bool
is_key_place (key_place ∷ _) = true
is_key_place _ = false

-- the innermost is closed, and so the value of the entry around it is whole
abbrev pub closed : List Stage → List Stage
closed [] = []
closed (_ ∷ stages) = with_stage no_key stages

-- a text is a key, where it stands in the place of one
abbrev pub text_stage : Bool → List ℕ → Stage
text_stage true k = key_set k
text_stage false k = no_key

-- the stages with one item more, the innermost first
abbrev pub stages_after : List Stage → Item → List Stage
stages_after stages open_array = no_key ∷ stages
stages_after stages open_table = no_key ∷ stages
stages_after stages close = closed stages
stages_after stages key = with_stage key_place stages
stages_after stages (field k) = with_stage (key_set k) stages
stages_after stages (a_scalar (text k)) = with_stage (text_stage (is_key_place stages) k) stages
stages_after stages some_prefix = stages
stages_after stages value_prefix = stages
stages_after stages element_prefix = stages
stages_after stages _ = with_stage no_key stages

-- the key that is set
abbrev pub key_of : Stage → List (List ℕ)
key_of (key_set k) = k ∷ []
key_of _ = []

-- the keys that are set, the outermost first
abbrev pub set_keys : List Stage → List (List ℕ)
set_keys stages = flat_map key_of (reverse stages)

-- those that lead to what stands behind these items
abbrev pub keys_to : List Item → List (List ℕ)
keys_to before = set_keys (fold stages_after [] before)
