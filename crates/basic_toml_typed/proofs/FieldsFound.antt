-- What stands at a text's number stands at the text.
use Rattle.std.proofs.Common.{◌≡◌, ℕ, List, refl}
use Rattle.basic_toml_value.specs.Data.{Data, Members, no_members, member}
use Rattle.basic_toml_tree.specs.Nodes.{data_at, data_among}
use Rattle.basic_toml_typed.specs.FieldKeys.{text_number, member_at, child_at}
use Rattle.basic_toml_typed.proofs.TextNumbers.{number_test}

member_at_number : (members : Members) (key : List ℕ) → member_at members (text_number key) ≡ data_among members key
member_at_number no_members key = refl
member_at_number (member k d members) key = rw (number_test key k, member_at_number members key) refl

pub child_at_number : (d : Data) (key : List ℕ) → child_at (text_number key) d ≡ data_at d key
unfolding child_at
child_at_number (Data.integer _) key = refl
child_at_number (Data.float _) key = refl
child_at_number (Data.boolean _) key = refl
child_at_number (Data.string _) key = refl
child_at_number (Data.array _) key = refl
child_at_number (Data.table members) key = member_at_number members key
