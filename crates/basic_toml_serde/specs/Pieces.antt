-- The items of a piece. (own)
use Rattle.std.specs.Prelude.{pos, List, [], ◌∷◌, encode_utf8}
use Rattle.basic_toml_layout.specs.Written.{boolean, integer, float, text, other_text, bytes, refused}
use Rattle.basic_toml_emit.specs.Items.{Item, a_scalar, an_absent, open_array, open_table}
use Rattle.basic_toml_serde.specs.declared.piece.Piece.{Piece}
use Rattle.basic_toml_serde.specs.declared.piece.Piece.TheVariants as piece

abbrev pub items_of : Piece → List Item
items_of (piece.Boolean b) = a_scalar (boolean b) ∷ []
items_of (piece.Signed z) = a_scalar (integer z) ∷ []
items_of (piece.Unsigned n) = a_scalar (integer (pos n)) ∷ []
items_of (piece.Float f) = a_scalar (float f.now) ∷ []
items_of (piece.Text t) = a_scalar (text t.now) ∷ []
items_of (piece.Character c) = a_scalar (other_text (encode_utf8 c)) ∷ []
items_of (piece.VariantName t) = a_scalar (other_text t.now) ∷ []
items_of (piece.Octets bs) = a_scalar (bytes bs.now) ∷ []
items_of piece.Absent = an_absent ∷ []
items_of piece.OpensArray = open_array ∷ []
items_of piece.OpensTable = open_table ∷ []
items_of piece.NoForm = a_scalar refused ∷ []
