-- Keys and values in characters: the same as in bytes, with the characters of each key and each string for its UTF-8.
use Rattle.std.specs.Prelude.{ℕ, List, map}
use Rattle.std.specs.Str.{chars}
use Rattle.basic_toml_value.specs.Data as d
use Rattle.basic_toml_value.specs.Data.{Data, Items, no_items, item, Members, no_members, member}
use Rattle.basic_toml_layout.specs.Texts.{written_key, joined}
use Rattle.basic_toml_layout.specs.Document.{inline, inline_items, more_items, inline_members, more_members}
use Rattle.basic_toml_grammar.specs.Sections.{KeyTexts}

abbrev mutual
  pub decoded : Data → Data
  decoded (d.integer z) = d.integer z
  decoded (d.float t) = d.float t
  decoded (d.boolean b) = d.boolean b
  decoded (d.string t) = d.string (chars t)
  decoded (d.array xs) = d.array (decoded_items xs)
  decoded (d.table ms) = d.table (decoded_members ms)

  pub decoded_items : Items → Items
  decoded_items no_items = no_items
  decoded_items (item x xs) = item (decoded x) (decoded_items xs)

  pub decoded_members : Members → Members
  decoded_members no_members = no_members
  decoded_members (member k x ms) = member (chars k) (decoded x) (decoded_members ms)

-- a key, and the keys of a path, which has its last key first
abbrev pub key_chars : List ℕ → List ℕ
key_chars k = written_key (chars k)

abbrev pub path_chars : KeyTexts → List ℕ
path_chars path = joined (map chars path)

-- a value of a row; the elements of an array, and those after one of them; and so those of an inline table
abbrev pub value_chars : Data → List ℕ
value_chars x = inline (decoded x)

abbrev pub items_chars : Items → List ℕ
items_chars xs = inline_items (decoded_items xs)

abbrev pub more_chars : Items → List ℕ
more_chars xs = more_items (decoded_items xs)

abbrev pub fields_chars : Members → List ℕ
fields_chars ms = inline_members (decoded_members ms)

abbrev pub more_fields_chars : Members → List ℕ
more_fields_chars ms = more_members (decoded_members ms)
