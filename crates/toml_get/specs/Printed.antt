-- What is printed of data. (own)
use Rattle.std.specs.Prelude.{ℕ, List, ◌++◌, codes, Option, Some, option_map}
use Rattle.basic_toml.specs.Data.{Data, string, table_in}
use Rattle.basic_toml.specs.DocumentText.{document_text, inline}
use Rattle.basic_toml.specs.DocumentText as texts
use Rattle.toml_get.specs.declared.format.Format.{Format}
use Rattle.toml_get.specs.declared.format.Format.TheVariants.{Plain, Json, Toml}
use Rattle.toml_json_text.specs.Json.{json}
use Rattle.toml_json_text.specs.declared.form.Form.TheVariants as form

-- a string without its quotes, anything else as it stands in a row
abbrev pub plain : Data → List ℕ
plain (string text) = text
plain d = inline d

-- a table as a document
abbrev pub document : Data → Option (List ℕ)
document d = option_map (document_text texts.plain) (table_in d)

abbrev pub printed : Format → Data → Option (List ℕ)
printed Plain d = Some (plain d ++ codes "\n")
printed Json d = Some (json form.Plain d ++ codes "\n")
printed Toml d = document d
