-- What stands at the front of a text, of each kind of thing: as `Reader` computes it, with as many steps as any text
-- of that length takes.
use Rattle.std.specs.Prelude.{suc, ◌+◌, ◌*◌, List, length, Option}
use Rattle.basic_toml_tokens.specs.Text.{Text}
use Rattle.basic_toml_grammar.specs.Sections.{Key, Elements, Rows, Section}
use Rattle.basic_toml_grammar.specs.Reader.{Valued, Assigned, Headed, keys_at, value_at, elements_at, fields_at}
use Rattle.basic_toml_grammar.specs.Reader.{fields_on_at, row_at, rows_at, header_at, sections_at}

unfoldable pub keys_of : Text → Option (List Key × Text)
keys_of text = keys_at (suc (length text)) text

unfoldable pub value_of : Text → Option Valued
value_of text = value_at (4 * length text + 1) text

unfoldable pub elements_of : Text → Option (Elements × Text)
elements_of text = elements_at (4 * length text + 2) text

unfoldable pub fields_of : Text → Option (Rows × Text)
fields_of text = fields_at (4 * length text + 3) text

unfoldable pub fields_on_of : Text → Option (Rows × Text)
fields_on_of text = fields_on_at (4 * length text + 2) text

unfoldable pub row_of : Text → Option Assigned
row_of text = row_at (4 * length text + 1) text

unfoldable pub rows_of : Text → Option (Rows × Text)
rows_of text = rows_at (4 * length text + 3) text

unfoldable pub header_of : Text → Option Headed
header_of text = header_at (suc (length text)) text

unfoldable pub sections_of : Text → Option (List Section)
sections_of text = sections_at (4 * length text + 3) text
