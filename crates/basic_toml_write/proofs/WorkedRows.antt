-- The definitions on worked rows, by computing.
use Rattle.std.proofs.Common.{◌≡◌, ◌-◌, ℕ, suc, zero, List, [], ◌∷◌, ◌++◌, refl, true, false, Ok, Err}
use Rattle.std.specs.Prelude.{codes, pos, negsuc}
use Rattle.std.specs.Fmt.{digits}
use Rattle.basic_toml_layout.specs.Written.{integer, text, other_text, bytes, refused, Written, scalar, absent, array}
use Rattle.basic_toml_layout.specs.Written.{table, Elements, no_elements, element, Entries, no_entries, entry}
use Rattle.basic_toml_emit.specs.Items.{Item, a_scalar, an_absent, open_array, open_table, close, key, field}
use Rattle.basic_toml_emit.specs.Items.{some_prefix, value_prefix, element_prefix}
use Rattle.basic_toml_layout.specs.Layout.{layout}
use Rattle.basic_toml_value.specs.Nesting.{nesting_limit}
use Rattle.basic_toml_write.specs.Kept.{kept}
use Rattle.basic_toml_write.specs.Shapes.{is_unsupported}
use Rattle.basic_toml_emit.specs.Rules.{CallFault, unsupported_type, key_not_string, value_after_table}
use Rattle.basic_toml_emit.specs.Rules.{unsupported_none, call_order, nested_too_deeply, duplicate_key}
use Rattle.basic_toml_emit.specs.Calls.{outcome}

-- one list of items that spells a written value
abbrev mutual
  spelled : Written → List Item
  spelled (scalar l) = a_scalar l ∷ []
  spelled absent = an_absent ∷ []
  spelled (array es) = open_array ∷ (spelled_elements es ++ (close ∷ []))
  spelled (table es) = open_table ∷ (spelled_entries es ++ (close ∷ []))

  spelled_elements : Elements → List Item
  spelled_elements no_elements = []
  spelled_elements (element v es) = spelled v ++ spelled_elements es

  spelled_entries : Entries → List Item
  spelled_entries no_entries = []
  spelled_entries (entry k v es) = field k ∷ (spelled v ++ spelled_entries es)

-- lines of text, each with its line feed
abbrev lines : List (List ℕ) → List ℕ
lines [] = []
lines (l ∷ ls) = l ++ (10 ∷ lines ls)

abbrev int : ℕ → Written
int n = scalar (integer (pos n))

-- a table of one entry
abbrev one : List ℕ → Written → Written
one k v = table (entry k v no_entries)

-- a written value without an unsupported shape: its calls, its layout and that of what is kept of it are this text
abbrev IsWritten : Written → List ℕ → Type 0
IsWritten w out = (outcome nesting_limit (spelled w) ≡ Ok out) × (layout w ≡ out) × (layout (kept w) ≡ out)
    × (is_unsupported nesting_limit w ≡ false)

-- one with an unsupported shape, and the error that its calls meet
abbrev IsRefused : Written → CallFault → Type 0
IsRefused w e = (outcome nesting_limit (spelled w) ≡ Err e) × (is_unsupported nesting_limit w ≡ true)

abbrev AnswersError : List Item → CallFault → Type 0
AnswersError is e = outcome nesting_limit is ≡ Err e

-- Values with their texts.

empty : IsWritten (table no_entries) []
empty = (refl, refl, refl, refl)

-- keys stand in order, unsorted; a table that holds tables alone has no header; nested tables are written
keys_in_order : IsWritten
    (table (entry (codes "t") (int 1) (entry (codes "a") (one (codes "b") (one (codes "x") (int 1))) no_entries)))
    (lines (codes "t = 1" ∷ codes "[a.b]" ∷ codes "x = 1" ∷ []))
unfolding digits
keys_in_order = (refl, refl, refl, refl)

section_after_row : IsWritten
    (table (entry (codes "a") (int 1) (entry (codes "b") (one (codes "c") (scalar (text (codes "x")))) no_entries)))
    (lines (codes "a = 1" ∷ [] ∷ codes "[b]" ∷ codes "c = \"x\"" ∷ []))
unfolding digits
section_after_row = (refl, refl, refl, refl)

-- an element has its header, also where it holds tables alone
element_of_tables : IsWritten
    (one (codes "foo") (array (element (one (codes "bar") (one (codes "x") (int 1))) no_elements)))
    (lines (codes "[[foo]]" ∷ codes "[foo.bar]" ∷ codes "x = 1" ∷ []))
unfolding digits
element_of_tables = (refl, refl, refl, refl)

empty_key : IsWritten (one [] (int 1)) (lines (codes "\"\" = 1" ∷ []))
unfolding digits
empty_key = (refl, refl, refl, refl)

-- an absent entry is no repeat
absent_is_no_repeat : IsWritten (table (entry (codes "k") absent (entry (codes "k") (int 1) no_entries)))
    (lines (codes "k = 1" ∷ []))
unfolding digits
absent_is_no_repeat = (refl, refl, refl, refl)

empty_table : IsWritten (one (codes "a") (one (codes "b") (table no_entries))) (lines (codes "[a.b]" ∷ []))
empty_table = (refl, refl, refl, refl)

empty_table_after_row : IsWritten
    (table (entry (codes "t") (int 1) (entry (codes "a") (table no_entries) no_entries)))
    (lines (codes "t = 1" ∷ [] ∷ codes "[a]" ∷ []))
unfolding digits
empty_table_after_row = (refl, refl, refl, refl)

absent_before_table : IsWritten
    (one (codes "a") (table (entry (codes "x") absent (entry (codes "b") (one (codes "y") (int 1)) no_entries))))
    (lines (codes "[a.b]" ∷ codes "y = 1" ∷ []))
unfolding digits
absent_before_table = (refl, refl, refl, refl)

only_absent : IsWritten (one (codes "a") (one (codes "x") absent)) (lines (codes "[a]" ∷ []))
only_absent = (refl, refl, refl, refl)

two_tables : IsWritten (one (codes "a")
    (table (entry (codes "b") (one (codes "y") (int 1)) (entry (codes "c") (one (codes "z") (int 2)) no_entries))))
    (lines (codes "[a.b]" ∷ codes "y = 1" ∷ [] ∷ codes "[a.c]" ∷ codes "z = 2" ∷ []))
unfolding digits
two_tables = (refl, refl, refl, refl)

two_elements : IsWritten
    (one (codes "a") (array (element (table no_entries) (element (table no_entries) no_elements))))
    (lines (codes "[[a]]" ∷ [] ∷ codes "[[a]]" ∷ []))
two_elements = (refl, refl, refl, refl)

quoted_key : IsWritten (one (codes "a.b") (one (codes "c") (int 1))) (lines (codes "[\"a.b\"]" ∷ codes "c = 1" ∷ []))
unfolding digits
quoted_key = (refl, refl, refl, refl)

arrays_in_row : IsWritten
    (one (codes "k") (array (element (array no_elements)
    (element (array (element (int 1) (element (scalar (text (codes "a"))) no_elements))) no_elements))))
    (lines (codes "k = [[], [1, \"a\"]]" ∷ []))
unfolding digits
arrays_in_row = (refl, refl, refl, refl)

-- bytes are an array of integers
byte_array : IsWritten (one (codes "k") (scalar (bytes (1 ∷ 255 ∷ [])))) (lines (codes "k = [1, 255]" ∷ []))
unfolding digits
byte_array = (refl, refl, refl, refl)

-- `s = "\u007F\u0000\t"`: U+007F is escaped, and so are U+0000 and the tab
escaped : IsWritten (one (codes "s") (scalar (text (127 ∷ 0 ∷ 9 ∷ []))))
    (lines (codes "s = \"\\u007F\\u0000\\t\"" ∷ []))
escaped = (refl, refl, refl, refl)

two_records : IsWritten (table
    (entry (codes "user0") (one (codes "name") (scalar (text (codes "J"))))
    (entry (codes "user1") (one (codes "name") (scalar (text (codes "K")))) no_entries)))
    (lines (codes "[user0]" ∷ codes "name = \"J\"" ∷ [] ∷ codes "[user1]" ∷ codes "name = \"K\"" ∷ []))
two_records = (refl, refl, refl, refl)

list_of_records : IsWritten
    (one (codes "user") (array
    (element (one (codes "name") (scalar (text (codes "J"))))
    (element (one (codes "name") (scalar (text (codes "K")))) no_elements))))
    (lines (codes "[[user]]" ∷ codes "name = \"J\"" ∷ [] ∷ codes "[[user]]" ∷ codes "name = \"K\"" ∷ []))
list_of_records = (refl, refl, refl, refl)

empty_array_is_row : IsWritten
    (table (entry (codes "name") (scalar (text (codes "t")))
    (entry (codes "modules") (array no_elements)
    (entry (codes "packages") (array (element (one (codes "name") (scalar (text (codes "b")))) no_elements))
    no_entries)))) (lines (codes "name = \"t\"" ∷ codes "modules = []" ∷ [] ∷ codes "[[packages]]"
    ∷ codes "name = \"b\"" ∷ []))
empty_array_is_row = (refl, refl, refl, refl)

tables_in_elements : IsWritten
    (one (codes "a") (array (element (one (codes "b") (array (element (table no_entries) no_elements)))
    (element (one (codes "b") (one (codes "c") (table no_entries))) no_elements))))
    (lines (codes "[[a]]" ∷ codes "[[a.b]]" ∷ [] ∷ codes "[[a]]" ∷ codes "[a.b.c]" ∷ []))
tables_in_elements = (refl, refl, refl, refl)

largest : IsWritten (one (codes "k") (int 9223372036854775807)) (lines (codes "k = 9223372036854775807" ∷ []))
unfolding digits
largest = (refl, refl, refl, refl)

negative : IsWritten (one (codes "k") (scalar (integer (negsuc 9223372036854775807))))
    (lines (codes "k = -9223372036854775808" ∷ []))
unfolding digits
negative = (refl, refl, refl, refl)

-- Values with an unsupported shape, and the error that their calls meet.

root_is_no_table : IsRefused (array no_elements) unsupported_type
root_is_no_table = (refl, refl)

root_is_absent : IsRefused absent unsupported_none
root_is_absent = (refl, refl)

table_after_integer : IsRefused
    (one (codes "k") (array (element (int 1) (element (one (codes "x") (int 1)) no_elements)))) unsupported_type
table_after_integer = (refl, refl)

integer_after_table : IsRefused
    (one (codes "k") (array (element (one (codes "x") (int 1)) (element (int 1) no_elements)))) unsupported_type
integer_after_table = (refl, refl)

table_in_inner_array : IsRefused
    (one (codes "k") (array (element (array (element (one (codes "x") (int 1)) no_elements)) no_elements)))
    unsupported_type
table_in_inner_array = (refl, refl)

row_after_table : IsRefused
    (table (entry (codes "a") (one (codes "x") (int 1)) (entry (codes "b") (int 2) no_entries))) value_after_table
row_after_table = (refl, refl)

empty_array_after_tables : IsRefused
    (table (entry (codes "m") (array (element (one (codes "x") (int 1)) no_elements))
    (entry (codes "p") (array no_elements) no_entries))) value_after_table
empty_array_after_tables = (refl, refl)

-- an array does not end at an absent element
absent_element : IsRefused (one (codes "k") (array (element absent no_elements))) unsupported_none
absent_element = (refl, refl)

absent_after_element : IsRefused (one (codes "k") (array (element (int 1) (element absent no_elements))))
    unsupported_none
absent_after_element = (refl, refl)

repeated_key : IsRefused (table (entry (codes "k") (int 2) (entry (codes "k") (int 1) no_entries)))
    (duplicate_key (codes "k"))
repeated_key = (refl, refl)

unit : IsRefused (one (codes "k") (scalar refused)) unsupported_type
unit = (refl, refl)

above_largest : IsRefused (one (codes "k") (int 9223372036854775808)) unsupported_type
above_largest = (refl, refl)

-- Lists of calls.

no_call : AnswersError [] call_order
no_call = refl

end_alone : AnswersError (close ∷ []) call_order
end_alone = refl

table_left_open : AnswersError (open_table ∷ []) call_order
table_left_open = refl

value_without_key : AnswersError (open_table ∷ a_scalar (integer (pos 1)) ∷ []) call_order
value_without_key = refl

-- the order of the calls comes before the kind of the value
unit_without_key : AnswersError (open_table ∷ a_scalar refused ∷ []) call_order
unit_without_key = refl

end_after_key : AnswersError (open_table ∷ key ∷ a_scalar (text (codes "k")) ∷ close ∷ []) call_order
end_after_key = refl

table_after_end : AnswersError (open_table ∷ close ∷ open_table ∷ []) call_order
table_after_end = refl

array_at_start : AnswersError (open_array ∷ []) unsupported_type
array_at_start = refl

none_at_start : AnswersError (an_absent ∷ []) unsupported_none
none_at_start = refl

integer_as_key : AnswersError (open_table ∷ key ∷ a_scalar (integer (pos 1)) ∷ []) key_not_string
integer_as_key = refl

character_as_key : AnswersError (open_table ∷ key ∷ a_scalar (other_text (codes "a")) ∷ []) key_not_string
character_as_key = refl

value_prefix_without_key : AnswersError (open_table ∷ value_prefix ∷ []) call_order
value_prefix_without_key = refl

element_prefix_in_table : AnswersError (open_table ∷ element_prefix ∷ []) call_order
element_prefix_in_table = refl

field_in_array : AnswersError (open_table ∷ field (codes "k") ∷ open_array ∷ field (codes "k") ∷ []) call_order
field_in_array = refl

end_in_key_place : AnswersError (open_table ∷ key ∷ close ∷ []) call_order
end_in_key_place = refl

-- a type that makes two texts at a key: the second is the value
two_texts : outcome nesting_limit (open_table ∷ key ∷ a_scalar (text (codes "a")) ∷ a_scalar (text (codes "b"))
    ∷ close ∷ []) ≡ Ok (lines (codes "a = \"b\"" ∷ []))
two_texts = refl

row_after_tables : AnswersError (open_table ∷ field (codes "m") ∷ open_array ∷ open_table ∷ close ∷ close
    ∷ field (codes "p") ∷ open_array ∷ a_scalar (integer (pos 1)) ∷ []) value_after_table
row_after_tables = refl

row_after_nested_table : AnswersError (open_table ∷ field (codes "a") ∷ open_table ∷ field (codes "b") ∷ open_table
    ∷ close ∷ close ∷ field (codes "c") ∷ a_scalar (integer (pos 1)) ∷ []) value_after_table
row_after_nested_table = refl

-- the call order decides which error is named: here the array is a late row before it is a mixed array
mixed_array_named_by_the_late_row : AnswersError (open_table ∷ field (codes "a") ∷ open_table ∷ close
    ∷ field (codes "b") ∷ open_array ∷ a_scalar (integer (pos 1)) ∷ open_table ∷ []) value_after_table
mixed_array_named_by_the_late_row = refl

-- some-prefixes and value-prefixes before a repeated key
some_none_is_absent : outcome nesting_limit (open_table ∷ field (codes "k") ∷ a_scalar (integer (pos 1))
    ∷ field (codes "k") ∷ some_prefix ∷ an_absent ∷ close ∷ []) ≡ Ok (lines (codes "k = 1" ∷ []))
unfolding digits
some_none_is_absent = refl

-- The nesting limit, at a limit of 3 and at that of the definitions.

-- arrays, one within another
abbrev nested : ℕ → Written
nested zero = array no_elements
nested (suc n) = array (element (nested n) no_elements)

-- tables, one within another
abbrev sections : ℕ → Written
sections zero = table no_entries
sections (suc n) = one (codes "a") (sections n)

at_three : (outcome 3 (spelled (one (codes "a") (nested 1))) ≡ Ok (lines (codes "a = [[]]" ∷ [])))
    × (is_unsupported 3 (one (codes "a") (nested 1)) ≡ false)
at_three = (refl, refl)

above_three : (outcome 3 (spelled (one (codes "a") (nested 2))) ≡ Err nested_too_deeply)
    × (is_unsupported 3 (one (codes "a") (nested 2)) ≡ true)
above_three = (refl, refl)

sections_at_three : outcome 3 (spelled (sections 2)) ≡ Ok (lines (codes "[a.a]" ∷ []))
sections_at_three = refl

sections_above_three : outcome 3 (spelled (sections 3)) ≡ Err nested_too_deeply
sections_above_three = refl

-- bytes are an array
bytes_above_three : outcome 3
    (spelled (one (codes "a")
    (array (element (nested 0) (element (array (element (scalar (bytes [])) no_elements)) no_elements)))))
    ≡ Err nested_too_deeply
bytes_above_three = refl

at_limit : (is_unsupported nesting_limit (one (codes "a") (nested (nesting_limit - 2))) ≡ false)
    × (outcome nesting_limit (spelled (one (codes "a") (nested (nesting_limit - 2))))
    ≡ Ok (layout (one (codes "a") (nested (nesting_limit - 2)))))
at_limit = (refl, refl)

above_limit : IsRefused (one (codes "a") (nested (nesting_limit - 1))) nested_too_deeply
above_limit = (refl, refl)

sections_at_limit : (is_unsupported nesting_limit (sections (nesting_limit - 1)) ≡ false)
    × (outcome nesting_limit (spelled (sections (nesting_limit - 1))) ≡ Ok (layout (sections (nesting_limit - 1))))
sections_at_limit = (refl, refl)

sections_above_limit : IsRefused (sections nesting_limit) nested_too_deeply
sections_above_limit = (refl, refl)
