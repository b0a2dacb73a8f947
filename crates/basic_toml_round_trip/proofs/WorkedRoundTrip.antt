-- A worked value: the calls that spell it, its text, and what the text means. An absent option is left out; a table and
-- an array of tables are sections.
use Rattle.std.proofs.Common.{◌≡◌, ℕ, List, [], ◌∷◌, ◌++◌, codes, pos, refl, subst, arith, ◌<◌, true, encode_utf8_all}
use Rattle.std.specs.Prelude.{All}
use Rattle.std.specs.Str.{IsUtf8}
use Rattle.std.specs.Fmt.{digits}
use Rattle.std.proofs.lemmas.List.Elements.{All-nil, All-cons, All-from_recursion}
use lib.Utf8.{encode, scalars}
use Rattle.basic_toml_tokens.specs.Text.{folded}
use Rattle.basic_toml_value.specs.Data as d
use Rattle.basic_toml_value.specs.Data.{Data, items_of, members_of}
use Rattle.basic_toml_layout.specs.Written.{float, text, bytes, Written, scalar, absent, array, table, no_elements}
use Rattle.basic_toml_layout.specs.Written.{element, no_entries, entry}
use Rattle.basic_toml_emit.specs.Items.{Item, a_scalar, an_absent, open_array, open_table, close, field, some_prefix}
use Rattle.basic_toml_layout.specs.Layout.{layout}
use Rattle.basic_toml_write.specs.Spelling.{one_scalar, none, an_array, a_table, array_end, member, table_end}
use Rattle.basic_toml_write.specs.Spelling.{by_field, bare, with_some, Spells, root}
use Rattle.basic_toml_write.specs.Recordable.{IsRecordable, AreRecordable}
use Rattle.basic_toml_grammar.specs.Document.{IsDocument}
use Rattle.basic_toml_round_trip.proofs.LawsHold.{read_back}

-- {title: "x", size: none, owner: {since: some 1.0}, fruit: [{data: bytes [0, 255]}, {}]}
abbrev value : Written
value = table (entry (codes "title") (scalar (text (codes "x"))) (entry (codes "size") absent
    (entry (codes "owner") (table (entry (codes "since") (scalar (float (codes "1.0"))) no_entries))
    (entry (codes "fruit") (array (element (table (entry (codes "data") (scalar (bytes (0 ∷ 255 ∷ []))) no_entries))
    (element (table no_entries) no_elements))) no_entries))))

abbrev calls : List Item
calls =
    open_table ∷ field (codes "title") ∷ a_scalar (text (codes "x")) ∷ field (codes "size") ∷ an_absent
    ∷ field (codes "owner") ∷ open_table ∷ field (codes "since") ∷ some_prefix ∷ a_scalar (float (codes "1.0")) ∷ close
    ∷ field (codes "fruit") ∷ open_array ∷ open_table ∷ field (codes "data") ∷ a_scalar (bytes (0 ∷ 255 ∷ [])) ∷ close
    ∷ open_table ∷ close ∷ close ∷ close ∷ []

spelled : Spells calls value
spelled =
    root (a_table (by_field (bare one_scalar) (by_field (bare none)
    (by_field (bare (a_table (by_field (with_some (bare one_scalar)) table_end)))
    (by_field (bare (an_array (member (a_table (by_field (bare one_scalar) table_end))
    (member (a_table table_end) array_end)))) table_end)))))

-- item by item
data Each : List Item → Type 0 where
  last : Each []
  also : {i : Item} {is : List Item} → IsRecordable i → Each is → Each (i ∷ is)

each : {is : List Item} → Each is → AreRecordable is
each last = All-nil IsRecordable
each (also {i = i} {is = is} one others) = All-cons IsRecordable i is one (each others)

-- texts and keys are UTF-8, the float is its own reading, and bytes are below 256
small : All (λ n. n < 256) (0 ∷ 255 ∷ [])
small = All-from_recursion (λ n. n < 256) (0 ∷ 255 ∷ []) (omega arith, (omega arith, tt))

recorded : Each calls
unfolding encode
recorded =
    let k : (cs : List ℕ) → scalars cs ≡ true → encode_utf8_all cs ≡ cs → IsUtf8 cs = λ cs s e. (cs, (s, e)) in
    also tt (also (k (codes "title") refl refl) (also (k (codes "x") refl refl) (also (k (codes "size") refl refl)
    (also tt (also (k (codes "owner") refl refl) (also tt (also (k (codes "since") refl refl) (also tt (also refl
    (also tt (also (k (codes "fruit") refl refl) (also tt (also tt (also (k (codes "data") refl refl) (also small
    (also tt (also tt (also tt (also tt (also tt last))))))))))))))))))))

abbrev lines : List (List ℕ) → List ℕ
lines [] = []
lines (l ∷ ls) = l ++ 10 ∷ lines ls

abbrev written : List ℕ
written = lines (codes "title = \"x\"" ∷ codes "" ∷ codes "[owner]" ∷ codes "since = 1.0" ∷ codes "" ∷ codes "[[fruit]]"
    ∷ codes "data = [0, 255]" ∷ codes "" ∷ codes "[[fruit]]" ∷ [])

text_of : layout value ≡ written
unfolding digits
text_of = refl

-- what the text means
abbrev bytes_tree : Data
bytes_tree = d.array (items_of (d.integer (pos 0) ∷ d.integer (pos 255) ∷ []))

abbrev tree : Data
tree = d.table (members_of (
    (codes "title", d.string (codes "x"))
    ∷ (codes "owner", d.table (members_of ((codes "since", d.float (codes "1.0")) ∷ [])))
    ∷ (
      codes "fruit",
      d.array (items_of (
          d.table (members_of ((codes "data", bytes_tree) ∷ [])) ∷ d.table (members_of []) ∷ [])),
    ) ∷ []))

means : IsDocument (folded written) tree
means = subst (λ t. IsDocument (folded t) tree) text_of (read_back calls value spelled (each recorded) refl)
