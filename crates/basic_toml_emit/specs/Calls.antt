-- What the calls of a serializer do (own). An item that no rule refuses is taken: it changes the text and what is open.
-- A header is written when the first present entry shows that it is due, or at the end of its table; the opening
-- bracket of an array at its first element that is no table, or at its end where it is empty.
use Rattle.std.specs.Prelude.{ℕ, Bool, true, false, List, [], ◌∷◌, ◌++◌, Option, is_some, unwrap_or, Result}
use Rattle.std.specs.Prelude.{Ok, Err}
use Rattle.basic_toml_tokens.specs.Ascii as ascii
use Rattle.basic_toml_layout.specs.Written.{Scalar, text}
use Rattle.basic_toml_emit.specs.Items.{Item, a_scalar, an_absent, open_array, open_table, close, key, field}
use Rattle.basic_toml_layout.specs.Texts.{written_scalar, comma}
use Rattle.basic_toml_layout.specs.Layout.{table_header, element_header, row_start}
use Rattle.basic_toml_emit.specs.Open.{Header, settled, due, Stage, no_key, key_place, key_set, ElementKind, unknown}
use Rattle.basic_toml_emit.specs.Open.{tables, others, OpenTable, entered, with_settled, with_section}
use Rattle.basic_toml_emit.specs.Open.{Frame, a_table, an_array, new_table, State, state, fresh}
use Rattle.basic_toml_emit.specs.Rules.{CallFault, call_order, place_of, rules, first_fault}

abbrev pub last_key : Option (List ℕ) → List ℕ
last_key l = unwrap_or l []

-- the keys to the innermost table, the last first
abbrev pub path : List Frame → List (List ℕ)
path [] = []
path (a_table _ t ∷ fs) = last_key t.last ∷ path fs
path (an_array _ _ ∷ fs) = path fs

-- the header of a table that stands in these frames
abbrev pub header_text : Header → List Frame → List ℕ
header_text settled fs = []
header_text (due is_later) fs = table_header is_later (path fs)

-- what stands before the first element of an array that is no table, and after the last
abbrev pub array_start : List Frame → List ℕ
array_start (a_table _ t ∷ fs) = header_text t.header fs ++ (row_start (last_key t.last) ++ (ascii.left_bracket ∷ []))
array_start _ = ascii.left_bracket ∷ []

abbrev pub array_end : List Frame → List ℕ
array_end (a_table _ _ ∷ _) = ascii.right_bracket ∷ ascii.line_feed ∷ []
array_end _ = ascii.right_bracket ∷ []

-- the frames below an array, once it is known not to hold tables, and once it is known to
abbrev pub with_row : List Frame → List Frame
with_row (a_table s t ∷ fs) = a_table s (with_settled t) ∷ fs
with_row fs = fs

abbrev pub with_sections : List Frame → List Frame
with_sections (a_table s t ∷ fs) = a_table s (with_section t) ∷ fs
with_sections fs = fs

abbrev pub is_nothing_open : List Frame → Bool
is_nothing_open [] = true
is_nothing_open (_ ∷ _) = false

-- the key of a text
abbrev pub with_text : Scalar → Stage → Stage
with_text (text k) s = key_set k
with_text _ s = s

abbrev pub at_start : List ℕ → Bool → Item → State
at_start t d open_table = state t (new_table settled ∷ []) d
at_start t d _ = state t [] d

abbrev pub in_table : Bool → List ℕ → OpenTable → List Frame → Item → State
in_table d t table fs close = state (t ++ header_text table.header fs) fs (is_nothing_open fs)
in_table d t table fs key = state t (a_table key_place table ∷ fs) d
in_table d t table fs (field k) = state t (a_table (key_set k) table ∷ fs) d
in_table d t table fs _ = state t (a_table no_key table ∷ fs) d

abbrev pub at_key : Bool → List ℕ → OpenTable → List Frame → Item → State
at_key d t table fs (a_scalar v) = state t (a_table (with_text v key_place) table ∷ fs) d
at_key d t table fs _ = state t (a_table key_place table ∷ fs) d

abbrev pub at_value : Bool → List ℕ → List ℕ → OpenTable → List Frame → Item → State
at_value d t k table fs (a_scalar v) =
    state (t ++ (header_text table.header fs ++ (row_start k ++ (written_scalar v ++ (ascii.line_feed ∷ [])))))
    (a_table no_key (with_settled (entered k table)) ∷ fs) d
at_value d t k table fs an_absent = state t (a_table no_key table ∷ fs) d
at_value d t k table fs open_array =
    state t (an_array unknown (is_some table.last) ∷ a_table no_key (entered k table) ∷ fs) d
at_value d t k table fs open_table =
    state t (new_table (due (is_some table.last)) ∷ a_table no_key (with_section (entered k table)) ∷ fs) d
at_value d t k table fs _ = state t (a_table (key_set k) table ∷ fs) d

abbrev pub in_array : Bool → List ℕ → ElementKind → Bool → List Frame → Item → State
in_array d t unknown later fs (a_scalar v) =
    state (t ++ (array_start fs ++ written_scalar v)) (an_array others later ∷ with_row fs) d
in_array d t others later fs (a_scalar v) = state (t ++ (comma ++ written_scalar v)) (an_array others later ∷ fs) d
in_array d t unknown later fs open_array =
    state (t ++ array_start fs) (an_array unknown later ∷ an_array others later ∷ with_row fs) d
in_array d t others later fs open_array = state (t ++ comma) (an_array unknown later ∷ an_array others later ∷ fs) d
in_array d t unknown later fs open_table =
    state (t ++ element_header later (path fs)) (new_table settled ∷ an_array tables later ∷ with_sections fs) d
in_array d t tables later fs open_table =
    state (t ++ element_header true (path fs)) (new_table settled ∷ an_array tables later ∷ fs) d
in_array d t unknown later fs close = state (t ++ (array_start fs ++ array_end fs)) (with_row fs) d
in_array d t others later fs close = state (t ++ array_end fs) fs d
in_array d t tables later fs close = state t fs d
in_array d t kind later fs _ = state t (an_array kind later ∷ fs) d

-- what an item that is taken changes
abbrev pub taken : List ℕ → List Frame → Bool → Item → State
taken t [] d i = at_start t d i
taken t (a_table no_key table ∷ fs) d i = in_table d t table fs i
taken t (a_table key_place table ∷ fs) d i = at_key d t table fs i
taken t (a_table (key_set k) table ∷ fs) d i = at_value d t k table fs i
taken t (an_array kind later ∷ fs) d i = in_array d t kind later fs i

abbrev pub step : ℕ → List ℕ → List Frame → Bool → Item → Result State CallFault
step limit t fs d i = first_fault (rules limit (place_of fs d) fs i) (Ok (taken t fs d i))

abbrev pub after : ℕ → State → Item → Result State CallFault
after limit s i = step limit s.text s.open_frames s.is_done i

abbrev pub on_ok : {A B : Type 0} → (A → Result B CallFault) → Result A CallFault → Result B CallFault
on_ok f (Ok a) = f a
on_ok f (Err e) = Err e

-- the items of a list in turn; the first error stands
abbrev pub run : ℕ → State → List Item → Result State CallFault
run limit s [] = Ok s
run limit s (i ∷ is) = on_ok (λ s'. run limit s' is) (after limit s i)

-- the text, where the value is whole
abbrev pub hand_out : List ℕ → List Frame → Bool → Result (List ℕ) CallFault
hand_out t [] true = Ok t
hand_out t _ _ = Err call_order

abbrev pub finished : State → Result (List ℕ) CallFault
finished s = hand_out s.text s.open_frames s.is_done

-- what a list of calls comes to
abbrev pub outcome : ℕ → List Item → Result (List ℕ) CallFault
outcome limit is = on_ok finished (run limit fresh is)
