-- The items of a table, added one behind another.
use Rattle.std.proofs.Common.{◌≡◌, ◌≤◌, ◌<◌, ◌+◌, ℕ, zero, suc, List, [], ◌∷◌, ◌++◌, ap, sym, ◌∙◌, append_assoc, refl}
use Rattle.std.proofs.Common.{String, Global, string_bytes, length, get_or, drop, drop-cons, arith}
use Rattle.std.proofs.lemmas.List.{map-append, append-nil}
use Rattle.basic_toml_value.specs.Data.{array, table}
use Rattle.basic_toml_value.specs.Entries.{seen}
use Rattle.basic_toml_value.specs.Text.{text_bytes}
use Rattle.basic_toml_value.specs.View.{view, entries, items_view}
use Rattle.basic_toml_value.specs.declared.pairs.Pair.{Pair}
use Rattle.basic_toml_value.specs.declared.value.Value.{Value}
use Rattle.basic_toml_emit.specs.Items.{Item, open_array, open_table, close, field}
use Rattle.basic_toml_write.specs.Impls.{data_calls, items_calls, members_calls}
use Rattle.basic_toml_serde.specs.Listed.{item_of, listed}
use Rattle.basic_toml_serde.specs.declared.items.Item as code
use Rattle.basic_toml_serde.specs.declared.items.Item.TheVariants as it

pub one_listed : (item : code.Item) (old new : List code.Item) → new ≡ old ++ item ∷ []
    → listed new ≡ listed old ++ item_of item ∷ []
one_listed item old new pushed = ap listed pushed ∙ map-append item_of old (item ∷ [])

-- ---- elements and entries in turn

abbrev pub elements_from : ℕ → List Value → List Item
elements_from i values = items_calls (items_view (drop i values))

abbrev pub entries_from : ℕ → List (Pair Value) → List Item
entries_from i pairs = members_calls (entries (seen (drop i pairs)))

-- an item, and those of a value, are the first of what is left
first_listed : (now mid new : List code.Item) (mark : code.Item) (value rest : List Item)
    → mid ≡ now ++ mark ∷ [] → listed new ≡ listed mid ++ value
    → listed new ++ rest ≡ listed now ++ (item_of mark ∷ (value ++ rest))
first_listed now mid new mark value rest marked added =
    ap (λ l. l ++ rest) (added ∙ ap (λ l. l ++ value) (one_listed mark now mid marked))
    ∙ append_assoc (listed now ++ item_of mark ∷ []) value rest
    ∙ append_assoc (listed now) (item_of mark ∷ []) (value ++ rest)

pub element_listed : (now mid new : List code.Item) (all : List Item) (values : List Value) (i : ℕ) (value : Value)
    → i < length values → value ≡ get_or values i value → mid ≡ now ++ it.Element ∷ []
    → listed new ≡ listed mid ++ data_calls (view value) → listed now ++ elements_from i values ≡ all
    → listed new ++ elements_from (suc i) values ≡ all
element_listed now mid new all values i value within read marked added so_far =
    first_listed now mid new it.Element (data_calls (view value)) (elements_from (suc i) values) marked added
    ∙ ap (λ vs. listed now ++ items_calls (items_view vs))
    (ap (λ v. v ∷ drop (suc i) values) read ∙ sym (drop-cons values i value within))
    ∙ so_far

pub entry_listed : (now mid new : List code.Item) (all : List Item) (pairs : List (Pair Value)) (i : ℕ)
    (pair : Pair Value) (name : String Global)
    → i < length pairs → pair ≡ get_or pairs i pair → string_bytes name ≡ text_bytes pair.key
    → mid ≡ now ++ it.Field name ∷ [] → listed new ≡ listed mid ++ data_calls (view pair.value)
    → listed now ++ entries_from i pairs ≡ all → listed new ++ entries_from (suc i) pairs ≡ all
entry_listed now mid new all pairs i pair name within read same marked added so_far =
    first_listed now mid new (it.Field name) (data_calls (view pair.value)) (entries_from (suc i) pairs) marked added
    ∙ ap (λ k. listed now ++ (field k ∷ (data_calls (view pair.value) ++ entries_from (suc i) pairs))) same
    ∙ ap (λ ps. listed now ++ members_calls (entries (seen ps)))
    (ap (λ p. p ∷ drop (suc i) pairs) read ∙ sym (drop-cons pairs i pair within))
    ∙ so_far

dropped : {A : Type 0} (xs : List A) (i : ℕ) → length xs ≤ i → drop i xs ≡ []
dropped [] zero all = refl
dropped [] (suc i) all = refl
dropped (x ∷ xs) zero all = absurd (omega arith)
dropped (x ∷ xs) (suc i) all = dropped xs i (omega arith)

pub array_listed : (old begun now new : List code.Item) (values : List Value) (i : ℕ) → length values ≤ i
    → begun ≡ old ++ it.OpenArray ∷ []
    → listed now ++ elements_from i values ≡ listed begun ++ items_calls (items_view values)
    → new ≡ now ++ it.Close ∷ [] → listed new ≡ listed old ++ data_calls (array (items_view values))
array_listed old begun now new values i all opened so_far closed =
    let inside : List Item = items_calls (items_view values) in
    one_listed it.Close now new closed
    ∙ ap (λ l. l ++ close ∷ [])
    (sym (append-nil (listed now))
    ∙ ap (λ vs. listed now ++ items_calls (items_view vs)) (sym (dropped values i all))
    ∙ so_far
    ∙ ap (λ l. l ++ inside) (one_listed it.OpenArray old begun opened))
    ∙ append_assoc (listed old ++ open_array ∷ []) inside (close ∷ [])
    ∙ append_assoc (listed old) (open_array ∷ []) (inside ++ close ∷ [])

pub entries_listed : (old now : List code.Item) (pairs : List (Pair Value)) (i : ℕ) → length pairs ≤ i
    → listed now ++ entries_from i pairs ≡ listed old ++ members_calls (entries (seen pairs))
    → listed now ≡ listed old ++ members_calls (entries (seen pairs))
entries_listed old now pairs i all so_far =
    sym (append-nil (listed now))
    ∙ ap (λ ps. listed now ++ members_calls (entries (seen ps))) (sym (dropped pairs i all))
    ∙ so_far

pub table_listed : (old begun now new : List code.Item) (pairs : List (List ℕ × Value))
    → begun ≡ old ++ it.OpenTable ∷ [] → listed now ≡ listed begun ++ members_calls (entries pairs)
    → new ≡ now ++ it.Close ∷ [] → listed new ≡ listed old ++ data_calls (table (entries pairs))
table_listed old begun now new pairs opened added closed =
    let inside : List Item = members_calls (entries pairs) in
    one_listed it.Close now new closed
    ∙ ap (λ l. l ++ close ∷ []) (added ∙ ap (λ l. l ++ inside) (one_listed it.OpenTable old begun opened))
    ∙ append_assoc (listed old ++ open_table ∷ []) inside (close ∷ [])
    ∙ append_assoc (listed old) (open_table ∷ []) (inside ++ close ∷ [])
