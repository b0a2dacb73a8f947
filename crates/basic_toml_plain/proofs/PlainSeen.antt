-- Plain values and their parts: what each form of a value says of whether it is plain, and what it is seen as.
use Rattle.std.proofs.Common.{◌≡◌, ℕ, ◌+◌, Bool, List, [], ◌∷◌, map, ap, ap₂, refl, ◌∙◌, rules, Vec, Global}
use Rattle.std.specs.Prelude.{◌&&◌, nat_lt, not}
use Rattle.std.proofs.lemmas.List.{length-map}
use Rattle.std.proofs.lemmas.List.Folds.{list_all-map}
use Rattle.basic_toml_value.specs.Data.{Data, item, items_of}
use Rattle.basic_toml_value.specs.Nesting.{nesting_limit}
use Rattle.basic_toml_index.specs.Keys.{is_among}
use Rattle.basic_toml_grammar.specs.Sections.{Key, row}
use Rattle.basic_toml_grammar.specs.Mentions.{finished, finished_elements}
use Rattle.basic_toml_read.specs.declared.section.Raw.{Array, Inline, the_lemmas}
use Rattle.basic_toml_read.specs.declared.section.Element.{Element, out-Element}
use Rattle.basic_toml_read.specs.declared.section.Row.{Row, out-Row}
use Rattle.basic_toml_read.specs.SectionView.{Lined, raw_of, elements_view, rows_seen}
use Rattle.basic_toml_read.proofs.NextRow.{lined_is, lone_row}
use Rattle.basic_toml_read.proofs.ViewsSeen.{array_of}
use Rattle.basic_toml_plain.specs.Plain.{Keyed, key_of, keyed_of, is_plain, is_plain_element, are_plain, are_simple}
use Rattle.basic_toml_plain.specs.Plain.{are_few_simple, plain_table, plain_data, element_data}

-- an element
pub element_is : (e : Element) (l : ℕ) → is_plain_element e l ≡ is_plain (out-Element e).value l
element_is e l = search (rules, the_lemmas)

-- a row
pub keyed_is : (r : Row) → keyed_of r ≡ record { key = key_of r; plain = is_plain (out-Row r).value }
keyed_is r = search (rules, the_lemmas)

keys_same : (rs : List Row) → map (λ (k : Keyed). k.key) (map keyed_of rs) ≡ map key_of rs
keys_same [] = refl
keys_same (r ∷ rs) = ap₂ (λ (k : List ℕ) ks. k ∷ ks) (ap (λ (k : Keyed). k.key) (keyed_is r)) (keys_same rs)

pub simple_step : (l : ℕ) (r : Row) (rs : List Row)
    → are_simple l (r ∷ rs)
    ≡ ((is_plain (out-Row r).value l && not (is_among (map key_of rs) (key_of r))) && are_simple l rs)
simple_step l r rs = rw (keyed_is r, keys_same rs) refl

-- an array
pub array_is : (es : Vec Element Global) (l : ℕ)
    → is_plain (Array es) l ≡ (nat_lt l nesting_limit && are_plain (l + 1) es.items)
array_is es l = search (rules, the_lemmas, list_all-map {X = ℕ → Bool})

pub elements_finished : (es : List Element) → finished_elements (elements_view es) ≡ items_of (map element_data es)
elements_finished [] = refl
elements_finished (e ∷ es) = ap (λ items. item (element_data e) items) (elements_finished es)

pub array_data : (es : Vec Element Global) → plain_data (Array es) ≡ Data.array (items_of (map element_data es.items))
array_data es = ap finished (array_of es) ∙ ap Data.array (elements_finished es.items)

-- an inline table
pub inline_is : (rs : Vec Row Global) (l : ℕ)
    → is_plain (Inline rs) l ≡ (nat_lt l nesting_limit && are_few_simple (l + 1) rs.items)
inline_is rs l = search (rules, the_lemmas, length-map {0, 0})

pub inline_of : (rs : Vec Row Global) → raw_of (Inline rs) ≡ plain_table rs.items
inline_of rs = search (rules, the_lemmas)

-- the key of a row without parents
abbrev pub lone_key : Row → Key
lone_key r = record { offset = (out-Row r).offset; text = key_of r }

-- a row before others
pub lone_first : (r : Row) (rs : List Row)
    → rows_seen [] (r ∷ rs) ≡ row (lone_key r ∷ []) (out-Row r).start (raw_of (out-Row r).value) (rows_seen [] rs)
lone_first r rs =
    lone_row r rs ∙ ap (λ (l : Lined). row (l.key ∷ []) l.start l.value (rows_seen [] rs)) (lined_is r)
