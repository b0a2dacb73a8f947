-- Plain elements and simple rows, one after another: each of them is plain.
use Rattle.std.proofs.Common.{◌≡◌, ◌<◌, ℕ, Bool, true, List, ◌∷◌, length, get_or, map, Vec, Global, sym, ap, ◌∙◌, arith}
use Rattle.std.specs.List.{list_all}
use Rattle.std.proofs.lemmas.Bool.{and_parts}
use Rattle.std.proofs.lemmas.List.Folds.{list_all_at}
use Rattle.basic_toml_value.specs.Data.{items_of}
use Rattle.basic_toml_value.specs.View.{view}
use Rattle.basic_toml_value.specs.declared.value.Value.{Value}
use Rattle.basic_toml_value.proofs.Sizes.{data_size, items_size}
use Rattle.basic_toml_grammar.specs.Mentions.{finished}
use Rattle.basic_toml_read.specs.SectionView.{Placed}
use Rattle.basic_toml_read.specs.declared.section.Element.{Element, out-Element}
use Rattle.basic_toml_read.specs.declared.section.Row.{Row, out-Row}
use Rattle.basic_toml_plain.specs.Plain.{is_plain, is_plain_element, are_plain, are_simple, plain_data, element_data}
use Rattle.basic_toml_plain.proofs.PlainSeen.{element_is}
use Rattle.basic_toml_read.proofs.ViewsSeen.{placed_is}
use Rattle.basic_toml_plain.proofs.SimpleKeys.{simple_are_plain}
use Rattle.basic_toml_plain.proofs.DataParts.{items_size-rest}
use Rattle.basic_toml_plain.proofs.WhatIsLeft.{IsMovedSoFar}

-- the data of an element are those of its value
pub element_value : (e : Element) → element_data e ≡ plain_data (out-Element e).value
element_value e = ap (λ (p : Placed). finished p.value) (placed_is e)

-- the first of the elements that are left is plain, and smaller than all
pub element_left : {moved : Vec Value Global} {es rest all : List Element} {e : Element} → es ≡ e ∷ rest
    → IsMovedSoFar view element_data (λ e. is_plain_element e 0) moved es all
    → (is_plain (out-Element e).value 0 ≡ true)
    × (data_size (plain_data (out-Element e).value) < items_size (items_of (map element_data all)))
element_left {moved} {es} {rest} {all} {e} left so_far =
    let now = rw left at so_far in
    let less = items_size-rest (map view moved.items) element_data e rest all now.made in (
      sym (element_is e 0) ∙ (and_parts (is_plain_element e 0) (are_plain 0 rest) now.fit).0,
      omega (arith, less, ap data_size (element_value e)),
    )

-- one at an index
all_at : {A : Type 0} (p : A → Bool) (xs : List A) (i : ℕ) (x : A) → i < length xs → x ≡ get_or xs i x
    → list_all p xs ≡ true → p x ≡ true
all_at p xs i x within read all = ap p read ∙ grind (arith, list_all_at p xs i x within, all)

pub element_at : (es : List Element) (i : ℕ) (e : Element) → i < length es → e ≡ get_or es i e → are_plain 0 es ≡ true
    → is_plain (out-Element e).value 0 ≡ true
element_at es i e within read plain =
    sym (element_is e 0) ∙ all_at (λ e. is_plain_element e 0) es i e within read plain

pub row_at : (rs : List Row) (i : ℕ) (r : Row) → i < length rs → r ≡ get_or rs i r → are_simple 0 rs ≡ true
    → is_plain (out-Row r).value 0 ≡ true
row_at rs i r within read simple =
    all_at (λ r. is_plain (out-Row r).value 0) rs i r within read (simple_are_plain 0 rs simple)
