-- How many parts a value has at all depths, of those that are looked through to tell whether it is plain.
use Rattle.std.proofs.Common.{◌≡◌, ℕ, ◌+◌, ◌<◌, List, length, map, get_or, sum, ap, arith, rules}
use Rattle.std.proofs.lemmas.List.Sums.{get_or-le-sum_by, sum-map}
use Rattle.basic_toml_read.specs.declared.section.Raw.{Raw, fold-Raw, the_lemmas}
use Rattle.basic_toml_read.specs.declared.section.Raw.TheOpen.{Raw-F, Element-F, Row-F, Rows-F}
use Rattle.basic_toml_read.specs.declared.section.Element.{Element, out-Element, fold-Element}
use Rattle.basic_toml_read.specs.declared.section.Row.{Row, fold-Row}

-- one level, the parts seen already
abbrev raw_parts : Raw-F ℕ ℕ ℕ ℕ → ℕ
raw_parts (Raw-F.Array es) = sum es.items + 3
raw_parts (Raw-F.Inline rs) = sum rs.items + 3
raw_parts _ = 0

abbrev element_parts : Element-F ℕ ℕ ℕ ℕ → ℕ
element_parts e = e.value + 1

abbrev row_parts : Row-F ℕ ℕ ℕ ℕ → ℕ
row_parts r = r.value + 1

abbrev rows_parts : Rows-F ℕ ℕ ℕ ℕ → ℕ
rows_parts rs = 0

abbrev pub parts_of : Raw → ℕ
parts_of = fold-Raw ℕ ℕ ℕ ℕ raw_parts element_parts row_parts rows_parts

abbrev parts_of_element : Element → ℕ
parts_of_element = fold-Element ℕ ℕ ℕ ℕ raw_parts element_parts row_parts rows_parts

abbrev parts_of_row : Row → ℕ
parts_of_row = fold-Row ℕ ℕ ℕ ℕ raw_parts element_parts row_parts rows_parts

abbrev pub parts_of_elements : List Element → ℕ
parts_of_elements es = sum (map parts_of_element es)

abbrev pub parts_of_rows : List Row → ℕ
parts_of_rows rs = sum (map parts_of_row rs)

-- and elements more than each value among them
pub element_fewer : (es : List Element) (i : ℕ) (e : Element) → i < length es → e ≡ get_or es i e
    → parts_of (out-Element e).value < parts_of_elements es
element_fewer es i e within is =
    let parts : parts_of_element e ≡ parts_of (out-Element e).value + 1 = search (rules, the_lemmas) in
    let whole = sum-map parts_of_element es in
    omega (arith, parts, ap parts_of_element is, get_or-le-sum_by parts_of_element es i e within, whole)
