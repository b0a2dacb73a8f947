-- What each form of the code's values stands for.
use Rattle.basic_toml_read.proofs.Common.{◌≡◌, ℕ, List, [], ◌∷◌, ◌++◌, sym, ◌∙◌, length, map, Vec, Global, refl, rules}
use Rattle.basic_toml_read.proofs.Common.{append_assoc, append-nil, drop-append_seam, take-append_seam, map-append}
use Rattle.basic_toml_read.proofs.Common.{length-map, KeyText, the_lemmas, Element, out-Element, roll-Row}
use Rattle.basic_toml_read.proofs.Common.{key_text_bytes, key_of, raw_of, placed_of, elements_view, Lines, no_lines}
use Rattle.basic_toml_read.proofs.Common.{and_lines, lines_view}
use Rattle.basic_toml_grammar.specs.Sections as spec
use Rattle.basic_toml_read.specs.declared.section.Key as code_keys
use Rattle.basic_toml_read.specs.declared.section.Raw.{Raw, Array}
use Rattle.basic_toml_read.proofs.NextRow.{lined_is}

pub array_of : (v : Vec Element Global) → raw_of (Array v) ≡ spec.Raw.array (elements_view v.items)
array_of v = search (rules, the_lemmas)

pub placed_is : (e : Element)
    → placed_of e ≡ record { offset = (out-Element e).offset; value = raw_of (out-Element e).value }
placed_is e = search (rules, the_lemmas)

-- lines after others
pub lines_assoc : (a b c : Lines) → and_lines (and_lines a b) c ≡ and_lines a (and_lines b c)
lines_assoc a b c = simp append_assoc

pub lines_none : (a : Lines) → and_lines a no_lines ≡ a
lines_none a = rw (append-nil a.parents, append-nil a.rows) refl

-- a row before others, with its parents
pub row_before : (key : KeyText) (offset n start : ℕ) (value : Raw) (v : spec.Raw) (parents : List code_keys.Key)
    (rest : Lines)
    → raw_of value ≡ v → n ≡ length parents
    → lines_view (and_lines (record {
      parents = parents;
      rows = roll-Row (record { key = key; offset = offset; parents = n; start = start; value = value }) ∷ [];
    }) rest)
    ≡ spec.row (map key_of parents ++ record { offset = offset; text = key_text_bytes key } ∷ []) start v
    (lines_view rest)
row_before key offset n start value v parents rest e count =
    let counted : n ≡ length (map key_of parents) = count ∙ sym (length-map parents key_of) in
    rw (lined_is, map-append key_of parents rest.parents, counted, take-append_seam, drop-append_seam, e) refl
