-- The next of a table's rows, with its parents.
use Rattle.basic_toml_read.proofs.Common.{◌≡◌, ℕ, ◌+◌, ◌<◌, List, [], ◌∷◌, ◌++◌, drop, take, length, get_or, map, refl}
use Rattle.basic_toml_read.proofs.Common.{ap, ◌-◌, ◌≤◌, arith, rules, length-drop, Rows, row, the_lemmas, Row, out-Row}
use Rattle.basic_toml_read.proofs.Common.{key_text_bytes, key_of, raw_of, lined_of, rows_from, drop-append_seam}
use Rattle.basic_toml_read.specs.declared.section.Key as code_keys
use Rattle.std.proofs.lemmas.List.{drop_more, take_rest, take-map, drop-map, take-append-drop}
use lib.Seq.{take-nil, drop-nil}

pub lined_is : (r : Row) → lined_of r ≡ record {
  key = record { offset = (out-Row r).offset; text = key_text_bytes (out-Row r).key };
  parents = (out-Row r).parents;
  start = (out-Row r).start;
  value = raw_of (out-Row r).value;
}
lined_is r = search (rules, the_lemmas)

-- the row, and those after it
abbrev pub and_rows : List code_keys.Key → Row → List Row → Rows
and_rows parents r rest =
    row (map key_of (take (out-Row r).parents parents) ++ (lined_of r).key ∷ []) (lined_of r).start (lined_of r).value
    (rows_from (map key_of (drop (out-Row r).parents parents)) (map lined_of rest))

pub first_row : (parents : List code_keys.Key) (r : Row) (rest : List Row)
    → rows_from (map key_of parents) (map lined_of (r ∷ rest)) ≡ and_rows parents r rest
first_row parents r rest =
    rw (lined_is r, take-map key_of (out-Row r).parents parents, drop-map key_of (out-Row r).parents parents) refl

-- where there are no parents
pub lone_row : (r : Row) (rest : List Row)
    → rows_from [] (map lined_of (r ∷ rest))
    ≡ row ((lined_of r).key ∷ []) (lined_of r).start (lined_of r).value (rows_from [] (map lined_of rest))
lone_row r rest = rw (take-nil, drop-nil) refl

-- the row at a number
pub next_row : (parents : List code_keys.Key) (rows : List Row) (i : ℕ) (r : Row) → i < length rows
    → r ≡ get_or rows i r
    → rows_from (map key_of parents) (map lined_of (drop i rows)) ≡ and_rows parents r (drop (i + 1) rows)
next_row parents rows i r within is =
    rw (drop_more rows i r within, ← is) (first_row parents r (drop (i + 1) rows))

-- the parents that are left for the rows after it
pub parents_left : (n : ℕ) (parents own : List code_keys.Key) → own ≡ take n parents
    → (length (take (length parents - length own) (drop (length own) parents)) ≤ length parents)
    × (drop n parents ≡ take (length parents - length own) (drop (length own) parents))
parents_left n parents own is =
    let rest = take_rest parents (length own) in
    let seam = drop-append_seam (take n parents) (drop n parents) in (
      omega (arith, ap length rest, length-drop (length own) parents),
      cc (take-append-drop n parents),
    )
