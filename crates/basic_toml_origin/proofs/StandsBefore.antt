-- What stands before an offset, part by part.
use Rattle.std.proofs.Common.{◌≡◌, ℕ, zero, suc, ◌+◌, Bool, true, false, List, [], ◌∷◌, ◌++◌, Option, Some, None, refl}
use Rattle.std.proofs.Common.{ap, sym, ◌∙◌, arith, cond, drop, get_or, length, map, take}
use Rattle.std.specs.List.{prefix_len}
use Rattle.std.specs.Prelude.{if◌then◌else◌, nat_lt}
use Rattle.basic_toml_grammar.specs.Sections.{Key, Rows, no_rows, row, Section}
use Rattle.basic_toml_read.specs.declared.section.Key as code
use Rattle.basic_toml_read.specs.declared.section.Row.{Row, out-Row}
use Rattle.basic_toml_read.specs.SectionView.{key_of, lined_of, rows_from, Lined}
use Rattle.basic_toml_read.proofs.NextRow.{lined_is}
use Rattle.basic_toml_origin.specs.Before.{ends_before, ends_up_to, rows_before, rows_up_to, up_to}

-- the sections
pub one_before : (end : Option ℕ) (s : Section) (others : List Section) → ends_up_to end s.header ≡ true
    → up_to end (s ∷ others) ≡ record s { rows = rows_up_to end s.rows } ∷ up_to end others
one_before None s others before = refl
one_before (Some o) s others before =
    ap (λ b. if b then record s { rows = rows_before o s.rows } ∷ up_to (Some o) others else []) before

-- the rows of a section
pub rows_taken : (o : ℕ) (parents : List Key) (rows : List Row)
    → rows_from parents (map lined_of (take (prefix_len (λ row. nat_lt (out-Row row).start o) rows) rows))
    ≡ rows_before o (rows_from parents (map lined_of rows))
rows_taken o parents [] = refl
rows_taken o parents (r ∷ rows) =
    ap (λ n. rows_from parents (map lined_of (take (cond (nat_lt n o) (1 + count) 0) (r ∷ rows))))
    (sym (ap (λ (l : Lined). l.start) (lined_is r)))
    ∙ go (rows_taken o (drop (lined_of r).parents parents) rows) (nat_lt (lined_of r).start o)
  where
    count : ℕ
    count = prefix_len (λ row. nat_lt (out-Row row).start o) rows

    others : List Row → Rows
    others rs = rows_from (drop (lined_of r).parents parents) (map lined_of rs)

    onto : Rows → Rows
    onto rest =
        row (take (lined_of r).parents parents ++ (lined_of r).key ∷ []) (lined_of r).start (lined_of r).value rest

    go : others (take count rows) ≡ rows_before o (others rows) → (b : Bool)
        → rows_from parents (map lined_of (take (cond b (1 + count) 0) (r ∷ rows)))
        ≡ (if b then onto (rows_before o (others rows)) else no_rows)
    go e true =
        let one : 1 + count ≡ suc count = omega arith in
        ap (λ n. rows_from parents (map lined_of (take n (r ∷ rows)))) one ∙ ap onto e
    go e false = refl

-- its header, by the last key
pub last_ends : (o : ℕ) (keys : List code.Key) (n : ℕ) (k : code.Key) → n + 1 ≡ length keys → k ≡ get_or keys n k
    → nat_lt k.offset o ≡ ends_before o (map key_of keys)
last_ends o [] n k all is = absurd (omega (arith, all))
last_ends o (j ∷ []) zero k all is = ap (λ (k : code.Key). nat_lt k.offset o) is
last_ends o (j ∷ []) (suc n) k all is = absurd (omega (arith, all))
last_ends o (j ∷ l ∷ keys) zero k all is = absurd (omega (arith, all))
last_ends o (j ∷ l ∷ keys) (suc n) k all is = last_ends o (l ∷ keys) n k (omega (arith, all)) is
