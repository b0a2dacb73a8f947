-- Sections whose rows stand in one list, one after another: what each of them takes of it.
use Rattle.std.proofs.Common.{◌≡◌, ℕ, ◌+◌, ◌≤◌, true, List, [], ◌∷◌, ◌++◌, length, take, drop, refl, ap, sym, ◌∙◌}
use Rattle.std.proofs.Common.{nat_eq, nat_le, zero, suc, Some, slice_get, arith, subst, length-append}
use Rattle.std.specs.List.{list_all}
use Rattle.std.proofs.lemmas.Bool.{and_parts, and_from}
use Rattle.std.proofs.lemmas.List.{drop-append-le, drop-drop, drop_all, length-drop, length_push, nil_from_length}
use Rattle.std.proofs.lemmas.List.{take-append-drop, take-append-le, take_all}
use Rattle.std.proofs.lemmas.List.Folds.{list_all-append}
use Rattle.basic_toml_read.specs.declared.section.Row.{Row, out-Row}
use Rattle.basic_toml_plain.specs.declared.section_rows.SectionRows.{SectionRows}
use Rattle.basic_toml_plain.specs.Plain.{are_few_simple, are_all_plain, is_plain}
use Rattle.basic_toml_plain.specs.PlainTables.{SectionTable, SectionTables, are_parts, parts, tables_in}
use Rattle.basic_toml_plain.proofs.SimpleKeys.{few_are_plain}

-- the first section takes the first of the rows, and the others those after them
pub record FirstPart (at : ℕ) (rows : List Row) (s : SectionRows) (ss : List SectionRows) : Type 0 where
  pub start : s.start ≡ at
  pub within : s.count ≤ length rows
  pub few : are_few_simple 0 (take s.count rows) ≡ true
  pub others : are_parts (at + s.count) (drop s.count rows) ss ≡ true

pub first_part : (at : ℕ) (rows : List Row) (s : SectionRows) (ss : List SectionRows)
    → are_parts at rows (s ∷ ss) ≡ true → FirstPart at rows s ss
first_part at rows s ss are =
    let a = and_parts _ _ are in
    let b = and_parts (nat_eq s.start at) _ a.0 in
    let c = and_parts (nat_le s.count (length rows)) _ b.1 in
    record { start = grind (arith, b.0); within = grind (arith, c.0); few = c.1; others = a.1 }

parts_from : (at : ℕ) (rows : List Row) (s : SectionRows) (ss : List SectionRows)
    → FirstPart at rows s ss → are_parts at rows (s ∷ ss) ≡ true
parts_from at rows s ss first =
    let start : nat_eq s.start at ≡ true = grind (arith, first.start) in
    let within : nat_le s.count (length rows) ≡ true = grind (arith, first.within) in
    and_from _ _ (and_from _ _ start (and_from _ _ within first.few)) first.others

no_rows : (at : ℕ) (rows : List Row) → are_parts at rows [] ≡ true → rows ≡ []
no_rows at rows are = nil_from_length rows (grind (arith, are))

-- no row of a part stands further on
pub parts_more : (at : ℕ) (rows more : List Row) (ss : List SectionRows) → are_parts at rows ss ≡ true
    → parts (rows ++ more) ss ≡ parts rows ss
parts_more at rows more [] are = refl
parts_more at rows more (s ∷ ss) are =
    let first = first_part at rows s ss are in
    rw (
      take-append-le s.count rows more first.within,
      drop-append-le s.count rows more first.within,
      parts_more (at + s.count) (drop s.count rows) more ss first.others,
    ) refl

-- one more section, with the rows that are put last
pub are_parts_push : (at : ℕ) (rows more : List Row) (ss : List SectionRows) (s : SectionRows)
    → are_parts at rows ss ≡ true → s.start ≡ at + length rows → s.count ≡ length more
    → are_few_simple 0 more ≡ true → are_parts at (rows ++ more) (ss ++ s ∷ []) ≡ true
are_parts_push at rows more [] s are start count few =
    let none = no_rows at rows are in
    rw none (parts_from at more s [] (record {
      start = omega (arith, ap length none);
      within = omega arith;
      few = rw (take_all s.count more (omega arith)) few;
      others = rw (drop_all s.count more (omega arith)) refl;
    }))
are_parts_push at rows more (t ∷ ss) s are start count few =
    let first = first_part at rows t ss are in
    parts_from at (rows ++ more) t (ss ++ s ∷ []) (record {
      start = first.start;
      within = omega (arith, length-append rows more);
      few = rw (take-append-le t.count rows more first.within) first.few;
      others =
          rw (drop-append-le t.count rows more first.within)
          (are_parts_push (at + t.count) (drop t.count rows) more ss s first.others
          (omega (arith, length-drop t.count rows)) count few);
    })

-- where the rows of a section stand
pub record StandsAt (at : ℕ) (rows : List Row) (ss : List SectionRows) (n : ℕ) (s : SectionRows) : Type 0 where
  pub from : ℕ
  pub start : s.start ≡ at + from
  pub within : from + s.count ≤ length rows
  pub table : slice_get (parts rows ss) n ≡ Some (s.section, take s.count (drop from rows))
  pub few : are_few_simple 0 (take s.count (drop from rows)) ≡ true

pub stands_at : (at : ℕ) (rows : List Row) (ss : List SectionRows) (n : ℕ) (s : SectionRows)
    → are_parts at rows ss ≡ true → slice_get ss n ≡ Some s → StandsAt at rows ss n s
stands_at at rows [] n s are there = absurd (cc)
stands_at at rows (t ∷ ss) zero s are there =
    let same : t ≡ s = cc in
    let first = first_part at rows t ss are in
    subst (λ s. StandsAt at rows (t ∷ ss) 0 s) same
    (record { from = 0; start = omega arith; within = omega arith; table = refl; few = first.few })
stands_at at rows (t ∷ ss) (suc n) s are there =
    let first = first_part at rows t ss are in
    let other = stands_at (at + t.count) (drop t.count rows) ss n s first.others there in
    let further = drop-drop other.from t.count rows in
    record {
      from = t.count + other.from;
      start = omega arith;
      within = omega (arith, length-drop t.count rows);
      table = rw (← further) other.table;
      few = rw (← further) other.few;
    }

-- and those of the last one, which are all from its start on
latest_part : (at : ℕ) (rows : List Row) (ss : List SectionRows) (s : SectionRows)
    → are_parts at rows (ss ++ s ∷ []) ≡ true
    → (from : ℕ) × (s.start ≡ at + from)
    × (parts rows (ss ++ s ∷ []) ≡ parts rows ss ++ (s.section, drop from rows) ∷ [])
latest_part at rows [] s are =
    let first = first_part at rows s [] are in
    let none = ap length (no_rows (at + s.count) (drop s.count rows) first.others) in
    let all = take_all s.count rows (omega (arith, length-drop s.count rows)) in
    (0, omega arith, rw all refl)
latest_part at rows (t ∷ ss) s are =
    let first = first_part at rows t (ss ++ s ∷ []) are in
    let other = latest_part (at + t.count) (drop t.count rows) ss s first.others in
    (t.count + other.0, omega (arith, other.1), rw (other.2, drop-drop other.0 t.count rows) refl)

parts_count : (rows : List Row) (ss : List SectionRows) → length (parts rows ss) ≡ length ss
parts_count rows [] = refl
parts_count rows (s ∷ ss) = ap suc (parts_count (drop s.count rows) ss)

-- the tables of an array of tables, as one list
module _ (rows : List Row) (ss : List SectionRows) (s : SectionRows) (was : SectionTables)
    (are : are_parts 0 rows (ss ++ s ∷ []) ≡ true) (seen : (parts rows ss, (s.section, drop s.start rows)) ≡ was) where
  pub all_tables : parts rows (ss ++ s ∷ []) ≡ tables_in was
  all_tables =
      let latest = latest_part 0 rows ss s are in
      let from : latest.0 ≡ s.start = omega (arith, latest.1) in
      latest.2 ∙ ap (λ n. parts rows ss ++ (s.section, drop n rows) ∷ []) from ∙ ap tables_in seen

  pub tables_count : length (tables_in was) ≡ length ss + 1
  tables_count = sym (ap length all_tables) ∙ parts_count rows (ss ++ s ∷ []) ∙ length_push ss s

-- all have few simple rows
pub parts_are_simple : (at : ℕ) (rows : List Row) (ss : List SectionRows) → are_parts at rows ss ≡ true
    → list_all (λ (t : SectionTable). are_few_simple 0 t.1) (parts rows ss) ≡ true
parts_are_simple at rows [] are = refl
parts_are_simple at rows (s ∷ ss) are =
    let first = first_part at rows s ss are in
    and_from _ _ first.few (parts_are_simple (at + s.count) (drop s.count rows) ss first.others)

-- all rows are plain
pub parts_are_plain : (at : ℕ) (rows : List Row) (ss : List SectionRows) → are_parts at rows ss ≡ true
    → are_all_plain 0 rows ≡ true
parts_are_plain at rows [] are = ap (are_all_plain 0) (no_rows at rows are)
parts_are_plain at rows (s ∷ ss) are =
    let first = first_part at rows s ss are in
    ap (are_all_plain 0) (sym (take-append-drop s.count rows))
    ∙ list_all-append (λ r. is_plain (out-Row r).value 0) (take s.count rows) (drop s.count rows)
    ∙ and_from _ _ (few_are_plain 0 _ first.few)
    (parts_are_plain (at + s.count) (drop s.count rows) ss first.others)
