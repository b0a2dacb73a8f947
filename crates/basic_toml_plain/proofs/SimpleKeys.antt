-- Simple rows: what each of them is, and that their keys differ.
use Rattle.std.proofs.Common.{◌≡◌, ◌∙◌, ℕ, Bool, true, false, not, List, [], ◌∷◌, map, refl, sym, ap}
use Rattle.std.proofs.lemmas.Bool.{and_parts, not-true}
use Rattle.basic_toml_index.specs.Keys.{is_among, are_distinct}
use Rattle.basic_toml_read.specs.declared.section.Row.{Row, out-Row}
use Rattle.basic_toml_plain.specs.Plain.{key_of, is_plain, are_simple, are_few_simple, are_all_plain}
use Rattle.basic_toml_plain.proofs.PlainSeen.{simple_step}

-- the first of simple rows, and the others
pub record FirstIsSimple (l : ℕ) (r : Row) (rs : List Row) : Type 0 where
  pub plain : is_plain (out-Row r).value l ≡ true
  pub apart : is_among (map key_of rs) (key_of r) ≡ false
  pub others : are_simple l rs ≡ true

pub first_is_simple : (l : ℕ) (r : Row) (rs : List Row) → are_simple l (r ∷ rs) ≡ true → FirstIsSimple l r rs
first_is_simple l r rs simple =
    let a = and_parts _ _ (sym (simple_step l r rs) ∙ simple) in
    let b = and_parts _ _ a.0 in
    record { plain = b.0; apart = not-true _ b.1; others = a.1 }

pub keys_differ : (l : ℕ) (rows : List Row) → are_simple l rows ≡ true → are_distinct (map key_of rows) ≡ true
keys_differ l [] simple = refl
keys_differ l (r ∷ rs) simple =
    let first = first_is_simple l r rs simple in
    rw (first.apart, keys_differ l rs first.others) refl

-- plain rows whose keys differ are simple
pub simple_from_plain : (l : ℕ) (rows : List Row) → are_all_plain l rows ≡ true
    → are_distinct (map key_of rows) ≡ true → are_simple l rows ≡ true
simple_from_plain l [] plain distinct = refl
simple_from_plain l (r ∷ rs) plain distinct =
    let a = and_parts (is_plain (out-Row r).value l) _ plain in
    let b = and_parts (not (is_among (map key_of rs) (key_of r))) _ distinct in
    simple_step l r rs ∙ rw (a.0, b.0) (simple_from_plain l rs a.1 b.1)

-- and simple rows are plain
pub simple_are_plain : (l : ℕ) (rows : List Row) → are_simple l rows ≡ true → are_all_plain l rows ≡ true
simple_are_plain l [] simple = refl
simple_are_plain l (r ∷ rs) simple =
    let first = first_is_simple l r rs simple in
    rw (first.plain, simple_are_plain l rs first.others) refl

-- rows are few and simple where a look at what is seen of them says so
pub few_seen : (l : ℕ) (rows seen : List Row) (looked : Bool) → seen ≡ rows → looked ≡ are_few_simple l seen
    → looked ≡ true → are_few_simple l rows ≡ true
few_seen l rows seen looked same is simple = ap (are_few_simple l) (sym same) ∙ sym is ∙ simple

-- few and simple rows
pub few_are_simple : (l : ℕ) (rows : List Row) → are_few_simple l rows ≡ true → are_simple l rows ≡ true
few_are_simple l rows are = (and_parts _ _ are).1

pub few_are_plain : (l : ℕ) (rows : List Row) → are_few_simple l rows ≡ true → are_all_plain l rows ≡ true
few_are_plain l rows are = simple_are_plain l rows (few_are_simple l rows are)

-- the first of plain rows, and the others
pub first_plain : (l : ℕ) (r : Row) (rs : List Row) → are_all_plain l (r ∷ rs) ≡ true
    → is_plain (out-Row r).value l ≡ true
first_plain l r rs plain = (and_parts _ _ plain).0

pub others_plain : (l : ℕ) (r : Row) (rs : List Row) → are_all_plain l (r ∷ rs) ≡ true → are_all_plain l rs ≡ true
others_plain l r rs plain = (and_parts _ _ plain).1
