-- Rows that the code reads have keys at every depth.
use Rattle.basic_toml_read.proofs.Common.{◌≡◌, true, List, [], ◌∷◌, ◌++◌, map, take, drop, refl, subst, rules, Key}
use Rattle.basic_toml_read.proofs.Common.{Rows, no_rows, row, the_lemmas, Element, out-Element, Row, out-Row, key_of}
use Rattle.basic_toml_read.proofs.Common.{raw_of, placed_of, lined_of, rows_from, rows_seen, section_of, and_parts}
use Rattle.basic_toml_read.specs.declared.section.Key as keys
use Rattle.basic_toml_read.specs.declared.section.Rows as tables
use Rattle.basic_toml_read.specs.declared.section.Section as code
use Rattle.basic_toml_read.specs.declared.section.Raw.{Raw, map-Raw, roll-Raw, ind-Raw}
use Rattle.basic_toml_read.specs.SectionView.{Lined, elements_from, rows_view}
use mathlib.Core.List.{map-map}
use Rattle.basic_toml_grammar.specs.Entering.{has_key, rows_keyed, keyed_within, value_keyed, elements_keyed}
use Rattle.basic_toml_grammar.specs.Entering.{all_keyed_within}
use Rattle.basic_toml_read.specs.declared.section.Raw.TheOpen.{Raw-F}
use Rattle.basic_toml_read.proofs.NextRow.{lined_is}
use Rattle.basic_toml_read.proofs.ViewsSeen.{placed_is}

abbrev OfRaw : Raw → Type 0
OfRaw v = value_keyed (raw_of v) ≡ true

abbrev pub OfElement : Element → Type 0
OfElement e = value_keyed (placed_of e).value ≡ true

abbrev pub OfRow : Row → Type 0
OfRow r = value_keyed (lined_of r).value ≡ true

abbrev OfRows : tables.Rows → Type 0
OfRows rs = keyed_within (rows_view rs) ≡ true

-- a last key is one
last_is_one : (ks : List Key) (k : Key) → has_key (ks ++ k ∷ []) ≡ true
last_is_one [] k = refl
last_is_one (l ∷ ks) k = refl

elements_kept : (es : List ((e : Element) × OfElement e))
    → elements_keyed (elements_from (map placed_of (map (λ e. e.0) es))) ≡ true
elements_kept [] = refl
elements_kept (e ∷ es) = rw (e.1, elements_kept es) refl

lines_kept : {A : Type 0} (line : A → Lined) → ((a : A) → value_keyed (line a).value ≡ true) → (parents : List Key)
    (rs : List A) → keyed_within (rows_from parents (map line rs)) ≡ true
lines_kept line kept parents [] = refl
lines_kept line kept parents (r ∷ rs) =
    let more = lines_kept line kept (drop (line r).parents parents) rs in
    rw (last_is_one (take (line r).parents parents) (line r).key, kept r, more) refl

known_kept : (parents : List Key) (rs : List ((r : Row) × OfRow r))
    → keyed_within (rows_from parents (map lined_of (map (λ r. r.0) rs))) ≡ true
known_kept parents rs = rw map-map (lines_kept (λ r. lined_of r.0) (λ r. r.1) parents rs)

abbrev Known : {A : Type 0} → (A → Type 0) → Type 0
Known {A = A} P = (x : A) × P x

-- a value, if its parts have keys
raw_kept : (y : Raw-F (Known OfRaw) (Known OfElement) (Known OfRow) (Known OfRows))
    → OfRaw (roll-Raw (map-Raw (Known OfRaw) (Known OfElement) (Known OfRow) (Known OfRows) Raw Element Row tables.Rows
    (λ e. e.0) (λ e. e.0) (λ e. e.0) (λ e. e.0) y))
raw_kept (Raw-F.Array es) = let kept = elements_kept es.items in search (rules, the_lemmas)
raw_kept (Raw-F.Inline rs) = let kept = known_kept [] rs.items in search (rules, the_lemmas)
raw_kept (Raw-F.Dotted rs) = let kept = rs.value.1 in search (rules, the_lemmas)
raw_kept _ = search (rules, the_lemmas)

every_raw : (v : Raw) → OfRaw v
every_raw =
    ind-Raw OfRaw OfElement OfRow OfRows (λ x y is. subst (λ z. OfRaw (roll-Raw z)) is (raw_kept y))
    (λ x y is. let kept = subst (λ z. OfRaw z.value) is y.value.1 in search (rules, the_lemmas))
    (λ x y is. let kept = subst (λ z. OfRaw z.value) is y.value.1 in search (rules, the_lemmas))
    (λ x y is. let kept = subst
    (λ z. keyed_within (rows_from (map key_of z.parents.items) (map lined_of z.rows.items)) ≡ true) is
    (known_kept (map key_of y.parents.items) y.rows.items) in search (rules, the_lemmas))

pub every_row : (r : Row) → OfRow r
every_row r = rw (lined_is r) (every_raw (out-Row r).value)

pub every_element : (e : Element) → OfElement e
every_element e = rw (placed_is e) (every_raw (out-Element e).value)

pub one_has_keys : (ks : List Key) (r : Row)
    → keyed_within (row (ks ++ (lined_of r).key ∷ []) (lined_of r).start (lined_of r).value no_rows) ≡ true
one_has_keys ks r = rw (last_is_one ks (lined_of r).key, every_row r) refl

within : (parents : List keys.Key) (rows : List Row) → keyed_within (rows_seen parents rows) ≡ true
within parents rows = lines_kept lined_of every_row (map key_of parents) rows

pub rows_have_keys : (rs : tables.Rows) → keyed_within (rows_view rs) ≡ true
rows_have_keys rs = within (tables.out-Rows rs).parents.items (tables.out-Rows rs).rows.items

-- so each row has a key
each_has_key : (rs : Rows) → keyed_within rs ≡ true → rows_keyed rs ≡ true
each_has_key no_rows e = refl
each_has_key (row [] at v rs) e = cc
each_has_key (row (k ∷ ks) at v rs) e = each_has_key rs (and_parts (value_keyed v) (keyed_within rs) e).1

pub rows_are_keyed : (parents : List keys.Key) (rows : List Row) → rows_keyed (rows_seen parents rows) ≡ true
rows_are_keyed parents rows = each_has_key (rows_seen parents rows) (within parents rows)

pub are_keyed : (rs : tables.Rows) → rows_keyed (rows_view rs) ≡ true
are_keyed rs = each_has_key (rows_view rs) (rows_have_keys rs)

pub sections_have_keys : (ss : List code.Section) → all_keyed_within (map section_of ss) ≡ true
sections_have_keys [] = refl
sections_have_keys (s ∷ ss) = rw (rows_have_keys s.rows, sections_have_keys ss) refl
