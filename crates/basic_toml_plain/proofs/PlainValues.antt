-- In a plain value nothing clashes, no row goes on from a value there, and it is no deeper than the limit. It is plain
-- at each lower level too.
use Rattle.std.proofs.Common.{◌≡◌, ◌≤◌, ℕ, ◌+◌, ◌-◌, true, false, List, [], ◌∷◌, map, refl, sym, ap, ◌∙◌, subst, arith}
use Rattle.std.proofs.Common.{rules, length, Vec, Global}
use Rattle.std.specs.Prelude.{⊤, max, nat_lt, nat_le}
use Rattle.std.specs.Str.{bytes_eq}
use Rattle.std.proofs.lemmas.Bool.{false≢true, and_parts, or_parts}
use Rattle.std.proofs.lemmas.List.{map-id}
use Rattle.basic_toml_value.specs.Nesting.{nesting_limit}
use Rattle.basic_toml_index.specs.Index.{few}
use Rattle.basic_toml_index.specs.Keys.{is_among}
use Rattle.basic_toml_index.proofs.DistinctKeys.{bytes_eq_other}
use Rattle.basic_toml_grammar.specs.Sections.{element}
use Rattle.basic_toml_grammar.specs.Levels.{value_level, elements_level, rows_level}
use Rattle.basic_toml_grammar.specs.RowClash.{any_overlaps, value_clashes, elements_clash, rows_clash}
use Rattle.basic_toml_grammar.specs.Steps.{key}
use Rattle.basic_toml_read.specs.declared.section.Raw.{Raw, Array, Inline, map-Raw, ind-Raw, roll-Raw, the_lemmas}
use Rattle.basic_toml_read.specs.declared.section.Raw.TheOpen.{Raw-F}
use Rattle.basic_toml_read.specs.declared.section.Raw.TheViews.{out-roll-Element, out-roll-Row}
use Rattle.basic_toml_read.specs.declared.section.Element.{Element, out-Element}
use Rattle.basic_toml_read.specs.declared.section.Row.{Row, out-Row}
use Rattle.basic_toml_read.specs.declared.section.Rows.{Rows}
use Rattle.basic_toml_read.specs.SectionView.{Placed, raw_of, elements_view, rows_seen}
use Rattle.basic_toml_read.proofs.ViewsSeen.{array_of, placed_is}
use Rattle.basic_toml_plain.specs.Plain.{key_of, is_plain, is_plain_element, are_plain, are_simple, are_few_simple}
use Rattle.basic_toml_plain.proofs.PlainSeen.{array_is, element_is, inline_is, inline_of, lone_first, simple_step}
use Rattle.basic_toml_plain.proofs.SimpleKeys.{first_is_simple}

-- a key that none of some rows has overlaps none of their paths
overlaps_are_keys : (k : List ℕ) (rs : List Row) → is_among (map key_of rs) k ≡ false
    → any_overlaps (key k ∷ []) (rows_seen [] rs) ≡ false
overlaps_are_keys k [] absent = refl
overlaps_are_keys k (r ∷ rs) absent =
    let p = or_parts (bytes_eq k (key_of r)) (is_among (map key_of rs) k) absent in
    ap (any_overlaps (key k ∷ [])) (lone_first r rs)
    ∙ rw (p.0, bytes_eq_other (key_of r) k p.0) (overlaps_are_keys k rs p.1)

-- how deep rows go
first_level : (l : ℕ) (r : Row) (rs : List Row)
    → rows_level l (rows_seen [] (r ∷ rs))
    ≡ max l (max (value_level l (raw_of (out-Row r).value)) (rows_level l (rows_seen [] rs)))
first_level l r rs =
    let last : l + 1 - 1 ≡ l = omega arith in ap (rows_level l) (lone_first r rs) ∙ rw last refl

-- a plain value within something of a level
pub record PlainAt (l : ℕ) (r : Raw) : Type 0 where
  pub apart : value_clashes (raw_of r) ≡ false
  pub fits : value_level l (raw_of r) ≤ nesting_limit
  pub lower : (k : ℕ) → k ≤ l → is_plain r k ≡ true

-- plain elements of an array of a level
pub record AllPlainAt (l : ℕ) (es : List Element) : Type 0 where
  pub apart : elements_clash (elements_view es) ≡ false
  pub fit : elements_level l (elements_view es) ≤ nesting_limit
  pub lower : (k : ℕ) → k ≤ l → are_plain k es ≡ true

-- and simple rows of a table of a level
pub record AllSimpleAt (l : ℕ) (rs : List Row) : Type 0 where
  pub apart : rows_clash (rows_seen [] rs) ≡ false
  pub fit : l ≤ nesting_limit → rows_level l (rows_seen [] rs) ≤ nesting_limit
  pub lower : (k : ℕ) → k ≤ l → are_simple k rs ≡ true

abbrev OfRaw : Raw → Type 0
OfRaw r = (l : ℕ) → is_plain r l ≡ true → PlainAt l r

abbrev OfElement : Element → Type 0
OfElement e = OfRaw (out-Element e).value

abbrev OfRow : Row → Type 0
OfRow r = OfRaw (out-Row r).value

abbrev AllOf : List Element → Type 0
AllOf es = (l : ℕ) → are_plain l es ≡ true → AllPlainAt l es

abbrev SimpleOf : List Row → Type 0
SimpleOf rs = (l : ℕ) → are_simple l rs ≡ true → AllSimpleAt l rs

-- elements, one after another
elements_plain : {A : Type 0} (f : A → Element) → ((x : A) → OfElement (f x)) → (xs : List A) → AllOf (map f xs)
elements_plain f each [] l plain = record { apart = refl; fit = omega arith; lower = λ k low. refl }
elements_plain f each (x ∷ xs) l plain =
    let e = f x in
    let es = map f xs in
    let p = and_parts (is_plain_element e l) (are_plain l es) plain in
    let a : PlainAt l (out-Element e).value = each x l (sym (element_is e l) ∙ p.0) in
    let b : AllPlainAt l es = elements_plain f each xs l p.1 in
    let seen : elements_view (e ∷ es) ≡ element (out-Element e).offset (raw_of (out-Element e).value) (elements_view es)
    = ap (λ (p : Placed). element p.offset p.value (elements_view es)) (placed_is e) in
    record {
      apart = ap elements_clash seen ∙ rw (a.apart, b.apart) refl;
      fit = omega (arith, ap (elements_level l) seen, a.fits, b.fit);
      lower = λ k low. rw (element_is e k ∙ a.lower k low, b.lower k low) refl;
    }

-- rows, one after another
rows_simple : {A : Type 0} (f : A → Row) → ((x : A) → OfRow (f x)) → (xs : List A) → SimpleOf (map f xs)
rows_simple f each [] l simple = record { apart = refl; fit = λ within. omega arith; lower = λ k low. refl }
rows_simple f each (x ∷ xs) l simple =
    let r = f x in
    let rs = map f xs in
    let first = first_is_simple l r rs simple in
    let a : PlainAt l (out-Row r).value = each x l first.plain in
    let b : AllSimpleAt l rs = rows_simple f each xs l first.others in
    let seen = lone_first r rs in
    record {
      apart = ap rows_clash seen ∙ rw (overlaps_are_keys (key_of r) rs first.apart, a.apart, b.apart) refl;
      fit = λ within. omega (arith, first_level l r rs, a.fits, b.fit within, within);
      lower = λ k low. simple_step k r rs ∙ rw (a.lower k low, first.apart, b.lower k low) refl;
    }

-- a level below a lower one
still_below : (k l : ℕ) → k ≤ l → nat_lt l nesting_limit ≡ true → nat_lt k nesting_limit ≡ true
still_below k l low below = grind (arith, low, below)

-- each form of a value
array_plain : (es : Vec Element Global) → AllOf es.items → OfRaw (Array es)
array_plain es parts l plain =
    let p = and_parts (nat_lt l nesting_limit) (are_plain (l + 1) es.items) (sym (array_is es l) ∙ plain) in
    let all : AllPlainAt (l + 1) es.items = parts (l + 1) p.1 in
    let within : l + 1 ≤ nesting_limit = grind (arith, p.0) in
    record {
      apart = ap value_clashes (array_of es) ∙ all.apart;
      fits = omega (arith, ap (value_level l) (array_of es), within, all.fit);
      lower = λ k low. array_is es k ∙ rw (still_below k l low p.0, all.lower (k + 1) (omega (arith, low))) refl;
    }

table_plain : (rs : Vec Row Global) → SimpleOf rs.items → OfRaw (Inline rs)
table_plain rs parts l plain =
    let p = and_parts (nat_lt l nesting_limit) (are_few_simple (l + 1) rs.items) (sym (inline_is rs l) ∙ plain) in
    let q = and_parts (nat_le (length rs.items) few) (are_simple (l + 1) rs.items) p.1 in
    let all : AllSimpleAt (l + 1) rs.items = parts (l + 1) q.1 in
    let within : l + 1 ≤ nesting_limit = grind (arith, p.0) in
    record {
      apart = ap value_clashes (inline_of rs) ∙ all.apart;
      fits = omega (arith, ap (value_level l) (inline_of rs), within, all.fit within);
      lower = λ k low. inline_is rs k
          ∙ rw (still_below k l low p.0, q.0, all.lower (k + 1) (omega (arith, low))) refl;
    }

-- a value, of whose parts this is known
abbrev With : {A : Type 0} → (A → Type 0) → Type 0
With {A} P = (x : A) × P x

abbrev Known : Type 0
Known = Raw-F (With OfRaw) (With OfElement) (With OfRow) (With (λ (rs : Rows). ⊤))

abbrev known : Known → Raw
known x =
    roll-Raw (map-Raw (With OfRaw) (With OfElement) (With OfRow) (With (λ (rs : Rows). ⊤)) Raw Element Row Rows
    (λ v. v.0) (λ e. e.0) (λ r. r.0) (λ rs. rs.0) x)

-- the forms that have parts, as they are made of these
array_made : (es : Vec Element Global) → roll-Raw (Raw-F.Array es) ≡ Array es
array_made es = search (rules, the_lemmas)

table_made : (rs : Vec Row Global) → roll-Raw (Raw-F.Inline rs) ≡ Inline rs
table_made rs = search (rules, the_lemmas)

raw_is : (x : Known) → OfRaw (known x)
raw_is (Raw-F.Dotted rs) l plain =
    let never : is_plain (known (Raw-F.Dotted rs)) l ≡ false = search (rules, the_lemmas) in
    absurd (false≢true (sym never ∙ plain))
raw_is (Raw-F.Array es) l plain =
    subst OfRaw (sym (array_made _)) (array_plain _ (elements_plain (λ e. e.0) (λ e. e.1) es.items)) l plain
raw_is (Raw-F.Inline rs) l plain =
    subst OfRaw (sym (table_made _)) (table_plain _ (rows_simple (λ r. r.0) (λ r. r.1) rs.items)) l plain
raw_is x l plain =
    let flat : value_level l (raw_of (known x)) ≡ 0 = search (rules, the_lemmas) in
    record {
      apart = search (rules, the_lemmas);
      fits = omega (arith, flat);
      lower = λ k low. search (rules, the_lemmas);
    }

pub plain_value : (r : Raw) (l : ℕ) → is_plain r l ≡ true → PlainAt l r
plain_value =
    ind-Raw OfRaw OfElement OfRow (λ rs. ⊤) (λ x y is. subst (λ x. OfRaw (roll-Raw x)) is (raw_is y))
    (λ x y is. subst (λ e. OfRaw e.value) (sym (out-roll-Element x)) (subst (λ z. OfRaw z.value) is y.value.1))
    (λ x y is. subst (λ r. OfRaw r.value) (sym (out-roll-Row x)) (subst (λ z. OfRaw z.value) is y.value.1))
    (λ x y is. tt)

pub all_plain : (es : List Element) (l : ℕ) → are_plain l es ≡ true → AllPlainAt l es
all_plain es = subst AllOf (map-id es) (elements_plain (λ e. e) (λ e. plain_value (out-Element e).value) es)

pub all_simple : (rs : List Row) (l : ℕ) → are_simple l rs ≡ true → AllSimpleAt l rs
all_simple rs = subst SimpleOf (map-id rs) (rows_simple (λ r. r) (λ r. plain_value (out-Row r).value) rs)

-- at the lowest level
pub value_lower : (r : Raw) (l : ℕ) → is_plain r l ≡ true → is_plain r 0 ≡ true
value_lower r l plain = (plain_value r l plain).lower 0 (omega arith)

pub elements_lower : (es : List Element) (l : ℕ) → are_plain l es ≡ true → are_plain 0 es ≡ true
elements_lower es l plain = (all_plain es l plain).lower 0 (omega arith)

pub few_lower : (rs : List Row) (l : ℕ) → are_few_simple l rs ≡ true → are_few_simple 0 rs ≡ true
few_lower rs l simple =
    let p = and_parts (nat_le (length rs) few) (are_simple l rs) simple in
    rw (p.0, (all_simple rs l p.1).lower 0 (omega arith)) refl

-- what stands within a plain value
pub array_within : (es : Vec Element Global) (l : ℕ) → is_plain (Array es) l ≡ true → are_plain 0 es.items ≡ true
array_within es l plain = elements_lower es.items (l + 1) (and_parts _ _ (sym (array_is es l) ∙ plain)).1

pub table_within : (rs : Vec Row Global) (l : ℕ) → is_plain (Inline rs) l ≡ true → are_few_simple 0 rs.items ≡ true
table_within rs l plain = few_lower rs.items (l + 1) (and_parts _ _ (sym (inline_is rs l) ∙ plain)).1
