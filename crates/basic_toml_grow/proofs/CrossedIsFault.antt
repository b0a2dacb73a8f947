-- The value that is crossed has its fault among those of its list, and where none is, there is no such fault. Where no
-- row has more keys than the one before it, none is crossed.
use Rattle.std.proofs.Common.{◌≡◌, ◌⊎◌, ◌≤◌, ◌<◌, ℕ, ◌+◌, Bool, true, false, cond, List, [], ◌∷◌, ◌++◌, refl, Some}
use Rattle.std.proofs.Common.{None, Option, inl, inr, arith, subst, map, take, drop, length}
use Rattle.std.specs.Prelude.{⊤, Contains}
use Rattle.std.specs.List.{flat_map}
use Rattle.std.specs.Option.{option_or}
use Rattle.std.proofs.lemmas.List.{length-map, length-append, length-take, length-drop}
use Rattle.std.proofs.lemmas.List.Elements.{Contains-append_left, Contains-append_right, Contains-get_or}
use Rattle.basic_toml_grammar.specs.Faults.{Fault}
use Rattle.basic_toml_grammar.specs.Sections.{Key, KeyTexts, texts, Raw, Elements, no_elements, element, Rows, no_rows}
use Rattle.basic_toml_grammar.specs.Sections.{row, Section}
use Rattle.basic_toml_grammar.specs.Steps.{Path, steps_of}
use Rattle.basic_toml_grammar.specs.NamedClash.{dotted_fault, dotted_faults, dotted_faults_in, dotted_faults_among}
use Rattle.basic_toml_grammar.specs.NamedClash.{extending_faults}
use Rattle.basic_toml_read.specs.declared.section.Row.{Row, out-Row}
use Rattle.basic_toml_read.specs.SectionView.{lined_of, rows_from}
use Rattle.basic_toml_read.proofs.NextRow.{lined_is}
use Rattle.basic_toml_grow.specs.Crossed.{no_ends, and_end, crossed_after, crossed_of, crossed_among, crossed_within}
use Rattle.basic_toml_grow.specs.Crossed.{crossed_in, first_crossed}
use Rattle.basic_toml_grow.specs.KeyTree.{Ends, Follows, value_on}
use Rattle.basic_toml_grow.proofs.ValuesOnTheWay.{goes_on_from, keys_are, none_on, row_ends, some_or_none}

-- one of these faults, or none of them
abbrev pub Tells : Option ℕ → List Fault → Type 0
Tells None faults = faults ≡ []
Tells (Some at) faults = Contains faults (dotted_fault at)

tells_append : (a b : Option ℕ) (fs gs : List Fault) → Tells a fs → Tells b gs → Tells (option_or a b) (fs ++ gs)
tells_append a b fs gs x y = grind (arith, Contains-append_left {X = Fault}, Contains-append_right {X = Fault})

-- whether rows go on from a value does not depend on where it begins
extending_none : (s t : ℕ) (p : Path) (rows : Rows) → extending_faults s p rows ≡ [] → extending_faults t p rows ≡ []
extending_none s t p no_rows none = refl
extending_none s t p (row keys at value rows) none = grind (arith, extending_none s t p rows)

extending_later : (s : ℕ) (p : Path) (f : Fault) (rows : Rows) (b : Bool) → Contains (extending_faults s p rows) f
    → Contains (cond b (dotted_fault s ∷ extending_faults s p rows) (extending_faults s p rows)) f
extending_later s p f rows true there =
    Contains-append_right (dotted_fault s ∷ []) (extending_faults s p rows) f there
extending_later s p f rows false there = there

-- What is found in rows after what ends somewhere: one of the faults of those that go on from it or of their own, or
-- that there is none.
abbrev Finds : Ends → Rows → Option ℕ → Type 0
Finds ends rows None =
    ((p : KeyTexts) (s : ℕ) → ends p ≡ Some s → extending_faults s (steps_of p) rows ≡ []) × (dotted_faults rows ≡ [])
Finds ends rows (Some s) =
    ((p : KeyTexts) × (ends p ≡ Some s) × Contains (extending_faults s (steps_of p) rows) (dotted_fault s))
    ⊎ Contains (dotted_faults rows) (dotted_fault s)

module _ (ends : Ends) (keys : List Key) (at : ℕ) (value : Raw) (left : Rows) where
  abbrev path : KeyTexts
  path = texts keys

  -- the next row goes on from a value
  row_goes_on : (start : ℕ) → value_on ends path ≡ Some start → Finds ends (row keys at value left) (Some start)
  row_goes_on start on =
      let goes = goes_on_from ends path start on in
      let faults = dotted_fault start ∷ extending_faults start (steps_of goes.0) left in
      inl (goes.0, goes.1, rw goes.2 (Contains-get_or faults 0 (dotted_fault start) (omega arith)))

  -- the next row goes on from no value: what is found after it, or in its own
  module _ (free : value_on ends path ≡ None) where
    follows : Follows ends (and_end ends path at) path at
    follows = row_ends ends path at free

    found_later : (s : ℕ) → Finds (and_end ends path at) left (Some s) → Finds ends (row keys at value left) (Some s)
    found_later s (inl found) =
        let fault = dotted_fault s in
        elim (follows.told found.0 s found.1) [
          | inl before ↦ inl (found.0, before, extending_later s (steps_of found.0) fault left _ found.2)
          | inr now ↦ inr (Contains-append_left _ _ fault (Contains-append_left _ _ fault
              (subst (λ (x : KeyTexts × ℕ). Contains (extending_faults x.1 (steps_of x.0) left) fault) (cc) found.2)))
        ]
    found_later s (inr later) = inr (Contains-append_right _ _ (dotted_fault s) later)

    row_followed : (a b c : Option ℕ) → Tells b (dotted_faults_in value)
        → Finds (and_end ends path at) left (option_or a c)
        → Finds ends (row keys at value left) (option_or a (option_or b c))
    row_followed (Some s) b c inside found = found_later s found
    row_followed None (Some s) c inside found =
        let own = extending_faults at (steps_of path) left in
        inr (Contains-append_left (own ++ dotted_faults_in value) (dotted_faults left) (dotted_fault s)
        (Contains-append_right own (dotted_faults_in value) (dotted_fault s) inside))
    row_followed None None (Some s) inside found = found_later s found
    row_followed None None None inside found = (
      λ p s there. grind (arith, found.0 p s, follows.kept p s, none_on ends p path free),
      rw (extending_none follows.stands.0 at (steps_of path) left (found.0 path _ follows.stands.1), inside, found.1)
          refl,
    )

found_in : (rows : Rows) (o : Option ℕ) → Finds no_ends rows o → Tells o (dotted_faults rows)
found_in rows o found = grind arith

mutual
  tells_of : (v : Raw) → Tells (crossed_of v) (dotted_faults_in v)
  tells_of (Raw.array es) = tells_among es
  tells_of (Raw.inline rows) = found_in rows (crossed_in rows) (finds rows no_ends)
  tells_of _ = refl

  tells_among : (es : Elements) → Tells (crossed_among es) (dotted_faults_among es)
  tells_among no_elements = refl
  tells_among (element at v es) =
      tells_append (crossed_of v) (crossed_among es) _ _ (tells_of v) (tells_among es)

  finds : (rows : Rows) (ends : Ends) → Finds ends rows (option_or (crossed_after ends rows) (crossed_within rows))
  finds no_rows ends = (λ p s there. refl, refl)
  finds (row keys at value left) ends = elim (some_or_none (value_on ends (texts keys))) [
    | inl on ↦ rw on.1 (row_goes_on ends keys at value left on.0 on.1)
    | inr none ↦
        rw none (row_followed ends keys at value left none _ _ _ (tells_of value)
        (finds left (and_end ends (texts keys) at)))
  ]

pub tells_sections : (sections : List Section)
    → Tells (first_crossed sections) (flat_map (λ s. dotted_faults s.rows) sections)
tells_sections [] = refl
tells_sections (s ∷ sections) =
    tells_append (crossed_in s.rows) (first_crossed sections) _ _ (found_in s.rows _ (finds s.rows no_ends))
    (tells_sections sections)

-- where only long paths end, shorter ones go on from no value
abbrev Long : ℕ → Ends → Type 0
Long n ends = (p : KeyTexts) → length p < n → ends p ≡ None

none_long : (n : ℕ) (ends : Ends) (path : KeyTexts) → Long n ends → length path ≤ n → value_on ends path ≡ None
none_long n ends [] long short = refl
none_long n ends (k ∷ path) long short =
    rw (long [] (omega arith)) (none_long (length path) (λ p. ends (k ∷ p)) path (λ p less. long (k ∷ p) (omega arith))
    (omega arith))

-- no row has more parents than the one before it
abbrev pub Shrink : ℕ → List Row → Type 0
Shrink most [] = ⊤
Shrink most (r ∷ rs) = ((out-Row r).parents ≤ most) × Shrink (out-Row r).parents rs

pub none_crosses : (most : ℕ) (ends : Ends) (parents : List Key) (rs : List Row) → Shrink most rs
    → Long (length (take most parents) + 1) ends → crossed_after ends (rows_from parents (map lined_of rs)) ≡ None
none_crosses most ends parents [] shrink long = refl
none_crosses most ends parents (r ∷ rs) shrink long =
    let n = (out-Row r).parents in
    let is : (lined_of r).parents ≡ n = rw lined_is refl in
    let path = texts (take n parents ++ (lined_of r).key ∷ []) in
    let many : length path ≡ length (take n parents) + 1 =
    omega (arith, length-map {A = Key} {B = List ℕ}, length-append {A = Key}) in
    rw (is, none_long _ ends path long (omega (arith, many, length-take {A = Key})))
    (none_crosses n (and_end ends path (lined_of r).start) (drop n parents) rs shrink.1
    (λ p short. grind (arith, long p, keys_are p path, length-take {A = Key}, length-drop {A = Key})))
