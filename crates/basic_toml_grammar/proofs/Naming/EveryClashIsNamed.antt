-- A section list clashes exactly where it allows a clash fault.
use Rattle.std.proofs.Common.{◌≡◌, ℕ, Bool, true, false, not, cond, List, [], ◌∷◌, ◌++◌, ◌<◌, arith, refl, ap, sym, ◌∙◌, length}
use Rattle.std.specs.Prelude.{◌&&◌, ◌||◌, ◌-◌, if◌then◌else◌, Contains}
use Rattle.std.specs.List.{list_any, flat_map}
use Rattle.std.proofs.lemmas.List.Folds.{list_any-append}
use Rattle.basic_toml_grammar.specs.Sections.{Key, KeyTexts, texts, Raw, Elements, no_elements, element, Rows}
use Rattle.basic_toml_grammar.specs.Sections.{no_rows, row, Section}
use Rattle.basic_toml_grammar.specs.Steps.{Path, begins, path_eq, properly_begins, steps_of}
use Rattle.basic_toml_grammar.specs.RowClash.{any_overlaps, rows_clash, value_clashes, elements_clash, has_row_clash}
use Rattle.basic_toml_grammar.specs.IndexedPath.{Located, located}
use Rattle.basic_toml_grammar.specs.SectionClash.{target, same_path, array_on_cut, row_on_path, row_crossed}
use Rattle.basic_toml_grammar.specs.SectionClash.{any_row_clashes, clashes_one_way, clashes, any_pair}
use Rattle.basic_toml_grammar.specs.Faults.{Fault}
use Rattle.basic_toml_grammar.specs.Document.{has_clash}
use Rattle.basic_toml_grammar.specs.NamedClash.{extending_faults, dotted_faults, dotted_faults_in}
use Rattle.basic_toml_grammar.specs.NamedClash.{dotted_faults_among, repeating_faults, repeated_faults}
use Rattle.basic_toml_grammar.specs.NamedClash.{repeated_faults_in, repeated_faults_among, repeated_faults_of}
use Rattle.basic_toml_grammar.specs.NamedClash.{first_key, first_of_several, dotted_fault, key_fault, last_key}
use Rattle.basic_toml_grammar.specs.NamedClash.{table_fault, array_fault, path_faults, cut_faults, crossing_fault}
use Rattle.basic_toml_grammar.specs.NamedClash.{row_faults, pair_faults, section_faults, first_of_two, clash_faults}
use Rattle.basic_toml_grammar.specs.NamedClash.{NamesClash}

abbrev any_fault : List Fault → Bool
any_fault faults = list_any (λ f. true) faults

-- of the rows, one is extended by a later one, or repeated
abbrev any_extends : Path → Rows → Bool
any_extends p no_rows = false
any_extends p (row keys at v rows) = properly_begins p (steps_of (texts keys)) || any_extends p rows

abbrev any_repeats : Path → Rows → Bool
any_repeats p no_rows = false
any_repeats p (row keys at v rows) = begins (steps_of (texts keys)) p || any_repeats p rows

both : (a b c d : Bool) → ((a || b) || (c || d)) ≡ ((a || c) || (b || d))
both true b c d = refl
both false true true d = refl
both false true false d = refl
both false false c d = refl

overlap_is : (a b : Bool) → (a || b) ≡ ((a && not b) || b)
overlap_is true true = refl
overlap_is true false = refl
overlap_is false b = refl

overlaps_are : (p : Path) (rows : Rows) → any_overlaps p rows ≡ (any_extends p rows || any_repeats p rows)
overlaps_are p no_rows = refl
overlaps_are p (row keys at v rows) =
    ap (λ b. b || any_overlaps p rows)
    (overlap_is (begins p (steps_of (texts keys))) (begins (steps_of (texts keys)) p))
    ∙ ap (λ b. (properly_begins p (steps_of (texts keys)) || begins (steps_of (texts keys)) p) || b)
    (overlaps_are p rows)
    ∙ both (properly_begins p (steps_of (texts keys))) (begins (steps_of (texts keys)) p) (any_extends p rows)
    (any_repeats p rows)

extending : (at : ℕ) (p : Path) (rows : Rows) → any_fault (extending_faults at p rows) ≡ any_extends p rows
extending at p no_rows = refl
extending at p (row keys _ v rows) = go (properly_begins p (steps_of (texts keys))) (extending at p rows)
  where
    go : (b : Bool) → any_fault (extending_faults at p rows) ≡ any_extends p rows
        → any_fault (cond b (dotted_fault at ∷ extending_faults at p rows) (extending_faults at p rows))
        ≡ (b || any_extends p rows)
    go true e = refl
    go false e = e

repeating : (kp : List Key → KeyTexts) (p : Path) (rows : Rows)
    → any_fault (repeating_faults kp p rows) ≡ any_repeats p rows
repeating kp p no_rows = refl
repeating kp p (row keys at v rows) = go (begins (steps_of (texts keys)) p) (repeating kp p rows)
  where
    go : (b : Bool) → any_fault (repeating_faults kp p rows) ≡ any_repeats p rows
        → any_fault (cond b (key_fault (last_key keys) (kp keys) ∷ repeating_faults kp p rows)
        (repeating_faults kp p rows)) ≡ (b || any_repeats p rows)
    go true e = refl
    go false e = e

any-append : (a b : List Fault) → any_fault (a ++ b) ≡ (any_fault a || any_fault b)
any-append a b = list_any-append (λ f. true) a b

three-append : (a b c : List Fault) → any_fault ((a ++ b) ++ c) ≡ ((any_fault a || any_fault b) || any_fault c)
three-append a b c = any-append (a ++ b) c ∙ ap (λ x. x || any_fault c) (any-append a b)

six : (a b c d e f : Bool) → (((a || b) || (c || d)) || (e || f)) ≡ (((a || c) || e) || ((b || d) || f))
six a b c d e f = ap (λ x. x || (e || f)) (both a b c d) ∙ both (a || c) (b || d) e f

mutual
  rows_named : (kp inside : List Key → KeyTexts) (rows : Rows)
      → rows_clash rows ≡ (any_fault (dotted_faults rows) || any_fault (repeated_faults kp inside rows))
  rows_named kp inside no_rows = refl
  rows_named kp inside (row keys at v rows) =
      ap (λ b. (b || value_clashes v) || rows_clash rows) (overlaps_are p rows)
      ∙ ap (λ b. ((any_extends p rows || any_repeats p rows) || b) || rows_clash rows) (value_named (inside keys) v)
      ∙ ap (λ b. ((any_extends p rows || any_repeats p rows) ||
      (any_fault (dotted_faults_in v) || any_fault (repeated_faults_in (inside keys) v))) || b)
      (rows_named kp inside rows)
      ∙ six (any_extends p rows) (any_repeats p rows) (any_fault (dotted_faults_in v))
      (any_fault (repeated_faults_in (inside keys) v))
      (any_fault (dotted_faults rows)) (any_fault (repeated_faults kp inside rows))
      ∙ ap (λ b. ((b || any_fault (dotted_faults_in v)) || any_fault (dotted_faults rows))
      || ((any_repeats p rows || any_fault (repeated_faults_in (inside keys) v)) || any_fault
      (repeated_faults kp inside rows))) (sym (extending at p rows))
      ∙ ap (λ b. ((any_fault (extending_faults at p rows) || any_fault (dotted_faults_in v)) || any_fault
      (dotted_faults rows))
      || ((b || any_fault (repeated_faults_in (inside keys) v)) || any_fault (repeated_faults kp inside rows)))
      (sym (repeating kp p rows))
      ∙ ap (λ b. b || ((any_fault (repeating_faults kp p rows) || any_fault (repeated_faults_in (inside keys) v)) ||
      any_fault (repeated_faults kp inside rows)))
      (sym (three-append (extending_faults at p rows) (dotted_faults_in v) (dotted_faults rows)))
      ∙ ap (λ b. any_fault (dotted_faults (row keys at v rows)) || b)
      (sym (three-append (repeating_faults kp p rows) (repeated_faults_in (inside keys) v)
      (repeated_faults kp inside rows)))
    where
      p : Path
      p = steps_of (texts keys)

  value_named : (ks : KeyTexts) (v : Raw)
      → value_clashes v ≡ (any_fault (dotted_faults_in v) || any_fault (repeated_faults_in ks v))
  value_named ks (Raw.integer z) = refl
  value_named ks (Raw.float t) = refl
  value_named ks (Raw.boolean b) = refl
  value_named ks (Raw.string t _) = refl
  value_named ks (Raw.array es) = elements_named ks es
  value_named ks (Raw.inline rs) = rows_named (λ _. ks) (λ _. ks) rs

  elements_named : (ks : KeyTexts) (es : Elements)
      → elements_clash es ≡ (any_fault (dotted_faults_among es) || any_fault (repeated_faults_among ks es))
  elements_named ks no_elements = refl
  elements_named ks (element at v es) =
      ap (λ b. b || elements_clash es) (value_named ks v)
      ∙ ap (λ b. (any_fault (dotted_faults_in v) || any_fault (repeated_faults_in ks v)) || b) (elements_named ks es)
      ∙ both (any_fault (dotted_faults_in v)) (any_fault (repeated_faults_in ks v))
      (any_fault (dotted_faults_among es)) (any_fault (repeated_faults_among ks es))
      ∙ ap (λ b. b || (any_fault (repeated_faults_in ks v) || any_fault (repeated_faults_among ks es)))
      (sym (any-append (dotted_faults_in v) (dotted_faults_among es)))
      ∙ ap (λ b. any_fault (dotted_faults_in v ++ dotted_faults_among es) || b)
      (sym (any-append (repeated_faults_in ks v) (repeated_faults_among ks es)))

pub all_rows_named : (sections : List Section)
    → has_row_clash sections
    ≡ (any_fault (flat_map (λ s. dotted_faults s.rows) sections) || any_fault
    (flat_map repeated_faults_of sections))
all_rows_named [] = refl
all_rows_named (s ∷ sections) =
    ap (λ b. b || has_row_clash sections)
    (rows_named (λ keys. texts s.header ++ first_of_several keys) (λ keys. texts s.header ++ first_key keys) s.rows)
    ∙ ap (λ b. (any_fault (dotted_faults s.rows) || any_fault (repeated_faults_of s)) || b) (all_rows_named sections)
    ∙ both (any_fault (dotted_faults s.rows)) (any_fault (repeated_faults_of s))
    (any_fault (flat_map (λ s. dotted_faults s.rows) sections))
    (any_fault (flat_map repeated_faults_of sections))
    ∙ ap (λ b. b || (any_fault (repeated_faults_of s) || any_fault (flat_map repeated_faults_of sections)))
    (sym (any-append (dotted_faults s.rows) (flat_map (λ s. dotted_faults s.rows) sections)))
    ∙ ap (λ b. any_fault (dotted_faults s.rows ++ flat_map (λ s. dotted_faults s.rows) sections) || b)
    (sym (any-append (repeated_faults_of s) (flat_map repeated_faults_of sections)))

-- one fault or none
one_or_none : (b : Bool) (f : Fault) → any_fault (if b then f ∷ [] else []) ≡ b
one_or_none true f = refl
one_or_none false f = refl

section_rows_named : (i : Located) (rows : Rows) (j : Located) (b : Bool)
    → any_fault (row_faults i rows j b) ≡ any_row_clashes i.path rows j
section_rows_named i no_rows j b = refl
section_rows_named i (row keys at v rows) j b =
    three-append _ _ (row_faults i rows j b)
    ∙ ap (λ x. (x || any_fault (if row_crossed i.path steps j then two ∷ [] else [])) || any_fault
    (row_faults i rows j b)) (one_or_none (row_on_path i.path steps j) one)
    ∙ ap (λ x. (row_on_path i.path steps j || x) || any_fault (row_faults i rows j b))
    (one_or_none (row_crossed i.path steps j) two)
    ∙ ap (λ x. (row_on_path i.path steps j || row_crossed i.path steps j) || x) (section_rows_named i rows j b)
  where
    steps : Path
    steps = steps_of (texts keys)

    one : Fault
    one = crossing_fault (length i.section.header) (length keys) keys j.section.header b

    two : Fault
    two = crossing_fault (length i.section.header) (length j.section.header - length i.section.header) keys
        j.section.header b

turned : (i j : Located) → same_path i j ≡ same_path j i
turned i j = go (begins i.path j.path) (begins j.path i.path)
  where
    go : (a b : Bool) → (a && b) ≡ (b && a)
    go true true = refl
    go true false = refl
    go false true = refl
    go false false = refl

pair_is : (s c d r q : Bool) → ((s || (c || d)) || (r || q)) ≡ ((s || (c || r)) || (s || (d || q)))
pair_is true c d r q = refl
pair_is false c d r q = both c d r q

pair_named : (i j : Located) → any_fault (pair_faults i j) ≡ clashes i j
pair_named i j =
    any-append (path_faults i j ++ (cut_faults i j j.section ++ cut_faults j i j.section))
    (row_faults i i.section.rows j true ++ row_faults j j.section.rows i false)
    ∙ ap (λ x. x || any_fault (row_faults i i.section.rows j true ++ row_faults j j.section.rows i false)) front
    ∙ ap (λ x. (same_path i j || (array_on_cut i j || array_on_cut j i)) || x) back
    ∙ pair_is (same_path i j) (array_on_cut i j) (array_on_cut j i) (any_row_clashes i.path i.section.rows j)
    (any_row_clashes j.path j.section.rows i)
    ∙ ap (λ x. clashes_one_way i j || (x || (array_on_cut j i || any_row_clashes j.path j.section.rows i))) (turned i j)
  where
    cut : (i j : Located) (later : Section) → any_fault (cut_faults i j later) ≡ array_on_cut i j
    cut i j later = one_or_none (array_on_cut i j)
        (if path_eq i.path (target j) then table_fault later else array_fault later)

    front : any_fault (path_faults i j ++ (cut_faults i j j.section ++ cut_faults j i j.section))
        ≡ (same_path i j || (array_on_cut i j || array_on_cut j i))
    front = any-append (path_faults i j) (cut_faults i j j.section ++ cut_faults j i j.section)
        ∙ ap (λ x. x || any_fault (cut_faults i j j.section ++ cut_faults j i j.section))
        (one_or_none (same_path i j) (table_fault j.section))
        ∙ ap (λ x. same_path i j || x) (any-append (cut_faults i j j.section) (cut_faults j i j.section)
        ∙ ap (λ x. x || any_fault (cut_faults j i j.section)) (cut i j j.section) ∙
        ap (λ x. array_on_cut i j || x) (cut j i j.section))

    back : any_fault (row_faults i i.section.rows j true ++ row_faults j j.section.rows i false)
        ≡ (any_row_clashes i.path i.section.rows j || any_row_clashes j.path j.section.rows i)
    back = any-append (row_faults i i.section.rows j true) (row_faults j j.section.rows i false)
        ∙ ap (λ x. x || any_fault (row_faults j j.section.rows i false)) (section_rows_named i i.section.rows j true)
        ∙ ap (λ x. any_row_clashes i.path i.section.rows j || x) (section_rows_named j j.section.rows i false)

with_all : (l : Located) (ls : List Located) → any_fault (flat_map (pair_faults l) ls) ≡ list_any (clashes l) ls
with_all l [] = refl
with_all l (x ∷ ls) = any-append (pair_faults l x) (flat_map (pair_faults l) ls)
    ∙ ap (λ b. b || any_fault (flat_map (pair_faults l) ls)) (pair_named l x) ∙
    ap (λ b. clashes l x || b) (with_all l ls)

pairs_named : (ls : List Located) → any_fault (section_faults ls) ≡ any_pair clashes ls
pairs_named [] = refl
pairs_named (l ∷ ls) = any-append (flat_map (pair_faults l) ls) (section_faults ls)
    ∙ ap (λ b. b || any_fault (section_faults ls)) (with_all l ls) ∙
    ap (λ b. list_any (clashes l) ls || b) (pairs_named ls)

first_named : (a b : List Fault) → any_fault (first_of_two a b) ≡ (any_fault a || any_fault b)
first_named [] b = refl
first_named (f ∷ a) b = refl

assoc : (a b c : Bool) → (a || (b || c)) ≡ ((a || b) || c)
assoc true b c = refl
assoc false b c = refl

pub every_clash_named : (sections : List Section) → list_any (λ f. true) (clash_faults sections) ≡ has_clash sections
every_clash_named sections =
    first_named dotted (repeated ++ pairs)
    ∙ ap (λ b. any_fault dotted || b) (any-append repeated pairs)
    ∙ assoc (any_fault dotted) (any_fault repeated) (any_fault pairs)
    ∙ ap (λ b. b || any_fault pairs) (sym (all_rows_named sections))
    ∙ ap (λ b. has_row_clash sections || b) (pairs_named (located sections))
  where
    dotted : List Fault
    dotted = flat_map (λ s. dotted_faults s.rows) sections

    repeated : List Fault
    repeated = flat_map repeated_faults_of sections

    pairs : List Fault
    pairs = section_faults (located sections)

-- a clash that is named stands
pub named_clashes : (sections : List Section) (f : Fault) → NamesClash sections f → has_clash sections ≡ true
named_clashes sections f c = sym (every_clash_named sections) ∙ some (clash_faults sections) c
  where
    some : (fs : List Fault) → Contains fs f → list_any (λ g. true) fs ≡ true
    some [] c = let h : c.0 < 0 = c.1 in absurd (omega arith)
    some (g ∷ fs) c = refl
