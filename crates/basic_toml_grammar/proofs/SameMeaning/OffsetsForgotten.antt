-- What a section list means does not depend on offsets.
use Rattle.std.proofs.Common.{◌≡◌, ℕ, zero, suc, cond, List, [], ◌∷◌, ◌++◌, length, take, refl, ap, ◌∙◌, Some, None}
use Rattle.std.specs.Prelude.{◌&&◌, ◌||◌, not, nat_le}
use Rattle.std.specs.List.{list_any}
use Rattle.basic_toml_value.specs.Data as d
use Rattle.basic_toml_grammar.specs.Sections.{KeyTexts, texts, Raw, Elements, Rows, Section}
use Rattle.basic_toml_grammar.specs.Steps.{Path, path_eq, begins, steps_of, overlap}
use Rattle.basic_toml_grammar.specs.RowClash.{any_overlaps, rows_clash, value_clashes, elements_clash, has_row_clash}
use Rattle.basic_toml_grammar.specs.IndexedPath.{latest, key_at, count_of, cut, cuts_to, Located, located_after}
use Rattle.basic_toml_grammar.specs.IndexedPath.{located_from, located}
use Rattle.basic_toml_grammar.specs.SectionClash.{without_last_number, target, inner_beginnings, any_row_clashes}
use Rattle.basic_toml_grammar.specs.SectionClash.{clashes_one_way, clashes, any_pair}
use Rattle.basic_toml_grammar.specs.Mentions.{finished, finished_elements, row_mentions, section_mentions, mentions}
use Rattle.basic_toml_grammar.specs.Growth.{tree_of}
use Rattle.basic_toml_value.specs.Nesting.{nesting_limit}
use Rattle.basic_toml_grammar.specs.Depth.{depth}
use Rattle.basic_toml_grammar.specs.Document.{tree_of_sections, document_of}
use Rattle.basic_toml_grammar.proofs.SameMeaning.SameSections.{SameRaw, same_integer, same_float, same_boolean}
use Rattle.basic_toml_grammar.proofs.SameMeaning.SameSections.{same_string, same_array, same_inline, SameElements}
use Rattle.basic_toml_grammar.proofs.SameMeaning.SameSections.{no_more_elements, one_element, SameRows, no_more_rows}
use Rattle.basic_toml_grammar.proofs.SameMeaning.SameSections.{one_row, SameSection, SameSections, no_more_sections}
use Rattle.basic_toml_grammar.proofs.SameMeaning.SameSections.{one_section}

overlaps_same : (p : Path) {rs qs : Rows} → SameRows rs qs → any_overlaps p rs ≡ any_overlaps p qs
overlaps_same p no_more_rows = refl
overlaps_same p (one_row k v r) = (λ i. overlap p (steps_of (k i)) || overlaps_same p r i)

mutual
  rows_clash_same : {rs qs : Rows} → SameRows rs qs → rows_clash rs ≡ rows_clash qs
  rows_clash_same no_more_rows = refl
  rows_clash_same (one_row {ls = ls} {v = v} {rs = rs} k x r) =
      ap (λ ks. (any_overlaps (steps_of ks) rs || value_clashes v) || rows_clash rs) k
      ∙ (λ i. (overlaps_same (steps_of (texts ls)) r i || value_clashes_same x i) || rows_clash_same r i)

  value_clashes_same : {v w : Raw} → SameRaw v w → value_clashes v ≡ value_clashes w
  value_clashes_same same_integer = refl
  value_clashes_same same_float = refl
  value_clashes_same same_boolean = refl
  value_clashes_same same_string = refl
  value_clashes_same (same_array h) = elements_clash_same h
  value_clashes_same (same_inline h) = rows_clash_same h

  elements_clash_same : {es fs : Elements} → SameElements es fs → elements_clash es ≡ elements_clash fs
  elements_clash_same no_more_elements = refl
  elements_clash_same (one_element v h) = (λ i. value_clashes_same v i || elements_clash_same h i)

mutual
  finished_same : {v w : Raw} → SameRaw v w → finished v ≡ finished w
  finished_same same_integer = refl
  finished_same same_float = refl
  finished_same same_boolean = refl
  finished_same same_string = refl
  finished_same (same_array h) = ap d.array (elements_finished_same h)
  finished_same (same_inline h) = ap tree_of (row_mentions_same [] h)

  elements_finished_same : {es fs : Elements} → SameElements es fs → finished_elements es ≡ finished_elements fs
  elements_finished_same no_more_elements = refl
  elements_finished_same (one_element v h) = (λ i. d.item (finished_same v i) (elements_finished_same h i))

  row_mentions_same : (p : Path) {rs qs : Rows} → SameRows rs qs → row_mentions p rs ≡ row_mentions p qs
  row_mentions_same p no_more_rows = refl
  row_mentions_same p (one_row k v h) =
      (λ i. record { path = p ++ steps_of (k i); value = Some (finished_same v i) } ∷ row_mentions_same p h i)

row_clash_same : {ss ts : List Section} → SameSections ss ts → has_row_clash ss ≡ has_row_clash ts
row_clash_same no_more_sections = refl
row_clash_same (one_section s h) = (λ i. rows_clash_same s.rows i || row_clash_same h i)

-- cuts
abbrev CutSame : ℕ → Type 0
CutSame l = (ss ts : List Section) → SameSections ss ts → (header : KeyTexts) → cut l ss header ≡ cut l ts header

count_same : (l : ℕ) → CutSame l → (header : KeyTexts) (p : Path) {ss ts : List Section} → SameSections ss ts
    → count_of (cut l) header p ss ≡ count_of (cut l) header p ts
count_same l same header p no_more_sections = refl
count_same l same header p (one_section {s = s} {t = t} {ss = ss} {ts = ts} x h) =
    (λ i. cond ((x.is_array i && path_eq (steps_of (x.header i)) (steps_of header)) && path_eq (own i) p)
    (suc (count_same l same header p h i)) (count_same l same header p h i))
  where
    own : cut l (s ∷ ss) (texts s.header) ≡ cut l (t ∷ ts) (texts t.header)
    own = same (s ∷ ss) (t ∷ ts) (one_section x h) (texts s.header) ∙ ap (λ k. cut l (t ∷ ts) k) x.header

cut_same : (l : ℕ) → CutSame l
cut_same zero ss ts h header = refl
cut_same (suc l) ss ts h header =
    ap (λ b. (b ++ key_at l header) ++ latest (count_of (cut l) (take (suc l) header) b ss)) (cut_same l ss ts h header)
    ∙ ap (λ n. (cut l ts header ++ key_at l header) ++ latest n)
    (count_same l (cut_same l) (take (suc l) header) (cut l ts header) h)

cuts_same : (l : ℕ) (ss ts : List Section) → SameSections ss ts → (header : KeyTexts)
    → cuts_to l ss header ≡ cuts_to l ts header
cuts_same zero ss ts h header = refl
cuts_same (suc l) ss ts h header = (λ i. cut_same (suc l) ss ts h header i ∷ cuts_same l ss ts h header i)

record SameLocated (i j : Located) : Type 0 where
  section : SameSection i.section j.section
  path : i.path ≡ j.path
  cuts : i.cuts ≡ j.cuts

located_same : {s t : Section} {earlier before : List Section} → SameSections earlier before → SameSection s t
    → SameLocated (located_after earlier s) (located_after before t)
located_same {s = s} {t = t} {earlier = earlier} {before = before} h x = record {
  section = x;
  path = cut_same (length (texts s.header)) (s ∷ earlier) (t ∷ before) (one_section x h) (texts s.header) ∙
      ap (λ k. cut (length k) (t ∷ before) k) x.header;
  cuts = cuts_same (length (texts s.header)) (s ∷ earlier) (t ∷ before) (one_section x h) (texts s.header) ∙
      ap (λ k. cuts_to (length k) (t ∷ before) k) x.header;
}

data AllSame : List Located → List Located → Type 0 where
  no_more : AllSame [] []
  one_more : {i j : Located} {is js : List Located} → SameLocated i j → AllSame is js → AllSame (i ∷ is) (j ∷ js)

all_same : {ss ts earlier before : List Section} → SameSections earlier before → SameSections ss ts
    → AllSame (located_from earlier ss) (located_from before ts)
all_same h no_more_sections = no_more
all_same h (one_section x r) = one_more (located_same h x) (all_same (one_section x h) r)

-- clashes
target_same : {i j : Located} → SameLocated i j → target i ≡ target j
target_same x = (λ n. cond (x.section.is_array n) (without_last_number (x.path n)) (x.path n))

row_clashes_same : {i j : Located} {p q : Path} {rs qs : Rows} → SameLocated i j → p ≡ q → SameRows rs qs
    → any_row_clashes p rs i ≡ any_row_clashes q qs j
row_clashes_same x e no_more_rows = refl
row_clashes_same x e (one_row k v h) = (λ n.
    (begins (e n ++ steps_of (k n)) (x.path n) || list_any (λ b. path_eq (e n ++ b) (target_same x n))
    (inner_beginnings (steps_of (k n)))) || row_clashes_same x e h n)

one_way_same : {i j k l : Located} → SameLocated i k → SameLocated j l → clashes_one_way i j ≡ clashes_one_way k l
one_way_same x y = (λ n.
    path_eq (x.path n) (y.path n)
    || ((y.section.is_array n && list_any (λ c. path_eq c (target_same y n)) (x.cuts n)) || row_clashes_same y x.path
    x.section.rows n))

any_same : {i j : Located} {is js : List Located} → SameLocated i j → AllSame is js
    → list_any (clashes i) is ≡ list_any (clashes j) js
any_same x no_more = refl
any_same x (one_more y h) = (λ n. (one_way_same x y n || one_way_same y x n) || any_same x h n)

pairs_same : {is js : List Located} → AllSame is js → any_pair clashes is ≡ any_pair clashes js
pairs_same no_more = refl
pairs_same (one_more x h) = (λ n. any_same x h n || pairs_same h n)

mentions_same : {is js : List Located} → AllSame is js → mentions is ≡ mentions js
mentions_same no_more = refl
mentions_same (one_more {i = i} {j = j} {is = is} x h) =
    ap (λ p. section_mentions p i.section.rows ++ mentions is) x.path
    ∙ (λ n. (record { path = j.path; value = None } ∷ row_mentions_same j.path x.section.rows n) ++ mentions_same h n)

-- the document
pub document_same : {ss ts : List Section} → SameSections ss ts → document_of ss ≡ document_of ts
document_same {ss = ss} {ts = ts} h =
    (λ n. cond ((row_clash_same h n || pairs_same all n) || not (nat_le (depth (tree n)) nesting_limit)) None
    (Some (tree n)))
  where
    all : AllSame (located ss) (located ts)
    all = all_same no_more_sections h

    tree : tree_of_sections ss ≡ tree_of_sections ts
    tree = ap tree_of (mentions_same all)
