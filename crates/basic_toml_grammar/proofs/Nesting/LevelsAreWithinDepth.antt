-- No level of a text passes the depth of its document.
use Rattle.std.proofs.Common.{◌≡◌, ℕ, suc, ◌+◌, ◌-◌, ◌≤◌, Bool, true, false, List, [], ◌∷◌, ◌++◌, length, take, refl}
use Rattle.std.proofs.Common.{ap, sym, ◌∙◌, arith, length-append, Option, Some, None}
use Rattle.std.specs.Prelude.{◌&&◌, ◌||◌, ℤ, codes, if◌then◌else◌}
use Rattle.std.proofs.lemmas.Bool.{false≢true, and_parts, and_from, or_parts}
use Rattle.std.specs.Str.{bytes_eq}
use Rattle.basic_toml_tokens.specs.Text.{Text, run}
use Rattle.basic_toml_value.specs.Data.{Data}
use Rattle.basic_toml_grammar.specs.Sections.{Key, KeyTexts, texts, Raw, Elements, no_elements, element, Rows}
use Rattle.basic_toml_grammar.specs.Sections.{no_rows, row, Section}
use Rattle.basic_toml_grammar.specs.Steps.{key, number, Path, steps_of, keys_of}
use Rattle.basic_toml_grammar.specs.RowClash.{any_overlaps, rows_clash, value_clashes, elements_clash, has_row_clash}
use Rattle.basic_toml_grammar.specs.IndexedPath.{located_after, located_from, located}
use Rattle.basic_toml_grammar.specs.SectionClash.{sections_clash}
use Rattle.basic_toml_grammar.specs.Tree.{Mention}
use Rattle.basic_toml_grammar.specs.Growth.{tree_of}
use Rattle.basic_toml_grammar.specs.Mentions.{finished, finished_elements, row_mentions, section_mentions, mentions}
use Rattle.basic_toml_grammar.specs.Depth.{depth, depth_of_items}
use Rattle.basic_toml_grammar.specs.Levels.{value_level, elements_level, rows_level, highest_level}
use Rattle.basic_toml_grammar.specs.Grammar.{IsKeys, IsValue, word, string, array, inline, IsElements, close, last}
use Rattle.basic_toml_grammar.specs.Grammar.{and_more, IsFields, none, some, IsFieldsOn, last_row, more_rows, IsRow}
use Rattle.basic_toml_grammar.specs.Grammar.{assigned, IsRows, over, header_next, empty_line, row_line, IsSections}
use Rattle.basic_toml_grammar.specs.Grammar.{no_more, section, with_root, IsSectionListBy, number_value, word_value}
use Rattle.basic_toml_grammar.specs.Grammar.{is_wordlike}
use Rattle.basic_toml_grammar.specs.Entering.{all_keyed, has_key, keyed_within, value_keyed, elements_keyed}
use Rattle.basic_toml_grammar.specs.Entering.{all_keyed_within}
use Rattle.basic_toml_numbers.specs.Numbers.{integer_of, float_of}
use Rattle.basic_toml_grammar.specs.Document.{has_clash, tree_of_sections}
use Rattle.basic_toml_grammar.proofs.AmongElements.{Among, first, next, among_left, among_right}
use Rattle.basic_toml_grammar.proofs.Trees.TreeIsGrouped.{tree_is_grouped}
use Rattle.basic_toml_grammar.proofs.Clash.PathsAgree.{keys_cut, cuts_are, counts_are, count_in}
use Rattle.basic_toml_grammar.proofs.Nesting.TreeIsAsDeepAsMentions.{end_depth, reached}
use Rattle.basic_toml_grammar.proofs.Trees.PeacefulSectionsDoNotOverlap.{RowOf, this, later}
use Rattle.basic_toml_grammar.proofs.Trees.MentionsDoNotOverlap.{rows_peace, mentions_peace}
use Rattle.basic_toml_grammar.proofs.SameMeaning.OldDocumentsStand.{some_keys, list_keyed}

pub length_steps : (ks : KeyTexts) → length (steps_of ks) ≡ length ks
length_steps [] = refl
length_steps (k ∷ ks) = ap (λ n. suc n) (length_steps ks)

pub length_texts : (keys : List Key) → length (texts keys) ≡ length keys
length_texts [] = refl
length_texts (k ∷ keys) = ap (λ n. suc n) (length_texts keys)

pub row_among : {ks : KeyTexts} {d : Data} {rs : Rows} (p : Path) → RowOf ks d rs
    → Among (record { path = p ++ steps_of ks; value = Some d }) (row_mentions p rs)
row_among p this = first
row_among p (later x) = next (row_among p x)

some_depth : (keys : List Key) → has_key keys ≡ true → 1 ≤ length (texts keys)
some_depth [] e = absurd (false≢true e)
some_depth (k ∷ keys) e = omega arith

pub inline_depth : (rs : Rows) → keyed_within rs ≡ true
    → ((ks : KeyTexts) (d : Data) → RowOf ks d rs → length ks + depth d ≤ depth (tree_of (row_mentions [] rs)))
    → 1 ≤ depth (tree_of (row_mentions [] rs))
inline_depth no_rows k h = omega arith
inline_depth (row keys at v rs) k h =
    let a : ((has_key keys && value_keyed v) ≡ true) × (keyed_within rs ≡ true) = and_parts _ _ k in
    let b : (has_key keys ≡ true) × (value_keyed v ≡ true) = and_parts _ _ a.0 in
    omega (arith, some_depth keys b.0, h (texts keys) (finished v) this)

pub rows_reach : (rs : Rows) → rows_clash rs ≡ false → (ks : KeyTexts) (d : Data) → RowOf ks d rs
    → length ks + depth d ≤ depth (tree_of (row_mentions [] rs))
rows_reach rs e ks d x =
    let h : length (steps_of ks) + end_depth (Some d) ≤ depth (tree_of (row_mentions [] rs)) =
    reached (steps_of ks) (Some d) (row_mentions [] rs) (tree_of (row_mentions [] rs)) (rows_peace [] rs e)
    (row_among [] x) ((tree_is_grouped (row_mentions [] rs) _).1 refl) in
    omega (arith, length_steps ks)

mutual
  value_within : (v : Raw) (l : ℕ) → value_clashes v ≡ false → value_keyed v ≡ true
      → value_level l v ≤ l + depth (finished v)
  value_within (Raw.integer z) l e k = omega arith
  value_within (Raw.float t) l e k = omega arith
  value_within (Raw.boolean b) l e k = omega arith
  value_within (Raw.string t _) l e k = omega arith
  value_within (Raw.array es) l e k = omega (arith, elements_within es (l + 1) e k)
  value_within (Raw.inline rs) l e k =
      let deep : 1 ≤ depth (tree_of (row_mentions [] rs)) = inline_depth rs k (rows_reach rs e) in
      let rows : rows_level (l + 1) rs ≤ l + depth (tree_of (row_mentions [] rs)) =
      rows_within rs l (l + depth (tree_of (row_mentions [] rs))) e k
      (λ ks d x. omega (arith, rows_reach rs e ks d x)) in
      omega arith

  elements_within : (es : Elements) (l : ℕ) → elements_clash es ≡ false → elements_keyed es ≡ true
      → elements_level l es ≤ l + depth_of_items (finished_elements es)
  elements_within no_elements l e k = omega arith
  elements_within (element at v es) l e k =
      let a : (value_clashes v ≡ false) × (elements_clash es ≡ false) = or_parts _ _ e in
      let b : (value_keyed v ≡ true) × (elements_keyed es ≡ true) = and_parts _ _ k in
      omega (arith, value_within v l a.0 b.0, elements_within es l a.1 b.1)

  rows_within : (rs : Rows) (b n : ℕ) → rows_clash rs ≡ false → keyed_within rs ≡ true
      → ((ks : KeyTexts) (d : Data) → RowOf ks d rs → b + (length ks + depth d) ≤ n) → rows_level (b + 1) rs ≤ n
  rows_within no_rows b n e k h = omega arith
  rows_within (row keys at v rs) b n e k h =
      let a : ((any_overlaps (steps_of (texts keys)) rs || value_clashes v) ≡ false) × (rows_clash rs ≡ false) =
      or_parts _ _ e in
      let c : (any_overlaps (steps_of (texts keys)) rs ≡ false) × (value_clashes v ≡ false) = or_parts _ _ a.0 in
      let f : ((has_key keys && value_keyed v) ≡ true) × (keyed_within rs ≡ true) = and_parts _ _ k in
      let g : (has_key keys ≡ true) × (value_keyed v ≡ true) = and_parts _ _ f.0 in
      let here : b + (length (texts keys) + depth (finished v)) ≤ n = h (texts keys) (finished v) this in
      let value : value_level (b + 1 + length keys - 1) v ≤ (b + 1 + length keys - 1) + depth (finished v) =
      value_within v (b + 1 + length keys - 1) c.1 g.1 in
      let rest : rows_level (b + 1) rs ≤ n = rows_within rs b n a.1 f.1 (λ ks d x. h ks d (later x)) in
      omega (arith, length_texts keys)

-- a path is at least as long as its header
length_keys : (p : Path) → length (keys_of p) ≤ length p
length_keys [] = omega arith
length_keys (key k ∷ p) = omega (arith, length_keys p)
length_keys (number n ∷ p) = omega (arith, length_keys p)

take_all_keys : (ks : KeyTexts) → take (length ks) ks ≡ ks
take_all_keys [] = refl
take_all_keys (k ∷ ks) = ap (λ ks. k ∷ ks) (take_all_keys ks)

header_length : (s : Section) (earlier : List Section) → length s.header ≤ length (located_after earlier s).path
header_length s earlier =
    let header : KeyTexts = texts s.header in
    let keys : keys_of (located_after earlier s).path ≡ header =
    ap keys_of (cuts_are s earlier (counts_are earlier) (length header) (omega arith)) ∙
    keys_cut (count_in earlier) s.is_array [] header (length header) ∙ take_all_keys header in
    omega (arith, length_keys (located_after earlier s).path, ap length keys, length_texts s.header)

levels_from : (n : ℕ) (earlier ss : List Section)
    → ((m : Mention) → Among m (mentions (located_from earlier ss)) → length m.path + end_depth m.value ≤ n)
    → has_row_clash ss ≡ false → all_keyed_within ss ≡ true → highest_level ss ≤ n
levels_from n earlier [] h e k = omega arith
levels_from n earlier (s ∷ ss) h e k =
    let a : (rows_clash s.rows ≡ false) × (has_row_clash ss ≡ false) = or_parts _ _ e in
    let b : (keyed_within s.rows ≡ true) × (all_keyed_within ss ≡ true) = and_parts _ _ k in
    let p : Path = (located_after earlier s).path in
    let table : length p + 1 ≤ n = h (record { path = p; value = None }) first in
    let rows : rows_level (length s.header + 1) s.rows ≤ n = rows_within s.rows (length s.header) n a.0 b.0 row in
    let rest : highest_level ss ≤ n =
    levels_from n (s ∷ earlier) ss (λ m x. h m (among_right (section_mentions p s.rows) x)) a.1 b.1 in
    omega (arith, header_length s earlier)
  where
    row : (ks : KeyTexts) (d : Data) → RowOf ks d s.rows → length s.header + (length ks + depth d) ≤ n
    row ks d x =
        let p : Path = (located_after earlier s).path in
        let there : length (p ++ steps_of ks) + depth d ≤ n =
        h (record { path = p ++ steps_of ks; value = Some d })
        (among_left (mentions (located_from (s ∷ earlier) ss)) (next (row_among p x))) in
        omega (arith, length-append p (steps_of ks), length_steps ks, header_length s earlier)

-- the grammar gives each row a key, in values too
has_some : {text rest : Text} {ks : List Key} → IsKeys text ks rest → has_key ks ≡ true
has_some ks = let r = some_keys ks in ap has_key r.2

number_keyed : (z : Option ℤ) (t : Option (List ℕ)) (v : Raw) → number_value z t ≡ Some v → value_keyed v ≡ true
number_keyed (Some z) t v e = let same : Raw.integer z ≡ v = cc in ap value_keyed (sym same)
number_keyed None (Some t) v e = let same : Raw.float t ≡ v = cc in ap value_keyed (sym same)
number_keyed None None v e = cc

word_keyed : (w : List ℕ) (v : Raw) → word_value w ≡ Some v → value_keyed v ≡ true
word_keyed w v e = go (bytes_eq w (codes "true")) (bytes_eq w (codes "false")) e
  where
    go : (a b : Bool) → (if a then Some (Raw.boolean true) else if b then Some (Raw.boolean false) else number_value
        (integer_of w) (float_of w)) ≡ Some v → value_keyed v ≡ true
    go true b e = let same : Raw.boolean true ≡ v = cc in ap value_keyed (sym same)
    go false true e = let same : Raw.boolean false ≡ v = cc in ap value_keyed (sym same)
    go false false e = number_keyed (integer_of w) (float_of w) v e

row_keys : (ks : List Key) (p : ℕ) (v : Raw) (rs : Rows) → has_key ks ≡ true → value_keyed v ≡ true
    → keyed_within rs ≡ true → keyed_within (row ks p v rs) ≡ true
row_keys ks p v rs a b c = and_from _ _ (and_from _ _ a b) c

module _ (comment : ℕ → Bool) where
  mutual
    value_keys : {text rest : Text} {p : ℕ} {v : Raw} → IsValue comment text p v rest → value_keyed v ≡ true
    value_keys {text = text} (word {v = v} s w e) = word_keyed (run is_wordlike text) v e
    value_keys (string s) = refl
    value_keys (array s es) = elements_keys es
    value_keys (inline s rs) = fields_keys rs

    elements_keys : {text rest : Text} {es : Elements} → IsElements comment text es rest → elements_keyed es ≡ true
    elements_keys (close s) = refl
    elements_keys (last v s) = and_from _ _ (value_keys v) refl
    elements_keys (and_more v s es) = and_from _ _ (value_keys v) (elements_keys es)

    fields_keys : {text rest : Text} {rs : Rows} → IsFields comment text rs rest → keyed_within rs ≡ true
    fields_keys (none s) = refl
    fields_keys (some rs) = fields_on_keys rs

    fields_on_keys : {text rest : Text} {rs : Rows} → IsFieldsOn comment text rs rest → keyed_within rs ≡ true
    fields_on_keys (last_row {keys = ks} {p = p} {v = v} r s) = let k = assigned_keys r in
        row_keys ks p v no_rows k.0 k.1 refl
    fields_on_keys (more_rows {keys = ks} {p = p} {v = v} {rows = rs} r s xs) = let k = assigned_keys r in
        row_keys ks p v rs k.0 k.1 (fields_on_keys xs)

    assigned_keys : {text rest : Text} {ks : List Key} {p : ℕ} {v : Raw} → IsRow comment text ks p v rest
        → (has_key ks ≡ true) × (value_keyed v ≡ true)
    assigned_keys (assigned ks s v) = (has_some ks, value_keys v)

  rows_keys : {text rest : Text} {rs : Rows} → IsRows comment text rs rest → keyed_within rs ≡ true
  rows_keys over = refl
  rows_keys (header_next s) = refl
  rows_keys (empty_line e rs) = rows_keys rs
  rows_keys (row_line {keys = ks} {p = p} {v = v} {rows = rs} r e xs) = let k = assigned_keys r in
      row_keys ks p v rs k.0 k.1 (rows_keys xs)

  sections_keys : {text : Text} {ss : List Section} → IsSections comment text ss → all_keyed_within ss ≡ true
  sections_keys no_more = refl
  sections_keys (section h e rs ss) = and_from _ _ (rows_keys rs) (sections_keys ss)

root_keys : (rs : Rows) (ss : List Section) → keyed_within rs ≡ true → all_keyed_within ss ≡ true
    → all_keyed_within (with_root rs ss) ≡ true
root_keys no_rows ss h k = k
root_keys (row ks p v rs) ss h k = and_from _ _ h k

pub list_keys : {comment : ℕ → Bool} {text : Text} {ss : List Section} → IsSectionListBy comment text ss
    → all_keyed_within ss ≡ true
list_keys {comment = comment} g = ap all_keyed_within g.all ∙
    root_keys g.rows g.headed (rows_keys comment g.root) (sections_keys comment g.others)

-- each mention of a list without clashes is as deep as its tree at most
pub mentions_within : (ss : List Section) → all_keyed ss ≡ true → has_clash ss ≡ false → (m : Mention)
    → Among m (mentions (located ss)) → length m.path + end_depth m.value ≤ depth (tree_of_sections ss)
mentions_within ss k e m a =
    let r : (has_row_clash ss ≡ false) × (sections_clash ss ≡ false) = or_parts _ _ e in
    reached m.path m.value (mentions (located ss)) (tree_of_sections ss) (mentions_peace ss k r.0 r.1) a
    ((tree_is_grouped (mentions (located ss)) _).1 refl)

-- no level passes the depth of the tree
pub levels_within : {comment : ℕ → Bool} {text : Text} (ss : List Section) → IsSectionListBy comment text ss
    → has_clash ss ≡ false → highest_level ss ≤ depth (tree_of_sections ss)
levels_within ss g e =
    let r : (has_row_clash ss ≡ false) × (sections_clash ss ≡ false) = or_parts _ _ e in
    levels_from (depth (tree_of_sections ss)) [] ss (mentions_within ss (list_keyed g) e) r.0 (list_keys g)
