-- Where nothing clashes, a tree is exactly as deep as its highest level: a value by its brackets and keys, a table by
-- its rows, and the tree of a list by its sections.
use Rattle.std.proofs.Common.{◌≡◌, ◌⊎◌, inl, inr, ℕ, zero, suc, ◌+◌, ◌-◌, ◌≤◌, ◌<◌, Bool, true, false, cond, List}
use Rattle.std.proofs.Common.{[], ◌∷◌, ◌++◌, length, refl, ap, sym, ◌∙◌, subst, arith, length-append, Some, None}
use Rattle.std.specs.Prelude.{◌&&◌, ◌||◌, max, nat_lt, Contains}
use Rattle.std.proofs.lemmas.Bool.{and_parts, or_parts, ltb-true, ltb-false}
use Rattle.basic_toml_value.specs.Data.{Data}
use Rattle.basic_toml_grammar.specs.Sections.{KeyTexts, texts, Raw, Elements, no_elements, element, Rows}
use Rattle.basic_toml_grammar.specs.Sections.{no_rows, row, Section}
use Rattle.basic_toml_grammar.specs.Steps.{Path, steps_of}
use Rattle.basic_toml_grammar.specs.RowClash.{any_overlaps, rows_clash, value_clashes, elements_clash, has_row_clash}
use Rattle.basic_toml_grammar.specs.IndexedPath.{Located, located_after, located_from, located}
use Rattle.basic_toml_grammar.specs.Tree.{Mention}
use Rattle.basic_toml_grammar.specs.Growth.{tree_of}
use Rattle.basic_toml_grammar.specs.Mentions.{finished, finished_elements, row_mentions, section_mentions, mentions}
use Rattle.basic_toml_grammar.specs.Depth.{depth, depth_of_items}
use Rattle.basic_toml_grammar.specs.Levels.{value_level, elements_level, rows_level}
use Rattle.basic_toml_grammar.specs.NestingFaults.{tree_level, highest_tree_level, deep_sections}
use Rattle.basic_toml_grammar.specs.Entering.{all_keyed, has_key, keyed_within, value_keyed, elements_keyed}
use Rattle.basic_toml_grammar.specs.Entering.{all_keyed_within}
use Rattle.basic_toml_grammar.specs.Document.{has_clash, tree_of_sections}
use Rattle.basic_toml_grammar.specs.SectionClash.{sections_clash}
use Rattle.basic_toml_grammar.proofs.AmongElements.{Among, first, next, among_left, among_right, among_either}
use Rattle.basic_toml_grammar.proofs.Trees.TreeIsGrouped.{tree_is_grouped}
use Rattle.basic_toml_grammar.proofs.Nesting.TreeIsAsDeepAsMentions.{mention, end_depth}
use Rattle.basic_toml_grammar.proofs.Nesting.TreeIsNoDeeperThanMentions.{MentionsWithin, among_head, no_deeper}
use Rattle.basic_toml_grammar.proofs.Trees.PeacefulSectionsDoNotOverlap.{RowOf, this, later}
use Rattle.basic_toml_grammar.proofs.Nesting.LevelsAreWithinDepth.{length_steps, length_texts, row_among}
use Rattle.basic_toml_grammar.proofs.Nesting.LevelsAreWithinDepth.{inline_depth, rows_reach, mentions_within}

-- so deep above a level; a value that is not deep has no level
abbrev pub lifted : ℕ → ℕ → ℕ
lifted l zero = 0
lifted l (suc n) = l + suc n

lifted_deep : (l n : ℕ) → 1 ≤ n → lifted l n ≡ l + n
lifted_deep l zero h = omega arith
lifted_deep l (suc n) h = refl

lifted_max : (l n m : ℕ) → lifted l (max n m) ≡ max (lifted l n) (lifted l m)
lifted_max l zero zero = refl
lifted_max l zero (suc m) =
    let e : max 0 (suc m) ≡ suc m = omega arith in
    let f : lifted l (max 0 (suc m)) ≡ l + suc m = ap (lifted l) e in
    omega arith
lifted_max l (suc n) zero =
    let e : max (suc n) 0 ≡ suc n = omega arith in
    let f : lifted l (max (suc n) 0) ≡ l + suc n = ap (lifted l) e in
    omega arith
lifted_max l (suc n) (suc m) =
    let f : lifted l (max (suc n) (suc m)) ≡ l + max (suc n) (suc m) =
    lifted_deep l (max (suc n) (suc m)) (omega arith) in
    omega arith

max_lifted : (l n : ℕ) → max l (lifted l n) ≡ l + n
max_lifted l zero = omega arith
max_lifted l (suc n) = omega arith

-- how deep the deepest row makes its table
abbrev pub deepest_row : Rows → ℕ
deepest_row no_rows = 0
deepest_row (row keys at v rows) = max (length keys + depth (finished v)) (deepest_row rows)

deepest_within : (rs : Rows) (n : ℕ) → ((ks : KeyTexts) (d : Data) → RowOf ks d rs → length ks + depth d ≤ n)
    → deepest_row rs ≤ n
deepest_within no_rows n h = omega arith
deepest_within (row keys at v rs) n h =
    let here : length (texts keys) + depth (finished v) ≤ n = h (texts keys) (finished v) this in
    omega (arith, length_texts keys, deepest_within rs n (λ ks d x. h ks d (later x)))

within_deepest : (p : Path) (rs : Rows) (n : ℕ) → length p + deepest_row rs ≤ n → MentionsWithin n (row_mentions p rs)
within_deepest p no_rows n h m a = elim a [ ]
within_deepest p (row keys at v rs) n h m a = go (within_deepest p rs n (omega arith)) (among_head a)
  where
    go : MentionsWithin n (row_mentions p rs)
        → (m ≡ mention (p ++ steps_of (texts keys)) (Some (finished v))) ⊎ Among m (row_mentions p rs)
        → length m.path + end_depth m.value ≤ n
    go rest (inl e) =
        let this : length (p ++ steps_of (texts keys)) + depth (finished v) ≤ n =
        omega (arith, length-append p (steps_of (texts keys)), length_steps (texts keys), length_texts keys) in
        subst (λ (m : Mention). length m.path + end_depth m.value ≤ n) (sym e) this
    go rest (inr b) = rest m b

inline_is : (rs : Rows) → rows_clash rs ≡ false → keyed_within rs ≡ true
    → depth (tree_of (row_mentions [] rs)) ≡ max 1 (deepest_row rs)
inline_is rs e k =
    let one : 1 ≤ depth (tree_of (row_mentions [] rs)) = inline_depth rs k (rows_reach rs e) in
    let reached : deepest_row rs ≤ depth (tree_of (row_mentions [] rs)) = deepest_within rs _ (rows_reach rs e) in
    let no_more : depth (tree_of (row_mentions [] rs)) ≤ max 1 (deepest_row rs) =
    no_deeper (max 1 (deepest_row rs)) ((tree_is_grouped (row_mentions [] rs) _).1 refl)
    (within_deepest [] rs (max 1 (deepest_row rs)) (omega arith)) (λ h. omega arith) in
    omega arith

-- values, and the rows of a table
mutual
  pub value_depth : (l : ℕ) (v : Raw) → value_clashes v ≡ false → value_keyed v ≡ true
      → value_level l v ≡ lifted l (depth (finished v))
  value_depth l (Raw.integer z) e k = refl
  value_depth l (Raw.float t) e k = refl
  value_depth l (Raw.boolean b) e k = refl
  value_depth l (Raw.string t _) e k = refl
  value_depth l (Raw.array es) e k =
      let deep : elements_level (l + 1) es ≡ lifted (l + 1) (depth_of_items (finished_elements es)) =
      elements_depth (l + 1) es e k in
      omega (arith, max_lifted (l + 1) (depth_of_items (finished_elements es)))
  value_depth l (Raw.inline rs) e k =
      let deep : max (l + 1) (rows_level (l + 1) rs) ≡ l + max 1 (deepest_row rs) = rows_depth l rs e k in
      let tree : depth (tree_of (row_mentions [] rs)) ≡ max 1 (deepest_row rs) = inline_is rs e k in
      omega (arith, lifted_deep l (depth (tree_of (row_mentions [] rs))) (omega arith))

  pub elements_depth : (l : ℕ) (es : Elements) → elements_clash es ≡ false → elements_keyed es ≡ true
      → elements_level l es ≡ lifted l (depth_of_items (finished_elements es))
  elements_depth l no_elements e k = refl
  elements_depth l (element at v es) e k =
      let a : (value_clashes v ≡ false) × (elements_clash es ≡ false) = or_parts _ _ e in
      let b : (value_keyed v ≡ true) × (elements_keyed es ≡ true) = and_parts _ _ k in
      omega (
        arith,
        value_depth l v a.0 b.0,
        elements_depth l es a.1 b.1,
        lifted_max l (depth (finished v)) (depth_of_items (finished_elements es)),
      )

  pub rows_depth : (l : ℕ) (rs : Rows) → rows_clash rs ≡ false → keyed_within rs ≡ true
      → max (l + 1) (rows_level (l + 1) rs) ≡ l + max 1 (deepest_row rs)
  rows_depth l no_rows e k = omega arith
  rows_depth l (row keys at v rs) e k =
      let a : ((any_overlaps (steps_of (texts keys)) rs || value_clashes v) ≡ false) × (rows_clash rs ≡ false) =
      or_parts _ _ e in
      let c : (any_overlaps (steps_of (texts keys)) rs ≡ false) × (value_clashes v ≡ false) = or_parts _ _ a.0 in
      let f : ((has_key keys && value_keyed v) ≡ true) × (keyed_within rs ≡ true) = and_parts _ _ k in
      let g : (has_key keys ≡ true) × (value_keyed v ≡ true) = and_parts _ _ f.0 in
      let value : value_level (l + 1 + length keys - 1) v ≡ lifted (l + 1 + length keys - 1) (depth (finished v)) =
      value_depth (l + 1 + length keys - 1) v c.1 g.1 in
      let rest : max (l + 1) (rows_level (l + 1) rs) ≡ l + max 1 (deepest_row rs) = rows_depth l rs a.1 f.1 in
      omega (arith, max_lifted (l + 1 + length keys - 1) (depth (finished v)))

-- sections
section_level_is : (l : Located) → rows_clash l.section.rows ≡ false → keyed_within l.section.rows ≡ true
    → tree_level l ≡ length l.path + max 1 (deepest_row l.section.rows)
section_level_is l e k =
    let same : suc (length l.path) ≡ length l.path + 1 = omega arith in
    ap (λ n. max n (rows_level n l.section.rows)) same ∙ rows_depth (length l.path) l.section.rows e k

levels_reach : (n : ℕ) (earlier ss : List Section) → has_row_clash ss ≡ false → all_keyed_within ss ≡ true
    → MentionsWithin n (mentions (located_from earlier ss)) → highest_tree_level (located_from earlier ss) ≤ n
levels_reach n earlier [] e k h = omega arith
levels_reach n earlier (s ∷ ss) e k h =
    let a : (rows_clash s.rows ≡ false) × (has_row_clash ss ≡ false) = or_parts _ _ e in
    let b : (keyed_within s.rows ≡ true) × (all_keyed_within ss ≡ true) = and_parts _ _ k in
    let p : Path = (located_after earlier s).path in
    let table : length p + 1 ≤ n = h (mention p None) first in
    let deep : deepest_row s.rows ≤ n - length p =
    deepest_within s.rows (n - length p) (λ ks d x. row ks d x table) in
    let rest : highest_tree_level (located_from (s ∷ earlier) ss) ≤ n =
    levels_reach n (s ∷ earlier) ss a.1 b.1 (λ m x. h m (among_right (section_mentions p s.rows) x)) in
    omega (arith, section_level_is (located_after earlier s) a.0 b.0)
  where
    row : (ks : KeyTexts) (d : Data) → RowOf ks d s.rows → length (located_after earlier s).path + 1 ≤ n
        → length ks + depth d ≤ n - length (located_after earlier s).path
    row ks d x table =
        let p : Path = (located_after earlier s).path in
        let there : length (p ++ steps_of ks) + depth d ≤ n =
        h (mention (p ++ steps_of ks) (Some d))
        (among_left (mentions (located_from (s ∷ earlier) ss)) (next (row_among p x))) in
        omega (arith, length-append p (steps_of ks), length_steps ks)

section_within : (p : Path) (rs : Rows) → MentionsWithin (length p + max 1 (deepest_row rs)) (section_mentions p rs)
section_within p rs m a = go (among_head a)
  where
    go : (m ≡ mention p None) ⊎ Among m (row_mentions p rs)
        → length m.path + end_depth m.value ≤ length p + max 1 (deepest_row rs)
    go (inl e) =
        subst (λ (m : Mention). length m.path + end_depth m.value ≤ length p + max 1 (deepest_row rs)) (sym e)
        (omega arith)
    go (inr b) = within_deepest p rs (length p + max 1 (deepest_row rs)) (omega arith) m b

mentions_reach : (earlier ss : List Section) → has_row_clash ss ≡ false → all_keyed_within ss ≡ true
    → MentionsWithin (highest_tree_level (located_from earlier ss)) (mentions (located_from earlier ss))
mentions_reach earlier [] e k m a = elim a [ ]
mentions_reach earlier (s ∷ ss) e k m a =
    go (among_either (section_mentions (located_after earlier s).path s.rows) _ a)
    (or_parts _ _ e) (and_parts _ _ k) (λ e k. mentions_reach (s ∷ earlier) ss e k m)
  where
    go : Among m (section_mentions (located_after earlier s).path s.rows)
        ⊎ Among m (mentions (located_from (s ∷ earlier) ss))
        → (rows_clash s.rows ≡ false) × (has_row_clash ss ≡ false)
        → (keyed_within s.rows ≡ true) × (all_keyed_within ss ≡ true)
        → (has_row_clash ss ≡ false → all_keyed_within ss ≡ true
        → Among m (mentions (located_from (s ∷ earlier) ss))
        → length m.path + end_depth m.value ≤ highest_tree_level (located_from (s ∷ earlier) ss))
        → length m.path + end_depth m.value ≤ highest_tree_level (located_from earlier (s ∷ ss))
    go (inl b) c k ih =
        omega (
          arith,
          section_within (located_after earlier s).path s.rows m b,
          section_level_is (located_after earlier s) c.0 k.0,
        )
    go (inr b) c k ih = omega (arith, ih c.1 k.1 b)

some_tree : (ss : List Section) → MentionsWithin (depth (tree_of_sections ss)) (mentions (located ss))
    → 1 ≤ depth (tree_of_sections ss)
some_tree [] h = omega arith
some_tree (s ∷ ss) h =
    let table : length (located_after [] s).path + 1 ≤ depth (tree_of_sections (s ∷ ss)) =
    h (mention (located_after [] s).path None) first in
    omega arith

-- the tree of a list
pub list_depth : (sections : List Section) → all_keyed sections ≡ true → all_keyed_within sections ≡ true
    → has_clash sections ≡ false → depth (tree_of_sections sections) ≡ max 1 (highest_tree_level (located sections))
list_depth sections k w e =
    let r : (has_row_clash sections ≡ false) × (sections_clash sections ≡ false) = or_parts _ _ e in
    let inside : MentionsWithin (depth (tree_of_sections sections)) (mentions (located sections)) =
    mentions_within sections k e in
    let reached : highest_tree_level (located sections) ≤ depth (tree_of_sections sections) =
    levels_reach (depth (tree_of_sections sections)) [] sections r.0 w inside in
    let no_more : depth (tree_of_sections sections) ≤ max 1 (highest_tree_level (located sections)) =
    no_deeper (max 1 (highest_tree_level (located sections)))
    ((tree_is_grouped (mentions (located sections)) _).1 refl)
    (λ m a. let deep : length m.path + end_depth m.value ≤ highest_tree_level (located sections) =
    mentions_reach [] sections r.0 w m a in omega arith)
    (λ h. omega arith) in
    omega (arith, some_tree sections inside)

-- where no section is too deep, and where one is
none_deep : (limit : ℕ) (ls : List Located) → deep_sections limit ls ≡ [] → highest_tree_level ls ≤ limit
none_deep limit [] e = omega arith
none_deep limit (l ∷ ls) e = go (nat_lt limit (tree_level l)) refl (none_deep limit ls) e
  where
    go : (b : Bool) → nat_lt limit (tree_level l) ≡ b → (deep_sections limit ls ≡ [] → highest_tree_level ls ≤ limit)
        → cond b (l.section.at ∷ deep_sections limit ls) (deep_sections limit ls) ≡ []
        → max (tree_level l) (highest_tree_level ls) ≤ limit
    go true f ih e = cc
    go false f ih e = omega (arith, ih e, ltb-false limit (tree_level l) f)

some_deep : (limit : ℕ) (ls : List Located) → 1 ≤ length (deep_sections limit ls) → limit < highest_tree_level ls
some_deep limit [] h = omega arith
some_deep limit (l ∷ ls) h = go (nat_lt limit (tree_level l)) refl (some_deep limit ls) h
  where
    go : (b : Bool) → nat_lt limit (tree_level l) ≡ b
        → (1 ≤ length (deep_sections limit ls) → limit < highest_tree_level ls)
        → 1 ≤ length (cond b (l.section.at ∷ deep_sections limit ls) (deep_sections limit ls))
        → limit < max (tree_level l) (highest_tree_level ls)
    go true f ih h = omega (arith, ltb-true limit (tree_level l) f)
    go false f ih h = omega (arith, ih h)

pub fits_where_shallow : (limit : ℕ) (sections : List Section) → all_keyed sections ≡ true
    → all_keyed_within sections ≡ true → has_clash sections ≡ false → deep_sections limit (located sections) ≡ []
    → 1 ≤ limit → depth (tree_of_sections sections) ≤ limit
fits_where_shallow limit sections k w e shallow some =
    omega (arith, list_depth sections k w e, none_deep limit (located sections) shallow)

pub deep_where_one_is : (limit offset : ℕ) (sections : List Section) → all_keyed sections ≡ true
    → all_keyed_within sections ≡ true → has_clash sections ≡ false
    → Contains (deep_sections limit (located sections)) offset → limit < depth (tree_of_sections sections)
deep_where_one_is limit offset sections k w e (n, inside, is) =
    omega (arith, list_depth sections k w e, some_deep limit (located sections) (omega arith))
