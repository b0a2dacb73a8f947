-- The outer offset of a node, as the tree has it and as the section list foretells it: where the table around it
-- begins.
use Rattle.std.proofs.Common.{arith, ◌≡◌, inl, inr, ℕ, true, false, List, [], ◌∷◌, Option, Some, None, refl, sym, ◌∙◌}
use Rattle.std.proofs.Common.{IfSome, ◌++◌, not, zero, suc}
use Rattle.std.specs.Option.{option_or}
use Rattle.std.proofs.lemmas.Bool.{cases_Bool, false≢true, false_from_ne_true, or_parts, and_parts}
use Rattle.basic_toml_grammar.specs.Sections.{Section, Key, KeyTexts, Rows, no_rows, row, Raw, texts, Elements, element}
use Rattle.basic_toml_grammar.specs.Sections.{no_elements}
use Rattle.basic_toml_grammar.specs.Steps.{Path, begins, key, number, overlap, steps_of}
use Rattle.basic_toml_grammar.specs.IndexedPath.{located, Located}
use Rattle.basic_toml_grammar.specs.Nodes as grammar
use Rattle.basic_toml_grammar.proofs.Trees.MentionsDoNotOverlap.{mentions_peace}
use Rattle.basic_toml_tree.specs.declared.node.Node.{Node}
use Rattle.basic_toml_tree.specs.Origin.{last_at}
use Rattle.basic_toml_grow.specs.Origins.{Origin}
use Rattle.basic_toml_tree.specs.Outer.{around, no_keys}
use Rattle.basic_toml_grow.specs.Ways.{sections_origins}
use Rattle.basic_toml_tree.specs.Stands.{tree_trie, IsNodeAt, StartIsKept}
use Rattle.basic_toml_tree.proofs.Nodes.MadeNodes.{made_in_trie, last_same}
use Rattle.basic_toml_tree.proofs.Nodes.RowNodesTold.{RowTold, no_clash, row_told, rows_free, rows_keyed, some_both}
use Rattle.basic_toml_tree.proofs.Nodes.RowNodesTold.{told_same, not_led, if_there}
use Rattle.basic_toml_tree.proofs.Origins.RowsAreNodes.{Same, goes_on, neither_begins}
use Rattle.basic_toml_grammar.specs.SectionClash.{any_pair, clashes, any_row_clashes}
use Rattle.basic_toml_tree.proofs.Nodes.OneSection.{pairs_apart}
use Rattle.basic_toml_grammar.specs.Nodes.{front, node_in, is_made, start_in, first_start, holder, node_of_rows}
use Rattle.basic_toml_grammar.specs.Nodes.{node_of_sections, dotted_node, value_node, dotted_start, holder_in, node_by}
use Rattle.basic_toml_grammar.specs.Nodes.{node_among}
use Rattle.basic_toml_grammar.proofs.AmongElements.{Among, first, next, among_either}
use Rattle.basic_toml_tree.proofs.HeadersMake.{any_of}
use Rattle.basic_toml_tree.proofs.Nodes.Lines.{begun, keys_end, Line, path_of, choose, start_among, Apart, none_passes}
use Rattle.basic_toml_tree.proofs.Nodes.Lines.{OuterOf, ValueOuter, Found, within, by_rows, found, no_longer, Fits}
use Rattle.basic_toml_tree.proofs.Nodes.Lines.{Free, ends_key}
use Rattle.std.specs.List.{list_any, list_all}
use Rattle.basic_toml_value.specs.Data.{Data}
use Rattle.basic_toml_grammar.specs.RowClash.{any_overlaps, rows_clash, value_clashes, elements_clash}
use Rattle.basic_toml_grammar.specs.Entering.{keyed_within, value_keyed, elements_keyed}
use Rattle.basic_toml_grammar.specs.Mentions.{finished, row_mentions, mentions}
use Rattle.basic_toml_grammar.specs.NamedClash.{first_key}
use Rattle.basic_toml_grammar.specs.Tree.{Mention}
use Rattle.basic_toml_grammar.proofs.Clash.ClashesAgree.{turn_eq}
use Rattle.basic_toml_grammar.proofs.Nesting.TreeIsAsDeepAsMentions.{bars, barred_by, mention, Peace}

-- rows below a path, each with the key path that its nodes have
abbrev pub lines_of : Path → (List Key → KeyTexts) → Rows → List Line
lines_of base name no_rows = []
lines_of base name (row ks at v rows) =
    record { base = base; steps = texts ks; at = at; value = v; names = name ks } ∷ lines_of base name rows

abbrev pub names_of : Located → List Key → KeyTexts
names_of l ks = texts l.section.header ++ first_key ks

abbrev pub all_lines : List Located → List Line
all_lines [] = []
all_lines (l ∷ ls) = lines_of l.path (names_of l) l.section.rows ++ all_lines ls

-- rows of one list do not meet
row_free : (name : List Key → KeyTexts) (p : Path) (rows : Rows) → any_overlaps p rows ≡ false → (f : Line)
    → Among f (lines_of [] name rows) → overlap p (path_of f) ≡ false
row_free name p no_rows free f a = elim a [ ]
row_free name p (row ks at v rows) free f first = (or_parts _ _ free).0
row_free name p (row ks at v rows) free f (next a) = row_free name p rows (or_parts _ _ free).1 f a

rows_apart : (name : List Key → KeyTexts) (rows : Rows) → rows_clash rows ≡ false → Apart (lines_of [] name rows)
rows_apart name no_rows free = Apart.none
rows_apart name (row ks at v rows) free =
    let split = or_parts _ _ free in
    Apart.more (row_free name (steps_of (texts ks)) rows (or_parts _ _ split.0).0) (rows_apart name rows split.1)

-- the rows of an inline table, as lines
by_lines : (names : KeyTexts) (outer : Option ℕ) (all rows : Rows) (p : Path)
    → node_by names outer all rows p ≡ choose (holder_in outer all) (lines_of [] (λ ks. names) rows) p
by_lines names outer all no_rows p = refl
by_lines names outer all (row ks at v rows) p = rw (by_lines names outer all rows p) refl

starts_by_lines : (name : List Key → KeyTexts) (rows : Rows) (p : Path)
    → dotted_start rows p ≡ start_among (lines_of [] name rows) p
starts_by_lines name no_rows p = refl
starts_by_lines name (row ks at v rows) p = rw (starts_by_lines name rows p) refl

-- what is known of a line, by the rows below a path
pub record IsRow (base : Path) (rows : Rows) (e : Line) : Type 0 where
  pub table : e.base ≡ base
  pub past : begins (path_of e) base ≡ false
  pub ends : ends_key (path_of e) ≡ true
  pub told : ValueOuter e.value
  pub off : (j : Located) → any_row_clashes base rows j ≡ false → begins (path_of e) j.path ≡ false

-- a node of an inline table
module _ (names : KeyTexts) (outer : Option ℕ) (at : ℕ) (rows : Rows) (k : List ℕ) (p : Path) (n : grammar.Node) where
  of_inline : Found (holder_in (Some at) rows) (key k ∷ p) (lines_of [] (λ ks. names) rows) n
      → OuterOf (node_in names outer at (Raw.inline rows)) outer (key k ∷ p) n
  of_inline (within m l a ends here chosen same) = elim (cases_Bool (no_keys p)) [
    | inl e ↦ absurd (false≢true (sym (begun (path_of l) [] ends (rw e at here))))
    | inr e ↦ inr (refl, m, rw e (by_lines names (Some at) rows rows (key k ∷ around p) ∙ (rw e at chosen)), same)
  ]
  of_inline (by_rows m chosen start same) = elim (cases_Bool (no_keys p)) [
    | inl e ↦ inr (refl, value_node names outer at (Raw.inline rows), rw e refl, rw e at same)
    | inr e ↦
        let starts = starts_by_lines (λ ks. names) rows (key k ∷ around p) in
        let read = by_lines names (Some at) rows rows (key k ∷ around p) in
        inr (refl, m, rw e (read ∙ (rw e at chosen)), (rw e at same) ∙ starts ∙ sym (rw e at start))
  ]

-- the outer offsets of the nodes in a value
mutual
  value_outer : (v : Raw) → value_clashes v ≡ false → value_keyed v ≡ true → ValueOuter v
  value_outer v free keyed names outer at [] n is =
      let same : value_node names outer at v ≡ n = cc in inl (refl, rw (← same) refl)
  value_outer (Raw.array es) free keyed names outer at (number i ∷ x) n is =
      elim (elements_outer es free keyed names outer i x n is) [
        | inl bare ↦ inl bare
        | inr deep ↦ inr (deep.0, deep.1, rw (deep.0) deep.2, deep.3)
      ]
  value_outer (Raw.inline rows) free keyed names outer at (key k ∷ x) n is =
      of_inline names outer at rows k x n
      (found (holder_in (Some at) rows) (key k ∷ x) (lines_of [] (λ ks. names) rows)
      (rows_apart (λ ks. names) rows free) (λ e a. let r = rows_are [] (λ ks. names) rows free keyed a in
      record { ends = r.ends; told = r.told; off = rw (r.table) refl }) n
      (sym (by_lines names (Some at) rows rows (key k ∷ x)) ∙ is))
  value_outer v free keyed names outer at x n is = absurd (cc)

  elements_outer : (es : Elements) → elements_clash es ≡ false → elements_keyed es ≡ true → (names : KeyTexts)
      (outer : Option ℕ) (i : ℕ) (x : Path) (n : grammar.Node) → node_among names outer es i x ≡ Some n
      → OuterOf (node_among names outer es i) outer x n
  elements_outer no_elements free keyed names outer i x n is = absurd (cc)
  elements_outer (element at v es) free keyed names outer zero x n is =
      value_outer v (or_parts _ _ free).0 (and_parts _ _ keyed).0 names outer at x n is
  elements_outer (element at v es) free keyed names outer (suc i) x n is =
      elements_outer es (or_parts _ _ free).1 (and_parts _ _ keyed).1 names outer i x n is

  rows_are : {e : Line} (base : Path) (name : List Key → KeyTexts) (rows : Rows) → rows_clash rows ≡ false
      → keyed_within rows ≡ true → Among e (lines_of base name rows) → IsRow base rows e
  rows_are base name no_rows free keyed a = elim a [ ]
  rows_are base name (row [] at v rows) free keyed a = absurd (false≢true keyed)
  rows_are base name (row (k ∷ ks) at v rows) free keyed first = record {
    table = refl;
    past = false_from_ne_true _ (no_longer base (key k.text) (steps_of (texts ks)));
    ends = keys_end base k.text (texts ks);
    told = value_outer v (or_parts _ _ (or_parts _ _ free).0).1 (and_parts _ _ keyed).0;
    off = λ j none. (or_parts _ _ (or_parts _ _ none).0).0;
  }
  rows_are base name (row (k ∷ ks) at v rows) free keyed (next a) =
      let more = rows_are base name rows (or_parts _ _ free).1 (and_parts _ _ keyed).1 a in
      record {
        table = more.table;
        past = more.past;
        ends = more.ends;
        told = more.told;
        off = λ j none. more.off j (or_parts _ _ none).1;
      }

-- a line of all sections is a row of one of them
pub lines_are : {e : Line} (ls : List Located) → list_any (λ l. rows_clash l.section.rows) ls ≡ false
    → list_all (λ l. keyed_within l.section.rows) ls ≡ true → Among e (all_lines ls)
    → (l : Located) × Among l ls × IsRow l.path l.section.rows e
lines_are [] free keyed a = elim a [ ]
lines_are (l ∷ ls) free keyed a =
    let f = or_parts _ _ free in
    let k = and_parts _ _ keyed in
    elim (among_either (lines_of l.path (names_of l) l.section.rows) (all_lines ls) a) [
      | inl a ↦ (l, first, rows_are l.path (names_of l) l.section.rows f.0 k.0 a)
      | inr a ↦ let more = lines_are ls f.1 k.1 a in (more.0, next more.1, more.2)
    ]

-- where mentions are in peace, their rows do not meet
overlap_barred : (p q : Path) (d c : Data) → overlap p q ≡ true → bars p (Some d) q (Some c) ≡ true
overlap_barred [] q d c e = refl
overlap_barred (s ∷ p) [] d c e = refl
overlap_barred (s ∷ p) (t ∷ q) d c e = grind (arith, turn_eq t s, overlap_barred p q d c)

abbrev mention_of : Line → Mention
mention_of e = mention (path_of e) (Some (finished e.value))

mentioned : {e : Line} (base : Path) (name : List Key → KeyTexts) (rows : Rows) (ls : List Located)
    → (Among e (all_lines ls) → Among (mention_of e) (mentions ls))
    → Among e (lines_of base name rows ++ all_lines ls) → Among (mention_of e) (row_mentions base rows ++ mentions ls)
mentioned base name no_rows ls rest a = rest a
mentioned base name (row ks at v rows) ls rest first = first
mentioned base name (row ks at v rows) ls rest (next a) = next (mentioned base name rows ls rest a)

all_mentioned : {e : Line} (ls : List Located) → Among e (all_lines ls) → Among (mention_of e) (mentions ls)
all_mentioned [] a = elim a [ ]
all_mentioned (l ∷ ls) a = next (mentioned l.path (names_of l) l.section.rows ls (all_mentioned ls) a)

apart_rows : (base : Path) (name : List Key → KeyTexts) (rows : Rows) (ls : List Located)
    → (Peace (mentions ls) → Apart (all_lines ls))
    → Peace (row_mentions base rows ++ mentions ls) → Apart (lines_of base name rows ++ all_lines ls)
apart_rows base name no_rows ls rest peace = rest peace
apart_rows base name (row ks at v rows) ls rest (Peace.more e peace) =
    Apart.more (λ f a. false_from_ne_true _ (λ on. false≢true (sym (none_passes (barred_by _) e
    (mentioned base name rows ls (all_mentioned ls) a))
    ∙ overlap_barred (base ++ steps_of (texts ks)) (path_of f) _ _ on))) (apart_rows base name rows ls rest peace)

pub apart_all : (ls : List Located) → Peace (mentions ls) → Apart (all_lines ls)
apart_all [] peace = Apart.none
apart_all (l ∷ ls) (Peace.more e peace) =
    apart_rows l.path (names_of l) l.section.rows ls (apart_all ls) peace

-- below a line no other one leads to anything
none_there : (holder : Path → Option ℕ) (p : Path) (e : Line) (fs : List Line) → begins (path_of e) p ≡ true
    → Free e fs → choose holder fs p ≡ None
none_there holder p e [] on free = refl
none_there holder p e (f ∷ fs) on free =
    let rest = none_there holder p e fs on (λ f a. free f (next a)) in
    grind (arith, neither_begins (path_of e) (path_of f) p on (free f first), rest)

-- the rows of sections, as lines
module _ (ls : List Located) (last : Option ℕ) (p : Path) where
  rows_lines : (l : Located) (rows : Rows) (fs : List Line) (n : Option grammar.Node)
      → (Apart fs → n ≡ choose (holder ls last) fs p) → Apart (lines_of l.path (names_of l) rows ++ fs)
      → option_or (node_of_rows ls last l rows p) n
      ≡ choose (holder ls last) (lines_of l.path (names_of l) rows ++ fs) p
  rows_lines l no_rows fs n later apart = later apart
  rows_lines l (row ks at v rows) fs n later (Apart.more {e = e} free apart) =
      let rest = lines_of l.path (names_of l) rows ++ fs in
      let none = λ (on : begins (path_of e) p ≡ true). none_there (holder ls last) p e rest on free in
      grind (arith, none, rows_lines l rows fs n later apart)

  sections_lines : (later : List Located) → Apart (all_lines later)
      → node_of_sections ls last later p ≡ choose (holder ls last) (all_lines later) p
  sections_lines [] apart = refl
  sections_lines (l ∷ later) apart =
      rows_lines l l.section.rows (all_lines later) (node_of_sections ls last later p) (sections_lines later) apart

-- where a dotted table begins
starts_rows : (base : Path) (name : List Key → KeyTexts) (rows : Rows) (fs : List Line) (p : Path)
    → option_or (start_in base rows p) (start_among fs p) ≡ start_among (lines_of base name rows ++ fs) p
starts_rows base name no_rows fs p = refl
starts_rows base name (row ks at v rows) fs p = grind (arith, starts_rows base name rows fs p)

starts_all : (ls : List Located) (p : Path) → first_start ls p ≡ start_among (all_lines ls) p
starts_all [] p = refl
starts_all (l ∷ ls) p = rw (starts_all ls p) (starts_rows l.path (names_of l) l.section.rows (all_lines ls) p)

-- no header leads to what is below a row
not_made_below : (ls : List Located) → any_pair clashes ls ≡ false → {e : Line} {l : Located} → Among l ls
    → IsRow l.path l.section.rows e → (p : Path) → begins (path_of e) p ≡ true → is_made ls p ≡ true → ⊥
not_made_below ls free {e} a line [] on made = false≢true (sym (begun (path_of e) [] line.ends on))
not_made_below ls free {e} a line (s ∷ p) on made =
    let j = any_of (λ l. begins (s ∷ p) l.path) ls made in
    let below = goes_on (path_of e) (s ∷ p) j.0.path on j.2 in
    elim (pairs_apart free a j.1) [
      | inl same ↦ false≢true (sym line.past ∙ rw (← same) at below)
      | inr one ↦ false≢true (sym (line.off j.0 (or_parts _ _ (or_parts _ _ one).1).1) ∙ below)
    ]

-- where a row begins is kept
begins_same : (m : grammar.Node) (kept last : Option ℕ) (o : Option Origin) → Same (Some m) o
    → IfSome o (λ o. o.made ≡ false → kept ≡ Some o.start) → option_or kept last ≡ m.start
begins_same m kept last None same own = absurd (cc)
begins_same m kept last (Some o) same own = grind arith

module _ (sections : List Section) (p : Path) (node : Node) (is : IsNodeAt sections p node) where
  abbrev ls : List Located
  ls = located sections

  abbrev last : Option ℕ
  last = grammar.last_at sections

  abbrev outer : Option ℕ
  outer = option_or node.outer (last_at node.tree.now)

  -- what is kept where headers made a table, and where rows did
  of_made : (q : Path) → StartIsKept node.tree.now q node.outer → is_made ls q ≡ true → outer ≡ last
  of_made [] kept made = rw (kept.root refl) (last_same sections p node is)
  of_made (s ∷ q) kept made =
      let there = made_in_trie sections (tree_trie node.tree.now) is.resolved.stands (s ∷ q) refl in
      rw (kept.made (sym there ∙ made)) (last_same sections p node is)

  of_row : (q : Path) → StartIsKept node.tree.now q node.outer → is_made ls q ≡ false → (m : grammar.Node)
      → node_of_sections ls last ls q ≡ Some m → outer ≡ m.start
  of_row q kept not m there =
      begins_same m node.outer (last_at node.tree.now) (sections_origins 0 ls q)
      (rw there at (told_same sections is.resolved q not)) (rw (is.resolved.origins q not) at kept.row)

  -- the rows of the list do not meet, and what is known of one
  apart : Apart (all_lines ls)
  apart =
      let none = no_clash sections is.resolved in apart_all ls (mentions_peace sections is.keyed none.0 none.1)

  line_is : {e : Line} → Among e (all_lines ls) → (l : Located) × Among l ls × IsRow l.path l.section.rows e
  line_is a = lines_are ls (rows_free sections is.resolved) (rows_keyed sections is.resolved) a

  fits : is_made ls p ≡ false → (e : Line) → Among e (all_lines ls) → Fits p e
  fits not e a =
      let l = line_is a in
      let off = none_passes (λ l. begins p l.path) (not_led ls p not) l.1 in
      record { ends = l.2.ends; told = l.2.told; off = rw (l.2.table) off }

  -- the table around the node is that of the outer offset
  outer_is : (n : grammar.Node) → Found (holder ls last) p (all_lines ls) n → outer ≡ n.outer_offset
  outer_is n (within m e a ends here chosen same) =
      let l = line_is a in
      let not = false_from_ne_true _ (not_made_below ls (no_clash sections is.resolved).1 l.1 l.2 (around p) here) in
      of_row (around p) is.stands.outer not m (sections_lines ls last (around p) ls apart ∙ chosen) ∙ sym same
  outer_is n (by_rows m chosen start same) = elim (cases_Bool (is_made ls (around p))) [
    | inl made ↦ of_made (around p) is.stands.outer made ∙ sym (same ∙ rw made refl)
    | inr not ↦
        of_row (around p) is.stands.outer not m (sections_lines ls last (around p) ls apart ∙ chosen)
        ∙ sym (same ∙ rw (not, starts_all ls (around p), start) refl)
  ]

  -- a node that headers did not make
  pub row_outer : is_made (located sections) p ≡ false
      → IfSome (grammar.node_at sections p) (λ found. RowTold node found
      × (option_or node.outer (last_at node.tree.now) ≡ found.outer_offset))
  row_outer not =
      some_both (grammar.node_at sections p) (row_told sections p node is not) (rw not (if_there
      (node_of_sections ls last ls p) (λ n there. outer_is n (found (holder ls last) p (all_lines ls) apart (fits not) n
      (sym (sections_lines ls last p ls apart) ∙ there))))) (λ found told outer. (told, outer))
