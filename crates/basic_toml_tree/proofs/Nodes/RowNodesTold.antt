-- What rows made, as the tree has it and as the section list foretells it.
use Rattle.std.proofs.Common.{arith, ◌≡◌, ℕ, Bool, true, false, List, [], ◌∷◌, Option, Some, None, refl, ap, sym, ◌∙◌}
use Rattle.std.proofs.Common.{◌||◌, ◌&&◌, IfSome, IsSomeAnd, zero, suc, if◌then◌else◌}
use Rattle.std.specs.List.{list_any, list_all}
use Rattle.std.proofs.lemmas.Bool.{false≢true, or_parts}
use Rattle.basic_toml_grammar.specs.Sections.{Section, KeyTexts, texts, Raw, Elements, no_elements, element, Rows, row}
use Rattle.basic_toml_grammar.specs.Sections.{no_rows}
use Rattle.basic_toml_grammar.specs.Steps.{Path, begins, key, number, steps_of}
use Rattle.basic_toml_grammar.specs.IndexedPath.{Located, located_from, located}
use Rattle.basic_toml_grammar.specs.RowClash.{rows_clash, has_row_clash}
use Rattle.basic_toml_grammar.specs.SectionClash.{sections_clash}
use Rattle.basic_toml_grammar.specs.Entering.{keyed_within, all_keyed_within}
use Rattle.basic_toml_grammar.specs.Nodes as grammar
use Rattle.basic_toml_grammar.proofs.Clash.PathsAgree.{append_none}
use Rattle.basic_toml_tree.specs.declared.tree.Tree.{Tree}
use Rattle.basic_toml_tree.specs.declared.node.Node.{Node}
use Rattle.basic_toml_tree.specs.Resolve.{IsResolved}
use Rattle.basic_toml_tree.specs.Origin.{is_made, spot_name, spot_is_borrowed}
use Rattle.basic_toml_grow.specs.Origins.{Origin}
use Rattle.basic_toml_grow.specs.Ways.{sections_origins}
use Rattle.basic_toml_tree.specs.Stands.{spot_origin, IsNodeAt}
use Rattle.basic_toml_tree.proofs.Origins.RowsAreNodes.{Same, sections_same}
use Rattle.std.specs.Option.{option_or}
use Rattle.basic_toml_grammar.specs.Nodes.{value_node, dotted_node, node_in, node_among, node_by}

module _ {A : Type 0} where
  -- what holds of all that may be there
  pub if_there : (o : Option A) {P : A → Type 0} → ((x : A) → o ≡ Some x → P x) → IfSome o P
  if_there None so = tt
  if_there (Some x) so = so x refl

  -- what is there
  pub some_and : (o : Option A) {P : A → Type 0} → IsSomeAnd o P → (x : A) × (o ≡ Some x) × P x
  some_and None some = absurd some
  some_and (Some x) some = (x, refl, some)

  -- of the first of two
  pub or_some : (m n : Option A) (P : A → Type 0) → IfSome m P → IfSome n P → IfSome (option_or m n) P
  or_some None n P first later = later
  or_some (Some x) n P first later = first

-- one of three, each where it is chosen
pub one_of : (a b : Bool) {d : grammar.Node} (m n : Option grammar.Node) (P : grammar.Node → Type 0)
    → (a ≡ true → IfSome m P) → (b ≡ true → P d) → IfSome n P
    → IfSome (if a then m else if b then Some d else n) P
one_of true b m n P value table later = value refl
one_of false true m n P value table later = table refl
one_of false false m n P value table later = later

module _ (keys : KeyTexts) (P : grammar.Node → Type 0)
    (of_value : (outer : Option ℕ) (at : ℕ) (v : Raw) → P (value_node keys outer at v))
    (of_dotted : (outer : Option ℕ) (at : ℕ) → P (dotted_node keys outer at)) where
  mutual
    pub in_value : (outer : Option ℕ) (at : ℕ) (v : Raw) (p : Path) → IfSome (node_in keys outer at v p) P
    in_value outer at v [] = of_value outer at v
    in_value outer at (Raw.array es) (number n ∷ p) = among_elements outer es n p
    in_value outer at (Raw.inline rows) (key k ∷ p) = by_rows (Some at) rows rows (key k ∷ p)
    in_value outer at v p = tt

    among_elements : (outer : Option ℕ) (es : Elements) (n : ℕ) (p : Path) → IfSome (node_among keys outer es n p) P
    among_elements outer no_elements n p = tt
    among_elements outer (element at v es) zero p = in_value outer at v p
    among_elements outer (element at v es) (suc n) p = among_elements outer es n p

    by_rows : (outer : Option ℕ) (all rows : Rows) (p : Path) → IfSome (node_by keys outer all rows p) P
    by_rows outer all no_rows p = tt
    by_rows outer all (row ks at v later) p =
        let steps = steps_of (texts ks) in
        one_of (begins steps p) (begins p steps) _ _ P (λ _. in_value _ at v _) (λ _. of_dotted _ at)
        (by_rows outer all later p)

-- the list's sections, where they stand
pub located_any : (f : Section → Bool) (before ss : List Section)
    → list_any (λ l. f l.section) (located_from before ss) ≡ list_any f ss
located_any f before [] = refl
located_any f before (s ∷ ss) = ap (λ b. f s || b) (located_any f (s ∷ before) ss)

pub located_keyed : (before ss : List Section)
    → list_all (λ l. keyed_within l.section.rows) (located_from before ss) ≡ all_keyed_within ss
located_keyed before [] = refl
located_keyed before (s ∷ ss) = ap (λ b. keyed_within s.rows && b) (located_keyed (s ∷ before) ss)

-- no header leads to what headers did not make
pub not_led : (ls : List Located) (p : Path) → grammar.is_made ls p ≡ false → list_any (λ l. begins p l.path) ls ≡ false
not_led ls [] not = absurd (false≢true (sym not))
not_led ls (s ∷ p) not = not

-- the sections of a list that has a tree, and what rows made there
module _ (sections : List Section) {tree : Tree} (resolved : IsResolved sections tree) where
  pub no_clash : (has_row_clash sections ≡ false) × (sections_clash sections ≡ false)
  no_clash = or_parts _ _ resolved.clash

  pub rows_free : list_any (λ l. rows_clash l.section.rows) (located sections) ≡ false
  rows_free = located_any (λ s. rows_clash s.rows) [] sections ∙ no_clash.0

  pub rows_keyed : list_all (λ l. keyed_within l.section.rows) (located sections) ≡ true
  rows_keyed = located_keyed [] sections ∙ resolved.within

  pub told_same : (p : Path) → grammar.is_made (located sections) p ≡ false
      → Same (grammar.node_of_sections (located sections) (grammar.last_at sections) (located sections) p)
      (sections_origins 0 (located sections) p)
  told_same p not =
      sections_same (located sections) (grammar.last_at sections) 0 (located sections) p
      (not_led (located sections) p not) rows_free rows_keyed

-- a node that headers did not make
pub record RowTold (node : Node) (found : grammar.Node) : Type 0 where
  pub made : is_made node ≡ false
  pub name : spot_name node.count node.spot ≡ found.type_name
  pub start : Some node.start ≡ found.start
  pub slice : spot_is_borrowed node.spot ≡ found.is_slice

told_by : (node : Node) (s : ℕ) (m : Option grammar.Node) (o : Option Origin) → Same m o
    → IfSome o (λ o. o.made ≡ false → o ≡ spot_origin node.count node.spot node.start s)
    → IfSome m (RowTold node)
told_by node s None o same own = tt
told_by node s (Some m) o same own = grind arith

pub row_told : (sections : List Section) (p : Path) (node : Node) → IsNodeAt sections p node
    → grammar.is_made (located sections) p ≡ false → IfSome (grammar.node_at sections p) (RowTold node)
row_told sections p node is not =
    let ls = located sections in
    let own = rw (append_none p, is.resolved.origins p not) at is.stands.comes.own in
    rw not (told_by node is.stands.comes.section (grammar.node_of_sections ls (grammar.last_at sections) ls p)
    (sections_origins 0 ls p) (told_same sections is.resolved p not) own)

-- two facts of what is there
pub some_both : {A : Type 0} (o : Option A) {P Q R : A → Type 0} → IfSome o P → IfSome o Q → ((x : A) → P x → Q x → R x)
    → IfSome o R
some_both None p q f = tt
some_both (Some x) p q f = f x p q
