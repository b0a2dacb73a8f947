-- The keys that lead to a node, as the tree has them and as the section list foretells them.
use Rattle.std.proofs.Common.{◌≡◌, inl, inr, ℕ, zero, suc, true, false, List, [], ◌∷◌, ◌++◌, length, map, take, get_or}
use Rattle.std.proofs.Common.{Option, Some, refl, ap, sym, ◌∙◌, arith, length-append, append_assoc, ◌==◌, IfSome, ◌≤◌}
use Rattle.std.proofs.Common.{slice_get, is_some, bytes_eq}
use Rattle.std.proofs.lemmas.Bool.{false≢true, and_parts, cases_Bool, or_parts}
use Rattle.std.proofs.lemmas.List.{append_cancel_left, take_all}
use Rattle.std.proofs.lemmas.Option.{IfSome_then, option_and_then_some}
use Rattle.std.proofs.lemmas.Slice.Eq.{bytes_eq-Decides}
use Rattle.basic_toml_grammar.specs.Sections.{KeyTexts, texts, Section, Rows, no_rows, row}
use Rattle.basic_toml_grammar.specs.Steps.{Step, key, number, Path, begins, steps_of, keys_of}
use Rattle.basic_toml_grammar.specs.IndexedPath.{Located, located_after, located_from, located}
use Rattle.basic_toml_grammar.specs.Nodes as grammar
use Rattle.basic_toml_grammar.proofs.Clash.PathsAgree.{append_none, count_in, keys-append, keys_cut, cuts_are}
use Rattle.basic_toml_grammar.proofs.Clash.PathsAgree.{counts_are}
use Rattle.basic_toml_tree.specs.declared.tree.Tree.{Tree}
use Rattle.basic_toml_tree.specs.declared.node.Node.{Node}
use Rattle.basic_toml_grow.specs.declared.item.Item.{Item, out-Item}
use Rattle.basic_toml_grow.specs.declared.item.Item.TheOpen.{Item-F}
use Rattle.basic_toml_grow.specs.Item.{child_trie}
use Rattle.basic_toml_grow.specs.declared.item.Child.{Child, out-Child}
use Rattle.basic_toml_grow.specs.declared.item.Table.{Table, out-Table}
use Rattle.basic_toml_tree.specs.declared.spot.Spot.{Spot}
use Rattle.basic_toml_tree.specs.declared.spot.Spot.TheVariants as spots
use Rattle.basic_toml_tree.specs.declared.trail.Trail.{Trail}
use Rattle.basic_toml_grow.specs.Origins.{child_origins, along, rows_origins}
use Rattle.basic_toml_tree.proofs.Nodes.NodesCome.{child_bears}
use Rattle.basic_toml_tree.proofs.Nodes.RowNodesTold.{some_and, one_of, in_value, if_there, or_some, no_clash, not_led}
use Rattle.basic_toml_tree.proofs.Nodes.RowNodesTold.{rows_free, rows_keyed, some_both}
use Rattle.basic_toml_tree.proofs.Nodes.OneSection.{entry_at}
use Rattle.basic_toml_tree.specs.Headers.{keys_at}
use Rattle.basic_toml_tree.specs.HeaderTables.{table_of}
use Rattle.basic_toml_tree.specs.Origin.{header_of, spot_is_made, spot_section, item_section, holds_tables, trail_keys}
use Rattle.basic_toml_tree.specs.Origin.{keys_of as kept_keys}
use Rattle.basic_toml_origin.specs.Anchor.{LeadsTo}
use Rattle.basic_toml_tree.specs.Resolve.{IsResolved, head}
use Rattle.basic_toml_tree.specs.Stands.{trie_at, tree_trie, is_root, StandsAt, IsNodeAt, tree_origins, ComesFrom}
use Rattle.basic_toml_tree.specs.Stands.{IsBelow}
use Rattle.basic_toml_tree.specs.Keys.{header_at, Leads, KeepsHeader, CountsKeys, KeysLead, CountsOn, KeepsRow, GoesOn}
use Rattle.basic_toml_tree.specs.Keys.{RowsLead, BeginsRow, HandsOn}
use Rattle.basic_toml_tree.proofs.Nodes.KeysLead.{KeepsKeys, made_before, rows_on}
use Rattle.basic_toml_tree.specs.Data.{child_data, table_data}
use Rattle.basic_toml_tree.specs.Nodes.{node_data, data_among, listed}
use Rattle.basic_toml_tree.specs.Outer.{kept_below}
use Rattle.basic_toml_tree.proofs.Nodes.MadeNodes.{made_at, made_in_trie, spot_made}
use Rattle.basic_toml_tree.proofs.Nodes.NodesStand.{IsOf, no_root}
use Rattle.std.specs.List.{list_any, list_all}
use Rattle.basic_toml_grammar.specs.RowClash.{rows_clash}
use Rattle.basic_toml_grammar.specs.Entering.{keyed_within}
use Rattle.basic_toml_grammar.specs.NamedClash.{first_key}
use Rattle.basic_toml_grammar.proofs.Clash.StepTestsDecide.{step_is}
use Rattle.basic_toml_tree.proofs.Origins.RowsAreNodes.{begins_on, goes_from, rows_apart, section_same}
use Rattle.basic_toml_value.specs.Data.{Data, Items, no_items, item, Members, no_members, member}
use Rattle.basic_toml_value.specs.Nesting.{nesting_limit}
use Rattle.basic_toml_grammar.specs.Depth.{depth, depth_of_items, depth_of_members}
use Rattle.basic_toml_tree.specs.Paths.{data_by, data_along}

keys_within : (p : Path) → length (keys_of p) ≤ length p
keys_within [] = omega arith
keys_within (s ∷ p) = grind (arith, keys_within p)

-- what is below data is less deep
item_depth : (ds : Items) (n : ℕ) (d : Data) → slice_get (listed ds) n ≡ Some d → depth d ≤ depth_of_items ds
item_depth no_items n d there = absurd (cc)
item_depth (item e ds) zero d there = let same : e ≡ d = cc in omega (arith, ap depth same)
item_depth (item e ds) (suc n) d there = omega (arith, item_depth ds n d there)

member_depth : (ms : Members) (k : List ℕ) (d : Data) → data_among ms k ≡ Some d → depth d ≤ depth_of_members ms
member_depth no_members k d there = absurd (cc)
member_depth (member l e ms) k d there = elim (cases_Bool (bytes_eq k l)) [
  | inl here ↦ let same : e ≡ d = cc (rw here at there) in omega (arith, ap depth same)
  | inr other ↦ omega (arith, member_depth ms k d (rw other at there))
]

less_deep : (s : Step) (d e : Data) → data_by s d ≡ Some e → suc (depth e) ≤ depth d
less_deep (key k) (Data.table ms) e there = omega (arith, member_depth ms k e there)
less_deep (number n) (Data.array ds) e there = omega (arith, item_depth ds n e there)
less_deep s d e there = absurd (cc)

as_deep : (p : Path) (d e : Data) → data_along p d ≡ Some e → length p ≤ depth d
as_deep [] d e there = omega arith
as_deep (s ∷ p) d e there =
    option_and_then_some (data_along p) (data_by s d) e there
    (λ x is on. omega (arith, less_deep s d x is, as_deep p x e on))

pub few_keys : (sections : List Section) (tree : Tree) → IsResolved sections tree → (p : Path) (d : Data)
    → data_along p (table_data tree.root) ≡ Some d → length (keys_of p) ≤ nesting_limit
few_keys sections tree resolved p d there =
    omega (arith, as_deep p (table_data tree.root) d there, keys_within p, ap depth resolved.grown, resolved.fits)

-- a row below its section's table
module _ (ls : List Located) (last : Option ℕ) (l : Located) (r : Step) (q : Path) where
  abbrev FromRow : grammar.Node → Type 0
  FromRow m = (k : List ℕ) × (r ≡ key k) × (m.key_path ≡ texts l.section.header ++ k ∷ [])

  rows_keep : (rows : Rows) → keyed_within rows ≡ true
      → IfSome (grammar.node_of_rows ls last l rows (l.path ++ r ∷ q)) FromRow
  rows_keep no_rows keyed = tt
  rows_keep (row [] at v rows) keyed = absurd (false≢true keyed)
  rows_keep (row (k ∷ ks) at v rows) keyed =
      let steps = steps_of (texts (k ∷ ks)) in
      let path = l.path ++ steps in
      let p = l.path ++ r ∷ q in
      one_of (begins path p) (begins p path) _ _ FromRow (λ e.
      let is = sym (step_is (key k.text) r (and_parts _ _ (sym (begins_on l.path steps (r ∷ q)) ∙ e)).0) in
      in_value (texts l.section.header ++ first_key (k ∷ ks)) FromRow (λ outer at v. (k.text, is, refl))
      (λ outer at. (k.text, is, refl)) _ at v _)
      (λ e. (k.text, step_is r (key k.text) (and_parts _ _ (sym (begins_on l.path (r ∷ q) steps) ∙ e)).0, refl))
      (rows_keep rows (and_parts _ _ keyed).1)

-- the first key of the row of a section that leads to a path, of which the section tells
pub record FromSection (l : Located) (p : Path) (m : grammar.Node) : Type 0 where
  pub first : List ℕ
  pub others : Path
  pub path : p ≡ l.path ++ key first ∷ others
  pub keys : m.key_path ≡ texts l.section.header ++ first ∷ []
  pub told : is_some (along l.path (rows_origins 0 l.section.rows) p) ≡ true

-- a node that the section with some number gives
abbrev pub GivenBy : List Located → Path → grammar.Node → Type 0
GivenBy later p m = (n : ℕ) × (l : Located) × (slice_get later n ≡ Some l) × FromSection l p m

pub sections_give : (ls : List Located) (last : Option ℕ) (later : List Located) (p : Path)
    → list_any (λ l. begins p l.path) later ≡ false → list_any (λ l. rows_clash l.section.rows) later ≡ false
    → list_all (λ l. keyed_within l.section.rows) later ≡ true
    → IfSome (grammar.node_of_sections ls last later p) (GivenBy later p)
sections_give ls last [] p back apart keyed = tt
sections_give ls last (l ∷ later) p back apart keyed =
    let b = or_parts _ _ back in
    let a = or_parts (rows_clash l.section.rows) (list_any (λ l. rows_clash l.section.rows) later) apart in
    let k = and_parts _ _ keyed in
    let node = grammar.node_of_rows ls last l l.section.rows p in
    let more = grammar.node_of_sections ls last later p in
    or_some node more (GivenBy (l ∷ later) p) (elim (goes_from ls last l 0 l.path p b.0) [
      | inl x ↦ some_both node (rw (← (x.2)) at (rows_keep ls last l x.0 x.1 l.section.rows k.0))
          (if_there node (λ m is. grind (arith, is, section_same ls last l 0 p b.0 a.0 k.0)))
          (λ m row told. let path = x.2 ∙ ap (λ r. l.path ++ r ∷ x.1) row.1 in
          (0, l, refl, record { first = row.0; others = x.1; path = path; keys = row.2; told = told }))
      | inr not ↦ rw (rows_apart ls last l 0 l.section.rows p not b.0) tt
    ])
    (IfSome_then more (sections_give ls last later p b.1 a.1 k.1)
    (λ m given. (suc given.0, given.1, given.2, given.3)))

-- the keys of a header's path are the header
located_keys : (s : Section) (before : List Section) → keys_of (located_after before s).path ≡ texts s.header
located_keys s before =
    ap keys_of (cuts_are s before (counts_are before) (length (texts s.header)) (omega arith))
    ∙ keys_cut (count_in before) s.is_array [] (texts s.header) (length (texts s.header))
    ∙ take_all (length (texts s.header)) (texts s.header) (omega arith)

-- keys of a path that begins another
begins_keys : (p q : Path) → begins p q ≡ true → begins (steps_of (keys_of p)) (steps_of (keys_of q)) ≡ true
begins_keys [] q e = refl
begins_keys (key k ∷ p) (key l ∷ q) e = grind (arith, begins_keys p q)
begins_keys (number n ∷ p) (number m ∷ q) e = begins_keys p q (and_parts _ _ e).1
begins_keys p q e = absurd (false≢true e)

-- the first keys of a header that begins with them
first_are : (keys header : KeyTexts) → begins (steps_of keys) (steps_of header) ≡ true
    → take (length keys) header ≡ keys
first_are [] header e = refl
first_are (k ∷ keys) [] e = absurd (false≢true e)
first_are (k ∷ keys) (l ∷ header) e = grind (arith, bytes_eq-Decides k l, first_are keys header)

-- the sections of the list where they stand
located_at : (before ss : List Section) (n : ℕ) (l : Located) → slice_get (located_from before ss) n ≡ Some l
    → (header_of (keys_at (map head ss) n) ≡ keys_of l.path) × (keys_of l.path ≡ texts l.section.header)
located_at before [] n l there = absurd (cc)
located_at before (s ∷ ss) zero l there = grind (arith, located_keys s before)
located_at before (s ∷ ss) (suc n) l there = located_at (s ∷ before) ss n l there

-- the headers that the tree keeps are those of the list
header_is : (sections : List Section) (tree : Tree) → IsResolved sections tree → (n : ℕ) (l : Located)
    → slice_get (located sections) n ≡ Some l
    → (header_at tree n ≡ keys_of l.path) × (keys_of l.path ≡ texts l.section.header)
header_is sections tree resolved n l there = rw (resolved.heads) (located_at [] sections n l there)

-- a section whose header leads to a path begins with its keys
header_leads : (sections : List Section) (tree : Tree) → IsResolved sections tree → (n : ℕ) (p : Path)
    → LeadsTo (located sections) n p → Leads tree (keys_of p) n
header_leads sections tree resolved n p leads =
    let l = some_and (slice_get (located sections) n) leads in
    rw ((header_is sections tree resolved n l.0 l.1).0) (begins_keys p l.0.path l.2)

-- a node one step on from a table, where headers made something
made_below : (sections : List Section) (tree : Tree) → IsResolved sections tree → (p : Path) (k : List ℕ)
    (node : Node) → IsOf (trie_at (p ++ key k ∷ []) (tree_trie tree)) node
    → grammar.is_made (located sections) (p ++ key k ∷ []) ≡ true → spot_is_made 1 node.spot ≡ true
made_below sections tree resolved p k node there made =
    let stands = sym (made_in_trie sections (tree_trie tree) resolved.stands (p ++ key k ∷ []) (no_root p (key k)))
    ∙ made in
    grind (arith, there, stands, spot_made 1 node.spot)

-- the keys that a node keeps
kept_first : (from : Node) (tree : Tree) (p : Path) → from.tree.now ≡ tree → from.count ≡ length (keys_of p)
    → (kept : KeepsHeader tree (keys_of p) from.trail)
    → take from.count (header_at from.tree.now kept.section) ≡ keys_of p
kept_first from tree p within count kept =
    rw (within, count) (first_are (keys_of p) (header_at tree kept.section) kept.leads)

has_section : (spot : Spot) → spot_is_made 1 spot ≡ true → (n : ℕ) × (spot_section spot ≡ Some n)
has_section (spots.Table b) made = ((out-Table (table_of b)).section, rw made refl)
has_section (spots.Item b) made = go (out-Item b.now) made
  where
    go : (x : Item-F Item Child Table) → holds_tables x ≡ true → (n : ℕ) × (item_section x ≡ Some n)
    go (Item-F.Tables tables) made = ((out-Table tables.value.1).section, refl)
    go (Item-F.Sections tables) made = (tables.value.1.0, refl)
    go x made = absurd (false≢true made)
has_section (spots.Plain b) made = absurd (false≢true made)

-- the section of what headers made, whose header leads there
pub made_leads : (sections : List Section) (tree : Tree) → IsResolved sections tree → (p : Path) → is_root p ≡ false
    → grammar.is_made (located sections) p ≡ true → (spot : Spot) → spot_is_made 1 spot ≡ true
    → IfSome (tree_origins tree p) (λ o. IfSome (spot_section spot) (λ n. o.section ≡ n))
    → (n : ℕ) × (spot_section spot ≡ Some n) × LeadsTo (located sections) n p
made_leads sections tree resolved [] below made spot own marked = absurd (false≢true (sym below))
made_leads sections tree resolved (s ∷ p) below made spot own marked =
    let n = has_section spot own in
    let x = some_and (tree_origins tree (s ∷ p)) (resolved.marks s p made) in
    let same : x.0.section ≡ n.0 = rw (x.1, n.1) at marked in
    (n.0, n.1, rw (← same) x.2.1)

count_keeps : (from node : Node) (k : List ℕ) → CountsOn from node.count → (tree : Tree) (p : Path)
    → StandsAt tree p from → CountsKeys tree (p ++ key k ∷ []) node
count_keeps from node k counts tree p stands sections resolved =
    let before = stands.count sections resolved in
    let few = few_keys sections tree resolved p (node_data from) stands.holds in
    counts (omega (arith, before, few))
    ∙ rw (before, keys-append p (key k ∷ []), length-append (keys_of p) (k ∷ [])) refl

-- and where a row put what is there
pub any_count : (spot : Spot) (count : ℕ) → (count == 0) ≡ false → spot_is_made 1 spot ≡ spot_is_made count spot
any_count spot count some = grind arith

-- how a node stands below a table at a key, where a child stands for it
pub record Enters (from : Node) (k : List ℕ) (c : Child) (node : Node) : Type 0 where
  pub holds : node_data node ≡ child_data c
  pub below : IsBelow from (child_trie c) node
  pub comes : ComesFrom (child_origins c) node
  pub outer : node.outer ≡ kept_below from
  pub handed : HandsOn from node.trail
  pub count : CountsOn from node.count
  pub made : spot_is_made from.count from.spot ≡ true
      → GoesOn from node.spot node.trail × BeginsRow from k (out-Child c).section node.spot node.trail

-- what is kept of the keys that lead there
module _ {from node : Node} {k : List ℕ} {c : Child} (is : Enters from k c node) (tree : Tree) (p : Path)
    (stands : StandsAt tree p from) (here : tree_origins tree (p ++ key k ∷ []) ≡ child_origins c []) where
  header_keeps : IsOf (trie_at (p ++ key k ∷ []) (tree_trie tree)) node → KeysLead tree (p ++ key k ∷ []) node
  header_keeps there sections resolved made =
      let path = p ++ key k ∷ [] in
      let above = made_before (located sections) p (key k) made in
      let before = stands.keys sections resolved above in
      let goes = (is.made (made_at sections tree from p resolved stands above).0.made).0 in
      let own = made_below sections tree resolved p k node there made in
      let n = made_leads sections tree resolved path (no_root p (key k)) made node.spot own (rw here is.comes.marked) in
      record {
        section = n.0;
        trail = rw (n.1) at goes before.section before.trail;
        leads = header_leads sections tree resolved n.0 path n.2;
      }

  row_keeps : RowsLead tree (p ++ key k ∷ []) node
  row_keeps = rows_on from node (key k) is.handed tree p stands (λ sections resolved l same_key made.
      let kept = stands.keys sections resolved made in
      let within : from.tree.now ≡ tree = stands.within in
      let keys = kept_first from tree p within (stands.count sections resolved) kept in
      let row = (is.made (made_at sections tree from p resolved stands made).0.made).1 in
      let same : k ≡ l = cc in
      rw here (some_both (child_origins c []) (child_bears c) is.comes.own (λ o bears own apart.
      let spot : spot_is_made 1 node.spot ≡ false =
      any_count node.spot node.count is.below.count ∙ sym (ap (λ o. o.made) (own apart)) ∙ apart in
      rw (bears apart, ← same, ← keys, ← within) (row kept.section kept.trail spot))))

  pub key_keeps : IsOf (trie_at (p ++ key k ∷ []) (tree_trie tree)) node → KeepsKeys tree (p ++ key k ∷ []) node
  key_keeps there = (count_keeps from node k is.count tree p stands, header_keeps there, row_keeps)

-- the keys that a node keeps of what headers made
pub made_keys : (sections : List Section) (p : Path) (node : Node) → IsNodeAt sections p node
    → grammar.is_made (located sections) p ≡ true → kept_keys node ≡ keys_of p
unfolding kept_keys
made_keys sections p node is made =
    let kept = is.stands.keys sections is.resolved made in
    rw (kept.trail) (kept_first node node.tree.now p refl (is.stands.count sections is.resolved) kept)

-- the key after those of a path that begins another
key_after : (w y r others : Path) (k l : List ℕ) → y ++ key k ∷ r ≡ key l ∷ others
    → get_or (keys_of (w ++ y)) (length (keys_of w)) k ≡ l
key_after [] [] r others k l same = cc
key_after [] (s ∷ y) r others k l same = let is : s ≡ key l = cc in rw is refl
key_after (key h ∷ w) y r others k l same = key_after w y r others k l same
key_after (number n ∷ w) y r others k l same = key_after w y r others k l same

row_keys : (tree : Tree) (n count : ℕ) (keys : KeyTexts) (k : List ℕ) (trail : Trail) → KeepsRow tree n keys k trail
    → trail_keys tree.headers count trail
    ≡ header_at tree n ++ get_or keys (length (header_at tree n)) k ∷ []
row_keys tree n count keys k trail kept = grind arith

-- the last that headers made on the way to a path, and the step on from it
record LastMade (ls : List Located) (p : Path) : Type 0 where
  before : Path
  step : Step
  rest : Path
  is : p ≡ before ++ step ∷ rest
  made : grammar.is_made ls before ≡ true
  not : grammar.is_made ls (before ++ step ∷ []) ≡ false

made_from : (ls : List Located) (q r : Path) → grammar.is_made ls q ≡ true → grammar.is_made ls (q ++ r) ≡ false
    → LastMade ls (q ++ r)
made_from ls q [] made not = absurd (false≢true (sym (rw append_none at not) ∙ made))
made_from ls q (s ∷ r) made not =
    elim (cases_Bool (grammar.is_made ls (q ++ s ∷ []))) [
      | inl more ↦ rw append_assoc at (made_from ls (q ++ s ∷ []) r more (rw append_assoc not))
      | inr last ↦ record { before = q; step = s; rest = r; is = refl; made = made; not = last }
    ]

-- what a row put at a key of a table that headers made, or below it
module _ (sections : List Section) (node : Node) (p : Path) (is : IsNodeAt sections p node)
    (not : grammar.is_made (located sections) p ≡ false) where
  told_row : (m : grammar.Node) → GivenBy (located sections) p m
      → trail_keys node.tree.now.headers node.count node.trail ≡ m.key_path
  told_row m given =
      let ls = located sections in
      let tree = node.tree.now in
      let row = given.3 in
      let by = made_from ls [] p refl not in
      let step = by.before ++ by.step ∷ [] in
      let entry = entry_at ls (no_clash sections is.resolved).1 (rows_keyed sections is.resolved) by.before by.step
      by.made (not_led ls step by.not) given.0 given.1 given.2 by.rest (rw (by.is) at row.told) in
      let k = entry.key_is.0 in
      let l = given.1 in
      let at = header_is sections tree is.resolved given.0 l given.2 in
      let path : p ≡ by.before ++ key k ∷ by.rest =
      by.is ∙ ap (λ s. by.before ++ s ∷ by.rest) entry.key_is.1 in
      let here : tree_origins tree (by.before ++ key k ∷ []) ≡ Some entry.told.0 =
      ap (λ s. tree_origins tree (by.before ++ s ∷ [])) (sym entry.key_is.1)
      ∙ is.resolved.origins step by.not ∙ entry.told.1 in
      let rows = rw here at (is.stands.rows sections is.resolved by.before k by.rest path by.made) in
      let y = entry.before in
      let same = append_cancel_left l.path (y.0 ++ key k ∷ by.rest) (key row.first ∷ row.others)
      (sym (append_assoc l.path y.0 (key k ∷ by.rest)) ∙ ap (λ w. w ++ key k ∷ by.rest) (sym y.1) ∙ sym path
      ∙ row.path) in
      let first = ap (λ q. get_or (keys_of q) (length (keys_of l.path)) k) y.1 in
      let after = key_after l.path y.0 by.rest row.others k row.first same in
      let keys = row_keys tree given.0 node.count (keys_of by.before) k node.trail
      (rw (entry.told.2) at (rows entry.told.3)) in
      rw (keys, at.0, first, after, at.1) (sym row.keys)

  pub row_keys_told : IfSome (grammar.node_at sections p) (λ found. kept_keys node ≡ found.key_path)
  unfolding kept_keys
  row_keys_told =
      let ls = located sections in
      let last = grammar.last_at sections in
      rw not (IfSome_then (grammar.node_of_sections ls last ls p) (sections_give ls last ls p (not_led ls p not)
      (rows_free sections is.resolved) (rows_keyed sections is.resolved)) told_row)
