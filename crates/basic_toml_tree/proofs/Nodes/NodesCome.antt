-- A node comes from what the origins in the tree tell at its path.
use Rattle.std.proofs.Common.{inl, inr, ◌≡◌, ◌==◌, ℕ, true, false, [], ◌∷◌, ◌++◌, Option, Some, refl, ap, sym, ◌∙◌, Bor}
use Rattle.std.proofs.Common.{subst, rules, append_assoc, IfSome, if◌then◌else◌}
use Rattle.std.proofs.Math.Path.{fun_ext}
use Rattle.std.proofs.lemmas.Bool.{cases_Bool}
use Rattle.std.proofs.lemmas.Option.{IfSome_then}
use Rattle.basic_toml_grammar.specs.Steps.{Step, Path}
use Rattle.basic_toml_grow.specs.declared.item.Item.{Item, out-Item, the_lemmas}
use Rattle.basic_toml_grow.specs.declared.item.Item.TheOpen.{Item-F}
use Rattle.basic_toml_grow.specs.declared.item.Item.TheViews.{roll-Item}
use Rattle.basic_toml_grow.specs.Origins.{Origin, Origins, table_origin, array_origin, item_origins, child_origins}
use Rattle.basic_toml_grow.specs.Origins.{of_table, section_in, table_within}
use Rattle.basic_toml_grow.specs.declared.item.Child.{Child, out-Child}
use Rattle.basic_toml_grow.specs.declared.item.Table.{Table}
use Rattle.basic_toml_tree.specs.declared.tree.Tree.{Tree}
use Rattle.basic_toml_tree.specs.declared.node.Node.{Node}
use Rattle.basic_toml_tree.specs.declared.spot.HeaderTable.{HeaderTable}
use Rattle.basic_toml_tree.specs.declared.spot.Spot.{Spot}
use Rattle.basic_toml_tree.specs.declared.spot.Spot.TheVariants as spots
use Rattle.basic_toml_tree.specs.HeaderTables.{table_of}
use Rattle.basic_toml_tree.specs.Origin.{holds_tables, item_name, item_section, table_is_made, holds_string}
use Rattle.basic_toml_tree.specs.Stands.{node_origins, SpotComes, ComesFrom, tree_origins}
use Rattle.basic_toml_grow.proofs.ItemsStand.{shape}
use Rattle.basic_toml_grow.proofs.Origins.OriginsSeen.{child_seen, made_seen, section_seen, table_origins, seen_at_none}

-- what tells the same at each path
pub comes_alike : {f g : Origins} {count : ℕ} {spot : Spot} {at : ℕ} → ((q : Path) → f q ≡ g q)
    → SpotComes g count spot at → SpotComes f count spot at
comes_alike {count = count} {spot = spot} {at = at} same comes =
    subst (λ f. SpotComes f count spot at) (sym (fun_ext same)) comes

-- one step on from a node
pub comes_on : (from node : Node) (s : Step) (tree : Tree) (p : Path)
    → ComesFrom (λ q. tree_origins tree (p ++ q)) from
    → ((at : ℕ) → ComesFrom (λ q. node_origins at from (s ∷ q)) node)
    → ComesFrom (λ q. tree_origins tree ((p ++ s ∷ []) ++ q)) node
comes_on from node s tree p comes on =
    comes_alike (λ q. ap (tree_origins tree) (append_assoc p (s ∷ []) q) ∙ comes.parts s q) (on comes.section)

-- the root, of which nothing is told
pub root_comes : (tree : Tree) (b : HeaderTable) (at : ℕ) → table_of b ≡ tree.root
    → SpotComes (λ q. tree_origins tree q) 0 (spots.Table b) at
root_comes tree b at is = record {
  section = 0;
  own = rw (seen_at_none tree.root) tt;
  marked = rw (seen_at_none tree.root) tt;
  parts = λ s q. ap (λ t. table_origins t (s ∷ q)) (sym is);
}

-- a table of headers or of dotted keys
pub table_comes : (t : Table) (b : HeaderTable) (count at s : ℕ) → table_of b ≡ t → (count == 0) ≡ false
    → SpotComes (of_table at s (table_within t)) count (spots.Table b) at
table_comes t b count at s is some =
    let same : table_is_made (table_of b) ≡ (table_within t).made = ap table_is_made is ∙ sym (made_seen t) in
    record {
      section = s;
      own = λ apart. rw (apart, some, same, apart) refl;
      marked = elim (cases_Bool (table_within t).made) [
        | inl made ↦ rw (same, made, is) (section_seen t)
        | inr apart ↦ rw (same, apart) tt
      ];
      parts = λ r q. ap (λ t. table_origins t (r ∷ q)) (sym is);
    }

-- a child that has such a table
pub child_table_comes : (c : Child) (t : Table) (b : HeaderTable) (count : ℕ)
    → item_origins (out-Child c).item (out-Child c).start (out-Child c).section
    ≡ of_table (out-Child c).start (out-Child c).section (table_within t)
    → table_of b ≡ t → (count == 0) ≡ false
    → SpotComes (child_origins c) count (spots.Table b) (out-Child c).start
child_table_comes c t b count seen same some =
    let x = out-Child c in rw (child_seen c, seen) (table_comes t b count x.start x.section same some)

-- What an item tells of itself is what is seen of it, unless headers made it: then it bears the section whose header is
-- the latest that leads there.
abbrev item_told : Item-F Item Child Table → ℕ → ℕ → Origin
item_told x at s =
    record { made = holds_tables x; name = item_name x; start = at; section = s; is_slice = holds_string x }

abbrev Tells : Item-F Item Child Table → ℕ → ℕ → Option Origin → Type 0
Tells x at s o =
    IfSome o (λ o. (o.made ≡ false → o ≡ item_told x at s) × IfSome (item_section x) (λ n. o.section ≡ n))

told_by : (x : Item-F Item Child Table) (at s : ℕ) (o : Origin) → item_origins (roll-Item x) at s [] ≡ Some o
    → (o.made ≡ false → o ≡ item_told x at s) → IfSome (item_section x) (λ n. o.section ≡ n)
    → Tells x at s (item_origins (roll-Item x) at s [])
told_by x at s o is told marked = rw is (told, marked)

form_tells : (x : Item-F Item Child Table) (at s : ℕ) → Tells x at s (item_origins (roll-Item x) at s [])
form_tells (Item-F.Table z) at s =
    let w = table_within z.value in
    told_by (Item-F.Table z) at s (table_origin w.made at (section_in w s)) (search (rules, the_lemmas))
    (λ apart. ap (λ made. table_origin made at (if made then w.section else s)) apart) tt
form_tells (Item-F.Section z) at s =
    told_by (Item-F.Section z) at s (table_origin true at s) (search (rules, the_lemmas)) (λ apart. cc) tt
form_tells (Item-F.Tables y) at s =
    told_by (Item-F.Tables y) at s (array_origin at (table_within y.value.1).section) (search (rules, the_lemmas))
    (λ apart. cc) (section_seen y.value.1)
form_tells (Item-F.Sections y) at s =
    told_by (Item-F.Sections y) at s (array_origin at y.value.1.0) (search (rules, the_lemmas)) (λ apart. cc) refl
form_tells x at s = told_by x at s (item_told x at s) (search (rules, the_lemmas)) (λ apart. refl) tt

item_tells : (i : Item) (at s : ℕ) → Tells (out-Item i) at s (item_origins i at s [])
item_tells i at s =
    subst (λ j. Tells (out-Item i) at s (item_origins j at s [])) (sym (shape i (out-Item i) refl))
    (form_tells (out-Item i) at s)

-- of what rows made, the section that first mentioned it
pub child_bears : (c : Child)
    → IfSome (child_origins c []) (λ o. o.made ≡ false → o.section ≡ (out-Child c).section)
child_bears c =
    let x = out-Child c in
    rw (child_seen c) (IfSome_then (item_origins x.item x.start x.section []) (item_tells x.item x.start x.section)
    (λ o told apart. ap (λ o. o.section) (told.0 apart)))

pub item_comes : (c : Child) (b : Bor Item) (count : ℕ) → b.now ≡ (out-Child c).item
    → SpotComes (child_origins c) count (spots.Item b) (out-Child c).start
item_comes c b count is =
    let x = out-Child c in
    let tells = item_tells b.now x.start x.section in
    let own = item_origins b.now x.start x.section [] in
    rw (child_seen c, ← is) (record {
      section = x.section;
      own = IfSome_then own tells (λ o told. told.0);
      marked = IfSome_then own tells (λ o told. told.1);
      parts = λ r q. refl;
    })
