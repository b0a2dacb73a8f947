-- Trees of data, and what is kept of written values.
use Rattle.std.proofs.Common.{◌≡◌, ℕ, List, [], ◌∷◌, ◌++◌, refl, ap, subst, false, append_assoc}
use Rattle.std.specs.Prelude.{pos}
use Rattle.std.proofs.lemmas.Bool.{or_parts, true≢false}
use Rattle.basic_toml_value.specs.Data as d
use Rattle.basic_toml_layout.specs.Written.{integer, boolean, float, text, other_text, bytes, refused, Written, scalar}
use Rattle.basic_toml_layout.specs.Written.{absent, array, table, Elements, no_elements, element, Entries, no_entries}
use Rattle.basic_toml_layout.specs.Written.{entry, is_absent}
use Rattle.basic_toml_emit.specs.Items.{Item, close}
use Rattle.basic_toml_write.specs.Spelling.{IsValue, one_scalar, an_array, a_table, AreElements, array_end}
use Rattle.basic_toml_write.specs.Spelling.{an_element, member, AreEntries, table_end, by_field, bare, Spells, root}
use Rattle.basic_toml_write.specs.Impls.{data_calls, items_calls, members_calls}
use Rattle.basic_toml_write.specs.Kept.{kept, kept_elements, kept_entries, number_elements}
use Rattle.basic_toml_write.specs.Shapes.{holds_absent, has_bad, element_has_bad, entry_has_bad, is_unsupported}
use Rattle.basic_toml_layout.specs.Trees.{number_items, tree_of, element_trees, entry_trees, written_of, elements_of}
use Rattle.basic_toml_layout.specs.Trees.{entries_of}

ap2 : {A B C : Type 0} (f : A → B → C) {a a' : A} {b b' : B} → a ≡ a' → b ≡ b' → f a b ≡ f a' b'
ap2 f p q = λ i. f (p i) (q i)

-- the items of a tree, with a list after them
mutual
  spells_onto : (x : d.Data) (rest : List Item) → IsValue (data_calls x ++ rest) (written_of x) rest
  spells_onto (d.integer z) rest = one_scalar
  spells_onto (d.float t) rest = one_scalar
  spells_onto (d.boolean b) rest = one_scalar
  spells_onto (d.string t) rest = one_scalar
  spells_onto (d.array xs) rest = an_array (items_onto xs rest)
  spells_onto (d.table ms) rest = a_table (members_onto ms rest)

  items_onto : (xs : d.Items) (rest : List Item)
      → AreElements ((items_calls xs ++ (close ∷ [])) ++ rest) (elements_of xs) rest
  items_onto d.no_items rest = array_end
  items_onto (d.item x xs) rest =
      an_element (member (subst (λ is. IsValue is (written_of x) ((items_calls xs ++ (close ∷ [])) ++ rest))
      (simp append_assoc) (spells_onto x ((items_calls xs ++ (close ∷ [])) ++ rest))) (items_onto xs rest))

  members_onto : (ms : d.Members) (rest : List Item)
      → AreEntries ((members_calls ms ++ (close ∷ [])) ++ rest) (entries_of ms) rest
  members_onto d.no_members rest = table_end
  members_onto (d.member k x ms) rest =
      by_field (bare (subst (λ is. IsValue is (written_of x) ((members_calls ms ++ (close ∷ [])) ++ rest))
      (simp append_assoc) (spells_onto x ((members_calls ms ++ (close ∷ [])) ++ rest)))) (members_onto ms rest)

-- the items of a tree spell its written value
pub spells_tree : (x : d.Data) → Spells (data_calls x) (written_of x)
spells_tree x = root (subst (λ is. IsValue is (written_of x) []) (append_nothing (data_calls x)) (spells_onto x []))
  where
    append_nothing : (is : List Item) → is ++ [] ≡ is
    append_nothing [] = refl
    append_nothing (i ∷ is) = ap (λ z. i ∷ z) (append_nothing is)

mutual
  pub tree-written : (x : d.Data) → tree_of (written_of x) ≡ x
  tree-written (d.integer z) = refl
  tree-written (d.float t) = refl
  tree-written (d.boolean b) = refl
  tree-written (d.string t) = refl
  tree-written (d.array xs) = ap d.array (items-written xs)
  tree-written (d.table ms) = ap d.table (members-written ms)

  items-written : (xs : d.Items) → element_trees (elements_of xs) ≡ xs
  items-written d.no_items = refl
  items-written (d.item x xs) = ap2 d.item (tree-written x) (items-written xs)

  members-written : (ms : d.Members) → entry_trees (entries_of ms) ≡ ms
  members-written d.no_members = refl
  members-written (d.member k (d.integer z) ms) = ap (d.member k (d.integer z)) (members-written ms)
  members-written (d.member k (d.float t) ms) = ap (d.member k (d.float t)) (members-written ms)
  members-written (d.member k (d.boolean b) ms) = ap (d.member k (d.boolean b)) (members-written ms)
  members-written (d.member k (d.string t) ms) = ap (d.member k (d.string t)) (members-written ms)
  members-written (d.member k (d.array xs) ms) = ap2 (d.member k) (tree-written (d.array xs)) (members-written ms)
  members-written (d.member k (d.table xs) ms) = ap2 (d.member k) (tree-written (d.table xs)) (members-written ms)

numbers-written : (ns : List ℕ) → elements_of (number_items ns) ≡ number_elements ns
numbers-written [] = refl
numbers-written (n ∷ ns) = ap (element (scalar (integer (pos n)))) (numbers-written ns)

-- the written value of the tree is what is kept, where each part has a form in a tree
mutual
  written-tree : (w : Written) → is_absent w ≡ false → has_bad w ≡ false → written_of (tree_of w) ≡ kept w
  written-tree (scalar (integer z)) a b = refl
  written-tree (scalar (boolean x)) a b = refl
  written-tree (scalar (float t)) a b = refl
  written-tree (scalar (text t)) a b = refl
  written-tree (scalar (other_text t)) a b = refl
  written-tree (scalar (bytes ns)) a b = ap array (numbers-written ns)
  written-tree (scalar refused) a b = absurd (true≢false b)
  written-tree absent a b = absurd (true≢false a)
  written-tree (array es) a b =
      let x = or_parts _ _ b in
      let y = or_parts _ _ x.0 in
      let z = or_parts _ _ y.1 in
      ap array (elements-tree es z.1 x.1)
  written-tree (table es) a b = ap table (entries-tree es (or_parts _ _ b).1)

  elements-tree : (es : Elements) → holds_absent es ≡ false → element_has_bad es ≡ false
      → elements_of (element_trees es) ≡ kept_elements es
  elements-tree no_elements a b = refl
  elements-tree (element v es) a b =
      let a' = or_parts _ _ a in
      let b' = or_parts _ _ b in
      ap2 element (written-tree v a'.0 b'.0) (elements-tree es a'.1 b'.1)

  entries-tree : (es : Entries) → entry_has_bad es ≡ false → entries_of (entry_trees es) ≡ kept_entries es
  entries-tree no_entries b = refl
  entries-tree (entry k absent es) b = entries-tree es b
  entries-tree (entry k (scalar x) es) b = let b' = or_parts _ _ b in
      ap2 (entry k) (written-tree (scalar x) refl b'.0) (entries-tree es b'.1)
  entries-tree (entry k (array x) es) b = let b' = or_parts _ _ b in
      ap2 (entry k) (written-tree (array x) refl b'.0) (entries-tree es b'.1)
  entries-tree (entry k (table x) es) b = let b' = or_parts _ _ b in
      ap2 (entry k) (written-tree (table x) refl b'.0) (entries-tree es b'.1)

pub written-tree_kept : (limit : ℕ) (w : Written) → is_unsupported limit w ≡ false → written_of (tree_of w) ≡ kept w
written-tree_kept limit (scalar l) u = absurd (true≢false u)
written-tree_kept limit absent u = absurd (true≢false u)
written-tree_kept limit (array es) u = absurd (true≢false u)
written-tree_kept limit (table es) u = written-tree (table es) refl (or_parts _ _ u).0
