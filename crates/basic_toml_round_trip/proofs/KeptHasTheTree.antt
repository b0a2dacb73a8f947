-- The tree of what is kept is the tree of the written value, and is as deep as it is written.
use Rattle.std.proofs.Common.{◌≡◌, ℕ, suc, max, List, [], ◌∷◌, refl, ap, ◌∙◌, pos}
use Rattle.basic_toml_value.specs.Data as d
use Rattle.basic_toml_value.specs.Data.{Data, Items, no_items, item, Members, no_members, member}
use Rattle.basic_toml_layout.specs.Written as w
use Rattle.basic_toml_layout.specs.Written.{Scalar, Written, scalar, absent, array, table, Elements, no_elements}
use Rattle.basic_toml_layout.specs.Written.{element, Entries, no_entries, entry}
use Rattle.basic_toml_emit.specs.Depth as written
use Rattle.basic_toml_write.specs.Kept.{kept, kept_scalar, kept_elements, kept_entries, number_elements}
use Rattle.basic_toml_layout.specs.Trees.{number_items, scalar_tree, tree_of, element_trees, entry_trees, written_of}
use Rattle.basic_toml_layout.specs.Trees.{elements_of, entries_of}
use Rattle.basic_toml_grammar.specs.Depth.{depth, depth_of_items, depth_of_members}

numbers_kept : (ns : List ℕ) → element_trees (number_elements ns) ≡ number_items ns
numbers_kept [] = refl
numbers_kept (n ∷ ns) = ap (item (d.integer (pos n))) (numbers_kept ns)

scalar_kept : (l : Scalar) → tree_of (kept_scalar l) ≡ scalar_tree l
scalar_kept (w.bytes ns) = ap d.array (numbers_kept ns)
scalar_kept (w.integer z) = refl
scalar_kept (w.boolean b) = refl
scalar_kept (w.float t) = refl
scalar_kept (w.text t) = refl
scalar_kept (w.other_text t) = refl
scalar_kept w.refused = refl

-- a scalar that is kept is present
member_kept : (k : List ℕ) (l : Scalar) (es : Entries)
    → entry_trees (entry k (kept_scalar l) es) ≡ member k (tree_of (kept_scalar l)) (entry_trees es)
member_kept k (w.bytes ns) es = refl
member_kept k (w.integer z) es = refl
member_kept k (w.boolean b) es = refl
member_kept k (w.float t) es = refl
member_kept k (w.text t) es = refl
member_kept k (w.other_text t) es = refl
member_kept k w.refused es = refl

mutual
  pub tree-kept : (v : Written) → tree_of (kept v) ≡ tree_of v
  tree-kept (scalar l) = scalar_kept l
  tree-kept absent = refl
  tree-kept (array es) = ap d.array (elements-kept es)
  tree-kept (table es) = ap d.table (entries-kept es)

  elements-kept : (es : Elements) → element_trees (kept_elements es) ≡ element_trees es
  elements-kept no_elements = refl
  elements-kept (element v es) = (λ i. item (tree-kept v i) (elements-kept es i))

  entries-kept : (es : Entries) → entry_trees (kept_entries es) ≡ entry_trees es
  entries-kept no_entries = refl
  entries-kept (entry k absent es) = entries-kept es
  entries-kept (entry k (scalar l) es) =
      member_kept k l (kept_entries es) ∙ (λ i. member k (scalar_kept l i) (entries-kept es i))
  entries-kept (entry k (array vs) es) = (λ i. member k (d.array (elements-kept vs i)) (entries-kept es i))
  entries-kept (entry k (table x) es) = (λ i. member k (d.table (entries-kept x i)) (entries-kept es i))

-- a tree is as deep as it is written
mutual
  pub depth-written : (x : Data) → written.depth (written_of x) ≡ depth x
  depth-written (d.integer z) = refl
  depth-written (d.float t) = refl
  depth-written (d.boolean b) = refl
  depth-written (d.string t) = refl
  depth-written (d.array xs) = ap suc (items-written xs)
  depth-written (d.table ms) = ap suc (members-written ms)

  items-written : (xs : Items) → written.elements_depth (elements_of xs) ≡ depth_of_items xs
  items-written no_items = refl
  items-written (item x xs) = (λ i. max (depth-written x i) (items-written xs i))

  members-written : (ms : Members) → written.entries_depth (entries_of ms) ≡ depth_of_members ms
  members-written no_members = refl
  members-written (member k x ms) = (λ i. max (depth-written x i) (members-written ms i))
