-- The tree of data that is kept of a written value, and the written value of a tree (own). Absent entries are left
-- out, texts of either kind are strings, and bytes are an array of integers. What has no form in a tree, a refused
-- scalar or an absent option outside a table, counts as an empty table: an unsupported shape excludes it.
use Rattle.std.specs.Prelude.{ℕ, pos, List, [], ◌∷◌}
use Rattle.basic_toml_value.specs.Data as d
use Rattle.basic_toml_layout.specs.Written.{Scalar, integer, boolean, float, text, other_text, bytes, refused, Written}
use Rattle.basic_toml_layout.specs.Written.{scalar, absent, array, table, Elements, no_elements, element, Entries}
use Rattle.basic_toml_layout.specs.Written.{no_entries, entry}

abbrev pub number_items : List ℕ → d.Items
number_items [] = d.no_items
number_items (n ∷ ns) = d.item (d.integer (pos n)) (number_items ns)

abbrev pub scalar_tree : Scalar → d.Data
scalar_tree (integer z) = d.integer z
scalar_tree (boolean b) = d.boolean b
scalar_tree (float t) = d.float t
scalar_tree (text t) = d.string t
scalar_tree (other_text t) = d.string t
scalar_tree (bytes ns) = d.array (number_items ns)
scalar_tree refused = d.table d.no_members

abbrev mutual
  pub tree_of : Written → d.Data
  tree_of (scalar l) = scalar_tree l
  tree_of absent = d.table d.no_members
  tree_of (array es) = d.array (element_trees es)
  tree_of (table es) = d.table (entry_trees es)

  pub element_trees : Elements → d.Items
  element_trees no_elements = d.no_items
  element_trees (element v es) = d.item (tree_of v) (element_trees es)

  pub entry_trees : Entries → d.Members
  entry_trees no_entries = d.no_members
  entry_trees (entry k absent es) = entry_trees es
  entry_trees (entry k v es) = d.member k (tree_of v) (entry_trees es)

abbrev mutual
  pub written_of : d.Data → Written
  written_of (d.integer z) = scalar (integer z)
  written_of (d.float t) = scalar (float t)
  written_of (d.boolean b) = scalar (boolean b)
  written_of (d.string t) = scalar (text t)
  written_of (d.array xs) = array (elements_of xs)
  written_of (d.table ms) = table (entries_of ms)

  pub elements_of : d.Items → Elements
  elements_of d.no_items = no_elements
  elements_of (d.item x xs) = element (written_of x) (elements_of xs)

  pub entries_of : d.Members → Entries
  entries_of d.no_members = no_entries
  entries_of (d.member k x ms) = entry k (written_of x) (entries_of ms)
