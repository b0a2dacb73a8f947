-- What is kept of a written value (own): the absent entries of its tables are left out, at every depth; texts of
-- either kind count as strings, and bytes as an array of integers.
use Rattle.std.specs.Prelude.{ℕ, pos, List, [], ◌∷◌}
use Rattle.basic_toml_layout.specs.Written.{Scalar, integer, text, other_text, bytes, Written, scalar, absent, array}
use Rattle.basic_toml_layout.specs.Written.{table, Elements, no_elements, element, Entries, no_entries, entry}

abbrev pub number_elements : List ℕ → Elements
number_elements [] = no_elements
number_elements (n ∷ ns) = element (scalar (integer (pos n))) (number_elements ns)

abbrev pub kept_scalar : Scalar → Written
kept_scalar (other_text t) = scalar (text t)
kept_scalar (bytes ns) = array (number_elements ns)
kept_scalar l = scalar l

abbrev mutual
  pub kept : Written → Written
  kept (scalar l) = kept_scalar l
  kept absent = absent
  kept (array es) = array (kept_elements es)
  kept (table es) = table (kept_entries es)

  pub kept_elements : Elements → Elements
  kept_elements no_elements = no_elements
  kept_elements (element v es) = element (kept v) (kept_elements es)

  pub kept_entries : Entries → Entries
  kept_entries no_entries = no_entries
  kept_entries (entry k absent es) = kept_entries es
  kept_entries (entry k v es) = entry k (kept v) (kept_entries es)
