-- What is kept of a written value has its layout and its depth.
use Rattle.std.proofs.Common.{◌≡◌, ℕ, suc, List, [], ◌∷◌, ◌++◌, refl, sym, ◌∙◌, ap, cond, Bool, true, false, max, arith}
use Rattle.std.proofs.lemmas.List.{append_assoc}
use Rattle.std.specs.Prelude.{decimal}
use Rattle.basic_toml_layout.specs.Written.{integer, boolean, float, text, other_text, bytes, refused, Written, scalar}
use Rattle.basic_toml_layout.specs.Written.{absent, array, table, Elements, no_elements, element, Entries, no_entries}
use Rattle.basic_toml_layout.specs.Written.{entry}
use Rattle.basic_toml_layout.specs.Texts.{written_scalar, written_numbers, more_numbers, comma}
use Rattle.basic_toml_layout.specs.Layout.{layout, written, written_elements, more_elements, entry_text, array_text}
use Rattle.basic_toml_layout.specs.Layout.{sections_text, entries_text, is_header_due, element_header, table_header}
use Rattle.basic_toml_layout.specs.Layout.{row_start}
use Rattle.basic_toml_emit.specs.Depth.{depth, elements_depth, entries_depth}
use Rattle.basic_toml_write.specs.Kept.{kept, kept_elements, kept_entries, number_elements}

ap2 : {A B C : Type 0} (f : A → B → C) {a a' : A} {b b' : B} → a ≡ a' → b ≡ b' → f a b ≡ f a' b'
ap2 f p q = λ i. f (p i) (q i)

max_none : (n : ℕ) → max 0 n ≡ n
max_none n = omega arith

no_depth : (ns : List ℕ) → elements_depth (number_elements ns) ≡ 0
no_depth [] = refl
no_depth (n ∷ ns) = rw (no_depth ns) refl

mutual
  pub depth-kept : (w : Written) → depth (kept w) ≡ depth w
  depth-kept (scalar (integer z)) = refl
  depth-kept (scalar (boolean b)) = refl
  depth-kept (scalar (float t)) = refl
  depth-kept (scalar (text t)) = refl
  depth-kept (scalar (other_text t)) = refl
  depth-kept (scalar (bytes ns)) = ap suc (no_depth ns)
  depth-kept (scalar refused) = refl
  depth-kept absent = refl
  depth-kept (array es) = ap suc (depth-kept_elements es)
  depth-kept (table es) = ap suc (depth-kept_entries es)

  depth-kept_elements : (es : Elements) → elements_depth (kept_elements es) ≡ elements_depth es
  depth-kept_elements no_elements = refl
  depth-kept_elements (element v es) = ap2 max (depth-kept v) (depth-kept_elements es)

  depth-kept_entries : (es : Entries) → entries_depth (kept_entries es) ≡ entries_depth es
  depth-kept_entries no_entries = refl
  depth-kept_entries (entry k absent es) = depth-kept_entries es ∙ sym (max_none (entries_depth es))
  depth-kept_entries (entry k (scalar l) es) = ap2 max (depth-kept (scalar l)) (depth-kept_entries es)
  depth-kept_entries (entry k (array x) es) = ap2 max (depth-kept (array x)) (depth-kept_entries es)
  depth-kept_entries (entry k (table x) es) = ap2 max (depth-kept (table x)) (depth-kept_entries es)

more_numbers_written : (ns : List ℕ) → more_elements (number_elements ns) ≡ more_numbers ns
more_numbers_written [] = refl
more_numbers_written (n ∷ ns) = ap (λ z. comma ++ (decimal n ++ z)) (more_numbers_written ns)

numbers_written : (ns : List ℕ) → written_elements (number_elements ns) ≡ written_numbers ns
numbers_written [] = refl
numbers_written (n ∷ ns) = ap (λ z. decimal n ++ z) (more_numbers_written ns)

mutual
  written-kept : (w : Written) → written (kept w) ≡ written w
  written-kept (scalar (integer z)) = refl
  written-kept (scalar (boolean b)) = refl
  written-kept (scalar (float t)) = refl
  written-kept (scalar (text t)) = refl
  written-kept (scalar (other_text t)) = refl
  written-kept (scalar (bytes ns)) = ap (λ z. 91 ∷ (z ++ (93 ∷ []))) (numbers_written ns)
  written-kept (scalar refused) = refl
  written-kept absent = refl
  written-kept (array es) = ap (λ z. 91 ∷ (z ++ (93 ∷ []))) (elements-kept es)
  written-kept (table es) = refl

  elements-kept : (es : Elements) → written_elements (kept_elements es) ≡ written_elements es
  elements-kept no_elements = refl
  elements-kept (element v es) = ap2 (λ a b. a ++ b) (written-kept v) (more-kept es)

  more-kept : (es : Elements) → more_elements (kept_elements es) ≡ more_elements es
  more-kept no_elements = refl
  more-kept (element v es) = ap2 (λ a b. comma ++ (a ++ b)) (written-kept v) (more-kept es)

is_header_due-kept : (es : Entries) → is_header_due (kept_entries es) ≡ is_header_due es
is_header_due-kept no_entries = refl
is_header_due-kept (entry k absent es) = is_header_due-kept es
is_header_due-kept (entry k (scalar (bytes [])) es) = refl
is_header_due-kept (entry k (scalar (bytes (n ∷ ns))) es) = refl
is_header_due-kept (entry k (scalar x) es) = refl
is_header_due-kept (entry k (array no_elements) es) = refl
is_header_due-kept (entry k (array (element (scalar (bytes ns)) ms)) es) = refl
is_header_due-kept (entry k (array (element (scalar x) ms)) es) = refl
is_header_due-kept (entry k (array (element absent ms)) es) = refl
is_header_due-kept (entry k (array (element (array x) ms)) es) = refl
is_header_due-kept (entry k (array (element (table x) ms)) es) = refl
is_header_due-kept (entry k (table x) es) = refl

numbers_row : (path : List (List ℕ)) (k : List ℕ) (later : Bool) (ns : List ℕ)
    → array_text path k later (number_elements ns) ≡ row_start k ++ (91 ∷ (written_numbers ns ++ (93 ∷ 10 ∷ [])))
numbers_row path k later [] = refl
numbers_row path k later (n ∷ ns) = rw (more_numbers_written ns) (simp append_assoc)

bytes_row : (path : List (List ℕ)) (k : List ℕ) (later : Bool) (ns : List ℕ)
    → array_text path k later (number_elements ns) ≡ entry_text path k later (scalar (bytes ns))
bytes_row path k later ns = numbers_row path k later ns ∙ simp append_assoc

mutual
  entry-kept : (path : List (List ℕ)) (k : List ℕ) (later : Bool) (v : Written)
      → entry_text path k later (kept v) ≡ entry_text path k later v
  entry-kept path k later (scalar (integer z)) = refl
  entry-kept path k later (scalar (boolean b)) = refl
  entry-kept path k later (scalar (float t)) = refl
  entry-kept path k later (scalar (text t)) = refl
  entry-kept path k later (scalar (other_text t)) = refl
  entry-kept path k later (scalar (bytes ns)) = bytes_row path k later ns
  entry-kept path k later (scalar refused) = refl
  entry-kept path k later absent = refl
  entry-kept path k later (array es) = array-kept path k later es
  entry-kept path k later (table es) =
      ap2 (λ d z. cond d (table_header later (k ∷ path)) [] ++ z) (is_header_due-kept es)
      (entries-kept (k ∷ path) false es)

  array-kept : (path : List (List ℕ)) (k : List ℕ) (later : Bool) (es : Elements)
      → array_text path k later (kept_elements es) ≡ array_text path k later es
  array-kept path k later no_elements = refl
  array-kept path k later (element (table es) vs) =
      ap2 (λ a b. element_header later (k ∷ path) ++ (a ++ b)) (entries-kept (k ∷ path) false es)
      (sections-kept (k ∷ path) vs)
  array-kept path k later (element (scalar (bytes ns)) vs) =
      ap2 (λ a b. row_start k ++ (91 ∷ (a ++ (b ++ (93 ∷ 10 ∷ []))))) (written-kept (scalar (bytes ns))) (more-kept vs)
  array-kept path k later (element (scalar x) vs) =
      ap (λ b. row_start k ++ (91 ∷ (written_scalar x ++ (b ++ (93 ∷ 10 ∷ []))))) (more-kept vs)
  array-kept path k later (element absent vs) = ap (λ b. row_start k ++ (91 ∷ (b ++ (93 ∷ 10 ∷ [])))) (more-kept vs)
  array-kept path k later (element (array x) vs) =
      ap2 (λ a b. row_start k ++ (91 ∷ (a ++ (b ++ (93 ∷ 10 ∷ []))))) (written-kept (array x)) (more-kept vs)

  sections-kept : (path : List (List ℕ)) (es : Elements) → sections_text path (kept_elements es) ≡ sections_text path es
  sections-kept path no_elements = refl
  sections-kept path (element (table es) vs) =
      ap2 (λ a b. element_header true path ++ (a ++ b)) (entries-kept path false es) (sections-kept path vs)
  sections-kept path (element (scalar (bytes ns)) vs) = sections-kept path vs
  sections-kept path (element (scalar x) vs) = sections-kept path vs
  sections-kept path (element absent vs) = sections-kept path vs
  sections-kept path (element (array x) vs) = sections-kept path vs

  entries-kept : (path : List (List ℕ)) (later : Bool) (es : Entries)
      → entries_text path later (kept_entries es) ≡ entries_text path later es
  entries-kept path later no_entries = refl
  entries-kept path later (entry k absent es) = entries-kept path later es
  entries-kept path later (entry k (scalar (bytes ns)) es) =
      ap2 (λ a b. a ++ b) (entry-kept path k later (scalar (bytes ns))) (entries-kept path true es)
  entries-kept path later (entry k (scalar x) es) =
      ap (λ b. entry_text path k later (scalar x) ++ b) (entries-kept path true es)
  entries-kept path later (entry k (array x) es) =
      ap2 (λ a b. a ++ b) (entry-kept path k later (array x)) (entries-kept path true es)
  entries-kept path later (entry k (table x) es) =
      ap2 (λ a b. a ++ b) (entry-kept path k later (table x)) (entries-kept path true es)

-- writing what is kept gives the same text
pub layout-kept : (w : Written) → layout (kept w) ≡ layout w
layout-kept (scalar (bytes ns)) = refl
layout-kept (scalar x) = refl
layout-kept absent = refl
layout-kept (array es) = refl
layout-kept (table es) = entries-kept [] false es
