-- Which variant a string names, and why one names none.
use Rattle.std.proofs.Common.{◌≡◌, ℕ, ◌<◌, true, false, List, [], ◌∷◌, length, refl, sym, ◌∙◌, ap, codes}
use Rattle.std.proofs.Common.{Some, None, is_some, Bor, inl, inr}
use Rattle.std.specs.List.{position}
use Rattle.std.specs.Str.{bytes_eq}
use Rattle.std.proofs.lemmas.List.Quantifiers.{position-Some}
use Rattle.basic_toml_index.specs.Keys.{is_among}
use Rattle.basic_toml_value.specs.Data.{Data, string_in}
use Rattle.basic_toml_tree.specs.declared.node.Node.{Node}
use Rattle.basic_toml_tree.specs.Nodes.{node_data, is_table, entries_in}
use Rattle.basic_toml_tree.specs.Origin.{is_made, name_of}
use Rattle.basic_toml_error.specs.Fault.{Fault, custom, wanted, unknown_field}
use Rattle.basic_toml_typed.specs.FieldKeys.{position_among}
use Rattle.basic_toml_typed.specs.FieldFaults.{first_other, only_fails, variant_fails}
use Rattle.basic_toml_typed.specs.TypeAnswers.{OrMemory}
use Rattle.basic_toml_typed.specs.TypeFaults.{wrong_type}
use Rattle.basic_toml_error.specs.NodeFaults.{IsFault, fault_at, fault_around, fault_at_start}
use Rattle.basic_toml_error.specs.NodeFaults.{unknown_field_message, unknown_variant_message}
use Rattle.basic_toml_typed.specs.TypeReads.{IsVariant, HasVariant}
use Rattle.basic_toml_typed.proofs.NamesListed.{numbers_of, texts_of, position_is_by_numbers, position_is_among}
use Rattle.basic_toml_typed.proofs.FieldsFail.{made_so}

pub variant_found : (names : List (Bor (List ℕ))) (d : Data) (text : List ℕ) (p : ℕ) → string_in d ≡ Some text
    → Some p ≡ position (λ name. bytes_eq name.now text) names → IsVariant (numbers_of names) d p
unfolding IsVariant
variant_found names (Data.string t) text p e at =
    let same : t ≡ text = cc in
    rw same (sym (position_is_by_numbers names text) ∙ sym at)
variant_found names (Data.table _) text p e at = absurd (cc)
variant_found names (Data.integer _) text p e at = absurd (cc)
variant_found names (Data.float _) text p e at = absurd (cc)
variant_found names (Data.boolean _) text p e at = absurd (cc)
variant_found names (Data.array _) text p e at = absurd (cc)

pub variant_within : (names : List (Bor (List ℕ))) (text : List ℕ) (p : ℕ)
    → Some p ≡ position (λ name. bytes_eq name.now text) names → p < length names
variant_within (name ∷ names) text p at = (position-Some (λ n. bytes_eq n.now text) (name ∷ names) p name (sym at)).0
variant_within [] text p at = absurd (cc)

pub variant_unnamed : (names : List (Bor (List ℕ))) (d : Data) (text : List ℕ) → string_in d ≡ Some text
    → None ≡ position (λ name. bytes_eq name.now text) names → HasVariant (numbers_of names) d → ⊥
unfolding HasVariant
variant_unnamed names (Data.string t) text e at has =
    let same : t ≡ text = cc in
    let none : position_among (numbers_of names) t ≡ None = rw same (sym (position_is_by_numbers names text) ∙ sym at) in
    let never : false ≡ true = sym (ap is_some none) ∙ has in absurd (cc)
variant_unnamed names (Data.table _) text e at has = has
variant_unnamed names (Data.integer _) text e at has = has
variant_unnamed names (Data.float _) text e at has = has
variant_unnamed names (Data.boolean _) text e at has = has
variant_unnamed names (Data.array _) text e at has = has

pub no_string_unnamed : (names : List ℕ) (d : Data) → string_in d ≡ None → HasVariant names d → ⊥
unfolding HasVariant
no_string_unnamed names (Data.string t) e has = absurd (cc)
no_string_unnamed names (Data.table _) e has = has
no_string_unnamed names (Data.integer _) e has = has
no_string_unnamed names (Data.float _) e has = has
no_string_unnamed names (Data.boolean _) e has = has
no_string_unnamed names (Data.array _) e has = has

pub variant_is_had : (names : List ℕ) (d : Data) (p : ℕ) → IsVariant names d p → HasVariant names d
unfolding IsVariant HasVariant
variant_is_had names (Data.string t) p is = ap is_some is
variant_is_had names (Data.table _) p is = is
variant_is_had names (Data.integer _) p is = is
variant_is_had names (Data.float _) p is = is
variant_is_had names (Data.boolean _) p is = is
variant_is_had names (Data.array _) p is = is

module _ (names : List (Bor (List ℕ))) (node : Node) (fault : Fault) where
  pub variant_no_string : string_in (node_data node) ≡ None → is_made node ≡ false
      → IsFault fault (fault_at_start node (wanted (codes "string") (name_of node)))
      → OrMemory (variant_fails (texts_of names) node) fault
  unfolding variant_fails
  variant_no_string none literal made =
      made_so (variant_fails (texts_of names) node) fault _ made (inl (none, literal, refl))

  pub variant_made : string_in (node_data node) ≡ None → is_made node ≡ true
      → IsFault fault (wrong_type (codes "a string") node) → OrMemory (variant_fails (texts_of names) node) fault
  unfolding variant_fails
  variant_made none by made =
      made_so (variant_fails (texts_of names) node) fault _ made (inr (inl (none, by, refl)))

  pub variant_unknown : (text : List ℕ) → string_in (node_data node) ≡ Some text
      → None ≡ position (λ name. bytes_eq name.now text) names
      → IsFault fault (fault_around node (custom (unknown_variant_message text (texts_of names))))
      → OrMemory (variant_fails (texts_of names) node) fault
  unfolding variant_fails
  variant_unknown text some at made =
      let other : is_among (texts_of names) text ≡ false = sym (position_is_among names text) ∙ ap is_some (sym at) in
      made_so (variant_fails (texts_of names) node) fault _ made (inr (inr (text, some, other, refl)))

  pub only_no_table : is_table (node_data node) ≡ false → IsFault fault (wrong_type (codes "a map") node)
      → OrMemory (only_fails (texts_of names) node) fault
  unfolding only_fails
  only_no_table none made = made_so (only_fails (texts_of names) node) fault _ made (inl (none, refl))

  pub only_unknown : (key : List ℕ) → first_other (texts_of names) (entries_in (node_data node)) ≡ Some key
      → IsFault fault (fault_at node (unknown_field key (unknown_field_message key (texts_of names))))
      → OrMemory (only_fails (texts_of names) node) fault
  unfolding only_fails
  only_unknown key some made = made_so (only_fails (texts_of names) node) fault _ made (inr (key, some, refl))
