-- The elements of an array and the entries of a table, added one after another.
use Rattle.std.proofs.Common.{◌≡◌, ℕ, false, List, [], ◌∷◌, ◌++◌, map, Option, refl, sym, ap, ◌∙◌}
use Rattle.std.proofs.lemmas.List.{append-nil, append_assoc, map-append}
use Rattle.basic_toml_value.specs.Data.{Data, integer, float, boolean, string, array, table}
use Rattle.basic_toml_tree.specs.Nodes.{is_array, is_table, elements_in, entries_in}
use Rattle.basic_toml_serde.specs.Added.{Adds, content_of, without_keys, with_keys}

module _ {N : Type 0} (key_of : N → Option (List ℕ)) (data_of : N → Data) where
  -- Items were added, and what they stand for and what is left make up all.
  pub record IsAddedSoFar (all : List (Option (List ℕ) × Data)) (old now : List N)
      (rest : List (Option (List ℕ) × Data)) : Type 0 where
    pub added : List N
    pub listed : now ≡ old ++ added
    pub split : all ≡ map (content_of key_of data_of) added ++ rest

  pub none_added : (all rest : List (Option (List ℕ) × Data)) (old : List N) → all ≡ rest
      → IsAddedSoFar all old old rest
  none_added all rest old same = record { added = []; listed = sym (append-nil old); split = same }

  pub one_added : (all rest after : List (Option (List ℕ) × Data)) (old now new : List N) (item : N)
      → IsAddedSoFar all old now rest → new ≡ now ++ item ∷ [] → rest ≡ content_of key_of data_of item ∷ after
      → IsAddedSoFar all old new after
  one_added all rest after old now new item so_far pushed next = record {
    added = so_far.added ++ item ∷ [];
    listed = pushed ∙ ap (λ l. l ++ item ∷ []) so_far.listed ∙ append_assoc old so_far.added (item ∷ []);
    split = so_far.split ∙ ap (λ l. map (content_of key_of data_of) so_far.added ++ l) next
        ∙ sym (append_assoc (map (content_of key_of data_of) so_far.added) (content_of key_of data_of item ∷ []) after)
        ∙ ap (λ l. l ++ after) (sym (map-append (content_of key_of data_of) so_far.added (item ∷ [])));
  }

  pub all_added : (all rest : List (Option (List ℕ) × Data)) (old now : List N) → IsAddedSoFar all old now rest
      → rest ≡ [] → Adds key_of data_of all old now
  all_added all rest old now so_far none = (
    so_far.added,
    so_far.listed,
    sym (so_far.split ∙ ap (λ l. map (content_of key_of data_of) so_far.added ++ l) none
        ∙ append-nil (map (content_of key_of data_of) so_far.added)),
  )

  nothing_added : (all : List (Option (List ℕ) × Data)) (old : List N) → all ≡ [] → Adds key_of data_of all old old
  nothing_added all old none = ([], sym (append-nil old), sym none)

  -- what is no array has no elements, and what is no table no entries
  no_elements : (d : Data) → is_array d ≡ false → without_keys (elements_in d) ≡ []
  no_elements (integer _) other = refl
  no_elements (float _) other = refl
  no_elements (boolean _) other = refl
  no_elements (string _) other = refl
  no_elements (table _) other = refl
  no_elements (array _) other = absurd (cc)

  no_entries : (d : Data) → is_table d ≡ false → with_keys (entries_in d) ≡ []
  no_entries (integer _) other = refl
  no_entries (float _) other = refl
  no_entries (boolean _) other = refl
  no_entries (string _) other = refl
  no_entries (array _) other = refl
  no_entries (table _) other = absurd (cc)

  pub no_array : (d : Data) (old : List N) → is_array d ≡ false → Adds key_of data_of (without_keys (elements_in d)) old old
  no_array d old other = nothing_added (without_keys (elements_in d)) old (no_elements d other)

  pub no_table : (d : Data) (old : List N) → is_table d ≡ false → Adds key_of data_of (with_keys (entries_in d)) old old
  no_table d old other = nothing_added (with_keys (entries_in d)) old (no_entries d other)

pub ruleset parts_added = (no_array, no_table)
