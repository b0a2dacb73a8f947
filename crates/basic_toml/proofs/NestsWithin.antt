-- How deep data nests, and that what a value holds is valid, by its parts in turn.
use Rattle.std.proofs.Common.{◌≡◌, ℕ, suc, ◌+◌, ◌-◌, ◌<◌, max, true, false, List, [], ◌∷◌, length, drop, get_or}
use Rattle.std.proofs.Common.{refl, sym, ◌∙◌, ap, subst, arith, rules, ℤ}
use Rattle.std.specs.Prelude.{nat_le, IsTrue}
use Rattle.std.proofs.lemmas.Bool.Decides.{nat_tests}
use Rattle.basic_toml_value.specs.Data.{integer, table}
use Rattle.basic_toml_value.specs.Entries.{seen}
use Rattle.basic_toml_index.specs.Keys.{are_distinct}
use Rattle.basic_toml_value.specs.Pairs as pairs
use Rattle.basic_toml_value.specs.View.{view, entries, items_view}
use Rattle.basic_toml_value.specs.declared.pairs.Pair.{Pair}
use Rattle.basic_toml_value.specs.declared.text.Text.{Text}
use Rattle.basic_toml_value.specs.declared.value.Value.{Value, the_lemmas}
use Rattle.basic_toml_value.specs.declared.value.Value.TheVariants.{Integer as Whole, String as Words}
use Rattle.basic_toml_value.proofs.TextIsUtf8.{IsUtf8-text_bytes}
use Rattle.basic_toml_grammar.specs.Depth.{depth, depth_of_items, depth_of_members}
use Rattle.basic_toml_layout.specs.Valid.{keys_of, IsValid, AreValid, HoldsValid}
use Rattle.basic_toml_layout.proofs.DataIsLaidOut.{drop_at}
use Rattle.basic_toml_layout.proofs.ViewsOfValues.{view-String}

-- the first of two is within, or is not
first_within : (a b room : ℕ) → nat_le a room ≡ true → nat_le (max a b) room ≡ nat_le b room
first_within a b room e = grind (arith, nat_tests)

first_too_deep : (a b room : ℕ) → nat_le a room ≡ false → nat_le (max a b) room ≡ false
first_too_deep a b room e = grind (arith, nat_tests)

-- one level more
pub one_level : (n room : ℕ) → 0 < room → nat_le n (room - 1) ≡ nat_le (suc n) room
one_level n room some = grind (arith, nat_tests)

pub no_level : (n room : ℕ) → nat_le room 0 ≡ true → nat_le (suc n) room ≡ false
no_level n room none = grind (arith, nat_tests)

-- elements, an element being within or not
module _ (values : List Value) (i : ℕ) (value : Value) (lt : i < length values) (read : value ≡ get_or values i value)
    (room : ℕ) where
  pub item_within : nat_le (depth (view value)) room ≡ true
      → nat_le (depth_of_items (items_view (drop (i + 1) values))) room
      ≡ nat_le (depth_of_items (items_view (drop i values))) room
  item_within e =
      sym (first_within (depth (view value)) (depth_of_items (items_view (drop (i + 1) values))) room e)
      ∙ ap (λ vs. nat_le (depth_of_items (items_view vs)) room) (sym (drop_at values i value lt read))

  pub item_too_deep : nat_le (depth (view value)) room ≡ false
      → nat_le (depth_of_items (items_view (drop i values))) room ≡ false
  item_too_deep e =
      ap (λ vs. nat_le (depth_of_items (items_view vs)) room) (drop_at values i value lt read)
      ∙ first_too_deep (depth (view value)) (depth_of_items (items_view (drop (i + 1) values))) room e

  pub item_valid : IsValid (view value) → AreValid (items_view (drop (i + 1) values))
      → AreValid (items_view (drop i values))
  item_valid first rest =
      subst (λ vs. AreValid (items_view vs)) (sym (drop_at values i value lt read)) (first, rest)

-- and entries
module _ (all : List (Pair Value)) (i : ℕ) (pair : Pair Value) (lt : i < length all) (read : pair ≡ get_or all i pair)
    (room : ℕ) where
  pub entry_within : nat_le (depth (view pair.value)) room ≡ true
      → nat_le (depth_of_members (entries (seen (drop (i + 1) all)))) room
      ≡ nat_le (depth_of_members (entries (seen (drop i all)))) room
  entry_within e =
      sym (first_within (depth (view pair.value)) (depth_of_members (entries (seen (drop (i + 1) all)))) room e)
      ∙ ap (λ ps. nat_le (depth_of_members (entries (seen ps))) room) (sym (drop_at all i pair lt read))

  pub entry_too_deep : nat_le (depth (view pair.value)) room ≡ false
      → nat_le (depth_of_members (entries (seen (drop i all)))) room ≡ false
  entry_too_deep e =
      ap (λ ps. nat_le (depth_of_members (entries (seen ps))) room) (drop_at all i pair lt read)
      ∙ first_too_deep (depth (view pair.value)) (depth_of_members (entries (seen (drop (i + 1) all)))) room e

  pub entry_valid : IsValid (view pair.value) → HoldsValid (entries (seen (drop (i + 1) all)))
      → HoldsValid (entries (seen (drop i all)))
  entry_valid first rest =
      subst (λ ps. HoldsValid (entries (seen ps))) (sym (drop_at all i pair lt read))
      (IsUtf8-text_bytes pair.key, (first, rest))

-- scalars
view-Integer : (z : ℤ) → view (Whole z) ≡ integer z
view-Integer z = search (rules, the_lemmas)

pub valid_integer : (v : Value) (z : ℤ) → v ≡ Whole z → IsValid (integer z) → IsValid (view v)
valid_integer v z is valid = subst IsValid (sym (ap view is ∙ view-Integer z)) valid

pub valid_string : (v : Value) (t : Text) → v ≡ Words t → IsValid (view v)
valid_string v t is = subst IsValid (sym (ap view is ∙ view-String t)) (IsUtf8-text_bytes t)

-- a table
keys-entries : (ps : List (List ℕ × Value)) → keys_of (entries ps) ≡ pairs.keys_of ps
keys-entries [] = refl
keys-entries (p ∷ ps) = ap (λ z. p.0 ∷ z) (keys-entries ps)

pub valid_table : (ps qs : List (List ℕ × Value)) → qs ≡ ps → IsTrue (are_distinct (pairs.keys_of ps))
    → HoldsValid (entries qs) → IsValid (table (entries ps))
valid_table ps qs same distinct valid =
    (ap are_distinct (keys-entries ps) ∙ distinct, subst (λ z. HoldsValid (entries z)) same valid)
