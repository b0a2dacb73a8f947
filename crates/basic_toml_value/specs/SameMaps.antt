-- Data that differs in the order of keys alone (own), at every depth.
use Rattle.std.specs.Prelude.{ℕ, ℤ, Bool, List}
use Rattle.basic_toml_value.specs.Data.{Data, integer, float, boolean, string, array, table, Items, no_items, item}
use Rattle.basic_toml_value.specs.Data.{Members, no_members, member}

-- the members have a key with its data somewhere, and after its removal the rest
pub data Takes : Members → List ℕ → Data → Members → Type 0 where
  here : (k : List ℕ) (d : Data) (ms : Members) → Takes (member k d ms) k d ms
  later : (l : List ℕ) (e : Data) (ms : Members) (k : List ℕ) (d : Data) (rest : Members) → Takes ms k d rest
      → Takes (member l e ms) k d (member l e rest)

mutual
  pub data SameMaps : Data → Data → Type 0 where
    same_integer : (n : ℤ) → SameMaps (integer n) (integer n)
    same_float : (text : List ℕ) → SameMaps (float text) (float text)
    same_boolean : (b : Bool) → SameMaps (boolean b) (boolean b)
    same_string : (text : List ℕ) → SameMaps (string text) (string text)
    same_array : (xs ys : Items) → SameItems xs ys → SameMaps (array xs) (array ys)
    same_table : (ms ns : Members) → SameMembers ms ns → SameMaps (table ms) (table ns)

  -- elements one by one
  pub data SameItems : Items → Items → Type 0 where
    no_more : SameItems no_items no_items
    one_more : (d e : Data) (xs ys : Items) → SameMaps d e → SameItems xs ys → SameItems (item d xs) (item e ys)

  -- members in any order
  pub data SameMembers : Members → Members → Type 0 where
    none_left : SameMembers no_members no_members
    taken : (k : List ℕ) (d e : Data) (ms ns rest : Members) → Takes ns k e rest → SameMaps d e → SameMembers ms rest
        → SameMembers (member k d ms) ns

mutual
  pub same_maps-refl : (d : Data) → SameMaps d d
  same_maps-refl (integer n) = same_integer n
  same_maps-refl (float text) = same_float text
  same_maps-refl (boolean b) = same_boolean b
  same_maps-refl (string text) = same_string text
  same_maps-refl (array xs) = same_array xs xs (same_items-refl xs)
  same_maps-refl (table ms) = same_table ms ms (same_members-refl ms)

  pub same_items-refl : (xs : Items) → SameItems xs xs
  same_items-refl no_items = no_more
  same_items-refl (item d xs) = one_more d d xs xs (same_maps-refl d) (same_items-refl xs)

  pub same_members-refl : (ms : Members) → SameMembers ms ms
  same_members-refl no_members = none_left
  same_members-refl (member k d ms) =
      taken k d d ms (member k d ms) ms (here k d ms) (same_maps-refl d) (same_members-refl ms)

-- members with one more somewhere, and with its like in front
put_back : (k : List ℕ) (d e : Data) (ns rest ms : Members) → Takes ns k e rest → SameMaps e d → SameMembers rest ms
    → SameMembers ns (member k d ms)
put_back k d e _ _ ms (here _ _ rest) same more = taken k e d rest (member k d ms) ms (here k d ms) same more
put_back k d e _ _ ms (later l f ns _ _ rest takes) same (taken _ _ g _ _ left gone inner more) =
    taken l f g ns (member k d ms) (member k d left) (later k d ms l g left gone) inner
    (put_back k d e ns rest left takes same more)

mutual
  pub same_maps-sym : (d e : Data) → SameMaps d e → SameMaps e d
  same_maps-sym _ _ (same_integer n) = same_integer n
  same_maps-sym _ _ (same_float text) = same_float text
  same_maps-sym _ _ (same_boolean b) = same_boolean b
  same_maps-sym _ _ (same_string text) = same_string text
  same_maps-sym _ _ (same_array xs ys same) = same_array ys xs (same_items-sym xs ys same)
  same_maps-sym _ _ (same_table ms ns same) = same_table ns ms (same_members-sym ms ns same)

  pub same_items-sym : (xs ys : Items) → SameItems xs ys → SameItems ys xs
  same_items-sym _ _ no_more = no_more
  same_items-sym _ _ (one_more d e xs ys same more) =
      one_more e d ys xs (same_maps-sym d e same) (same_items-sym xs ys more)

  pub same_members-sym : (ms ns : Members) → SameMembers ms ns → SameMembers ns ms
  same_members-sym _ _ none_left = none_left
  same_members-sym _ _ (taken k d e ms ns rest takes same more) =
      put_back k d e ns rest ms takes (same_maps-sym d e same) (same_members-sym ms rest more)
