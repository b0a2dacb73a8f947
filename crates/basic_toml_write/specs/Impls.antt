-- The items that values of the library spell: scalars one, lists and maps those of their parts, and a tree of data
-- those of its shape.
use Rattle.std.specs.Prelude.{◌≡◌, ◌^◌, ℕ, ℤ, pos, negsuc, Bool, nat_lt, List, [], ◌∷◌, ◌++◌, Option, Some, None, string_bytes, String}
use Rattle.std.specs.List.{flat_map}
use Rattle.std.specs.declared.alloc.Global.{Global}
use Rattle.basic_toml_value.specs.Data as d
use Rattle.basic_toml_layout.specs.Written as w
use Rattle.basic_toml_write.specs.declared.error.WriteError.{WriteError}
use Rattle.basic_toml_emit.specs.Items.{Item, a_scalar, an_absent, open_array, open_table, close, field, some_prefix}
use Rattle.basic_toml_emit.specs.Items.{element_prefix}
use Rattle.basic_toml_write.specs.Serializer.{PartGivesUp}

-- from -2^half on, and below 2^half
abbrev pub is_within : ℕ → ℤ → Bool
is_within half (pos n) = nat_lt n (2 ^ half)
is_within half (negsuc n) = nat_lt n (2 ^ half)

abbrev pub scalar_calls : w.Scalar → List Item
scalar_calls l = a_scalar l ∷ []

abbrev pub option_calls : {A : Type 0} → (A → List Item) → Option A → List Item
option_calls calls None = an_absent ∷ []
option_calls calls (Some x) = some_prefix ∷ calls x

-- an option gives up as what it holds
pub record OptionGivesUp {A : Type 0} (GivesUp : A → List Item → WriteError → Type 0) (option : Option A)
    (sent : List Item) (e : WriteError)
    : Type 0 where
  pub held : A
  pub is : option ≡ Some held
  pub gives_up : PartGivesUp (some_prefix ∷ []) (GivesUp held) sent e

-- A value that opens with an item and sends parts in turn, each after its prefix, gives up as one of them does, once
-- those before it were sent.
pub record AnyGivesUp {A : Type 0} (opening : Item) (prefix : A → Item) (calls : A → List Item)
    (GivesUp : A → List Item → WriteError → Type 0) (parts : List A) (sent : List Item) (e : WriteError)
    : Type 0 where
  pub before : List A
  pub rest : List A
  pub part : A
  pub split : before ++ (part ∷ rest) ≡ parts
  pub gives_up : PartGivesUp (opening ∷ (flat_map (λ x. prefix x ∷ calls x) before ++ (prefix part ∷ [])))
      (GivesUp part) sent e

-- each element after its prefix
abbrev pub array_calls : {A : Type 0} → (A → List Item) → List A → List Item
array_calls calls xs = open_array ∷ (flat_map (λ x. element_prefix ∷ calls x) xs ++ (close ∷ []))

abbrev pub ArrayGivesUp : {A : Type 0} → (A → List Item) → (A → List Item → WriteError → Type 0) → List A → List Item
    → WriteError → Type 0
ArrayGivesUp calls GivesUp = AnyGivesUp open_array (λ x. element_prefix) calls GivesUp

-- each value after its key
abbrev pub table_calls : {A : Type 0} → (A → List Item) → List (List ℕ × A) → List Item
table_calls calls ps = open_table ∷ (flat_map (λ p. field p.0 ∷ calls p.1) ps ++ (close ∷ []))

abbrev pub TableGivesUp : {A : Type 0} → (A → List Item) → (A → List Item → WriteError → Type 0) → List (List ℕ × A)
    → List Item → WriteError → Type 0
TableGivesUp calls GivesUp = AnyGivesUp open_table (λ p. field p.0) (λ p. calls p.1) (λ p. GivesUp p.1)

-- the same, where the keys are texts of a map
abbrev pub map_calls : {A : Type 0} → (A → List Item) → List (String Global × A) → List Item
map_calls calls ps = open_table ∷ (flat_map (λ p. field (string_bytes p.0) ∷ calls p.1) ps ++ (close ∷ []))

abbrev pub MapGivesUp : {A : Type 0} → (A → List Item) → (A → List Item → WriteError → Type 0)
    → List (String Global × A) → List Item → WriteError → Type 0
MapGivesUp calls GivesUp = AnyGivesUp open_table (λ p. field (string_bytes p.0)) (λ p. calls p.1) (λ p. GivesUp p.1)

abbrev mutual
  pub data_calls : d.Data → List Item
  data_calls (d.integer z) = scalar_calls (w.integer z)
  data_calls (d.float t) = scalar_calls (w.float t)
  data_calls (d.boolean b) = scalar_calls (w.boolean b)
  data_calls (d.string t) = scalar_calls (w.text t)
  data_calls (d.array xs) = open_array ∷ (items_calls xs ++ (close ∷ []))
  data_calls (d.table ms) = open_table ∷ (members_calls ms ++ (close ∷ []))

  pub items_calls : d.Items → List Item
  items_calls d.no_items = []
  items_calls (d.item x xs) = element_prefix ∷ (data_calls x ++ items_calls xs)

  pub members_calls : d.Members → List Item
  members_calls d.no_members = []
  members_calls (d.member k x ms) = field k ∷ (data_calls x ++ members_calls ms)
