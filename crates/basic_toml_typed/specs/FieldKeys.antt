-- Names of fields, as types name them. A name is one number, so that proofs about a type's fields never open its letters.
use Rattle.std.specs.Prelude.{ℕ, suc, ◌*◌, ◌+◌, ◌^◌, ◌==◌, Bool, ◌&&◌, List, [], ◌∷◌, Option, Some, None, option_map, is_some}
use Rattle.std.specs.Prelude.{if◌then◌else◌, codes, true}
use Prim.Native.String.{String as Text}
use Rattle.basic_toml_value.specs.Data.{Data, Members, no_members, member}

-- A text as one number, in binary: a 1 for each byte, and before it as many 0s as the byte says. No two texts have one
-- number.
abbrev pub text_number : List ℕ → ℕ
text_number [] = 0
text_number (c ∷ cs) = 2 ^ c * (2 * text_number cs + 1)

abbrev pub key_of : Text → ℕ
key_of text = text_number (codes text)

-- the data at a key of a table
abbrev pub member_at : Members → ℕ → Option Data
member_at no_members key = None
member_at (member k d members) key = if key == text_number k then Some d else member_at members key

unfoldable pub child_at : ℕ → Data → Option Data
child_at key (Data.table members) = member_at members key
child_at key _ = None

-- the first position of a text among names
abbrev pub position_among : List ℕ → List ℕ → Option ℕ
position_among [] text = None
position_among (name ∷ names) text =
    if name == text_number text then Some 0 else option_map (λ n. suc n) (position_among names text)

abbrev pub are_listed : List ℕ → Members → Bool
are_listed names no_members = true
are_listed names (member k d members) = is_some (position_among names k) && are_listed names members
