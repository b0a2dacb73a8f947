-- What the events of a value are sent as: the items that a serializer records for them. (own)
-- A field's key is sent as it comes, and a key that is a value of its own behind `key`. A value is sent as its items,
-- also in an array. Where the members of a map go into the map that is open, its beginning and its end send nothing.
use Rattle.std.specs.Prelude.{◌≡◌, ◌⊎◌, ℕ, ℤ, pos, List, [], ◌∷◌, ◌++◌, Bool, true, false, MatchOption, encode_utf8}
use Rattle.std.specs.Prelude.{FitsSigned}
use Rattle.std.specs.Int.{w64}
use Rattle.basic_toml_numbers.specs.Numbers.{float_of}
use Rattle.basic_toml_layout.specs.Written as w
use Rattle.basic_toml_emit.specs.Items.{Item, a_scalar, an_absent, open_array, open_table, close, key, field}
use Rattle.serde.specs.Event.{Event, boolean, signed, unsigned, single, double, character, text, octets, nothing}
use Rattle.serde.specs.Event.{unit_variant, seq_begins, seq_ends, map_begins, map_ends, field_key, variant_key}
use Rattle.serde.specs.Event.{key_begins, key_ends, flattens}
use Rattle.serde.specs.Spelling.{spelled}
use Rattle.serde.specs.declared.name.Case.{Case}
use Rattle.serde.specs.declared.name.NameKind.{NameKind}
use Rattle.serde.specs.declared.name.NameKind.TheVariants.{Field, Variant}
use Rattle.basic_toml_serde.specs.declared.sender.Next.{Next}
use Rattle.basic_toml_serde.specs.declared.sender.Next.TheVariants.{Value, Key, Members}

-- where events stand: of each map that is open, whether its members go into the one around it; and what comes next
pub record Place : Type 0 where
  pub maps : List Bool
  pub next : Next

abbrev pub start : Place
start = record { maps = []; next = Value }

-- the items of a value, or those that begin it, as a value or as a key; no value is the members of a map
abbrev pub Puts : Next → List Item → List Item → Type 0
Puts Value part sent = sent ≡ part
Puts Key part sent = sent ≡ key ∷ part
Puts Members part sent = ⊥

abbrev pub Adds : List Item → Place → List Item → Place → Type 0
Adds part old sent new = Puts old.next part sent × (new ≡ old)

abbrev pub AddsScalar : w.Scalar → Place → List Item → Place → Type 0
AddsScalar value = Adds (a_scalar value ∷ [])

-- a number that TOML has no form for is refused
abbrev pub AddsInteger : ℤ → Place → List Item → Place → Type 0
AddsInteger z old sent new =
    AddsScalar (w.integer z) old sent new ⊎ ((FitsSigned w64 z → ⊥) × AddsScalar w.refused old sent new)

-- The text of the float is not said.
abbrev pub AddsFloat : Place → List Item → Place → Type 0
AddsFloat old sent new =
    ((t : List ℕ) × AddsScalar (w.float t) old sent new) ⊎ AddsScalar w.refused old sent new

-- a float by its text
abbrev pub AddsFloatText : List ℕ → Place → List Item → Place → Type 0
AddsFloatText t old sent new =
    MatchOption (float_of t) (AddsScalar w.refused old sent new) (λ f. AddsScalar (w.float f) old sent new)

-- bytes are an array, or a float by its text where the members of a map come next
abbrev pub AddsOctets : Next → List ℕ → Place → List Item → Place → Type 0
AddsOctets Value bs old sent new = AddsScalar (w.bytes bs) old sent new
AddsOctets Key bs old sent new = AddsScalar (w.bytes bs) old sent new
AddsOctets Members bs old sent new = AddsFloatText bs (record old { next = Value }) sent new

-- an absent option, or no members
abbrev pub AddsNothing : Next → Place → List Item → Place → Type 0
AddsNothing Value old sent new = Adds (an_absent ∷ []) old sent new
AddsNothing Key old sent new = Adds (an_absent ∷ []) old sent new
AddsNothing Members old sent new = (sent ≡ []) × (new ≡ record old { next = Value })

-- an array
abbrev pub BeginsArray : Place → List Item → Place → Type 0
BeginsArray = Adds (open_array ∷ [])

-- a table, or members of the map that is open
abbrev pub BeginsMapAs : Next → Place → List Item → Place → Type 0
BeginsMapAs Value old sent new = (sent ≡ open_table ∷ []) × (new ≡ record old { maps = old.maps ++ false ∷ [] })
BeginsMapAs Key old sent new = (sent ≡ key ∷ open_table ∷ []) × (new ≡ record old { maps = old.maps ++ false ∷ [] })
BeginsMapAs Members old sent new = (sent ≡ []) × (new ≡ record old { maps = old.maps ++ true ∷ []; next = Value })

abbrev pub BeginsMap : Place → List Item → Place → Type 0
BeginsMap old = BeginsMapAs old.next old

abbrev pub AddsKey : List ℕ → Place → List Item → Place → Type 0
AddsKey k old sent new = (sent ≡ field k ∷ []) × (new ≡ old)

-- the key of a field, or of the data of a variant
abbrev pub AddsName : NameKind → List ℕ → Case → Place → List Item → Place → Type 0
AddsName kind name case = AddsKey (spelled case kind name)

-- the end of the innermost map
pub data EndsMap (old : Place) : List Item → Place → Type 0 where
  joined : {rest : List Bool} → old.maps ≡ rest ++ true ∷ [] → EndsMap old [] (record old { maps = rest })
  closed : {rest : List Bool} → old.maps ≡ rest ++ false ∷ [] → EndsMap old (close ∷ []) (record old { maps = rest })
  none_open : old.maps ≡ [] → EndsMap old (close ∷ []) old

-- the items of an event, and where it leads
abbrev pub Sends : Event → Place → List Item → Place → Type 0
Sends (boolean b) old sent new = AddsScalar (w.boolean b) old sent new
Sends (signed z) old sent new = AddsInteger z old sent new
Sends (unsigned n) old sent new = AddsInteger (pos n) old sent new
Sends (single x) old sent new = AddsFloat old sent new
Sends (double x) old sent new = AddsFloat old sent new
Sends (character c) old sent new = AddsScalar (w.other_text (encode_utf8 c)) old sent new
Sends (text s) old sent new = AddsScalar (w.text s) old sent new
Sends (octets bs) old sent new = AddsOctets old.next bs old sent new
Sends nothing old sent new = AddsNothing old.next old sent new
Sends (unit_variant name case) old sent new = AddsScalar (w.other_text (spelled case Variant name)) old sent new
Sends (seq_begins n) old sent new = BeginsArray old sent new
Sends seq_ends old sent new = (sent ≡ close ∷ []) × (new ≡ old)
Sends (map_begins n) old sent new = BeginsMap old sent new
Sends map_ends old sent new = EndsMap old sent new
Sends (field_key name case) old sent new = AddsName Field name case old sent new
Sends (variant_key name case) old sent new = AddsName Variant name case old sent new
Sends key_begins old sent new = (sent ≡ []) × (new ≡ record old { next = Key })
Sends key_ends old sent new = (sent ≡ []) × (new ≡ record old { next = Value })
Sends flattens old sent new = (sent ≡ []) × (new ≡ record old { next = Members })

-- the items of each event in turn
abbrev pub SendsAll : Place → List Event → List Item → Place → Type 0
SendsAll old [] items new = (items ≡ []) × (new ≡ old)
SendsAll old (e ∷ es) items new =
    (sent later : List Item) × (mid : Place) × Sends e old sent mid × SendsAll mid es later new
    × (items ≡ sent ++ later)

-- these items are those of these events
abbrev pub AreItemsOf : List Event → List Item → Type 0
AreItemsOf events items = (last : Place) × SendsAll start events items last
