-- Items that a list keeps, one behind another.
use Rattle.std.proofs.Common.{◌≡◌, ℕ, List, [], ◌∷◌, ◌++◌, Result, Ok, Err, OnOk, ap, sym, subst, append_assoc, ◌∙◌}
use Rattle.std.proofs.Common.{String, Global, string_bytes, Vec}
use Rattle.std.proofs.lemmas.List.{map-append}
use Rattle.basic_toml_emit.specs.Items as i
use Rattle.basic_toml_emit.specs.Items.{key, field}
use Rattle.basic_toml_serde.specs.Listed.{item_of, listed, AreListed}
use Rattle.basic_toml_serde.specs.Recorded.{Records}
use Rattle.basic_toml_serde.specs.declared.failure.Failure.{Failure}
use Rattle.basic_toml_serde.specs.declared.items.Item.{Item}

abbrev ItemList : Type 0
ItemList = Vec Item Global

abbrev Outcome : Type 0
Outcome = Result (Unit {0}) Failure

pub item_added : (item : Item) (old new : ItemList) → new.items ≡ old.items ++ item ∷ []
    → Records AreListed (item_of item ∷ []) old new
item_added item old new pushed = record {
  more = λ before are.
      ap listed pushed ∙ map-append item_of old.items (item ∷ []) ∙ ap (λ l. l ++ item_of item ∷ []) are;
}

-- the same of items that are known by another name
pub piece_listed : (items : List i.Item) (item : Item) (old new : ItemList) (q : Outcome) → items ≡ item_of item ∷ []
    → OnOk q (Records AreListed (item_of item ∷ []) old new) → OnOk q (Records AreListed items old new)
piece_listed items item old new q same added =
    subst (λ l. OnOk q (Records AreListed l old new)) (sym same) added

pub field_listed : (k : List ℕ) (name : String Global) (old new : ItemList) (q : Outcome) → string_bytes name ≡ k
    → OnOk q (Records AreListed (field (string_bytes name) ∷ []) old new)
    → OnOk q (Records AreListed (field k ∷ []) old new)
field_listed k name old new q same added = subst (λ l. OnOk q (Records AreListed (field l ∷ []) old new)) same added

both : (first second : List i.Item) (old mid new : ItemList) → Records AreListed first old mid
    → Records AreListed second mid new → Records AreListed (first ++ second) old new
both first second old mid new one other = record {
  more = λ before are.
      subst (AreListed new) (append_assoc before first second) (other.more (before ++ first) (one.more before are));
}

-- a key's mark, and then the key
pub key_listed : (items : List i.Item) (item : Item) (old mid new : ItemList) (q : Outcome) → items ≡ item_of item ∷ []
    → Records AreListed (key ∷ []) old mid → OnOk q (Records AreListed (item_of item ∷ []) mid new)
    → OnOk q (Records AreListed (key ∷ items) old new)
key_listed items item old mid new (Err e) same mark added = tt
key_listed items item old mid new (Ok _) same mark added =
    subst (λ l. Records AreListed (key ∷ l) old new) (sym same)
    (both (key ∷ []) (item_of item ∷ []) old mid new mark added)

pub ruleset items_listed = (item_added, piece_listed, field_listed, key_listed)
