-- Keys with periods between them, as `join` makes them.
use Rattle.std.proofs.Common.{◌≡◌, List, [], ◌∷◌, ◌++◌, map, codes, String, string_bytes, Global, refl, ap, ◌∙◌, Result, Ok, Err, IfOk}
use Rattle.std.proofs.lemmas.List.{append-nil}
use Rattle.std.specs.List.{flat_map, join_by}
use Rattle.basic_toml.specs.ReadErrorText.{joined}

first_joined : (key : String Global) (keys : List (String Global))
    → string_bytes key ++ flat_map (λ k. codes "." ++ string_bytes k) keys ≡ joined (map string_bytes (key ∷ keys))
first_joined key [] = append-nil (string_bytes key)
first_joined key (k ∷ keys) = ap (λ t. string_bytes key ++ (46 ∷ t)) (first_joined k keys)

pub joined_by : (keys : List (String Global)) → join_by string_bytes (codes ".") keys ≡ joined (map string_bytes keys)
joined_by [] = refl
joined_by (key ∷ keys) = first_joined key keys

pub made : {E : Type 0} (keys : List (String Global)) (r : Result (String Global) E)
    → IfOk r (λ text. string_bytes text ≡ join_by string_bytes (codes ".") keys)
    → IfOk r (λ text. string_bytes text ≡ joined (map string_bytes keys))
made keys (Ok text) is = is ∙ joined_by keys
made keys (Err e) is = tt
