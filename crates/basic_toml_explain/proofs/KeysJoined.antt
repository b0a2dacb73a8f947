-- Keys with periods between them: the first, and each other behind a period.
use Rattle.std.proofs.Common.{◌≡◌, List, [], ◌∷◌, ◌++◌, map, codes, String, string_bytes, Global, sym, ap, ◌∙◌}
use Rattle.std.proofs.lemmas.List.{append_assoc, append-nil}
use Rattle.basic_toml_explain.specs.ReadErrorText.{joined, key_text}
use Rattle.basic_toml_explain.specs.KeyPath.{with_periods}

joined_is : (key : String Global) (keys : List (String Global))
    → joined (map string_bytes (key ∷ keys)) ≡ string_bytes key ++ with_periods keys
joined_is key [] = sym (append-nil (string_bytes key))
joined_is key (k ∷ ks) = ap (λ t. string_bytes key ++ (46 ∷ t)) (joined_is k ks)

pub keys_joined : (key : String Global) (keys : List (String Global))
    → codes " for key `" ++ (string_bytes key ++ (with_periods keys ++ codes "`")) ≡ key_text (map string_bytes (key ∷ keys))
keys_joined key keys =
    ap (λ t. codes " for key `" ++ t) (sym (append_assoc (string_bytes key) (with_periods keys) (codes "`"))
    ∙ ap (λ t. t ++ codes "`") (sym (joined_is key keys)))
