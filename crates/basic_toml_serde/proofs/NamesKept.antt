-- The names that are kept for an error, one after another. (own)
use Rattle.std.proofs.Common.{◌≡◌, ℕ, List, [], ◌∷◌, ◌++◌, take, get_or, length, ◌<◌, ◌+◌, true, false, ap, ◌∙◌, if◌then◌else◌}
use Rattle.std.proofs.lemmas.List.{take_more, append-nil}
use Rattle.std.proofs.lemmas.Grind.{flat_map-append}
use Rattle.serde.specs.declared.name.Name.{Name}
use Rattle.basic_toml_serde.specs.Spellings.{Pairs, pairs_of, pairs_of_name}

abbrev pairs_unless : Name → Pairs
pairs_unless n = if n.skipped then [] else pairs_of_name n

one_more : (names : List Name) (i : ℕ) (d : Name) → i < length names
    → pairs_of (take (i + 1) names) ≡ pairs_of (take i names) ++ pairs_unless (get_or names i d)
one_more names i d below =
    ap (λ ns. pairs_of ns) (take_more names i d below)
    ∙ flat_map-append pairs_unless (take i names) (get_or names i d ∷ [])
    ∙ ap (λ ps. pairs_of (take i names) ++ ps) (append-nil (pairs_unless (get_or names i d)))

pub kept_more : (names : List Name) (i : ℕ) (d : Name) → i < length names → (get_or names i d).skipped ≡ false
    → pairs_of (take (i + 1) names) ≡ pairs_of (take i names) ++ pairs_of_name (get_or names i d)
kept_more names i d below is =
    one_more names i d below
    ∙ ap (λ b. pairs_of (take i names) ++ (if b then [] else pairs_of_name (get_or names i d))) is

pub skipped_more : (names : List Name) (i : ℕ) (d : Name) → i < length names → (get_or names i d).skipped ≡ true
    → pairs_of (take (i + 1) names) ≡ pairs_of (take i names)
skipped_more names i d below is =
    one_more names i d below
    ∙ ap (λ b. pairs_of (take i names) ++ (if b then [] else pairs_of_name (get_or names i d))) is
    ∙ append-nil (pairs_of (take i names))
