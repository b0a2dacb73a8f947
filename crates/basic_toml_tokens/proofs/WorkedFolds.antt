-- The fold, on texts.
use Rattle.std.proofs.Common.{◌≡◌, ◌≢◌, [], ◌∷◌, refl}
use Rattle.std.specs.Str.{chars}
use Rattle.basic_toml_tokens.specs.Text.{folded}

-- of CR CR LF the first CR is bare
pub bare_return : folded (13 ∷ 13 ∷ 10 ∷ []) ≡ (0, 13) ∷ (1, 10) ∷ []
unfolding chars
bare_return = refl

-- and no fold to one line feed
pub not_one_feed : folded (13 ∷ 13 ∷ 10 ∷ []) ≢ (0, 10) ∷ []
unfolding chars
not_one_feed e = cc

-- U+FEFF at the start is skipped, and its three bytes count; one that follows stays
pub skipped_mark : folded (0xEF ∷ 0xBB ∷ 0xBF ∷ 97 ∷ 0xEF ∷ 0xBB ∷ 0xBF ∷ []) ≡ (3, 97) ∷ (4, 0xFEFF) ∷ []
unfolding chars
skipped_mark = refl
