-- Keys and keys joined by periods, as the layout writes them, are in the grammar.
use Rattle.std.proofs.Common.{◌≡◌, ℕ, zero, suc, ◌<◌, ◌&&◌, Bool, true, not, List, [], ◌∷◌, ◌++◌, refl, ap, sym, ◌∙◌}
use Rattle.std.proofs.Common.{subst, arith}
use Rattle.std.specs.Prelude.{encode_utf8_all}
use Rattle.std.specs.List.{list_all}
use Rattle.std.specs.Str.{chars, IsAscii, IsUtf8}
use Rattle.std.proofs.lemmas.Bool.{false≢true, and_parts, cond_both}
use Rattle.std.proofs.lemmas.Bool.Decides.{nat_tests}
use Rattle.std.proofs.lemmas.Str.{encodes-IsAscii, encodes-chars}
use Rattle.basic_toml_tokens.specs.Text.{Text, StartsWith, run, after_run, is_blank, is_keylike, after_blanks}
use Rattle.basic_toml_layout.specs.Texts.{is_bare, is_bare_key}
use Rattle.basic_toml_grammar.specs.Sections.{Key, KeyTexts}
use Rattle.basic_toml_grammar.specs.Grammar.{IsKey, bare, quoted, IsKeys, one, more}
use Rattle.basic_toml_round_trip.proofs.SectionsOfTable.{unplaced, backwards}
use Rattle.basic_toml_round_trip.proofs.CharactersInFront.{onto, onto-append, stops, run_onto, after_run_onto}
use Rattle.basic_toml_round_trip.proofs.CharactersInFront.{no_blanks, all_pass}
use Rattle.basic_toml_round_trip.proofs.CharactersOfLayout.{key_chars, path_chars}
use Rattle.basic_toml_round_trip.proofs.QuotedIsAString.{no_quote, quoted_is_string}

-- bare keys
bare_keylike : (c : ℕ) → is_bare c ≡ true → is_keylike c ≡ true
bare_keylike c h = grind (arith, nat_tests)

bare_solid : (c : ℕ) → is_bare c ≡ true → not (is_blank c) ≡ true
bare_solid c h = grind (arith, nat_tests)

bare_small : (c : ℕ) → is_bare c ≡ true → c < 128
bare_small c h = grind (arith, nat_tests)

pub bare_encoded : (cs : List ℕ) → list_all is_bare cs ≡ true → encode_utf8_all cs ≡ cs
bare_encoded cs h = encodes-IsAscii cs (ascii cs h)
  where
    ascii : (cs : List ℕ) → list_all is_bare cs ≡ true → IsAscii cs
    ascii [] h i = omega arith
    ascii (c ∷ cs) h zero = bare_small c (and_parts _ _ h).0
    ascii (c ∷ cs) h (suc i) = ascii cs (and_parts _ _ h).1 i

bare_is_key : (cs : List ℕ) (rest : Text) → stops is_keylike rest ≡ true → is_bare_key cs ≡ true
    → IsKey (onto cs rest) (unplaced (encode_utf8_all cs)) rest
bare_is_key [] rest e h = absurd (false≢true h)
bare_is_key (c ∷ cs) rest e h =
    let text : Text = onto (c ∷ cs) rest in
    let all : list_all is_keylike (c ∷ cs) ≡ true = all_pass is_bare is_keylike bare_keylike (c ∷ cs) h in
    let read : IsKey text (unplaced (run is_keylike text)) (after_run is_keylike text) =
    bare refl (bare_keylike c (and_parts _ _ h).0) in
    subst (λ t. IsKey text (unplaced t) rest) (run_onto is_keylike (c ∷ cs) rest all e ∙ sym (bare_encoded (c ∷ cs) h))
    (subst (λ t. IsKey text (unplaced (run is_keylike text)) t) (after_run_onto is_keylike (c ∷ cs) rest all e) read)

-- what may stand after a key: no keylike character, and no quote
abbrev pub ends_key : Text → Bool
ends_key rest = stops is_keylike rest && no_quote rest

-- a key
pub key_stands : (k : List ℕ) (rest : Text) → IsUtf8 k → ends_key rest ≡ true
    → IsKey (onto (key_chars k) rest) (unplaced k) rest
key_stands k rest u e =
    let ends : (stops is_keylike rest ≡ true) × (no_quote rest ≡ true) = and_parts _ _ e in
    subst (λ t. IsKey (onto (key_chars k) rest) (unplaced t) rest) (encodes-chars k u)
    (cond_both (is_bare_key (chars k)) _ _ (λ cs. IsKey (onto cs rest) (unplaced (encode_utf8_all (chars k))) rest)
    (bare_is_key (chars k) rest ends.0) (λ _. quoted (quoted_is_string (chars k) rest ends.1)))

-- which begins with no blank
pub key_front : (k : List ℕ) (rest : Text) → stops is_blank (onto (key_chars k) rest) ≡ true
key_front k rest =
    cond_both (is_bare_key (chars k)) _ _ (λ cs. stops is_blank (onto cs rest) ≡ true) (solid (chars k)) (λ _. refl)
  where
    solid : (cs : List ℕ) → is_bare_key cs ≡ true → stops is_blank (onto cs rest) ≡ true
    solid [] h = absurd (false≢true h)
    solid (c ∷ cs) h = bare_solid c (and_parts _ _ h).0

-- texts in UTF-8
abbrev pub AreTexts : KeyTexts → Type 0
AreTexts [] = Unit {0}
AreTexts (k ∷ ks) = IsUtf8 k × AreTexts ks

-- one more key after a period
keys_more : {text mid next rest : Text} {p : ℕ} {k : Key} {ks : List Key} → IsKeys text ks mid
    → StartsWith 46 (after_blanks mid) p next → IsKey (after_blanks next) k rest → IsKeys text (ks ++ k ∷ []) rest
keys_more (one i) dot j = more i dot (one j)
keys_more (more i d h) dot j = more i d (keys_more h dot j)

-- the keys of a path, which has its last key first
pub keys_stand : (k : List ℕ) (ks : KeyTexts) (rest : Text) → AreTexts (k ∷ ks) → ends_key rest ≡ true
    → IsKeys (onto (path_chars (k ∷ ks)) rest) (backwards (k ∷ ks)) rest
keys_stand k [] rest u e = one (key_stands k rest u.0 e)
keys_stand k (l ∷ ks) rest u e =
    let last : Text = onto (key_chars k) rest in
    let front : after_blanks last ≡ last = no_blanks last (key_front k rest) in
    subst (λ t. IsKeys t (backwards (k ∷ l ∷ ks)) rest)
    (sym (onto-append (path_chars (l ∷ ks)) (46 ∷ key_chars k) rest))
    (keys_more (keys_stand l ks ((0, 46) ∷ last) u.1 refl) refl
    (subst (λ t. IsKey t (unplaced k) rest) (sym front) (key_stands k rest u.0 e)))

pub path_front : (k : List ℕ) (ks : KeyTexts) (rest : Text) → stops is_blank (onto (path_chars (k ∷ ks)) rest) ≡ true
path_front k [] rest = key_front k rest
path_front k (l ∷ ks) rest =
    ap (stops is_blank) (onto-append (path_chars (l ∷ ks)) (46 ∷ key_chars k) rest)
    ∙ path_front l ks (onto (46 ∷ key_chars k) rest)
