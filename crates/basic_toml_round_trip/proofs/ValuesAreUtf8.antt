-- The bytes of a key and of the value of a row are the UTF-8 of the same in characters, and none is a carriage return.
use Rattle.std.proofs.Common.{◌≡◌, ℕ, zero, suc, Bool, true, false, cond, List, [], ◌∷◌, ◌++◌, refl, sym, ap, ◌∙◌}
use Rattle.std.proofs.Common.{subst, codes, arith, ltb-true}
use Rattle.std.specs.List.{list_all}
use Rattle.std.specs.Str.{chars, IsUtf8, IsAscii}
use Rattle.std.proofs.lemmas.Bool.{and_parts}
use Rattle.std.proofs.lemmas.Bool.Decides.{nat_tests}
use Rattle.std.proofs.lemmas.Str.{encodes-chars, chars-IsAscii}
use Rattle.basic_toml_value.specs.Data as d
use Rattle.basic_toml_value.specs.Data.{Data, Items, no_items, item, Members, no_members, member}
use Rattle.basic_toml_layout.specs.Texts.{quoted, is_bare, is_bare_key, written_key, comma}
use Rattle.basic_toml_layout.specs.Layout.{row_start}
use Rattle.basic_toml_layout.specs.Document.{inline, inline_items, more_items, inline_members, more_members}
use Rattle.basic_toml_grammar.specs.Sections.{KeyTexts, Raw}
use Rattle.basic_toml_grammar.specs.Grammar.{is_wordlike}
use Rattle.basic_toml_round_trip.proofs.LaidOut.{IsInRow, AreInRow, AreFields}
use Rattle.basic_toml_round_trip.proofs.CharactersInFront.{all_pass}
use Rattle.basic_toml_round_trip.proofs.CharactersOfLayout.{key_chars, value_chars, items_chars, more_chars}
use Rattle.basic_toml_round_trip.proofs.CharactersOfLayout.{fields_chars, more_fields_chars}
use Rattle.basic_toml_round_trip.proofs.KeysAreInTheGrammar.{bare_encoded}
use Rattle.basic_toml_round_trip.proofs.WordsAreValues.{IsWord, integer_is_word}
use Rattle.basic_toml_round_trip.proofs.FloatsAreWords.{float_is_word}
use Rattle.basic_toml_round_trip.proofs.QuotedIsUtf8.{is_plain, Spelt, spelt-append, spelt_plain, quoted_spelt}

-- keys: a bare one is ASCII
bare_plain : (c : ℕ) → is_bare c ≡ true → is_plain c ≡ true
bare_plain c h = grind (arith, nat_tests)

plain_chars : (bs : List ℕ) → list_all is_plain bs ≡ true → chars bs ≡ bs
plain_chars bs e = chars-IsAscii bs (ascii bs e)
  where
    ascii : (bs : List ℕ) → list_all is_plain bs ≡ true → IsAscii bs
    ascii [] e i = omega arith
    ascii (b ∷ bs) e zero = ltb-true b 128 (and_parts _ _ (and_parts _ _ e).0).0
    ascii (b ∷ bs) e (suc i) = ascii bs (and_parts _ _ e).1 i

bare_all : (k : List ℕ) → is_bare_key k ≡ true → list_all is_bare k ≡ true
bare_all [] e = refl
bare_all (c ∷ cs) e = e

bare_same : (k : List ℕ) → is_bare_key k ≡ true → (chars k ≡ k) × (list_all is_plain k ≡ true)
bare_same k e =
    let plain : list_all is_plain k ≡ true = all_pass is_bare is_plain bare_plain k (bare_all k e) in
    (plain_chars k plain, plain)

pub key_spelt : (k : List ℕ) → IsUtf8 k → Spelt (written_key k) (key_chars k)
key_spelt k u = go (is_bare_key k) refl (is_bare_key (chars k)) refl
  where
    go : (a : Bool) → is_bare_key k ≡ a → (b : Bool) → is_bare_key (chars k) ≡ b
        → Spelt (cond a k (quoted k)) (cond b (chars k) (quoted (chars k)))
    go true e true f = let p = bare_same k e in subst (λ l. Spelt k l) (sym p.0) (spelt_plain k p.1)
    go true e false f =
        let same : false ≡ true = sym f ∙ ap is_bare_key (bare_same k e).0 ∙ e in
        cc
    go false e true f =
        let bare : chars k ≡ k = sym (bare_encoded (chars k) (bare_all (chars k) f)) ∙ encodes-chars k u in
        let same : false ≡ true = sym e ∙ ap is_bare_key (sym bare) ∙ f in
        cc
    go false e false f = quoted_spelt k u

-- values of rows
word_plain : (c : ℕ) → is_wordlike c ≡ true → is_plain c ≡ true
word_plain c h = grind (arith, nat_tests)

word_spelt : {cs : List ℕ} {v : Raw} → IsWord cs v → Spelt cs cs
word_spelt {cs = cs} w = spelt_plain cs (all_pass is_wordlike is_plain word_plain cs w.all)

in_brackets : {bytes cs : List ℕ} → Spelt bytes cs → Spelt (91 ∷ (bytes ++ 93 ∷ [])) (91 ∷ (cs ++ 93 ∷ []))
in_brackets s = spelt-append (spelt_plain (91 ∷ []) refl) (spelt-append s (spelt_plain (93 ∷ []) refl))

in_braces : {bytes cs : List ℕ} → Spelt bytes cs → Spelt (123 ∷ (bytes ++ 125 ∷ [])) (123 ∷ (cs ++ 125 ∷ []))
in_braces s = spelt-append (spelt_plain (123 ∷ []) refl) (spelt-append s (spelt_plain (125 ∷ []) refl))

pub start_spelt : (k : List ℕ) → IsUtf8 k → Spelt (row_start k) (row_start (chars k))
start_spelt k u = spelt-append (key_spelt k u) (spelt_plain (codes " = ") refl)

mutual
  pub value_spelt : (x : Data) → IsInRow x → Spelt (inline x) (value_chars x)
  value_spelt (d.integer z) h = word_spelt (integer_is_word z h)
  value_spelt (d.float t) h = word_spelt (float_is_word t h)
  value_spelt (d.boolean true) h = spelt_plain (codes "true") refl
  value_spelt (d.boolean false) h = spelt_plain (codes "false") refl
  value_spelt (d.string t) h = quoted_spelt t h
  value_spelt (d.array xs) h = in_brackets (items_spelt xs h)
  value_spelt (d.table ms) h = in_braces (fields_spelt ms [] h)

  items_spelt : (xs : Items) → AreInRow xs → Spelt (inline_items xs) (items_chars xs)
  items_spelt no_items h = spelt_plain [] refl
  items_spelt (item x xs) h = spelt-append (value_spelt x h.0) (more_spelt xs h.1)

  more_spelt : (xs : Items) → AreInRow xs → Spelt (more_items xs) (more_chars xs)
  more_spelt no_items h = spelt_plain [] refl
  more_spelt (item x xs) h =
      spelt-append (spelt_plain comma refl) (spelt-append (value_spelt x h.0) (more_spelt xs h.1))

  fields_spelt : (ms : Members) (seen : KeyTexts) → AreFields seen ms → Spelt (inline_members ms) (fields_chars ms)
  fields_spelt no_members seen h = spelt_plain [] refl
  fields_spelt (member k x ms) seen h =
      spelt-append (spelt_plain (codes " ") refl)
      (spelt-append (start_spelt k h.0.1)
      (spelt-append (value_spelt x h.1.0) (more_fields_spelt ms (k ∷ seen) h.1.1)))

  more_fields_spelt : (ms : Members) (seen : KeyTexts) → AreFields seen ms
      → Spelt (more_members ms) (more_fields_chars ms)
  more_fields_spelt no_members seen h = spelt_plain (codes " ") refl
  more_fields_spelt (member k x ms) seen h =
      spelt-append (spelt_plain comma refl)
      (spelt-append (start_spelt k h.0.1)
      (spelt-append (value_spelt x h.1.0) (more_fields_spelt ms (k ∷ seen) h.1.1)))
