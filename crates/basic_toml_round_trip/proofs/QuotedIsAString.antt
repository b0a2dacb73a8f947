-- A text between double quotes, as the layout writes it, is a string with these characters.
use Rattle.std.proofs.Common.{◌≡◌, ℕ, ◌/◌, ◌%◌, ◌<◌, ◌≤◌, ◌==◌, Bool, true, false, not, ◌&&◌, List, [], ◌∷◌, ◌++◌}
use Rattle.std.proofs.Common.{length, take, refl, ap, sym, ◌∙◌, subst, arith, append-nil, Some}
use Rattle.std.specs.Char.{digit_value, IsScalar}
use Rattle.std.specs.Str.Parse.{digits_value}
use Rattle.std.proofs.lemmas.Bool.{eqb-true, lt-ltb, not-true, or_left, cond_both, cond-false}
use Rattle.std.proofs.lemmas.Bool.Decides.{nat_tests}
use lib.Utf8.{low_scalar}
use Rattle.basic_toml_tokens.specs.Text.{Text, run}
use Rattle.basic_toml_tokens.specs.Strings.{Quotes, count_of, is_plain, is_content, letter_value, is_hex, hex_value}
use Rattle.basic_toml_tokens.specs.Strings.{Pieces, none, piece, IsPiece, content, letter, unicode, one, one_line}
use Rattle.basic_toml_tokens.specs.Strings.{IsString}
use Rattle.basic_toml_layout.specs.Texts.{upper_digit, is_control, escape, quoted_byte, quoted_bytes, quoted}
use Rattle.basic_toml_round_trip.proofs.CharactersInFront.{onto, onto-append}

-- what the layout opens, on one line or on several
abbrev pub double_quotes : Bool → Quotes
double_quotes is_multiline = record { delimiter = 34; multiline = is_multiline }

-- the two hexadecimal digits of a control character
digit_below : (n : ℕ) → n < 16 → digit_value (upper_digit n) ≡ n
digit_below n l = grind (arith, nat_tests)

hex_below : (n : ℕ) → n < 16 → is_hex (upper_digit n) ≡ true
hex_below n l = lt-ltb (digit_value (upper_digit n)) 16 (omega (arith, digit_below n l))

abbrev hex_digits : ℕ → List ℕ
hex_digits c = 48 ∷ 48 ∷ upper_digit (c / 16) ∷ upper_digit (c % 16) ∷ []

control_value : (c : ℕ) → c < 128 → digits_value 16 (hex_digits c) ≡ c
control_value c l =
    let h : c / 16 < 16 = omega arith in
    let m : c % 16 < 16 = omega arith in
    rw (digit_below (c / 16) h, digit_below (c % 16) m) (omega arith)

-- a control character by its number
control_piece : (is_multiline : Bool) (c : ℕ) (rest : Text) → c < 128
    → IsPiece (double_quotes is_multiline) (onto (92 ∷ 117 ∷ hex_digits c) rest) (c ∷ []) rest
control_piece is_multiline c rest l =
    let digits : Text = onto (hex_digits c) rest in
    let runs : run is_hex digits ≡ hex_digits c ++ run is_hex rest =
    rw (hex_below (c / 16) (omega arith), hex_below (c % 16) (omega arith)) refl in
    let value : hex_value 4 digits ≡ c = ap (λ l. digits_value 16 (take 4 l)) runs ∙ control_value c l in
    let scalar : IsScalar (hex_value 4 digits) = subst IsScalar (sym value) (low_scalar c (omega arith)) in
    subst (λ v. IsPiece (double_quotes is_multiline) (onto (92 ∷ 117 ∷ hex_digits c) rest) (v ∷ []) rest) value
    (unicode refl refl refl refl (subst (λ l. 4 ≤ length l) (sym runs) (omega arith)) scalar)

-- a character is written by a letter, by its number, or as it is
by_form : (c : ℕ) (P : List ℕ → Type 0) → ((l v : ℕ) → letter_value l ≡ Some v → (c == v) ≡ true → P (escape l))
    → (is_control c ≡ true → P (92 ∷ 117 ∷ hex_digits c))
    → ((c == 34) ≡ false → (c == 92) ≡ false → is_control c ≡ false → P (c ∷ []))
    → P (quoted_byte c)
by_form c P named numbered plain =
    cond_both (c == 8) _ _ P (named 98 8 refl) (λ _. cond_both (c == 9) _ _ P (named 116 9 refl) (λ _.
    cond_both (c == 10) _ _ P (named 110 10 refl) (λ _. cond_both (c == 12) _ _ P (named 102 12 refl) (λ _.
    cond_both (c == 13) _ _ P (named 114 13 refl) (λ _. cond_both (c == 34) _ _ P (named 34 34 refl) (λ q.
    cond_both (c == 92) _ _ P (named 92 92 refl) (λ b. cond_both (is_control c) _ _ P numbered (plain q b))))))))

-- and is one piece
plain_content : (is_multiline : Bool) (c : ℕ) → (c == 34) ≡ false → (c == 92) ≡ false → is_control c ≡ false
    → is_content (double_quotes is_multiline) c ≡ true
plain_content is_multiline c q b n = or_left (is_plain 34 c) (is_multiline && (c == 10)) (grind (arith, nat_tests))

control_below : (c : ℕ) → is_control c ≡ true → c < 128
control_below c h = grind (arith, nat_tests)

pub quoted_piece : (is_multiline : Bool) (c : ℕ) (rest : Text)
    → IsPiece (double_quotes is_multiline) (onto (quoted_byte c) rest) (c ∷ []) rest
quoted_piece is_multiline c rest =
    by_form c (λ chars. IsPiece (double_quotes is_multiline) (onto chars rest) (c ∷ []) rest)
    (λ l v e f. subst (λ x. IsPiece (double_quotes is_multiline) (onto (escape l) rest) (x ∷ []) rest)
    (sym (eqb-true c v f)) (letter refl refl refl e))
    (λ k. control_piece is_multiline c rest (control_below c k))
    (λ q b n. content refl (plain_content is_multiline c q b n))

quoted_pieces : (cs : List ℕ) (rest : Text) → Pieces (double_quotes false) (onto (quoted_bytes cs) rest) cs rest
quoted_pieces [] rest = none
quoted_pieces (c ∷ cs) rest =
    subst (λ t. Pieces (double_quotes false) t (c ∷ cs) rest) (sym (onto-append (quoted_byte c) (quoted_bytes cs) rest))
    (piece (quoted_piece false c (onto (quoted_bytes cs) rest)) (quoted_pieces cs rest))

-- no quote stands at the front
abbrev pub no_quote : Text → Bool
no_quote [] = true
no_quote (x ∷ text) = not (x.1 == 34)

pub quoted_front : (c : ℕ) (rest : Text) → no_quote (onto (quoted_byte c) rest) ≡ true
quoted_front c rest =
    by_form c (λ chars. no_quote (onto chars rest) ≡ true) (λ l v e f. refl) (λ k. refl) (λ q b n. ap not q)

pub count_none : (text : Text) → no_quote text ≡ true → count_of 34 text ≡ 0
count_none [] e = refl
count_none (x ∷ text) e = ap length (cond-false (x.1 == 34) (x.1 ∷ run (λ c. c == 34) text) [] (not-true (x.1 == 34) e))

-- fewer than three quotes open it, where none stands after it
few_quotes : (cs : List ℕ) (rest : Text) → no_quote rest ≡ true
    → count_of 34 (onto (34 ∷ quoted_bytes cs) ((0, 34) ∷ rest)) < 3
few_quotes [] rest e = omega (arith, count_none rest e)
few_quotes (c ∷ cs) rest e =
    let front : no_quote (onto (quoted_bytes (c ∷ cs)) ((0, 34) ∷ rest)) ≡ true =
    ap no_quote (onto-append (quoted_byte c) (quoted_bytes cs) ((0, 34) ∷ rest))
    ∙ quoted_front c (onto (quoted_bytes cs) ((0, 34) ∷ rest)) in
    omega (arith, count_none (onto (quoted_bytes (c ∷ cs)) ((0, 34) ∷ rest)) front)

pub quoted_is_string : (cs : List ℕ) (rest : Text) → no_quote rest ≡ true
    → IsString (onto (quoted cs) rest) 0 false cs rest
quoted_is_string cs rest e =
    subst (λ t. IsString ((0, 34) ∷ t) 0 false cs rest) (sym (onto-append (quoted_bytes cs) (34 ∷ []) rest))
    (record {
      kind = double_quotes false;
      body = onto (quoted_bytes cs) ((0, 34) ∷ rest);
      opens = one_line refl refl (few_quotes cs rest e);
      lines = refl;
      inside = cs;
      closer = (0, 34) ∷ rest;
      pieces = quoted_pieces cs ((0, 34) ∷ rest);
      tail = [];
      closes = one refl refl;
      stands_for = sym (append-nil cs);
    })
