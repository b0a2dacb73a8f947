-- A text between `"""`, as it is written for people, is a string with these characters.
use Rattle.std.proofs.Common.{◌≡◌, ℕ, suc, ◌==◌, ◌&&◌, true, not, List, [], ◌∷◌, refl, ap, sym}
use Rattle.std.proofs.Common.{◌∙◌, inl, inr, subst, arith, append-nil}
use Rattle.std.proofs.lemmas.Bool.{false≢true, eqb-true, and_parts, or_cases, cond_both}
use Rattle.basic_toml_tokens.specs.Text.{Text}
use Rattle.basic_toml_tokens.specs.Strings.{Pieces, none, piece, IsPiece, content, delimiters, count_of, several}
use Rattle.basic_toml_tokens.specs.Strings.{multiline, IsString}
use Rattle.basic_toml_layout.specs.Texts.{quoted_byte}
use Rattle.basic_toml_layout.specs.Pretty.{is_apart, stands_in_lines, line_byte, line_bytes, three_quotes}
use Rattle.basic_toml_layout.specs.Pretty.{quoted_lines}
use Rattle.basic_toml_round_trip.proofs.CharactersInFront.{onto, onto-append}
use Rattle.basic_toml_round_trip.proofs.QuotedIsAString.{double_quotes, quoted_piece, no_quote, quoted_front}
use Rattle.basic_toml_round_trip.proofs.QuotedIsAString.{count_none}

-- the closing quotes
abbrev closing : Text → Text
closing rest = onto three_quotes rest

-- a character that is no quote is written with none in front
line_front : (c : ℕ) (cs : List ℕ) (rest : Text) → not (c == 34) ≡ true → no_quote (onto (line_byte c cs) rest) ≡ true
line_front c cs rest e =
    cond_both (stands_in_lines c cs) (c ∷ []) (quoted_byte c) (λ l. no_quote (onto l rest) ≡ true) (λ _. e)
    (λ _. quoted_front c rest)

apart_front : (cs : List ℕ) (rest : Text) → is_apart cs ≡ true → no_quote (onto (line_bytes cs) rest) ≡ true
apart_front [] rest e = absurd (false≢true e)
apart_front (c ∷ cs) rest e =
    ap no_quote (onto-append (line_byte c cs) (line_bytes cs) rest)
    ∙ line_front c cs (onto (line_bytes cs) rest) e

-- characters in front of a text are a piece that stands for this one
abbrev Writes : ℕ → Text → List ℕ → Type 0
Writes c text cs = IsPiece (double_quotes true) (onto cs text) (c ∷ []) text

-- the character itself is, and so is how it is written
abbrev IsItself : Text → ℕ → Type 0
IsItself text c = Writes c text (c ∷ [])

quote_piece : (text : Text) → no_quote text ≡ true → IsItself text 34
quote_piece text e = delimiters {n = 1} refl (ap suc (count_none text e)) (omega arith) (omega arith)

itself_piece : (c : ℕ) (cs : List ℕ) (rest : Text) → stands_in_lines c cs ≡ true
    → IsItself (onto (line_bytes cs) rest) c
itself_piece c cs rest h = elim (or_cases (c == 10) ((c == 34) && is_apart cs) h) [
  | inl feed ↦ subst (IsItself (onto (line_bytes cs) rest)) (sym (eqb-true c 10 feed)) (content refl refl)
  | inr quote ↦
      let p : ((c == 34) ≡ true) × (is_apart cs ≡ true) = and_parts _ _ quote in
      subst (IsItself (onto (line_bytes cs) rest)) (sym (eqb-true c 34 p.0))
      (quote_piece (onto (line_bytes cs) rest) (apart_front cs rest p.1))
]

line_piece : (c : ℕ) (cs : List ℕ) (rest : Text) → Writes c (onto (line_bytes cs) rest) (line_byte c cs)
line_piece c cs rest =
    cond_both (stands_in_lines c cs) (c ∷ []) (quoted_byte c) (Writes c (onto (line_bytes cs) rest))
    (itself_piece c cs rest) (λ _. quoted_piece true c (onto (line_bytes cs) rest))

line_pieces : (cs : List ℕ) (rest : Text) → Pieces (double_quotes true) (onto (line_bytes cs) rest) cs rest
line_pieces [] rest = none
line_pieces (c ∷ cs) rest =
    subst (λ t. Pieces (double_quotes true) t (c ∷ cs) rest) (sym (onto-append (line_byte c cs) (line_bytes cs) rest))
    (piece (line_piece c cs rest) (line_pieces cs rest))

-- three quotes close it
closing_count : (rest : Text) → no_quote rest ≡ true → count_of 34 (closing rest) ≡ 3
closing_count rest e = ap (λ n. suc (suc (suc n))) (count_none rest e)

pub lines_are_string : (cs : List ℕ) (rest : Text) → no_quote rest ≡ true
    → IsString (onto (quoted_lines cs) rest) 0 true cs rest
lines_are_string cs rest e =
    subst (λ t. IsString (onto three_quotes ((0, 10) ∷ t)) 0 true cs rest)
    (sym (onto-append (line_bytes cs) three_quotes rest))
    (record {
      kind = double_quotes true;
      body = onto (line_bytes cs) (closing rest);
      opens = multiline refl refl (omega arith);
      lines = refl;
      inside = cs;
      closer = closing rest;
      pieces = line_pieces cs (closing rest);
      tail = [];
      closes = several {n = 3} refl (closing_count rest e) (omega arith);
      stands_for = sym (append-nil cs);
    })
