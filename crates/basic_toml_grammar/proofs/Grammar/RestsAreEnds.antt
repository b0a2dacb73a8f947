-- What stands after something of the grammar is an end of the text.
use Rattle.std.proofs.Common.{ℕ, zero, suc, ◌==◌, ◌||◌, Bool, true, false, cond, List, [], ◌∷◌, drop, min, sym, subst}
use Rattle.basic_toml_tokens.specs.Text.{Text, StartsWith, after_run, is_blank, is_keylike, after_blanks}
use Rattle.basic_toml_tokens.specs.Strings.{Quotes, is_space, after_feed, Pieces, none, piece, IsPiece, content}
use Rattle.basic_toml_tokens.specs.Strings.{delimiters, letter, unicode, continuation, Closes, one, several, Opens}
use Rattle.basic_toml_tokens.specs.Strings.{one_line, multiline, IsString}
use Rattle.basic_toml_grammar.specs.Sections.{Key, Raw, Elements, Rows}
use Rattle.basic_toml_grammar.specs.Grammar.{IsKey, bare, quoted, IsKeys, more, is_wordlike, after_comment_by}
use Rattle.basic_toml_grammar.specs.Grammar.{after_gap_from, after_gap, IsValue, word, string, array, inline}
use Rattle.basic_toml_grammar.specs.Grammar.{IsElements, close, last, and_more, IsFields, some, IsFieldsOn, last_row}
use Rattle.basic_toml_grammar.specs.Grammar.{more_rows, IsRow, assigned, EndsLine, at_feed, at_end, IsRows, over}
use Rattle.basic_toml_grammar.specs.Grammar.{header_next, empty_line, row_line, IsHeader, table, array_of_tables}

pub data IsEnd : Text → Text → Type 0 where
  all : {text : Text} → IsEnd text text
  further : {x : ℕ × ℕ} {text rest : Text} → IsEnd text rest → IsEnd (x ∷ text) rest

-- an end of an end
pub ends_on : {text mid rest : Text} → IsEnd text mid → IsEnd mid rest → IsEnd text rest
ends_on all e = e
ends_on (further d) e = further (ends_on d e)

pub sign_ends : {c p : ℕ} {text rest : Text} → StartsWith c text p rest → IsEnd text rest
sign_ends {rest = rest} s = subst (λ (t : Text). IsEnd t rest) (sym s) (further all)

pub nothing_ends : (text : Text) → IsEnd text []
nothing_ends [] = all
nothing_ends (x ∷ text) = further (nothing_ends text)

-- one character more, which a test takes or leaves
test_ends : {x : ℕ × ℕ} {text rest : Text} (b : Bool) → IsEnd text rest → IsEnd (x ∷ text) (cond b rest (x ∷ text))
test_ends true e = further e
test_ends false e = all

tests_end : {x : ℕ × ℕ} {text rest other : Text} (a b : Bool) → IsEnd text rest → IsEnd text other
    → IsEnd (x ∷ text) (cond a rest (cond b other (x ∷ text)))
tests_end true b d e = further d
tests_end false b d e = test_ends b e

pub run_ends : (f : ℕ → Bool) (text : Text) → IsEnd text (after_run f text)
run_ends f [] = all
run_ends f (x ∷ text) = test_ends (f x.1) (run_ends f text)

pub drop_ends : (n : ℕ) (text : Text) → IsEnd text (drop n text)
drop_ends zero text = all
drop_ends (suc n) [] = all
drop_ends (suc n) (x ∷ text) = further (drop_ends n text)

pub feed_ends : (text : Text) → IsEnd text (after_feed text)
feed_ends [] = all
feed_ends (x ∷ text) = test_ends (x.1 == 10) all

pub gap_ends : (comment : ℕ → Bool) (inside : Bool) (text : Text) → IsEnd text (after_gap_from comment inside text)
gap_ends comment inside [] = all
gap_ends comment true (x ∷ text) =
    tests_end (x.1 == 10) (comment x.1) (gap_ends comment false text) (gap_ends comment true text)
gap_ends comment false (x ∷ text) =
    tests_end (is_blank x.1 || x.1 == 10) (x.1 == 35) (gap_ends comment false text) (gap_ends comment true text)

pub comment_ends : (comment : ℕ → Bool) (text : Text) → IsEnd text (after_comment_by comment text)
comment_ends comment [] = all
comment_ends comment (x ∷ text) = test_ends (x.1 == 35) (run_ends comment text)

piece_ends : {k : Quotes} {text rest : Text} {chars : List ℕ} → IsPiece k text chars rest → IsEnd text rest
piece_ends (content s e) = sign_ends s
piece_ends (delimiters {n = n} {text = text} m c z l) = drop_ends n text
piece_ends (letter d s t e) = ends_on (sign_ends s) (sign_ends t)
piece_ends (unicode {n = n} {digits = digits} d s t e l v) =
    ends_on (sign_ends s) (ends_on (sign_ends t) (drop_ends n digits))
piece_ends (continuation {next = next} {after = after} d m s t) =
    ends_on (sign_ends s) (ends_on (run_ends is_blank next) (ends_on (sign_ends t) (run_ends is_space after)))

pub pieces_end : {k : Quotes} {text rest : Text} {v : List ℕ} → Pieces k text v rest → IsEnd text rest
pieces_end none = all
pieces_end (piece p ps) = ends_on (piece_ends p) (pieces_end ps)

pub closer_ends : {k : Quotes} {text rest : Text} {v : List ℕ} → Closes k text v rest → IsEnd text rest
closer_ends (one m s) = sign_ends s
closer_ends (several {n = n} {text = text} m c l) = drop_ends (min n 5) text

opener_ends : {k : Quotes} {text body : Text} {p : ℕ} → Opens text p k body → IsEnd text body
opener_ends (one_line s q c) = sign_ends s
opener_ends (multiline {next = next} s q c) =
    ends_on (sign_ends s) (ends_on (drop_ends 2 next) (feed_ends (drop 2 next)))

pub string_ends : {text rest : Text} {p : ℕ} {m : Bool} {v : List ℕ} → IsString text p m v rest → IsEnd text rest
string_ends s = ends_on (opener_ends s.opens) (ends_on (pieces_end s.pieces) (closer_ends s.closes))

pub key_ends : {text rest : Text} {k : Key} → IsKey text k rest → IsEnd text rest
key_ends {text = text} (bare s w) = run_ends is_keylike text
key_ends (quoted s) = string_ends s

-- a sign after blanks
pub spaced_sign_ends : {c p : ℕ} {rest : Text} (text : Text) → StartsWith c (after_blanks text) p rest → IsEnd text rest
spaced_sign_ends text s = ends_on (run_ends is_blank text) (sign_ends s)

pub keys_end : {text rest : Text} {ks : List Key} → IsKeys text ks rest → IsEnd text rest
keys_end (IsKeys.one k) = key_ends k
keys_end (more {mid = mid} {next = next} k s ks) =
    ends_on (key_ends k) (ends_on (spaced_sign_ends mid s) (ends_on (run_ends is_blank next) (keys_end ks)))

module _ (comment : ℕ → Bool) where
  -- a sign after a gap
  pub gap_sign_ends : {c p : ℕ} {rest : Text} (text : Text) → StartsWith c (after_gap comment text) p rest
      → IsEnd text rest
  gap_sign_ends text s = ends_on (gap_ends comment false text) (sign_ends s)

  mutual
    pub value_ends : {text rest : Text} {p : ℕ} {v : Raw} → IsValue comment text p v rest → IsEnd text rest
    value_ends {text = text} (word s w e) = run_ends is_wordlike text
    value_ends (string s) = string_ends s
    value_ends (array {next = next} s xs) =
        ends_on (sign_ends s) (ends_on (gap_ends comment false next) (elements_end xs))
    value_ends (inline {next = next} s rs) = ends_on (sign_ends s) (ends_on (run_ends is_blank next) (fields_end rs))

    pub elements_end : {text rest : Text} {es : Elements} → IsElements comment text es rest → IsEnd text rest
    elements_end (close s) = sign_ends s
    elements_end (last {mid = mid} v s) = ends_on (value_ends v) (gap_sign_ends mid s)
    elements_end (and_more {mid = mid} {next = next} v s xs) =
        ends_on (value_ends v) (ends_on (gap_sign_ends mid s) (ends_on (gap_ends comment false next) (elements_end xs)))

    pub fields_end : {text rest : Text} {rs : Rows} → IsFields comment text rs rest → IsEnd text rest
    fields_end (IsFields.none s) = sign_ends s
    fields_end (some rs) = more_fields_end rs

    pub more_fields_end : {text rest : Text} {rs : Rows} → IsFieldsOn comment text rs rest → IsEnd text rest
    more_fields_end (last_row {mid = mid} r s) = ends_on (row_ends r) (spaced_sign_ends mid s)
    more_fields_end (more_rows {mid = mid} {next = next} r s rs) =
        ends_on (row_ends r) (ends_on (spaced_sign_ends mid s) (ends_on (run_ends is_blank next) (more_fields_end rs)))

    pub row_ends : {text rest : Text} {ks : List Key} {p : ℕ} {v : Raw} → IsRow comment text ks p v rest
        → IsEnd text rest
    row_ends (assigned {mid = mid} {next = next} ks s v) =
        ends_on (keys_end ks) (ends_on (spaced_sign_ends mid s) (ends_on (run_ends is_blank next) (value_ends v)))

  pub line_ends : {text rest : Text} → EndsLine comment text rest → IsEnd text rest
  line_ends {text = text} (at_feed s) =
      ends_on (run_ends is_blank text) (ends_on (comment_ends comment (after_blanks text)) (sign_ends s))
  line_ends {text = text} (at_end e) = nothing_ends text

  pub rows_end : {text rest : Text} {rs : Rows} → IsRows comment text rs rest → IsEnd text rest
  rows_end over = all
  rows_end (header_next s) = all
  rows_end (empty_line e rs) = ends_on (line_ends e) (rows_end rs)
  rows_end (row_line {text = text} r e rs) =
      ends_on (run_ends is_blank text) (ends_on (row_ends r) (ends_on (line_ends e) (rows_end rs)))

pub header_ends : {text rest : Text} {p : ℕ} {ks : List Key} {a : Bool} → IsHeader text p ks a rest → IsEnd text rest
header_ends (table {next = next} {mid = mid} s ks e) =
    ends_on (sign_ends s) (ends_on (run_ends is_blank next) (ends_on (keys_end ks) (spaced_sign_ends mid e)))
header_ends (array_of_tables {inner = inner} {mid = mid} s t ks e f) =
    ends_on (sign_ends s) (ends_on (sign_ends t)
    (ends_on (run_ends is_blank inner) (ends_on (keys_end ks) (ends_on (spaced_sign_ends mid e) (sign_ends f)))))
