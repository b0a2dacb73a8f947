-- The tokens of a number that is at fault, own: the offsets behind them where the next token counts. Where that token is
-- itself refused, its fault comes in place of the number's. In order:
--   behind a plus
--   behind the first word, with or without a plus before it, where it has no `e` or `E` and no prefix
--   behind the period that stands there
--   behind an `e` or `E` that ends its word, and then behind a plus; only where no fault stands before the letter
use Rattle.std.specs.Prelude.{◌≡◌, ℕ, Bool, true, false, ◌&&◌, ◌||◌, ◌==◌, if◌then◌else◌, List, [], ◌∷◌, codes, Option}
use Rattle.std.specs.Prelude.{Some, None}
use Rattle.std.specs.List.{list_any}
use Rattle.std.specs.Str.{bytes_eq}
use Rattle.basic_toml_tokens.specs.Text.{Text, run, after_run, is_keylike}
use Rattle.basic_toml_numbers.specs.Numbers.{is_whole, part_of, after_part, is_exponent_letter, plus, period}
use Rattle.basic_toml_grammar.specs.NumberFaults.{is_fine, is_prefixed, without_minus, begins_number, number_fault}
use Rattle.basic_toml_grammar.specs.Reader.{char_at}

-- an `e` or `E` and nothing else
abbrev pub is_letter_alone : List ℕ → Bool
is_letter_alone (c ∷ []) = is_exponent_letter c
is_letter_alone _ = false

-- behind a sign, if it stands there
abbrev pub behind_sign : Option (ℕ × Text) → List Text
behind_sign None = []
behind_sign (Some s) = s.1 ∷ []

-- of digits and what is left of their word, before this text
abbrev pub behind_letter : Bool → List ℕ → Text → List Text
behind_letter zeros_may_lead digits text =
    if is_fine zeros_may_lead (part_of digits) && is_letter_alone (after_part digits)
    then text ∷ behind_sign (char_at plus text) else []

-- behind a period: of the word before it without a sign, the integer part
abbrev pub behind_period : List ℕ → Option (ℕ × Text) → List Text
behind_period part None = []
behind_period part (Some s) =
    s.1 ∷ (if is_whole part then behind_letter true (run is_keylike s.1) (after_run is_keylike s.1) else [])

-- of the first word, the same without a sign, and the text behind it
abbrev pub behind_word : (word part : List ℕ) → Text → List Text
behind_word [] part text = []
behind_word (c ∷ cs) part text =
    if is_prefixed (c ∷ cs) then []
    else if list_any is_exponent_letter (c ∷ cs) then behind_letter false part text
    else text ∷ behind_period part (char_at period text)

-- of the number at the front of a text; no minus may stand behind a plus
abbrev pub behind_number : Text → List Text
behind_number [] = []
behind_number (x ∷ text) =
    if x.1 == plus then text ∷ behind_word (run is_keylike text) (run is_keylike text) (after_run is_keylike text)
    else behind_word (run is_keylike (x ∷ text)) (without_minus (run is_keylike (x ∷ text)))
    (after_run is_keylike (x ∷ text))

-- Where a number ends that is not at fault. Behind a plus and the word of an exponent:
abbrev pub plus_rest : Option (ℕ × Text) → Text → Text
plus_rest None text = text
plus_rest (Some s) text = after_run is_keylike s.1

-- behind an exponent, of which these characters stand in the word before the text
abbrev pub mark_rest : List ℕ → Text → Text
mark_rest (c ∷ []) text = plus_rest (char_at plus text) text
mark_rest _ text = text

-- behind a fraction, or what stands there instead
abbrev pub period_rest : Option (ℕ × Text) → Text → Text
period_rest None text = text
period_rest (Some s) text = mark_rest (after_part (run is_keylike s.1)) (after_run is_keylike s.1)

-- behind the number that begins with a word, where the text stands behind the word
abbrev pub word_rest : List ℕ → Text → Text
word_rest word text =
    if is_prefixed word then text
    else if list_any is_exponent_letter word then mark_rest (after_part (without_minus word)) text
    else period_rest (char_at period text) text

-- behind the number at the front of a text, and behind `true` and `false`
abbrev pub number_rest : Text → Text
number_rest [] = []
number_rest (x ∷ text) =
    if x.1 == plus then word_rest (run is_keylike text) (after_run is_keylike text)
    else word_rest (run is_keylike (x ∷ text)) (after_run is_keylike (x ∷ text))

-- `true` or `false`, or a number that is not at fault, at the front of a text that ends at `end`
pub data IsWhole (end : ℕ) : Text → Type 0 where
  boolean : {x : ℕ × ℕ} {text : Text}
      → (bytes_eq (run is_keylike (x ∷ text)) (codes "true") || bytes_eq (run is_keylike (x ∷ text)) (codes "false"))
      ≡ true
      → IsWhole end (x ∷ text)
  number : {x : ℕ × ℕ} {text : Text} → begins_number (run is_keylike (x ∷ text)) ≡ true
      → number_fault end (x ∷ text) ≡ None → IsWhole end (x ∷ text)
  signed : {p : ℕ} {text : Text} → number_fault end ((p, plus) ∷ text) ≡ None
      → IsWhole end ((p, plus) ∷ text)
