-- The offset of `NumberInvalid`, own. Parts are the integer part with its minus, the digits after a prefix, the
-- fraction, and the exponent, with its minus where it has one and without its plus. What stands, and the offset:
--   `+` with no keylike characters after it, or with `-`, `0x`, `0o` or `0b`        after the plus
--   an underscore before the first digit of a part                                     the underscore
--   in a decimal integer part a digit after a leading zero (or after `0_`)           that digit
--   a part with no digit, or with an underscore that no digit follows                  the start of the part
--   a period after an integer part, with no keylike characters after it              after the period
--   characters left over, an `e` with no exponent, an integer outside i64              the start of the digits: a sign
--                                                                                     included, a prefix and a plus not
-- Of several: for a word without `e`, `E` or prefix the row on the period comes first; then the parts from left to
-- right, each at its first offending character; characters left over last. After a prefix each of them is at the start
-- of the digits.
use Rattle.std.specs.Prelude.{ℕ, ◌+◌, ◌-◌, Bool, true, false, ◌&&◌, ◌||◌, ◌==◌, if◌then◌else◌, List, [], ◌∷◌, length}
use Rattle.std.specs.Prelude.{is_none, Option, Some, None}
use Rattle.std.specs.Char.{is_digit, is_ascii_digit}
use Rattle.std.specs.Option.{option_or}
use Rattle.std.specs.List.{list_any}
use Rattle.basic_toml_tokens.specs.Ascii as ascii
use Rattle.basic_toml_tokens.specs.Text.{Text, offset_in, run, after_run, is_keylike}
use Rattle.basic_toml_numbers.specs.Numbers.{integer_of, is_digits, is_whole, part_of, after_part, is_special}
use Rattle.basic_toml_numbers.specs.Numbers.{is_exponent_letter, minus, plus, period, underscore}
use Rattle.basic_toml_grammar.specs.Reader.{char_at}

-- the offset of an underscore that a part begins with
abbrev pub leading_underscore : ℕ → List ℕ → Option ℕ
leading_underscore at [] = None
leading_underscore at (c ∷ cs) = if c == underscore then Some at else None

abbrev pub begins_digit : List ℕ → Bool
begins_digit [] = false
begins_digit (c ∷ cs) = is_digit c 10

-- the offset of a digit after a leading zero, or after `0_`
abbrev pub after_zero : ℕ → List ℕ → Option ℕ
after_zero at (c ∷ d ∷ cs) =
    if c == ascii.digit_zero then
    (if is_digit d 10 then Some (at + 1) else if d == underscore && begins_digit cs then Some (at + 2) else None)
    else None
after_zero at _ = None

-- digits with single underscores between them, a leading zero alone or not
abbrev pub is_fine : Bool → List ℕ → Bool
is_fine zeros_may_lead cs = if zeros_may_lead then is_digits 10 cs else is_whole cs

-- The fault of a part that begins at `start` and whose digits begin at `at`.
abbrev pub part_fault : Bool → ℕ → ℕ → List ℕ → Option ℕ
part_fault zeros_may_lead start at cs =
    option_or (leading_underscore at cs) (option_or (if zeros_may_lead then None else after_zero at cs)
    (if is_fine zeros_may_lead (part_of cs) then None else Some start))

-- of a part with a sign, a minus or none
abbrev pub signed_part_fault : Bool → ℕ → List ℕ → Option ℕ
signed_part_fault zeros_may_lead start [] = Some start
signed_part_fault zeros_may_lead start (c ∷ cs) =
    if c == minus then part_fault zeros_may_lead start (start + 1) cs else part_fault zeros_may_lead start start (c
    ∷ cs)

abbrev pub without_minus : List ℕ → List ℕ
without_minus [] = []
without_minus (c ∷ cs) = if c == minus then cs else c ∷ cs

-- characters that are left over
abbrev pub left_fault : ℕ → List ℕ → Option ℕ
left_fault start [] = None
left_fault start (c ∷ cs) = Some start

-- a plus and the word of an exponent, of a float that begins at `start` in a text that ends at `end`
abbrev pub plus_word_fault : ℕ → ℕ → List ℕ → Option ℕ
plus_word_fault at start [] = Some start
plus_word_fault at start (c ∷ cs) = option_or (part_fault true at at (c ∷ cs)) (left_fault start (after_part (c ∷ cs)))

abbrev pub plus_power_fault : ℕ → ℕ → Option (ℕ × Text) → Option ℕ
plus_power_fault end start None = Some start
plus_power_fault end start (Some s) = plus_word_fault (offset_in end s.1) start (run is_keylike s.1)

-- what an exponent has in the word of its `e`, at `at`
abbrev pub near_power_fault : ℕ → ℕ → List ℕ → Option ℕ
near_power_fault at start power =
    option_or (signed_part_fault true at power) (left_fault start (after_part (without_minus power)))

-- after the `e` of an exponent these characters, at `at`, and then the text
abbrev pub power_fault : ℕ → ℕ → ℕ → List ℕ → Text → Option ℕ
power_fault end start at [] text = plus_power_fault end start (char_at plus text)
power_fault end start at (d ∷ ds) text = near_power_fault at start (d ∷ ds)

-- the exponent of a float, where these characters are left at `at`
abbrev pub exponent_fault : ℕ → ℕ → ℕ → List ℕ → Text → Option ℕ
exponent_fault end start at [] text = None
exponent_fault end start at (c ∷ cs) text =
    if is_exponent_letter c then power_fault end start (at + 1) cs text else Some start

-- how far a word goes before what is left over
abbrev pub end_before : ℕ → List ℕ → List ℕ → ℕ
end_before at word left = at + (length word - length left)

abbrev pub float_fault : ℕ → ℕ → List ℕ → Text → Option ℕ
float_fault end start word text =
    let left = after_part (without_minus word) in
    option_or (signed_part_fault false start word) (exponent_fault end start (end_before start word left) left text)

-- of the parts before an exponent, with a fraction at `at`
abbrev pub fraction_parts_fault : ℕ → List ℕ → ℕ → List ℕ → Option ℕ
fraction_parts_fault start word at fraction =
    option_or (signed_part_fault false start word)
    (option_or (left_fault start (after_part (without_minus word))) (part_fault true at at fraction))

-- with a fraction
abbrev pub fraction_fault : ℕ → ℕ → List ℕ → ℕ → List ℕ → Text → Option ℕ
fraction_fault end start word at fraction text =
    let left = after_part fraction in
    option_or (fraction_parts_fault start word at fraction)
    (exponent_fault end start (end_before at fraction left) left text)

-- what stands after a period: the fraction, and the text
abbrev pub after_period_fault : ℕ → ℕ → List ℕ → List ℕ → Text → Option ℕ
after_period_fault end start word [] text = Some (offset_in end text)
after_period_fault end start word (c ∷ cs) text =
    fraction_fault end start word (offset_in end text) (c ∷ cs) (after_run is_keylike text)

abbrev pub outside : ℕ → List ℕ → Option ℕ
outside start word = if is_none (integer_of word) then Some start else None

-- with neither a fraction nor an exponent
abbrev pub whole_fault : ℕ → List ℕ → Option ℕ
whole_fault start word =
    if is_special (without_minus word) then None else option_or (signed_part_fault false start word)
    (outside start word)

-- with a period after it, or none
abbrev pub unmarked_fault : ℕ → ℕ → List ℕ → Option (ℕ × Text) → Option ℕ
unmarked_fault end start word None = whole_fault start word
unmarked_fault end start word (Some s) = after_period_fault end start word (run is_keylike s.1) s.1

-- `0x`, `0o` or `0b` stands at the front
abbrev pub is_prefixed : List ℕ → Bool
is_prefixed (c ∷ d ∷ cs) = c == ascii.digit_zero && (d == ascii.lower_x || (d == ascii.lower_o || d == ascii.lower_b))
is_prefixed _ = false

-- a number that begins with this word, at `start`, and then the text, which ends at `end`
abbrev pub word_fault : ℕ → ℕ → List ℕ → Text → Option ℕ
word_fault end start word text =
    if is_prefixed word then outside (start + 2) word
    else if list_any is_exponent_letter word then float_fault end start word text
    else unmarked_fault end start word (char_at period text)

-- a word that no plus may stand before
abbrev pub takes_no_plus : List ℕ → Bool
takes_no_plus [] = true
takes_no_plus (c ∷ cs) = c == minus || is_prefixed (c ∷ cs)

-- after a plus, with this word at the front of the text
abbrev pub plus_fault : ℕ → List ℕ → Text → Option ℕ
plus_fault end word text =
    if takes_no_plus word then Some (offset_in end text) else word_fault end (offset_in end text) word
    (after_run is_keylike text)

-- a word that begins a number: with a digit or a minus, or `inf` or `nan`
abbrev pub begins_number : List ℕ → Bool
begins_number [] = false
begins_number (c ∷ cs) = (is_ascii_digit c || c == minus) || is_special (c ∷ cs)

-- the offset of the fault of a number at the front of a text that ends at `end`, or none
abbrev pub number_fault : ℕ → Text → Option ℕ
number_fault end [] = None
number_fault end (x ∷ text) =
    if x.1 == plus then plus_fault end (run is_keylike text) text
    else if begins_number (run is_keylike (x ∷ text)) then word_fault end x.0 (run is_keylike (x ∷ text))
    (after_run is_keylike (x ∷ text))
    else None
