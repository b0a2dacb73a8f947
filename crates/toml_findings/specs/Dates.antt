-- The forms of dates and times (TOML v0.5.0, "Offset Date-Time" to "Local Time"): four digits, two and two, with hyphens
-- between them; two digits and two with a colon between them. (own)
use Rattle.std.specs.Prelude.{ℕ, ◌-◌, Bool, true, false, ◌||◌, ◌&&◌, ◌==◌, if◌then◌else◌, List, [], ◌∷◌, take, drop}
use Rattle.std.specs.Prelude.{reverse, take_while, length, codes}
use Rattle.std.specs.Char.{is_ascii_digit}

-- a digit, `-` or `:`
abbrev pub is_date_byte : ℕ → Bool
is_date_byte b = (is_ascii_digit b || b == 45) || b == 58

-- a text begins in this form, in which `0` stands for any digit
unfoldable pub has_form : List ℕ → List ℕ → Bool
has_form [] text = true
has_form (wanted ∷ form) [] = false
has_form (wanted ∷ form) (b ∷ text) =
    (if wanted == 48 then is_ascii_digit b else b == wanted) && has_form form text

-- how many digits, hyphens and colons stand at the end of a text
abbrev pub run_length : List ℕ → ℕ
run_length text = length (take_while is_date_byte (reverse text))

-- where those begin that stand right before an offset
abbrev pub word_start : List ℕ → ℕ → ℕ
word_start text offset = length (take offset text) - run_length (take offset text)

-- the word that an offset stands in begins as a date or a time does
abbrev pub is_date_or_time : List ℕ → ℕ → Bool
is_date_or_time text offset =
    has_form (codes "0000-00-00") (drop (word_start text offset) text)
    || has_form (codes "00:00") (drop (word_start text offset) text)
