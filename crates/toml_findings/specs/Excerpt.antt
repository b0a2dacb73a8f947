-- A line of a text as it is shown, and what stands below it. (own)
use Rattle.std.specs.Prelude.{ℕ, ◌+◌, ◌-◌, Bool, true, false, not, ◌&&◌, ◌||◌, ◌==◌, nat_lt, nat_le, if◌then◌else◌, List, [], ◌++◌}
use Rattle.std.specs.Prelude.{take, drop, map, length, count_by, codes, unwrap_or, slice_get}
use Rattle.std.specs.Prelude.{encode_utf8_all}
use Rattle.std.specs.Char.{is_control}
use Rattle.std.specs.Str.{chars}
use Rattle.std.specs.Str.Lines.{lines}

-- the line of a number, from 0, without its line feed and a carriage return before that; none behind the last line feed
abbrev pub line_of : List ℕ → ℕ → List ℕ
line_of text number = unwrap_or (slice_get (lines text) number) []

-- the first byte of a character in UTF-8
abbrev pub begins_char : ℕ → Bool
begins_char b = nat_lt b 0x80 || nat_le 0xc0 b

-- how many characters begin before a column, which counts bytes
abbrev pub chars_before : List ℕ → ℕ → ℕ
chars_before line column = count_by begins_char (take column line)

-- a control character other than a tab is shown as U+FFFD
abbrev pub shown : ℕ → ℕ
shown c = if is_control c && not (c == 9) then 0xFFFD else c

-- below a tab stands a tab, and below another character a space
abbrev pub blank : ℕ → ℕ
blank c = if c == 9 then 9 else 32

-- So many characters of a line before the place are not shown: all but 60.
abbrev pub left_out : ℕ → ℕ
left_out before = before - 60

-- the characters of a line from one up to another
abbrev pub between : List ℕ → ℕ → ℕ → List ℕ
between line from to = take (to - from) (drop from (chars line))

-- three periods stand for characters that are left out
abbrev pub dots : Bool → List ℕ
dots true = codes "..."
dots false = []

-- the same width of spaces
abbrev pub spaces : Bool → List ℕ
spaces true = codes "   "
spaces false = []

-- The line, where so many characters stand before the place: up to 60 of those, and up to 40 from the place on.
abbrev pub source : List ℕ → ℕ → List ℕ
source line before =
    dots (nat_lt 0 (left_out before))
    ++ (encode_utf8_all (map shown (between line (left_out before) (before + 40)))
    ++ dots (nat_lt (before + 40) (length (chars line))))

-- What stands below it: a caret below the place.
abbrev pub caret : List ℕ → ℕ → List ℕ
caret line before =
    spaces (nat_lt 0 (left_out before))
    ++ (encode_utf8_all (map blank (between line (left_out before) before)) ++ codes "^")
