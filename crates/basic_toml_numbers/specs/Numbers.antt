-- The numbers that texts write, as TOML v0.5.0 has them under "Integer" and "Float", on the bytes of a text.
-- An integer is decimal with an optional sign and no leading zero, or `0x`, `0o` or `0b` with digits and no sign;
-- its value lies in i64. A float is a decimal whole part, then a fraction, an exponent, or both; or `inf` or `nan`.
-- One underscore may stand between two digits. A float is its text (own): without plus signs and underscores,
-- with `E` for `e`.
use Rattle.std.specs.Prelude.{ℕ, zero, suc, ◌^◌, Bool, true, false, not, ◌&&◌, ◌||◌, ◌==◌, nat_lt, if◌then◌else◌, ℤ}
use Rattle.std.specs.Prelude.{pos, negsuc, List, [], ◌∷◌, take, map, filter, min, codes, Option, Some, None}
use Rattle.std.specs.Char.{is_digit}
use Rattle.std.specs.List.{prefix_len}
use Rattle.std.specs.Option.{option_map}
use Rattle.std.specs.Str.{bytes_eq}
use Rattle.std.specs.Str.Parse.{digits_value}

-- the characters of the patterns
abbrev pub plus : ℕ
plus = 43

abbrev pub minus : ℕ
minus = 45

abbrev pub period : ℕ
period = 46

abbrev pub underscore : ℕ
underscore = 95

abbrev pub is_sign : ℕ → Bool
is_sign c = c == plus || c == minus

-- `e` or `E`
abbrev pub is_exponent_letter : ℕ → Bool
is_exponent_letter c = c == 101 || c == 69

-- [p](_?[p])* of the digits p of a radix; where no digit has to follow, (_?[p])*
abbrev pub goes_on : ℕ → Bool → List ℕ → Bool
goes_on radix must_follow [] = not must_follow
goes_on radix must_follow (c ∷ cs) =
    if is_digit c radix then goes_on radix false cs else (c == underscore && not must_follow) && goes_on radix true cs

abbrev pub is_digits : ℕ → List ℕ → Bool
is_digits radix cs = goes_on radix true cs

-- 0|[1-9](_?[0-9])*
abbrev pub is_whole : List ℕ → Bool
is_whole [] = false
is_whole (c ∷ cs) = if c == 48 then bytes_eq cs [] else is_digits 10 (c ∷ cs)

-- the number that digits write, underscores left out
abbrev pub value_in : ℕ → List ℕ → ℕ
value_in radix cs = digits_value radix (filter (λ c. not (c == underscore)) cs)

-- a number with its sign, where it lies in i64
abbrev pub signed : Bool → ℕ → Option ℤ
signed false n = if nat_lt n (2 ^ 63) then Some (pos n) else None
signed true zero = Some (pos 0)
signed true (suc n) = if nat_lt n (2 ^ 63) then Some (negsuc n) else None

abbrev pub decimal : Bool → List ℕ → Option ℤ
decimal negative cs = if is_whole cs then signed negative (value_in 10 cs) else None

abbrev pub in_radix : ℕ → List ℕ → Option ℤ
in_radix radix cs = if is_digits radix cs then signed false (value_in radix cs) else None

-- after a leading `0`: the end, or `x`, `o` or `b` and digits
abbrev pub after_zero : List ℕ → Option ℤ
after_zero [] = Some (pos 0)
after_zero (c ∷ cs) =
    if c == 120 then in_radix 16 cs else if c == 111 then in_radix 8 cs else if c == 98 then in_radix 2 cs else None

abbrev pub integer_of : List ℕ → Option ℤ
integer_of [] = None
integer_of (c ∷ cs) =
    if c == plus then decimal false cs else if c == minus then decimal true cs
    else if c == 48 then after_zero cs else decimal false (c ∷ cs)

-- a decimal digit
abbrev pub is_decimal : ℕ → Bool
is_decimal c = is_digit c 10

-- the first decimal digits of a text, 18 at most, which are within i64: how many they are, and the integer that they
-- write
abbrev pub first_count : List ℕ → ℕ
first_count cs = min 18 (prefix_len is_decimal cs)

abbrev pub first_digits : List ℕ → Option (ℤ × ℕ)
first_digits cs = option_map (λ number. (number, first_count cs)) (integer_of (take (first_count cs) cs))

abbrev pub without_sign : List ℕ → List ℕ
without_sign [] = []
without_sign (c ∷ cs) = if is_sign c then cs else c ∷ cs

-- a digit or an underscore
abbrev pub is_part : ℕ → Bool
is_part c = is_digit c 10 || c == underscore

-- the digits and underscores that a text begins with, and what stands after them
abbrev pub part_of : List ℕ → List ℕ
part_of [] = []
part_of (c ∷ cs) = if is_part c then c ∷ part_of cs else []

abbrev pub after_part : List ℕ → List ℕ
after_part [] = []
after_part (c ∷ cs) = if is_part c then after_part cs else c ∷ cs

-- [eE][+-]?[0-9](_?[0-9])*
abbrev pub is_exponent : List ℕ → Bool
is_exponent [] = false
is_exponent (c ∷ cs) = is_exponent_letter c && is_digits 10 (without_sign cs)

-- \.[0-9](_?[0-9])*, then an exponent or nothing; or an exponent
abbrev pub is_tail : List ℕ → Bool
is_tail [] = false
is_tail (c ∷ cs) =
    if c == period then is_digits 10 (part_of cs) && (bytes_eq (after_part cs) [] || is_exponent (after_part cs))
    else is_exponent (c ∷ cs)

-- inf|nan
abbrev pub is_special : List ℕ → Bool
is_special cs = bytes_eq cs (codes "inf") || bytes_eq cs (codes "nan")

abbrev pub is_unsigned_float : List ℕ → Bool
is_unsigned_float cs = is_special cs || (is_whole (part_of cs) && is_tail (after_part cs))

-- neither left out of a canonical text nor changed in it
abbrev pub stays : ℕ → Bool
stays c = not (c == plus || (c == underscore || c == 101))

-- without plus signs and underscores, `e` written `E`
abbrev pub canonical : List ℕ → List ℕ
canonical cs = map (λ c. if c == 101 then 69 else c) (filter (λ c. not (c == plus || c == underscore)) cs)

abbrev pub float_of : List ℕ → Option (List ℕ)
float_of cs = if is_unsigned_float (without_sign cs) then Some (canonical cs) else None

-- a canonical float is its own reading
abbrev pub is_canonical : List ℕ → Bool
is_canonical cs = is_unsigned_float (without_sign cs) && bytes_eq (canonical cs) cs
