-- How keys and scalars are written (TOML v0.5.0, "Keys", "String", "Integer", "Float", "Boolean").
-- A key is bare where it is not empty and all of `A-Z a-z 0-9 - _`; else it is a string.
-- A string stands between `"`: `\b \t \n \f \r \" \\`; other characters up to U+001F, and U+007F, as `\u` and four
-- upper-case hexadecimal digits; the rest as they are. Integers are decimal, floats as held, arrays `[v, v]`.
use Rattle.std.specs.Prelude.{ℕ, ◌+◌, ◌/◌, ◌%◌, Bool, true, false, cond, ◌&&◌, ◌||◌, nat_le, ◌==◌, List, [], ◌∷◌}
use Rattle.std.specs.Prelude.{◌++◌, codes, decimal}
use Rattle.std.specs.List.{list_all}
use Rattle.std.specs.Fmt.{signed_decimal}
use Rattle.basic_toml_tokens.specs.Ascii as ascii
use Rattle.basic_toml_layout.specs.Written.{Scalar, integer, boolean, float, text, other_text, bytes, refused}

-- 0 to 9, then A to F
abbrev pub upper_digit : ℕ → ℕ
upper_digit n = cond (nat_le n 9) (48 + n) (55 + n)

abbrev pub is_control : ℕ → Bool
is_control b = nat_le b 31 || b == ascii.delete

-- a byte that does not stand for itself between quotes
abbrev pub needs_escape : ℕ → Bool
needs_escape b = is_control b || (b == ascii.double_quote || b == ascii.backslash)

-- a backslash and a letter
abbrev pub escape : ℕ → List ℕ
escape c = ascii.backslash ∷ c ∷ []

-- a byte between quotes; each byte of a longer character stands for itself
abbrev pub quoted_byte : ℕ → List ℕ
quoted_byte b =
    cond (b == ascii.backspace) (escape ascii.lower_b)
    (cond (b == ascii.tab) (escape ascii.lower_t)
    (cond (b == ascii.line_feed) (escape ascii.lower_n)
    (cond (b == ascii.form_feed) (escape ascii.lower_f)
    (cond (b == ascii.carriage_return) (escape ascii.lower_r)
    (cond (b == ascii.double_quote) (escape ascii.double_quote)
    (cond (b == ascii.backslash) (escape ascii.backslash)
    (cond (is_control b) (ascii.backslash ∷ ascii.lower_u ∷ ascii.digit_zero ∷ ascii.digit_zero ∷ upper_digit (b / 16)
    ∷ upper_digit (b % 16) ∷ [])
    (b ∷ []))))))))

abbrev pub quoted_bytes : List ℕ → List ℕ
quoted_bytes [] = []
quoted_bytes (b ∷ bs) = quoted_byte b ++ quoted_bytes bs

abbrev pub quoted : List ℕ → List ℕ
quoted bs = ascii.double_quote ∷ (quoted_bytes bs ++ (ascii.double_quote ∷ []))

abbrev pub is_bare : ℕ → Bool
is_bare b = (nat_le 65 b && nat_le b 90) ||
    ((nat_le 97 b && nat_le b 122) || ((nat_le 48 b && nat_le b 57) || (b == ascii.hyphen || b == ascii.underscore)))

abbrev pub is_bare_key : List ℕ → Bool
is_bare_key [] = false
is_bare_key (b ∷ bs) = list_all is_bare (b ∷ bs)

abbrev pub written_key : List ℕ → List ℕ
written_key k = cond (is_bare_key k) k (quoted k)

-- the keys of a path joined by periods; the path has its last key first
abbrev pub joined : List (List ℕ) → List ℕ
joined [] = []
joined (k ∷ []) = written_key k
joined (k ∷ l ∷ ks) = joined (l ∷ ks) ++ (ascii.period ∷ written_key k)

-- between the elements of an array
abbrev pub comma : List ℕ
comma = codes ", "

abbrev pub more_numbers : List ℕ → List ℕ
more_numbers [] = []
more_numbers (n ∷ ns) = comma ++ (decimal n ++ more_numbers ns)

abbrev pub written_numbers : List ℕ → List ℕ
written_numbers [] = []
written_numbers (n ∷ ns) = decimal n ++ more_numbers ns

abbrev pub written_scalar : Scalar → List ℕ
written_scalar (integer z) = signed_decimal z
written_scalar (boolean true) = codes "true"
written_scalar (boolean false) = codes "false"
written_scalar (float t) = t
written_scalar (text t) = quoted t
written_scalar (other_text t) = quoted t
written_scalar (bytes ns) = ascii.left_bracket ∷ (written_numbers ns ++ (ascii.right_bracket ∷ []))
written_scalar refused = []
