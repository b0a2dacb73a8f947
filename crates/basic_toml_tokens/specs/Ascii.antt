-- The characters that the rules name.
use Rattle.std.specs.Prelude.{ℕ}

-- U+0008
abbrev pub backspace : ℕ
backspace = 8

-- b'\t'
abbrev pub tab : ℕ
tab = 9

-- b'\n'
abbrev pub line_feed : ℕ
line_feed = 10

-- U+000C
abbrev pub form_feed : ℕ
form_feed = 12

-- b'\r'
abbrev pub carriage_return : ℕ
carriage_return = 13

-- b' '
abbrev pub space : ℕ
space = 32

-- b'"'
abbrev pub double_quote : ℕ
double_quote = 34

-- b'#'
abbrev pub hash : ℕ
hash = 35

-- b'\''
abbrev pub single_quote : ℕ
single_quote = 39

-- b'+'
abbrev pub plus : ℕ
plus = 43

-- b','
abbrev pub comma : ℕ
comma = 44

-- b'-'
abbrev pub hyphen : ℕ
hyphen = 45

-- b'.'
abbrev pub period : ℕ
period = 46

-- b'0'
abbrev pub digit_zero : ℕ
digit_zero = 48

-- b':'
abbrev pub colon : ℕ
colon = 58

-- b'='
abbrev pub equals : ℕ
equals = 61

-- b'U'
abbrev pub upper_u : ℕ
upper_u = 85

-- b'['
abbrev pub left_bracket : ℕ
left_bracket = 91

-- b'\\'
abbrev pub backslash : ℕ
backslash = 92

-- b']'
abbrev pub right_bracket : ℕ
right_bracket = 93

-- b'_'
abbrev pub underscore : ℕ
underscore = 95

-- b'b'
abbrev pub lower_b : ℕ
lower_b = 98

-- b'f'
abbrev pub lower_f : ℕ
lower_f = 102

-- b'n'
abbrev pub lower_n : ℕ
lower_n = 110

-- b'o'
abbrev pub lower_o : ℕ
lower_o = 111

-- b'r'
abbrev pub lower_r : ℕ
lower_r = 114

-- b't'
abbrev pub lower_t : ℕ
lower_t = 116

-- b'u'
abbrev pub lower_u : ℕ
lower_u = 117

-- b'x'
abbrev pub lower_x : ℕ
lower_x = 120

-- b'{'
abbrev pub left_brace : ℕ
left_brace = 123

-- b'}'
abbrev pub right_brace : ℕ
right_brace = 125

-- U+007F
abbrev pub delete : ℕ
delete = 127
