-- What a fault calls a token (own).
use Rattle.std.specs.Prelude.{ℕ, true, false, List, codes}
use Rattle.basic_toml_tokens.specs.TokenAt.{Lexeme, whitespace, newline, comment, equals, period, comma, colon, plus}
use Rattle.basic_toml_tokens.specs.TokenAt.{left_brace, right_brace, left_bracket, right_bracket, keylike, string}

abbrev pub description_of : Lexeme → List ℕ
description_of (whitespace text) = codes "whitespace"
description_of newline = codes "a newline"
description_of (comment text) = codes "a comment"
description_of equals = codes "an equals"
description_of period = codes "a period"
description_of comma = codes "a comma"
description_of colon = codes "a colon"
description_of plus = codes "a plus"
description_of left_brace = codes "a left brace"
description_of right_brace = codes "a right brace"
description_of left_bracket = codes "a left bracket"
description_of right_bracket = codes "a right bracket"
description_of (keylike text) = codes "an identifier"
description_of (string source value false) = codes "a string"
description_of (string source value true) = codes "a multiline string"
