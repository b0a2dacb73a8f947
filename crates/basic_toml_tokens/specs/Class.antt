-- The classes of characters that runs are of.
use Rattle.std.specs.Prelude.{ℕ, ◌+◌, Bool, List, drop}
use Rattle.std.specs.List.{prefix_len}
use Rattle.basic_toml_tokens.specs.Ascii as ascii
use Rattle.basic_toml_tokens.specs.declared.class.Class.{Class}
use Rattle.basic_toml_tokens.specs.declared.class.Class.TheVariants.{Blank, Keylike, Comment, Literal, Basic}
use Rattle.basic_toml_tokens.specs.Text.{is_blank, is_keylike, is_comment}
use Rattle.basic_toml_tokens.specs.Strings.{is_plain}

abbrev pub passes : Class → ℕ → Bool
passes Blank = is_blank
passes Keylike = is_keylike
passes Comment = is_comment
passes Literal = is_plain ascii.single_quote
passes Basic = is_plain ascii.double_quote

-- where the bytes of a class end that stand from an offset on
abbrev pub run_end : Class → List ℕ → ℕ → ℕ
run_end class bytes at = at + prefix_len (passes class) (drop at bytes)
