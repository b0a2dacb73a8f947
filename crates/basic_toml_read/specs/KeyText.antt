-- What the text of a key stands for.
use Rattle.std.specs.Prelude.{ℕ, List}
use Rattle.std.specs.Cow.{cow_str_bytes}
use Rattle.std.specs.declared.alloc.Global.{Global}
use Rattle.std.specs.declared.borrow.CowStr.{CowStr}
use Rattle.std.specs.declared.borrow.CowStr.TheVariants as cow
use Rattle.basic_toml_read.specs.declared.key_text.KeyText.{KeyText}
use Rattle.basic_toml_read.specs.declared.key_text.KeyText.TheVariants.{Borrowed, Owned}

-- the text without the box
abbrev pub cow_of : KeyText → CowStr Global
cow_of (Borrowed text) = cow.Borrowed text
cow_of (Owned text) = cow.Owned text.value

-- `key.as_str().as_bytes()`
abbrev pub key_text_bytes : KeyText → List ℕ
key_text_bytes key = cow_str_bytes (cow_of key)
