use Rattle.std.proofs.Common.{◌≡◌, take, string_bytes}
use Rattle.basic_toml_read.specs.SectionView.{header_texts}
use Rattle.std.specs.List.{join_with_byte}
use Rattle.basic_toml_tokens.specs.Ascii.{period}
use Rattle.basic_toml_grow.proofs.clash.join_keys.Given as goal

-- the keys passed are joined
abbrev pub invariant-loop-at : goal.invariant-loop-at
invariant-loop-at l = string_bytes l.name ≡ join_with_byte period (header_texts (take l.at l.keys))
