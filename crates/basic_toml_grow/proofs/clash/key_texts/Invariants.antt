use Rattle.std.proofs.Common.{◌≡◌, map, take, string_bytes}
use Rattle.basic_toml_read.specs.SectionView.{header_texts}
use Rattle.basic_toml_grow.proofs.clash.key_texts.Given as goal

-- the keys passed are copied, in order
abbrev pub invariant-loop-key : goal.invariant-loop-key
invariant-loop-key l = map string_bytes l.texts.items ≡ header_texts (take l.key-index l.keys)
