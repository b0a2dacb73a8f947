use Rattle.std.proofs.Common.{◌≡◌, take}
use Rattle.basic_toml_serde.specs.Spellings.{pairs_of, kept_in}
use Rattle.basic_toml_serde.proofs.names.Names.of.Given as goal

-- those of the names so far are kept
abbrev pub invariant-loop-name : goal.invariant-loop-name
invariant-loop-name l = kept_in l.kept ≡ pairs_of (take l.name-index l.names)
