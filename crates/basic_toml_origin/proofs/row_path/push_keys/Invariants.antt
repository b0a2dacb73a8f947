use Rattle.std.proofs.Common.{◌≡◌, ◌++◌, length, map, take}
use Rattle.basic_toml_grammar.specs.Sections.{texts}
use Rattle.basic_toml_grammar.specs.Steps.{steps_of}
use Rattle.basic_toml_read.specs.SectionView.{key_of}
use Rattle.basic_toml_origin.specs.Path.{path_of}
use Rattle.basic_toml_origin.proofs.row_path.push_keys.Given as goal

-- the steps of the keys so far stand behind the path
abbrev pub invariant-loop-key : goal.invariant-loop-key
invariant-loop-key l =
    (path_of l.path.items
    ≡ path_of l.initial.path.items ++ steps_of (texts (map key_of (take l.key-index l.parents))))
    × (take (length l.initial.path.items) l.path.items ≡ l.initial.path.items)
