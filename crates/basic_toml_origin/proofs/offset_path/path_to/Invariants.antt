use Rattle.std.proofs.Common.{◌≡◌, [], map}
use Rattle.basic_toml_grammar.specs.IndexedPath.{located}
use Rattle.basic_toml_places.specs.Places.{first_path}
use Rattle.basic_toml_read.specs.SectionView.{section_of}
use Rattle.basic_toml_origin.specs.Query.{path_by_section}
use Rattle.basic_toml_origin.proofs.SectionsSearched.{searched}
use Rattle.basic_toml_origin.proofs.offset_path.path_to.Given as goal

-- what is looked for is by the sections that are left
abbrev pub invariant-loop-number : goal.invariant-loop-number
invariant-loop-number l =
    (l.within.items ≡ [])
    × (searched l.query l.sections l.number
    ≡ first_path (path_by_section l.query) (located (map section_of l.sections)))
