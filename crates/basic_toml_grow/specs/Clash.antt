-- The error that names the clash of a section.
use Rattle.std.specs.Prelude.{◌≡◌, ◌⊎◌, ⊤, Option, Some, map, string_bytes}
use Rattle.basic_toml_grammar.specs.Faults.{Fault, nested_too_deeply}
use Rattle.basic_toml_grammar.specs.GrammarFaults.{fault_at}
use Rattle.basic_toml_grammar.specs.Sections as sections
use Rattle.basic_toml_grammar.specs.Stops.{Stop, at_header, is_named, is_passed, at_row, stop_fault}
use Rattle.basic_toml_explain.specs.Error.{want_of_memory}
use Rattle.basic_toml_read.specs.SectionView.{section_of}
use Rattle.basic_toml_read.specs.declared.section.Section.{Section}
use Rattle.basic_toml_grow.specs.declared.clash.Clash.{Clash}
use Rattle.basic_toml_grow.specs.declared.clash.Repeated.{Repeated}
use Rattle.basic_toml_grow.specs.declared.clash.Clash.TheVariants.{Memory, Deep, Header, Named, Redefined, Row}

abbrev pub row_stop : Repeated → Stop
row_stop met = at_row (map string_bytes met.path.items) (record { offset = met.offset; text = string_bytes met.key })

-- memory apart, the fault is that of the clash
abbrev pub IsFaultOf : Section → Clash → Fault → Type 0
IsFaultOf s Memory fault = fault ≡ want_of_memory
IsFaultOf s Deep fault = fault ≡ fault_at nested_too_deeply s.at
IsFaultOf s (Header left) fault = fault ≡ stop_fault (section_of s) (at_header left)
IsFaultOf s Named fault = fault ≡ stop_fault (section_of s) is_named
IsFaultOf s Redefined fault = fault ≡ stop_fault (section_of s) is_passed
IsFaultOf s (Row met) fault = fault ≡ stop_fault (section_of s) (row_stop met.value)

abbrev pub NamesClash : Section → Clash → Fault → Type 0
NamesClash s clash fault = (fault ≡ want_of_memory) ⊎ IsFaultOf s clash fault

-- the clash that a stop is
abbrev pub IsStop : Clash → Stop → Type 0
IsStop Memory stop = ⊥
IsStop Deep stop = ⊥
IsStop (Header left) stop = stop ≡ at_header left
IsStop Named stop = stop ≡ is_named
IsStop Redefined stop = stop ≡ is_passed
IsStop (Row met) stop = stop ≡ row_stop met.value

-- what keeps a section out of a trie: a level above the limit, or what stands in its way
pub data Obstacle : Type 0 where
  too_deep : Obstacle
  in_the_way : Stop → Obstacle

abbrev pub obstacle_fault : sections.Section → Obstacle → Fault
obstacle_fault s too_deep = fault_at nested_too_deeply s.at
obstacle_fault s (in_the_way stop) = stop_fault s stop

-- memory apart, the clash is what is met first
abbrev pub NamesObstacle : Option Obstacle → Clash → Type 0
NamesObstacle o Memory = ⊤
NamesObstacle o Deep = o ≡ Some too_deep
NamesObstacle o clash = (stop : Stop) × (IsStop clash stop × (o ≡ Some (in_the_way stop)))
