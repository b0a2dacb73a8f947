-- A reader hands sections out one after another: where it is then, and what is left.
use Rattle.basic_toml_read.proofs.Common.{◌≡◌, ◌==◌, false, List, [], ◌∷◌, ◌++◌, length, refl, Err, length-append, ap}
use Rattle.basic_toml_read.proofs.Common.{arith, rules, folded, with_root, Section, Stop, IsGap, Behind, rows_seen}
use Rattle.basic_toml_read.proofs.Common.{no_lines, SoFar, IsEmpty, IsStop}
use Rattle.basic_toml_read.specs.declared.section.Key as code_keys
use Rattle.basic_toml_read.specs.declared.section.Row as code_rows
use Rattle.basic_toml_read.specs.declared.section.Section as code
use Rattle.basic_toml_read.specs.declared.reader.Place.TheVariants.{Start}
use Rattle.basic_toml_read.specs.Gathers.{lines_in}
use Rattle.basic_toml_read.specs.SectionsRead.{IsBehind, ReadsOn}
use Rattle.basic_toml_explain.specs.Stop.{no_memory}
use Rattle.basic_toml_read.specs.declared.reader.Place.{Place}
use Rattle.basic_toml_read.specs.declared.reader.SectionReader.{SectionReader}

-- nothing is in an empty section
pub none_in : (s : code.Section) → IsEmpty s → lines_in s.rows ≡ no_lines
none_in s empty = let no_parents = empty.rows.0 in let no_rows = empty.rows.1 in cc

-- reading stops
pub stops_on : {old new : SectionReader} {s : code.Section} (stop : Stop) → new.text ≡ old.text
    → ((list : List Section) → SoFar old list → IsStop old.text.now stop) → ReadsOn old new s (Err stop)
stops_on stop same is = search (rules, is)

-- rows that are taken as the section before the first header
pub rooted : (parents : List code_keys.Key) (rows : List code_rows.Row) → (length rows == 0) ≡ false
    → with_root (rows_seen parents rows) []
    ≡ record { at = 0; header = []; is_array = false; rows = rows_seen parents rows } ∷ []
rooted parents [] some = cc
rooted parents (r ∷ rows) some = refl

-- memory that is refused where a section was handed out
pub refused_after : (reader : SectionReader) (list : List Section) (s : Section) (stop : Stop)
    → SoFar reader (list ++ s ∷ []) → stop ≡ no_memory → IsStop reader.text.now stop
refused_after reader list s stop so_far is = rw is (let more = at_place reader.place so_far in search rules)
  where
    at_place : (p : Place) → IsBehind reader.text.now p (list ++ s ∷ []) → IsGap (folded reader.text.now) → ⊥
    at_place Start is g = omega (arith, simp length-append at (ap length is))
    at_place (Behind next) is g = omega (arith, simp length-append at (ap length (is.gaps g).1))
