-- The fault of a list that has no tree names a clash of it, or a section that is too deep.
use Rattle.std.proofs.Common.{◌≡◌, ◌⊎◌, inl, inr, ℕ, true, List, [], ◌∷◌, ◌++◌, refl, ap, sym, ◌∙◌, arith, ◌<◌, Some}
use Rattle.std.proofs.Common.{None, nat_lt, reverse}
use Rattle.std.specs.List.{flat_map, Contains}
use Rattle.std.specs.Option.{option_or}
use Rattle.std.proofs.lemmas.Bool.{and_parts}
use Rattle.basic_toml_grammar.specs.Sections.{Section, texts}
use Rattle.basic_toml_grammar.specs.Entering.{is_keyed, all_keyed}
use Rattle.basic_toml_grammar.specs.Growth.{closed}
use Rattle.basic_toml_grammar.specs.Faults.{Fault, nested_too_deeply, out_of_memory}
use Rattle.basic_toml_grammar.specs.GrammarFaults.{fault_at}
use Rattle.basic_toml_grammar.specs.IndexedPath.{located, located_after, located_from}
use Rattle.basic_toml_grammar.specs.NestingFaults.{deep_sections, tree_level}
use Rattle.basic_toml_grammar.specs.NamedClash.{NamesClash, dotted_fault, dotted_faults, repeated_faults_of}
use Rattle.basic_toml_grammar.specs.NamedClash.{section_faults, first_of_two}
use Rattle.basic_toml_value.specs.Nesting.{nesting_limit}
use Rattle.basic_toml_grammar.specs.Trie.{Trie, nothing, bare, put_sections, section_level_in}
use Rattle.basic_toml_grammar.proofs.Naming.TrieStopsAreNamed.{trie_stops_named}
use Rattle.basic_toml_grow.specs.Clash.{too_deep, in_the_way}
use Rattle.basic_toml_tree.specs.FirstStop.{Stands, Entered, StopsSection, SectionsFault, value, section}
use Rattle.basic_toml_grow.specs.Crossed.{first_crossed}
use Rattle.basic_toml_grow.proofs.CrossedIsFault.{tells_sections}
use Rattle.basic_toml_grow.proofs.HeadersInATrie.{Course, course, course_fresh}
use Rattle.basic_toml_grow.proofs.ObstaclesAreStops.{met_deep, met_stops}
use Rattle.std.proofs.lemmas.List.Elements.{Contains-append_right}
use Rattle.basic_toml_grammar.proofs.Tries.StepsArePaths.{level_is_tree_level, at_section, deep_append}

-- the first sections of a list with keys, and the others
pub keyed_parts : (earlier later : List Section) → all_keyed (earlier ++ later) ≡ true
    → (all_keyed earlier ≡ true) × (all_keyed later ≡ true)
keyed_parts [] later keyed = (refl, keyed)
keyed_parts (r ∷ earlier) later keyed =
    (grind (arith, keyed_parts earlier later), grind (arith, keyed_parts earlier later))

-- no such fault is want of memory
pub stops_without_memory : (t : Trie) (s : Section) (fault : Fault) → StopsSection t s fault
    → fault.kind ≡ out_of_memory → ⊥
stops_without_memory t s fault (met, (first, same)) is = grind (arith, ap (λ (f : Fault). f.kind) same)

-- the first faults come first
first_contained : (a b : List Fault) (f : Fault) → Contains a f → Contains (first_of_two a b) f
first_contained [] b f c = absurd (omega (arith, c.1))
first_contained (g ∷ a) b f c = c

-- the first value of sections that a row goes on from, or else that of the sections after them
pub crossed_joined : (front later : List Section)
    → first_crossed (front ++ later) ≡ option_or (first_crossed front) (first_crossed later)
crossed_joined [] later = refl
crossed_joined (s ∷ front) later = grind (arith, crossed_joined front later)

-- where one is crossed, its fault is named
pub crossed_named : (sections : List Section) (at : ℕ) → first_crossed sections ≡ Some at
    → NamesClash sections (dotted_fault at)
crossed_named sections at there =
    first_contained (flat_map (λ s. dotted_faults s.rows) sections)
    (flat_map repeated_faults_of sections ++ section_faults (located sections)) (dotted_fault at)
    (rw there at (tells_sections sections))

-- what a list grows from nothing: it closes to the same as the trie, and takes one more section as the trie does
pub as_put : {sections : List Section} {t : Trie} → Stands sections t
    → (u : Trie) × (put_sections sections nothing ≡ Some u) × (closed (bare t) ≡ closed (bare u))
    × ((s : Section) → course s.is_array s.rows (texts s.header) 1 t ≡ course s.is_array s.rows (texts s.header) 1 u)
as_put {t = t} (inl e) = (t, e, refl, λ s. refl)
as_put (inr e) =
    (nothing, rw e.0 refl, rw e.1 refl, λ s. rw e.1 (course_fresh s.is_array s.rows (texts s.header) 1))

-- a section is on the level in the trie of those before it that its path has
pub level_there : (earlier : List Section) (s : Section) (t : Trie) → Stands earlier t
    → section_level_in t s ≡ tree_level (located_after (reverse earlier) s)
level_there earlier s t stands =
    let put = as_put stands in
    rw (ap (λ (c : Course). c.steps) (put.3 s)) (level_is_tree_level earlier s put.0 put.1)

-- a section above the limit is one of those that are too deep by their paths
deep_by_path : (earlier : List Section) (s : Section) (t : Trie) (later : List Section) → Entered earlier t
    → nesting_limit < section_level_in t s
    → Contains (deep_sections nesting_limit (located (earlier ++ s ∷ later))) s.at
deep_by_path earlier s t later entered deep =
    let ls = located_after (reverse earlier) s ∷ located_from (s ∷ reverse earlier) later in
    let test : nat_lt nesting_limit (tree_level (located_after (reverse earlier) s)) ≡ true =
    grind (arith, level_there earlier s t entered.stands, deep) in
    let here : Contains (deep_sections nesting_limit ls) s.at = rw test (0, omega arith, refl) in
    rw (at_section earlier s later, deep_append)
    (Contains-append_right (deep_sections nesting_limit (located earlier)) (deep_sections nesting_limit ls) s.at here)

-- The fault names a clash of the list, or a section of it that is too deep.
abbrev pub IsNamed : List Section → Fault → Type 0
IsNamed sections fault =
    NamesClash sections fault
    ⊎ ((offset : ℕ) × (fault ≡ fault_at nested_too_deeply offset)
    × Contains (deep_sections nesting_limit (located sections)) offset)

-- so does that of a section that is stopped, and that of a list of which rows and array headers have keys
pub stop_is_named : (before : List Section) (s : Section) (later : List Section) (t : Trie) (fault : Fault)
    → all_keyed (before ++ s ∷ later) ≡ true → first_crossed (before ++ s ∷ later) ≡ None → Entered before t
    → StopsSection t s fault → IsNamed (before ++ s ∷ later) fault
stop_is_named before s later t fault keyed none entered (too_deep, (met, is)) =
    inr (s.at, is, deep_by_path before s t later entered (met_deep s t met))
stop_is_named before s later t fault keyed none entered (in_the_way stop, (met, is)) =
    let free = rw none at (tells_sections (before ++ s ∷ later)) in
    let parts = keyed_parts before (s ∷ later) keyed in
    let here = (and_parts (is_keyed s) (all_keyed later) parts.1).0 in
    let put = as_put entered.stands in
    let same = sym (ap (λ (c : Course). c.met) (put.3 s)) ∙ met in
    inl (rw is (trie_stops_named before s later put.0 stop parts.0 here free put.1
    (met_stops s.is_array s.rows (texts s.header) 1 put.0 stop same)))

pub fault_is_named : (sections : List Section) (fault : Fault) → all_keyed sections ≡ true
    → SectionsFault sections fault → IsNamed sections fault
fault_is_named sections _ keyed (value {at = at} there) = inl (crossed_named sections at there)
fault_is_named sections fault keyed (section none first) =
    rw first.parts
    (stop_is_named first.before first.here first.later first.so_far fault (rw first.parts at keyed)
    (rw first.parts at none) first.entered first.stopped)
