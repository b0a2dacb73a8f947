-- Sections with the latest first: where one stands, and what all of them add.
use Rattle.std.proofs.Common.{◌≡◌, ℕ, zero, suc, ◌+◌, ◌≤◌, ◌<◌, Bool, true, false, List, [], ◌∷◌, Some, None, refl}
use Rattle.std.proofs.Common.{ap, sym, ◌∙◌, arith, length, get_or, map, take, add-one}
use Rattle.std.specs.Prelude.{◌&&◌, if◌then◌else◌, slice_get}
use Rattle.std.proofs.lemmas.List.{length-map}
use Rattle.std.proofs.lemmas.Option.{slice_get_past}
use Rattle.basic_toml_grammar.specs.Sections.{KeyTexts, texts, Section}
use Rattle.basic_toml_grammar.specs.Steps.{Path, path_eq}
use Rattle.basic_toml_grammar.specs.IndexedPath.{located, located_after, located_from}
use Rattle.basic_toml_grammar.specs.Placed.{Placed, adds_element, element_from, elements_at, placed}
use Rattle.basic_toml_grammar.specs.Placed.{placed_after, placed_from, target_from}
use Rattle.basic_toml_grammar.proofs.Clash.PathsAgree.{count_in, offsets}
use Rattle.basic_toml_read.specs.declared.section.Section as code
use Rattle.basic_toml_read.specs.SectionView.{section_of}

abbrev pub onto : List Section → List Section → List Section
onto earlier [] = earlier
onto earlier (s ∷ sections) = onto (s ∷ earlier) sections

abbrev pub latest_first : List Section → List Section
latest_first sections = onto [] sections

onto_more : (earlier : List Section) (sections : List code.Section) (i : ℕ) (s : code.Section) → i < length sections
    → s ≡ get_or sections i s
    → onto earlier (map section_of (take (suc i) sections))
    ≡ section_of s ∷ onto earlier (map section_of (take i sections))
onto_more earlier [] i s within is = absurd (omega (arith, within))
onto_more earlier (x ∷ sections) zero s within is = ap (λ (x : code.Section). section_of x ∷ earlier) (sym is)
onto_more earlier (x ∷ sections) (suc i) s within is =
    onto_more (section_of x ∷ earlier) sections i s (omega (arith, within)) is

pub one_more_first : (sections : List code.Section) (i : ℕ) (s : code.Section) → i < length sections
    → s ≡ get_or sections i s
    → latest_first (map section_of (take (i + 1) sections))
    ≡ section_of s ∷ latest_first (map section_of (take i sections))
one_more_first sections i s within is = rw add-one (onto_more [] sections i s within is)

-- what the sections add to the array at a path
sums : (b : Bool) (e c : ℕ) → e + (if b then suc c else c) ≡ (if b then suc e else e) + c
sums true e c = omega arith
sums false e c = refl

onto_counted : (earlier sections : List Section) (p : Path)
    → count_in (onto earlier sections) p ≡ elements_at p (placed_from (offsets earlier) sections) + count_in earlier p
onto_counted earlier [] p = omega arith
onto_counted earlier (s ∷ sections) p =
    onto_counted (s ∷ earlier) sections p
    ∙ sums (adds_element here.element && path_eq here.target p)
    (elements_at p (placed_from (offsets (s ∷ earlier)) sections)) (count_in earlier p)
  where
    here : Placed
    here = placed_after (offsets earlier) s

pub all_counted : (sections : List Section) (p : Path)
    → count_in (latest_first sections) p ≡ elements_at p (placed sections)
all_counted sections p = omega (arith, onto_counted [] sections p)

-- none stands at the root
pub none_at_root : (earlier : List Section) → count_in earlier [] ≡ 0
none_at_root [] = refl
none_at_root (s ∷ earlier) =
    ap (λ b. if b then suc (count_in earlier []) else count_in earlier []) (apart (texts s.header)) ∙ none_at_root earlier
  where
    never : (b : Bool) → (b && false) ≡ false
    never true = refl
    never false = refl

    apart : (keys : KeyTexts)
        → (adds_element (element_from (count_in earlier) s.is_array [] keys)
        && path_eq (target_from (count_in earlier) s.is_array [] keys) []) ≡ false
    apart [] = refl
    apart (k ∷ []) = never (adds_element (element_from (count_in earlier) s.is_array [] (k ∷ [])))
    apart (k ∷ l ∷ keys) = never (adds_element (element_from (count_in earlier) s.is_array [] (k ∷ l ∷ keys)))

-- where the section of a number stands
located_onto : (earlier : List Section) (sections : List code.Section) (i : ℕ) (s : code.Section) → i < length sections
    → s ≡ get_or sections i s
    → slice_get (located_from earlier (map section_of sections)) i
    ≡ Some (located_after (onto earlier (map section_of (take i sections))) (section_of s))
located_onto earlier [] i s within is = absurd (omega (arith, within))
located_onto earlier (x ∷ sections) zero s within is =
    ap (λ (x : code.Section). Some (located_after earlier (section_of x))) (sym is)
located_onto earlier (x ∷ sections) (suc i) s within is =
    located_onto (section_of x ∷ earlier) sections i s (omega (arith, within)) is

pub located_there : (sections : List code.Section) (i : ℕ) (s : code.Section) → i < length sections
    → s ≡ get_or sections i s
    → slice_get (located (map section_of sections)) i
    ≡ Some (located_after (latest_first (map section_of (take i sections))) (section_of s))
located_there sections i s within is = located_onto [] sections i s within is

located_length : (earlier sections : List Section) → length (located_from earlier sections) ≡ length sections
located_length earlier [] = refl
located_length earlier (s ∷ sections) = ap suc (located_length (s ∷ earlier) sections)

pub located_past : (sections : List code.Section) (i : ℕ) → length sections ≤ i
    → slice_get (located (map section_of sections)) i ≡ None
located_past sections i past =
    slice_get_past (located (map section_of sections)) i
    (omega (arith, past, located_length [] (map section_of sections), length-map sections section_of))
