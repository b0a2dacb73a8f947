-- What the sections that are left lead to.
use Rattle.std.proofs.Common.{◌≡◌, ℕ, ◌+◌, ◌<◌, List, [], ◌∷◌, ◌++◌, Option, Some, None, refl, ap, sym, ◌∙◌}
use Rattle.std.proofs.Common.{Bool, true, false, drop, get_or, length, map, take}
use Rattle.std.specs.Prelude.{option_map, slice_get}
use Rattle.std.specs.Option.{option_or}
use Rattle.std.proofs.lemmas.List.{drop_more}
use Rattle.basic_toml_grammar.specs.Sections.{Rows, Section}
use Rattle.basic_toml_grammar.specs.Steps.{Path}
use Rattle.basic_toml_grammar.specs.IndexedPath.{Located, located, located_after, located_from}
use Rattle.basic_toml_places.specs.Places.{first_path, path_by, path_in}
use Rattle.basic_toml_origin.specs.KeyPath.{up_to_key}
use Rattle.basic_toml_read.specs.declared.section.Key as code_keys
use Rattle.basic_toml_read.specs.declared.section.Row.{Row}
use Rattle.basic_toml_read.specs.declared.section.Rows.{out-Rows}
use Rattle.basic_toml_read.specs.declared.section.Section as code
use Rattle.basic_toml_read.specs.SectionView.{key_of, rows_seen, section_of}
use Rattle.basic_toml_origin.specs.declared.query.Query.{Query}
use Rattle.basic_toml_origin.specs.declared.query.Query.TheVariants.{Key, Value}
use Rattle.basic_toml_origin.specs.declared.step.Step.{Step}
use Rattle.basic_toml_origin.specs.Path.{path_of}
use Rattle.basic_toml_origin.specs.Query.{PushesIfFound, keys_in_header, path_by_section, test_of}
use Rattle.basic_toml_origin.proofs.LatestFirst.{latest_first, located_there, one_more_first}

-- what is made of the path of a section
pub of_path : (f : Path → Path) (found : Option Path) (at : Option Located) → found ≡ option_map (λ l. l.path) at
    → option_map f found ≡ option_map (λ l. f l.path) at
of_path f found at e = ap (option_map f) e ∙ both at
  where
    both : (at : Option Located) → option_map f (option_map (λ l. l.path) at) ≡ option_map (λ l. f l.path) at
    both None = refl
    both (Some l) = refl

-- the section of a number, and those that are left from it on
abbrev here : List code.Section → ℕ → code.Section → Located
here sections i s = located_after (latest_first (map section_of (take i sections))) (section_of s)

abbrev pub left_from : List code.Section → ℕ → List Located
left_from sections i =
    located_from (latest_first (map section_of (take i sections))) (map section_of (drop i sections))

next_left : (sections : List code.Section) (i : ℕ) (s : code.Section) → i < length sections → s ≡ get_or sections i s
    → left_from sections i ≡ here sections i s ∷ left_from sections (i + 1)
next_left sections i s within is =
    ap (λ (ss : List code.Section). located_from (latest_first (map section_of (take i sections))) (map section_of ss))
    (drop_more sections i s within ∙ ap (λ (x : code.Section). x ∷ drop (i + 1) sections) (sym is))
    ∙ ap (λ (ss : List Section). here sections i s ∷ located_from ss (map section_of (drop (i + 1) sections)))
    (sym (one_more_first sections i s within is))

-- the header and the rows that the code goes by are the section's
pub header_there : (query : Query) (s : code.Section) (keys : List code_keys.Key) (n : Option ℕ)
    → keys ≡ s.header.items → n ≡ keys_in_header query (map key_of keys)
    → keys_in_header query (section_of s).header ≡ n
header_there query s keys n keys-are is =
    ap (λ (ks : List code_keys.Key). keys_in_header query (map key_of ks)) (sym keys-are) ∙ sym is

pub rows_there : (s : code.Section) (parents : List code_keys.Key) (rows : List Row)
    → parents ≡ (out-Rows s.rows).parents.items → rows ≡ (out-Rows s.rows).rows.items
    → rows_seen parents rows ≡ (section_of s).rows
rows_there s parents rows parents-are rows-are =
    ap (λ (ks : List code_keys.Key). rows_seen ks rows) parents-are
    ∙ ap (λ (rs : List Row). rows_seen (out-Rows s.rows).parents.items rs) rows-are

-- by the section of a number
by_header : (query : Query) (l : Located) (n : ℕ) → keys_in_header query l.section.header ≡ Some n
    → path_by_section query l ≡ Some (up_to_key n l.path)
by_header (Value o) l n e = cc
by_header (Key o) l n e = rw e refl

by_rows : (query : Query) (l : Located) → keys_in_header query l.section.header ≡ None
    → path_by_section query l ≡ path_in (test_of query) l
by_rows (Value o) l e = refl
by_rows (Key o) l e = rw e refl

-- what was pushed where there were no steps is the path within the rows, and none is where nothing was
pushed_alone : (pushed : Bool) (found : Option Path) (q : Path) (before after : List Step) → before ≡ []
    → PushesIfFound pushed found before after → pushed ≡ true
    → Some (q ++ path_of after) ≡ option_map (λ p. q ++ p) found
pushed_alone false found q before after none f is_pushed = cc
pushed_alone true None q before after none f is_pushed = absurd f
pushed_alone true (Some p) q before after none f is_pushed =
    ap (λ r. Some (q ++ r)) (f ∙ ap (λ (ss : List Step). path_of ss ++ p) none)

none_pushed : (pushed : Bool) (found : Option Path) (q : Path) (before after : List Step)
    → PushesIfFound pushed found before after → pushed ≡ false
    → (after ≡ before) × (option_map (λ p. q ++ p) found ≡ None)
none_pushed false found q before after f not_pushed = (f.1, ap (option_map (λ p. q ++ p)) f.0)
none_pushed true found q before after f not_pushed = cc

-- all that is looked for is by these sections
abbrev pub searched : Query → List code.Section → ℕ → Option Path
searched query sections i = first_path (path_by_section query) (left_from sections i)

next_searched : (query : Query) (sections : List code.Section) (i : ℕ) (s : code.Section) → i < length sections
    → s ≡ get_or sections i s
    → searched query sections i
    ≡ option_or (path_by_section query (here sections i s)) (searched query sections (i + 1))
next_searched query sections i s within is =
    ap (first_path (path_by_section query)) (next_left sections i s within is)

pub found_by_header : (query : Query) (sections : List code.Section) (i n : ℕ) (s : code.Section)
    → i < length sections → s ≡ get_or sections i s → keys_in_header query (section_of s).header ≡ Some n
    → option_map (λ l. up_to_key n l.path) (slice_get (located (map section_of sections)) i)
    ≡ searched query sections i
found_by_header query sections i n s within is keys =
    ap (option_map (λ (l : Located). up_to_key n l.path)) (located_there sections i s within is)
    ∙ ap (λ o. option_or o (searched query sections (i + 1))) (sym (by_header query (here sections i s) n keys))
    ∙ sym (next_searched query sections i s within is)

pub found_by_rows : (query : Query) (sections : List code.Section) (i : ℕ) (s : code.Section) (rows : Rows)
    (before after : List Step) (pushed : Bool) → i < length sections → s ≡ get_or sections i s
    → keys_in_header query (section_of s).header ≡ None → rows ≡ (section_of s).rows → before ≡ []
    → PushesIfFound pushed (path_by (test_of query) rows) before after → pushed ≡ true
    → option_map (λ l. l.path ++ path_of after) (slice_get (located (map section_of sections)) i)
    ≡ searched query sections i
found_by_rows query sections i s rows before after pushed within is keys rows-are none found is_pushed =
    ap (option_map (λ (l : Located). l.path ++ path_of after)) (located_there sections i s within is)
    ∙ ap (λ o. option_or o (searched query sections (i + 1)))
    (pushed_alone pushed (path_by (test_of query) rows) l.path before after none found is_pushed
    ∙ ap (λ rs. option_map (λ p. l.path ++ p) (path_by (test_of query) rs)) rows-are
    ∙ sym (by_rows query l keys))
    ∙ sym (next_searched query sections i s within is)
  where
    l : Located
    l = here sections i s

pub not_by_section : (query : Query) (sections : List code.Section) (i : ℕ) (s : code.Section) (rows : Rows)
    (before after : List Step) (pushed : Bool) → i < length sections → s ≡ get_or sections i s
    → keys_in_header query (section_of s).header ≡ None → rows ≡ (section_of s).rows
    → PushesIfFound pushed (path_by (test_of query) rows) before after → pushed ≡ false
    → (after ≡ before) × (searched query sections i ≡ searched query sections (i + 1))
not_by_section query sections i s rows before after pushed within is keys rows-are found not_pushed =
    let none = none_pushed pushed (path_by (test_of query) rows) l.path before after found not_pushed in (
      none.0,
      next_searched query sections i s within is
          ∙ ap (λ o. option_or o (searched query sections (i + 1)))
          (by_rows query l keys
          ∙ ap (λ rs. option_map (λ p. l.path ++ p) (path_by (test_of query) rs)) (sym rows-are) ∙ none.1),
    )
  where
    l : Located
    l = here sections i s
