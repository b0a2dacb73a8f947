-- The laws on the order of sections, by indexed paths.
use Rattle.std.proofs.Common.{◌≡◌, ℕ, suc, Bool, true, false, List, [], ◌∷◌, ◌++◌, map, refl, ap, sym, ◌∙◌, subst}
use Rattle.std.proofs.Common.{arith, Option, Some, None}
use Rattle.std.specs.Prelude.{max, if◌then◌else◌}
use Rattle.std.proofs.lemmas.Bool.{false≢true, and_parts}
use Rattle.basic_toml_value.specs.Data.{Data, Items, Members}
use Rattle.basic_toml_value.specs.SameMaps.{Takes, here, later, SameMaps, same_integer, same_float, same_boolean}
use Rattle.basic_toml_value.specs.SameMaps.{same_string, same_array, same_table, SameItems, no_more, one_more}
use Rattle.basic_toml_value.specs.SameMaps.{SameMembers, none_left, taken}
use Rattle.basic_toml_grammar.specs.Sections.{texts, Section}
use Rattle.basic_toml_grammar.specs.Steps.{key, number, Path}
use Rattle.basic_toml_grammar.specs.IndexedPath.{located_after, located_from}
use Rattle.basic_toml_grammar.specs.SectionClash.{without_last_number}
use Rattle.basic_toml_grammar.specs.Placed.{Placed, step_into, adds_element, placed_after, placed_from, placed}
use Rattle.basic_toml_grammar.specs.Entering.{header_keyed, rows_keyed, is_keyed, all_keyed}
use Rattle.basic_toml_grammar.specs.Depth.{depth, depth_of_items, depth_of_members}
use Rattle.basic_toml_grammar.specs.Statements.{Reordered, with_paths, MeanTheSame, ReorderedMeansTheSame}
use Rattle.basic_toml_grammar.specs.Statements.{PlainReorderedMeansTheSame, SameMapsAreAsDeep}
use Rattle.basic_toml_grammar.proofs.Clash.PathsAgree.{offsets, count_in, path_is, target_is}
use Rattle.basic_toml_grammar.proofs.Clash.ClashesAgree.{array_is}
use Rattle.basic_toml_grammar.proofs.SameMeaning.OrderIsFree.{order_free, keyed_reordered, map_reordered}
use Rattle.basic_toml_grammar.proofs.SameMeaning.OrderIsFree.{placed_reordered}
use Rattle.basic_toml_grammar.proofs.SameMeaning.SameMapsReordered.{same_maps_reordered}

-- the number of the last element of a path
abbrev last_number : Path → Option ℕ
last_number [] = None
last_number (key k ∷ []) = None
last_number (number n ∷ []) = Some n
last_number (s ∷ t ∷ p) = last_number (t ∷ p)

-- where a section stands, by its indexed path
abbrev offset_of : Section × Path → Placed
offset_of l = record {
  target = if l.0.is_array then without_last_number l.1 else l.1;
  element = if l.0.is_array then last_number l.1 else None;
  rows = l.0.rows;
}

last_is : (p : Path) (n : ℕ) → last_number (p ++ number n ∷ []) ≡ Some n
last_is [] n = refl
last_is (key k ∷ []) n = refl
last_is (number m ∷ []) n = refl
last_is (s ∷ t ∷ p) n = last_is (t ∷ p) n

element_is : (a : Bool) (e : Option ℕ) (t : Path) → a ≡ adds_element e
    → (if a then last_number (t ++ step_into e) else None) ≡ e
element_is true (Some n) t h = last_is t n
element_is true None t h = absurd (false≢true (sym h))
element_is false (Some n) t h = absurd (false≢true h)
element_is false None t h = refl

offset_is : (s : Section) (earlier : List Section) → header_keyed s.is_array (texts s.header) ≡ true
    → offset_of (s, (located_after earlier s).path) ≡ placed_after (offsets earlier) s
offset_is s earlier k =
    ap (λ t. record {
      target = t;
      element = if s.is_array then last_number (located_after earlier s).path else None;
      rows = s.rows;
    }) (target_is s earlier)
    ∙ ap (λ e. record { target = l.target; element = e; rows = s.rows })
    (ap (λ p. if s.is_array then last_number p else None) (path_is s earlier) ∙
    element_is s.is_array l.element l.target (array_is (count_in earlier) s.is_array (texts s.header) k))
  where
    l : Placed
    l = placed_after (offsets earlier) s

offsets_are : (earlier sections : List Section) → all_keyed sections ≡ true
    → map offset_of (map (λ l. (l.section, l.path)) (located_from earlier sections))
    ≡ placed_from (offsets earlier) sections
offsets_are earlier [] k = refl
offsets_are earlier (s ∷ sections) k =
    let a : (is_keyed s ≡ true) × (all_keyed sections ≡ true) = and_parts _ _ k in
    let b : (rows_keyed s.rows ≡ true) × (header_keyed s.is_array (texts s.header) ≡ true) = and_parts _ _ a.0 in
    ap (λ l. l ∷ map offset_of (map (λ l. (l.section, l.path)) (located_from (s ∷ earlier) sections)))
    (offset_is s earlier b.1)
    ∙ ap (λ ls. placed_after (offsets earlier) s ∷ ls) (offsets_are (s ∷ earlier) sections a.1)

abbrev section_of : Section × Path → Section
section_of l = l.0

sections_are : (earlier sections : List Section)
    → map section_of (map (λ l. (l.section, l.path)) (located_from earlier sections)) ≡ sections
sections_are earlier [] = refl
sections_are earlier (s ∷ sections) = ap (λ ss. s ∷ ss) (sections_are (s ∷ earlier) sections)

mean_the_same : (sections others : List Section) → all_keyed sections ≡ true → all_keyed others ≡ true
    → Reordered Placed (placed sections) (placed others) → MeanTheSame sections others
mean_the_same sections others k l r =
    record { clash = order_free sections others k l r; maps = same_maps_reordered sections others k l r }

pub reordered_means_the_same : ReorderedMeansTheSame
reordered_means_the_same sections others k r = mean_the_same sections others k l
    (subst (λ ls. Reordered Placed (placed sections) ls) (offsets_are [] others l)
    (subst (λ ls. Reordered Placed ls (map offset_of (with_paths others))) (offsets_are [] sections k)
    (map_reordered offset_of r)))
  where
    l : all_keyed others ≡ true
    l = sym (keyed_reordered (subst (λ ss. Reordered Section ss others) (sections_are [] sections)
        (subst (λ ss. Reordered Section (map section_of (with_paths sections)) ss) (sections_are [] others)
        (map_reordered section_of r)))) ∙ k

pub plain_reordered_means_the_same : PlainReorderedMeansTheSame
plain_reordered_means_the_same sections others k e r =
    mean_the_same sections others k (sym (keyed_reordered r) ∙ k) (placed_reordered sections others e r)

-- a member more
taken_depth : {ms rest : Members} {k : List ℕ} {d : Data} → Takes ms k d rest
    → depth_of_members ms ≡ max (depth d) (depth_of_members rest)
taken_depth (here k d ms) = refl
taken_depth (later l e ms k d rest t) = let h = taken_depth t in omega arith

mutual
  as_deep : {d e : Data} → SameMaps d e → depth d ≡ depth e
  as_deep (same_integer n) = refl
  as_deep (same_float text) = refl
  as_deep (same_boolean b) = refl
  as_deep (same_string text) = refl
  as_deep (same_array xs ys same) = ap (λ n. suc n) (items_as_deep same)
  as_deep (same_table ms ns same) = ap (λ n. suc n) (members_as_deep same)

  items_as_deep : {xs ys : Items} → SameItems xs ys → depth_of_items xs ≡ depth_of_items ys
  items_as_deep no_more = refl
  items_as_deep (one_more d e xs ys same more) = (λ i. max (as_deep same i) (items_as_deep more i))

  members_as_deep : {ms ns : Members} → SameMembers ms ns → depth_of_members ms ≡ depth_of_members ns
  members_as_deep none_left = refl
  members_as_deep (taken k d e ms ns rest takes same more) = (λ i. max (as_deep same i) (members_as_deep more i)) ∙
      sym (taken_depth takes)

pub same_maps_are_as_deep : SameMapsAreAsDeep
same_maps_are_as_deep tree other same = as_deep same
