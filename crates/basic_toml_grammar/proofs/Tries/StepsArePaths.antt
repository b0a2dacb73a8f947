-- The steps that lead to the table of a section in the trie of the sections before it are those of its indexed path, so
-- its level there is its level in the tree.
use Rattle.std.proofs.Common.{◌≡◌, ℕ, zero, suc, Bool, true, false, cond, List, [], ◌∷◌, ◌++◌, Some, None, refl}
use Rattle.std.proofs.Common.{ap, sym, ◌∙◌, subst, length, reverse, append_assoc}
use Rattle.std.proofs.lemmas.Grind.{reverse_onto}
use Rattle.std.specs.Prelude.{max, nat_lt, if◌then◌else◌}
use Rattle.basic_toml_grammar.specs.Sections.{KeyTexts, texts, Section}
use Rattle.basic_toml_grammar.specs.Steps.{key, number, Path}
use Rattle.basic_toml_grammar.specs.RowClash.{has_row_clash}
use Rattle.basic_toml_grammar.specs.IndexedPath.{latest, Located, located_after, located_from, located}
use Rattle.basic_toml_grammar.specs.Placed.{Placed, step_into, path_of, elements_at, target_from, element_from}
use Rattle.basic_toml_grammar.specs.Placed.{placed_after, placed_from}
use Rattle.basic_toml_grammar.specs.Marks.{Mark, marks, all_marks}
use Rattle.basic_toml_grammar.specs.Standing.{fits, standing_at, take_all}
use Rattle.basic_toml_grammar.specs.Entering.{and_then, element_count, count_at, enter_all}
use Rattle.basic_toml_grammar.specs.Trie.{Trie, nothing, standing, below, count, put_sections, steps_on, steps_to}
use Rattle.basic_toml_grammar.specs.Trie.{section_level_in, put_section}
use Rattle.basic_toml_grammar.specs.Levels.{rows_level}
use Rattle.basic_toml_grammar.specs.NestingFaults.{tree_level, deep_sections}
use Rattle.basic_toml_grammar.proofs.Clash.WalkTakesMarks.{added_at, Sized, sized_more}
use Rattle.basic_toml_grammar.proofs.Clash.EnteringAccepts.{offset_same, added_onto, onto-append, onto_marks}
use Rattle.basic_toml_grammar.proofs.Clash.EnteringAccepts.{enter_all_grows}
use Rattle.basic_toml_grammar.proofs.Clash.PathsAgree.{append_none, offsets, path_is}
use Rattle.basic_toml_grammar.proofs.Tries.MarksInATrie.{trie_of, descend, standing_of}
use Rattle.basic_toml_grammar.proofs.Tries.ChangesByPath.{then_then, then_alike}
use Rattle.basic_toml_grammar.proofs.Tries.SectionsInATrie.{marks_put}

-- sections the latest first, on these that stand so
abbrev latest_first : List Section → List Section → List Section
latest_first before [] = before
latest_first before (s ∷ sections) = latest_first (s ∷ before) sections

latest_onto : (before sections : List Section) → latest_first before sections ≡ reverse sections ++ before
latest_onto before [] = refl
latest_onto before (s ∷ sections) = latest_onto (s ∷ before) sections
    ∙ sym (append_assoc (reverse sections) (s ∷ []) before)
    ∙ ap (λ ss. ss ++ before) (sym (reverse_onto sections s []))

latest_is_reversed : (sections : List Section) → latest_first [] sections ≡ reverse sections
latest_is_reversed sections = latest_onto [] sections ∙ append_none (reverse sections)

-- marks that were taken: what they count
taken_counts : (ms st after : List Mark) → Sized st → take_all st ms ≡ Some after
    → Sized after × ((q : Path) → added_at after q ≡ added_onto q ms (added_at st q))
taken_counts [] st after h e =
    let same : st ≡ after = cc in
    (subst (λ st. Sized st) same h, λ q. ap (λ st. added_at st q) (sym same))
taken_counts (m ∷ ms) st after h e =
    go (fits m.kind (standing_at st m.path)) refl e
    (λ f e. taken_counts ms (m ∷ st) after (sized_more m.path m.kind st h f) e)
  where
    go : (b : Bool) → fits m.kind (standing_at st m.path) ≡ b → cond b (take_all (m ∷ st) ms) None ≡ Some after
        → (fits m.kind (standing_at st m.path) ≡ true → take_all (m ∷ st) ms ≡ Some after
        → Sized after × ((q : Path) → added_at after q ≡ added_onto q (m ∷ ms) (added_at st q)))
        → Sized after × ((q : Path) → added_at after q ≡ added_onto q (m ∷ ms) (added_at st q))
    go true f e i = i f e
    go false f e i = cc

-- the marks of sections count as the sections do
sections_count : (sections before : List Section) (q : Path)
    → added_onto q (all_marks (placed_from (offsets before) sections)) (elements_at q (offsets before))
    ≡ elements_at q (offsets (latest_first before sections))
sections_count [] before q = refl
sections_count (s ∷ sections) before q =
    onto-append q (marks l) (all_marks (placed_from (offsets (s ∷ before)) sections)) (elements_at q (offsets before))
    ∙ ap (λ n. added_onto q (all_marks (placed_from (offsets (s ∷ before)) sections)) n)
    (onto_marks l.element l.rows l.target q (elements_at q (offsets before)))
    ∙ sections_count sections (s ∷ before) q
  where
    l : Placed
    l = placed_after (offsets before) s

-- so what was entered counts as many elements at a path as sections added there
entered_count : (sections : List Section) (st : List Mark) → enter_all sections [] ≡ Some st
    → (q : Path) → count_at st q ≡ elements_at q (offsets (latest_first [] sections))
entered_count sections st e =
    go (has_row_clash sections) (sym (enter_all_grows sections [] [] (λ p. refl) (λ p. refl)) ∙ e)
  where
    go : (b : Bool) → (if b then None else take_all [] (all_marks (placed_from [] sections))) ≡ Some st
        → (q : Path) → count_at st q ≡ elements_at q (offsets (latest_first [] sections))
    go true e q = cc
    go false e q =
        let r : Sized st × ((q : Path) → added_at st q
        ≡ added_onto q (all_marks (placed_from [] sections)) (added_at [] q)) =
        taken_counts (all_marks (placed_from [] sections)) [] st (λ p. refl) e in
        r.0 q ∙ r.1 q ∙ sections_count sections [] q

-- on by a path, and on
descend-append : (p q : Path) (t : Trie) → descend (p ++ q) t ≡ descend q (descend p t)
descend-append [] q t = refl
descend-append (s ∷ p) q t = descend-append p q (below s t)

-- the steps from a cut on
abbrev steps_from : (Path → ℕ) → Bool → Path → KeyTexts → ℕ
steps_from n a cut keys = length (target_from n a cut keys ++ step_into (element_from n a cut keys))

count_there : (st : List Mark) (cut : Path) (k : List ℕ)
    → count (below (key k) (descend cut (trie_of st))) ≡ count_at st (cut ++ key k ∷ [])
count_there st cut k =
    ap (λ t. element_count (standing t)) (sym (descend-append cut (key k ∷ []) (trie_of st)))
    ∙ ap element_count (standing_of st (cut ++ key k ∷ []))

steps_are : (st : List Mark) (a : Bool) (cut : Path) (keys : KeyTexts)
    → steps_to a keys (descend cut (trie_of st)) ≡ steps_from (λ p. count_at st p) a cut keys
steps_are st a cut [] = refl
steps_are st true cut (k ∷ []) = refl
steps_are st false cut (k ∷ []) = ap (λ n. suc (steps_on (λ t. 0) n here)) (count_there st cut k) ∙
    go (count_at st (cut ++ key k ∷ []))
  where
    here : Trie
    here = below (key k) (descend cut (trie_of st))

    go : (n : ℕ) → suc (steps_on (λ t. 0) n here) ≡ length ((key k ∷ latest n) ++ [])
    go zero = refl
    go (suc n) = refl
steps_are st a cut (k ∷ l ∷ keys) =
    ap (λ n. suc (steps_on (λ t. steps_to a (l ∷ keys) t) n here)) (count_there st cut k)
    ∙ go (λ c. steps_are st a c (l ∷ keys)) (count_at st (cut ++ key k ∷ []))
  where
    here : Trie
    here = below (key k) (descend cut (trie_of st))

    rest : Path → Path
    rest c = target_from (λ p. count_at st p) a c (l ∷ keys)

    last : Path → Path
    last c = step_into (element_from (λ p. count_at st p) a c (l ∷ keys))

    go : ((c : Path) → steps_to a (l ∷ keys) (descend c (trie_of st)) ≡ length (rest c ++ last c)) → (n : ℕ)
        → suc (steps_on (λ t. steps_to a (l ∷ keys) t) n here)
        ≡ length (((key k ∷ latest n) ++ rest (cut ++ key k ∷ latest n)) ++ last (cut ++ key k ∷ latest n))
    go ih zero = ap (λ n. suc n)
        (ap (λ t. steps_to a (l ∷ keys) t) (sym (descend-append cut (key k ∷ []) (trie_of st))) ∙
        ih (cut ++ key k ∷ []))
    go ih (suc n) = ap (λ n. suc (suc n))
        (ap (λ t. steps_to a (l ∷ keys) t) (sym (descend-append cut (key k ∷ number n ∷ []) (trie_of st))) ∙
        ih (cut ++ key k ∷ number n ∷ []))

-- to a section that comes next
pub steps_are_path : (earlier : List Section) (s : Section) (t : Trie) → put_sections earlier nothing ≡ Some t
    → steps_to s.is_array (texts s.header) t ≡ length (located_after (reverse earlier) s).path
steps_are_path earlier s t e =
    let r : (st : List Mark) × (enter_all earlier [] ≡ Some st) × (t ≡ trie_of st) = marks_put earlier t e in
    ap (λ t. steps_to s.is_array (texts s.header) t) r.2
    ∙ steps_are r.0 s.is_array [] (texts s.header)
    ∙ ap (λ l. length (path_of l))
    (offset_same (λ p. count_at r.0 p) (λ p. elements_at p (offsets (latest_first [] earlier)))
    (entered_count earlier r.0 r.1) s)
    ∙ ap (λ before. length (path_of (placed_after (offsets before) s))) (latest_is_reversed earlier)
    ∙ ap length (sym (path_is s (reverse earlier)))

pub level_is_tree_level : (earlier : List Section) (s : Section) (t : Trie) → put_sections earlier nothing ≡ Some t
    → section_level_in t s ≡ tree_level (located_after (reverse earlier) s)
level_is_tree_level earlier s t e =
    ap (λ n. max (suc n) (rows_level (suc n) s.rows)) (steps_are_path earlier s t e)

-- where a section stands among all
at_section_from : (before earlier : List Section) (s : Section) (later : List Section)
    → located_from before (earlier ++ s ∷ later)
    ≡ located_from before earlier ++ located_after (latest_first before earlier) s
    ∷ located_from (s ∷ latest_first before earlier) later
at_section_from before [] s later = refl
at_section_from before (e ∷ earlier) s later =
    ap (λ ls. located_after before e ∷ ls) (at_section_from (e ∷ before) earlier s later)

pub at_section : (earlier : List Section) (s : Section) (later : List Section)
    → located (earlier ++ s ∷ later)
    ≡ located earlier ++ located_after (reverse earlier) s ∷ located_from (s ∷ reverse earlier) later
at_section earlier s later = at_section_from [] earlier s later
    ∙ ap (λ before. located earlier ++ located_after before s ∷ located_from (s ∷ before) later)
    (latest_is_reversed earlier)

-- sections one after another
pub put_append : (earlier later : List Section) (t : Trie)
    → put_sections (earlier ++ later) t ≡ and_then (put_sections earlier t) (λ t. put_sections later t)
put_append [] later t = refl
put_append (s ∷ earlier) later t =
    then_alike (λ t. put_sections (earlier ++ later) t)
    (λ t. and_then (put_sections earlier t) (λ t. put_sections later t))
    (put_append earlier later) (put_section s t)
    ∙ sym (then_then (λ t. put_sections earlier t) (λ t. put_sections later t) (put_section s t))

-- so it is too deep exactly where it is too deep there
pub deep_append : (limit : ℕ) (ls ms : List Located)
    → deep_sections limit (ls ++ ms) ≡ deep_sections limit ls ++ deep_sections limit ms
deep_append limit [] ms = refl
deep_append limit (l ∷ ls) ms = go (nat_lt limit (tree_level l)) (deep_append limit ls ms)
  where
    go : (b : Bool) → deep_sections limit (ls ++ ms) ≡ deep_sections limit ls ++ deep_sections limit ms
        → (if b then l.section.at ∷ deep_sections limit (ls ++ ms) else deep_sections limit (ls ++ ms))
        ≡ (if b then l.section.at ∷ deep_sections limit ls else deep_sections limit ls) ++ deep_sections limit ms
    go true e = ap (λ ps. l.section.at ∷ ps) e
    go false e = e
