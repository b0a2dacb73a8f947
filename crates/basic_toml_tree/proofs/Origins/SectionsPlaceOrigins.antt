-- Sections entered one after another: the way of a header through the trie of those before it is its indexed path, what
-- the rows of all of them bring into the tree, and that what headers made in it comes from a section whose header leads
-- there.
use Rattle.std.proofs.Common.{◌≡◌, inl, inr, ℕ, zero, suc, Bool, true, false, List, [], ◌∷◌, ◌++◌, Some, refl, ap, sym}
use Rattle.std.proofs.Common.{◌∙◌, reverse, append_assoc, arith, ◌+◌, Option, None, length}
use Rattle.std.proofs.lemmas.Grind.{reverse_onto}
use Rattle.basic_toml_grammar.specs.Sections.{KeyTexts, texts, Section}
use Rattle.basic_toml_grammar.specs.Steps.{key, Path, begins}
use Rattle.basic_toml_grammar.specs.IndexedPath.{latest, located_after, Located}
use Rattle.basic_toml_grammar.specs.Placed.{step_into, path_of, elements_at, target_from, element_from, placed_after}
use Rattle.basic_toml_grammar.specs.Marks.{Mark}
use Rattle.basic_toml_grammar.specs.Entering.{element_count, enter_all, all_keyed}
use Rattle.basic_toml_grammar.specs.Trie.{Trie, nothing, below, count, put_sections}
use Rattle.basic_toml_grammar.proofs.Clash.SectionsLeaveMarks.{onto, Past, entered}
use Rattle.basic_toml_grammar.proofs.Clash.EnteringAccepts.{offset_same}
use Rattle.basic_toml_grammar.proofs.Tries.MarksInATrie.{trie_of, descend, standing_of}
use Rattle.basic_toml_grammar.proofs.Clash.PathsAgree.{append_none, offsets, path_is}
use Rattle.basic_toml_grammar.proofs.Tries.SectionsInATrie.{marks_put}
use Rattle.basic_toml_tree.specs.FirstStop.{Stands}
use Rattle.basic_toml_grow.specs.Ways.{way, way_on, GrowsAlong, MarksTable, sections_origins}
use Rattle.basic_toml_grow.proofs.HeadersInATrie.{Course}
use Rattle.basic_toml_tree.proofs.SectionsStopped.{as_put}
use Rattle.std.specs.Prelude.{IsSomeAnd}
use Rattle.std.specs.List.{list_any}
use Rattle.std.specs.Option.{option_or}
use Rattle.std.proofs.lemmas.Bool.{cases_Bool}
use Rattle.std.proofs.lemmas.List.Folds.{list_any-append}
use Rattle.basic_toml_grow.specs.Origins.{Origin, Origins, Within, along, rows_origins}
use Rattle.basic_toml_grow.proofs.Origins.OriginsSeen.{or_none}
use Rattle.basic_toml_origin.specs.Anchor.{LeadsTo}
use Rattle.basic_toml_tree.specs.Resolve.{ComesFromHeaders}
use Rattle.basic_toml_tree.proofs.Nodes.NodesInOrder.{last_read}

descend_on : (p q : Path) (t : Trie) → descend (p ++ q) t ≡ descend q (descend p t)
descend_on [] q t = refl
descend_on (s ∷ p) q t = descend_on p q (below s t)

-- on into the latest element, where there is one
way_latest : (f : Trie → Path) (n : ℕ) (t : Trie) → way_on f n t ≡ latest n ++ f (descend (latest n) t)
way_latest f zero t = refl
way_latest f (suc n) t = refl

-- where a header leads from a cut on
ways_are : (t : Trie) (a : Bool) (cut : Path) (keys : KeyTexts) → let n = λ (p : Path). count (descend p t) in
    way a keys (descend cut t) ≡ target_from n a cut keys ++ step_into (element_from n a cut keys)
ways_are t a cut [] = refl
ways_are t true cut (k ∷ []) = rw (descend_on cut (key k ∷ []) t) refl
ways_are t false cut (k ∷ []) = rw (descend_on cut (key k ∷ []) t, way_latest) refl
ways_are t a cut (k ∷ l ∷ keys) =
    let steps = key k ∷ latest (count (below (key k) (descend cut t))) in
    rw (descend_on cut (key k ∷ []) t, way_latest, ← descend_on cut steps t)
    (ap (λ q. steps ++ q) (ways_are t a (cut ++ steps) (l ∷ keys)) ∙ sym (append_assoc steps _ _))

onto_all : (ss before : List Section) → onto ss before ≡ reverse ss ++ before
onto_all [] before = refl
onto_all (s ∷ ss) before = rw (onto_all ss (s ∷ before), reverse_onto ss s [], append_assoc) refl

put_way : (earlier : List Section) (s : Section) (t : Trie) → all_keyed earlier ≡ true
    → put_sections earlier nothing ≡ Some t
    → way s.is_array (texts s.header) t ≡ (located_after (reverse earlier) s).path
put_way earlier s t keyed e =
    let r : (st : List Mark) × (enter_all earlier [] ≡ Some st) × (t ≡ trie_of st) = marks_put earlier t e in
    let past : Past (onto earlier []) r.0 = entered earlier r.0 keyed r.1 in
    rw (path_is s (reverse earlier), r.2, ways_are (trie_of r.0) s.is_array [] (texts s.header))
    (ap path_of
    (offset_same (λ p. count (descend p (trie_of r.0))) (λ p. elements_at p (offsets (onto earlier [])))
    (λ p. ap element_count (standing_of r.0 p) ∙ past.sized p ∙ past.counted p) s)
    ∙ ap (λ before. path_of (placed_after (offsets before) s)) (onto_all earlier [] ∙ append_none (reverse earlier)))

pub way_is : (earlier : List Section) (s : Section) (t : Trie) → all_keyed earlier ≡ true → Stands earlier t
    → way s.is_array (texts s.header) t ≡ (located_after (reverse earlier) s).path
way_is earlier s t keyed stands =
    let put = as_put stands in ap (λ (c : Course). c.way) (put.3 s) ∙ put_way earlier s put.0 keyed put.1

-- what is known of the origins in a tree after some sections
pub record ComeFrom (ls : List Located) (origins : Origins) : Type 0 where
  pub rows : (p : Path) → list_any (λ l. begins p l.path) ls ≡ false → origins p ≡ sections_origins 0 ls p
  pub headers : ComesFromHeaders ls origins

-- what the last section brings
last_section : (n m : ℕ) (ls : List Located) (l : Located) (p : Path) → m ≡ n + length ls
    → sections_origins n (ls ++ l ∷ []) p
    ≡ option_or (sections_origins n ls p) (along l.path (rows_origins m l.section.rows) p)
last_section n m [] l p same = grind (arith, or_none (along l.path (rows_origins m l.section.rows) p))
last_section n m (k ∷ ls) l p same = grind (arith, last_section (suc n) m ls l p (omega arith))

-- the section of a number leads on, when another one comes last
leads_on : (ls : List Located) (l : Located) (n : ℕ) (p : Path) → LeadsTo ls n p → LeadsTo (ls ++ l ∷ []) n p
leads_on [] l n p leads = absurd leads
leads_on (k ∷ ls) l zero p leads = leads
leads_on (k ∷ ls) l (suc n) p leads = leads_on ls l n p leads

-- what was there stays
stays : {P Q : Origin → Type 0} {after : Option Origin} (before new : Option Origin) → IsSomeAnd before P
    → after ≡ option_or before new → ((o : Origin) → P o → Q o) → IsSomeAnd after Q
stays None new some is more = absurd some
stays (Some o) new some is more = rw is (more o some)

pub more_come : (ls : List Located) (l : Located) (before : Origins) (after : Within) → ComeFrom ls before
    → GrowsAlong l.path (rows_origins (length ls) l.section.rows) before after.below
    → MarksTable (length ls) l.path after → ComeFrom (ls ++ l ∷ []) after.below
more_come ls l before after come grows marks = record {
  rows = λ p none.
      rw (
        grows p (grind (arith, list_any-append)),
        come.rows p (grind (arith, list_any-append)),
        last_section 0 (length ls) ls l p (omega arith),
      ) refl;
  headers = λ r p made.
      let path : Path = r ∷ p in
      elim (cases_Bool (begins path l.path)) [
        | inl on ↦ stays (after.below path) None (marks.below r p on) (sym (or_none (after.below path)))
            (λ o some. (some.0, rw (some.1, last_read ls l) on))
        | inr off ↦ stays (before path) _ (come.headers r p (grind (arith, list_any-append))) (grows path off)
            (λ o some. (some.0, leads_on ls l o.section path some.1))
      ];
}
