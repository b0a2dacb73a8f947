-- The count that the code keeps where nothing of the path is left is that of the elements at the path.
use Rattle.std.proofs.Common.{◌≡◌, ℕ, ◌+◌, ◌≤◌, ◌<◌, false, List, [], ◌∷◌, refl}
use Rattle.std.proofs.Common.{ap, sym, ◌∙◌, subst, arith, length, get_or, map, replicate, take}
use Rattle.std.proofs.lemmas.List.{take_all}
use Rattle.basic_toml_grammar.specs.Sections.{Section}
use Rattle.basic_toml_grammar.specs.Steps.{Path}
use Rattle.basic_toml_grammar.specs.Placed.{elements_at, placed}
use Rattle.basic_toml_grammar.proofs.Clash.PathsAgree.{count_in, append_none}
use Rattle.basic_toml_read.specs.declared.section.Section as code
use Rattle.basic_toml_read.specs.SectionView.{header_texts, section_of}
use Rattle.basic_toml_origin.specs.Ways.{counts_behind}
use Rattle.basic_toml_origin.proofs.WaysMeet.{Counted}
use Rattle.basic_toml_origin.proofs.SectionsMeet.{section_counted}
use Rattle.basic_toml_origin.proofs.SectionsTell.{same_count, within_behind, zeros_length, zeros_within}
use Rattle.basic_toml_origin.proofs.LatestFirst.{all_counted, latest_first, none_at_root, one_more_first}

-- before the section of a number, the counts are those of the sections before it
pub record Counting (sections : List code.Section) (p : Path) (i : ℕ) (counts : List ℕ) : Type 0 where
  pub counted : Counted (count_in (latest_first (map section_of (take i sections)))) counts [] p
  pub room : length p ≡ length counts
  pub small : (n : ℕ) → get_or counts n 0 ≤ i

pub begun : (sections : List code.Section) (p : Path) (counts : List ℕ) (n : ℕ) → n ≡ length p → counts ≡ replicate n 0
    → Counting sections p 0 counts
begun sections p counts n l e = record {
  counted = λ s q r f. ap (λ c. get_or c (length r) 0) e ∙ zeros_within n (length r);
  room = omega (arith, l, ap length e, zeros_length n);
  small = λ j. let none : get_or counts j 0 ≡ 0 = ap (λ c. get_or c j 0) e ∙ zeros_within n j in omega (arith, none);
}

pub on : (sections : List code.Section) (p : Path) (i : ℕ) (counts behind : List ℕ) (s : code.Section)
    → Counting sections p i counts → i < length sections → s ≡ get_or sections i s
    → behind ≡ counts_behind counts s.is_array (header_texts s.header.items) p → Counting sections p (i + 1) behind
on sections p i counts behind s g within is counts-are =
    let earlier : List Section = latest_first (map section_of (take i sections)) in
    record {
      counted = λ t q r e.
          ap (λ c. get_or c (length r) 0) counts-are
          ∙ section_counted earlier (section_of s) counts p g.counted (omega (arith, g.room)) t q r e
          ∙ ap (λ ss. count_in ss (t ∷ q)) (sym (one_more_first sections i s within is));
      room =
          omega (arith, g.room, same_count counts behind s.is_array (header_texts s.header.items) p counts-are);
      small = λ n.
          subst (λ (c : List ℕ). get_or c n 0 ≤ i + 1) (sym counts-are)
          (within_behind counts s.is_array (header_texts s.header.items) p i n g.small);
    }

-- a section that is none of an array changes no count
pub past : (sections : List code.Section) (p : Path) (i : ℕ) (counts behind : List ℕ) (s : code.Section)
    → Counting sections p i counts → i < length sections → s ≡ get_or sections i s → s.is_array ≡ false
    → behind ≡ counts → Counting sections p (i + 1) behind
past sections p i counts behind s g within is none same =
    on sections p i counts behind s g within is
    (same ∙ ap (λ a. counts_behind counts a (header_texts s.header.items) p) (sym none))

pub ended : (sections : List code.Section) (p : Path) (i : ℕ) (counts : List ℕ) → Counting sections p i counts
    → length sections ≤ i → get_or counts 0 0 ≡ elements_at p (placed (map section_of sections))
ended sections p i counts g passed =
    go p refl
    ∙ ap (λ (ss : List code.Section). count_in (latest_first (map section_of ss)) p) (take_all i sections passed)
    ∙ all_counted (map section_of sections) p
  where
    none : (counts : List ℕ) → 0 ≡ length counts → get_or counts 0 0 ≡ 0
    none [] e = refl
    none (c ∷ counts) e = absurd (omega (arith, e))

    go : (q : Path) → p ≡ q → get_or counts 0 0 ≡ count_in (latest_first (map section_of (take i sections))) p
    go [] e =
        none counts (ap length (sym e) ∙ g.room)
        ∙ sym (none_at_root (latest_first (map section_of (take i sections))))
        ∙ ap (count_in (latest_first (map section_of (take i sections)))) (sym e)
    go (s ∷ q) e =
        g.counted s q [] (e ∙ sym (append_none (s ∷ q)))
        ∙ ap (count_in (latest_first (map section_of (take i sections)))) (sym e)
