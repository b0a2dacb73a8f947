-- The path of a section, key by key: its cuts.
use Rattle.std.proofs.Common.{◌≡◌, ℕ, zero, suc, ◌+◌, ◌-◌, ◌≤◌, ◌<◌, List, [], ◌∷◌, ◌++◌, Option, Some, None, refl}
use Rattle.std.proofs.Common.{ap, sym, ◌∙◌, arith, length, get_or, map, take, add-one}
use Rattle.std.specs.Prelude.{option_map, slice_get}
use Rattle.std.proofs.Math.Seq.{take-suc}
use Rattle.std.proofs.lemmas.List.{length-map, length-take-le, map-append}
use Rattle.basic_toml_grammar.specs.Sections.{KeyTexts, Section}
use Rattle.basic_toml_grammar.specs.Steps.{key, number, Path, keys_of}
use Rattle.basic_toml_grammar.specs.IndexedPath.{Located, latest, key_at, count_of, cut, located}
use Rattle.basic_toml_grammar.specs.Placed.{elements_at, placed}
use Rattle.basic_toml_grammar.proofs.Clash.PathsAgree.{append_none, count_in, counts_are, keys-append}
use Rattle.basic_toml_read.specs.declared.section.Key as keys
use Rattle.basic_toml_read.specs.declared.section.Section as code
use Rattle.basic_toml_read.specs.KeyText.{key_text_bytes}
use Rattle.basic_toml_read.specs.SectionView.{header_texts, key_of, section_of}
use Rattle.basic_toml_origin.specs.declared.step.Step.{Step}
use Rattle.basic_toml_origin.specs.Path.{path_of, step_of}
use Rattle.basic_toml_origin.proofs.LatestFirst.{all_counted, latest_first, located_past, located_there, one_more_first}

keys_latest : (c : ℕ) → keys_of (latest c) ≡ []
keys_latest zero = refl
keys_latest (suc c) = refl

keys_taken : (header : KeyTexts) (l : ℕ) → take l header ++ keys_of (key_at l header) ≡ take (suc l) header
keys_taken [] zero = refl
keys_taken [] (suc l) = refl
keys_taken (k ∷ header) zero = refl
keys_taken (k ∷ header) (suc l) = ap (λ ks. k ∷ ks) (keys_taken header l)

keys_of_cut : (sections : List Section) (header : KeyTexts) (l : ℕ) → keys_of (cut l sections header) ≡ take l header
keys_of_cut sections header zero = refl
keys_of_cut sections header (suc l) =
    keys-append (before ++ key_at l header) (latest c)
    ∙ ap (λ ks. keys_of (before ++ key_at l header) ++ ks) (keys_latest c)
    ∙ append_none (keys_of (before ++ key_at l header))
    ∙ keys-append before (key_at l header)
    ∙ ap (λ ks. ks ++ keys_of (key_at l header)) (keys_of_cut sections header l)
    ∙ keys_taken header l
  where
    before : Path
    before = cut l sections header

    c : ℕ
    c = count_of (cut l) (take (suc l) header) before sections

key_there : (header : KeyTexts) (l : ℕ) (k : List ℕ) → l < length header → k ≡ get_or header l k
    → key_at l header ≡ key k ∷ []
key_there [] l k within is = absurd (omega (arith, within))
key_there (j ∷ header) zero k within is = ap (λ j. key j ∷ []) (sym is)
key_there (j ∷ header) (suc l) k within is = key_there header l k (omega (arith, within)) is

-- a key more, and the latest of the elements there
key_follows : (sections : List Section) (header : KeyTexts) (l : ℕ) (k : List ℕ) → l < length header
    → k ≡ get_or header l k
    → cut (suc l) sections header
    ≡ (cut l sections header ++ key k ∷ []) ++ latest (count_in sections (cut l sections header ++ key k ∷ []))
key_follows sections header l k within is =
    ap (λ q. (before ++ q) ++ latest (count_of (cut l) (take (suc l) header) before sections))
    (key_there header l k within is)
    ∙ ap (λ n. (before ++ key k ∷ []) ++ latest n) counted
  where
    before : Path
    before = cut l sections header

    counted : count_of (cut l) (take (suc l) header) before sections ≡ count_in sections (before ++ key k ∷ [])
    counted =
        ap (λ n. count_of (cut n) (take (suc l) header) before sections)
        (sym (length-take-le l header (omega (arith, within))))
        ∙ ap (λ ks. count_of (cut (length (take l header))) ks before sections)
        (take-suc header l k within ∙ ap (λ k. take l header ++ k ∷ []) (sym is))
        ∙ counts_are sections before (take l header) k (keys_of_cut sections header l)

header_length : (ks : List keys.Key) → length (header_texts ks) ≡ length ks
header_length ks = length-map (map key_of ks) (λ k. k.text) ∙ length-map ks key_of

-- the cut of a header at so many keys, where its section is the last
abbrev pub cut_at : List code.Section → List keys.Key → ℕ → Path
cut_at sections ks l = cut l (latest_first (map section_of sections)) (header_texts ks)

pub key_pushed : (sections : List code.Section) (ks : List keys.Key) (l : ℕ) (k : keys.Key) (p : Path) (count : ℕ)
    → l < length ks → k ≡ get_or ks l k → p ≡ cut_at sections ks l ++ key (key_text_bytes k.text) ∷ []
    → count ≡ elements_at p (placed (map section_of sections)) → p ++ latest count ≡ cut_at sections ks (l + 1)
key_pushed sections ks l k p count within is p-is count-is =
    ap (λ n. p ++ latest n) (count-is ∙ sym (all_counted (map section_of sections) p))
    ∙ ap (λ p. p ++ latest (count_in all p)) p-is
    ∙ sym (key_follows all (header_texts ks) l (key_text_bytes k.text) (omega (arith, within, header_length ks))
    (text ks l is))
    ∙ ap (λ n. cut_at sections ks n) (sym (add-one l))
  where
    all : List Section
    all = latest_first (map section_of sections)

    text : (ks : List keys.Key) (l : ℕ) → k ≡ get_or ks l k
        → key_text_bytes k.text ≡ get_or (header_texts ks) l (key_text_bytes k.text)
    text [] l e = refl
    text (j ∷ ks) zero e = ap (λ (k : keys.Key). key_text_bytes k.text) e
    text (j ∷ ks) (suc l) e = text ks l e

-- the code's steps
pub step_pushed : (steps : List Step) (step : Step) → path_of (steps ++ step ∷ []) ≡ path_of steps ++ step_of step ∷ []
step_pushed steps step = map-append step_of steps (step ∷ [])

pub latest_pushed : (p : Path) (count : ℕ) → 0 < count → p ++ number (count - 1) ∷ [] ≡ p ++ latest count
latest_pushed p zero some = absurd (omega (arith, some))
latest_pushed p (suc c) some = let one : suc c - 1 ≡ c = omega arith in ap (λ n. p ++ number n ∷ []) one

pub none_pushed : (p : Path) (count : ℕ) → count ≤ 0 → p ≡ p ++ latest count
none_pushed p zero none = sym (append_none p)
none_pushed p (suc c) none = absurd (omega (arith, none))

-- all keys are the path of the section
pub path_there : (sections upto : List code.Section) (i : ℕ) (s : code.Section) (ks : List keys.Key) (l : ℕ) (p : Path)
    → i < length sections → s ≡ get_or sections i s → upto ≡ take (i + 1) sections → ks ≡ s.header.items → l ≡ length ks
    → p ≡ cut_at upto ks l
    → Some p ≡ option_map (λ (l : Located). l.path) (slice_get (located (map section_of sections)) i)
path_there sections upto i s ks l p within is upto-is ks-is whole p-is =
    ap (λ p. Some p) (p-is ∙ ap (λ n. cut_at upto ks n) (whole ∙ sym (header_length ks)) ∙ at_section)
    ∙ ap (λ (o : Option Located). option_map (λ (l : Located). l.path) o) (sym (located_there sections i s within is))
  where
    first : latest_first (map section_of upto) ≡ section_of s ∷ latest_first (map section_of (take i sections))
    first =
        ap (λ (ss : List code.Section). latest_first (map section_of ss)) upto-is ∙ one_more_first sections i s within is

    at_section : cut_at upto ks (length (header_texts ks))
        ≡ cut (length (header_texts s.header.items)) (section_of s ∷ latest_first (map section_of (take i sections)))
        (header_texts s.header.items)
    at_section =
        ap (λ (ks : List keys.Key). cut_at upto ks (length (header_texts ks))) ks-is
        ∙ ap (λ ss. cut (length (header_texts s.header.items)) ss (header_texts s.header.items)) first

pub no_path : (sections : List code.Section) (i : ℕ) → length sections ≤ i
    → None ≡ option_map (λ (l : Located). l.path) (slice_get (located (map section_of sections)) i)
no_path sections i past =
    ap (λ (o : Option Located). option_map (λ (l : Located). l.path) o) (sym (located_past sections i past))
