-- The steps that are left of a path, in the code's steps; and what the way of a section leaves.
use Rattle.std.proofs.Common.{◌≡◌, ℕ, zero, suc, ◌+◌, ◌-◌, ◌≤◌, ◌<◌, ◌==◌, Bool, true, false, List, [], ◌∷◌, Option, Some, None}
use Rattle.std.proofs.Common.{ap, sym, ◌∙◌, arith, length, drop, get_or, set}
use Rattle.std.proofs.lemmas.List.{length-map}
use Rattle.std.specs.List.{drop-map}
use Rattle.std.specs.Prelude.{if◌then◌else◌}
use Rattle.basic_toml_grammar.specs.Sections.{KeyTexts}
use Rattle.basic_toml_grammar.specs.Steps.{key, number, Path, step_eq}
use Rattle.basic_toml_read.specs.declared.section.Key as code
use Rattle.basic_toml_read.specs.SectionView.{header_texts}
use Rattle.basic_toml_origin.specs.declared.step.Step.{Step}
use Rattle.basic_toml_origin.specs.declared.ways.Meeting.{Meeting}
use Rattle.basic_toml_origin.specs.declared.ways.Meeting.TheVariants.{Apart, Reaches}
use Rattle.basic_toml_origin.specs.Path.{path_of, step_of}
use Rattle.basic_toml_origin.specs.Ways.{compared, counts_behind, element_met, ends_array, entered, further, into, meets, met, one_more}

pub steps_left : (steps : List Step) (left : ℕ)
    → drop (length (path_of steps) - left) (path_of steps) ≡ path_of (drop (length steps - left) steps)
steps_left steps left =
    ap (λ n. drop (n - left) (path_of steps)) (length-map steps step_of) ∙ drop-map step_of (length steps - left) steps

pub element_there : (steps rest : List Step) (first : Step) (n left : ℕ) (here : Bool)
    → drop (length steps - left) steps ≡ first ∷ rest → here ≡ step_eq (number n) (step_of first)
    → further (Reaches left) (number n ∷ []) (path_of steps) ≡ (if here then Reaches (length rest) else Apart)
element_there steps rest first n left here is same =
    ap (compared (number n ∷ [])) (steps_left steps left ∙ ap path_of is)
    ∙ ap (λ l. if step_eq (number n) (step_of first) then Reaches l else Apart) (length-map rest step_of)
    ∙ ap (λ b. if b then Reaches (length rest) else Apart) (sym same)

-- a header leaves no more than the path has, and less behind a key
into_within : (o : Option ℕ) (on : Path → Meeting) (p : Path) (n : ℕ)
    → ((q : Path) → on q ≡ Reaches n → n ≤ length q) → into o on p ≡ Reaches n → n ≤ length p
into_within None on p n within e = within p e
into_within (Some m) on [] n within e = cc
into_within (Some m) on (s ∷ p) n within e = go (step_eq (number m) s) e
  where
    go : (b : Bool) → (if b then on p else Apart) ≡ Reaches n → n ≤ length (s ∷ p)
    go true e = omega (arith, within p e)
    go false e = cc

meets_within : (counts : List ℕ) (a : Bool) (keys : KeyTexts) (p : Path) (n : ℕ) → meets counts a keys p ≡ Reaches n
    → n ≤ length p
meets_within counts a [] p n e = let same : length p ≡ n = cc in omega (arith, same)
meets_within counts a (k ∷ keys) [] n e = cc
meets_within counts a (k ∷ keys) (s ∷ p) n e =
    go (λ q f. meets_within counts a keys q n f) (step_eq (key k) s) e
  where
    go : ((q : Path) → meets counts a keys q ≡ Reaches n → n ≤ length q) → (b : Bool)
        → (if b then into (entered (ends_array a keys) (get_or counts (length p) 0)) (λ q. meets counts a keys q) p else Apart)
        ≡ Reaches n → n ≤ length (s ∷ p)
    go within true e =
        omega (
          arith,
          into_within (entered (ends_array a keys) (get_or counts (length p) 0)) (λ q. meets counts a keys q) p n
              within e,
        )
    go within false e = cc

meets_behind : (counts : List ℕ) (a : Bool) (k : List ℕ) (keys : KeyTexts) (p : Path) (n : ℕ)
    → meets counts a (k ∷ keys) p ≡ Reaches n → n < length p
meets_behind counts a k keys [] n e = cc
meets_behind counts a k keys (s ∷ p) n e = go (step_eq (key k) s) e
  where
    go : (b : Bool)
        → (if b then into (entered (ends_array a keys) (get_or counts (length p) 0)) (λ q. meets counts a keys q) p else Apart)
        ≡ Reaches n → n < length (s ∷ p)
    go true e =
        omega (
          arith,
          into_within (entered (ends_array a keys) (get_or counts (length p) 0)) (λ q. meets counts a keys q) p n
              (λ q f. meets_within counts a keys q n f) e,
        )
    go false e = cc

-- of an array section that has keys, where its target ends
pub left_there : (counts : List ℕ) (a : Bool) (ks : List code.Key) (steps : List Step) (n : ℕ) → (length ks == 0) ≡ false
    → meets counts a (header_texts ks) (path_of steps) ≡ Reaches n → n < length steps
left_there counts a [] steps n some e = cc
left_there counts a (k ∷ ks) steps n some e =
    omega (arith, meets_behind counts a _ (header_texts ks) (path_of steps) n e, length-map steps step_of)

pub element_is_met : (counts : List ℕ) (a : Bool) (ks : List code.Key) (p : Path) (n : ℕ) → a ≡ true
    → (length ks == 0) ≡ false → meets counts a (header_texts ks) p ≡ Reaches n
    → further (Reaches n) (number (get_or counts n 0) ∷ []) p ≡ met counts a (header_texts ks) p
element_is_met counts false ks p n array some e = cc
element_is_met counts true [] p n array some e = cc
element_is_met counts true (k ∷ ks) p n array some e = ap (element_met counts p) (sym e)

pub element_is_counted : (counts : List ℕ) (a : Bool) (ks : List code.Key) (p : Path) (n c : ℕ) → a ≡ true
    → (length ks == 0) ≡ false → meets counts a (header_texts ks) p ≡ Reaches n → c ≡ get_or counts n 0
    → set counts n (c + 1) ≡ counts_behind counts a (header_texts ks) p
element_is_counted counts false ks p n c array some e is = cc
element_is_counted counts true [] p n c array some e is = cc
element_is_counted counts true (k ∷ ks) p n c array some e is =
    let one : c + 1 ≡ suc (get_or counts n 0) = omega (arith, is) in
    ap (set counts n) one ∙ ap (one_more counts) (sym e)

-- what is read within a list, whatever stands for what is not
pub read_is : (xs : List ℕ) (n c : ℕ) → n < length xs → c ≡ get_or xs n c → c ≡ get_or xs n 0
read_is [] n c within is = absurd (omega (arith, within))
read_is (x ∷ xs) zero c within is = is
read_is (x ∷ xs) (suc n) c within is = read_is xs n c (omega (arith, within)) is
