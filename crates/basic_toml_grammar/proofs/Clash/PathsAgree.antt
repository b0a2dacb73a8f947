-- The indexed path cut by cut, as the rule says it, and section by section, as proofs go by it, are the same.

use Rattle.std.proofs.Common.{◌≡◌, ℕ, zero, suc, Bool, true, false, List, [], ◌∷◌, ◌++◌, Option, Some, None, refl}
use Rattle.std.proofs.Common.{ap, sym, ◌∙◌, append_assoc, arith, length, take, drop, map, ◌<◌, ◌≤◌}
use Rattle.std.specs.Prelude.{◌&&◌, if◌then◌else◌}
use Rattle.std.proofs.lemmas.Bool.{false≢true, and_parts, and_from}
use Rattle.basic_toml_grammar.specs.Sections.{KeyTexts, texts, Section}
use Rattle.basic_toml_grammar.specs.Steps.{key, number, Path, path_eq, steps_of, keys_of}
use Rattle.basic_toml_grammar.specs.IndexedPath.{latest, key_at, count_of, cut, located_after, located_from, located}
use Rattle.basic_toml_grammar.specs.SectionClash.{without_last_number, target}
use Rattle.basic_toml_grammar.specs.Placed.{Placed, step_into, adds_element, path_of, elements_at, target_from}
use Rattle.basic_toml_grammar.specs.Placed.{element_from, placed_after, placed_from, placed}
use Rattle.basic_toml_grammar.proofs.Clash.StepTestsDecide.{step_same, paths_are, paths_same}
use Rattle.basic_toml_grammar.proofs.Clash.MarksAreWhatIsSaid.{same_truth}

-- sections where they stand, the latest first
abbrev pub offsets : List Section → List Placed
offsets [] = []
offsets (s ∷ earlier) = placed_after (offsets earlier) s ∷ offsets earlier

abbrev pub count_in : List Section → Path → ℕ
count_in earlier p = elements_at p (offsets earlier)

-- the elements after a key: one more after the last key of an array section
abbrev pub counted : Bool → KeyTexts → ℕ → ℕ
counted false keys c = c
counted true [] c = suc c
counted true (k ∷ keys) c = c

-- on from a cut by so many keys
abbrev pub cut_from : (Path → ℕ) → Bool → Path → KeyTexts → ℕ → Path
cut_from count a p keys zero = p
cut_from count a p [] (suc l) = p
cut_from count a p (k ∷ keys) (suc l) =
    cut_from count a (p ++ key k ∷ latest (counted a keys (count (p ++ key k ∷ [])))) keys l

pub append_none : {A : Type 0} (xs : List A) → xs ++ [] ≡ xs
append_none [] = refl
append_none (x ∷ xs) = ap (λ xs. x ∷ xs) (append_none xs)

-- on by all keys: the target and the element
pub whole : (count : Path → ℕ) (a : Bool) (p : Path) (keys : KeyTexts)
    → cut_from count a p keys (length keys) ≡ p
    ++ (target_from count a p keys ++ step_into (element_from count a p keys))
whole count a p [] = sym (append_none p)
whole count true p (k ∷ []) = refl
whole count false p (k ∷ []) = ap (λ q. p ++ key k ∷ q) (sym (append_none (latest (count (p ++ key k ∷ [])))))
whole count a p (k ∷ l ∷ keys) =
    ap (λ c. cut_from count a (p ++ key k ∷ latest c) (l ∷ keys) (length (l ∷ keys))) (uncounted a)
    ∙ whole count a (p ++ steps) (l ∷ keys)
    ∙ append_assoc p steps (target_from count a (p ++ steps) (l ∷ keys)
    ++ step_into (element_from count a (p ++ steps) (l ∷ keys)))
    ∙ ap (λ q. p ++ q) (sym (append_assoc steps (target_from count a (p ++ steps) (l ∷ keys))
    (step_into (element_from count a (p ++ steps) (l ∷ keys)))))
  where
    steps : Path
    steps = key k ∷ latest (count (p ++ key k ∷ []))

    uncounted : (a : Bool) → counted a (l ∷ keys) (count (p ++ key k ∷ [])) ≡ count (p ++ key k ∷ [])
    uncounted true = refl
    uncounted false = refl

-- one key more
one_more : (count : Path → ℕ) (a : Bool) (p : Path) (keys : KeyTexts) (l : ℕ) → l < length keys
    → cut_from count a p keys (suc l)
    ≡ (cut_from count a p keys l ++ key_at l keys)
    ++ latest (counted a (drop (suc l) keys) (count (cut_from count a p keys l ++ key_at l keys)))
one_more count a p [] l h = absurd (omega arith)
one_more count a p (k ∷ keys) zero h =
    sym (append_assoc p (key k ∷ []) (latest (counted a keys (count (p ++ key k ∷ [])))))
one_more count a p (k ∷ keys) (suc l) h =
    one_more count a (p ++ key k ∷ latest (counted a keys (count (p ++ key k ∷ [])))) keys l (omega arith)

pub keys-append : (p q : Path) → keys_of (p ++ q) ≡ keys_of p ++ keys_of q
keys-append [] q = refl
keys-append (key k ∷ p) q = ap (λ ks. k ∷ ks) (keys-append p q)
keys-append (number n ∷ p) q = keys-append p q

keys_latest : (c : ℕ) → keys_of (latest c) ≡ []
keys_latest zero = refl
keys_latest (suc c) = refl

-- a cut at l has the first l keys
pub keys_cut : (count : Path → ℕ) (a : Bool) (p : Path) (keys : KeyTexts) (l : ℕ)
    → keys_of (cut_from count a p keys l) ≡ keys_of p ++ take l keys
keys_cut count a p keys zero = sym (append_none (keys_of p))
keys_cut count a p [] (suc l) = sym (append_none (keys_of p))
keys_cut count a p (k ∷ keys) (suc l) =
    keys_cut count a (p ++ key k ∷ latest c) keys l
    ∙ ap (λ ks. ks ++ take l keys) (keys-append p (key k ∷ latest c) ∙ ap (λ ks. keys_of p ++ k ∷ ks) (keys_latest c))
    ∙ append_assoc (keys_of p) (k ∷ []) (take l keys)
  where
    c : ℕ
    c = counted a keys (count (p ++ key k ∷ []))

abbrev last_of : List ℕ → KeyTexts → List ℕ
last_of k [] = k
last_of k (l ∷ keys) = last_of l keys

-- the target of an array section: the cut before its last key, and that key
array_target : (count : Path → ℕ) (p : Path) (k : List ℕ) (keys : KeyTexts)
    → p ++ target_from count true p (k ∷ keys) ≡ cut_from count true p (k ∷ keys) (length keys)
    ++ key (last_of k keys) ∷ []
array_target count p k [] = refl
array_target count p k (l ∷ keys) =
    sym (append_assoc p steps (target_from count true (p ++ steps) (l ∷ keys))) ∙ array_target count (p ++ steps) l keys
  where
    steps : Path
    steps = key k ∷ latest (count (p ++ key k ∷ []))

keys_split : (k : List ℕ) (keys : KeyTexts) → k ∷ keys ≡ take (length keys) (k ∷ keys) ++ last_of k keys ∷ []
keys_split k [] = refl
keys_split k (l ∷ keys) = ap (λ ks. k ∷ ks) (keys_split l keys)

-- key l + 1, where there is one
key_there : (keys : KeyTexts) (l : ℕ) → l < length keys → (k : List ℕ) × (key_at l keys ≡ key k ∷ [])
    × (take (suc l) keys ≡ take l keys ++ k ∷ [])
key_there [] l h = absurd (omega arith)
key_there (k ∷ keys) zero h = (k, refl, refl)
key_there (k ∷ keys) (suc l) h =
    let r : (j : List ℕ) × (key_at l keys ≡ key j ∷ []) × (take (suc l) keys ≡ take l keys ++ j ∷ []) =
    key_there keys l (omega arith) in
    (r.0, r.1, ap (λ ks. k ∷ ks) r.2)

taken_length : (keys : KeyTexts) (l : ℕ) → l < length keys → length (take l keys) ≡ l
taken_length keys zero h = refl
taken_length [] (suc l) h = absurd (omega arith)
taken_length (k ∷ keys) (suc l) h = ap (λ n. suc n) (taken_length keys l (omega arith))

abbrev is_none_left : KeyTexts → Bool
is_none_left [] = true
is_none_left (k ∷ keys) = false

-- a header is its own first keys where none are left
all_taken : (keys : KeyTexts) (l : ℕ) → path_eq (steps_of keys) (steps_of (take l keys)) ≡ is_none_left (drop l keys)
all_taken [] zero = refl
all_taken [] (suc l) = refl
all_taken (k ∷ keys) zero = refl
all_taken (k ∷ keys) (suc l) = rw (step_same (key k)) (all_taken keys l)

steps_one : (ks ls : KeyTexts) → path_eq (steps_of ks) (steps_of ls) ≡ true → ks ≡ ls
steps_one ks ls e = sym (keys_steps ks) ∙ ap keys_of (paths_are (steps_of ks) (steps_of ls) e) ∙ keys_steps ls
  where
    keys_steps : (ks : KeyTexts) → keys_of (steps_of ks) ≡ ks
    keys_steps [] = refl
    keys_steps (k ∷ ks) = ap (λ ks. k ∷ ks) (keys_steps ks)

-- lists that end alike
ends_alike : {A : Type 0} (p q : List A) (s t : A) → p ++ s ∷ [] ≡ q ++ t ∷ [] → (p ≡ q) × (s ≡ t)
ends_alike [] [] s t e = (refl, cc)
ends_alike [] (y ∷ []) s t e = cc
ends_alike [] (y ∷ z ∷ q) s t e = cc
ends_alike (x ∷ []) [] s t e = cc
ends_alike (x ∷ w ∷ p) [] s t e = cc
ends_alike (x ∷ p) (y ∷ q) s t e =
    let first : x ≡ y = cc in
    let rest : (p ≡ q) × (s ≡ t) = ends_alike p q s t cc in
    let r : p ≡ q = rest.0 in
    (cc, rest.1)

-- what the cuts of a section are, where those before it are counted; and what is counted
abbrev pub CutsAre : Section → List Section → Type 0
CutsAre s earlier = (l : ℕ) → l ≤ length (texts s.header)
    → cut l (s ∷ earlier) (texts s.header) ≡ cut_from (count_in earlier) s.is_array [] (texts s.header) l

abbrev pub CountsAre : List Section → Type 0
CountsAre earlier = (p : Path) (keys : KeyTexts) (k : List ℕ) → keys_of p ≡ keys
    → count_of (cut (length keys)) (keys ++ k ∷ []) p earlier ≡ elements_at (p ++ key k ∷ []) (offsets earlier)

-- this section is counted too where it is an array section and no keys are left
self_counted : (a : Bool) (left : KeyTexts) (n : ℕ)
    → (if (a && is_none_left left) && true then suc n else n) ≡ counted a left n
self_counted true [] n = refl
self_counted true (k ∷ left) n = refl
self_counted false left n = refl

pub cuts_are : (s : Section) (earlier : List Section) → CountsAre earlier → CutsAre s earlier
cuts_are s earlier counts zero h = refl
cuts_are s earlier counts (suc l) h = go (cuts_are s earlier counts l (omega arith)) (key_there header l (omega arith))
  where
    header : KeyTexts
    header = texts s.header

    p : Path
    p = cut_from (count_in earlier) s.is_array [] header l

    step : Path → Bool → Bool → ℕ → Path
    step b whole same n = (b ++ key_at l header) ++ latest (if (s.is_array && whole) && same then suc n else n)

    go : cut l (s ∷ earlier) header ≡ p → (k : List ℕ) × (key_at l header ≡ key k ∷ [])
        × (take (suc l) header ≡ take l header ++ k ∷ [])
        → cut (suc l) (s ∷ earlier) header ≡ cut_from (count_in earlier) s.is_array [] header (suc l)
    go before r =
        ap (λ b. step b (path_eq (steps_of header) (steps_of (take (suc l) header))) (path_eq b b)
        (count_of (cut l) (take (suc l) header) b earlier)) before
        ∙ ap (λ w. step p w (path_eq p p) (count_of (cut l) (take (suc l) header) p earlier)) (all_taken header (suc l))
        ∙ ap (λ w. step p (is_none_left (drop (suc l) header)) w (count_of (cut l) (take (suc l) header) p earlier))
        (paths_same p)
        ∙ ap (λ n. step p (is_none_left (drop (suc l) header)) true n) found
        ∙ ap (λ n. (p ++ key_at l header) ++ latest n)
        (self_counted s.is_array (drop (suc l) header) (count_in earlier (p ++ key_at l header)))
        ∙ sym (one_more (count_in earlier) s.is_array [] header l (omega arith))
      where
        found : count_of (cut l) (take (suc l) header) p earlier ≡ count_in earlier (p ++ key_at l header)
        found = ap (λ n. count_of (cut n) (take (suc l) header) p earlier) (sym (taken_length header l (omega arith)))
            ∙ ap (λ ks. count_of (cut (length (take l header))) ks p earlier) r.2
            ∙ counts p (take l header) r.0 (keys_cut (count_in earlier) s.is_array [] header l)
            ∙ ap (λ q. elements_at (p ++ q) (offsets earlier)) (sym r.1)

pub adds_none : (count : Path → ℕ) (p : Path) (keys : KeyTexts) → adds_element (element_from count false p keys) ≡ false
adds_none count p [] = refl
adds_none count p (k ∷ []) = refl
adds_none count p (k ∷ l ∷ keys) = adds_none count (p ++ key k ∷ latest (count (p ++ key k ∷ []))) (l ∷ keys)

pub adds_one : (count : Path → ℕ) (p : Path) (k : List ℕ) (keys : KeyTexts)
    → adds_element (element_from count true p (k ∷ keys)) ≡ true
adds_one count p k [] = refl
adds_one count p k (l ∷ keys) = adds_one count (p ++ key k ∷ latest (count (p ++ key k ∷ []))) l keys

no_header : (keys : KeyTexts) (k : List ℕ) → path_eq (steps_of []) (steps_of (keys ++ k ∷ [])) ≡ false
no_header [] k = refl
no_header (j ∷ keys) k = refl

-- an array section stands at this key after this path, by its header and its cut, or by its target
tests_agree : (a : Bool) (header : KeyTexts) (count : Path → ℕ) (its : Path) (p : Path) (keys : KeyTexts) (k : List ℕ)
    → keys_of p ≡ keys
    → (length keys ≤ length header → its ≡ cut_from count a [] header (length keys))
    → ((a && path_eq (steps_of header) (steps_of (keys ++ k ∷ []))) && path_eq its p)
    ≡ (adds_element (element_from count a [] header) && path_eq (target_from count a [] header) (p ++ key k ∷ []))
tests_agree false header count its p keys k e c =
    ap (λ b. b && path_eq (target_from count false [] header) (p ++ key k ∷ [])) (sym (adds_none count [] header))
tests_agree true [] count its p keys k e c = ap (λ b. b && path_eq its p) (no_header keys k)
tests_agree true (i ∷ is) count its p keys k e c =
    same_truth _ _ forth back ∙
    ap (λ b. b && path_eq (target_from count true [] (i ∷ is)) (p ++ key k ∷ [])) (sym (adds_one count [] i is))
  where
    shorter : length is < length (i ∷ is)
    shorter = omega arith

    -- the header as keys and a last one
    lengths : keys ≡ take (length is) (i ∷ is) → length keys ≡ length is
    lengths f = ap length f ∙ taken_length (i ∷ is) (length is) shorter

    cut_there : length keys ≡ length is → its ≡ cut_from count true [] (i ∷ is) (length is)
    cut_there f = c (omega arith) ∙ ap (λ n. cut_from count true [] (i ∷ is) n) f

    forth : ((path_eq (steps_of (i ∷ is)) (steps_of (keys ++ k ∷ []))) && path_eq its p) ≡ true
        → path_eq (target_from count true [] (i ∷ is)) (p ++ key k ∷ []) ≡ true
    forth f =
        let h : (path_eq (steps_of (i ∷ is)) (steps_of (keys ++ k ∷ [])) ≡ true) × (path_eq its p ≡ true) =
        and_parts _ _ f in
        let same : i ∷ is ≡ keys ++ k ∷ [] = steps_one (i ∷ is) (keys ++ k ∷ []) h.0 in
        let ends : (keys ≡ take (length is) (i ∷ is)) × (k ≡ last_of i is) =
        ends_alike keys (take (length is) (i ∷ is)) k (last_of i is) (sym same ∙ keys_split i is) in
        let at_p : its ≡ p = paths_are its p h.1 in
        let there : target_from count true [] (i ∷ is) ≡ p ++ key k ∷ [] =
        array_target count [] i is ∙
        ap (λ q. q ++ key (last_of i is) ∷ []) (sym (cut_there (lengths ends.0)) ∙ at_p) ∙
        ap (λ j. p ++ key j ∷ []) (sym ends.1) in
        rw there (paths_same (p ++ key k ∷ []))

    back : path_eq (target_from count true [] (i ∷ is)) (p ++ key k ∷ []) ≡ true
        → ((path_eq (steps_of (i ∷ is)) (steps_of (keys ++ k ∷ []))) && path_eq its p) ≡ true
    back f =
        let there : target_from count true [] (i ∷ is) ≡ p ++ key k ∷ [] = paths_are _ _ f in
        let ends : (cut_from count true [] (i ∷ is) (length is) ≡ p) × (key (last_of i is) ≡ key k) =
        ends_alike (cut_from count true [] (i ∷ is) (length is)) p (key (last_of i is)) (key k)
        (sym (array_target count [] i is) ∙ there) in
        let taken : keys ≡ take (length is) (i ∷ is) = sym e ∙ ap keys_of (sym ends.0) ∙
        keys_cut count true [] (i ∷ is) (length is) in
        let last : last_of i is ≡ k = cc in
        let same : i ∷ is ≡ keys ++ k ∷ [] = keys_split i is ∙ ap (λ ks. ks ++ last_of i is ∷ []) (sym taken) ∙
        ap (λ j. keys ++ j ∷ []) last in
        let at_p : its ≡ p = cut_there (lengths taken) ∙ ends.0 in
        let left : path_eq (steps_of (i ∷ is)) (steps_of (keys ++ k ∷ [])) ≡ true =
        ap (λ ks. path_eq (steps_of ks) (steps_of (keys ++ k ∷ []))) same ∙
        paths_same (steps_of (keys ++ k ∷ [])) in
        let right : path_eq its p ≡ true = ap (λ q. path_eq q p) at_p ∙ paths_same p in
        and_from _ _ left right

pub counts_are : (earlier : List Section) → CountsAre earlier
counts_are [] p keys k e = refl
counts_are (j ∷ earlier) p keys k e =
    ap (λ b. if b then suc R else R)
    (tests_agree j.is_array (texts j.header) (count_in earlier) (cut (length keys) (j ∷ earlier) (texts j.header))
    p keys k e
    (λ h. cuts_are j earlier (counts_are earlier) (length keys) h))
    ∙ ap (λ n. if adds_element (element_from (count_in earlier) j.is_array [] (texts j.header)) && path_eq
    (target_from (count_in earlier) j.is_array [] (texts j.header)) (p ++ key k ∷ []) then suc n else n)
    (counts_are earlier p keys k e)
  where
    R : ℕ
    R = count_of (cut (length keys)) (keys ++ k ∷ []) p earlier

-- the indexed path of a section is its target and its own element
pub path_is : (s : Section) (earlier : List Section)
    → (located_after earlier s).path ≡ path_of (placed_after (offsets earlier) s)
path_is s earlier = cuts_are s earlier (counts_are earlier) (length (texts s.header)) (omega arith)
    ∙ whole (count_in earlier) s.is_array [] (texts s.header)

paths_from : (earlier sections : List Section)
    → map (λ l. l.path) (located_from earlier sections) ≡ map path_of (placed_from (offsets earlier) sections)
paths_from earlier [] = refl
paths_from earlier (s ∷ sections) =
    ap (λ p. p ∷ map (λ l. l.path) (located_from (s ∷ earlier) sections)) (path_is s earlier)
    ∙ ap (λ ps. path_of (placed_after (offsets earlier) s) ∷ ps) (paths_from (s ∷ earlier) sections)

pub paths_agree : (sections : List Section) → map (λ l. l.path) (located sections) ≡ map path_of (placed sections)
paths_agree sections = paths_from [] sections

without_number : (p : Path) (n : ℕ) → without_last_number (p ++ number n ∷ []) ≡ p
without_number [] n = refl
without_number (key k ∷ []) n = refl
without_number (number m ∷ []) n = refl
without_number (s ∷ t ∷ p) n = ap (λ q. s ∷ q) (without_number (t ∷ p) n)

-- where a header leads is the target
target_by : (a : Bool) (e : Option ℕ) (t : Path) → (a ≡ false → e ≡ None) → (e ≡ None → (a ≡ true) → t ≡ [])
    → (if a then without_last_number (t ++ step_into e) else t ++ step_into e) ≡ t
target_by true (Some n) t f g = without_number t n
target_by true None t f g = rw (g refl refl) refl
target_by false None t f g = append_none t
target_by false (Some n) t f g = let h : Some n ≡ None = f refl in cc

no_element : (count : Path → ℕ) (a : Bool) (p : Path) (keys : KeyTexts) → a ≡ false → element_from count a p keys ≡ None
no_element count a p [] e = refl
no_element count a p (k ∷ []) e = rw e refl
no_element count a p (k ∷ l ∷ keys) e = no_element count a (p ++ key k ∷ latest (count (p ++ key k ∷ []))) (l ∷ keys) e

no_target : (count : Path → ℕ) (a : Bool) (p : Path) (keys : KeyTexts) → element_from count a p keys ≡ None → a ≡ true
    → target_from count a p keys ≡ []
no_target count a p [] e f = refl
no_target count a p (k ∷ keys) e f =
    absurd (false≢true (ap adds_element (sym e) ∙ ap (λ a. adds_element (element_from count a p (k ∷ keys))) f ∙
    adds_one count p k keys))

pub target_is : (s : Section) (earlier : List Section)
    → target (located_after earlier s) ≡ (placed_after (offsets earlier) s).target
target_is s earlier = ap (λ p. if s.is_array then without_last_number p else p) (path_is s earlier)
    ∙ target_by s.is_array (element_from (count_in earlier) s.is_array [] (texts s.header))
    (target_from (count_in earlier) s.is_array [] (texts s.header))
    (no_element (count_in earlier) s.is_array [] (texts s.header))
    (no_target (count_in earlier) s.is_array [] (texts s.header))
