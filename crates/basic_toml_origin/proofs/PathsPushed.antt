-- What the steps that are pushed are as a path, and what is left of rows and elements to look in.
use Rattle.std.proofs.Common.{◌≡◌, ℕ, suc, ◌+◌, ◌≤◌, ◌<◌, Bool, true, false, List, [], ◌∷◌, ◌++◌, Option, Some, None}
use Rattle.std.proofs.Common.{refl, ap, sym, ◌∙◌, subst, append_assoc, arith, cond, drop, get_or, length}
use Rattle.std.proofs.Common.{append-nil, map, take}
use Rattle.std.specs.Prelude.{◌==◌, option_map}
use Rattle.std.specs.Option.{option_or}
use Rattle.std.proofs.Math.Seq.{take-append-add}
use Rattle.std.proofs.lemmas.List.{drop_more, length-append, length-map, length-take, map-append, take-append-le}
use Rattle.std.proofs.lemmas.List.{take-map, take_more}
use Rattle.basic_toml_grammar.specs.Sections.{texts, Key, Elements, Rows}
use Rattle.basic_toml_grammar.specs.Steps.{key, number, Path, steps_of}
use Rattle.basic_toml_places.specs.Places.{Test, key_number, here_or, path_among, path_by, path_within}
use Rattle.basic_toml_read.specs.declared.section.Element.{Element, out-Element}
use Rattle.basic_toml_read.specs.declared.section.Key as code
use Rattle.basic_toml_read.specs.declared.section.Row.{Row, out-Row}
use Rattle.basic_toml_read.specs.SectionView.{Lined, Placed, key_of, raw_of, placed_of, lined_of}
use Rattle.basic_toml_read.specs.SectionView.{elements_from, rows_from}
use Rattle.basic_toml_read.proofs.ViewsSeen.{placed_is}
use Rattle.basic_toml_read.proofs.NextRow.{lined_is, next_row}
use Rattle.basic_toml_origin.specs.declared.query.Query.{Query}
use Rattle.basic_toml_origin.specs.declared.query.Query.TheVariants as variants
use Rattle.basic_toml_origin.specs.declared.step.Step.{Step}
use Rattle.basic_toml_origin.specs.Path.{path_of, step_of}
use Rattle.basic_toml_origin.specs.Query.{PushesIfFound, path_at_row, test_of}

-- one more key
steps_more : (ks : List Key) (k : Key) → steps_of (texts (ks ++ k ∷ [])) ≡ steps_of (texts ks) ++ key k.text ∷ []
steps_more [] k = refl
steps_more (l ∷ ks) k = ap (λ p. key l.text ∷ p) (steps_more ks k)

pub key_pushed : (before between : List Step) (ks : List Key) (k : Key) (s : Step)
    → path_of between ≡ path_of before ++ steps_of (texts ks) → step_of s ≡ key k.text
    → path_of (between ++ s ∷ []) ≡ path_of before ++ steps_of (texts (ks ++ k ∷ []))
key_pushed before between ks k s so_far is =
    map-append step_of between (s ∷ [])
    ∙ ap (λ p. p ++ step_of s ∷ []) so_far
    ∙ ap (λ t. (path_of before ++ steps_of (texts ks)) ++ t ∷ []) is
    ∙ append_assoc (path_of before) (steps_of (texts ks)) (key k.text ∷ [])
    ∙ ap (λ p. path_of before ++ p) (sym (steps_more ks k))

pub next_key_pushed : (before between : List Step) (keys : List code.Key) (i : ℕ) (k : code.Key) (s : Step)
    → i < length keys → k ≡ get_or keys i k
    → path_of between ≡ path_of before ++ steps_of (texts (map key_of (take i keys)))
    → step_of s ≡ key (key_of k).text
    → path_of (between ++ s ∷ []) ≡ path_of before ++ steps_of (texts (map key_of (take (i + 1) keys)))
next_key_pushed before between keys i k s within is so_far step_is =
    key_pushed before between (map key_of (take i keys)) (key_of k) s so_far step_is
    ∙ ap (λ ks. path_of before ++ steps_of (texts ks)) (sym more)
  where
    more : map key_of (take (i + 1) keys) ≡ map key_of (take i keys) ++ key_of k ∷ []
    more =
        ap (λ (ks : List code.Key). map key_of ks)
        (take_more keys i k within ∙ ap (λ (x : code.Key). take i keys ++ x ∷ []) (sym is))
        ∙ map-append key_of (take i keys) (k ∷ [])

-- the steps before are still there
pub still_there : (before between more : List Step) → take (length before) between ≡ before
    → take (length before) (between ++ more) ≡ before
still_there before between more e =
    take-append-le (length before) between more
    (omega (arith, ap length e, length-take (length before) between)) ∙ e

-- what is found in the first of two is found, and where nothing is found there the second is left
found_first : (found : Bool) (first others : Option Path) (before after : List Step)
    → PushesIfFound found first before after → found ≡ true → PushesIfFound true (option_or first others) before after
found_first false first others before after f is_found = cc
found_first true None others before after f is_found = absurd f
found_first true (Some p) others before after f is_found = f

others_left : (found : Bool) (first others : Option Path) (before after : List Step)
    → PushesIfFound found first before after → found ≡ false → (after ≡ before) × (option_or first others ≡ others)
others_left false first others before after f not_found = (f.1, ap (λ o. option_or o others) f.0)
others_left true first others before after f not_found = cc

-- what is found behind some steps is found with these in front
found_behind : (found : Bool) (query : Option Path) (q : Path) (before between after : List Step)
    → path_of between ≡ path_of before ++ q → PushesIfFound found query between after → found ≡ true
    → PushesIfFound true (option_map (λ p. q ++ p) query) before after
found_behind false query q before between after e f is_found = cc
found_behind true None q before between after e f is_found = absurd f
found_behind true (Some p) q before between after e f is_found =
    f ∙ ap (λ r. r ++ p) e ∙ append_assoc (path_of before) q p

not_behind : (found : Bool) (query : Option Path) (q : Path) (between after : List Step)
    → PushesIfFound found query between after → found ≡ false
    → (after ≡ between) × (option_map (λ p. q ++ p) query ≡ None)
not_behind false query q between after f not_found = (f.1, ap (option_map (λ p. q ++ p)) f.0)
not_behind true query q between after f not_found = cc

-- so many of the keys lead there at most
key_number_within : (o n : ℕ) (keys : List Key) → key_number o keys ≡ Some n → n ≤ length keys
key_number_within o n [] e = cc
key_number_within o n (k ∷ keys) e = go (o == k.offset) (key_number o keys) (λ m. key_number_within o m keys) e
  where
    go : (b : Bool) (other : Option ℕ) → ((m : ℕ) → other ≡ Some m → m ≤ length keys)
        → cond b (Some 1) (option_map suc other) ≡ Some n → n ≤ suc (length keys)
    go true other h e = let one : 1 ≡ n = cc in omega arith
    go false None h e = cc
    go false (Some m) h e = let one : suc m ≡ n = cc in omega (arith, h m refl)

pub keys_within : (query : Query) (keys : List Key) (at n : ℕ) → test_of query keys at ≡ Some n → n ≤ length keys
keys_within (variants.Key o) keys at n e = key_number_within o n keys e
keys_within (variants.Value o) keys at n e = go (o == at) e
  where
    go : (b : Bool) → cond b (Some (length keys)) None ≡ Some n → n ≤ length keys
    go true e = let all : length keys ≡ n = cc in omega arith
    go false e = cc

steps_length : (keys : List Key) → length (steps_of (texts keys)) ≡ length keys
steps_length [] = refl
steps_length (k ∷ keys) = ap suc (steps_length keys)

pub pushed_length : (before between : List Step) (keys : List Key)
    → path_of between ≡ path_of before ++ steps_of (texts keys) → length between ≡ length before + length keys
pushed_length before between keys steps =
    omega (
      arith,
      ap length steps,
      length-map between step_of,
      length-map before step_of,
      steps_length keys,
      length-append (path_of before) (steps_of (texts keys)),
    )

-- At some of the keys of a row or at its value, where all keys were pushed and are cut to those that lead there; and
-- within the value, where none of them does.
pub found_at_keys : (test : Test) (parents : List code.Key) (r : Row) (n : ℕ) (before between after : List Step)
    → test (map key_of parents ++ (lined_of r).key ∷ []) (lined_of r).start ≡ Some n
    → path_of between ≡ path_of before ++ steps_of (texts (map key_of parents ++ (lined_of r).key ∷ []))
    → after ≡ take (length before + n) between
    → PushesIfFound true (path_at_row test (map key_of parents) (lined_of r)) before after
found_at_keys test parents r n before between after is pushed cut =
    rw is
    (ap path_of cut ∙ sym (take-map step_of (length before + n) between) ∙ ap (take (length before + n)) pushed
    ∙ ap (λ m. take (m + n) (path_of before ++ steps)) (sym (length-map before step_of))
    ∙ take-append-add (path_of before) steps n)
  where
    steps : Path
    steps = steps_of (texts (map key_of parents ++ (lined_of r).key ∷ []))

pub found_in_value : (test : Test) (parents : List code.Key) (r : Row) (found : Bool) (before between after : List Step)
    → test (map key_of parents ++ (lined_of r).key ∷ []) (lined_of r).start ≡ None
    → path_of between ≡ path_of before ++ steps_of (texts (map key_of parents ++ (lined_of r).key ∷ []))
    → PushesIfFound found (path_within test (raw_of (out-Row r).value)) between after → found ≡ true
    → PushesIfFound true (path_at_row test (map key_of parents) (lined_of r)) before after
found_in_value test parents r found before between after is pushed within e =
    rw is
    (found_behind found (path_within test (lined_of r).value)
    (steps_of (texts (map key_of parents ++ (lined_of r).key ∷ []))) before between after pushed
    (subst (λ (l : Lined). PushesIfFound found (path_within test l.value) between after) (sym (lined_is r)) within) e)

-- by the first of the rows that are left, else by the others
by_first : (test : Test) (left own : List code.Key) (rows : List Row) (i : ℕ) (r : Row) → i < length rows
    → r ≡ get_or rows i r → own ≡ take (out-Row r).parents left
    → path_by test (rows_from (map key_of left) (map lined_of (drop i rows)))
    ≡ option_or (path_at_row test (map key_of own) (lined_of r))
    (path_by test (rows_from (map key_of (drop (out-Row r).parents left)) (map lined_of (drop (i + 1) rows))))
by_first test left own rows i r within is owned =
    ap (path_by test) (next_row left rows i r within is)
    ∙ ap (λ (ks : List code.Key). option_or (path_at_row test (map key_of ks) (lined_of r))
    (path_by test (rows_from (map key_of (drop (out-Row r).parents left)) (map lined_of (drop (i + 1) rows)))))
    (sym owned)

pub found_by_row : (test : Test) (all : Rows) (left own : List code.Key) (rows : List Row) (i : ℕ) (r : Row)
    (start before after : List Step) (found : Bool) → i < length rows → r ≡ get_or rows i r
    → own ≡ take (out-Row r).parents left → before ≡ start
    → path_by test all ≡ path_by test (rows_from (map key_of left) (map lined_of (drop i rows)))
    → PushesIfFound found (path_at_row test (map key_of own) (lined_of r)) before after → found ≡ true
    → PushesIfFound true (path_by test all) start after
found_by_row test all left own rows i r start before after found within is owned same query pushed e =
    subst (λ (s : Option Path). PushesIfFound true s start after)
    (sym (query ∙ by_first test left own rows i r within is owned))
    (subst (λ (ss : List Step). PushesIfFound true (option_or here others) ss after) same
    (found_first found here others before after pushed e))
  where
    here : Option Path
    here = path_at_row test (map key_of own) (lined_of r)

    others : Option Path
    others =
        path_by test (rows_from (map key_of (drop (out-Row r).parents left)) (map lined_of (drop (i + 1) rows)))

pub not_by_row : (test : Test) (all : Rows) (left own : List code.Key) (rows : List Row) (i : ℕ) (r : Row)
    (before after : List Step) (found : Bool) → i < length rows → r ≡ get_or rows i r
    → own ≡ take (out-Row r).parents left
    → path_by test all ≡ path_by test (rows_from (map key_of left) (map lined_of (drop i rows)))
    → PushesIfFound found (path_at_row test (map key_of own) (lined_of r)) before after → found ≡ false
    → (after ≡ before)
    × (path_by test all
    ≡ path_by test (rows_from (map key_of (drop (out-Row r).parents left)) (map lined_of (drop (i + 1) rows))))
not_by_row test all left own rows i r before after found within is owned query pushed e =
    let none = others_left found (path_at_row test (map key_of own) (lined_of r))
    (path_by test (rows_from (map key_of (drop (out-Row r).parents left)) (map lined_of (drop (i + 1) rows))))
    before after pushed e in
    (none.0, query ∙ by_first test left own rows i r within is owned ∙ none.1)

-- the same of elements
abbrev pub element_path : Test → Element → Option Path
element_path test e = here_or test [] (out-Element e).offset (path_within test (raw_of (out-Element e).value))

among_first : (test : Test) (n : ℕ) (elements : List Element) (e : Element) → n < length elements
    → e ≡ get_or elements n e
    → path_among test n (elements_from (map placed_of (drop n elements)))
    ≡ option_or (option_map (λ p. number n ∷ p) (element_path test e))
    (path_among test (n + 1) (elements_from (map placed_of (drop (n + 1) elements))))
among_first test n elements e within is =
    let next : suc n ≡ n + 1 = omega arith in
    ap (λ (es : List Element). path_among test n (elements_from (map placed_of es)))
    (drop_more elements n e within ∙ ap (λ (x : Element). x ∷ drop (n + 1) elements) (sym is))
    ∙ ap (λ (x : Placed). option_or
    (option_map (λ p. number n ∷ p) (here_or test [] x.offset (path_within test x.value)))
    (path_among test (suc n) (elements_from (map placed_of (drop (n + 1) elements))))) (placed_is e)
    ∙ ap (λ m. option_or (option_map (λ p. number n ∷ p) (element_path test e))
    (path_among test m (elements_from (map placed_of (drop (n + 1) elements))))) next

-- at an element, within it, and not there
pub element_here : (test : Test) (e : Element) (steps after : List Step) → test [] (out-Element e).offset ≡ Some 0
    → after ≡ steps → PushesIfFound true (element_path test e) steps after
element_here test e steps after is same =
    rw is (ap (λ (ss : List Step). path_of ss) same ∙ sym (append-nil (path_of steps)))

pub element_within : (test : Test) (e : Element) (found : Bool) (steps after : List Step)
    → test [] (out-Element e).offset ≡ None
    → PushesIfFound found (path_within test (raw_of (out-Element e).value)) steps after → found ≡ true
    → PushesIfFound true (element_path test e) steps after
element_within test e found steps after elsewhere pushed is_found =
    rw elsewhere
    (found_behind found (path_within test (raw_of (out-Element e).value)) [] steps steps after
    (sym (append-nil (path_of steps))) pushed is_found)

pub found_among : (test : Test) (n : ℕ) (all : Elements) (elements : List Element) (e : Element)
    (start before between after : List Step) (s : Step) → n < length elements → e ≡ get_or elements n e
    → path_among test 0 all ≡ path_among test n (elements_from (map placed_of (drop n elements)))
    → before ≡ start → between ≡ before ++ s ∷ [] → step_of s ≡ number n
    → PushesIfFound true (element_path test e) between after → PushesIfFound true (path_among test 0 all) start after
found_among test n all elements e start before between after s within is query same pushed step_is found =
    subst (λ (o : Option Path). PushesIfFound true o start after)
    (sym (query ∙ among_first test n elements e within is))
    (found_first true (option_map (λ p. number n ∷ p) (element_path test e))
    (path_among test (n + 1) (elements_from (map placed_of (drop (n + 1) elements)))) start after
    (found_behind true (element_path test e) (number n ∷ []) start between after
    (ap (λ (ss : List Step). path_of ss) (pushed ∙ ap (λ (ss : List Step). ss ++ s ∷ []) same)
    ∙ map-append step_of start (s ∷ []) ∙ ap (λ t. path_of start ++ t ∷ []) step_is) found refl)
    refl)

pub not_among : (test : Test) (n : ℕ) (all : Elements) (elements : List Element) (e : Element)
    (between after : List Step) (found : Bool) → n < length elements → e ≡ get_or elements n e
    → path_among test 0 all ≡ path_among test n (elements_from (map placed_of (drop n elements)))
    → test [] (out-Element e).offset ≡ None
    → PushesIfFound found (path_within test (raw_of (out-Element e).value)) between after → found ≡ false
    → (after ≡ between)
    × (path_among test 0 all ≡ path_among test (n + 1) (elements_from (map placed_of (drop (n + 1) elements))))
not_among test n all elements e between after found within is query elsewhere pushed not_found =
    let none = not_behind found (path_within test (raw_of (out-Element e).value)) [] between after pushed not_found in
    let absent : element_path test e ≡ None = rw elsewhere none.1 in (
      none.0,
      query ∙ among_first test n elements e within is
          ∙ ap (λ o. option_or (option_map (λ p. number n ∷ p) o)
          (path_among test (n + 1) (elements_from (map placed_of (drop (n + 1) elements))))) absent,
    )
