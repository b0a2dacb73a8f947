-- A row stops at a mark that stood before its section only where it lies on an earlier header, or crosses one, and its
-- fault is one of these two sections.
use Rattle.std.proofs.Common.{◌≡◌, ℕ, zero, suc, ◌+◌, ◌<◌, true, false, List, [], ◌∷◌, ◌++◌}
use Rattle.std.proofs.Common.{refl, ap, sym, ◌∙◌, subst, append_assoc, arith, length, take, length-append}
use Rattle.std.specs.Prelude.{◌-◌}
use Rattle.std.proofs.lemmas.Bool.{false≢true, and_parts}
use Rattle.std.proofs.lemmas.List.{length-map}
use Rattle.basic_toml_value.specs.Data.{Data}
use Rattle.basic_toml_grammar.specs.Sections.{Key, KeyTexts, texts, Section}
use Rattle.basic_toml_grammar.specs.Steps.{key, Path, step_eq, begins, steps_of, keys_of}
use Rattle.basic_toml_grammar.specs.IndexedPath.{located_after}
use Rattle.basic_toml_grammar.specs.SectionClash.{target, row_on_path, row_crossed}
use Rattle.basic_toml_grammar.specs.Placed.{path_of, is_short, is_inner, crosses}
use Rattle.basic_toml_grammar.specs.Marks.{MarkKind, named, added, valued, Mark, mark}
use Rattle.basic_toml_grammar.specs.Standing.{fits, standing_at}
use Rattle.basic_toml_grammar.specs.Entering.{is_keyed}
use Rattle.basic_toml_grammar.specs.NamedClash.{nth_key, key_fault, pair_faults, crossing_fault, row_faults}
use Rattle.basic_toml_grammar.specs.Stops.{Stop, at_row, stop_fault}
use Rattle.basic_toml_grammar.proofs.AmongElements.{Among}
use Rattle.basic_toml_grammar.proofs.Clash.StepTestsDecide.{step_is}
use Rattle.basic_toml_grammar.proofs.Clash.WhatSectionsSay.{KeysSay}
use Rattle.basic_toml_grammar.proofs.Clash.PathsAgree.{keys-append}
use Rattle.basic_toml_grammar.proofs.Clash.ClashesAgree.{crossed_is}
use Rattle.basic_toml_grammar.proofs.Clash.SectionsLeaveMarks.{Made, Past}
use Rattle.basic_toml_grammar.proofs.Naming.WhereHeadersStop.{is_header}
use Rattle.basic_toml_grammar.proofs.Clash.MarksTellPlaces.{Role, role, way, RowOf}
use Rattle.basic_toml_grammar.proofs.Clash.MarksTellPlaces.{valued_at, inner_short, dotted_at, crosses_after}
use Rattle.basic_toml_grammar.proofs.Naming.PairsAreNamed.{on_path_fault, crossed_fault, row_later_fault, PairFault}
use Rattle.basic_toml_grammar.proofs.Naming.HeaderStopsAreNamed.{there, keys_steps, keys_all, header_length}
use Rattle.basic_toml_grammar.proofs.Naming.HeaderStopsAreNamed.{target_length, alike_there, row_length, no_number}
use Rattle.basic_toml_grammar.proofs.Naming.HeaderStopsAreNamed.{maker, maker_at, maker_alike, says_of, found}
use Rattle.basic_toml_grammar.proofs.Naming.WhereRowsStop.{keys_before, steps_to_key, AtEnd, Reason, names_it, adds_it}
use Rattle.basic_toml_grammar.proofs.Naming.WhereRowsStop.{ends_before, on_its_way, repeats_it, RowHit}
use Rattle.basic_toml_grammar.proofs.Clash.EarlierRowsAreNotMet.{row_keyed, some_length, keyed_rows, no_row}

-- the keys of an earlier header that the row goes along
texts_take : (n : ℕ) (keys : List Key) → texts (take n keys) ≡ take n (texts keys)
texts_take zero keys = refl
texts_take (suc n) [] = refl
texts_take (suc n) (k ∷ keys) = ap (λ ks. k.text ∷ ks) (texts_take n keys)

taken : {A : Type 0} (xs ys : List A) → take (length xs) (xs ++ ys) ≡ xs
taken [] ys = refl
taken (x ∷ xs) ys = ap (λ xs. x ∷ xs) (taken xs ys)

one_more : (m : ℕ) (keys : List Key) → m < length keys
    → texts (take (suc m) keys) ≡ keys_before m keys ++ (nth_key m keys).text ∷ []
one_more m [] h = absurd (omega arith)
one_more zero (k ∷ keys) h = refl
one_more (suc m) (k ∷ keys) h = ap (λ ks. k.text ∷ ks) (one_more m keys (omega arith))

before_length : (m : ℕ) (keys : List Key) → m < length keys → length (keys_before m keys) ≡ m
before_length zero keys h = refl
before_length (suc m) [] h = absurd (omega arith)
before_length (suc m) (k ∷ keys) h = ap (λ n. suc n) (before_length m keys (omega arith))

along : (header : List Key) (keys : List Key) (m : ℕ) (other : List Key) (r : KeyTexts) → m < length keys
    → texts other ≡ (texts header ++ texts (take (suc m) keys)) ++ r
    → texts (take (length header + m) other) ≡ texts header ++ keys_before m keys
along header keys m other r h e =
    texts_take (length header + m) other ∙ ap (λ ks. take (length header + m) ks) (e ∙ split) ∙
    ap (λ n. take n ((texts header ++ keys_before m keys) ++ ((nth_key m keys).text ∷ r))) (sym long) ∙
    taken (texts header ++ keys_before m keys) ((nth_key m keys).text ∷ r)
  where
    long : length (texts header ++ keys_before m keys) ≡ length header + m
    long = length-append (texts header) (keys_before m keys)
        ∙ ap (λ n. n + length (keys_before m keys)) (length-map header (λ k. k.text))
        ∙ ap (λ n. length header + n) (before_length m keys h)

    split : (texts header ++ texts (take (suc m) keys)) ++ r
        ≡ (texts header ++ keys_before m keys) ++ ((nth_key m keys).text ∷ r)
    split = ap (λ ks. (texts header ++ ks) ++ r) (one_more m keys h)
        ∙ ap (λ ks. ks ++ r) (sym (append_assoc (texts header) (keys_before m keys) ((nth_key m keys).text ∷ [])))
        ∙ append_assoc (texts header ++ keys_before m keys) ((nth_key m keys).text ∷ []) r

record Rest (p q : Path) : Type 0 where
  path : Path
  is : q ≡ p ++ path

rest_after : (p q : Path) → begins p q ≡ true → Rest p q
rest_after [] q e = record { path = q; is = refl }
rest_after (s ∷ p) [] e = absurd (false≢true e)
rest_after (s ∷ p) (t ∷ q) e =
    let a : (step_eq s t ≡ true) × (begins p q ≡ true) = and_parts _ _ e in
    more (rest_after p q a.1) (step_is s t a.0)
  where
    more : Rest p q → s ≡ t → Rest (s ∷ p) (t ∷ q)
    more h i = record { path = h.path; is = ap (λ q. t ∷ q) h.is ∙ ap (λ s. s ∷ (p ++ h.path)) (sym i) }

inner_within : (m : ℕ) (keys : List Key) → is_short (steps_to_key m keys) (steps_of (texts keys)) ≡ true
    → m < length keys
inner_within m [] e = absurd (false≢true e)
inner_within zero (k ∷ keys) e = omega arith
inner_within (suc m) (k ∷ keys) e =
    let a : (step_eq (key k.text) (key k.text) ≡ true)
    × (is_short (steps_to_key m keys) (steps_of (texts keys)) ≡ true) = and_parts _ _ e in
    let h : m < length keys = inner_within m keys a.1 in omega arith

-- the keys of an earlier header on whose way the row stops
header_along : (b : List Section) (s : Section) (i : Section) (e : List Section) (keys : List Key) (m : ℕ)
    → m < length keys → begins (path_of (there b s) ++ steps_to_key m keys) (path_of (there e i)) ≡ true
    → texts (take (length s.header + m) i.header) ≡ texts s.header ++ keys_before m keys
header_along b s i e keys m h w =
    along s.header keys m i.header (keys_of r.path) h
    (sym (keys_all e i) ∙ ap keys_of r.is ∙ keys-append (p ++ steps_to_key m keys) r.path
    ∙ ap (λ ks. ks ++ keys_of r.path) (keys-append p (steps_to_key m keys)
    ∙ ap (λ ks. ks ++ keys_of (steps_to_key m keys)) (keys_all b s)
    ∙ ap (λ ks. texts s.header ++ ks) (keys_steps (texts (take (suc m) keys)))))
  where
    p : Path
    p = path_of (there b s)

    r : Rest (p ++ steps_to_key m keys) (path_of (there e i))
    r = rest_after (p ++ steps_to_key m keys) (path_of (there e i)) w

-- the fault of the two sections, by the number of keys
crossing : (b : List Section) (s : Section) (i : Section) (e : List Section) (keys : List Key) (m n : ℕ)
    → n ≡ suc m → texts (take (length s.header + m) i.header) ≡ texts s.header ++ keys_before m keys
    → Among (crossing_fault (length s.header) n keys i.header false)
    (row_faults (located_after b s) s.rows (located_after e i) false)
    → Among (stop_fault s (at_row (keys_before m keys) (nth_key m keys)))
    (pair_faults (located_after e i) (located_after b s))
crossing b s i e keys m n h t a = row_later_fault (located_after e i) (located_after b s)
    (subst (λ f. Among f (row_faults (located_after b s) s.rows (located_after e i) false)) same a)
  where
    first_number : n - 1 ≡ m
    first_number = omega arith

    last_number : length s.header + n - 1 ≡ length s.header + m
    last_number = omega arith

    same : crossing_fault (length s.header) n keys i.header false
        ≡ stop_fault s (at_row (keys_before m keys) (nth_key m keys))
    same = ap (λ j. key_fault (nth_key j keys) (texts (take (length s.header + n - 1) i.header))) first_number
        ∙ ap (λ j. key_fault (nth_key m keys) (texts (take j i.header))) last_number
        ∙ ap (λ ks. key_fault (nth_key m keys) ks) t

-- its last key lies on the way of an earlier header
lies_on : (b : List Section) (s : Section) (keys : List Key) (v : Data) (m : ℕ) (k : MarkKind) → is_keyed s ≡ true
    → RowOf s.rows keys v → steps_to_key m keys ≡ steps_of (texts keys) → AtEnd keys m → is_header k ≡ true
    → Made b (mark (path_of (there b s) ++ steps_to_key m keys) k)
    → PairFault b s (stop_fault s (at_row (keys_before m keys) (nth_key m keys)))
lies_on b s keys v m k y o e d h made =
    found made (crossing b s made.section made.earlier keys m (length keys) count
    (header_along b s made.section made.earlier keys m (let c : length keys ≡ suc m = count in omega arith) w)
    (on_path_fault (located_after b s) (maker_at made) false o over))
  where
    p : Path
    p = path_of (there b s)

    w : begins (p ++ steps_to_key m keys) (path_of (maker made)) ≡ true
    w = way (maker made).element (maker made).target (p ++ steps_to_key m keys) k (role (says_of made) h)

    count : length keys ≡ suc m
    count = some_length keys (row_keyed o (keyed_rows s y)) ∙ ap (λ n. suc n) d.count

    over : row_on_path (located_after b s).path (steps_of (texts keys)) (maker_at made) ≡ true
    over = ap (λ p. begins (p ++ steps_of (texts keys)) (maker_at made).path) (alike_there b s y).path
        ∙ ap (λ q. begins (p ++ steps_of (texts keys)) q) (maker_alike made).path
        ∙ ap (λ q. begins (p ++ q) (path_of (maker made))) (sym e) ∙ w

-- it crosses an earlier header
crosses_it : (b : List Section) (s : Section) (keys : List Key) (v : Data) (m : ℕ) (k : MarkKind) → is_keyed s ≡ true
    → RowOf s.rows keys v → is_inner (steps_to_key m keys) (steps_of (texts keys)) ≡ true → is_header k ≡ true
    → (made : Made b (mark (path_of (there b s) ++ steps_to_key m keys) k))
    → (path_of (there b s) ++ steps_to_key m keys ≡ (maker made).target)
    → PairFault b s (stop_fault s (at_row (keys_before m keys) (nth_key m keys)))
crosses_it b s keys v m k y o e h made t =
    found made (crossing b s made.section made.earlier keys m (length made.section.header - length s.header) count
    (header_along b s made.section made.earlier keys m within
    (way (maker made).element (maker made).target (p ++ steps_to_key m keys) k (role (says_of made) h)))
    (crossed_fault (located_after b s) (maker_at made) false o over))
  where
    p : Path
    p = path_of (there b s)

    within : m < length keys
    within = inner_within m keys (inner_short (steps_to_key m keys) (steps_of (texts keys)) e)

    steps_length : length (texts (take (suc m) keys)) ≡ suc m
    steps_length = ap length (one_more m keys within) ∙
        length-append (keys_before m keys) ((nth_key m keys).text ∷ []) ∙
        ap (λ n. n + 1) (before_length m keys within) ∙ omega arith

    whole_length : length made.section.header ≡ length s.header + suc m
    whole_length = sym (target_length made.earlier made.section)
        ∙ row_length p (steps_to_key m keys) (sym t) (header_length b s)
        ∙ ap (λ n. length s.header + n) (ap length (keys_steps (texts (take (suc m) keys))) ∙ steps_length)

    count : length made.section.header - length s.header ≡ suc m
    count = let c : length made.section.header ≡ length s.header + suc m = whole_length in omega arith

    over : row_crossed (located_after b s).path (steps_of (texts keys)) (maker_at made) ≡ true
    over = crossed_is (located_after b s).path (steps_of (texts keys)) (target (maker_at made))
        ∙ ap (λ q. crosses q (steps_of (texts keys)) (target (maker_at made))) (alike_there b s y).path
        ∙ ap (λ q. crosses p (steps_of (texts keys)) q) ((maker_alike made).target ∙ sym t)
        ∙ crosses_after p (steps_to_key m keys) (steps_of (texts keys)) e

-- by what stood
by_reason : (b : List Section) (s : Section) (st : List Mark) (x : Stop) (keys : List Key) (v : Data) (m : ℕ)
    {c k : MarkKind} → is_keyed s ≡ true → Past b st → fits named (standing_at st (path_of (there b s))) ≡ true
    → RowOf s.rows keys v → KeysSay v (texts keys) (steps_to_key m keys) k
    → ((l : ℕ) → l < m → Among (mark (path_of (there b s) ++ steps_to_key l keys) named) st → ⊥)
    → Made b (mark (path_of (there b s) ++ steps_to_key m keys) c) → Reason keys m x c k
    → PairFault b s (stop_fault s x)
by_reason b s st x keys v m y h f o z u made (names_it i) =
    subst (λ x. PairFault b s (stop_fault s x)) (sym i)
    (crosses_it b s keys v m named y o (dotted_at z) refl made
    (no_number (path_of (there b s)) (maker made).target
    (path_of (there b s) ++ steps_to_key m keys) (maker made).element (texts keys)
    (role (says_of made) refl)
    (crosses_after (path_of (there b s)) (steps_to_key m keys) (steps_of (texts keys)) (dotted_at z))))
by_reason b s st x keys v m y h f o z u made (adds_it i) =
    let r : Role (maker made).element (maker made).target (path_of (there b s) ++ steps_to_key m keys) added =
    role (says_of made) refl in
    subst (λ x. PairFault b s (stop_fault s x)) (sym i) (crosses_it b s keys v m added y o (dotted_at z) refl made r.0)
by_reason b s st x keys v m y h f o z u made (ends_before {w = w} i) =
    absurd (no_row b s st keys m (valued w) h f (row_keyed o (keyed_rows s y)) refl u made)
by_reason b s st x keys v m y h f o z u made (on_its_way {k = k} a i d) =
    subst (λ x. PairFault b s (stop_fault s x)) (sym i) (lies_on b s keys v m k y o (valued_at z) d a made)
by_reason b s st x keys v m y h f o z u made (repeats_it {k = k} a i d) =
    absurd (no_row b s st keys m k h f (row_keyed o (keyed_rows s y)) a u made)

-- THE FAULT of a row that stops at an earlier header
pub row_named : (b : List Section) (s : Section) (st : List Mark) (x : Stop) → is_keyed s ≡ true → Past b st
    → fits named (standing_at st (path_of (there b s))) ≡ true → RowHit (path_of (there b s)) s.rows st x
    → PairFault b s (stop_fault s x)
row_named b s st x y h f r =
    by_reason b s st x r.keys r.value r.at y h f r.row r.says r.unnamed (h.made r.stood) r.reason
