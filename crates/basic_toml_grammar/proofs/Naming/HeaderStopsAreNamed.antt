-- Where a header stops, its fault is one of the section and an earlier one.
use Rattle.std.proofs.Common.{◌≡◌, ℕ, zero, suc, ◌+◌, Bool, true, false, List, [], ◌∷◌, ◌++◌, Option, Some, None, refl}
use Rattle.std.proofs.Common.{ap, sym, ◌∙◌, subst, arith, length, take, length-append}
use Rattle.std.specs.Prelude.{◌-◌, ◌&&◌, if◌then◌else◌}
use Rattle.std.proofs.lemmas.Bool.{false≢true, and_from}
use Rattle.std.proofs.lemmas.List.{length-map, take_all}
use Rattle.basic_toml_value.specs.Data.{Data}
use Rattle.basic_toml_grammar.specs.Sections.{KeyTexts, texts, Section}
use Rattle.basic_toml_grammar.specs.Steps.{number, Path, begins, path_eq, steps_of, keys_of}
use Rattle.basic_toml_grammar.specs.IndexedPath.{Located, located_after}
use Rattle.basic_toml_grammar.specs.SectionClash.{target, array_on_cut, row_on_path, row_crossed}
use Rattle.basic_toml_grammar.specs.Placed.{Placed, step_into, adds_element, path_of, placed_after, is_cut, crosses}
use Rattle.basic_toml_grammar.specs.Marks.{MarkKind, passed, by_latest, named, added, dotted, valued, mark, Mark}
use Rattle.basic_toml_grammar.specs.Standing.{Standing, table, array, value, fits, standing_at}
use Rattle.basic_toml_grammar.specs.Entering.{rows_keyed, header_keyed, is_keyed}
use Rattle.basic_toml_grammar.specs.Faults.{Fault}
use Rattle.basic_toml_grammar.specs.NamedClash.{nth_key, key_fault, table_fault, array_fault, pair_faults}
use Rattle.basic_toml_grammar.specs.Stops.{Stop, at_header, stop_fault, header_stop}
use Rattle.basic_toml_grammar.proofs.AmongElements.{Among}
use Rattle.basic_toml_grammar.proofs.Clash.StepTestsDecide.{paths_same}
use Rattle.basic_toml_grammar.proofs.Clash.WhatSectionsSay.{Says}
use Rattle.basic_toml_grammar.proofs.Clash.MarksAreWhatIsSaid.{said}
use Rattle.basic_toml_grammar.proofs.Clash.PathsAgree.{offsets, count_in, append_none, whole, keys-append, keys_cut}
use Rattle.basic_toml_grammar.proofs.Clash.ClashesAgree.{crossed_is, Alike, alike}
use Rattle.basic_toml_grammar.proofs.Clash.SectionsLeaveMarks.{Made, Past}
use Rattle.basic_toml_grammar.proofs.Clash.WhatStandsWasMarked.{Shown, shown}
use Rattle.basic_toml_grammar.proofs.Naming.WhereHeadersStop.{is_header, HeaderStop}
use Rattle.basic_toml_grammar.proofs.Clash.MarksTellPlaces.{Role, role, way, RowPart, row_part, valued_at, dotted_at}
use Rattle.basic_toml_grammar.proofs.Clash.MarksTellPlaces.{crosses_after, crosses_number, cut_same}
use Rattle.basic_toml_grammar.proofs.Naming.PairsAreNamed.{same_path_fault, array_later_fault, array_before_fault}
use Rattle.basic_toml_grammar.proofs.Naming.PairsAreNamed.{on_path_fault, crossed_fault, row_before_fault, PairFault}

-- a section at its place
abbrev pub there : List Section → Section → Placed
there b s = placed_after (offsets b) s

pub keys_steps : (ks : KeyTexts) → keys_of (steps_of ks) ≡ ks
keys_steps [] = refl
keys_steps (k ∷ ks) = ap (λ ks. k ∷ ks) (keys_steps ks)

-- the keys of its path are those of its header
pub keys_all : (b : List Section) (s : Section) → keys_of (path_of (there b s)) ≡ texts s.header
keys_all b s = ap keys_of (sym (whole (count_in b) s.is_array [] (texts s.header)))
    ∙ keys_cut (count_in b) s.is_array [] (texts s.header) (length (texts s.header))
    ∙ take_all (length (texts s.header)) (texts s.header) (omega arith)

keys_into : (t : Path) (e : Option ℕ) → keys_of (t ++ step_into e) ≡ keys_of t
keys_into t None = ap keys_of (append_none t)
keys_into t (Some n) = keys-append t (number n ∷ []) ∙ append_none (keys_of t)

pub header_length : (b : List Section) (s : Section) → length (keys_of (path_of (there b s))) ≡ length s.header
header_length b s = ap length (keys_all b s) ∙ length-map s.header (λ k. k.text)

pub target_length : (b : List Section) (s : Section) → length (keys_of (there b s).target) ≡ length s.header
target_length b s = ap length (sym (keys_into (there b s).target (there b s).element)) ∙ header_length b s

pub alike_there : (b : List Section) (s : Section) → is_keyed s ≡ true → Alike (located_after b s) (there b s)
alike_there b s k = alike s b (keyed_header (rows_keyed s.rows) (header_keyed s.is_array (texts s.header)) k)
  where
    keyed_header : (a c : Bool) → (a && c) ≡ true → c ≡ true
    keyed_header true c e = e
    keyed_header false c e = absurd (false≢true e)

-- an array section on a cut of another
pub on_cut : {i j : Located} {l m : Placed} → Alike i l → Alike j m → adds_element m.element ≡ true
    → is_cut m.target (path_of l) ≡ true → array_on_cut i j ≡ true
on_cut {i = i} {j = j} {l = l} {m = m} x y a c =
    and_from _ _ (y.array ∙ a) (x.cuts (target j) ∙ ap (λ t. is_cut t (path_of l)) y.target ∙ c)

pub path_at : {i j : Located} {l m : Placed} (b : Bool) → Alike i l → Alike j m → path_eq (path_of l) m.target ≡ b
    → path_eq i.path (target j) ≡ b
path_at {i = i} {j = j} {l = l} {m = m} b x y c =
    ap (λ p. path_eq p (target j)) x.path ∙ ap (λ t. path_eq (path_of l) t) y.target ∙ c

-- the section that made a mark, at its place
abbrev pub maker : {b : List Section} {x : Mark} → Made b x → Placed
maker m = there m.earlier m.section

abbrev pub maker_at : {b : List Section} {x : Mark} → Made b x → Located
maker_at m = located_after m.earlier m.section

pub maker_alike : {b : List Section} {x : Mark} (m : Made b x) → Alike (maker_at m) (maker m)
maker_alike m = alike_there m.earlier m.section m.keyed

pub says_of : {b : List Section} {q : Path} {k : MarkKind} (m : Made b (mark q k))
    → Says (maker m).element m.section.rows (maker m).target q k
says_of m = said (maker m).element m.section.rows (maker m).target m.marked

pub found : {b : List Section} {s : Section} {f : Fault} {x : Mark} (m : Made b x)
    → Among f (pair_faults (maker_at m) (located_after b s)) → PairFault b s f
found m a = record { section = m.section; earlier = m.earlier; stood = m.stood; among = a }

-- how many keys a path has that goes on from another
pub row_length : {q : Path} {n : ℕ} (p r : Path) → q ≡ p ++ r → length (keys_of p) ≡ n
    → length (keys_of q) ≡ n + length (keys_of r)
row_length p r e c = ap (λ q. length (keys_of q)) e ∙ ap length (keys-append p r)
    ∙ length-append (keys_of p) (keys_of r) ∙ ap (λ n. n + length (keys_of r)) c

-- a value on the way of a header
on_value : (b : List Section) (s : Section) (q : Path) (v : Data) (left : ℕ) → is_keyed s ≡ true
    → begins q (path_of (there b s)) ≡ true → length (keys_of q) + left ≡ length s.header
    → Made b (mark q (valued v)) → PairFault b s (stop_fault s (at_header (suc left)))
on_value b s q v left k w c m =
    found m (subst (λ n. Among (key_fault (nth_key n s.header) (texts (take n s.header)))
    (pair_faults (maker_at m) (located_after b s))) same
    (row_before_fault (maker_at m) (located_after b s)
    (on_path_fault (maker_at m) (located_after b s) true r.mark.row on)))
  where
    r : RowPart (maker m).element (maker m).rows (maker m).target q (valued v)
    r = row_part (says_of m) refl

    steps : Path
    steps = steps_of (texts r.mark.keys)

    place : q ≡ path_of (maker m) ++ steps
    place = r.is ∙ ap (λ p. path_of (maker m) ++ p) (valued_at r.mark.says)

    on : row_on_path (maker_at m).path steps (located_after b s) ≡ true
    on = ap (λ p. begins (p ++ steps) (located_after b s).path) (maker_alike m).path
        ∙ ap (λ p. begins (path_of (maker m) ++ steps) p) (alike_there b s k).path
        ∙ ap (λ p. begins p (path_of (there b s))) (sym place) ∙ w

    same : length m.section.header + length r.mark.keys - 1 ≡ length s.header - suc left
    same = let d : length (keys_of q) ≡ length m.section.header + length (keys_of steps) =
        row_length (path_of (maker m)) steps place (header_length m.earlier m.section) in
        let f : length (keys_of steps) ≡ length r.mark.keys =
        ap length (keys_steps (texts r.mark.keys)) ∙ length-map r.mark.keys (λ k. k.text) in
        let e : length (keys_of q) + left ≡ length s.header = c in omega arith

-- a dotted table at the target
on_dots : (b : List Section) (s : Section) (q : Path) (left : ℕ) → is_keyed s ≡ true
    → ((p : Path) (ks : KeyTexts) → crosses p (steps_of ks) q ≡ true → q ≡ (there b s).target)
    → length (keys_of q) + left ≡ length s.header
    → Made b (mark q dotted) → PairFault b s (stop_fault s (at_header (suc left)))
on_dots b s q left k t c m =
    found m (subst (λ n. Among (key_fault (nth_key n s.header) (texts (take n s.header)))
    (pair_faults (maker_at m) (located_after b s))) same
    (row_before_fault (maker_at m) (located_after b s)
    (crossed_fault (maker_at m) (located_after b s) true r.mark.row crossed)))
  where
    r : RowPart (maker m).element (maker m).rows (maker m).target q dotted
    r = row_part (says_of m) refl

    steps : Path
    steps = steps_of (texts r.mark.keys)

    across : crosses (path_of (maker m)) steps q ≡ true
    across = ap (λ p. crosses (path_of (maker m)) steps p) r.is ∙
        crosses_after (path_of (maker m)) r.path steps (dotted_at r.mark.says)

    place : q ≡ (there b s).target
    place = t (path_of (maker m)) (texts r.mark.keys) across

    crossed : row_crossed (maker_at m).path steps (located_after b s) ≡ true
    crossed = crossed_is (maker_at m).path steps (target (located_after b s))
        ∙ ap (λ p. crosses p steps (target (located_after b s))) (maker_alike m).path
        ∙ ap (λ p. crosses (path_of (maker m)) steps p) ((alike_there b s k).target ∙ sym place) ∙ across

    same : length m.section.header + (length s.header - length m.section.header) - 1 ≡ length s.header - suc left
    same = let d : length (keys_of q) ≡ length s.header =
        ap (λ p. length (keys_of p)) place ∙ target_length b s in
        let f : length (keys_of q) ≡ length m.section.header + length (keys_of r.path) =
        row_length (path_of (maker m)) r.path r.is (header_length m.earlier m.section) in
        let e : length (keys_of q) + left ≡ length s.header = c in omega arith

-- a dotted table at the path of a section stands at its target
pub no_number : (p t q : Path) (e : Option ℕ) (ks : KeyTexts) → q ≡ t ++ step_into e → crosses p (steps_of ks) q ≡ true
    → q ≡ t
no_number p t q None ks h c = h ∙ append_none t
no_number p t q (Some n) ks h c =
    absurd (false≢true (sym (crosses_number p t n ks) ∙ ap (λ q. crosses p (steps_of ks) q) (sym h) ∙ c))

-- the other marks of an earlier header
on_named : (b : List Section) (s : Section) (q : Path) → is_keyed s ≡ true → q ≡ path_of (there b s)
    → Made b (mark q named) → PairFault b s (table_fault s)
on_named b s q k h m = found m (same_path_fault (maker_at m) (located_after b s)
    (ap (λ p. path_eq p (located_after b s).path) ((maker_alike m).path ∙ sym (role (says_of m) refl))
    ∙ ap (λ p. path_eq q p) ((alike_there b s k).path ∙ sym h) ∙ paths_same q))

on_array : (b : List Section) (s : Section) (q : Path) (c : Bool) → is_keyed s ≡ true
    → is_cut q (path_of (there b s)) ≡ true → path_eq (path_of (there b s)) q ≡ c
    → Made b (mark q added) → PairFault b s (if c then table_fault s else array_fault s)
on_array b s q c k h o m =
    found m (array_before_fault (maker_at m) (located_after b s) c
    (on_cut (alike_there b s k) (maker_alike m) r.1 (ap (λ t. is_cut t (path_of (there b s))) (sym r.0) ∙ h))
    (path_at c (alike_there b s k) (maker_alike m) (ap (λ t. path_eq (path_of (there b s)) t) (sym r.0) ∙ o)))
  where
    r : (q ≡ (maker m).target) × (adds_element (maker m).element ≡ true)
    r = role (says_of m) refl

-- an element is added at a path that an earlier section names or passes
array_on_named : (b : List Section) (s : Section) (q : Path) → is_keyed s ≡ true → q ≡ (there b s).target
    → adds_element (there b s).element ≡ true → Made b (mark q named) → PairFault b s (table_fault s)
array_on_named b s q k h a m =
    found m (array_later_fault (maker_at m) (located_after b s) true
    (on_cut (maker_alike m) (alike_there b s k) a
    (ap (λ t. is_cut t (path_of (maker m))) (sym h ∙ r) ∙ cut_same (path_of (maker m))))
    (path_at true (maker_alike m) (alike_there b s k)
    (ap (λ t. path_eq (path_of (maker m)) t) (sym h ∙ r) ∙ paths_same (path_of (maker m)))))
  where
    r : q ≡ path_of (maker m)
    r = role (says_of m) refl

array_on_passed : (b : List Section) (s : Section) (q : Path) → is_keyed s ≡ true → q ≡ (there b s).target
    → adds_element (there b s).element ≡ true → Made b (mark q passed) → PairFault b s (array_fault s)
array_on_passed b s q k h a m =
    found m (array_later_fault (maker_at m) (located_after b s) false
    (on_cut (maker_alike m) (alike_there b s k) a (ap (λ t. is_cut t (path_of (maker m))) (sym h) ∙ r.0))
    (path_at false (maker_alike m) (alike_there b s k) (ap (λ t. path_eq (path_of (maker m)) t) (sym h) ∙ r.1)))
  where
    r : (is_cut q (path_of (maker m)) ≡ true) × (path_eq (path_of (maker m)) q ≡ false)
    r = role (says_of m) refl

-- a mark of the header, and what stands
pub met : (b : List Section) (s : Section) (st : List Mark) (q : Path) (left : ℕ) → is_keyed s ≡ true → Past b st
    → length (keys_of q) + left ≡ length s.header → (k : MarkKind) (m : Option Standing)
    → is_header k ≡ true → Role (there b s).element (there b s).target q k → fits k m ≡ false → Shown st q m
    → PairFault b s (stop_fault s (header_stop k left m))
met b s st q left k h c dotted m i r f y = absurd (false≢true i)
met b s st q left k h c (valued v) m i r f y = absurd (false≢true i)
met b s st q left k h c passed None i r f y = absurd (false≢true (sym f))
met b s st q left k h c by_latest None i r f y = absurd (false≢true (sym f))
met b s st q left k h c named None i r f y = absurd (false≢true (sym f))
met b s st q left k h c added None i r f y = absurd (false≢true (sym f))
met b s st q left k h c passed (Some value) i r f y =
    on_value b s q y.0 left k (way (there b s).element (there b s).target q passed r) c (h.made y.1)
met b s st q left k h c by_latest (Some value) i r f y =
    on_value b s q y.0 left k (way (there b s).element (there b s).target q by_latest r) c (h.made y.1)
met b s st q left k h c named (Some value) i r f y =
    on_value b s q y.0 left k (way (there b s).element (there b s).target q named r) c (h.made y.1)
met b s st q left k h c added (Some value) i r f y =
    on_value b s q y.0 left k (way (there b s).element (there b s).target q added r) c (h.made y.1)
met b s st q left k h c passed (Some (array zero)) i r f y = absurd (false≢true (sym f))
met b s st q left k h c passed (Some (array (suc n))) i r f y = on_array b s q false k r.0 r.1 (h.made y)
met b s st q left k h c passed (Some (table p n d)) i r f y = absurd (false≢true (sym f))
met b s st q left k h c by_latest (Some (array n)) i r f y = absurd (false≢true (sym f))
met b s st q left k h c by_latest (Some (table p n d)) i r f y = absurd (false≢true (sym f))
met b s st q left k h c named (Some (array zero)) i r f y = absurd (false≢true (sym f))
met b s st q left k h c named (Some (array (suc n))) i r f y =
    on_array b s q true k (ap (λ p. is_cut q p) (sym r) ∙ cut_same q) (ap (λ p. path_eq p q) (sym r) ∙ paths_same q)
    (h.made y)
met b s st q left k h c named (Some (table p true true)) i r f y =
    on_dots b s q left k (λ p ks x. no_number p (there b s).target q (there b s).element ks r x) c (h.made (y.dots refl))
met b s st q left k h c named (Some (table p false true)) i r f y =
    on_dots b s q left k (λ p ks x. no_number p (there b s).target q (there b s).element ks r x) c (h.made (y.dots refl))
met b s st q left k h c named (Some (table p true false)) i r f y = on_named b s q k r (h.made (y.names refl))
met b s st q left k h c named (Some (table p false false)) i r f y = absurd (false≢true (sym f))
met b s st q left k h c added (Some (array zero)) i r f y = absurd (false≢true (sym f))
met b s st q left k h c added (Some (array (suc n))) i r f y = absurd (false≢true (sym f))
met b s st q left k h c added (Some (table p true true)) i r f y =
    on_dots b s q left k (λ p ks x. r.0) c (h.made (y.dots refl))
met b s st q left k h c added (Some (table p false true)) i r f y =
    on_dots b s q left k (λ p ks x. r.0) c (h.made (y.dots refl))
met b s st q left k h c added (Some (table p true false)) i r f y =
    array_on_named b s q k r.0 r.1 (h.made (y.names refl))
met b s st q left k h c added (Some (table p false false)) i r f y =
    array_on_passed b s q k r.0 r.1 (h.made (y.passes (y.some refl refl)))

-- THE FAULT of a header that stops
pub header_named : (b : List Section) (s : Section) (st : List Mark) (x : Stop) → is_keyed s ≡ true → Past b st
    → HeaderStop (there b s).element s.rows (there b s).target [] (length (texts s.header)) st x
    → PairFault b s (stop_fault s x)
header_named b s st x k h y =
    subst (λ x. PairFault b s (stop_fault s x)) (sym y.is)
    (met b s st y.path y.left k h (y.counts ∙ length-map s.header (λ k. k.text)) y.kind (standing_at st y.path)
    y.header (role y.says y.header) y.unfit (shown st y.path))
