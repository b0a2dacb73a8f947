-- A key or a bracket above a limit stands after as many characters that lead deeper as the limit at least.
use Rattle.std.proofs.Common.{◌≡◌, ℕ, suc, ◌+◌, ◌-◌, ◌≤◌, ◌==◌, ◌&&◌, Bool, true, false, cond, List, [], ◌∷◌, ◌++◌}
use Rattle.std.proofs.Common.{length, drop, refl, ap, sym, ◌∙◌, subst, arith, Option, Some, None, nat_lt}
use Rattle.std.specs.Prelude.{ℤ, codes}
use Rattle.std.specs.List.{All}
use Rattle.std.specs.Str.{chars, bytes_eq}
use Rattle.std.specs.Char.{len_utf8}
use Rattle.std.proofs.lemmas.Bool.{ltb-true, eq-eqb, eqb-true}
use Rattle.std.proofs.lemmas.Str.{len_utf8_bounds}
use Rattle.std.proofs.lemmas.List.Elements.{All-nil, All-cons, All-append, All-head}
use Rattle.basic_toml_tokens.specs.Text.{Text, StartsWith, first_of, folded_from, start_of, folded, run, is_blank}
use Rattle.basic_toml_tokens.specs.Text.{is_comment, after_blanks}
use Rattle.basic_toml_tokens.specs.Strings.{Opens, one_line, multiline}
use Rattle.basic_toml_numbers.specs.Numbers.{integer_of, float_of}
use Rattle.basic_toml_grammar.specs.Sections.{Key, Raw, Elements, Rows, no_rows, row, Section}
use Rattle.basic_toml_grammar.specs.Grammar.{IsKey, bare, quoted, IsKeys, more, is_wordlike, number_value}
use Rattle.basic_toml_grammar.specs.Grammar.{word_value, after_gap, IsValue, word, string, array, inline, IsElements}
use Rattle.basic_toml_grammar.specs.Grammar.{close, last, and_more, IsFields, some, IsFieldsOn, last_row, more_rows}
use Rattle.basic_toml_grammar.specs.Grammar.{IsRow, assigned, IsRows, over, header_next, empty_line, row_line}
use Rattle.basic_toml_grammar.specs.Grammar.{IsHeader, table, array_of_tables, IsSections, no_more, section}
use Rattle.basic_toml_grammar.specs.Grammar.{with_root, IsSectionListBy}
use Rattle.basic_toml_grammar.specs.Levels.{deep_keys, deep_in, deep_among, deep_rows, deep_offsets}
use Rattle.basic_toml_grammar.specs.NestingFaults.{AgreeTo, here, first_offset, leads_deeper, openers, before}
use Rattle.basic_toml_grammar.specs.Statements.{DeepOffsetsAreOpened}
use Rattle.basic_toml_grammar.proofs.Grammar.RestsAreEnds.{IsEnd, all, further, ends_on, sign_ends, run_ends, gap_ends}
use Rattle.basic_toml_grammar.proofs.Grammar.RestsAreEnds.{key_ends, keys_end, value_ends, row_ends, line_ends}
use Rattle.basic_toml_grammar.proofs.Grammar.RestsAreEnds.{rows_end, header_ends}

-- an end has at most as many
pub openers_of_end : {text rest : Text} → IsEnd text rest → openers rest ≤ openers text
openers_of_end all = omega arith
openers_of_end (further {x = x} {text = text} {rest = rest} e) = go (leads_deeper x.1) (openers_of_end e)
  where
    go : (b : Bool) → openers rest ≤ openers text → openers rest ≤ cond b (suc (openers text)) (openers text)
    go true h = omega arith
    go false h = h

-- a character that leads deeper is one more
pub opened : {c p : ℕ} {text rest : Text} → StartsWith c text p rest → leads_deeper c ≡ true
    → openers text ≡ suc (openers rest)
opened {rest = rest} s e = ap openers s ∙ ap (λ b. cond b (suc (openers rest)) (openers rest)) e

-- a word holds no bracket
number_is_shallow : (limit l p : ℕ) (z : Option ℤ) (t : Option (List ℕ)) (v : Raw) → number_value z t ≡ Some v
    → deep_in limit l p v ≡ []
number_is_shallow limit l p (Some z) t v e = let same : Raw.integer z ≡ v = cc in ap (deep_in limit l p) (sym same)
number_is_shallow limit l p None (Some t) v e = let same : Raw.float t ≡ v = cc in ap (deep_in limit l p) (sym same)
number_is_shallow limit l p None None v e = cc

word_is_shallow : (limit l p : ℕ) (w : List ℕ) (v : Raw) → word_value w ≡ Some v → deep_in limit l p v ≡ []
word_is_shallow limit l p w v e = go (bytes_eq w (codes "true")) (bytes_eq w (codes "false")) e
  where
    go : (a b : Bool) → cond a (Some (Raw.boolean true))
        (cond b (Some (Raw.boolean false)) (number_value (integer_of w) (float_of w))) ≡ Some v
        → deep_in limit l p v ≡ []
    go true b e = let same : Raw.boolean true ≡ v = cc in ap (deep_in limit l p) (sym same)
    go false true e = let same : Raw.boolean false ≡ v = cc in ap (deep_in limit l p) (sym same)
    go false false e = number_is_shallow limit l p (integer_of w) (float_of w) v e

module _ (limit : ℕ) (whole : Text) where
  -- what stands at the offset, and how many stand before it
  record IsOpened (p : ℕ) : Type 0 where
    char : ℕ
    next : Text
    ends : IsEnd whole ((p, char) ∷ next)
    many : limit + openers ((p, char) ∷ next) ≤ openers whole

  abbrev AllOpened : List ℕ → Type 0
  AllOpened offsets = All IsOpened offsets

  none_opened : AllOpened []
  none_opened = All-nil IsOpened

  -- the offset p is among the deep ones where its level passes the limit
  one_opened : {c p : ℕ} {text next : Text} (l : ℕ) (offsets : List ℕ) → IsEnd whole text → StartsWith c text p next
      → l + openers text ≤ suc (openers whole) → AllOpened offsets
      → AllOpened (cond (nat_lt limit l) (p ∷ offsets) offsets)
  one_opened {c = c} {p = p} {text = text} {next = next} l offsets e s h rest = go (nat_lt limit l) refl
    where
      go : (b : Bool) → nat_lt limit l ≡ b → AllOpened (cond b (p ∷ offsets) offsets)
      go true f = All-cons IsOpened p offsets (record {
        char = c;
        next = next;
        ends = subst (IsEnd whole) s e;
        many = omega (arith, ltb-true _ _ f, ap openers s);
      }) rest
      go false f = rest

  key_sign : {text rest : Text} {k : Key} → IsKey text k rest → (c : ℕ) × (next : Text)
      × StartsWith c text k.offset next
  key_sign (bare {c = c} {next = next} s w) = (c, next, s)
  key_sign (quoted s) = go s.opens
    where
      go : {text body : Text} {p : ℕ} {k : Rattle.basic_toml_tokens.specs.Strings.Quotes} → Opens text p k body
          → (c : ℕ) × (next : Text) × StartsWith c text p next
      go (one_line {d = d} {next = next} s q e) = (d, next, s)
      go (multiline {d = d} {next = next} s q e) = (d, next, s)

  -- keys of which the first has this level; and after them there is one fewer to a key
  keys_opened : {text rest : Text} {ks : List Key} (l : ℕ) → IsEnd whole text → IsKeys text ks rest
      → l + openers text ≤ suc (openers whole) → AllOpened (deep_keys limit l ks)
  keys_opened l e (IsKeys.one k) h = let s = key_sign k in one_opened l [] e s.2 h none_opened
  keys_opened l e (more {mid = mid} {next = next} {keys = ks} k s xs) h =
      let t = key_sign k in
      let e' : IsEnd whole mid = ends_on e (key_ends k) in
      let f : IsEnd whole (after_blanks next) =
      ends_on e' (ends_on (run_ends is_blank mid) (ends_on (sign_ends s) (run_ends is_blank next))) in
      let n : (l + 1) + openers (after_blanks next) ≤ suc (openers whole) =
      omega (
        arith,
        openers_of_end (key_ends k),
        openers_of_end (run_ends is_blank mid),
        opened s refl,
        openers_of_end (run_ends is_blank next),
      ) in
      one_opened l (deep_keys limit (l + 1) ks) e t.2 h (keys_opened (l + 1) f xs n)

  pub keys_passed : {text rest : Text} {ks : List Key} → IsKeys text ks rest → length ks + openers rest ≤ suc (openers text)
  keys_passed (IsKeys.one k) = omega (arith, openers_of_end (key_ends k))
  keys_passed (more {mid = mid} {next = next} k s xs) =
      omega (
        arith,
        openers_of_end (key_ends k),
        openers_of_end (run_ends is_blank mid),
        opened s refl,
        openers_of_end (run_ends is_blank next),
        keys_passed xs,
      )

  module _ (comment : ℕ → Bool) where
    mutual
      value_opened : {text rest : Text} {p : ℕ} {v : Raw} (l : ℕ) → IsEnd whole text → IsValue comment text p v rest
          → l + openers text ≤ openers whole → AllOpened (deep_in limit l p v)
      value_opened l e (word {v = v} {text = text} s w i) h =
          subst AllOpened (sym (word_is_shallow limit l _ (run is_wordlike text) v i)) none_opened
      value_opened l e (string s) h = none_opened
      value_opened l e (array {p = p} {elements = es} {next = next} s xs) h =
          let f : IsEnd whole (after_gap comment next) =
          ends_on e (ends_on (sign_ends s) (gap_ends comment false next)) in
          let n : (l + 1) + openers (after_gap comment next) ≤ openers whole =
          omega (arith, opened s refl, openers_of_end (gap_ends comment false next)) in
          All-append IsOpened (cond (nat_lt limit (l + 1)) (p ∷ []) []) (deep_among limit (l + 1) es)
          (one_opened (l + 1) [] e s (omega arith) none_opened) (elements_opened (l + 1) f xs n)
      value_opened l e (inline {p = p} {rows = rs} {next = next} s xs) h =
          let f : IsEnd whole (after_blanks next) = ends_on e (ends_on (sign_ends s) (run_ends is_blank next)) in
          let n : (l + 1) + openers (after_blanks next) ≤ suc (openers whole) =
          omega (arith, opened s refl, openers_of_end (run_ends is_blank next)) in
          All-append IsOpened (cond (nat_lt limit (l + 1)) (p ∷ []) []) (deep_rows limit (l + 1) rs)
          (one_opened (l + 1) [] e s (omega arith) none_opened) (fields_opened (l + 1) f xs n)

      elements_opened : {text rest : Text} {es : Elements} (l : ℕ) → IsEnd whole text
          → IsElements comment text es rest → l + openers text ≤ openers whole → AllOpened (deep_among limit l es)
      elements_opened l e (close s) h = none_opened
      elements_opened l e (last {p = p} {v = v} x s) h =
          All-append IsOpened (deep_in limit l p v) [] (value_opened l e x h) none_opened
      elements_opened l e (and_more {p = p} {v = v} {elements = es} {mid = mid} {next = next} x s xs) h =
          let d : IsEnd mid (after_gap comment next) =
          ends_on (gap_ends comment false mid) (ends_on (sign_ends s) (gap_ends comment false next)) in
          All-append IsOpened (deep_in limit l p v) (deep_among limit l es) (value_opened l e x h)
          (elements_opened l (ends_on e (ends_on (value_ends comment x) d)) xs
          (omega (arith, openers_of_end (value_ends comment x), openers_of_end d)))

      fields_opened : {text rest : Text} {rs : Rows} (l : ℕ) → IsEnd whole text → IsFields comment text rs rest
          → l + openers text ≤ suc (openers whole) → AllOpened (deep_rows limit l rs)
      fields_opened l e (IsFields.none s) h = none_opened
      fields_opened l e (some xs) h = more_fields_opened l e xs h

      more_fields_opened : {text rest : Text} {rs : Rows} (l : ℕ) → IsEnd whole text → IsFieldsOn comment text rs rest
          → l + openers text ≤ suc (openers whole) → AllOpened (deep_rows limit l rs)
      more_fields_opened l e (last_row {keys = ks} {p = p} {v = v} r s) h =
          All-append IsOpened (deep_keys limit l ks ++ deep_in limit (l + length ks - 1) p v) [] (row_opened l e r h)
          none_opened
      more_fields_opened l e (more_rows {keys = ks} {p = p} {v = v} {rows = rs} {mid = mid} {next = next} r s xs) h =
          let d : IsEnd mid (after_blanks next) =
          ends_on (run_ends is_blank mid) (ends_on (sign_ends s) (run_ends is_blank next)) in
          All-append IsOpened (deep_keys limit l ks ++ deep_in limit (l + length ks - 1) p v) (deep_rows limit l rs)
          (row_opened l e r h)
          (more_fields_opened l (ends_on e (ends_on (row_ends comment r) d)) xs
          (omega (arith, openers_of_end (row_ends comment r), openers_of_end d)))

      row_opened : {text rest : Text} {ks : List Key} {p : ℕ} {v : Raw} (l : ℕ) → IsEnd whole text
          → IsRow comment text ks p v rest → l + openers text ≤ suc (openers whole)
          → AllOpened (deep_keys limit l ks ++ deep_in limit (l + length ks - 1) p v)
      row_opened {ks = ks} {p = p} {v = v} l e (assigned {mid = mid} {next = next} xs s x) h =
          let d : IsEnd mid (after_blanks next) =
          ends_on (run_ends is_blank mid) (ends_on (sign_ends s) (run_ends is_blank next)) in
          let n : (l + length ks - 1) + openers (after_blanks next) ≤ openers whole =
          omega (
            arith,
            openers_of_end e,
            openers_of_end (keys_end xs),
            keys_passed xs,
            openers_of_end (run_ends is_blank mid),
            opened s refl,
            openers_of_end (run_ends is_blank next),
          ) in
          All-append IsOpened (deep_keys limit l ks) (deep_in limit (l + length ks - 1) p v) (keys_opened l e xs h)
          (value_opened (l + length ks - 1) (ends_on e (ends_on (keys_end xs) d)) x n)

    rows_opened : {text rest : Text} {rs : Rows} (l : ℕ) → IsEnd whole text → IsRows comment text rs rest
        → l + openers text ≤ suc (openers whole) → AllOpened (deep_rows limit l rs)
    rows_opened l e over h = none_opened
    rows_opened l e (header_next s) h = none_opened
    rows_opened l e (empty_line i xs) h =
        rows_opened l (ends_on e (line_ends comment i)) xs (omega (arith, openers_of_end (line_ends comment i)))
    rows_opened l e (row_line {keys = ks} {p = p} {v = v} {rows = rs} {text = text} {mid = mid} {next = next} r i xs)
        h =
        let b : IsEnd text (after_blanks text) = run_ends is_blank text in
        let d : IsEnd (after_blanks text) next = ends_on (row_ends comment r) (line_ends comment i) in
        All-append IsOpened (deep_keys limit l ks ++ deep_in limit (l + length ks - 1) p v) (deep_rows limit l rs)
        (row_opened l (ends_on e b) r (omega (arith, openers_of_end b)))
        (rows_opened l (ends_on e (ends_on b d)) xs (omega (arith, openers_of_end b, openers_of_end d)))

    -- keys of a header, and how many such characters it has
    header_opened : {text rest : Text} {p : ℕ} {ks : List Key} {a : Bool} → IsEnd whole text
        → IsHeader text p ks a rest → AllOpened (deep_keys limit 2 ks)
    header_opened e (table {next = next} s ks f) =
        keys_opened 2 (ends_on e (ends_on (sign_ends s) (run_ends is_blank next))) ks
        (omega (arith, openers_of_end e, opened s refl, openers_of_end (run_ends is_blank next)))
    header_opened e (array_of_tables {inner = inner} s t ks f g) =
        keys_opened 2 (ends_on e (ends_on (sign_ends s) (ends_on (sign_ends t) (run_ends is_blank inner)))) ks
        (omega (arith, openers_of_end e, opened s refl, opened t refl, openers_of_end (run_ends is_blank inner)))

    pub header_passed : {text rest : Text} {p : ℕ} {ks : List Key} {a : Bool} → IsHeader text p ks a rest
        → length ks + openers rest ≤ openers text
    header_passed (table {next = next} {mid = mid} s ks f) =
        omega (
          arith,
          opened s refl,
          openers_of_end (run_ends is_blank next),
          keys_passed ks,
          openers_of_end (run_ends is_blank mid),
          openers_of_end (sign_ends f),
        )
    header_passed (array_of_tables {inner = inner} {mid = mid} s t ks f g) =
        omega (
          arith,
          opened s refl,
          opened t refl,
          openers_of_end (run_ends is_blank inner),
          keys_passed ks,
          openers_of_end (run_ends is_blank mid),
          openers_of_end (sign_ends f),
          openers_of_end (sign_ends g),
        )

    sections_opened : {text : Text} {ss : List Section} → IsEnd whole text → IsSections comment text ss
        → AllOpened (deep_offsets limit ss)
    sections_opened e no_more = none_opened
    sections_opened e (section {keys = ks} {rows = rs} {sections = ss} {text = text} {mid = mid} {next = next} i f xs
        on) =
        let b : IsEnd whole (after_blanks text) = ends_on e (run_ends is_blank text) in
        let d : IsEnd whole next = ends_on b (ends_on (header_ends i) (line_ends comment f)) in
        let n : (length ks + 1) + openers next ≤ suc (openers whole) =
        omega (arith, openers_of_end b, header_passed i, openers_of_end (line_ends comment f)) in
        All-append IsOpened (deep_keys limit 2 ks ++ deep_rows limit (length ks + 1) rs) (deep_offsets limit ss)
        (All-append IsOpened (deep_keys limit 2 ks) (deep_rows limit (length ks + 1) rs) (header_opened b i)
        (rows_opened (length ks + 1) d xs n))
        (sections_opened (ends_on d (rows_end comment xs)) on)

    list_opened : {ss : List Section} → IsSectionListBy comment whole ss → AllOpened (deep_offsets limit ss)
    list_opened g = subst (λ ss. AllOpened (deep_offsets limit ss)) (sym g.all)
        (go g.rows (rows_opened 1 all g.root (omega arith)) (sections_opened (rows_end comment g.root) g.others))
      where
        go : (rs : Rows) → AllOpened (deep_rows limit 1 rs) → AllOpened (deep_offsets limit g.headed)
            → AllOpened (deep_offsets limit (with_root rs g.headed))
        go no_rows a b = b
        go (row ks p v rs) a b =
            All-append IsOpened (deep_rows limit 1 (row ks p v rs)) (deep_offsets limit g.headed) a b

-- offsets rise from n on
abbrev Rises : ℕ → Text → Type 0
Rises n [] = Unit {0}
Rises n (x ∷ text) = (n ≤ x.0) × Rises (suc x.0) text

rises_from_less : (m n : ℕ) (text : Text) → m ≤ n → Rises n text → Rises m text
rises_from_less m n [] h r = tt
rises_from_less m n (x ∷ text) h r = (omega arith, r.1)

folded_rises : (taken : Bool) (at : ℕ) (cs : List ℕ) → Rises at (folded_from taken at cs)
folded_rises taken at [] = tt
folded_rises true at (c ∷ cs) =
    rises_from_less at (at + len_utf8 c) (folded_from false (at + len_utf8 c) cs) (omega arith)
    (folded_rises false (at + len_utf8 c) cs)
folded_rises false at (c ∷ cs) =
    go (c == 13 && first_of cs == 10) (folded_rises true (at + 1) cs) (folded_rises false (at + len_utf8 c) cs)
  where
    go : (b : Bool) → Rises (at + 1) (folded_from true (at + 1) cs)
        → Rises (at + len_utf8 c) (folded_from false (at + len_utf8 c) cs)
        → Rises at (cond b ((at, 10) ∷ folded_from true (at + 1) cs) ((at, c) ∷ folded_from false (at + len_utf8 c) cs))
    go true h k = (omega arith, rises_from_less (suc at) (at + 1) (folded_from true (at + 1) cs) (omega arith) h)
    go false h k = (
      omega arith,
      rises_from_less (suc at) (at + len_utf8 c) (folded_from false (at + len_utf8 c) cs)
          (omega (arith, (len_utf8_bounds c).0)) k,
    )

later_in : {text next : Text} {p c : ℕ} (n : ℕ) → IsEnd text ((p, c) ∷ next) → Rises n text → n ≤ p
later_in n all r = r.0
later_in n (further {x = x} e) r = omega (arith, later_in (suc x.0) e r.1)

-- what stands before an end that begins at an offset
openers_before : {text next : Text} {p c : ℕ} (n : ℕ) → IsEnd text ((p, c) ∷ next) → Rises n text
    → openers text ≡ openers (before p text) + openers ((p, c) ∷ next)
openers_before {next = next} {p = p} {c = c} n all r = rw (eq-eqb p p refl) (omega arith)
openers_before {next = next} {p = p} {c = c} n (further {x = x} {text = text} e) r =
    go (x.0 == p) refl (leads_deeper x.1) refl (openers_before (suc x.0) e r.1)
  where
    go : (a : Bool) → (x.0 == p) ≡ a → (b : Bool) → leads_deeper x.1 ≡ b
        → openers text ≡ openers (before p text) + openers ((p, c) ∷ next)
        → cond b (suc (openers text)) (openers text) ≡ openers (cond a [] (x ∷ before p text)) + openers ((p, c) ∷ next)
    go true f b g h = absurd (omega (arith, eqb-true x.0 p f, later_in (suc x.0) e r.1))
    go false f true g h = rw g (omega arith)
    go false f false g h = rw g h

agrees_before : {p : ℕ} {text other : Text} → AgreeTo p text other → before p text ≡ before p other
agrees_before {p = p} (here {c = c} {text = text} {other = other}) =
    let same : (p == p) ≡ true = eq-eqb p p refl in
    ap (λ b. cond b [] ((p, c) ∷ before p text)) same ∙ sym (ap (λ b. cond b [] ((p, c) ∷ before p other)) same)
agrees_before {p = p} (AgreeTo.further {x = x} a) = ap (λ t. cond (x.0 == p) [] (x ∷ t)) (agrees_before a)

first_opened : (limit : ℕ) (whole : Text) (offsets : List ℕ) (p : ℕ) → AllOpened limit whole offsets
    → first_offset offsets ≡ Some p → IsOpened limit whole p
first_opened limit whole [] p h e = cc
first_opened limit whole (q ∷ offsets) p h e =
    let same : q ≡ p = cc in
    subst (IsOpened limit whole) same (All-head (IsOpened limit whole) q offsets h)

pub deep_offsets_are_opened : DeepOffsetsAreOpened
deep_offsets_are_opened limit p text d =
    let whole : Text = folded d.bytes in
    let o : IsOpened limit whole p =
    first_opened limit whole (deep_offsets limit d.sections) p (list_opened limit whole is_comment d.grammar)
    d.first in
    let split : openers whole ≡ openers (before p whole) + openers ((p, o.char) ∷ o.next) =
    openers_before (start_of d.bytes) o.ends
    (folded_rises false (start_of d.bytes) (chars (drop (start_of d.bytes) d.bytes))) in
    let same : before p text ≡ before p whole = agrees_before d.agree in
    omega (arith, ap openers same, o.many)
