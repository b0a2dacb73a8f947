-- A string of a text asks for a copy by its characters where it does by its bytes.
use Rattle.std.proofs.Common.{◌⊎◌, inl, inr, ◌≡◌, ℕ, zero, suc, ◌+◌, ◌-◌, ◌<◌, ◌≤◌, ◌==◌, ◌||◌, ◌&&◌, min, Bool}
use Rattle.std.proofs.Common.{true, false, cond, List, [], ◌∷◌, ◌++◌, length, drop, take, get_or, refl, ap, sym, ◌∙◌}
use Rattle.std.proofs.Common.{subst, arith, encode_utf8, encode_utf8_all, length-drop, add-zero}
use Rattle.std.specs.Prelude.{nat_lt}
use Rattle.std.specs.Char.{len_utf8}
use Rattle.std.specs.List.{list_any}
use Rattle.std.specs.Str.{IsUtf8, IsCharBoundary}
use Rattle.std.proofs.lemmas.Bool.{cases_eq, cases_lt, lt-ltb, le-ltb, eqb-true, ne_eqb, or_from, and_left}
use Rattle.std.proofs.lemmas.List.{take_at, append-nil}
use Rattle.std.proofs.lemmas.List.Folds.{list_any-append}
use Rattle.std.proofs.lemmas.Str.{IsUtf8-drop, inside_one, length-encode, len_utf8_bounds, len_utf8_ascii, encode_ascii}
use Rattle.basic_toml_tokens.specs.Text.{Text, text_at, offset_in, run}
use Rattle.basic_toml_tokens.specs.Strings.{Quotes, is_quote, count_of, after_feed, Closes, one, several, Opens}
use Rattle.basic_toml_tokens.specs.Strings.{one_line, multiline}
use Rattle.basic_toml_tokens.specs.Reading.{between, AreFeedBytes, IsStep}
use Rattle.basic_toml_tokens.specs.Copies.{is_special, is_copied}
use Rattle.basic_toml_tokens.specs.Quote.{kind_of}
use Rattle.basic_toml_tokens.proofs.TextBetweenOffsets.{between_self, between_join, between_one, between_cons}
use Rattle.basic_toml_tokens.proofs.TextBetweenOffsets.{get_or-between}
use Rattle.basic_toml_tokens.proofs.DelimitersAreCounted.{quote_bounds}
use Rattle.basic_toml_tokens.proofs.StepIsTheFold.{text_end, step_other, step_bare, step_feed, byte_step, offset_is}
use Rattle.basic_toml_tokens.proofs.RestsArePartsOfText.{IsPart, part_trans, pieces_part, part_later}
use Rattle.basic_toml_tokens.proofs.FoundIsAllThatStands.{offsets_same}
use Rattle.basic_toml_tokens.proofs.BytesTellThePiece.{no_special}
use Rattle.basic_toml_tokens.proofs.OffsetsTellTheText.{part_stands, first_at, opens_at}
use Rattle.basic_toml_tokens.proofs.TokenIsUnique.{Opening, opens_is}
use Rattle.basic_toml_grammar.specs.Copies.{up_to, width, any_shrinks, delimiter_of, needs_copy, CopiesAgree}

-- characters up to a rest, without the first ones
take_none : (n : ℕ) → take {A = ℕ × ℕ} n [] ≡ []
take_none zero = refl
take_none (suc n) = refl

none_up_to : (rest : Text) → up_to rest [] ≡ []
none_up_to rest = take_none (0 - length rest)

behind_one : (rest : Text) (x : ℕ × ℕ) (text : Text) → drop 1 (up_to rest (x ∷ text)) ≡ up_to rest text
behind_one rest x text = go (length (x ∷ text) - length rest) refl
  where
    go : (n : ℕ) → length (x ∷ text) - length rest ≡ n → drop 1 (take n (x ∷ text)) ≡ up_to rest text
    go zero e =
        let none : 0 ≡ length text - length rest = omega (arith, e) in ap (λ (i : ℕ). take i text) none
    go (suc n) e =
        let less : n ≡ length text - length rest = omega (arith, e) in ap (λ (i : ℕ). take i text) less

drop_on : (n : ℕ) (text : Text) → drop (suc n) text ≡ drop n (drop 1 text)
drop_on zero [] = refl
drop_on (suc n) [] = refl
drop_on n (x ∷ text) = refl

behind : (n : ℕ) (rest text : Text) → drop n (up_to rest text) ≡ up_to rest (drop n text)
behind zero rest text = refl
behind (suc n) rest [] = ap (drop (suc n)) (none_up_to rest) ∙ sym (none_up_to rest)
behind (suc n) rest (x ∷ text) =
    drop_on n (up_to rest (x ∷ text)) ∙ ap (drop n) (behind_one rest x text) ∙ behind n rest text

behind_feed : (rest text : Text) → after_feed (up_to rest text) ≡ up_to rest (after_feed text)
behind_feed rest [] = ap after_feed (none_up_to rest) ∙ sym (none_up_to rest)
behind_feed rest (x ∷ text) = go (x.1 == 10) refl (length (x ∷ text) - length rest) refl
  where
    go : (b : Bool) → (x.1 == 10) ≡ b → (n : ℕ) → length (x ∷ text) - length rest ≡ n
        → after_feed (take n (x ∷ text)) ≡ up_to rest (cond b text (x ∷ text))
    go true f zero e =
        let none : 0 ≡ length text - length rest = omega (arith, e) in ap (λ (i : ℕ). take i text) none
    go true f (suc n) e =
        let less : n ≡ length text - length rest = omega (arith, e) in
        ap (λ b. cond b (take n text) (x ∷ take n text)) f ∙ ap (λ (i : ℕ). take i text) less
    go false f zero e = ap (λ (i : ℕ). take i (x ∷ text)) (sym e)
    go false f (suc n) e =
        ap (λ b. cond b (take n text) (x ∷ take n text)) f ∙ ap (λ (i : ℕ). take i (x ∷ text)) (sym e)

part_length : (rest text : Text) → IsPart rest text → length rest ≤ length text
part_length rest text (n, e) = omega (arith, ap length e, length-drop n text)

first_of_string : (rest : Text) (x : ℕ × ℕ) (text : Text) → IsPart rest text
    → delimiter_of (up_to rest (x ∷ text)) ≡ x.1
first_of_string rest x text part =
    let more : length (x ∷ text) - length rest ≡ suc (length text - length rest) =
    omega (arith, part_length rest text part) in
    ap (λ (i : ℕ). delimiter_of (take i (x ∷ text))) more

part_feed : (text : Text) → IsPart (after_feed text) text
part_feed [] = (0, refl)
part_feed (x ∷ text) = go (x.1 == 10)
  where
    go : (b : Bool) → IsPart (cond b text (x ∷ text)) (x ∷ text)
    go true = (1, refl)
    go false = (0, refl)

-- a string ends with its delimiter
counted : (d i : ℕ) (text : Text) → i < count_of d text → (p : ℕ) × (drop i text ≡ (p, d) ∷ drop (suc i) text)
counted d i [] h = absurd (omega arith)
counted d i (x ∷ text) h = go (x.1 == d) refl i h (λ j l. counted d j text l)
  where
    go : (b : Bool) → (x.1 == d) ≡ b → (i : ℕ) → i < length (cond b (x.1 ∷ run (λ c. c == d) text) [])
        → ((j : ℕ) → j < count_of d text → (p : ℕ) × (drop j text ≡ (p, d) ∷ drop (suc j) text))
        → (p : ℕ) × (drop i (x ∷ text) ≡ (p, d) ∷ drop (suc i) (x ∷ text))
    go false e i h on = absurd (omega arith)
    go true e zero h on = (x.0, ap (λ (c : ℕ). (x.0, c) ∷ text) (eqb-true x.1 d e))
    go true e (suc i) h on = on i (omega arith)

ends_so : {d : ℕ} {m : Bool} {text rest : Text} {tail : List ℕ}
    → Closes (record { delimiter = d; multiline = m }) text tail rest → (p : ℕ) × IsPart ((p, d) ∷ rest) text
ends_so (one {p = p} m e) = (p, (0, sym e))
ends_so {d = d} (several {n = n} {text = text} m e l) =
    let (p, last) = counted d (min n 5 - 1) text (omega (arith, e, l)) in
    let one_more : suc (min n 5 - 1) ≡ min n 5 = omega (arith, l) in
    (p, (min n 5 - 1, sym (last ∙ ap (λ (i : ℕ). (p, d) ∷ drop i text) one_more)))

-- one character, with its bytes
small_or : (d c : ℕ) → 128 ≤ c → is_special d c ≡ false
small_or d c h =
    or_from (c == 13) (c == 92 && d == 34) (ne_eqb c 13 (λ e. absurd (omega (arith, e))))
    (and_left (c == 92) (d == 34) (ne_eqb c 92 (λ e. absurd (omega (arith, e)))))

none_of : (p : ℕ → Bool) (bs : List ℕ) → ((i : ℕ) → i < length bs → p (get_or bs i 0) ≡ false) → list_any p bs ≡ false
none_of p [] h = refl
none_of p (b ∷ bs) h =
    or_from (p b) (list_any p bs) (h 0 (omega arith)) (none_of p bs (λ i l. h (suc i) (omega arith)))

in_character : (d c : ℕ) → list_any (is_special d) (encode_utf8 c) ≡ is_special d c
in_character d c = go (cases_lt c 128)
  where
    or_false : (b : Bool) → (b || false) ≡ b
    or_false true = refl
    or_false false = refl

    wide : 128 ≤ c → (i : ℕ) → i < length (encode_utf8 c) → is_special d (get_or (encode_utf8 c) i 0) ≡ false
    wide h i l = by (cases_lt (get_or (encode_utf8 c) i 0) 128)
      where
        by : (get_or (encode_utf8 c) i 0 < 128) ⊎ (128 ≤ get_or (encode_utf8 c) i 0)
            → is_special d (get_or (encode_utf8 c) i 0) ≡ false
        by (inl small) =
            let same = inside_one c [] (encode_utf8 c) i (sym (append-nil (encode_utf8 c))) l small in
            absurd (omega (arith, same))
        by (inr large) = small_or d (get_or (encode_utf8 c) i 0) large

    go : (c < 128) ⊎ (128 ≤ c) → list_any (is_special d) (encode_utf8 c) ≡ is_special d c
    go (inl small) = ap (list_any (is_special d)) (encode_ascii c small) ∙ or_false (is_special d c)
    go (inr large) = none_of (is_special d) (encode_utf8 c) (wide large) ∙ sym (small_or d c large)

-- a character and its bytes up to the next one
record Shrinks (bytes : List ℕ) (d u : ℕ) : Type 0 where
  character : ℕ
  next : ℕ
  step : IsStep bytes u character next
  same : nat_lt (u + width d character) next ≡ list_any (is_special d) (between bytes u next)

module _ (bytes : List ℕ) (whole : IsUtf8 bytes) (d : ℕ) where
  shrinks : (u : ℕ) → IsCharBoundary bytes u → (text_at bytes u ≡ []) ⊎ Shrinks bytes d u
  shrinks u here = go (IsUtf8-drop bytes u whole here).0 (IsUtf8-drop bytes u whole here).1.1
    where
      by : (b : Bool) (n : ℕ) → 1 ≤ n → nat_lt (u + cond b 0 n) (u + n) ≡ b
      by true n h = lt-ltb (u + 0) (u + n) (omega arith)
      by false n h = le-ltb (u + n) (u + n) (omega arith)

      alone : (c : ℕ) (rest : List ℕ) → drop u bytes ≡ encode_utf8 c ++ rest → IsStep bytes u c (u + len_utf8 c)
          → (text_at bytes u ≡ []) ⊎ Shrinks bytes d u
      alone c rest is s =
          let long : u + len_utf8 c - u ≡ len_utf8 c = omega arith in
          let bytes_are : between bytes u (u + len_utf8 c) ≡ encode_utf8 c =
          ap (λ (n : ℕ). take n (drop u bytes)) long ∙ ap (take (len_utf8 c)) is
          ∙ take_at (encode_utf8 c) rest (len_utf8 c) (length-encode c) in
          inr (record {
            character = c;
            next = u + len_utf8 c;
            step = s;
            same = by (is_special d c) (len_utf8 c) (len_utf8_bounds c).0 ∙ sym (in_character d c)
                ∙ sym (ap (list_any (is_special d)) bytes_are);
          })

      feed_same : (next : ℕ) → u < next → IsCharBoundary bytes next → AreFeedBytes bytes u next
          → nat_lt (u + width d 10) next ≡ list_any (is_special d) (between bytes u next)
      feed_same next later there (inl (is, ends)) =
          ap (λ (n : ℕ). nat_lt (u + n) next) (len_utf8_ascii 10 (omega arith))
          ∙ le-ltb (u + 1) next (omega (arith, ends))
          ∙ sym (ap (λ (n : ℕ). list_any (is_special d) (between bytes u n)) ends
          ∙ ap (list_any (is_special d)) (between_one bytes u (omega (arith, later, there.0))
          ∙ ap (λ (b : ℕ). b ∷ []) is))
      feed_same next later there (inr (is, then, ends)) =
          ap (λ (n : ℕ). nat_lt (u + n) next) (len_utf8_ascii 10 (omega arith))
          ∙ lt-ltb (u + 1) next (omega (arith, ends))
          ∙ sym (ap (list_any (is_special d)) (between_cons bytes u next (omega (arith, later, there.0)) later)
          ∙ ap (λ (b : ℕ). is_special d b || list_any (is_special d) (between bytes (u + 1) next)) is)

      feed : (next : ℕ) → IsStep bytes u 10 next → (text_at bytes u ≡ []) ⊎ Shrinks bytes d u
      feed next s = inr (record {
        character = 10;
        next = next;
        step = s;
        same = feed_same next s.later s.boundary (s.feed refl);
      })

      first : (c : ℕ) (rest : List ℕ) → drop u bytes ≡ encode_utf8 c ++ rest → (c ≡ 13) ⊎ (c ≡ 13 → ⊥)
          → (get_or rest 0 0 ≡ 10) ⊎ (get_or rest 0 0 ≡ 10 → ⊥) → (text_at bytes u ≡ []) ⊎ Shrinks bytes d u
      first c rest is (inr ne) _ = alone c rest is (step_other bytes rest u c whole here is ne)
      first c rest is (inl e) (inr ne) = alone c rest is (step_bare bytes rest u c whole here is ne)
      first c rest is (inl e) (inl f) = feed _ (step_feed bytes rest u c whole here is e f)

      go : (cs : List ℕ) → encode_utf8_all cs ≡ drop u bytes → (text_at bytes u ≡ []) ⊎ Shrinks bytes d u
      go [] e = inl (text_end bytes u (omega (arith, ap length e, length-drop u bytes)))
      go (c ∷ cs) e =
          first c (encode_utf8_all cs) (sym e) (cases_eq c 13) (cases_eq (get_or (encode_utf8_all cs) 0 0) 10)

  -- the characters up to one that stands at an offset, and that one
  shrink_so : (k u w : ℕ) → IsCharBoundary bytes u → IsCharBoundary bytes w → (text_at bytes w ≡ [] → ⊥)
      → text_at bytes w ≡ drop k (text_at bytes u)
      → any_shrinks d (take (suc k) (text_at bytes u)) ≡ list_any (is_special d) (between bytes u w)
  shrink_so zero u w here there some e =
      let same : u ≡ w = offsets_same bytes u whole u w here there (sym e) in
      last (text_at bytes u) ∙ sym (ap (λ (n : ℕ). list_any (is_special d) (between bytes u n)) (sym same)
      ∙ ap (list_any (is_special d)) (between_self bytes u))
    where
      last : (text : Text) → any_shrinks d (take 1 text) ≡ false
      last [] = refl
      last (x ∷ text) = or_from (nat_lt (x.0 + width d x.1) 0) false (le-ltb (x.0 + width d x.1) 0 (omega arith)) refl
  shrink_so (suc k) u w here there some e = go (shrinks u here) (λ n at on. shrink_so k n w at there some on)
    where
      begins : (n : ℕ) (text : Text) → text_at bytes n ≡ text → text_at bytes w ≡ drop k text
          → offset_in 0 (take (suc k) text) ≡ n
      begins n [] f g = absurd (some (g ∙ none k))
        where
          none : (i : ℕ) → drop {A = ℕ × ℕ} i [] ≡ []
          none zero = refl
          none (suc i) = refl
      begins n (x ∷ text) f g = offset_is bytes n x text f

      go : (text_at bytes u ≡ []) ⊎ Shrinks bytes d u
          → ((n : ℕ) → IsCharBoundary bytes n → text_at bytes w ≡ drop k (text_at bytes n)
          → any_shrinks d (take (suc k) (text_at bytes n)) ≡ list_any (is_special d) (between bytes n w))
          → any_shrinks d (take (suc (suc k)) (text_at bytes u)) ≡ list_any (is_special d) (between bytes u w)
      go (inl f) further = absurd (some (e ∙ ap (drop (suc k)) f))
      go (inr s) further =
          let on : text_at bytes w ≡ drop k (text_at bytes s.next) = e ∙ ap (drop (suc k)) s.step.text in
          let ahead : s.next ≤ w = part_later bytes s.next w whole s.step.boundary.0 there (k, on) in
          let special = list_any (is_special d) in
          ap (λ (t : Text). any_shrinks d (take (suc (suc k)) t)) s.step.text
          ∙ ap (λ (n : ℕ). nat_lt (u + width d s.character) n || any_shrinks d (take (suc k) (text_at bytes s.next)))
          (begins s.next (text_at bytes s.next) refl on)
          ∙ ap (λ b. b || any_shrinks d (take (suc k) (text_at bytes s.next))) s.same
          ∙ ap (λ b. special (between bytes u s.next) || b) (further s.next s.step.boundary on)
          ∙ sym (list_any-append (is_special d) (between bytes u s.next) (between bytes s.next w))
          ∙ ap special (between_join bytes u s.next w (omega (arith, s.step.later)) ahead)

  module _ (quote : is_quote d ≡ true) (end : ℕ) (there : IsCharBoundary bytes end) where
    -- up to an offset before which the delimiter stands
    asks_so : (u : ℕ) → IsCharBoundary bytes u → (p : ℕ) → IsPart ((p, d) ∷ text_at bytes end) (text_at bytes u)
        → any_shrinks d (up_to (text_at bytes end) (text_at bytes u))
        ≡ list_any (is_special d) (between bytes u end)
    asks_so u here p (k, e) =
        let text = text_at bytes u in
        let rest = text_at bytes end in
        let r = part_stands k bytes u whole here in
        let w = r.offset in
        let last : text_at bytes w ≡ (p, d) ∷ rest = r.is ∙ sym e in
        let (within, byte) = first_at bytes w whole r.boundary d p rest last quote in
        let (small, no_return, no_feed) = quote_bounds d quote in
        let s = byte_step bytes w whole r.boundary within d byte small no_return in
        let both : (w, d) ∷ text_at bytes (w + 1) ≡ (p, d) ∷ rest = sym s.text ∙ last in
        let after : text_at bytes (w + 1) ≡ rest = cc in
        let ends : end ≡ w + 1 = offsets_same bytes u whole end (w + 1) there s.boundary (sym after) in
        let later : u ≤ w = part_later bytes u w whole here.0 r.boundary (k, r.is) in
        let many : length text - length rest ≡ suc k = omega (arith, ap length e, length-drop k text) in
        let special = list_any (is_special d) in
        ap (λ (n : ℕ). any_shrinks d (take n text)) many
        ∙ shrink_so k u w here r.boundary (some_text last) r.is
        ∙ sym (ap (λ (n : ℕ). special (between bytes u n)) ends
        ∙ ap special (sym (between_join bytes u w (w + 1) later (omega arith)))
        ∙ list_any-append (is_special d) (between bytes u w) (between bytes w (w + 1))
        ∙ ap (λ b. special (between bytes u w) || b)
        (ap special (between_one bytes w within ∙ ap (λ (b : ℕ). b ∷ []) byte) ∙ no_special d 1 quote)
        ∙ or_false (special (between bytes u w)))
      where
        some_text : {x : ℕ × ℕ} {t u : Text} → t ≡ x ∷ u → t ≡ [] → ⊥
        some_text {x = x} {u = u} e f = let z : x ∷ u ≡ [] = sym e ∙ f in cc

        or_false : (b : Bool) → (b || false) ≡ b
        or_false true = refl
        or_false false = refl

pub copies_agree : CopiesAgree
copies_agree bytes at end p m value whole here there s =
    let (q, last) = ends_so s.closes in
    ap (λ m. is_copied m (between bytes at end)) (sym s.lines)
    ∙ go s.opens q (part_trans _ _ _ last (pieces_part s.pieces))
    ∙ ap (λ m. needs_copy m (up_to (text_at bytes end) (text_at bytes at))) s.lines
  where
    rest : Text
    rest = text_at bytes end

    tail_part : (x : ℕ × ℕ) (text : Text) → IsPart (x ∷ rest) text → IsPart rest text
    tail_part x text part = part_trans rest (x ∷ rest) text (1, refl) part

    go : {p : ℕ} {k : Quotes} {body : Text} → Opens (text_at bytes at) p k body → (q : ℕ)
        → IsPart ((q, k.delimiter) ∷ rest) body
        → is_copied k.multiline (between bytes at end) ≡ needs_copy k.multiline (up_to rest (text_at bytes at))
    go (one_line {p = p} {d = d} {next = next} e quote few) q part =
        let text = text_at bytes at in
        let (within, byte) = first_at bytes at whole here d p next e quote in
        let (small, no_return, no_feed) = quote_bounds d quote in
        let s = byte_step bytes at whole here within d byte small no_return in
        let both : (at, d) ∷ text_at bytes (at + 1) ≡ (p, d) ∷ next = sym s.text ∙ e in
        let after : next ≡ text_at bytes (at + 1) = cc in
        let behind_it : IsPart rest (text_at bytes (at + 1)) =
        subst (λ (t : Text). IsPart rest t) after (tail_part (q, d) next part) in
        let later : at + 1 ≤ end = part_later bytes (at + 1) end whole s.boundary.0 there behind_it in
        let first : get_or (between bytes at end) 0 0 ≡ d =
        get_or-between bytes at end 0 (omega arith) ∙ ap (λ (n : ℕ). get_or bytes n 0) (add-zero at) ∙ byte in
        let delimiter : delimiter_of (up_to rest text) ≡ d =
        ap (λ (t : Text). delimiter_of (up_to rest t)) e
        ∙ first_of_string rest (p, d) next (tail_part (q, d) next part) in
        let all : IsPart ((q, d) ∷ rest) text = part_trans _ _ _ part (1, sym (ap (drop 1) e)) in
        ap (λ (b : ℕ). list_any (is_special b) (between bytes at end)) first
        ∙ sym (asks_so bytes whole d quote end there at here q all)
        ∙ ap (λ (b : ℕ). any_shrinks b (up_to rest text)) (sym delimiter)
    go (multiline {p = p} {d = d} {next = next} e quote many) q part =
        let text = text_at bytes at in
        let (quotes, begin, open_is) = opens_at bytes at whole here (multiline e quote many) in
        let kind : Quotes = record { delimiter = d; multiline = true } in
        let here_opens : Opening = record { offset = p; kind = kind; body = after_feed (drop 2 next) } in
        let there_opens : Opening = record { offset = at; kind = kind_of quotes; body = text_at bytes begin } in
        let same : here_opens ≡ there_opens = sym (opens_is (multiline e quote many)) ∙ opens_is open_is.opens in
        let body : after_feed (drop 2 next) ≡ text_at bytes begin = ap (λ (w : Opening). w.body) same in
        let on : IsPart ((q, d) ∷ rest) (text_at bytes begin) =
        subst (λ (t : Text). IsPart ((q, d) ∷ rest) t) body part in
        let later : begin ≤ end =
        part_later bytes begin end whole open_is.boundary.0 there (tail_part (q, d) (text_at bytes begin) on) in
        let copies : is_copied true (between bytes at end) ≡ list_any (is_special d) (between bytes begin end) =
        ap (λ (w : Opening). is_copied w.kind.multiline (between bytes at end)) same
        ∙ open_is.copies end later there.0
        ∙ ap (λ (w : Opening). list_any (is_special w.kind.delimiter) (between bytes begin end)) (sym same) in
        let inside : IsPart rest next =
        part_trans _ _ _ (tail_part (q, d) (after_feed (drop 2 next)) part)
        (part_trans _ _ _ (part_feed (drop 2 next)) (2, refl)) in
        let delimiter : delimiter_of (up_to rest text) ≡ d =
        ap (λ (t : Text). delimiter_of (up_to rest t)) e ∙ first_of_string rest (p, d) next inside in
        let source : after_feed (drop 3 (up_to rest text)) ≡ up_to rest (text_at bytes begin) =
        ap after_feed (behind 3 rest text) ∙ behind_feed rest (drop 3 text)
        ∙ ap (λ (t : Text). up_to rest (after_feed (drop 3 t))) e ∙ ap (up_to rest) body in
        copies
        ∙ sym (asks_so bytes whole d quote end there begin open_is.boundary q on)
        ∙ ap (any_shrinks d) (sym source)
        ∙ ap (λ (b : ℕ). any_shrinks b (after_feed (drop 3 (up_to rest text)))) (sym delimiter)
