-- What the scanner finds is what stands there, and the other way round.
use Rattle.std.proofs.Common.{◌⊎◌, inl, inr, ◌≡◌, ℕ, zero, suc, ◌+◌, ◌*◌, ◌<◌, ◌≤◌, ◌==◌, ◌&&◌, ◌||◌, Bool, true}
use Rattle.std.proofs.Common.{false, not, cond, List, [], ◌∷◌, length, drop, take, refl, ap, sym, ◌∙◌, subst, arith}
use Rattle.std.proofs.Common.{Option, Some, None, is_none}
use Rattle.std.specs.Char.{digit_value}
use Rattle.std.specs.Str.Parse.{digits_value_after}
use Rattle.std.proofs.lemmas.Bool.{or_cases, or_parts, or_left, or_right, and_parts, and_from, ne_eqb, eq-eqb}
use Rattle.std.proofs.lemmas.Bool.{eqb-true, not-true, lt-ltb, le-ltb, false_from_ne_true}
use Rattle.std.proofs.lemmas.Bool.Decides.{nat_tests}
use lib.Utf8.{scalar}
use Rattle.basic_toml_tokens.specs.declared.error.Error.{Error}
use Rattle.basic_toml_tokens.specs.declared.error.Error.TheVariants.{InvalidEscape, InvalidHexEscape}
use Rattle.basic_toml_tokens.specs.declared.error.Error.TheVariants.{InvalidEscapeValue, UnterminatedString}
use Rattle.basic_toml_tokens.specs.Text.{Text, run, after_run, is_blank, is_comment}
use Rattle.basic_toml_tokens.specs.Strings.{Quotes, is_quote, count_of, is_plain, letter_value, hex_count, is_hex}
use Rattle.basic_toml_tokens.specs.Strings.{is_space, Pieces, none, piece, IsPiece, content, delimiters, letter}
use Rattle.basic_toml_tokens.specs.Strings.{unicode, continuation, Closes, one, several}
use Rattle.basic_toml_tokens.specs.Faults.{is_control, Breaks, over, feed, control, over_in_escape, escape, blank}
use Rattle.basic_toml_tokens.specs.Faults.{over_in_blanks, hex, over_in_hex, value}
use Rattle.basic_toml_tokens.specs.BodyFront.{Front, more, closed, broken, hex_front, blanks_front, letter_front}
use Rattle.basic_toml_tokens.specs.BodyFront.{escape_front, delimiters_front, front_of}

-- what a character is in a body
pub plain_tests : (d c : ℕ) → is_plain d c ≡ true → ((c == d) ≡ false) × ((c == 92 && d == 34) ≡ false)
    × ((c == 10) ≡ false) × (is_comment c ≡ true)
plain_tests d c h =
    let (a, b) = and_parts (is_comment c && not (c == d)) (not (c == 92 && d == 34)) h in
    let (e, f) = and_parts (is_comment c) (not (c == d)) a in
    (not-true (c == d) f, not-true (c == 92 && d == 34) b, no_feed (is_comment c) refl e, e)
  where
    no_feed : (b : Bool) → is_comment c ≡ b → b ≡ true → (c == 10) ≡ false
    no_feed b e t = ne_eqb c 10 (λ k. let z : is_comment 10 ≡ true = rw k at (e ∙ t) in cc)

quote_is_no_feed : (d : ℕ) → is_quote d ≡ true → (10 == d) ≡ false
quote_is_no_feed d q = ne_eqb 10 d (λ e. let z : is_quote 10 ≡ true = rw (← e) at q in cc)

control_tests : (d c : ℕ) → is_quote d ≡ true → is_control c ≡ true → ((c == d) ≡ false) × ((c == 92) ≡ false)
    × ((c == 10) ≡ false) × (is_comment c ≡ false)
control_tests d c q h = (
  grind (arith, nat_tests, or_cases, and_parts, h, q),
  grind (arith, nat_tests, or_cases, and_parts, h),
  grind (arith, nat_tests, or_cases, and_parts, h),
  grind (arith, nat_tests, or_cases, and_parts, h),
)

-- n digits, after digits that write u
pub hex_reads : (start p u n : ℕ) (text : Text) → n ≤ length (run is_hex text)
    → scalar (digits_value_after 16 u (take n (run is_hex text))) ≡ true
    → hex_front start p u n text ≡ more (digits_value_after 16 u (take n (run is_hex text)) ∷ []) (drop n text)
hex_reads start p u zero text h s = rw s refl
hex_reads start p u (suc n) [] h s = absurd (omega arith)
hex_reads start p u (suc n) (x ∷ text) h s = go (is_hex x.1) h s (hex_reads start p (u * 16 + digit_value x.1) n text)
  where
    go : (b : Bool) → suc n ≤ length (cond b (x.1 ∷ run is_hex text) [])
        → scalar (digits_value_after 16 u (take (suc n) (cond b (x.1 ∷ run is_hex text) []))) ≡ true
        → (n ≤ length (run is_hex text)
        → scalar (digits_value_after 16 (u * 16 + digit_value x.1) (take n (run is_hex text))) ≡ true
        → hex_front start p (u * 16 + digit_value x.1) n text
        ≡ more (digits_value_after 16 (u * 16 + digit_value x.1) (take n (run is_hex text)) ∷ []) (drop n text))
        → cond b (hex_front start p (u * 16 + digit_value x.1) n text) (broken (InvalidHexEscape x.0 x.1) text)
        ≡ more (digits_value_after 16 u (take (suc n) (cond b (x.1 ∷ run is_hex text) [])) ∷ []) (drop n text)
    go true h s ih = ih (omega arith) s
    go false h s ih = absurd (omega arith)

pub hex_no_character : (start p u n : ℕ) (text : Text) → n ≤ length (run is_hex text)
    → scalar (digits_value_after 16 u (take n (run is_hex text))) ≡ false
    → hex_front start p u n text
    ≡ broken (InvalidEscapeValue p (digits_value_after 16 u (take n (run is_hex text)))) (drop n text)
hex_no_character start p u zero text h s = rw s refl
hex_no_character start p u (suc n) [] h s = absurd (omega arith)
hex_no_character start p u (suc n) (x ∷ text) h s =
    go (is_hex x.1) h s (hex_no_character start p (u * 16 + digit_value x.1) n text)
  where
    go : (b : Bool) → suc n ≤ length (cond b (x.1 ∷ run is_hex text) [])
        → scalar (digits_value_after 16 u (take (suc n) (cond b (x.1 ∷ run is_hex text) []))) ≡ false
        → (n ≤ length (run is_hex text)
        → scalar (digits_value_after 16 (u * 16 + digit_value x.1) (take n (run is_hex text))) ≡ false
        → hex_front start p (u * 16 + digit_value x.1) n text
        ≡ broken (InvalidEscapeValue p
        (digits_value_after 16 (u * 16 + digit_value x.1) (take n (run is_hex text)))) (drop n text))
        → cond b (hex_front start p (u * 16 + digit_value x.1) n text) (broken (InvalidHexEscape x.0 x.1) text)
        ≡ broken (InvalidEscapeValue p (digits_value_after 16 u (take (suc n) (cond b (x.1 ∷ run is_hex text) []))))
        (drop n text)
    go true h s ih = ih (omega arith) s
    go false h s ih = absurd (omega arith)

-- fewer than n digits
abbrev pub hex_end : ℕ → Text → Front
hex_end start [] = broken (UnterminatedString start) []
hex_end start (x ∷ text) = broken (InvalidHexEscape x.0 x.1) text

pub hex_stops : (start p u n : ℕ) (text : Text) → length (run is_hex text) < n
    → hex_front start p u n text ≡ hex_end start (after_run is_hex text)
hex_stops start p u zero text h = absurd (omega arith)
hex_stops start p u (suc n) [] h = refl
hex_stops start p u (suc n) (x ∷ text) h = go (is_hex x.1) h (hex_stops start p (u * 16 + digit_value x.1) n text)
  where
    go : (b : Bool) → length (cond b (x.1 ∷ run is_hex text) []) < suc n
        → (length (run is_hex text) < n
        → hex_front start p (u * 16 + digit_value x.1) n text ≡ hex_end start (after_run is_hex text))
        → cond b (hex_front start p (u * 16 + digit_value x.1) n text) (broken (InvalidHexEscape x.0 x.1) text)
        ≡ hex_end start (cond b (after_run is_hex text) (x ∷ text))
    go true h ih = ih (omega arith)
    go false h ih = refl

begins_with : (d n : ℕ) (text : Text) → count_of d text ≡ n → 0 < n → (p : ℕ) × (rest : Text) × (text ≡ (p, d) ∷ rest)
begins_with d n [] e h = absurd (omega arith)
begins_with d n (x ∷ text) e h = go (x.1 == d) refl e
  where
    go : (b : Bool) → (x.1 == d) ≡ b → length (cond b (x.1 ∷ run (λ c. c == d) text) []) ≡ n → (p : ℕ) × (rest : Text)
        × (x ∷ text ≡ (p, d) ∷ rest)
    go true t e = (x.0, text, ap (λ (c : ℕ). (x.0, c) ∷ text) (eqb-true x.1 d t))
    go false t e = absurd (omega arith)

-- the letters of characters and those of digits differ
no_letter : (c n : ℕ) → hex_count c ≡ Some n → letter_value c ≡ None
no_letter c n e = go (c == 117) refl (c == 85) refl e
  where
    go : (a : Bool) → (c == 117) ≡ a → (b : Bool) → (c == 85) ≡ b → cond a (Some 4) (cond b (Some 8) None) ≡ Some n
        → letter_value c ≡ None
    go true t b u e = rw (eqb-true c 117 t) refl
    go false t true u e = rw (eqb-true c 85 u) refl
    go false t false u e = cc

-- a blank or a line feed begins no other escape
space_letters : (c : ℕ) → is_space c ≡ true → (letter_value c ≡ None) × (hex_count c ≡ None)
space_letters c h = go (or_cases (is_blank c) (c == 10) h)
  where
    blank_cases : ((c == 32) ≡ true) ⊎ ((c == 9) ≡ true) → (letter_value c ≡ None) × (hex_count c ≡ None)
    blank_cases (inl e) = rw (eqb-true c 32 e) (refl, refl)
    blank_cases (inr e) = rw (eqb-true c 9 e) (refl, refl)

    go : (is_blank c ≡ true) ⊎ ((c == 10) ≡ true) → (letter_value c ≡ None) × (hex_count c ≡ None)
    go (inl e) = blank_cases (or_cases (c == 32) (c == 9) e)
    go (inr e) = rw (eqb-true c 10 e) (refl, refl)

space_first : (y : ℕ × ℕ) (next after : Text) (q : ℕ) → after_run is_blank (y ∷ next) ≡ (q, 10) ∷ after
    → is_space y.1 ≡ true
space_first y next after q e = go (is_blank y.1) refl e
  where
    go : (b : Bool) → is_blank y.1 ≡ b → cond b (after_run is_blank next) (y ∷ next) ≡ (q, 10) ∷ after
        → is_space y.1 ≡ true
    go true t e = or_left (is_blank y.1) (y.1 == 10) t
    go false t e = or_right (is_blank y.1) (y.1 == 10)
        (eq-eqb y.1 10 (let z : y ≡ (q, 10) = cc in ap (λ (x : ℕ × ℕ). x.1) z))

module _ (k : Quotes) (start : ℕ) (quoted : is_quote k.delimiter ≡ true) where
  abbrev Reads : Text → Front → Type 0
  Reads text f = front_of k start text ≡ f

  front_delimiter : (p : ℕ) (text : Text) → k.multiline ≡ true
      → Reads ((p, k.delimiter) ∷ text)
      (delimiters_front k ((p, k.delimiter) ∷ text) (count_of k.delimiter ((p, k.delimiter) ∷ text)))
  front_delimiter p text m = rw (eq-eqb k.delimiter k.delimiter refl, m) refl

  front_escape : (p : ℕ) (text : Text) → k.delimiter ≡ 34 → Reads ((p, 92) ∷ text) (escape_front k start text)
  front_escape p text e = rw e refl

  escape_blanks : (y : ℕ × ℕ) (next : Text) → k.multiline ≡ true → is_space y.1 ≡ true
      → escape_front k start (y ∷ next) ≡ blanks_front start y (after_run is_blank (y ∷ next))
  escape_blanks y next m h =
      let (a, b) = space_letters y.1 h in
      ap (letter_front k start y next (letter_value y.1)) b ∙
      ap (λ (o : Option ℕ). letter_front k start y next o None) a
      ∙ ap (λ (b : Bool). cond b (blanks_front start y (after_run is_blank (y ∷ next)))
      (broken (InvalidEscape y.0 y.1) next)) (and_from k.multiline (is_space y.1) m h)

  pub piece_front : {text rest : Text} {chars : List ℕ} → IsPiece k text chars rest → Reads text (more chars rest)
  piece_front (content {p} {c} {text} {rest} at h) =
      rw at (go (or_cases (is_plain k.delimiter c) (k.multiline && c == 10) h))
    where
      go : (is_plain k.delimiter c ≡ true) ⊎ ((k.multiline && c == 10) ≡ true)
          → Reads ((p, c) ∷ rest) (more (c ∷ []) rest)
      go (inl h) = let (a, b, f, m) = plain_tests k.delimiter c h in rw (a, b, f, m) refl
      go (inr h) =
          let (m, f) = and_parts k.multiline (c == 10) h in
          rw (eqb-true c 10 f, quote_is_no_feed k.delimiter quoted, m) refl
  piece_front (delimiters {n} {text} m e l h) =
      let (p, rest, at) = begins_with k.delimiter n text e l in
      rw at (front_delimiter p rest m ∙
      ap (delimiters_front k ((p, k.delimiter) ∷ rest)) (ap (count_of k.delimiter) (sym at) ∙ e) ∙
      rw (lt-ltb n 3 h) refl)
  piece_front (letter {p} {q} {c} {v} {text} {next} {rest} d at then e) =
      rw (at, then) (front_escape p ((q, c) ∷ rest) d ∙ rw e refl)
  piece_front (unicode {p} {q} {c} {n} {text} {next} {digits} d at then e l s) =
      rw (at, then) (front_escape p ((q, c) ∷ digits) d ∙ rw (no_letter c n e, e) (hex_reads start q 0 n digits l s))
  piece_front (continuation {p} {q} {text} {next} {after} d m at then) =
      rw at (front_escape p next d ∙ go next (after_run is_blank next) refl then)
    where
      go : (next rest : Text) → after_run is_blank next ≡ rest → rest ≡ (q, 10) ∷ after
          → escape_front k start next ≡ more [] (after_run is_space after)
      go [] rest e t = cc
      go (y ∷ next) rest e t =
          escape_blanks y next m (space_first y next after q (e ∙ t)) ∙ ap (blanks_front start y) (e ∙ t)

  pub closes_front : {text rest : Text} {tail : List ℕ} → Closes k text tail rest → Reads text (closed tail rest)
  closes_front (one {p} {text} {rest} m at) = rw at (rw (eq-eqb k.delimiter k.delimiter refl, m) refl)
  closes_front (several {n} {text} m e l) =
      let (p, rest, at) = begins_with k.delimiter n text e (omega arith) in
      rw at (front_delimiter p rest m ∙
      ap (delimiters_front k ((p, k.delimiter) ∷ rest)) (ap (count_of k.delimiter) (sym at) ∙ e) ∙
      rw (le-ltb n 3 l) refl)

  pub breaks_front : {text rest : Text} {fault : Error} → Breaks k start text fault rest
      → Reads text (broken fault rest)
  breaks_front over = refl
  breaks_front (feed {p} {text} {rest} m at) = rw at (rw (quote_is_no_feed k.delimiter quoted, m) refl)
  breaks_front (control {p} {c} {text} {rest} at h) =
      let (a, b, f, m) = control_tests k.delimiter c quoted h in
      rw at (rw (a, b, f, m) refl)
  breaks_front (over_in_escape {p} {text} d at) = rw at (front_escape p [] d)
  breaks_front (escape {p} {q} {c} {text} {next} {rest} d at then h) =
      rw (at, then) (front_escape p ((q, c) ∷ rest) d ∙ none (letter_value c) (hex_count c) (or_parts _ _ h))
    where
      none : (v n : Option ℕ) → ((not (is_none v) || not (is_none n)) ≡ false) × ((k.multiline && is_space c) ≡ false)
          → letter_front k start (q, c) rest v n ≡ broken (InvalidEscape q c) rest
      none (Some v) n h = let z : true ≡ false = h.0 in cc
      none None (Some n) h = let z : true ≡ false = h.0 in cc
      none None None h = rw h.1 refl
  breaks_front (blank {p} {q} {r} {b} {c} {text} {next} {after} {rest} d m at then h stop ne) =
      rw (at, then) (front_escape p ((q, b) ∷ after) d ∙ escape_blanks (q, b) after m (or_left (is_blank b) (b == 10) h)
      ∙ ap (blanks_front start (q, b)) (ap (after_run is_blank) (sym then) ∙ stop) ∙
      rw (ne_eqb c 10 ne) (ap (broken (InvalidEscape q b)) (sym (ap (after_run is_blank) (sym then) ∙ stop))))
  breaks_front (over_in_blanks {p} {q} {b} {text} {next} {after} d m at then h stop) =
      rw (at, then) (front_escape p ((q, b) ∷ after) d ∙ escape_blanks (q, b) after m (or_left (is_blank b) (b == 10) h)
      ∙ ap (blanks_front start (q, b)) (ap (after_run is_blank) (sym then) ∙ stop))
  breaks_front (hex {p} {q} {r} {c} {d} {n} {text} {next} {digits} {rest} is_double at then e l stop) =
      rw (at, then) (front_escape p ((q, c) ∷ digits) is_double ∙
      rw (no_letter c n e, e) (hex_stops start q 0 n digits l ∙ ap (hex_end start) stop))
  breaks_front (over_in_hex {p} {q} {c} {n} {text} {next} {digits} d at then e l stop) =
      rw (at, then) (front_escape p ((q, c) ∷ digits) d ∙
      rw (no_letter c n e, e) (hex_stops start q 0 n digits l ∙ ap (hex_end start) stop))
  breaks_front (value {p} {q} {c} {n} {text} {next} {digits} d at then e l s) =
      rw (at, then) (front_escape p ((q, c) ∷ digits) d ∙
      rw (no_letter c n e, e) (hex_no_character start q 0 n digits l (false_from_ne_true _ s)))

-- A body is cut into pieces in one way up to where no piece stands.
abbrev pub IsMore : Front → Type 0
IsMore (more chars text) = Unit {0}
IsMore (closed tail text) = ⊥
IsMore (broken fault text) = ⊥

pub pieces_same : (k : Quotes) (start : ℕ) → is_quote k.delimiter ≡ true → {text r r' : Text} {v v' : List ℕ}
    → Pieces k text v r → Pieces k text v' r' → (IsMore (front_of k start r) → ⊥) → (IsMore (front_of k start r') → ⊥)
    → (v ≡ v') × (r ≡ r')
pieces_same k start q none none h h' = (refl, refl)
pieces_same k start q none (piece p ps) h h' = absurd (h (subst IsMore (sym (piece_front k start q p)) tt))
pieces_same k start q (piece p ps) none h h' = absurd (h' (subst IsMore (sym (piece_front k start q p)) tt))
pieces_same k start q (piece {text} {next} {rest} {chars} {value} p ps)
    (piece {next = next'} {rest = rest'} {chars = chars'} {value = value'} p' ps') h h' =
    let e : more chars next ≡ more chars' next' = sym (piece_front k start q p) ∙ piece_front k start q p' in
    let same : next ≡ next' = cc in
    let (a, b) = pieces_same k start q ps (subst (λ (t : Text). Pieces k t value' rest') (sym same) ps') h h' in
    (let d : chars ≡ chars' = cc in cc, b)
