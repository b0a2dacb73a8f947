-- What is read as a string is one.
use Rattle.std.proofs.Common.{◌≡◌, ℕ, zero, suc, ◌-◌, ◌<◌, ◌≤◌, ◌==◌, ◌&&◌, Bool, true, false, not, cond, List, []}
use Rattle.std.proofs.Common.{◌∷◌, ◌++◌, length, drop, replicate, min, refl, ap, sym, ◌∙◌, subst, arith, Option}
use Rattle.std.proofs.Common.{Some, None, append_assoc, nat_lt}
use Rattle.std.proofs.lemmas.Bool.{false≢true, or_left, or_right, and_parts, and_from, eqb-true, eq-eqb, ltb-true}
use Rattle.std.proofs.lemmas.Bool.{ltb-false, lt-ltb, le-ltb}
use lib.Utf8.{scalar}
use Rattle.basic_toml_tokens.specs.declared.error.Error.{Error}
use Rattle.basic_toml_tokens.specs.Text.{Text, StartsWith, run, after_run, is_blank, is_comment}
use Rattle.basic_toml_tokens.specs.Strings.{Quotes, is_quote, count_of, is_plain, letter_value, hex_count, is_hex}
use Rattle.basic_toml_tokens.specs.Strings.{hex_value, is_space, after_feed, Pieces, none, piece, IsPiece, content}
use Rattle.basic_toml_tokens.specs.Strings.{delimiters, letter, unicode, continuation, Closes, one, several, Opens}
use Rattle.basic_toml_tokens.specs.Strings.{one_line, multiline, IsString}
use Rattle.basic_toml_tokens.specs.BodyFront.{Front, hex_front, blanks_front, letter_front, escape_front}
use Rattle.basic_toml_tokens.specs.BodyFront.{delimiters_front, front_of}
use Rattle.basic_toml_tokens.proofs.BodyFrontStands.{piece_front, closes_front, hex_reads, hex_no_character}
use Rattle.basic_toml_tokens.proofs.BodyFrontStands.{hex_stops, hex_end}
use Rattle.basic_toml_grammar.specs.Entering.{and_then}
use Rattle.basic_toml_grammar.specs.Reader.{goes_on, body_at, Quoted, body_of_string, string_at}

pub then_some : {A B : Type 0} (o : Option A) (f : A → Option B) (y : B) → and_then o f ≡ Some y → (x : A)
    × (o ≡ Some x) × (f x ≡ Some y)
then_some (Some x) f y e = (x, refl, e)
then_some None f y e = cc

-- a front that is a piece, or an end
abbrev Means : Quotes → Text → Front → Type 0
Means k text (Front.more chars rest) = IsPiece k text chars rest
Means k text (Front.closed tail rest) = Closes k text tail rest
Means k text (Front.broken error rest) = Unit {0}

count_some : (d p : ℕ) (text : Text) → 0 < count_of d ((p, d) ∷ text)
count_some d p text = go (d == d) (eq-eqb d d refl)
  where
    go : (b : Bool) → b ≡ true → 0 < length (cond b (d ∷ run (λ c. c == d) text) [])
    go true e = omega arith
    go false e = absurd (false≢true e)

hex_means : (k : Quotes) (p q c n start : ℕ) (text next digits : Text) → k.delimiter ≡ 34 → StartsWith 92 text p next
    → StartsWith c next q digits → hex_count c ≡ Some n
    → Means k text (hex_front start q 0 n digits)
hex_means k p q c n start text next digits d s t h =
    go (nat_lt (length (run is_hex digits)) n) refl (scalar (hex_value n digits)) refl
  where
    ends : (rest : Text) → Means k text (hex_end start rest)
    ends [] = tt
    ends (x ∷ rest) = tt

    go : (b : Bool) → nat_lt (length (run is_hex digits)) n ≡ b → (c : Bool) → scalar (hex_value n digits) ≡ c
        → Means k text (hex_front start q 0 n digits)
    go true e c f = subst (Means k text) (sym (hex_stops start q 0 n digits (ltb-true _ _ e)))
        (ends (after_run is_hex digits))
    go false e true f = subst (Means k text) (sym (hex_reads start q 0 n digits (omega (arith, ltb-false _ _ e)) f))
        (unicode d s t h (omega (arith, ltb-false _ _ e)) f)
    go false e false f = subst (Means k text)
        (sym (hex_no_character start q 0 n digits (omega (arith, ltb-false _ _ e)) f)) tt

blanks_means : (k : Quotes) (start p : ℕ) (text next : Text) (y : ℕ × ℕ) → k.delimiter ≡ 34 → k.multiline ≡ true
    → StartsWith 92 text p next
    → (rest : Text) → after_run is_blank next ≡ rest → Means k text (blanks_front start y rest)
blanks_means k start p text next y d m s [] e = tt
blanks_means k start p text next y d m s (z ∷ after) e = go (z.1 == 10) refl
  where
    go : (b : Bool) → (z.1 == 10) ≡ b
        → Means k text (cond b (Front.more [] (after_run is_space after))
        (Front.broken (Error.InvalidEscape y.0 y.1) (z ∷ after)))
    go true f = continuation d m s (e ∙ ap (λ (c : ℕ). (z.0, c) ∷ after) (eqb-true z.1 10 f))
    go false f = tt

escape_means : (k : Quotes) (start p : ℕ) (text next : Text) → k.delimiter ≡ 34 → StartsWith 92 text p next
    → Means k text (escape_front k start next)
escape_means k start p text [] d s = tt
escape_means k start p text (y ∷ next) d s = go (letter_value y.1) refl (hex_count y.1) refl
  where
    space : (b : Bool) → (k.multiline && is_space y.1) ≡ b
        → Means k text (cond b (blanks_front start y (after_run is_blank (y ∷ next)))
        (Front.broken (Error.InvalidEscape y.0 y.1) next))
    space true e =
        let h : (k.multiline ≡ true) × (is_space y.1 ≡ true) = and_parts k.multiline (is_space y.1) e in
        blanks_means k start p text (y ∷ next) y d h.0 s (after_run is_blank (y ∷ next)) refl
    space false e = tt

    go : (v : Option ℕ) → letter_value y.1 ≡ v → (n : Option ℕ) → hex_count y.1 ≡ n
        → Means k text (letter_front k start y next v n)
    go (Some v) e n f = letter d s refl e
    go None e (Some n) f = hex_means k p y.0 y.1 n start text (y ∷ next) next d s refl f
    go None e None f = space (k.multiline && is_space y.1) refl

front_means : (k : Quotes) (start : ℕ) (text : Text) → Means k text (front_of k start text)
front_means k start [] = tt
front_means k start (x ∷ text) =
    go (x.1 == k.delimiter) refl (x.1 == 92 && k.delimiter == 34) refl (x.1 == 10) refl (is_comment x.1) refl
  where
    n : ℕ
    n = count_of k.delimiter (x ∷ text)

    here : (c : ℕ) → (x.1 == c) ≡ true → StartsWith c (x ∷ text) x.0 text
    here c e = ap (λ (c : ℕ). (x.0, c) ∷ text) (eqb-true x.1 c e)

    some : StartsWith k.delimiter (x ∷ text) x.0 text → 0 < n
    some s = subst (λ (t : Text). 0 < count_of k.delimiter t) (sym s) (count_some k.delimiter x.0 text)

    few : (b : Bool) → nat_lt n 3 ≡ b → k.multiline ≡ true → StartsWith k.delimiter (x ∷ text) x.0 text
        → Means k (x ∷ text) (cond b (Front.more (replicate n k.delimiter) (drop n (x ∷ text)))
        (Front.closed (replicate (min n 5 - 3) k.delimiter) (drop (min n 5) (x ∷ text))))
    few true e m s = delimiters m refl (some s) (ltb-true _ _ e)
    few false e m s = several m refl (ltb-false _ _ e)

    quote : (m : Bool) → k.multiline ≡ m → StartsWith k.delimiter (x ∷ text) x.0 text
        → Means k (x ∷ text) (cond m (delimiters_front k (x ∷ text) n) (Front.closed [] text))
    quote true m s = few (nat_lt n 3) refl m s
    quote false m s = one m s

    feed : (m : Bool) → k.multiline ≡ m → (x.1 == 10) ≡ true
        → Means k (x ∷ text) (cond m (Front.more (10 ∷ []) text) (Front.broken (Error.NewlineInString x.0) text))
    feed true m e = content (here 10 e)
        (or_right (is_plain k.delimiter 10) (k.multiline && true) (and_from k.multiline true m refl))
    feed false m e = tt

    go : (a : Bool) → (x.1 == k.delimiter) ≡ a → (b : Bool) → (x.1 == 92 && k.delimiter == 34) ≡ b → (c : Bool)
        → (x.1 == 10) ≡ c → (d : Bool) → is_comment x.1 ≡ d
        → Means k (x ∷ text) (cond a (cond k.multiline (delimiters_front k (x ∷ text) n) (Front.closed [] text))
        (cond b (escape_front k start text)
        (cond c (cond k.multiline (Front.more (10 ∷ []) text) (Front.broken (Error.NewlineInString x.0) text))
        (cond d (Front.more (x.1 ∷ []) text) (Front.broken (Error.InvalidCharInString x.0 x.1) text)))))
    go true e b f c g d h = quote k.multiline refl (here k.delimiter e)
    go false e true f c g d h =
        let r : ((x.1 == 92) ≡ true) × ((k.delimiter == 34) ≡ true) = and_parts (x.1 == 92) (k.delimiter == 34) f in
        escape_means k start x.0 (x ∷ text) text (eqb-true k.delimiter 34 r.1) (here 92 r.0)
    go false e false f true g d h = feed k.multiline refl g
    go false e false f false g true h =
        let plain : is_plain k.delimiter x.1 ≡ true = and_from _ _ (and_from _ _ h (ap not e)) (ap not f) in
        content refl (or_left (is_plain k.delimiter x.1) (k.multiline && x.1 == 10) plain)
    go false e false f false g false h = tt

-- pieces up to an end, with what they stand for
pub record Body (k : Quotes) (text : Text) (value : List ℕ) (rest : Text) : Type 0 where
  inside : List ℕ
  stop : Text
  tail : List ℕ
  pieces : Pieces k text inside stop
  closes : Closes k stop tail rest
  stands_for : value ≡ inside ++ tail

body_means : (n : ℕ) (k : Quotes) (start : ℕ) (text : Text) (r : List ℕ × Text) → body_at n k start text ≡ Some r
    → Body k text r.0 r.1
body_means zero k start text r e = cc
body_means (suc n) k start text r e =
    go (front_of k start text) (front_means k start text) (λ rest r e. body_means n k start rest r e) e
  where
    go : (f : Front) → Means k text f
        → ((rest : Text) (r : List ℕ × Text) → body_at n k start rest ≡ Some r → Body k rest r.0 r.1)
        → goes_on f (λ rest. body_at n k start rest) ≡ Some r → Body k text r.0 r.1
    go (Front.more chars rest) m ih e =
        let (q, q_is, f) = then_some (body_at n k start rest) (λ r. Some (chars ++ r.0, r.1)) r e in
        let b = ih rest q q_is in
        let there : (chars ++ q.0, q.1) ≡ r = cc in
        subst (λ (r : List ℕ × Text). Body k text r.0 r.1) there
        (record {
          inside = chars ++ b.inside;
          stop = b.stop;
          tail = b.tail;
          pieces = piece m b.pieces;
          closes = b.closes;
          stands_for = ap (λ v. chars ++ v) b.stands_for ∙ sym (append_assoc chars b.inside b.tail);
        })
    go (Front.closed tail rest) m ih e =
        let there : (tail, rest) ≡ r = cc in
        subst (λ (r : List ℕ × Text). Body k text r.0 r.1) there
        (record { inside = []; stop = text; tail = tail; pieces = none; closes = m; stands_for = refl })
    go (Front.broken error rest) m ih e = cc

abbrev IsRead : Text → Quoted → Type 0
IsRead text s = IsString text s.offset s.multiline s.value s.rest

string_from : (n : ℕ) (k : Quotes) (p : ℕ) (text body : Text) (s : Quoted) → Opens text p k body
    → body_of_string n k p body ≡ Some s → IsRead text s
string_from n k p text body s o e =
    let (r, r_is, f) = then_some (body_at n k p body)
    (λ r. Some (record { offset = p; multiline = k.multiline; value = r.0; rest = r.1 })) s e in
    let b = body_means n k p body r r_is in
    let there : record { offset = p; multiline = k.multiline; value = r.0; rest = r.1 } ≡ s = cc in
    subst (λ (s : Quoted). IsRead text s) there
    (record {
      kind = k;
      body = body;
      opens = o;
      lines = refl;
      inside = b.inside;
      closer = b.stop;
      pieces = b.pieces;
      tail = b.tail;
      closes = b.closes;
      stands_for = b.stands_for;
    })

pub string_read : (text : Text) (s : Quoted) → string_at text ≡ Some s
    → IsString text s.offset s.multiline s.value s.rest
string_read [] s e = cc
string_read (x ∷ text) s e = go (is_quote x.1) refl (nat_lt (count_of x.1 (x ∷ text)) 3) refl e
  where
    go : (a : Bool) → is_quote x.1 ≡ a → (b : Bool) → nat_lt (count_of x.1 (x ∷ text)) 3 ≡ b
        → cond a (cond b (body_of_string (suc (length text)) (record { delimiter = x.1; multiline = false }) x.0 text)
        (body_of_string (suc (length text)) (record { delimiter = x.1; multiline = true }) x.0
        (after_feed (drop 2 text)))) None ≡ Some s
        → IsRead (x ∷ text) s
    go true q true c e = string_from (suc (length text)) _ x.0 (x ∷ text) text s (one_line refl q (ltb-true _ _ c)) e
    go true q false c e = string_from (suc (length text)) _ x.0 (x ∷ text) (after_feed (drop 2 text)) s
        (multiline refl q (ltb-false _ _ c)) e
    go false q b c e = cc

-- a piece takes at least one character
pub length_run : (p : ℕ → Bool) (text : Text) → length (after_run p text) ≤ length text
length_run p [] = omega arith
length_run p (x ∷ text) = go (p x.1) (length_run p text)
  where
    go : (b : Bool) → length (after_run p text) ≤ length text
        → length (cond b (after_run p text) (x ∷ text)) ≤ length (x ∷ text)
    go true h = omega arith
    go false h = omega arith

length_drop : (n : ℕ) (text : Text) → length (drop n text) ≤ length text
length_drop zero text = omega arith
length_drop (suc n) [] = omega arith
length_drop (suc n) (x ∷ text) = omega (arith, length_drop n text)

pub sign_length : {c p : ℕ} {text rest : Text} → StartsWith c text p rest → length text ≡ suc (length rest)
sign_length s = ap length s

drop_some : (n : ℕ) (d : ℕ) (text : Text) → 0 < n → n ≤ count_of d text → length (drop n text) < length text
drop_some zero d text h k = absurd (omega arith)
drop_some (suc n) d [] h k = absurd (omega arith)
drop_some (suc n) d (x ∷ text) h k = omega (arith, length_drop n text)

piece_length : {k : Quotes} {text rest : Text} {chars : List ℕ} → IsPiece k text chars rest → length rest < length text
piece_length (content s e) = omega (arith, sign_length s)
piece_length {k = k} (delimiters {n = n} {text = text} m c h l) = drop_some n k.delimiter text h (omega arith)
piece_length (letter d s t e) = omega (arith, sign_length s, sign_length t)
piece_length (unicode {n = n} {digits = digits} d s t h l v) =
    omega (arith, sign_length s, sign_length t, length_drop n digits)
piece_length (continuation {next = next} {after = after} d m s t) =
    omega (arith, sign_length s, sign_length t, length_run is_blank next, length_run is_space after)

-- what stands there is found
body_found : {k : Quotes} {text stop rest : Text} {inside tail : List ℕ} (n start : ℕ) → is_quote k.delimiter ≡ true
    → Pieces k text inside stop → Closes k stop tail rest
    → length text < n → body_at n k start text ≡ Some (inside ++ tail, rest)
body_found zero start q ps c h = absurd (omega arith)
body_found {k = k} (suc n) start q none c h =
    ap (λ f. goes_on f (λ rest. body_at n k start rest)) (closes_front k start q c)
body_found {k = k} {rest = rest} {tail = tail} (suc n) start q (piece {chars = chars} {value = value} p ps) c h =
    ap (λ f. goes_on f (λ rest. body_at n k start rest)) (piece_front k start q p)
    ∙ ap (λ o. and_then o (λ r. Some (chars ++ r.0, r.1))) (body_found n start q ps c (omega (arith, piece_length p)))
    ∙ ap (λ v. Some (v, rest)) (sym (append_assoc chars value tail))

feed_length : (text : Text) → length (after_feed text) ≤ length text
feed_length [] = omega arith
feed_length (x ∷ text) = go (x.1 == 10)
  where
    go : (b : Bool) → length (cond b text (x ∷ text)) ≤ length (x ∷ text)
    go true = omega arith
    go false = omega arith

pub string_found : {text rest : Text} {p : ℕ} {m : Bool} {value : List ℕ} → IsString text p m value rest
    → string_at text ≡ Some (record { offset = p; multiline = m; value = value; rest = rest })
string_found {text = text} {rest = rest} {p = p} {m = m} {value = value} s =
    go s.opens s.pieces s.closes ∙
    ap (λ m. Some (record { offset = p; multiline = m; value = s.inside ++ s.tail; rest = rest })) s.lines
    ∙ ap (λ v. Some (record { offset = p; multiline = m; value = v; rest = rest })) (sym s.stands_for)
  where
    go : {k : Quotes} {body stop : Text} {inside tail : List ℕ} → Opens text p k body → Pieces k body inside stop
        → Closes k stop tail rest
        → string_at text ≡ Some (record { offset = p; multiline = k.multiline; value = inside ++ tail; rest = rest })
    go {inside = inside} {tail = tail} (one_line {d = d} {next = next} e q c) ps cl = ap string_at e
        ∙ ap (λ b. cond b (cond (nat_lt (count_of d ((p, d) ∷ next)) 3)
        (body_of_string (suc (length next)) (record { delimiter = d; multiline = false }) p next)
        (body_of_string (suc (length next)) (record { delimiter = d; multiline = true }) p
        (after_feed (drop 2 next)))) None) q
        ∙ ap (λ b. cond b (body_of_string (suc (length next)) (record { delimiter = d; multiline = false }) p next)
        (body_of_string (suc (length next)) (record { delimiter = d; multiline = true }) p
        (after_feed (drop 2 next)))) (lt-ltb _ _ (subst (λ (t : Text). count_of d t < 3) e c))
        ∙ ap (λ o. and_then o (λ r. Some (record { offset = p; multiline = false; value = r.0; rest = r.1 })))
        (body_found (suc (length next)) p q ps cl (omega arith))
    go {inside = inside} {tail = tail} (multiline {d = d} {next = next} e q c) ps cl = ap string_at e
        ∙ ap (λ b. cond b (cond (nat_lt (count_of d ((p, d) ∷ next)) 3)
        (body_of_string (suc (length next)) (record { delimiter = d; multiline = false }) p next)
        (body_of_string (suc (length next)) (record { delimiter = d; multiline = true }) p
        (after_feed (drop 2 next)))) None) q
        ∙ ap (λ b. cond b (body_of_string (suc (length next)) (record { delimiter = d; multiline = false }) p next)
        (body_of_string (suc (length next)) (record { delimiter = d; multiline = true }) p
        (after_feed (drop 2 next)))) (le-ltb _ _ (subst (λ (t : Text). 3 ≤ count_of d t) e c))
        ∙ ap (λ o. and_then o (λ r. Some (record { offset = p; multiline = true; value = r.0; rest = r.1 })))
        (body_found (suc (length next)) p q ps cl (omega (arith, feed_length (drop 2 next), length_drop 2 next)))

-- a string takes at least one character
pieces_length : {k : Quotes} {text rest : Text} {value : List ℕ} → Pieces k text value rest → length rest ≤ length text
pieces_length none = omega arith
pieces_length (piece p ps) = omega (arith, piece_length p, pieces_length ps)

closes_length : {k : Quotes} {text rest : Text} {tail : List ℕ} → Closes k text tail rest → length rest ≤ length text
closes_length (one m s) = omega (arith, sign_length s)
closes_length (several {n = n} {text = text} m c h) = length_drop (min n 5) text

pub string_shorter : {text rest : Text} {p : ℕ} {m : Bool} {value : List ℕ} → IsString text p m value rest
    → length rest < length text
string_shorter s = go s.opens (omega (arith, pieces_length s.pieces, closes_length s.closes))
  where
    go : {text body : Text} {p : ℕ} {k : Quotes} {n : ℕ} → Opens text p k body → n ≤ length body → n < length text
    go (one_line e q c) h = omega (arith, sign_length e)
    go (multiline {next = next} e q c) h = omega (arith, sign_length e, feed_length (drop 2 next), length_drop 2 next)
