-- Texts of the same characters, wherever these stand, and what a scanner finds at the front of both.
use Rattle.std.proofs.Common.{◌≡◌, ℕ, zero, suc, ◌+◌, ◌*◌, ◌==◌, Bool, true, false, cond, List, [], ◌∷◌, length}
use Rattle.std.proofs.Common.{drop, refl, ap, Option, Some, None}
use Rattle.std.specs.Prelude.{◌&&◌, ◌||◌, nat_lt, min}
use Rattle.std.specs.Option.{option_or}
use Rattle.std.specs.Char.{digit_value}
use lib.Utf8.{scalar}
use Rattle.basic_toml_tokens.specs.declared.error.Error.{Error}
use Rattle.basic_toml_tokens.specs.Text.{Text, run, after_run, is_blank, is_comment}
use Rattle.basic_toml_tokens.specs.Strings.{Quotes, count_of, letter_value, hex_count, is_hex, is_space, after_feed}
use Rattle.basic_toml_tokens.specs.BodyFront.{Front, hex_front, blanks_front, letter_front, escape_front}
use Rattle.basic_toml_tokens.specs.BodyFront.{delimiters_front, front_of}
use Rattle.basic_toml_tokens.specs.BodyFront as scan
use Rattle.basic_toml_grammar.specs.Entering.{and_then}
use Rattle.basic_toml_grammar.specs.Grammar.{after_comment_by, after_gap_from}
use Rattle.basic_toml_grammar.specs.Reader.{if_found, char_at}

pub data SameChars : Text → Text → Type 0 where
  none : SameChars [] []
  more : {p q c : ℕ} {text other : Text} → SameChars text other → SameChars ((p, c) ∷ text) ((q, c) ∷ other)

pub turned : {text other : Text} → SameChars text other → SameChars other text
turned none = none
turned (more s) = more (turned s)

pub run_same : (f : ℕ → Bool) {text other : Text} → SameChars text other → run f text ≡ run f other
run_same f none = refl
run_same f (more {c = c} s) = ap (λ cs. cond (f c) (c ∷ cs) []) (run_same f s)

pub length_same : {text other : Text} → SameChars text other → length text ≡ length other
length_same none = refl
length_same (more s) = ap (λ n. suc n) (length_same s)

either : (b : Bool) {text other text' other' : Text} → SameChars text other → SameChars text' other'
    → SameChars (cond b text text') (cond b other other')
either true s t = s
either false s t = t

pub after_run_same : (f : ℕ → Bool) {text other : Text} → SameChars text other
    → SameChars (after_run f text) (after_run f other)
after_run_same f none = none
after_run_same f (more {c = c} s) = either (f c) (after_run_same f s) (more s)

pub drop_same : (n : ℕ) {text other : Text} → SameChars text other → SameChars (drop n text) (drop n other)
drop_same zero s = s
drop_same (suc n) none = none
drop_same (suc n) (more s) = drop_same n s

pub after_feed_same : {text other : Text} → SameChars text other → SameChars (after_feed text) (after_feed other)
after_feed_same none = none
after_feed_same (more {c = c} s) = either (c == 10) s (more s)

pub after_comment_same : (f : ℕ → Bool) {text other : Text} → SameChars text other
    → SameChars (after_comment_by f text) (after_comment_by f other)
after_comment_same f none = none
after_comment_same f (more {c = c} s) = either (c == 35) (after_run_same f s) (more s)

pub after_gap_same : (f : ℕ → Bool) (inside : Bool) {text other : Text} → SameChars text other
    → SameChars (after_gap_from f inside text) (after_gap_from f inside other)
after_gap_same f inside none = none
after_gap_same f true (more {c = c} s) =
    either (c == 10) (after_gap_same f false s) (either (f c) (after_gap_same f true s) (more s))
after_gap_same f false (more {c = c} s) =
    either (is_blank c || c == 10) (after_gap_same f false s) (either (c == 35) (after_gap_same f true s) (more s))

-- what is found in both, or in neither
pub data Both {A B : Type 0} (R : A → B → Type 0) : Option A → Option B → Type 0 where
  neither : Both R None None
  both : {x : A} {y : B} → R x y → Both R (Some x) (Some y)

pub both_then : {A B C D : Type 0} (R : A → B → Type 0) (S : C → D → Type 0) {x : Option A} {y : Option B} {f : A
    → Option C} {g : B → Option D}
    → Both R x y → ((a : A) (b : B) → R a b → Both S (f a) (g b)) → Both S (and_then x f) (and_then y g)
both_then R S neither h = neither
both_then R S (both {x = a} {y = b} r) h = h a b r

pub both_or_else : {A B C D : Type 0} (R : A → B → Type 0) (S : C → D → Type 0) {x : Option A} {y : Option B} {f : A
    → Option C} {g : B → Option D} {c : Option C} {d : Option D}
    → Both R x y → ((a : A) (b : B) → R a b → Both S (f a) (g b)) → Both S c d
    → Both S (if_found x f c) (if_found y g d)
both_or_else R S neither h e = e
both_or_else R S (both {x = a} {y = b} r) h e = h a b r

pub both_or : {A B : Type 0} (R : A → B → Type 0) {x x' : Option A} {y y' : Option B} → Both R x y → Both R x' y'
    → Both R (option_or x x') (option_or y y')
both_or R neither e = e
both_or R (both r) e = both r

pub both_if : {A B : Type 0} (R : A → B → Type 0) (b : Bool) {x x' : Option A} {y y' : Option B} → Both R x y
    → Both R x' y' → Both R (cond b x x') (cond b y y')
both_if R true e f = e
both_if R false e f = f

-- two texts found, each after something
abbrev pub After : {A B : Type 0} → (A → B → Type 0) → A × Text → B × Text → Type 0
After R a b = R a.0 b.0 × SameChars a.1 b.1

abbrev pub Anywhere : ℕ → ℕ → Type 0
Anywhere p q = Unit {0}

pub sign_same : (c : ℕ) {text other : Text} → SameChars text other
    → Both (After Anywhere) (char_at c text) (char_at c other)
sign_same c none = neither
sign_same c (more {c = d} s) = both_if (After Anywhere) (d == c) (both (tt, s)) neither

-- the front of a body
pub data SameFront : Front → Front → Type 0 where
  both_go_on : {chars : List ℕ} {text other : Text} → SameChars text other
      → SameFront (scan.more chars text) (scan.more chars other)
  both_close : {chars : List ℕ} {text other : Text} → SameChars text other
      → SameFront (scan.closed chars text) (scan.closed chars other)
  both_break : {e f : Error} {text other : Text} → SameFront (scan.broken e text) (scan.broken f other)

front_if : (b : Bool) {x y x' y' : Front} → SameFront x y → SameFront x' y' → SameFront (cond b x x') (cond b y y')
front_if true s t = s
front_if false s t = t

hex_same : (s s' p p' u n : ℕ) {text other : Text} → SameChars text other
    → SameFront (hex_front s p u n text) (hex_front s' p' u n other)
hex_same s s' p p' u zero h = front_if (scalar u) (both_go_on h) both_break
hex_same s s' p p' u (suc n) none = both_break
hex_same s s' p p' u (suc n) (more {c = c} h) =
    front_if (is_hex c) (hex_same s s' p p' (u * 16 + digit_value c) n h) both_break

blanks_same : (s s' : ℕ) (y y' : ℕ × ℕ) {text other : Text} → SameChars text other
    → SameFront (blanks_front s y text) (blanks_front s' y' other)
blanks_same s s' y y' none = both_break
blanks_same s s' y y' (more {c = c} h) = front_if (c == 10) (both_go_on (after_run_same is_space h)) both_break

letter_same : (k : Quotes) (s s' p p' c : ℕ) {text other : Text} (v n : Option ℕ) → SameChars text other
    → SameFront (letter_front k s (p, c) text v n) (letter_front k s' (p', c) other v n)
letter_same k s s' p p' c (Some v) n h = both_go_on h
letter_same k s s' p p' c None (Some n) h = hex_same s s' p p' 0 n h
letter_same k s s' p p' c None None h =
    front_if (k.multiline && is_space c)
    (blanks_same s s' (p, c) (p', c) (after_run_same is_blank (more {p = p} {q = p'} {c = c} h))) both_break

escape_same : (k : Quotes) (s s' : ℕ) {text other : Text} → SameChars text other
    → SameFront (escape_front k s text) (escape_front k s' other)
escape_same k s s' none = both_break
escape_same k s s' (more {p = p} {q = q} {c = c} h) = letter_same k s s' p q c (letter_value c) (hex_count c) h

delimiters_same : (k : Quotes) (n : ℕ) {text other : Text} → SameChars text other
    → SameFront (delimiters_front k text n) (delimiters_front k other n)
delimiters_same k n h = front_if (nat_lt n 3) (both_go_on (drop_same n h)) (both_close (drop_same (min n 5) h))

pub front_same : (k : Quotes) (s s' : ℕ) {text other : Text} → SameChars text other
    → SameFront (front_of k s text) (front_of k s' other)
front_same k s s' none = both_break
front_same k s s' (more {p = p} {q = q} {c = c} {text = text} {other = other} h) =
    front_if (c == k.delimiter) (front_if k.multiline quotes (both_close h))
    (front_if (c == 92 && k.delimiter == 34) (escape_same k s s' h)
    (front_if (c == 10) (front_if k.multiline (both_go_on h) both_break)
    (front_if (is_comment c) (both_go_on h) both_break)))
  where
    quotes : SameFront (delimiters_front k ((p, c) ∷ text) (count_of k.delimiter ((p, c) ∷ text)))
        (delimiters_front k ((q, c) ∷ other) (count_of k.delimiter ((q, c) ∷ other)))
    quotes = rw (← (ap length (run_same (λ d. d == k.delimiter) (more {p = p} {q = q} {c = c} h))))
        (delimiters_same k (count_of k.delimiter ((p, c) ∷ text)) (more h))
