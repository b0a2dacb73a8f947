-- A string before a character is the same, whatever stands after that character.
use Rattle.std.proofs.Common.{◌≡◌, ℕ, suc, ◌-◌, ◌<◌, ◌≤◌, ◌==◌, ◌||◌, ◌&&◌, Bool, true, false}
use Rattle.std.proofs.Common.{cond, List, [], ◌∷◌, length, drop, take, min, replicate, refl, ap, sym, ◌∙◌, subst, arith}
use Rattle.std.proofs.Common.{nat_lt}
use Rattle.std.specs.Prelude.{not}
use Rattle.std.specs.Char.{IsScalar}
use Rattle.std.specs.Str.Parse.{digits_value}
use Rattle.std.proofs.lemmas.Bool.{false≢true, eq-eqb, eqb-true, and_parts, ltb-true, ltb-false}
use Rattle.basic_toml_tokens.specs.Text.{Text, StartsWith, run, after_run, is_blank, is_comment}
use Rattle.basic_toml_tokens.specs.Strings.{Quotes, is_quote, count_of, is_plain, is_hex, hex_value, is_space}
use Rattle.basic_toml_tokens.specs.Strings.{IsPiece, content, delimiters, letter, unicode, continuation, Pieces, none}
use Rattle.basic_toml_tokens.specs.Strings.{piece, Closes, one, several, after_feed, Opens, one_line, multiline}
use Rattle.basic_toml_tokens.specs.Strings.{IsString}
use Rattle.basic_toml_grammar.proofs.Grammar.EndChangesNothing.{Parts, at_end, past, beyond, Meets, same_ends}
use Rattle.basic_toml_grammar.proofs.Grammar.EndChangesNothing.{ends, stops, quotes_join, Cut, Kept, kept}
use Rattle.basic_toml_grammar.proofs.Grammar.EndChangesNothing.{Carried, run_to, drop_to, sign_kept, sign_carried}
use Rattle.basic_toml_grammar.proofs.Grammar.EndChangesNothing.{begun_carried, run_dropped, run_taken, run_shorter}
use Rattle.basic_toml_grammar.proofs.Grammar.EndChangesNothing.{after_stopped}

-- as many delimiters as are taken
counted_drop : (d : ℕ) {n : ℕ} (text : Text) → count_of d text ≡ n → drop n text ≡ after_run (λ c. c == d) text
counted_drop d text e = ap (λ (n : ℕ). drop n text) (sym e) ∙ run_dropped (λ c. c == d) text

pub no_delimiter : (d : ℕ) (x : ℕ × ℕ) (text : Text) → (x.1 == d) ≡ false → count_of d (x ∷ text) ≡ 0
no_delimiter d x text e =
    ap (λ b. length (cond b (x.1 ∷ run (λ c. c == d) text) [])) e

pub one_more : (d q : ℕ) (text : Text) → count_of d ((q, d) ∷ text) ≡ suc (count_of d text)
one_more d q text = ap (λ b. length (cond b (d ∷ run (λ c. c == d) text) [])) (eq-eqb d d refl)

-- a piece of a string on one line does not begin with the delimiter
piece_head : {k : Quotes} {text rest : Text} {chars : List ℕ} → k.multiline ≡ false → IsPiece k text chars rest
    → count_of k.delimiter text ≡ 0
piece_head {k = k} m (content {p = p} {c = c} {rest = rest} s e) =
    ap (count_of k.delimiter) s ∙ no_delimiter k.delimiter (p, c) rest (go k.multiline m e)
  where
    go : (b : Bool) → b ≡ false → (is_plain k.delimiter c || (b && c == 10)) ≡ true → (c == k.delimiter) ≡ false
    go true f e = absurd (false≢true (sym f))
    go false f e = plain (is_plain k.delimiter c) refl e
      where
        plain : (a : Bool) → is_plain k.delimiter c ≡ a → (a || false) ≡ true → (c == k.delimiter) ≡ false
        plain true h e =
            let a = and_parts (is_comment c && not (c == k.delimiter)) _ h in
            let b = and_parts (is_comment c) (not (c == k.delimiter)) a.0 in
            other (c == k.delimiter) b.1
          where
            other : (b : Bool) → not b ≡ true → b ≡ false
            other true e = cc
            other false e = refl
        plain false h e = absurd (false≢true e)
piece_head m (delimiters n c z l) = absurd (false≢true (sym m ∙ n))
piece_head {k = k} m (letter {p = p} {next = next} d s t e) =
    ap (count_of k.delimiter) s ∙ no_delimiter k.delimiter (p, 92) next (ap (λ (n : ℕ). 92 == n) d)
piece_head {k = k} m (unicode {p = p} {next = next} d s t e l v) =
    ap (count_of k.delimiter) s ∙ no_delimiter k.delimiter (p, 92) next (ap (λ (n : ℕ). 92 == n) d)
piece_head m (continuation d n s t) = absurd (false≢true (sym m ∙ n))

-- the body of a string on one line, which begins with one delimiter at most
record Body (k : Quotes) (inside tail : List ℕ) (rest text : Text) : Type 0 where
  closer : Text
  pieces : Pieces k text inside closer
  closes : Closes k closer tail rest
  few : count_of k.delimiter text < 2

-- the texts begin with the same character
pub record Alike (text other : Text) : Type 0 where
  pub first : ℕ × ℕ
  pub next : Text
  pub next' : Text
  pub here : text ≡ first ∷ next
  pub there : other ≡ first ∷ next'

pub alike_past : {here there text other : Text} → Alike here there → Parts here there text other → Alike text other
alike_past a (at_end t o) =
    record { first = a.first; next = a.next; next' = a.next'; here = t ∙ a.here; there = o ∙ a.there }
alike_past a (past {x = x} {text = text} {other = other} k) =
    record { first = x; next = text; next' = other; here = refl; there = refl }

-- pieces of a string, before such texts
module _ {here there : Text} (alike : Alike here there) where
  run_before : {rest rest' : Text} (f : ℕ → Bool) (text : Text) → rest ≡ after_run f text → Parts here there rest rest'
      → Kept here there text (λ t. (after_run f t ≡ rest') × (run f t ≡ run f text))
  run_before f text e k = let a = alike_past alike k in kept (run_to f text e (same_ends f a.here a.there)) k

  piece_kept : {k : Quotes} {text rest rest' : Text} {chars : List ℕ} → IsPiece k text chars rest
      → Parts here there rest rest' → Kept here there text (λ t. IsPiece k t chars rest')
  piece_kept (content s e) c =
      let r = sign_kept s c in record { other = r.other; parts = r.parts; holds = content r.holds e }
  piece_kept {k = k} {rest' = rest'} (delimiters {n = n} {text = text} m e z l) c =
      let r = run_before (λ c. c == k.delimiter) text (counted_drop k.delimiter text e) c in
      let count : count_of k.delimiter r.other ≡ n = ap length r.holds.1 ∙ e in
      record {
        other = r.other;
        parts = r.parts;
        holds = subst (λ (t : Text). IsPiece k r.other (replicate n k.delimiter) t)
            (counted_drop k.delimiter r.other count ∙ r.holds.0) (delimiters m count z l);
      }
  piece_kept (letter d s t e) c =
      let r = sign_kept t c in
      let q = sign_kept s r.parts in
      record { other = q.other; parts = q.parts; holds = letter d q.holds r.holds e }
  piece_kept {k = k} {rest' = rest'} (unicode {n = n} {digits = digits} d s t e l v) c =
      let r = kept (drop_to n digits rest' (omega (arith, l, run_shorter is_hex digits))) c in
      let h = run_taken is_hex n digits r.other r.holds.1 l in
      let same : hex_value n r.other ≡ hex_value n digits = ap (digits_value 16) h.1 in
      let q = sign_kept t r.parts in
      let o = sign_kept s q.parts in
      record {
        other = o.other;
        parts = o.parts;
        holds = subst (λ (t : Text). IsPiece k o.other (hex_value n digits ∷ []) t) r.holds.0
            (subst (λ (m : ℕ). IsPiece k o.other (m ∷ []) (drop n r.other)) same
            (unicode d o.holds q.holds e h.0 (subst IsScalar (sym same) v)));
      }
  piece_kept {k = k} (continuation {next = next} {after = after} d m s t) c =
      let r = run_before is_space after refl c in
      let q = sign_kept t r.parts in
      let b = run_before is_blank next refl q.parts in
      let o = sign_kept s b.parts in
      record {
        other = o.other;
        parts = o.parts;
        holds = subst (λ (t : Text). IsPiece k o.other [] t) r.holds.0
            (continuation d m o.holds (b.holds.0 ∙ q.holds));
      }

  pieces_kept : {k : Quotes} {text rest rest' : Text} {value : List ℕ} → Pieces k text value rest
      → Parts here there rest rest' → Kept here there text (λ t. Pieces k t value rest')
  pieces_kept {rest' = rest'} none c = record { other = rest'; parts = c; holds = none }
  pieces_kept (piece x xs) c =
      let r = pieces_kept xs c in
      let q = piece_kept x r.parts in
      record { other = q.other; parts = q.parts; holds = piece q.holds r.holds }

  feed_kept : (text : Text) {rest rest' : Text} → rest ≡ after_feed text → Parts here there rest rest'
      → Kept here there text (λ t. after_feed t ≡ rest')
  feed_kept [] e k = let a = alike_past alike k in
      let none : [] ≡ a.first ∷ a.next = sym e ∙ a.here in cc
  feed_kept (x ∷ text) {rest = rest} {rest' = rest'} e k = go (x.1 == 10) refl
    where
      go : (b : Bool) → (x.1 == 10) ≡ b → Kept here there (x ∷ text) (λ t. after_feed t ≡ rest')
      go true f = record {
        other = x ∷ rest';
        parts = past (subst (λ (t : Text). Parts here there t rest') (e ∙ ap (λ b. cond b text (x ∷ text)) f) k);
        holds = ap (λ b. cond b rest' (x ∷ rest')) f;
      }
      go false f =
          let rest_is : rest ≡ x ∷ text = e ∙ ap (λ b. cond b text (x ∷ text)) f in
          let a = alike_past alike k in
          let first : x ≡ a.first = let both : x ∷ text ≡ a.first ∷ a.next = sym rest_is ∙ a.here in cc in
          let there_is : rest' ≡ x ∷ a.next' = a.there ∙ ap (λ (y : ℕ × ℕ). y ∷ a.next') (sym first) in
          record {
            other = rest';
            parts = subst (λ (t : Text). Parts here there t rest') rest_is k;
            holds = ap after_feed there_is ∙ ap (λ b. cond b a.next' (x ∷ a.next')) f ∙ sym there_is;
          }

-- no delimiter stands after the body either
none_after : (d : ℕ) (rest rest' : Text) → is_quote d ≡ true → count_of d rest ≡ 0 → Meets rest rest'
    → count_of d rest' ≡ 0
none_after d rest rest' q e m =
    ap length (after_stopped (λ c. c == d) rest' (ends (λ c. c == d) (quotes_join d q) m (quiet rest e))).1
  where
    quiet : (t : Text) → count_of d t ≡ 0 → stops (λ c. c == d) t ≡ true
    quiet [] e = refl
    quiet (x ∷ t) e = go (x.1 == d) e
      where
        go : (b : Bool) → length (cond b (x.1 ∷ run (λ c. c == d) t) []) ≡ 0 → not b ≡ true
        go true e = absurd (omega arith)
        go false e = refl

-- the end of a string, which begins with its delimiter
record Closer (k : Quotes) (here there text : Text) (tail : List ℕ) (rest' : Text) : Type 0 where
  other : Text
  parts : Parts here there text other
  closes : Closes k other tail rest'
  alike : Alike text other

counted_head : (d : ℕ) (text : Text) → 0 < count_of d text → (q : ℕ) × ((next : Text) × StartsWith d text q next)
counted_head d [] h = absurd (omega arith)
counted_head d (x ∷ text) h = go (x.1 == d) refl
  where
    go : (b : Bool) → (x.1 == d) ≡ b → (q : ℕ) × ((next : Text) × StartsWith d (x ∷ text) q next)
    go true e = (x.0, (text, ap (λ (c : ℕ). (x.0, c) ∷ text) (eqb-true x.1 d e)))
    go false e = absurd (omega (arith, ap (λ b. length (cond b (x.1 ∷ run (λ c. c == d) text) [])) e))

module _ {here there : Text} where
  closes_carried : {k : Quotes} {text rest rest' : Text} {tail : List ℕ} → is_quote k.delimiter ≡ true
      → Closes k text tail rest → Cut here there rest rest' → Closer k here there text tail rest'
  closes_carried quote (one {p = q} {text = text} m s) c =
      let r = sign_kept s c.parts in
      record {
        other = r.other;
        parts = r.parts;
        closes = one m r.holds;
        alike = record { first = _; next = _; next' = _; here = s; there = r.holds };
      }
  closes_carried {k = k} {rest' = rest'} quote (several {n = n} {text = text} m e h) c = go (nat_lt 5 n) refl
    where
      d : ℕ
      d = k.delimiter

      go : (b : Bool) → nat_lt 5 n ≡ b → Closer k here there text (replicate (min n 5 - 3) k.delimiter) rest'
      go true f =
          let five : min n 5 ≡ 5 = omega (arith, ltb-true 5 n f) in
          let long : 5 ≤ length text = omega (arith, ltb-true 5 n f, e, run_shorter (λ c. c == k.delimiter) text) in
          let r = kept (drop_to 5 text rest' long) (subst (λ (m : ℕ). Parts here there (drop m text) rest') five c.parts)
          in
          let h' = run_taken (λ c. c == k.delimiter) 5 text r.other r.holds.1 (omega (arith, ltb-true 5 n f, e)) in
          let five' : min (count_of k.delimiter r.other) 5 ≡ 5 = omega (arith, h'.0) in
          let (q, (next, first)) = counted_head k.delimiter text (omega (arith, ltb-true 5 n f, e)) in
          let (next', first') = taken_head r.other first r.holds.1 in
          record {
            other = r.other;
            parts = r.parts;
            closes = subst (λ (t : Text). Closes k r.other (replicate (min n 5 - 3) k.delimiter) t) r.holds.0
                (subst (λ (m : ℕ). Closes k r.other (replicate (min n 5 - 3) k.delimiter) (drop m r.other)) five'
                (subst (λ (m : ℕ). Closes k r.other (replicate (m - 3) k.delimiter)
                (drop (min (count_of k.delimiter r.other) 5) r.other)) (five' ∙ sym five)
                (several m refl (omega (arith, h'.0)))));
            alike = record { first = (q, k.delimiter); next = next; next' = next'; here = first; there = first' };
          }
        where
          taken_head : {x : ℕ × ℕ} {next : Text} (other : Text) → text ≡ x ∷ next → take 5 other ≡ take 5 text
              → (t : Text) × (other ≡ x ∷ t)
          taken_head {x = x} {next = next} [] e f =
              let none : [] ≡ x ∷ take 4 next = f ∙ ap (take 5) e in cc
          taken_head {x = x} {next = next} (y ∷ other) e f =
              let both : y ∷ take 4 other ≡ x ∷ take 4 next = f ∙ ap (take 5) e in
              let first : y ≡ x = cc in
              (other, ap (λ (z : ℕ × ℕ). z ∷ other) first)
      go false f =
          let all : min n 5 ≡ n = omega (arith, ltb-false 5 n f) in
          let same : drop (min n 5) text ≡ after_run (λ c. c == k.delimiter) text =
          ap (λ (m : ℕ). drop m text) all ∙ counted_drop k.delimiter text e in
          let (q, (next, first)) = counted_head k.delimiter text (omega (arith, h, e)) in
          let r = begun_carried (λ c. c == k.delimiter) (quotes_join k.delimiter quote) first
          (eq-eqb k.delimiter k.delimiter refl) (subst (λ (t : Text). Cut here there t rest') same c) in
          let count : count_of k.delimiter r.other ≡ n = ap length r.holds.1 ∙ e in
          record {
            other = r.other;
            parts = r.cut.parts;
            closes = subst (λ (t : Text). Closes k r.other (replicate (min n 5 - 3) k.delimiter) t)
                (ap (λ (m : ℕ). drop m r.other) all ∙ counted_drop k.delimiter r.other count ∙ r.holds.0)
                (several m count h);
            alike = record {
              first = (q, k.delimiter);
              next = next;
              next' = r.holds.2.0;
              here = first;
              there = r.holds.2.1;
            };
          }

  body_carried : {k : Quotes} {body closer rest rest' : Text} {inside tail : List ℕ} → is_quote k.delimiter ≡ true
      → k.multiline ≡ false
      → count_of k.delimiter body < 2 → Pieces k body inside closer → Closes k closer tail rest
      → Cut here there rest rest' → Kept here there body (Body k inside tail rest')
  body_carried quote m h xs (several n e l) c = absurd (false≢true (sym m ∙ n))
  body_carried {k = k} {rest = rest} {rest' = rest'} quote m h none (one {p = q} n s) c =
      let r = sign_kept s c.parts in
      let d = k.delimiter in
      let quiet : count_of d rest ≡ 0 = omega (arith, h, ap (count_of d) s, one_more d q rest) in
      record {
        other = r.other;
        parts = r.parts;
        holds = record {
          closer = r.other;
          pieces = none;
          closes = one n r.holds;
          few = omega (arith, ap (count_of d) r.holds, one_more d q rest', none_after d rest rest' quote quiet c.meets);
        };
      }
  body_carried {k = k} quote m h (piece x xs) (one n s) c =
      let r = sign_kept s c.parts in
      let alike : Alike _ r.other = record { first = _; next = _; next' = _; here = s; there = r.holds } in
      let start = at_end refl refl in
      let q = pieces_kept alike xs start in
      let o = piece_kept alike x q.parts in
      record {
        other = o.other;
        parts = beyond o.parts r.parts;
        holds = record {
          closer = r.other;
          pieces = piece o.holds q.holds;
          closes = one n r.holds;
          few = omega (arith, piece_head m o.holds);
        };
      }

  pub string_carried : {text rest rest' : Text} {q : ℕ} {m : Bool} {value : List ℕ} → IsString text q m value rest
      → Cut here there rest rest' → Carried here there text (λ t. IsString t q m value rest')
  string_carried {rest = rest} {rest' = rest'} {m = m} {value = value} s c = go s.opens s.pieces s.closes s.lines
    where
      go : {text body : Text} {q : ℕ} {k : Quotes} → Opens text q k body → Pieces k body s.inside s.closer
          → Closes k s.closer s.tail rest → k.multiline ≡ m
          → Carried here there text (λ t. IsString t q m value rest')
      go {q = q} {k = k} (one_line {d = d} {next = next} o quote few) xs closes lines =
          let b = body_carried quote refl (omega (arith, few, ap (count_of d) o, one_more d q next)) xs closes c in
          let r = sign_carried o b.parts in
          record {
            other = r.other;
            cut = r.cut;
            holds = record {
              kind = record { delimiter = d; multiline = false };
              body = b.other;
              opens = one_line r.holds quote
                  (omega (arith, b.holds.few, ap (count_of d) r.holds, one_more d q b.other));
              lines = lines;
              inside = s.inside;
              closer = b.holds.closer;
              pieces = b.holds.pieces;
              tail = s.tail;
              closes = b.holds.closes;
              stands_for = s.stands_for;
            };
          }
      go {q = q} {k = k} (multiline {d = d} {text = text} {next = next} o quote many) xs closes lines =
          let e = closes_carried quote closes c in
          let b = pieces_kept e.alike xs (at_end refl refl) in
          let f = feed_kept e.alike (drop 2 next) refl b.parts in
          let long : 2 ≤ length next = omega (arith, many, run_shorter (λ c. c == d) text, ap length o) in
          let n = kept (drop_to 2 next f.other long) (beyond f.parts e.parts) in
          let r = sign_carried o n.parts in
          let same : take 3 r.other ≡ take 3 text =
          ap (take 3) r.holds ∙ ap (λ (t : Text). (q, d) ∷ t) n.holds.1 ∙ sym (ap (take 3) o) in
          record {
            other = r.other;
            cut = r.cut;
            holds = record {
              kind = record { delimiter = d; multiline = true };
              body = b.other;
              opens = subst (λ (t : Text). Opens r.other q (record { delimiter = d; multiline = true }) t)
                  (ap after_feed n.holds.0 ∙ f.holds)
                  (multiline r.holds quote (run_taken (λ c. c == d) 3 text r.other same many).0);
              lines = lines;
              inside = s.inside;
              closer = e.other;
              pieces = b.holds;
              tail = s.tail;
              closes = e.closes;
              stands_for = s.stands_for;
            };
          }
