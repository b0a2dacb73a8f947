-- A text that goes on otherwise from an offset has bytes, where what follows is of visible characters.
use Rattle.std.proofs.Common.{◌⊎◌, inl, inr, ◌≡◌, ℕ, suc, ◌+◌, ◌==◌, ◌&&◌, Bool, true, false, cond, List, [], ◌∷◌}
use Rattle.std.proofs.Common.{length, refl, ap, sym, ◌∙◌, subst, arith, encode_utf8_all, nat_lt}
use Rattle.std.specs.Prelude.{IsUtf8}
use Rattle.std.specs.Char.{len_utf8}
use lib.Utf8.{scalar, scalars, encode, low_scalar}
use Rattle.std.proofs.lemmas.Bool.{and_parts, and_from, ne_eqb, lt-ltb, eqb-true, false≢true}
use Rattle.std.proofs.lemmas.Str.{length-encode}
use Rattle.std.proofs.lemmas.List.{length-append}
use Rattle.basic_toml_tokens.specs.Text.{Text, first_of, folded_from, folded, offset_in}
use Rattle.basic_toml_grammar.proofs.Grammar.EndChangesNothing.{Parts, at_end, past}
use Rattle.basic_toml_grammar.proofs.Completion.ValuesCompleted.{placed, AreVisible, there}
use Rattle.basic_toml_grammar.proofs.SameMeaning.RespelledMeanTheSame.{folded_chars, chars_folded}

visible_scalars : (cs : List ℕ) → AreVisible cs → scalars cs ≡ true
visible_scalars [] v = refl
visible_scalars (c ∷ cs) v =
    and_from (scalar c) (scalars cs) (low_scalar c (omega (arith, v.1))) (visible_scalars cs v.2)

-- such characters stand one byte from another
visible_folded : (p : ℕ) (cs : List ℕ) → AreVisible cs → placed p cs ≡ folded_from false p cs
visible_folded p [] v = refl
visible_folded p (c ∷ cs) v =
    let width : len_utf8 c ≡ 1 =
    ap {B = ℕ} (λ b. cond b 1 (cond (nat_lt c 0x800) 2 (cond (nat_lt c 0x1_0000) 3 4))) (lt-ltb c 0x80 v.1) in
    let one : suc p ≡ p + len_utf8 c = omega (arith, width) in
    let plain : (c == 13) ≡ false = ne_eqb c 13 (λ e. omega (arith, v.0, e)) in
    ap (λ (t : Text). (p, c) ∷ t) (visible_folded (suc p) cs v.2)
    ∙ ap (λ (n : ℕ). (p, c) ∷ folded_from false n cs) one
    ∙ sym (ap (λ b. cond (b && first_of cs == 10) ((p, 10) ∷ folded_from true (p + 1) cs)
    ((p, c) ∷ folded_from false (p + len_utf8 c) cs)) plain)

-- A line feed is written as CR LF: so a CR before it stands alone as it did.
abbrev written : Bool → List ℕ → List ℕ
written false cs = cs
written true cs = 13 ∷ 10 ∷ cs

written_scalars : (fed : Bool) (cs : List ℕ) → AreVisible cs → scalars (written fed cs) ≡ true
written_scalars false cs v = visible_scalars cs v
written_scalars true cs v = and_from (scalar 13) (scalars (10 ∷ cs)) (low_scalar 13 (omega arith))
    (and_from (scalar 10) (scalars cs) (low_scalar 10 (omega arith)) (visible_scalars cs v))

written_folded : (fed : Bool) (p : ℕ) (cs : List ℕ) → AreVisible cs
    → folded_from false p (written fed cs) ≡ there p fed cs
written_folded false p cs v = sym (visible_folded p cs v)
written_folded true p cs v =
    let two : p + 1 + len_utf8 10 ≡ suc (suc p) = omega arith in
    ap (λ (n : ℕ). (p, 10) ∷ folded_from false n cs) two ∙
    ap (λ (t : Text). (p, 10) ∷ t) (sym (visible_folded (suc (suc p)) cs v))

-- neither a line feed nor U+FEFF
record Plain (c : ℕ) : Type 0 where
  no_feed : (c == 10) ≡ false
  no_mark : (c == 0xFEFF) ≡ false

written_plain : (fed : Bool) (cs : List ℕ) → AreVisible cs → Plain (first_of (written fed cs))
written_plain false [] v = record { no_feed = refl; no_mark = refl }
written_plain false (c ∷ cs) v = record {
  no_feed = ne_eqb c 10 (λ e. omega (arith, v.0, e));
  no_mark = ne_eqb c 0xFEFF (λ e. omega (arith, v.1, e));
}
written_plain true cs v = record { no_feed = refl; no_mark = refl }

-- how many bytes some characters take
abbrev width : List ℕ → ℕ
width [] = 0
width (c ∷ cs) = len_utf8 c + width cs

width_encoded : (cs : List ℕ) → length (encode_utf8_all cs) ≡ width cs
width_encoded [] = refl
width_encoded (c ∷ cs) = length-append (encode c) (encode_utf8_all cs) ∙
    omega (arith, length-encode c, width_encoded cs)

-- the first of some characters, if another
abbrev Front : Bool → ℕ → ℕ → Type 0
Front true first c = c ≡ first
Front false first c = (c ≡ first) ⊎ Plain c

-- the characters that are folded to a text, of which the first is this one, or joins nothing
record Spells (taken : Bool) (a first : ℕ) (text : Text) : Type 0 where
  chars : List ℕ
  are : scalars chars ≡ true
  spell : folded_from taken a chars ≡ text
  front : Front taken first (first_of chars)

module _ (fed : Bool) (total : List ℕ) (visible : AreVisible total) (end : ℕ) where
  -- where the text ends, or is left at its first character
  from_here : {at text other : Text} (a first : ℕ) → offset_in end text ≡ a → text ≡ at
      → other ≡ there (offset_in end at) fed total → Spells false a first other
  from_here {at = at} {text = text} {other = other} a first o t e = record {
    chars = written fed total;
    are = written_scalars fed total visible;
    spell = written_folded fed a total visible ∙ ap (λ (n : ℕ). there n fed total) (sym o) ∙
        ap (λ (t : Text). there (offset_in end t) fed total) t ∙ sym e;
    front = inr (written_plain fed total visible);
  }

  spelled : {at other : Text} (taken : Bool) (a : ℕ) (cs : List ℕ) → scalars cs ≡ true
      → (taken ≡ true → first_of cs ≡ 10) → end ≡ a + width cs
      → Parts at (there (offset_in end at) fed total) (folded_from taken a cs) other
      → Spells taken a (first_of cs) other
  spelled true a [] s f l k = let no : 0 ≡ 10 = f refl in absurd (omega (arith, no))
  spelled false a [] s f l (at_end t e) = from_here a 0 (omega (arith, l)) t e
  spelled true a (c ∷ cs) s f l k =
      let u = and_parts (scalar c) (scalars cs) s in
      let on = spelled false (a + len_utf8 c) cs u.1 (λ e. absurd (false≢true e)) (omega (arith, l)) k in
      record {
        chars = c ∷ on.chars;
        are = and_from (scalar c) (scalars on.chars) u.0 on.are;
        spell = on.spell;
        front = refl;
      }
  spelled {at = at} {other = other} false a (c ∷ cs) s f l k =
      go (c == 13 && first_of cs == 10) refl k
      (λ t e k. spelled {other = t} true (a + 1) cs u.1 (λ e'. eqb-true (first_of cs) 10 (pair e).1)
      (omega (arith, l, narrow e)) k)
      (λ t k. spelled {other = t} false (a + len_utf8 c) cs u.1 (λ e. absurd (false≢true e)) (omega (arith, l)) k)
    where
      u : (scalar c ≡ true) × (scalars cs ≡ true)
      u = and_parts (scalar c) (scalars cs) s

      pair : (c == 13 && first_of cs == 10) ≡ true → ((c == 13) ≡ true) × ((first_of cs == 10) ≡ true)
      pair e = and_parts (c == 13) (first_of cs == 10) e

      narrow : (c == 13 && first_of cs == 10) ≡ true → len_utf8 c ≡ 1
      narrow e = ap len_utf8 (eqb-true c 13 (pair e).0)

      folds : (ds : List ℕ) (b : Bool) → (c == 13 && first_of ds == 10) ≡ b
          → folded_from false a (c ∷ ds) ≡ cond b ((a, 10) ∷ folded_from true (a + 1) ds)
          ((a, c) ∷ folded_from false (a + len_utf8 c) ds)
      folds ds b e = ap (λ b. cond b ((a, 10) ∷ folded_from true (a + 1) ds)
          ((a, c) ∷ folded_from false (a + len_utf8 c) ds)) e

      unpaired : (ds : List ℕ) → Front false (first_of cs) (first_of ds) → (c == 13 && first_of cs == 10) ≡ false
          → (c == 13 && first_of ds == 10) ≡ false
      unpaired ds (inl e) g = ap (λ (n : ℕ). c == 13 && n == 10) e ∙ g
      unpaired ds (inr q) g = ap (λ b. c == 13 && b) q.no_feed ∙ never (c == 13)
        where
          never : (b : Bool) → (b && false) ≡ false
          never true = refl
          never false = refl

      go : {o : Text} (b : Bool) → (c == 13 && first_of cs == 10) ≡ b
          → Parts at (there (offset_in end at) fed total) (cond b ((a, 10) ∷ folded_from true (a + 1) cs)
          ((a, c) ∷ folded_from false (a + len_utf8 c) cs)) o
          → ((t : Text) → (c == 13 && first_of cs == 10) ≡ true
          → Parts at (there (offset_in end at) fed total) (folded_from true (a + 1) cs) t
          → Spells true (a + 1) (first_of cs) t)
          → ((t : Text) → Parts at (there (offset_in end at) fed total) (folded_from false (a + len_utf8 c) cs) t
          → Spells false (a + len_utf8 c) (first_of cs) t)
          → Spells false a c o
      go true e (at_end t g) behind on = from_here a c refl t g
      go false e (at_end t g) behind on = from_here a c refl t g
      go true e (past {other = o} k) behind on =
          let r = behind o e k in
          record {
            chars = c ∷ r.chars;
            are = and_from (scalar c) (scalars r.chars) u.0 r.are;
            spell = folds r.chars true (ap (λ (n : ℕ). c == 13 && n == 10) r.front ∙ e) ∙
                ap (λ (t : Text). (a, 10) ∷ t) r.spell;
            front = inl refl;
          }
      go false e (past {other = o} k) behind on =
          let r = on o k in
          record {
            chars = c ∷ r.chars;
            are = and_from (scalar c) (scalars r.chars) u.0 r.are;
            spell = folds r.chars false (unpaired r.chars r.front e) ∙ ap (λ (t : Text). (a, c) ∷ t) r.spell;
            front = inl refl;
          }

  -- the characters of a whole text
  record CharsOf (other : Text) : Type 0 where
    chars : List ℕ
    are : scalars chars ≡ true
    spell : folded_chars chars ≡ other

  unmarked : (a : ℕ) (ds : List ℕ) → (a == 0xFEFF) ≡ false → Front false a (first_of ds)
      → folded_chars ds ≡ folded_from false 0 ds
  unmarked a [] n f = refl
  unmarked a (d ∷ ds) n (inl e) =
      ap (λ b. cond b (folded_from false 3 ds) (folded_from false 0 (d ∷ ds))) (ap (λ (n : ℕ). n == 0xFEFF) e ∙ n)
  unmarked a (d ∷ ds) n (inr q) = ap (λ b. cond b (folded_from false 3 ds) (folded_from false 0 (d ∷ ds))) q.no_mark

  whole : {at other : Text} (cs : List ℕ) → scalars cs ≡ true → end ≡ width cs
      → Parts at (there (offset_in end at) fed total) (folded_chars cs) other → CharsOf other
  whole [] s l k =
      let r = spelled false 0 [] refl (λ e. absurd (false≢true e)) l k in
      record { chars = r.chars; are = r.are; spell = unmarked 0 r.chars refl r.front ∙ r.spell }
  whole {at = at} {other = other} (c ∷ cs) s l k = go (c == 0xFEFF) refl k
    where
      u : (scalar c ≡ true) × (scalars cs ≡ true)
      u = and_parts (scalar c) (scalars cs) s

      three : (c == 0xFEFF) ≡ true → len_utf8 c ≡ 3
      three e = ap len_utf8 (eqb-true c 0xFEFF e)

      go : (b : Bool) → (c == 0xFEFF) ≡ b
          → Parts at (there (offset_in end at) fed total)
          (cond b (folded_from false 3 cs) (folded_from false 0 (c ∷ cs))) other → CharsOf other
      go true e k =
          let r = spelled false 3 cs u.1 (λ e. absurd (false≢true e)) (omega (arith, l, three e)) k in
          record {
            chars = c ∷ r.chars;
            are = and_from (scalar c) (scalars r.chars) u.0 r.are;
            spell = ap (λ b. cond b (folded_from false 3 r.chars) (folded_from false 0 (c ∷ r.chars))) e ∙ r.spell;
          }
      go false e k =
          let r = spelled false 0 (c ∷ cs) s (λ e. absurd (false≢true e)) (omega (arith, l)) k in
          record { chars = r.chars; are = r.are; spell = unmarked c r.chars e r.front ∙ r.spell }

-- the bytes of a text that goes on so
pub record BytesOf (other : Text) : Type 0 where
  pub bytes : List ℕ
  pub utf8 : IsUtf8 bytes
  pub same : folded bytes ≡ other

pub bytes_of : (fed : Bool) (total : List ℕ) → AreVisible total → (bytes : List ℕ) → IsUtf8 bytes
    → {at other : Text} → Parts at (there (offset_in (length bytes) at) fed total) (folded bytes) other
    → BytesOf other
bytes_of fed total visible bytes (cs, (s, e)) {at = at} {other = other} k =
    let end : length bytes ≡ width cs = ap length (sym e) ∙ width_encoded cs in
    let there_is : folded bytes ≡ folded_chars cs = ap folded (sym e) ∙ chars_folded cs s in
    let r = whole fed total visible (length bytes) cs s end
    (subst (λ (t : Text). Parts at (there (offset_in (length bytes) at) fed total) t other) there_is k) in
    record {
      bytes = encode_utf8_all r.chars;
      utf8 = (r.chars, (r.are, refl));
      same = chars_folded r.chars r.are ∙ r.spell;
    }
