-- The laws on texts that are written in another way.
use Rattle.std.proofs.Common.{◌≡◌, ℕ, ◌+◌, ◌/◌, ◌%◌, ◌≤◌, ◌==◌, Bool, true, false, cond, List, [], ◌∷◌, ◌++◌, drop}
use Rattle.std.proofs.Common.{refl, ap, sym, ◌∙◌, subst, arith, encode_utf8_all, Option, Some}
use Rattle.std.specs.Prelude.{◌&&◌, ◌||◌, nat_lt, IsUtf8}
use Rattle.std.specs.List.{list_any}
use Rattle.std.specs.Str.{chars}
use Rattle.std.specs.Char.{len_utf8}
use lib.Utf8.{scalar, scalars, encode}
use Rattle.std.proofs.lemmas.Bool.{false≢true, and_parts, and_from, or_parts, or_from, eqb-true, ne_eqb}
use Rattle.std.proofs.lemmas.List.Folds.{list_any-append}
use Rattle.std.proofs.lemmas.Str.{chars-encodes, chars-nil}
use Rattle.basic_toml_tokens.specs.Text.{Text, first_of, folded_from, folded}
use Rattle.basic_toml_value.specs.Data.{Data}
use Rattle.basic_toml_grammar.specs.Sections.{Section}
use Rattle.basic_toml_grammar.specs.Reader.{section_list_of}
use Rattle.basic_toml_grammar.specs.Document.{document_of, IsDocument}
use Rattle.basic_toml_grammar.specs.Respelled.{characters, with_returns, has_return, with_byte_order_mark}
use Rattle.basic_toml_grammar.specs.Respelled.{has_byte_order_mark}
use Rattle.basic_toml_grammar.specs.Statements.{OffsetsMeanNothing, ReturnsMeanNothing, ByteOrderMarkMeansNothing}
use Rattle.basic_toml_grammar.proofs.Grammar.ReaderIsComplete.{grammar_is_read}
use Rattle.basic_toml_grammar.proofs.SameMeaning.SameChars.{SameChars, none, more, turned, Both, neither, both}
use Rattle.basic_toml_grammar.proofs.SameMeaning.SameSections.{SameSections, lists_same}
use Rattle.basic_toml_grammar.proofs.SameMeaning.OffsetsForgotten.{document_same}

-- texts of the same characters have the same document
document_there : {text other : Text} {tree : Data} → SameChars text other → IsDocument text tree → IsDocument other tree
document_there {text = text} {other = other} {tree = tree} h d =
    go (lists_same h) ((grammar_is_read text d.sections).0 d.grammar) refl
  where
    go : {x y : Option (List Section)} → Both SameSections x y → x ≡ Some d.sections → section_list_of other ≡ y
        → IsDocument other tree
    go neither e f = cc
    go (both {x = ss} {y = ts} s) e f =
        let same : ss ≡ d.sections = cc in
        record {
          sections = ts;
          grammar = (grammar_is_read other ts).1 f;
          means = sym (document_same s) ∙ ap document_of same ∙ d.means;
        }

same_chars : (text other : Text) → characters text ≡ characters other → SameChars text other
same_chars [] [] e = none
same_chars [] (y ∷ other) e = cc
same_chars (x ∷ text) [] e = cc
same_chars (x ∷ text) (y ∷ other) e =
    let here : x.1 ≡ y.1 = cc in
    let on : characters text ≡ characters other = cc in
    subst (λ c. SameChars (x ∷ text) ((y.0, c) ∷ other)) here (more (same_chars text other on))

pub offsets_mean_nothing : OffsetsMeanNothing
offsets_mean_nothing text other tree e =
    let h : SameChars text other = same_chars text other e in
    (document_there h, document_there (turned h))

-- folded from another offset
moved : (taken : Bool) (p q : ℕ) (cs : List ℕ) → SameChars (folded_from taken p cs) (folded_from taken q cs)
moved taken p q [] = none
moved true p q (c ∷ cs) = moved false (p + len_utf8 c) (q + len_utf8 c) cs
moved false p q (c ∷ cs) =
    go (c == 13 && first_of cs == 10) (moved true (p + 1) (q + 1) cs) (moved false (p + len_utf8 c) (q + len_utf8 c) cs)
  where
    go : (b : Bool) → SameChars (folded_from true (p + 1) cs) (folded_from true (q + 1) cs)
        → SameChars (folded_from false (p + len_utf8 c) cs) (folded_from false (q + len_utf8 c) cs)
        → SameChars (cond b ((p, 10) ∷ folded_from true (p + 1) cs) ((p, c) ∷ folded_from false (p + len_utf8 c) cs))
        (cond b ((q, 10) ∷ folded_from true (q + 1) cs) ((q, c) ∷ folded_from false (q + len_utf8 c) cs))
    go true s t = more s
    go false s t = more t

-- CR LF is folded as LF is
feeds_folded : (p q : ℕ) (cs : List ℕ) → has_return cs ≡ false
    → SameChars (folded_from false p cs) (folded_from false q (with_returns cs))
feeds_folded p q [] h = none
feeds_folded p q (c ∷ cs) h = go (c == 10) refl (λ p q. feeds_folded p q cs (or_parts _ _ h).1)
  where
    feed : c ≡ 10 → ((p q : ℕ) → SameChars (folded_from false p cs) (folded_from false q (with_returns cs)))
        → SameChars (folded_from false p (c ∷ cs)) (folded_from false q (13 ∷ 10 ∷ with_returns cs))
    feed e ih = rw e (more (ih (p + len_utf8 10) (q + 1 + len_utf8 10)))

    go : (b : Bool) → (c == 10) ≡ b
        → ((p q : ℕ) → SameChars (folded_from false p cs) (folded_from false q (with_returns cs)))
        → SameChars (folded_from false p (c ∷ cs))
        (folded_from false q (cond b (13 ∷ 10 ∷ with_returns cs) (c ∷ with_returns cs)))
    go true e ih = feed (eqb-true c 10 e) ih
    go false e ih = let no : (c == 13) ≡ false = (or_parts (c == 13) (has_return cs) h).0 in
        rw no (more (ih (p + len_utf8 c) (q + len_utf8 c)))

-- the folded text of some characters, after one U+FEFF
abbrev pub folded_chars : List ℕ → Text
folded_chars [] = []
folded_chars (c ∷ cs) = cond (c == 0xFEFF) (folded_from false 3 cs) (folded_from false 0 (c ∷ cs))

pub chars_folded : (cs : List ℕ) → scalars cs ≡ true → folded (encode_utf8_all cs) ≡ folded_chars cs
unfolding encode
chars_folded [] u = rw (chars-nil, chars-nil) refl
chars_folded (c ∷ cs) u = rw (chars-encodes (c ∷ cs) u) (go (c == 0xFEFF) refl)
  where
    after : c ≡ 0xFEFF → folded_from false 3 (chars (drop 3 (encode c ++ encode_utf8_all cs))) ≡ folded_from false 3 cs
    after e = rw e (ap (folded_from false 3) (chars-encodes cs (and_parts (scalar c) (scalars cs) u).1))

    go : (b : Bool) → (c == 0xFEFF) ≡ b
        → folded_from false (cond b 3 0) (chars (drop (cond b 3 0) (encode c ++ encode_utf8_all cs)))
        ≡ cond b (folded_from false 3 cs) (folded_from false 0 (c ∷ cs))
    go true e = after (eqb-true c 0xFEFF e)
    go false e = ap (folded_from false 0) (chars-encodes (c ∷ cs) u)

feeds_folded_whole : (cs : List ℕ) → has_return cs ≡ false
    → SameChars (folded_chars cs) (folded_chars (with_returns cs))
feeds_folded_whole [] h = none
feeds_folded_whole (c ∷ cs) h = go (c == 10) refl
  where
    feed : c ≡ 10 → SameChars (folded_from false 0 (10 ∷ cs)) (folded_from false 0 (13 ∷ 10 ∷ with_returns cs))
        → SameChars (folded_chars (c ∷ cs)) (folded_chars (13 ∷ 10 ∷ with_returns cs))
    feed e s = rw e s

    go : (b : Bool) → (c == 10) ≡ b
        → SameChars (folded_chars (c ∷ cs)) (folded_chars (cond b (13 ∷ 10 ∷ with_returns cs) (c ∷ with_returns cs)))
    go true e = feed (eqb-true c 10 e) (feeds_folded 0 0 (10 ∷ cs) (or_parts (c == 13) (has_return cs) h).1)
    go false e = by (c == 0xFEFF)
      where
        all : SameChars (folded_from false 0 (c ∷ cs)) (folded_from false 0 (with_returns (c ∷ cs)))
        all = feeds_folded 0 0 (c ∷ cs) h

        by : (b : Bool) → SameChars (cond b (folded_from false 3 cs) (folded_from false 0 (c ∷ cs)))
            (cond b (folded_from false 3 (with_returns cs)) (folded_from false 0 (c ∷ with_returns cs)))
        by true = feeds_folded 3 3 cs (or_parts (c == 13) (has_return cs) h).1
        by false = rw e at all

-- bytes and characters
abbrev feeds : List ℕ → Bool
feeds xs = list_any (λ b. b == 10) xs

past : (xs bytes : List ℕ) → feeds xs ≡ false → with_returns (xs ++ bytes) ≡ xs ++ with_returns bytes
past [] bytes h = refl
past (x ∷ xs) bytes h =
    let r : ((x == 10) ≡ false) × (feeds xs ≡ false) = or_parts _ _ h in
    let no : (x == 10) ≡ false = r.0 in
    rw no (ap (λ l. x ∷ l) (past xs bytes r.1))

no_feed : (c : ℕ) → (c == 10) ≡ false → feeds (encode c) ≡ false
unfolding encode
no_feed c e = go (nat_lt c 128) (nat_lt c 2048) (nat_lt c 65536)
  where
    big : (b : ℕ) → 128 ≤ b → (b == 10) ≡ false
    big b h = ne_eqb b 10 (λ f. omega arith)

    go : (x y z : Bool) → feeds (cond x (c ∷ []) (cond y ((192 + c / 64) ∷ (128 + c % 64) ∷ [])
        (cond z ((224 + c / 4096) ∷ (128 + c / 64 % 64) ∷ (128 + c % 64) ∷ []) ((240 + c / 262144)
        ∷ (128 + c / 4096 % 64) ∷ (128 + c / 64 % 64) ∷ (128 + c % 64) ∷ [])))) ≡ false
    go true y z = or_from _ _ e refl
    go false true z = or_from _ _ (big (192 + c / 64) (omega arith))
        (or_from _ _ (big (128 + c % 64) (omega arith)) refl)
    go false false true =
        or_from _ _ (big (224 + c / 4096) (omega arith))
        (or_from _ _ (big (128 + c / 64 % 64) (omega arith)) (or_from _ _ (big (128 + c % 64) (omega arith)) refl))
    go false false false =
        or_from _ _ (big (240 + c / 262144) (omega arith)) (or_from _ _ (big (128 + c / 4096 % 64) (omega arith))
        (or_from _ _ (big (128 + c / 64 % 64) (omega arith)) (or_from _ _ (big (128 + c % 64) (omega arith)) refl)))

encoded : (cs : List ℕ) → with_returns (encode_utf8_all cs) ≡ encode_utf8_all (with_returns cs)
unfolding encode
encoded [] = refl
encoded (c ∷ cs) = go (c == 10) refl (encoded cs)
  where
    feed : c ≡ 10 → with_returns (encode_utf8_all cs) ≡ encode_utf8_all (with_returns cs)
        → with_returns (encode c ++ encode_utf8_all cs) ≡ encode_utf8_all (13 ∷ 10 ∷ with_returns cs)
    feed e ih = rw e (ap (λ l. 13 ∷ 10 ∷ l) ih)

    go : (b : Bool) → (c == 10) ≡ b → with_returns (encode_utf8_all cs) ≡ encode_utf8_all (with_returns cs)
        → with_returns (encode c ++ encode_utf8_all cs)
        ≡ encode_utf8_all (cond b (13 ∷ 10 ∷ with_returns cs) (c ∷ with_returns cs))
    go true e ih = feed (eqb-true c 10 e) ih
    go false e ih = past (encode c) (encode_utf8_all cs) (no_feed c e) ∙ ap (λ l. encode c ++ l) ih

no_return : (cs : List ℕ) → has_return (encode_utf8_all cs) ≡ false → has_return cs ≡ false
unfolding encode
no_return [] h = refl
no_return (c ∷ cs) h = go (c == 13) refl (λ e. no_return cs e)
  where
    parts : (has_return (encode c) ≡ false) × (has_return (encode_utf8_all cs) ≡ false)
    parts = or_parts _ _ (sym (list_any-append (λ b. b == 13) (encode c) (encode_utf8_all cs)) ∙ h)

    never : c ≡ 13 → has_return (encode c) ≡ true
    never e = rw e refl

    go : (b : Bool) → (c == 13) ≡ b → (has_return (encode_utf8_all cs) ≡ false → has_return cs ≡ false)
        → (b || has_return cs) ≡ false
    go true e ih = absurd (false≢true (sym parts.0 ∙ never (eqb-true c 13 e)))
    go false e ih = ih parts.1

still_scalars : (cs : List ℕ) → scalars cs ≡ true → scalars (with_returns cs) ≡ true
still_scalars [] u = refl
still_scalars (c ∷ cs) u = go (c == 10) (still_scalars cs (and_parts (scalar c) (scalars cs) u).1)
  where
    go : (b : Bool) → scalars (with_returns cs) ≡ true
        → scalars (cond b (13 ∷ 10 ∷ with_returns cs) (c ∷ with_returns cs)) ≡ true
    go true h = h
    go false h = and_from _ _ (and_parts (scalar c) (scalars cs) u).0 h

returns_folded : (bytes : List ℕ) → IsUtf8 bytes → has_return bytes ≡ false
    → SameChars (folded bytes) (folded (with_returns bytes))
returns_folded bytes u h = go u.0 u.1.0 u.1.1
  where
    go : (cs : List ℕ) → scalars cs ≡ true → encode_utf8_all cs ≡ bytes
        → SameChars (folded bytes) (folded (with_returns bytes))
    go cs s e = rw (← e, encoded cs, chars_folded cs s, chars_folded (with_returns cs) (still_scalars cs s))
        (feeds_folded_whole cs (no_return cs (ap has_return e ∙ h)))

pub returns_mean_nothing : ReturnsMeanNothing
returns_mean_nothing bytes tree u h =
    let s : SameChars (folded bytes) (folded (with_returns bytes)) = returns_folded bytes u h in
    (document_there s, document_there (turned s))

-- the mark is skipped
mark_folded : (bytes : List ℕ) → has_byte_order_mark bytes ≡ false
    → SameChars (folded bytes) (folded (with_byte_order_mark bytes))
unfolding encode chars
mark_folded [] h = none
mark_folded (b ∷ bytes) h = rw h (moved false 0 3 (chars (b ∷ bytes)))

pub byte_order_mark_means_nothing : ByteOrderMarkMeansNothing
byte_order_mark_means_nothing bytes tree h =
    let s : SameChars (folded bytes) (folded (with_byte_order_mark bytes)) = mark_folded bytes h in
    (document_there s, document_there (turned s))
