-- Where a key has to come and a multiline string stands, it is due that none is a key.
use Rattle.std.proofs.Common.{◌≡◌, ℕ, ◌==◌, Bool, true, false, cond, List, ◌∷◌, length, Some, None}
use Rattle.std.proofs.Common.{refl, sym, ◌∙◌}
use Rattle.std.specs.Prelude.{IsUtf8, encode_utf8_all}
use Rattle.std.proofs.lemmas.Bool.{false≢true}
use Rattle.basic_toml_tokens.specs.Text.{Text, folded, offset_in}
use Rattle.basic_toml_tokens.specs.Strings.{IsString}
use Rattle.basic_toml_tokens.specs.TokenAt as token
use Rattle.basic_toml_tokens.specs.TokenAt.{Lexeme, newline, equals, period, comma, colon, plus, left_brace}
use Rattle.basic_toml_tokens.specs.TokenAt.{right_brace, left_bracket, right_bracket, keylike, string}
use Rattle.basic_toml_tokens.specs.TokenAt.{punctuation_of, IsToken}
use Rattle.basic_toml_tokens.proofs.TokenIsUnique.{token_same}
use Rattle.basic_toml_grammar.specs.Sections.{Key}
use Rattle.basic_toml_grammar.specs.Faults.{multiline_string_key}
use Rattle.basic_toml_grammar.specs.Grammar.{IsKey, bare, quoted}
use Rattle.basic_toml_grammar.specs.GrammarFaults as faults
use Rattle.basic_toml_grammar.specs.GrammarFaults.{fault_at}
use Rattle.basic_toml_grammar.specs.Holes.{Hole, HoleInText}
use Rattle.basic_toml_grammar.specs.Viable as viable
use Rattle.basic_toml_grammar.specs.Viable.{SameToken, MayStand, IsDue, Want}
use Rattle.basic_toml_grammar.proofs.Completion.TokensFollow.{hole_is_viable}
use Rattle.basic_toml_grammar.proofs.Viable.HolesHold.{HasKey}
use Rattle.basic_toml_grammar.proofs.Viable.TextsHold.{FitsOrEnds}
use Rattle.basic_toml_grammar.proofs.Viable.TokensAtHoles.{token_holds}
use Rattle.basic_toml_grammar.proofs.Viable.NumbersOnTheWay.{string_sound}
use Rattle.basic_toml_grammar.proofs.Viable.HolesAreDue.{Outside, key_is_wanted}

-- no punctuation is a string
no_punctuation : (c : ℕ) {source value : List ℕ} {m : Bool} → punctuation_of c ≡ Some (string source value m) → ⊥
no_punctuation c {source = source} {value = value} {m = m} e =
    go (c == 10) (c == 61) (c == 46) (c == 44) (c == 58) (c == 43) (c == 123) (c == 125) (c == 91) (c == 93) e
  where
    go : (a b d f g h i j k l : Bool)
        → cond a (Some newline) (cond b (Some equals) (cond d (Some period) (cond f (Some comma) (cond g (Some colon)
        (cond h (Some plus) (cond i (Some left_brace) (cond j (Some right_brace) (cond k (Some left_bracket)
        (cond l (Some right_bracket) None))))))))) ≡ Some (string source value m) → ⊥
    go true b d f g h i j k l e = cc
    go false true d f g h i j k l e = cc
    go false false true f g h i j k l e = cc
    go false false false true g h i j k l e = cc
    go false false false false true h i j k l e = cc
    go false false false false false true i j k l e = cc
    go false false false false false false true j k l e = cc
    go false false false false false false false true k l e = cc
    go false false false false false false false false true l e = cc
    go false false false false false false false false false true e = cc
    go false false false false false false false false false false e = cc

record Multiline (text rest : Text) : Type 0 where
  offset : ℕ
  value : List ℕ
  is : IsString text offset true value rest

multiline_is : {source source' value : List ℕ} {text rest : Text} → IsToken source text (string source' value true) rest
    → Multiline text rest
multiline_is (token.punctuation {c = c} s e) = absurd (no_punctuation c e)
multiline_is (token.quoted s) = record { offset = _; value = _; is = s }

-- the kinds of tokens are apart
word_apart : {l : Lexeme} {a v w : List ℕ} {m : Bool} → l ≡ string a v m → l ≡ keylike w → ⊥
word_apart {a = a} {v = v} {w = w} {m = m} e f = let no : string a v m ≡ keylike w = sym e ∙ f in cc

lines_apart : {l : Lexeme} {a b u v : List ℕ} → l ≡ string a u true → l ≡ string b v false → ⊥
lines_apart {a = a} {b = b} {u = u} {v = v} e f =
    let both : string a u true ≡ string b v false = sym e ∙ f in
    let m : true ≡ false = cc in
    false≢true (sym m)

-- no key has the same token
no_key : {text rest stop other : Text} → Multiline text rest → SameToken text stop other → HasKey other → ⊥
no_key {other = other} x s k = go k.is
  where
    multi : s.lexeme ≡ string s.source (encode_utf8_all x.value) true
    multi = (token_same s.here (token.quoted x.is)).0

    go : {key : Key} {more : Text} → IsKey other key more → ⊥
    go (bare b w) = word_apart multi (token_same s.there (token.word b w)).0
    go (quoted q) = lines_apart multi (token_same s.there (token.quoted q)).0

module _ (bytes : List ℕ) (utf8 : IsUtf8 bytes) (outside : Outside (folded bytes)) {p c : ℕ} {next rest : Text}
    {source source' value : List ℕ} (d : HoleInText (folded bytes) Hole.key ((p, c) ∷ next))
    (t : IsToken source ((p, c) ∷ next) (string source' value true) rest) where
  stuck : (stop : Text) → MayStand (folded bytes) (length bytes) ((p, c) ∷ next) stop → ⊥
  stuck stop m = go (token_holds d m.follows)
    where
      go : FitsOrEnds Hole.key m.follows.rest → ⊥
      go (FitsOrEnds.fit f) = no_key (multiline_is t) m.follows.next (f.key refl)

  pub multiline_key_is_due : IsDue (folded bytes) (length bytes)
      (fault_at multiline_string_key (offset_in (length bytes) ((p, c) ∷ next)))
  multiline_key_is_due = record {
    outside = outside;
    at = (p, c) ∷ next;
    stops = record { viable = hole_is_viable bytes utf8 (length bytes) d; stuck = stuck };
    due = viable.mismatch {found = Some (string source' value true)} {want = Want.table_key}
        (string_sound (length bytes) (multiline_is t).is) (faults.token t)
        (key_is_wanted bytes utf8 (faults.token t) d);
  }
