-- Each token before a hole may stand where it stands: some text of the grammar has the same characters up to its end.
use Rattle.std.proofs.Common.{◌≡◌, ℕ, suc, ◌<◌, Bool, true, false, List, [], ◌∷◌, ◌++◌, length}
use Rattle.std.proofs.Common.{refl, ap, sym, ◌∙◌, subst, arith, Option, Some, None}
use Rattle.std.specs.Prelude.{not, IsUtf8, encode_utf8_all}
use Rattle.std.proofs.lemmas.Bool.{false≢true}
use Rattle.basic_toml_tokens.specs.Text.{Text, run, is_blank, is_keylike, is_comment}
use Rattle.basic_toml_tokens.specs.Text.{offset_in, folded}
use Rattle.basic_toml_tokens.specs.TokenAt as token
use Rattle.basic_toml_tokens.specs.TokenAt.{Lexeme, whitespace, comment, keylike, string, IsToken}
use Rattle.basic_toml_grammar.specs.Sections.{Section}
use Rattle.basic_toml_grammar.specs.Grammar.{IsSectionList}
use Rattle.basic_toml_grammar.specs.Holes.{Hole, HoleInText}
use Rattle.basic_toml_grammar.specs.Viable.{GoesOn, SameToken, Viable}
use Rattle.basic_toml_grammar.proofs.Grammar.EndChangesNothing.{Parts, at_end, past, beyond, stops, Ends, joins, Meets}
use Rattle.basic_toml_grammar.proofs.Grammar.EndChangesNothing.{same, apart, same_ends, run_to, begun_to, sign_kept}
use Rattle.basic_toml_grammar.proofs.Grammar.FrontsOfTexts.{front_of, parts_of, parts_same}
use Rattle.basic_toml_grammar.proofs.Grammar.StringsCarried.{Alike, string_carried}
use Rattle.basic_toml_grammar.proofs.Grammar.StringsAreRead.{string_shorter}
use Rattle.basic_toml_grammar.proofs.Completion.Fillers.{Filler, fill_text, text_gap}
use Rattle.basic_toml_grammar.proofs.Completion.Fillers as fillers
use Rattle.basic_toml_grammar.proofs.Completion.ValuesCompleted.{placed, spot, there, Leads}
use Rattle.basic_toml_grammar.proofs.Completion.TextsCompleted.{text_fed}
use Rattle.basic_toml_grammar.proofs.Completion.CompletedBytes.{bytes_of}
use Rattle.basic_toml_grammar.proofs.Completion.TokensPass.{Led, LedBy, at_start, after, by_none, by, no_comment, loose}
use Rattle.basic_toml_grammar.proofs.Completion.TokensLead.{allowed, lead_text}

-- A token that ends before `here` ends before `there`.
abbrev pub TokenEnds : Lexeme → Text → Text → Type 0
TokenEnds (whitespace _) here there = Ends is_blank here there
TokenEnds (keylike _) here there = Ends is_keylike here there
TokenEnds (comment _) here there = Ends is_comment here there
TokenEnds (string _ _ _) here there = Meets here there
TokenEnds _ here there = Unit {0}

alike_ends : {here there : Text} (l : Lexeme) → Alike here there → TokenEnds l here there
alike_ends (whitespace _) a = same_ends is_blank a.here a.there
alike_ends (keylike _) a = same_ends is_keylike a.here a.there
alike_ends (comment _) a = same_ends is_comment a.here a.there
alike_ends (string _ _ _) a = same a.here a.there
alike_ends _ a = tt

-- a token, and a text that begins with it and then goes on otherwise
record TokenKept (l : Lexeme) (text rest there : Text) : Type 0 where
  other : Text
  parts : Parts rest there text other
  token : IsToken [] other l there
  alike : Alike text other

longer : {here there text other : Text} → Parts here there text other → length here < length text → Alike text other
longer (at_end t o) h = absurd (omega (arith, h, ap length t))
longer (past {x = x} {text = text} {other = other} k) h =
    record { first = x; next = text; next' = other; here = refl; there = refl }

token_kept : {l : Lexeme} {text rest there : Text} → IsToken [] text l rest → TokenEnds l rest there
    → TokenKept l text rest there
token_kept {there = there} (token.punctuation {p = p} {c = c} {rest = rest} s e) ends =
    let r = sign_kept s (at_end refl refl) in
    record {
      other = r.other;
      parts = r.parts;
      token = token.punctuation r.holds e;
      alike = record { first = (p, c); next = rest; next' = there; here = s; there = r.holds };
    }
token_kept {there = there} (token.blanks {p = p} {c = c} {next = next} s w) ends =
    let r = begun_to is_blank s w ends in
    record {
      other = r.other;
      parts = r.parts;
      token = subst (λ (bytes : List ℕ). IsToken [] r.other (whitespace bytes) there) r.holds.1
          (subst (λ (t : Text). IsToken [] r.other (whitespace (run is_blank r.other)) t) r.holds.0
          (token.blanks r.holds.2.1 w));
      alike = record { first = (p, c); next = next; next' = r.holds.2.0; here = s; there = r.holds.2.1 };
    }
token_kept {there = there} (token.word {p = p} {c = c} {next = next} s w) ends =
    let r = begun_to is_keylike s w ends in
    record {
      other = r.other;
      parts = r.parts;
      token = subst (λ (bytes : List ℕ). IsToken [] r.other (keylike bytes) there) r.holds.1
          (subst (λ (t : Text). IsToken [] r.other (keylike (run is_keylike r.other)) t) r.holds.0
          (token.word r.holds.2.1 w));
      alike = record { first = (p, c); next = next; next' = r.holds.2.0; here = s; there = r.holds.2.1 };
    }
token_kept {there = there} (token.remark {p = p} {next = next} s) ends =
    let r = run_to is_comment next refl ends in
    let g = sign_kept s r.parts in
    record {
      other = g.other;
      parts = g.parts;
      token = subst (λ (bytes : List ℕ). IsToken [] g.other (comment (encode_utf8_all (35 ∷ bytes))) there) r.holds.1
          (subst (λ (t : Text). IsToken [] g.other (comment (encode_utf8_all (35 ∷ run is_comment r.other))) t) r.holds.0
          (token.remark g.holds));
      alike = record { first = (p, 35); next = next; next' = r.other; here = s; there = g.holds };
    }
token_kept (token.quoted s) ends =
    let r = string_carried s (record { parts = at_end refl refl; meets = ends }) in
    record {
      other = r.other;
      parts = r.cut.parts;
      token = token.quoted r.holds;
      alike = longer r.cut.parts (string_shorter s);
    }

itself : (here : Text) (l : Lexeme) → TokenEnds l here here
itself here (whitespace _) = λ s. s
itself here (keylike _) = λ s. s
itself here (comment _) = λ s. s
itself [] (string _ _ _) = apart refl
itself (x ∷ here) (string _ _ _) = same refl refl
itself here _ = tt

-- what goes on otherwise from where tokens lead
led_parts : {start : Text} {end : ℕ} {text : Text} (there : Text) → Led start end text → (other : Text) × Parts text there start other
led_parts there at_start = (there, at_end refl refl)
led_parts there (after {l = l} {rest = rest} r t q) =
    let k = token_kept t (itself rest l) in
    let f = front_of k.parts in
    let (o, p) = led_parts (f.chars ++ there) r in
    (o, beyond p (parts_of f.chars f.text_is))

-- what fills a hole
abbrev pub usual : Hole → Option ℕ
usual Hole.key = Some 107
usual Hole.value = Some 123
usual Hole.after_keys = Some 61
usual Hole.after_header_keys = Some 93
usual Hole.second_bracket = Some 93
usual Hole.after_element = Some 93
usual Hole.after_field = Some 125
usual Hole.after_line = None

pub usual_filler : (h : Hole) → Filler h (usual h)
usual_filler Hole.key = fillers.key refl
usual_filler Hole.value = fillers.empty_table
usual_filler Hole.after_keys = fillers.equals
usual_filler Hole.after_header_keys = fillers.header_end
usual_filler Hole.second_bracket = fillers.second_end
usual_filler Hole.after_element = fillers.array_end
usual_filler Hole.after_field = fillers.table_end
usual_filler Hole.after_line = fillers.line_end

-- a sign that joins no token but a comment
sign_ends : (l : Lexeme) (o c : ℕ) (at : Text) (cs : List ℕ) → is_blank c ≡ false → is_keylike c ≡ false
    → joins c ≡ false → Leads (Some c) cs → no_comment l ≡ true → TokenEnds l at (placed o cs)
sign_ends (whitespace _) o c at cs b k j e ok = λ s. ap (λ (cs : List ℕ). stops is_blank (placed o cs)) e.1 ∙ ap not b
sign_ends (keylike _) o c at cs b k j e ok = λ s. ap (λ (cs : List ℕ). stops is_keylike (placed o cs)) e.1 ∙ ap not k
sign_ends (comment _) o c at cs b k j e ok = absurd (false≢true ok)
sign_ends (string _ _ _) o c at cs b k j e ok = apart (ap (λ (cs : List ℕ). stops joins (placed o cs)) e.1 ∙ ap not j)
sign_ends _ o c at cs b k j e ok = tt

key_ends : (l : Lexeme) (o : ℕ) (at : Text) (cs : List ℕ) → Leads (Some 107) cs → loose l ≡ true
    → TokenEnds l at (placed o cs)
key_ends (whitespace _) o at cs e ok = λ s. ap (λ (cs : List ℕ). stops is_blank (placed o cs)) e.1
key_ends (keylike _) o at cs e ok = absurd (false≢true ok)
key_ends (comment _) o at cs e ok = absurd (false≢true ok)
key_ends (string _ _ _) o at cs e ok = absurd (false≢true ok)
key_ends _ o at cs e ok = tt

-- a line feed joins none, nor does the end
feed_ends : (l : Lexeme) (o : ℕ) (at rest : Text) → TokenEnds l at ((o, 10) ∷ rest)
feed_ends (whitespace _) o at rest = λ s. refl
feed_ends (keylike _) o at rest = λ s. refl
feed_ends (comment _) o at rest = λ s. refl
feed_ends (string _ _ _) o at rest = apart refl
feed_ends _ o at rest = tt

end_ends : (l : Lexeme) (o : ℕ) (at : Text) (cs : List ℕ) → cs ≡ [] → TokenEnds l at (placed o cs)
end_ends (whitespace _) o at cs e = λ s. ap (λ (cs : List ℕ). stops is_blank (placed o cs)) e
end_ends (keylike _) o at cs e = λ s. ap (λ (cs : List ℕ). stops is_keylike (placed o cs)) e
end_ends (comment _) o at cs e = λ s. ap (λ (cs : List ℕ). stops is_comment (placed o cs)) e
end_ends (string _ _ _) o at cs e = apart (ap (λ (cs : List ℕ). stops joins (placed o cs)) e)
end_ends _ o at cs e = tt

last_ends : (h : Hole) (gap : Bool) (l : Lexeme) (o : ℕ) (at : Text) (cs : List ℕ) → Leads (usual h) cs
    → allowed h gap l ≡ true → TokenEnds l at (there o gap cs)
last_ends h true l o at cs e ok = feed_ends l o at (placed (suc (suc o)) cs)
last_ends Hole.key false l o at cs e ok = key_ends l o at cs e ok
last_ends Hole.value false l o at cs e ok = sign_ends l o 123 at cs refl refl refl e ok
last_ends Hole.after_keys false l o at cs e ok = sign_ends l o 61 at cs refl refl refl e ok
last_ends Hole.after_header_keys false l o at cs e ok = sign_ends l o 93 at cs refl refl refl e ok
last_ends Hole.second_bracket false l o at cs e ok = sign_ends l o 93 at cs refl refl refl e ok
last_ends Hole.after_element false l o at cs e ok = sign_ends l o 93 at cs refl refl refl e ok
last_ends Hole.after_field false l o at cs e ok = sign_ends l o 125 at cs refl refl refl e ok
last_ends Hole.after_line false l o at cs e ok = end_ends l o at cs e

-- before a text of the grammar goes on otherwise
module _ (start : Text) (end : ℕ) (bytes : List ℕ) (utf8 : IsUtf8 bytes) (sections : List Section)
    (grammar : IsSectionList (folded bytes) sections) where
  -- a token moved to it
  record Moved (text rest : Text) : Type 0 where
    other : Text
    parts : Parts text other start (folded bytes)
    alike : Alike text other
    goes : GoesOn start text (SameToken text rest)

  moved : {l : Lexeme} {text rest there : Text} → Led start end text → IsToken [] text l rest → TokenEnds l rest there
      → Parts rest there start (folded bytes) → Moved text rest
  moved {l = l} {text = text} {there = there} r t ends k =
      let c = token_kept t ends in
      let (o, p) = led_parts c.other r in
      let whole : o ≡ folded bytes = parts_same (beyond p c.parts) k in
      let all = subst (λ (o : Text). Parts text c.other start o) whole p in
      let f = front_of all in
      let g = front_of c.parts in
      record {
        other = c.other;
        parts = all;
        alike = c.alike;
        goes = record {
          front = f.chars;
          before = f.text_is;
          bytes = bytes;
          utf8 = utf8;
          sections = sections;
          grammar = grammar;
          rest = c.other;
          same = f.other_is;
          next = record {
            source = [];
            lexeme = l;
            chars = g.chars;
            more = there;
            here = t;
            there = c.token;
            split = g.text_is;
            other_split = g.other_is;
          };
        };
      }

  walk : {text there : Text} → Led start end text → Alike text there → Parts text there start (folded bytes)
      → Viable start end text
  walk at_start a k = Viable.at_start
  walk (after {l = l} r t q) a k =
      let m = moved r t (alike_ends l a) k in
      Viable.after (walk r m.alike m.parts) (record { follows = m.goes; number = q })

  pub walk_by : {kind : Lexeme → Bool} {text there : Text} → LedBy start end kind text
      → ((l : Lexeme) → kind l ≡ true → TokenEnds l text there) → Parts text there start (folded bytes)
      → Viable start end text
  walk_by by_none ends k = Viable.at_start
  walk_by (by {l = l} r t q ok) ends k =
      let m = moved r t (ends l ok) k in
      Viable.after (walk r m.alike m.parts) (record { follows = m.goes; number = q })

-- What stands before a hole is viable.
pub hole_is_viable : (bytes : List ℕ) → IsUtf8 bytes → (end : ℕ) {h : Hole} {at : Text}
    → HoleInText (folded bytes) h at → Viable (folded bytes) end at
hole_is_viable bytes utf8 end {h = h} {at = at} d =
    let o = offset_in (length bytes) at in
    let gap = text_gap d in
    let x = usual_filler h in
    let g = text_fed o d x in
    let b = bytes_of gap g.total g.visible bytes utf8 g.parts in
    walk_by (folded bytes) end b.bytes b.utf8 (fill_text (spot o gap) d x)
    (subst (λ (t : Text). IsSectionList t (fill_text (spot o gap) d x)) (sym b.same) g.holds) (lead_text end d)
    (λ l ok. last_ends h gap l o at g.total g.leads ok)
    (subst (λ (t : Text). Parts at (there o gap g.total) (folded bytes) t) (sym b.same) g.parts)
