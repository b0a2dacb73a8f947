-- A period or a plus directly behind a whole value: what is wanted there is what has to come behind the value.
use Rattle.std.proofs.Common.{inl, inr, ◌≡◌, ℕ, ◌<◌, Bool, true, false, cond, List, [], ◌∷◌, ◌++◌, length, refl, ap, sym, ◌∙◌, subst}
use Rattle.std.proofs.Common.{arith, Option, Some, None, codes}
use Rattle.std.specs.Prelude.{IsUtf8}
use Rattle.std.specs.Str.{bytes_eq}
use Rattle.std.proofs.lemmas.Bool.{or_cases}
use Rattle.std.proofs.lemmas.Slice.Eq.{bytes_eq-Decides}
use Rattle.basic_toml_tokens.specs.Text.{Text, folded, offset_in, run, after_run, is_keylike, is_comment}
use Rattle.basic_toml_tokens.specs.TokenAt as token
use Rattle.basic_toml_tokens.specs.TokenAt.{Lexeme, keylike}
use Rattle.basic_toml_grammar.specs.Sections.{Raw}
use Rattle.basic_toml_grammar.specs.Grammar as grammar
use Rattle.basic_toml_grammar.specs.Grammar.{is_wordlike, word_value, IsValue}
use Rattle.basic_toml_grammar.specs.GrammarFaults as faults
use Rattle.basic_toml_grammar.specs.GrammarFaults.{Stands, fault_at}
use Rattle.basic_toml_grammar.specs.Holes.{Hole, HoleInText, behind_in_text}
use Rattle.basic_toml_grammar.specs.NumberFaults.{number_fault}
use Rattle.basic_toml_grammar.specs.NumberTokens.{number_rest, IsWhole, boolean, number, signed}
use Rattle.basic_toml_grammar.specs.Viable as viable
use Rattle.basic_toml_grammar.specs.Viable.{GoesOn, HasSign, SameToken, MayStand, Viable, Want, wants, mismatch_kind}
use Rattle.basic_toml_grammar.specs.Viable.{IsWanted, IsDue}
use Rattle.basic_toml_grammar.proofs.Grammar.EndChangesNothing.{Parts, at_end, past, beyond, stops}
use Rattle.basic_toml_grammar.proofs.Grammar.FrontsOfTexts.{front_of, parts_of, parts_same}
use Rattle.basic_toml_grammar.proofs.Grammar.StringsCarried.{Alike}
use Rattle.basic_toml_grammar.proofs.Completion.CompletedBytes.{BytesOf, bytes_of}
use Rattle.basic_toml_grammar.proofs.Completion.Fillers as fillers
use Rattle.basic_toml_grammar.proofs.Completion.Fillers.{Filler}
use Rattle.basic_toml_grammar.proofs.Completion.SignsFollow.{sign_follows}
use Rattle.basic_toml_grammar.proofs.Completion.TokensFollow.{TokenEnds, walk_by}
use Rattle.basic_toml_grammar.proofs.Completion.TokensLead.{lead_text}
use Rattle.basic_toml_grammar.proofs.Completion.TokensPass.{LedBy, led, SoundWord}
use Rattle.basic_toml_grammar.proofs.Viable.HolesAreDue.{Outside, element_end_is_wanted, field_end_is_wanted}
use Rattle.basic_toml_grammar.proofs.Viable.HolesAreDue.{line_end_is_wanted}
use Rattle.basic_toml_grammar.proofs.Viable.HolesHold.{HasValue}
use Rattle.basic_toml_grammar.proofs.Viable.NumberRests.{Through, is_word, led_through, within_through, through_shorter}
use Rattle.basic_toml_grammar.proofs.Viable.NumberRests.{number_through, number_kept}
use Rattle.basic_toml_grammar.proofs.Viable.NumbersEnd.{number_ends}
use Rattle.basic_toml_grammar.proofs.Viable.NumbersOnTheWay.{no_number, InWord, whole, behind, Cut, cut, word_read}
use Rattle.basic_toml_grammar.proofs.Viable.NumbersOnTheWay.{no_value_within}
use Rattle.basic_toml_grammar.proofs.Viable.TextsCarried.{TextCarried, TextTo, text_hole, text_behind}
use Rattle.basic_toml_grammar.proofs.Viable.TextsHold.{FitsOrEnds, text_holds}
use Rattle.basic_toml_grammar.proofs.Viable.TokensAtHoles.{token_alike}
use Rattle.basic_toml_grammar.proofs.Viable.ValuesFollowed.{value_followed}

-- what is wanted behind a value, and the sign that stands for it
pub data WantedBehind : Hole → Want → Option ℕ → Type 0 where
  element : WantedBehind Hole.after_element Want.right_bracket (Some 93)
  field : WantedBehind Hole.after_field Want.comma (Some 44)
  line : WantedBehind Hole.after_line Want.newline None

filler_of : {h : Hole} {want : Want} {s : Option ℕ} → WantedBehind h want s → Filler h s
filler_of element = fillers.array_end
filler_of field = fillers.another
filler_of line = fillers.line_end

-- the sign joins no word
apart : {h : Hole} {want : Want} {s : Option ℕ} (text : Text) → WantedBehind h want s → HasSign s text
    → stops is_keylike text ≡ true
apart text element b = ap (stops is_keylike) b.starts
apart text field b = ap (stops is_keylike) b.starts
apart text line e = ap (stops is_keylike) e

wanted_there : {h : Hole} {want : Want} {s : Option ℕ} {p : ℕ} (bytes : List ℕ) (utf8 : IsUtf8 bytes)
    → WantedBehind h want s → HoleInText (folded bytes) h ((p, 123) ∷ [])
    → IsWanted (folded bytes) (length bytes) ((p, 123) ∷ []) wants want
wanted_there bytes utf8 element d =
    element_end_is_wanted bytes utf8 (faults.token {source = []} (token.punctuation refl refl)) d refl
wanted_there bytes utf8 field d =
    field_end_is_wanted bytes utf8 (faults.token {source = []} (token.punctuation refl refl)) d refl
wanted_there bytes utf8 line d =
    line_end_is_wanted bytes utf8 (faults.token {source = []} (token.punctuation refl refl)) d refl

-- texts with the same characters before an offset go on alike
record SameFront (start at other there : Text) : Type 0 where
  chars : Text
  here_is : start ≡ chars ++ at
  there_is : other ≡ chars ++ there

turned : {start at other there : Text} → SameFront start at other there → SameFront other there start at
turned f = record { chars = f.chars; here_is = f.there_is; there_is = f.here_is }

goes_too : {start at other there : Text} {Next : Text → Type 0} → SameFront start at other there
    → GoesOn start at Next → GoesOn other there Next
goes_too f g = record {
  front = f.chars;
  before = f.there_is;
  bytes = g.bytes;
  utf8 = g.utf8;
  sections = g.sections;
  grammar = g.grammar;
  rest = g.rest;
  same = g.same ∙ parts_same (parts_of g.front g.before) (parts_of f.chars f.here_is);
  next = g.next;
}

wanted_too : {start other at there : Text} {end far : ℕ} {x y : ℕ × ℕ} {ws : List (Option ℕ × Want)} {want : Want}
    → SameFront start (x ∷ at) other (y ∷ there) → IsWanted start end (x ∷ at) ws want
    → IsWanted other far (y ∷ there) ws want
wanted_too f (viable.this g) = viable.this (goes_too f g)
wanted_too f (viable.later n r) = viable.later (λ g. n (goes_too (turned f) g)) (wanted_too f r)
wanted_too f viable.otherwise = viable.otherwise

-- no number is at fault there
whole_no_fault : {end : ℕ} {text : Text} → IsWhole end text → number_fault end text ≡ None
whole_no_fault {end = end} (boolean {x = x} {text = t} e) =
    elim (or_cases (bytes_eq (run is_keylike (x ∷ t)) (codes "true")) (bytes_eq (run is_keylike (x ∷ t)) (codes "false")) e) [
      | inl h ↦ subst (λ (c : ℕ). number_fault end ((x.0, c) ∷ t) ≡ None)
          (sym (first 116 (codes "rue") ((bytes_eq-Decides (run is_keylike (x ∷ t)) (codes "true")).0 h))) refl
      | inr h ↦ subst (λ (c : ℕ). number_fault end ((x.0, c) ∷ t) ≡ None)
          (sym (first 102 (codes "alse") ((bytes_eq-Decides (run is_keylike (x ∷ t)) (codes "false")).0 h))) refl
    ]
  where
    first : (c : ℕ) (cs : List ℕ) → run is_keylike (x ∷ t) ≡ c ∷ cs → x.1 ≡ c
    first c cs e = by (is_keylike x.1) e
      where
        by : (b : Bool) → cond b (x.1 ∷ run is_keylike t) [] ≡ c ∷ cs → x.1 ≡ c
        by true e = cc
        by false e = cc
whole_no_fault (number b none) = none
whole_no_fault (signed none) = none

-- what is left of a word goes on otherwise
abbrev pub spliced : {text left : Text} → InWord text left → (rest : Text) → (other : Text) × Parts left rest text other
spliced whole rest = (rest, at_end refl refl)
spliced (behind {x = x} w q) rest = let r = spliced q rest in (x ∷ r.0, past r.1)

pub inner : {x : ℕ × ℕ} {text left : Text} → InWord (x ∷ text) left → length left < length (x ∷ text) → InWord text left
inner whole l = absurd (omega (arith, l))
inner (behind w q) l = q

module _ (bytes : List ℕ) (utf8 : IsUtf8 bytes) (outside : Outside (folded bytes)) {x y : ℕ × ℕ} {text s : Text}
    (d : HoleInText (folded bytes) Hole.value (x ∷ text)) (w : is_wordlike x.1 ≡ true)
    (sound_value : IsWhole (length bytes) (x ∷ text)) (ends : number_rest (x ∷ text) ≡ y ∷ s)
    (joint : is_wordlike y.1 ≡ true) (no_key : is_keylike y.1 ≡ false) where
  abbrev start : Text
  start = folded bytes

  abbrev end : ℕ
  end = length bytes

  through : Through (x ∷ text) (y ∷ s)
  through = subst (Through (x ∷ text)) ends (number_through sound_value)

  in_text : InWord text (y ∷ s)
  in_text = inner (within_through whole through) (through_shorter through)

  sound : SoundWord start end (x ∷ text)
  sound left whole = no_number (whole_no_fault sound_value)
  sound left (behind v q) = λ o n. no_value_within d v q n.value

  leads : LedBy start end is_word (y ∷ s)
  leads = led_through (led (lead_text end d)) whole sound through

  abbrev brace : Text
  brace = (offset_in end (y ∷ s), 123) ∷ []

  -- the same text, with a left brace behind the value
  module _ (written : (other : Text) → Parts (y ∷ s) brace text other
      → (v : Raw) × (word_value (run is_wordlike (x ∷ other)) ≡ Some v)) where
    k : Cut text (y ∷ s) brace
    k = cut in_text refl

    carried : TextCarried (x ∷ text) (x ∷ k.other) start (λ t. TextTo Hole.value t (x ∷ k.other) (behind_in_text d))
    carried = text_behind (record { first = x; next = text; next' = k.other; here = refl; there = refl }) d

    parts : Parts (y ∷ s) brace start carried.other
    parts = beyond carried.parts (past k.parts)

    other_bytes : BytesOf carried.other
    other_bytes = bytes_of false (123 ∷ []) (omega arith, omega arith, tt) bytes utf8 parts

    front : SameFront start (y ∷ s) (folded other_bytes.bytes) brace
    front = let f = front_of parts in
        record { chars = f.chars; here_is = f.text_is; there_is = other_bytes.same ∙ f.other_is }

    value : (v : Raw) × (word_value (run is_wordlike (x ∷ k.other)) ≡ Some v)
    value = written k.other k.parts

    rest_is : after_run is_wordlike (x ∷ k.other) ≡ brace
    rest_is = ap (λ (b : Bool). cond b (after_run is_wordlike k.other) (x ∷ k.other)) w ∙ k.ends

    hole : HoleInText (folded other_bytes.bytes) (behind_in_text d) brace
    hole =
        let d' = subst (λ (t : Text). TextTo Hole.value t (x ∷ k.other) (behind_in_text d)) (sym other_bytes.same)
        carried.holds in
        let is = subst (λ (t : Text). IsValue is_comment (x ∷ k.other)
        (grammar.word_offset value.0 x.0 (x ∷ k.other)) value.0 t) rest_is
        (grammar.word {p = x.0} {c = x.1} refl w value.1) in
        subst (λ (h : Hole). HoleInText (folded other_bytes.bytes) h brace) d'.1 (value_followed (offset_in end (y ∷ s)) [] d'.0 is).is

    -- no token may stand there
    stuck : (rest : Text) → MayStand start end (y ∷ s) rest → ⊥
    stuck rest m = go (text_holds there g.grammar)
      where
        g : GoesOn start (y ∷ s) (SameToken (y ∷ s) rest)
        g = m.follows

        a : Alike (y ∷ s) g.rest
        a = token_alike g.next

        next_is : g.rest ≡ y ∷ a.next'
        next_is = let h : y ∷ s ≡ a.first ∷ a.next = a.here in let first : y ≡ a.first = cc in
            a.there ∙ ap (λ (z : ℕ × ℕ). z ∷ a.next') (sym first)

        splice : (other : Text) × Parts (y ∷ s) g.rest text other
        splice = spliced in_text g.rest

        moved : TextCarried (x ∷ text) (x ∷ splice.0) start (λ t. HoleInText t Hole.value (x ∷ splice.0))
        moved = text_hole (record { first = x; next = text; next' = splice.0; here = refl; there = refl }) d

        same : moved.other ≡ folded g.bytes
        same = parts_same (beyond moved.parts (past splice.1))
            (subst (λ (t : Text). Parts (y ∷ s) g.rest start t) (sym g.same) (parts_of g.front g.before))

        there : HoleInText (folded g.bytes) Hole.value (x ∷ splice.0)
        there = subst (λ (t : Text). HoleInText t Hole.value (x ∷ splice.0)) same moved.holds

        then : HasValue (x ∷ splice.0) → ⊥
        then v =
            let over = number_ends x splice.0 w (word_read w v.is).0 in
            let stop = number_kept y s a.next' no_key x
            (subst (λ (t : Text). Parts (y ∷ s) t text splice.0) next_is splice.1) ends in
            let no : y.1 ∷ run is_wordlike a.next' ≡ [] =
            sym (ap (λ (b : Bool). cond b (y.1 ∷ run is_wordlike a.next') []) joint)
            ∙ sym (ap (run is_wordlike) stop) ∙ over in cc

        go : FitsOrEnds Hole.value (x ∷ splice.0) → ⊥
        go (FitsOrEnds.fit f) = then (f.value refl)

    pub joint_is_due : {want : Want} {sign : Option ℕ} {found : Option Lexeme} {word : List ℕ}
        → WantedBehind (behind_in_text d) want sign → Stands (y ∷ s) found word
        → IsDue start end (fault_at (mismatch_kind want found word) (offset_in end (y ∷ s)))
    joint_is_due {want = want} {sign = sign} b stands = record {
      outside = outside;
      at = y ∷ s;
      stops = record { viable = reached; stuck = stuck };
      due = viable.mismatch (λ o n. no_value_within d w in_text n.value) stands
          (wanted_too (turned front) (wanted_there other_bytes.bytes other_bytes.utf8 b hole));
    }
      where
        g : GoesOn start (y ∷ s) (HasSign sign)
        g = goes_too (turned front)
            (sign_follows other_bytes.bytes other_bytes.utf8 hole (filler_of b) (λ e. refl))

        last_ends : (l : Lexeme) → is_word l ≡ true → TokenEnds l (y ∷ s) g.rest
        last_ends (keylike v) e = λ z. apart g.rest b g.next
        last_ends _ e = cc

        reached : Viable start end (y ∷ s)
        reached = walk_by start end g.bytes g.utf8 g.sections g.grammar leads last_ends
            (subst (λ (t : Text). Parts (y ∷ s) g.rest start t) (sym g.same) (parts_of g.front g.before))
