-- No number at fault begins on the way to a hole where a value may stand: a value has no such fault, and where a key
-- stands, or within a word, no value may.
use Rattle.std.proofs.Common.{◌≡◌, ◌⊎◌, inl, inr, ℕ, ◌==◌, ◌||◌, Bool, true, false, cond, List, [], ◌∷◌, Some, None}
use Rattle.std.proofs.Common.{refl, ap, sym, ◌∙◌, subst, eqb-true}
use Rattle.std.specs.Prelude.{not}
use Rattle.std.proofs.lemmas.Bool.{or_left, or_right, or_cases, or_parts}
use Rattle.basic_toml_tokens.specs.Text.{Text, StartsWith, folded, run, after_run, is_blank, is_keylike, is_comment}
use Rattle.basic_toml_tokens.specs.Strings.{is_quote, IsString}
use Rattle.basic_toml_grammar.specs.Sections.{Key, Raw}
use Rattle.basic_toml_grammar.specs.Grammar.{IsKey, bare, quoted, is_wordlike, word_value, IsValue, word, string, array}
use Rattle.basic_toml_grammar.specs.Grammar.{inline}
use Rattle.basic_toml_grammar.specs.Holes.{Hole, HoleInText}
use Rattle.basic_toml_grammar.specs.NumberFaults.{number_fault, plus_fault, word_fault, begins_number}
use Rattle.basic_toml_grammar.specs.Viable.{GoesOn, Begins, NumberFails}
use Rattle.basic_toml_grammar.proofs.Grammar.EndChangesNothing.{Parts, at_end, past, beyond, stops, in_gap, after_stopped}
use Rattle.basic_toml_grammar.proofs.Grammar.FrontsOfTexts.{parts_of, parts_same}
use Rattle.basic_toml_grammar.proofs.Grammar.StringsCarried.{Alike}
use Rattle.basic_toml_grammar.proofs.Grammar.GrammarCarried.{element_seen}
use Rattle.basic_toml_grammar.proofs.Grammar.GrammarIsUnambiguous.{string_heads, heads_not, word_sign, word_quote}
use Rattle.basic_toml_grammar.proofs.Viable.HolesHold.{HasValue}
use Rattle.basic_toml_grammar.proofs.Viable.TextsHold.{FitsOrEnds, not_at_end, text_holds}
use Rattle.basic_toml_grammar.proofs.Viable.TextsCarried.{TextCarried, text_hole}
use Rattle.basic_toml_grammar.proofs.Viable.TokensAtHoles.{no_fit}
use Rattle.basic_toml_grammar.proofs.Viable.SignsAtHoles.{sign_misfits}
use Rattle.basic_toml_grammar.proofs.Viable.ValuesFollowed.{value_followed}
use Rattle.basic_toml_grammar.proofs.Viable.ValuesHaveNoFault.{value_no_fault}

-- no number at fault begins there, where a value may stand
abbrev pub Sound : Text → ℕ → Text → Type 0
Sound start end text = (offset : ℕ) → NumberFails start end text offset → ⊥

pub no_number : {start text : Text} {end : ℕ} → number_fault end text ≡ None → Sound start end text
no_number e o n = let no : None ≡ Some o = sym e ∙ n.fault in cc

-- a character that no number begins with
abbrev pub may_number : ℕ → Bool
may_number c = c == 43 || is_keylike c

plain_none : (end p c : ℕ) (next : Text) → may_number c ≡ false → number_fault end ((p, c) ∷ next) ≡ None
plain_none end p c next e =
    let both = or_parts (c == 43) (is_keylike c) e in
    ap (λ (b : Bool). cond b (plus_fault end (run is_keylike next) next)
    (cond (begins_number (run is_keylike ((p, c) ∷ next)))
    (word_fault end p (run is_keylike ((p, c) ∷ next)) (after_run is_keylike ((p, c) ∷ next))) None)) both.0
    ∙ ap (λ (b : Bool). cond (begins_number (cond b (c ∷ run is_keylike next) []))
    (word_fault end p (cond b (c ∷ run is_keylike next) []) (after_run is_keylike ((p, c) ∷ next))) None) both.1

pub plain_sound : {start text next : Text} {c p : ℕ} (end : ℕ) → StartsWith c text p next → may_number c ≡ false
    → Sound start end text
plain_sound {next = next} {c = c} {p = p} end s e =
    no_number (subst (λ (t : Text). number_fault end t ≡ None) (sym s) (plain_none end p c next e))

pub blank_plain : (c : ℕ) → is_blank c ≡ true → may_number c ≡ false
blank_plain c e = go (or_cases (c == 32) (c == 9) e)
  where
    go : ((c == 32) ≡ true) ⊎ ((c == 9) ≡ true) → may_number c ≡ false
    go (inl h) = ap may_number (eqb-true c 32 h)
    go (inr h) = ap may_number (eqb-true c 9 h)

quote_plain : (c : ℕ) → is_quote c ≡ true → may_number c ≡ false
quote_plain c e = go (or_cases (c == 34) (c == 39) e)
  where
    go : ((c == 34) ≡ true) ⊎ ((c == 39) ≡ true) → may_number c ≡ false
    go (inl h) = ap may_number (eqb-true c 34 h)
    go (inr h) = ap may_number (eqb-true c 39 h)

pub string_sound : {start text rest : Text} {p : ℕ} {m : Bool} {value : List ℕ} (end : ℕ) → IsString text p m value rest
    → Sound start end text
string_sound end s = let h = string_heads s in plain_sound end h.sign (quote_plain h.char h.kind)

-- no value may stand where a key stands
pub key_sound : {start text rest : Text} {k : Key} (end : ℕ) → HoleInText start Hole.key text → IsKey text k rest
    → Sound start end text
key_sound end d (quoted s) = string_sound end s
key_sound {text = text} end d (bare {c = c} s w) = λ o n. sign_misfits d
    (record { apart = refl; no_gap = refl; value = λ e. refl; key = λ e. refl; header = λ e. refl })
    (record { gap = λ e. ap (stops (in_gap is_comment)) s ∙ ap not (or_right (c == 10) _ seen); line = λ e. cc }) refl n.value
  where
    seen : is_comment c ≡ true
    seen = element_seen c (or_left _ _ (or_left _ _ (or_left _ _ (or_left _ _ w))))

-- what is left of a word, after some of it
pub data InWord : Text → Text → Type 0 where
  whole : {text : Text} → InWord text text
  behind : {x : ℕ × ℕ} {text left : Text} → is_wordlike x.1 ≡ true → InWord text left → InWord (x ∷ text) left

pub within : {text left : Text} {x : ℕ × ℕ} → InWord text (x ∷ left) → is_wordlike x.1 ≡ true → InWord text left
within whole w = behind w whole
within (behind v q) w = behind v (within q w)

-- the word goes on otherwise
pub record Cut (text left rest : Text) : Type 0 where
  pub other : Text
  pub parts : Parts left rest text other
  pub ends : after_run is_wordlike other ≡ rest

pub cut : {text left rest : Text} → InWord text left → stops is_wordlike rest ≡ true → Cut text left rest
cut {rest = rest} whole s =
    record { other = rest; parts = at_end refl refl; ends = (after_stopped is_wordlike rest s).0 }
cut (behind {x = x} w q) s =
    let r = cut q s in
    record {
      other = x ∷ r.other;
      parts = past r.parts;
      ends = ap (λ (b : Bool). cond b (after_run is_wordlike r.other) (x ∷ r.other)) w ∙ r.ends;
    }

-- a value that begins so is a word
pub word_read : {x : ℕ × ℕ} {text rest : Text} {q : ℕ} {v : Raw} → is_wordlike x.1 ≡ true
    → IsValue is_comment (x ∷ text) q v rest
    → (word_value (run is_wordlike (x ∷ text)) ≡ Some v) × (rest ≡ after_run is_wordlike (x ∷ text))
word_read w (word s y e) = (e, refl)
word_read {x = x} w (string s) =
    let h = string_heads s in
    absurd (heads_not {c = x.1} {p = x.0} h refl (quote (is_quote x.1) refl))
  where
    quote : (b : Bool) → is_quote x.1 ≡ b → is_quote x.1 ≡ false
    quote false e = e
    quote true e = absurd (word_quote x.1 w e)
word_read {x = x} w (array s es) = absurd (word_sign is_wordlike {c = x.1} {p = x.0} refl w s refl)
word_read {x = x} w (inline s rs) = absurd (word_sign is_wordlike {c = x.1} {p = x.0} refl w s refl)

-- no value may stand within a word
pub no_value_within : {start text left : Text} {x : ℕ × ℕ} → HoleInText start Hole.value (x ∷ text)
    → is_wordlike x.1 ≡ true → InWord text left → GoesOn start left (Begins 123) → ⊥
no_value_within {start = start} {text = text} {left = left} {x = x} d w q g = go (text_holds there g.grammar)
  where
    n : Begins 123 g.rest
    n = g.next

    k : Cut text left g.rest
    k = cut q (ap (stops is_wordlike) n.starts)

    alike : Alike (x ∷ text) (x ∷ k.other)
    alike = record { first = x; next = text; next' = k.other; here = refl; there = refl }

    carried : TextCarried (x ∷ text) (x ∷ k.other) start (λ t. HoleInText t Hole.value (x ∷ k.other))
    carried = text_hole alike d

    same : carried.other ≡ folded g.bytes
    same = parts_same (beyond carried.parts (past k.parts))
        (subst (λ (t : Text). Parts left g.rest start t) (sym g.same) (parts_of g.front g.before))

    there : HoleInText (folded g.bytes) Hole.value (x ∷ k.other)
    there = subst (λ (t : Text). HoleInText t Hole.value (x ∷ k.other)) same carried.holds

    then : HasValue (x ∷ k.other) → ⊥
    then v =
        let rest : v.rest ≡ (n.offset, 123) ∷ n.rest = (word_read w v.is).1
        ∙ ap (λ (b : Bool). cond b (after_run is_wordlike k.other) (x ∷ k.other)) w ∙ k.ends ∙ n.starts in
        let f = value_followed n.offset n.rest there
        (subst (λ (t : Text). IsValue is_comment (x ∷ k.other) v.offset v.value t) rest v.is) in
        no_fit (not_at_end (text_holds f.is g.grammar) refl) refl f.misfit

    go : FitsOrEnds Hole.value (x ∷ k.other) → ⊥
    go (FitsOrEnds.fit f) = then (f.value refl)

-- the tokens of a word
pub word_sound : {start text left next : Text} {c p : ℕ} {v : Raw} (end : ℕ) → HoleInText start Hole.value text
    → StartsWith c text p next → is_wordlike c ≡ true → word_value (run is_wordlike text) ≡ Some v → InWord text left
    → Sound start end left
word_sound end d s w e whole = no_number (value_no_fault end (word s w e))
word_sound end d s w e (behind y q) = λ o n. no_value_within d y q n.value
