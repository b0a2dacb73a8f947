-- A token may stand at a hole only where its first character fits.
use Rattle.std.proofs.Common.{◌≡◌, ℕ, ◌≤◌, ◌++◌, Bool, true, false, cond, drop, List, [], ◌∷◌, length, ap, sym, ◌∙◌, subst, arith}
use Rattle.basic_toml_tokens.specs.Text.{Text, StartsWith, folded, after_run, is_blank, is_keylike, is_comment}
use Rattle.basic_toml_tokens.specs.Strings.{Quotes, Opens, one_line, multiline}
use Rattle.basic_toml_tokens.specs.TokenAt as token
use Rattle.basic_toml_tokens.specs.TokenAt.{Lexeme, IsToken}
use Rattle.basic_toml_grammar.specs.Holes.{Hole, HoleInText, fits, Fits}
use Rattle.basic_toml_grammar.specs.Viable.{GoesOn, SameToken, MayStand}
use Rattle.basic_toml_grammar.proofs.Grammar.EndChangesNothing.{Parts}
use Rattle.basic_toml_grammar.proofs.Grammar.FrontsOfTexts.{parts_of, parts_same}
use Rattle.basic_toml_grammar.proofs.Grammar.StringsCarried.{Alike}
use Rattle.basic_toml_grammar.proofs.Grammar.GrammarIsUnambiguous.{heads_not}
use Rattle.basic_toml_grammar.proofs.Grammar.RestsAreEnds.{IsEnd, all, further, ends_on, run_ends, drop_ends, feed_ends}
use Rattle.basic_toml_grammar.proofs.Grammar.RestsAreEnds.{pieces_end, closer_ends}
use Rattle.basic_toml_grammar.proofs.Viable.TextsCarried.{TextCarried, text_hole}
use Rattle.basic_toml_grammar.proofs.Viable.TextsHold.{FitsOrEnds, not_at_end, text_holds}

end_shorter : {text rest : Text} → IsEnd text rest → length rest ≤ length text
end_shorter all = omega arith
end_shorter (further e) = let h = end_shorter e in omega (arith, h)

-- a token has a first character
record Past (text rest : Text) : Type 0 where
  first : ℕ × ℕ
  next : Text
  is : text ≡ first ∷ next
  end : IsEnd next rest

-- the longest run, of which the first character is one
run_past : {c p : ℕ} {text next : Text} (f : ℕ → Bool) → StartsWith c text p next → f c ≡ true
    → Past text (after_run f text)
run_past {c = c} {p = p} {next = next} f s w = record {
  first = (p, c);
  next = next;
  is = s;
  end = subst (λ (t : Text). IsEnd next t)
      (sym (ap (after_run f) s ∙ ap (λ b. cond b (after_run f next) ((p, c) ∷ next)) w)) (run_ends f next);
}

token_past : {source : List ℕ} {text rest : Text} {l : Lexeme} → IsToken source text l rest → Past text rest
token_past (token.punctuation s e) = record { first = _; next = _; is = s; end = all }
token_past (token.blanks s w) = run_past is_blank s w
token_past (token.word s w) = run_past is_keylike s w
token_past (token.remark {next = next} s) =
    record { first = _; next = next; is = s; end = run_ends is_comment next }
token_past (token.quoted s) = string_past s.opens (ends_on (pieces_end s.pieces) (closer_ends s.closes))
  where
    string_past : {p : ℕ} {k : Quotes} {text body rest : Text} → Opens text p k body → IsEnd body rest → Past text rest
    string_past (one_line s q n) e = record { first = _; next = _; is = s; end = e }
    string_past (multiline {next = next} s q n) e = record {
      first = _;
      next = next;
      is = s;
      end = ends_on (drop_ends 2 next) (ends_on (feed_ends (drop 2 next)) e);
    }

-- a token begins with the same character everywhere
pub token_alike : {at rest other : Text} → SameToken at rest other → Alike at other
token_alike {at = at} {rest = rest} {other = other} s = go s.chars s.split s.other_split
  where
    go : (cs : Text) → at ≡ cs ++ rest → other ≡ cs ++ s.more → Alike at other
    go [] e f =
        let p = token_past s.here in
        let l = end_shorter p.end in
        let m = ap length e in
        let n = ap length p.is in
        absurd (omega (arith, l, m, n))
    go (c ∷ cs) e f = record { first = c; next = cs ++ rest; next' = cs ++ s.more; here = e; there = f }

-- in the other text, too, it stands at the hole
pub token_holds : {start at rest : Text} {h : Hole} → HoleInText start h at
    → (g : GoesOn start at (SameToken at rest)) → FitsOrEnds h g.rest
token_holds {start = start} {at = at} {h = h} d g =
    text_holds (subst (λ (t : Text). HoleInText t h g.rest) same carried.holds) g.grammar
  where
    whole : Parts at g.rest start (folded g.bytes)
    whole = subst (λ (t : Text). Parts at g.rest start t) (sym g.same) (parts_of g.front g.before)

    carried : TextCarried at g.rest start (λ t. HoleInText t h g.rest)
    carried = text_hole (token_alike g.next) d

    same : carried.other ≡ folded g.bytes
    same = parts_same carried.parts whole

pub hole_fits : {start at rest : Text} {h : Hole} → HoleInText start h at → GoesOn start at (SameToken at rest)
    → Fits h at
hole_fits d g =
    let a = token_alike g.next in
    let x = not_at_end (token_holds d g) a.there in
    let here : a.first ∷ a.next' ≡ (x.offset, x.char) ∷ x.rest = sym a.there ∙ x.starts in
    let first : a.first ≡ (x.offset, x.char) = cc in
    record {
      offset = x.offset;
      char = x.char;
      rest = a.next;
      starts = a.here ∙ ap (λ (y : ℕ × ℕ). y ∷ a.next) first;
      fit = x.fit;
    }

-- so no token may stand at a hole that its first character does not fit
pub no_fit : {h : Hole} {c p : ℕ} {at rest : Text} → Fits h at → StartsWith c at p rest → fits h c ≡ false → ⊥
no_fit {h = h} x s e =
    heads_not {f = fits h}
    (record { offset = x.offset; char = x.char; next = x.rest; sign = x.starts; kind = x.fit }) s e

pub misfit_may_not_stand : {start at next : Text} {end c p : ℕ} {h : Hole} → HoleInText start h at
    → StartsWith c at p next → fits h c ≡ false → (rest : Text) → MayStand start end at rest → ⊥
misfit_may_not_stand d s e rest m = no_fit (hole_fits d m.follows) s e
