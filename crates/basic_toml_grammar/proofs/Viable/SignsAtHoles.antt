-- A sign that joins nothing before it may stand at a hole only where it fits; nor may the text end there.
use Rattle.std.proofs.Common.{◌≡◌, ℕ, ◌==◌, ◌||◌, Bool, true, false, cond, [], ◌∷◌, length, Some, None, refl, ap, sym}
use Rattle.std.proofs.Common.{◌∙◌, subst, arith}
use Rattle.std.specs.Prelude.{not}
use Rattle.std.proofs.lemmas.Bool.{or_parts, false≢true}
use Rattle.basic_toml_tokens.specs.Text.{Text, after_run, is_blank, is_comment}
use Rattle.basic_toml_grammar.specs.Grammar.{after_comment_by, after_gap_from}
use Rattle.basic_toml_grammar.specs.Reader.{char_at, end_of}
use Rattle.basic_toml_grammar.specs.Holes.{Hole, HoleInText, fits, Fits}
use Rattle.basic_toml_grammar.specs.Viable.{GoesOn, Begins, HasSignAfterFeed}
use Rattle.basic_toml_grammar.proofs.Grammar.EndChangesNothing.{Parts, stops, joins, begins_gap, in_gap, apart}
use Rattle.basic_toml_grammar.proofs.Grammar.EndChangesNothing.{outside_over}
use Rattle.basic_toml_grammar.proofs.Grammar.FrontsOfTexts.{parts_of, parts_same}
use Rattle.basic_toml_grammar.proofs.Grammar.GrammarCarried.{Seen}
use Rattle.basic_toml_grammar.proofs.Completion.Fillers.{text_gap}
use Rattle.basic_toml_grammar.proofs.Completion.HeadersFollow.{text_opens}
use Rattle.basic_toml_grammar.proofs.Viable.HolesCarried.{Turn, passes, Gapped}
use Rattle.basic_toml_grammar.proofs.Viable.TextsCarried.{TextCarried, Opened, text_turned}
use Rattle.basic_toml_grammar.proofs.Viable.HolesHold.{clash}
use Rattle.basic_toml_grammar.proofs.Viable.TextsHold.{FitsOrEnds, not_at_end, text_holds}
use Rattle.basic_toml_grammar.proofs.Viable.TokensAtHoles.{no_fit}

-- the hole stands in another text of the grammar
pub hole_elsewhere : {start at end : Text} {h : Hole} {Next : Text → Type 0} (d : HoleInText start h at)
    (g : GoesOn start at Next) → Turn h at g.rest end → Gapped (text_gap d) at g.rest end
    → Opened (text_opens d) at g.rest → FitsOrEnds h end
hole_elsewhere {start = start} {at = at} {end = end} {h = h} d g turn gap unlocked =
    let t : TextCarried at g.rest start (λ t. HoleInText t h end) = text_turned d turn gap unlocked in
    let whole = subst (λ (t : Text). Parts at g.rest start t) (sym g.same) (parts_of g.front g.before) in
    text_holds (subst (λ (t : Text). HoleInText t h end) (parts_same t.parts whole) t.holds) g.grammar

-- Of a sign: it joins nothing, and begins no gap. Where it would be read otherwise than as what has to come, it is not
-- that sign.
pub record Sign (c : ℕ) (h : Hole) (opens : Bool) : Type 0 where
  pub apart : joins c ≡ false
  pub no_gap : begins_gap c ≡ false
  pub value : h ≡ Hole.value → (c == 93) ≡ false
  pub key : h ≡ Hole.key → (c == 125) ≡ false
  pub header : opens ≡ true → (c == 91) ≡ false

-- the signs that may be wanted
pub brace : {h : Hole} {opens : Bool} → (h ≡ Hole.value → ⊥) → Sign 123 h opens
brace v = record { apart = refl; no_gap = refl; value = λ e. refl; key = λ e. refl; header = λ e. refl }

pub equals : {h : Hole} {opens : Bool} → (h ≡ Hole.value → ⊥) → Sign 61 h opens
equals v = record { apart = refl; no_gap = refl; value = λ e. refl; key = λ e. refl; header = λ e. refl }

pub bracket : {h : Hole} {opens : Bool} → (h ≡ Hole.value → ⊥) → Sign 93 h opens
bracket v = record { apart = refl; no_gap = refl; value = λ e. absurd (v e); key = λ e. refl; header = λ e. refl }

pub comma : {h : Hole} {opens : Bool} → (h ≡ Hole.value → ⊥) → Sign 44 h opens
comma v = record { apart = refl; no_gap = refl; value = λ e. refl; key = λ e. refl; header = λ e. refl }

pub header : {h : Hole} {opens : Bool} → (h ≡ Hole.value → ⊥) → opens ≡ false → Sign 91 h opens
header v o = record {
  apart = refl;
  no_gap = refl;
  value = λ e. refl;
  key = λ e. refl;
  header = λ e. absurd (false≢true (sym o ∙ e));
}

-- What stands there ends no comment before it.
pub record Standing (h : Hole) (after_gap : Bool) (at : Text) : Type 0 where
  pub gap : after_gap ≡ true → stops (in_gap is_comment) at ≡ false
  pub line : h ≡ Hole.after_line → Seen at

pub sign_misfits : {start at : Text} {h : Hole} {c : ℕ} (d : HoleInText start h at) → Sign c h (text_opens d)
    → Standing h (text_gap d) at → fits h c ≡ false → GoesOn start at (Begins c) → ⊥
sign_misfits {start = start} {at = at} {h = h} {c = c} d s z misfit g =
    no_fit (not_at_end (hole_elsewhere d g turn gap unlocked) n.starts) n.starts misfit
  where
    n : Begins c g.rest
    n = g.next

    none : (k : ℕ) → (c == k) ≡ false → char_at k g.rest ≡ None
    none k e = ap (char_at k) n.starts ∙ ap (λ (b : Bool). cond b (Some (n.offset, n.rest)) None) e

    no_hash : (c == 35) ≡ false
    no_hash = (or_parts (is_blank c || c == 10) (c == 35) s.no_gap).1

    no_feed : (c == 10) ≡ false
    no_feed = (or_parts (is_blank c) (c == 10) (or_parts (is_blank c || c == 10) (c == 35) s.no_gap).0).1

    stopped : (f : ℕ → Bool) → f c ≡ false → stops f g.rest ≡ true
    stopped f e = ap (stops f) n.starts ∙ ap not e

    turn : Turn h at g.rest g.rest
    turn = record {
      meets = apart (stopped joins s.apart);
      lands = λ e. refl;
      line = λ e. (λ k. stopped (λ c. c == 35) no_hash, λ k. absurd (false≢true (sym (z.line e) ∙ k)));
      value = λ e m. none 93 (s.value e);
      key = λ e m. none 125 (s.key e);
    }

    gap : Gapped (text_gap d) at g.rest g.rest
    gap e = passes (record {
      outside = λ k. stopped begins_gap s.no_gap;
      inside = λ k. absurd (false≢true (sym (z.gap e) ∙ k));
    })

    line_on : end_of (after_comment_by is_comment g.rest) ≡ None
    line_on = ap (λ (t : Text). end_of (after_comment_by is_comment t)) n.starts
        ∙ ap (λ (b : Bool). end_of (cond b (after_run is_comment n.rest) ((n.offset, c) ∷ n.rest))) no_hash
        ∙ ap (λ (b : Bool). cond b (Some n.rest) None) no_feed

    unlocked : Opened (text_opens d) at g.rest
    unlocked e = record { bracket = λ m. none 91 (s.header e); hash = λ m. none 35 no_hash; line_end = λ m k. line_on }

no_fit_in_nothing : {h : Hole} {at : Text} → Fits h at → at ≡ [] → ⊥
no_fit_in_nothing {at = at} f e = let no : [] ≡ (f.offset, f.char) ∷ f.rest = sym e ∙ f.starts in cc

no_hole_ends : {h : Hole} {at : Text} → (h ≡ Hole.after_line → ⊥) → at ≡ [] → FitsOrEnds h at → ⊥
no_hole_ends line e (FitsOrEnds.fit f) = no_fit_in_nothing f.fits e
no_hole_ends line e (FitsOrEnds.ends n) = line refl

-- the text may end where a line ends alone
pub end_misfits : {start at : Text} {h : Hole} (d : HoleInText start h at) → text_opens d ≡ false
    → (h ≡ Hole.after_line → ⊥) → GoesOn start at (λ t. t ≡ []) → ⊥
end_misfits {start = start} {at = at} {h = h} d bare line g =
    no_hole_ends line g.next (hole_elsewhere d g turn gap unlocked)
  where
    stopped : (f : ℕ → Bool) → stops f g.rest ≡ true
    stopped f = ap (stops f) g.next

    turn : Turn h at g.rest g.rest
    turn = record {
      meets = apart (stopped joins);
      lands = λ e. refl;
      line = λ e. absurd (line e);
      value = λ e m. ap (char_at 93) g.next;
      key = λ e m. ap (char_at 125) g.next;
    }

    gap : Gapped (text_gap d) at g.rest g.rest
    gap e = passes (record { outside = λ k. stopped begins_gap; inside = λ k. stopped (in_gap is_comment) })

    unlocked : Opened (text_opens d) at g.rest
    unlocked e = absurd (false≢true (sym bare ∙ e))

-- where the text ends, no line feed may stand, but after a gap and where a line may end
pub feed_misfits : {start : Text} {h : Hole} (d : HoleInText start h []) → text_gap d ≡ false
    → (h ≡ Hole.after_line → ⊥) → fits h 10 ≡ false → GoesOn start [] (Begins 10) → ⊥
feed_misfits {start = start} {h = h} d loose line misfit g =
    no_fit (not_at_end (hole_elsewhere d g turn gap unlocked) n.starts) n.starts misfit
  where
    n : Begins 10 g.rest
    n = g.next

    turn : Turn h [] g.rest g.rest
    turn = record {
      meets = apart (ap (stops joins) n.starts);
      lands = λ e. refl;
      line = λ e. absurd (line e);
      value = λ e m. ap (char_at 93) n.starts;
      key = λ e m. ap (char_at 125) n.starts;
    }

    gap : Gapped (text_gap d) [] g.rest g.rest
    gap e = absurd (false≢true (sym loose ∙ e))

    unlocked : Opened (text_opens d) [] g.rest
    unlocked e = record {
      bracket = λ m. ap (char_at 91) n.starts;
      hash = λ m. ap (char_at 35) n.starts;
      line_end = λ m k. absurd (clash (sym k));
    }

-- after an element no sign may stand behind a line feed that does not fit
pub fed_misfits : {start : Text} {c : ℕ} (d : HoleInText start Hole.after_element []) → begins_gap c ≡ false
    → fits Hole.after_element c ≡ false → GoesOn start [] (HasSignAfterFeed (Some c)) → ⊥
fed_misfits {start = start} {c = c} d no_gap misfit g =
    no_fit (not_at_end (hole_elsewhere d g turn gap unlocked) n.starts) n.starts misfit
  where
    n : Begins c g.next.rest
    n = g.next.next

    turn : Turn Hole.after_element [] g.rest g.next.rest
    turn = record {
      meets = apart (ap (stops joins) g.next.feed);
      lands = λ e. absurd (e refl);
      line = λ e. let no : ⊥ = cc in absurd no;
      value = λ e m. ap (char_at 93) g.next.feed;
      key = λ e m. ap (char_at 125) g.next.feed;
    }

    on : after_gap_from is_comment false g.next.rest ≡ g.next.rest
    on = outside_over is_comment g.next.rest (ap (stops begins_gap) n.starts ∙ ap not no_gap)

    gap : Gapped (text_gap d) [] g.rest g.next.rest
    gap e = record {
      outside = λ s. ap (after_gap_from is_comment false) g.next.feed ∙ on;
      inside = λ s. ap (after_gap_from is_comment true) g.next.feed ∙ on;
      clear = λ same. absurd (let l = ap length same in let m = ap length g.next.feed in omega (arith, l, m));
    }

    unlocked : Opened (text_opens d) [] g.rest
    unlocked e = record {
      bracket = λ m. ap (char_at 91) g.next.feed;
      hash = λ m. ap (char_at 35) g.next.feed;
      line_end = λ m k. absurd (clash (sym k));
    }
