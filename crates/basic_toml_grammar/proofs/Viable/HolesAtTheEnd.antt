-- The same where the text ends at a hole.
use Rattle.std.proofs.Common.{◌≡◌, inl, inr, ℕ, Bool, true, false, List, [], ◌∷◌, length, Option, Some, None}
use Rattle.std.proofs.Common.{refl, sym, ◌∙◌, codes}
use Rattle.std.specs.Prelude.{IsUtf8}
use Rattle.std.proofs.lemmas.Bool.{false≢true}
use Rattle.basic_toml_tokens.specs.Text.{Text, folded, offset_in}
use Rattle.basic_toml_grammar.specs.GrammarFaults as faults
use Rattle.basic_toml_grammar.specs.GrammarFaults.{fault_at}
use Rattle.basic_toml_grammar.specs.Holes.{Hole, HoleInText, fits}
use Rattle.basic_toml_grammar.specs.Viable as viable
use Rattle.basic_toml_grammar.specs.Viable.{GoesOn, Begins, HasSignAfterFeed, Want, wants, mismatch_kind}
use Rattle.basic_toml_grammar.specs.Viable.{SignMayStand, IsWanted, IsDue}
use Rattle.basic_toml_grammar.proofs.Grammar.EndChangesNothing.{begins_gap}
use Rattle.basic_toml_grammar.proofs.Completion.Fillers as fillers
use Rattle.basic_toml_grammar.proofs.Completion.Fillers.{Filler, text_gap}
use Rattle.basic_toml_grammar.proofs.Completion.HeadersFollow.{text_opens, bracket_follows}
use Rattle.basic_toml_grammar.proofs.Completion.SignsFollow.{sign_follows, sign_follows_feed}
use Rattle.basic_toml_grammar.proofs.Completion.TokensFollow.{hole_is_viable}
use Rattle.basic_toml_grammar.proofs.Viable.FaultsAreOne.{no_token_at_end}
use Rattle.basic_toml_grammar.proofs.Viable.SignsAtHoles.{Sign, brace, equals, bracket, comma, header, sign_misfits}
use Rattle.basic_toml_grammar.proofs.Viable.SignsAtHoles.{end_misfits, feed_misfits, fed_misfits}
use Rattle.basic_toml_grammar.proofs.Viable.NumbersOnTheWay.{no_number}
use Rattle.basic_toml_grammar.proofs.Viable.GapsEnd.{loose, spaced}
use Rattle.basic_toml_grammar.proofs.Viable.HolesAreDue.{Outside}

fed : {start : Text} {sign : Option ℕ} → GoesOn start [] (HasSignAfterFeed sign) → GoesOn start [] (Begins 10)
fed g = record {
  front = g.front;
  before = g.before;
  bytes = g.bytes;
  utf8 = g.utf8;
  sections = g.sections;
  grammar = g.grammar;
  rest = g.rest;
  same = g.same;
  next = record { offset = g.next.offset; rest = g.next.rest; starts = g.next.feed };
}

module _ (bytes : List ℕ) (utf8 : IsUtf8 bytes) (outside : Outside (folded bytes)) where
  abbrev pub Over : Want → Type 0
  Over want = IsDue (folded bytes) (length bytes)
      (fault_at (mismatch_kind want None (codes "eof")) (offset_in (length bytes) []))

  over : {h : Hole} {want : Want} → HoleInText (folded bytes) h []
      → IsWanted (folded bytes) (length bytes) [] wants want → Over want
  over d w = record {
    outside = outside;
    at = [];
    stops = record {
      viable = hole_is_viable bytes utf8 (length bytes) d;
      stuck = λ rest m. no_token_at_end m.follows.next.here;
    };
    due = viable.mismatch (no_number refl) faults.end w;
  }

  -- after no gap, and not where a line ends
  module _ {h : Hole} (d : HoleInText (folded bytes) h []) (tight : text_gap d ≡ false)
      (line : h ≡ Hole.after_line → ⊥) (misfit : fits h 10 ≡ false) where
    no_feed : GoesOn (folded bytes) [] (Begins 10) → ⊥
    no_feed g = feed_misfits d tight line misfit g

    not_there : (k : ℕ) → Sign k h (text_opens d) → fits h k ≡ false
        → SignMayStand (folded bytes) (length bytes) (Some k) [] → ⊥
    not_there k s f (inl g) = no_feed (fed g)
    not_there k s f (inr g) = sign_misfits d s
        (record { gap = λ e. absurd (false≢true (sym tight ∙ e)); line = λ e. absurd (line e) }) f g.1

    there : {k : ℕ} → Filler h (Some k) → SignMayStand (folded bytes) (length bytes) (Some k) []
    there x = inr (no_feed, sign_follows bytes utf8 d x (λ e. absurd (false≢true (sym tight ∙ e))))

    no_end : text_opens d ≡ false → SignMayStand (folded bytes) (length bytes) None [] → ⊥
    no_end o (inl g) = no_feed (fed g)
    no_end o (inr g) = end_misfits d o line g.1

  pub equals_at_end : HoleInText (folded bytes) Hole.after_keys [] → Over Want.equals
  equals_at_end d =
      let t = loose d (λ e. cc) (λ e. cc) in
      over d (viable.later (not_there d t (λ e. cc) refl 123 (brace (λ e. cc)) refl)
      (viable.this (there d t (λ e. cc) refl fillers.equals)))

  pub header_end_at_end : HoleInText (folded bytes) Hole.after_header_keys [] → Over Want.right_bracket
  header_end_at_end d =
      let t = loose d (λ e. cc) (λ e. cc) in
      over d (viable.later (not_there d t (λ e. cc) refl 123 (brace (λ e. cc)) refl)
      (viable.later (not_there d t (λ e. cc) refl 61 (equals (λ e. cc)) refl)
      (viable.this (there d t (λ e. cc) refl fillers.header_end))))

  pub second_bracket_at_end : HoleInText (folded bytes) Hole.second_bracket [] → Over Want.right_bracket
  second_bracket_at_end d =
      let t = loose d (λ e. cc) (λ e. cc) in
      over d (viable.later (not_there d t (λ e. cc) refl 123 (brace (λ e. cc)) refl)
      (viable.later (not_there d t (λ e. cc) refl 61 (equals (λ e. cc)) refl)
      (viable.this (there d t (λ e. cc) refl fillers.second_end))))

  -- after an element a line feed may stand: a right bracket may behind it, and neither a brace nor an equals
  pub element_end_at_end : HoleInText (folded bytes) Hole.after_element [] → Over Want.right_bracket
  element_end_at_end d =
      over d (viable.later (not_fed 123 refl refl) (viable.later (not_fed 61 refl refl) (viable.this (inl closes))))
    where
      closes : GoesOn (folded bytes) [] (HasSignAfterFeed (Some 93))
      closes = sign_follows_feed bytes utf8 d fillers.array_end (spaced d)

      not_fed : (k : ℕ) → begins_gap k ≡ false → fits Hole.after_element k ≡ false
          → SignMayStand (folded bytes) (length bytes) (Some k) [] → ⊥
      not_fed k n f (inl g) = fed_misfits d n f g
      not_fed k n f (inr g) = g.0 (fed closes)

  pub field_end_at_end : HoleInText (folded bytes) Hole.after_field [] → Over Want.comma
  field_end_at_end d =
      let t = loose d (λ e. cc) (λ e. cc) in
      over d (viable.later (not_there d t (λ e. cc) refl 123 (brace (λ e. cc)) refl)
      (viable.later (not_there d t (λ e. cc) refl 61 (equals (λ e. cc)) refl)
      (viable.later (not_there d t (λ e. cc) refl 93 (bracket (λ e. cc)) refl)
      (viable.this (there d t (λ e. cc) refl fillers.another)))))

  pub key_at_end : HoleInText (folded bytes) Hole.key [] → Over Want.table_key
  key_at_end d =
      over d (viable.later (not_there d t (λ e. cc) refl 123 (brace (λ e. cc)) refl)
      (viable.later (not_there d t (λ e. cc) refl 61 (equals (λ e. cc)) refl)
      (viable.later (not_there d t (λ e. cc) refl 93 (bracket (λ e. cc)) refl)
      (viable.later (not_there d t (λ e. cc) refl 44 (comma (λ e. cc)) refl) (key (text_opens d) refl)))))
    where
      t : text_gap d ≡ false
      t = loose d (λ e. cc) (λ e. cc)

      key : (b : Bool) → text_opens d ≡ b
          → IsWanted (folded bytes) (length bytes) [] ((Some 91, Want.table_key) ∷ (None, Want.newline) ∷ [])
          Want.table_key
      key true o = viable.this (inr (no_feed d t (λ e. cc) refl, bracket_follows bytes utf8 d o))
      key false o = viable.later (not_there d t (λ e. cc) refl 91 (header (λ e. cc) o) refl)
          (viable.later (no_end d t (λ e. cc) refl o) viable.otherwise)

  pub value_at_end : HoleInText (folded bytes) Hole.value [] → Over Want.value
  value_at_end d = over d (viable.this (go (text_gap d) refl))
    where
      go : (b : Bool) → text_gap d ≡ b → SignMayStand (folded bytes) (length bytes) (Some 123) []
      go true e = inl (sign_follows_feed bytes utf8 d fillers.empty_table e)
      go false e = there d e (λ e. cc) refl fillers.empty_table
