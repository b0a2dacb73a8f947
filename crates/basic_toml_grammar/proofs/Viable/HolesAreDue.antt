-- From a hole to the fault that is due: tokens lead there and each may stand; where what stands there does not fit, it is
-- due that another thing is wanted, the first that may stand; where no token stands there, the fault of the token.
use Rattle.std.proofs.Common.{◌≡◌, ℕ, ◌==◌, ◌||◌, Bool, true, false, List, [], ◌∷◌, length, Option, Some}
use Rattle.std.proofs.Common.{None, refl, ap, sym, ◌∙◌, subst}
use Rattle.std.specs.Prelude.{not, IsUtf8}
use Rattle.std.proofs.lemmas.Bool.{or_from, or_parts, false≢true}
use Rattle.basic_toml_tokens.specs.Text.{Text, folded, is_keylike, is_comment, offset_in}
use Rattle.basic_toml_tokens.specs.Strings.{is_quote}
use Rattle.basic_toml_tokens.specs.TokenAt.{Lexeme, IsToken}
use Rattle.basic_toml_tokens.proofs.TokenIsUnique.{token_or_fault}
use Rattle.basic_toml_grammar.specs.Sections.{Section}
use Rattle.basic_toml_grammar.specs.Faults.{Fault}
use Rattle.basic_toml_grammar.specs.Grammar.{is_wordlike, IsSectionList}
use Rattle.basic_toml_grammar.specs.GrammarFaults as faults
use Rattle.basic_toml_grammar.specs.GrammarFaults.{Stands, fault_at}
use Rattle.basic_toml_grammar.specs.Holes.{Hole, HoleInText, fits, begins_value}
use Rattle.basic_toml_grammar.specs.Viable as viable
use Rattle.basic_toml_grammar.specs.Viable.{RefusesToken, Want, wants}
use Rattle.basic_toml_grammar.specs.Viable.{mismatch_kind, SignMayStand, IsWanted, IsDue}
use Rattle.basic_toml_grammar.proofs.Grammar.GrammarCarried.{Seen}
use Rattle.basic_toml_grammar.proofs.Completion.Fillers as fillers
use Rattle.basic_toml_grammar.proofs.Completion.Fillers.{Filler, text_gap}
use Rattle.basic_toml_grammar.proofs.Completion.HeadersFollow.{text_opens, bracket_follows}
use Rattle.basic_toml_grammar.proofs.Completion.SignsFollow.{sign_follows}
use Rattle.basic_toml_grammar.proofs.Completion.TokensFollow.{hole_is_viable}
use Rattle.basic_toml_grammar.proofs.Viable.TokensAtHoles.{misfit_may_not_stand}
use Rattle.basic_toml_grammar.proofs.Viable.SignsAtHoles.{Sign, Standing, sign_misfits, end_misfits}
use Rattle.basic_toml_grammar.proofs.Viable.SignsAtHoles.{brace, equals, bracket, comma, header}
use Rattle.basic_toml_grammar.proofs.Viable.NumbersOnTheWay.{Sound, plain_sound}
use Rattle.basic_toml_grammar.proofs.Viable.GapsEnd.{after_gap_is, closed}
use Rattle.basic_toml_grammar.proofs.Viable.TokensBegin.{in_comment, token_begins}

-- what begins no value begins no word
value_apart : (c : ℕ) → begins_value c ≡ false → (is_keylike c ≡ false) × ((c == 43) ≡ false)
value_apart c e =
    let w = (or_parts (is_wordlike c) (is_quote c) (or_parts (is_wordlike c || is_quote c) (c == 91 || c == 123) e).0).0 in
    let k = or_parts (is_keylike c) (c == 43 || c == 46) w in
    (k.0, (or_parts (c == 43) (c == 46) k.1).0)

-- the text has no section list
abbrev pub Outside : Text → Type 0
Outside text = (sections : List Section) → IsSectionList text sections → ⊥

module _ (bytes : List ℕ) (utf8 : IsUtf8 bytes) where
  -- a token stands there, with this character, which does not fit
  module _ {p c : ℕ} {next : Text} {found : Option Lexeme} {word : List ℕ} (stands : Stands ((p, c) ∷ next) found word) where
    begins : in_comment c ≡ true
    begins = by stands refl
      where
        by : {text : Text} {found : Option Lexeme} {word : List ℕ} → Stands text found word → text ≡ (p, c) ∷ next
            → in_comment c ≡ true
        by (faults.token {source = source} {rest = rest} {l = l} t) e =
            token_begins (subst (λ (u : Text). IsToken source u l rest) e t)
        by faults.end e = let no : [] ≡ (p, c) ∷ next = e in cc

    holds_comment : (c == 10) ≡ false → Seen ((p, c) ∷ next)
    holds_comment e = ap not (sym (ap (λ (b : Bool). b || is_comment c) e) ∙ begins)

    standing : {h : Hole} (gap : Bool) → fits h c ≡ false → Standing h gap ((p, c) ∷ next)
    standing {h = h} gap misfit = record { gap = λ e. ap not begins; line = λ e. holds_comment (line h e misfit) }
      where
        line : (h : Hole) → h ≡ Hole.after_line → fits h c ≡ false → (c == 10) ≡ false
        line Hole.after_line e m = m
        line Hole.key e m = cc
        line Hole.value e m = cc
        line Hole.after_keys e m = cc
        line Hole.after_header_keys e m = cc
        line Hole.second_bracket e m = cc
        line Hole.after_element e m = cc
        line Hole.after_field e m = cc

    -- after a gap it is no line feed
    seen : {h : Hole} (d : HoleInText (folded bytes) h ((p, c) ∷ next)) → text_gap d ≡ true → Seen ((p, c) ∷ next)
    seen d e = holds_comment (no_feed (c == 10) (after_gap_is d e).no_feed)
      where
        no_feed : (b : Bool) → not b ≡ true → b ≡ false
        no_feed false e = refl
        no_feed true e = absurd (false≢true e)

    module _ {h : Hole} (d : HoleInText (folded bytes) h ((p, c) ∷ next)) (misfit : fits h c ≡ false) where
      not_there : (k : ℕ) → Sign k h (text_opens d) → fits h k ≡ false
          → SignMayStand (folded bytes) (length bytes) (Some k) ((p, c) ∷ next) → ⊥
      not_there k s f g = sign_misfits d s (standing (text_gap d) misfit) f g

      there : {k : ℕ} → Filler h (Some k) → SignMayStand (folded bytes) (length bytes) (Some k) ((p, c) ∷ next)
      there x = sign_follows bytes utf8 d x (seen d)

      -- where no value may stand
      no_value : Sign 123 h (text_opens d) → fits h 123 ≡ false → Sound (folded bytes) (length bytes) ((p, c) ∷ next)
      no_value s f = λ o n. not_there 123 s f n.value

    abbrev pub Wants : Want → Type 0
    Wants want = IsWanted (folded bytes) (length bytes) ((p, c) ∷ next) wants want

    pub equals_is_wanted : HoleInText (folded bytes) Hole.after_keys ((p, c) ∷ next) → fits Hole.after_keys c ≡ false
        → Wants Want.equals
    equals_is_wanted d m =
        viable.later (not_there d m 123 (brace (λ e. cc)) refl) (viable.this (there d m fillers.equals))

    pub header_end_is_wanted : HoleInText (folded bytes) Hole.after_header_keys ((p, c) ∷ next)
        → fits Hole.after_header_keys c ≡ false → Wants Want.right_bracket
    header_end_is_wanted d m =
        viable.later (not_there d m 123 (brace (λ e. cc)) refl)
        (viable.later (not_there d m 61 (equals (λ e. cc)) refl) (viable.this (there d m fillers.header_end)))

    pub second_bracket_is_wanted : HoleInText (folded bytes) Hole.second_bracket ((p, c) ∷ next)
        → fits Hole.second_bracket c ≡ false → Wants Want.right_bracket
    second_bracket_is_wanted d m =
        viable.later (not_there d m 123 (brace (λ e. cc)) refl)
        (viable.later (not_there d m 61 (equals (λ e. cc)) refl) (viable.this (there d m fillers.second_end)))

    pub element_end_is_wanted : HoleInText (folded bytes) Hole.after_element ((p, c) ∷ next)
        → fits Hole.after_element c ≡ false → Wants Want.right_bracket
    element_end_is_wanted d m =
        viable.later (not_there d m 123 (brace (λ e. cc)) refl)
        (viable.later (not_there d m 61 (equals (λ e. cc)) refl) (viable.this (there d m fillers.array_end)))

    pub field_end_is_wanted : HoleInText (folded bytes) Hole.after_field ((p, c) ∷ next)
        → fits Hole.after_field c ≡ false → Wants Want.comma
    field_end_is_wanted d m =
        viable.later (not_there d m 123 (brace (λ e. cc)) refl)
        (viable.later (not_there d m 61 (equals (λ e. cc)) refl)
        (viable.later (not_there d m 93 (bracket (λ e. cc)) refl) (viable.this (there d m fillers.another))))

    pub line_end_is_wanted : HoleInText (folded bytes) Hole.after_line ((p, c) ∷ next)
        → fits Hole.after_line c ≡ false → Wants Want.newline
    line_end_is_wanted d m =
        viable.later (not_there d m 123 (brace (λ e. cc)) refl)
        (viable.later (not_there d m 61 (equals (λ e. cc)) refl)
        (viable.later (not_there d m 93 (bracket (λ e. cc)) refl)
        (viable.later (not_there d m 44 (comma (λ e. cc)) refl)
        (viable.later (not_there d m 91 (header (λ e. cc) (closed d)) refl)
        (viable.this (sign_follows bytes utf8 d fillers.line_end (seen d)))))))

    -- where a key has to come no other sign may stand, but a bracket that begins a header
    module _ (d : HoleInText (folded bytes) Hole.key ((p, c) ∷ next)) where
      not_at_key : (k : ℕ) → Sign k Hole.key (text_opens d) → fits Hole.key k ≡ false
          → SignMayStand (folded bytes) (length bytes) (Some k) ((p, c) ∷ next) → ⊥
      not_at_key k s f g = sign_misfits d s (record { gap = λ e. ap not begins; line = λ e. cc }) f g

      pub key_is_wanted : IsWanted (folded bytes) (length bytes) ((p, c) ∷ next) wants Want.table_key
      key_is_wanted =
          viable.later (not_at_key 123 (brace (λ e. cc)) refl)
          (viable.later (not_at_key 61 (equals (λ e. cc)) refl)
          (viable.later (not_at_key 93 (bracket (λ e. cc)) refl)
          (viable.later (not_at_key 44 (comma (λ e. cc)) refl) (key (text_opens d) refl))))
        where
          key : (b : Bool) → text_opens d ≡ b
              → IsWanted (folded bytes) (length bytes) ((p, c) ∷ next)
              ((Some 91, Want.table_key) ∷ (None, Want.newline) ∷ []) Want.table_key
          key true o = viable.this (bracket_follows bytes utf8 d o)
          key false o = viable.later (not_at_key 91 (header (λ e. cc) o) refl)
              (viable.later (λ g. end_misfits d o (λ e. cc) g) viable.otherwise)

module _ (bytes : List ℕ) (utf8 : IsUtf8 bytes) (outside : Outside (folded bytes)) where
  -- no token stands there
  pub refused_is_due : {h : Hole} {at : Text} {fault : Fault} → HoleInText (folded bytes) h at → RefusesToken at fault
      → IsDue (folded bytes) (length bytes) fault
  refused_is_due {at = at} d r = record {
    outside = outside;
    at = at;
    stops = record {
      viable = hole_is_viable bytes utf8 (length bytes) d;
      stuck = λ rest m. token_or_fault m.follows.next.here r.is_fault;
    };
    due = viable.no_token r;
  }

  -- another thing is wanted than what stands there
  module _ {p c : ℕ} {next : Text} {found : Option Lexeme} {word : List ℕ} (stands : Stands ((p, c) ∷ next) found word) where
    abbrev pub Due : Want → Type 0
    Due want = IsDue (folded bytes) (length bytes)
        (fault_at (mismatch_kind want found word) (offset_in (length bytes) ((p, c) ∷ next)))

    due : {h : Hole} {want : Want} → HoleInText (folded bytes) h ((p, c) ∷ next) → fits h c ≡ false
        → Sound (folded bytes) (length bytes) ((p, c) ∷ next) → Wants bytes utf8 stands want → Due want
    due d misfit sound w = record {
      outside = outside;
      at = (p, c) ∷ next;
      stops = record {
        viable = hole_is_viable bytes utf8 (length bytes) d;
        stuck = misfit_may_not_stand d refl misfit;
      };
      due = viable.mismatch sound stands w;
    }

    pub equals_is_due : HoleInText (folded bytes) Hole.after_keys ((p, c) ∷ next) → fits Hole.after_keys c ≡ false
        → Due Want.equals
    equals_is_due d m = due d m (no_value bytes utf8 stands d m (brace (λ e. cc)) refl) (equals_is_wanted bytes utf8 stands d m)

    pub header_end_is_due : HoleInText (folded bytes) Hole.after_header_keys ((p, c) ∷ next) → fits Hole.after_header_keys c ≡ false
        → Due Want.right_bracket
    header_end_is_due d m = due d m (no_value bytes utf8 stands d m (brace (λ e. cc)) refl) (header_end_is_wanted bytes utf8 stands d m)

    pub second_bracket_is_due : HoleInText (folded bytes) Hole.second_bracket ((p, c) ∷ next) → fits Hole.second_bracket c ≡ false
        → Due Want.right_bracket
    second_bracket_is_due d m = due d m (no_value bytes utf8 stands d m (brace (λ e. cc)) refl) (second_bracket_is_wanted bytes utf8 stands d m)

    pub element_end_is_due : HoleInText (folded bytes) Hole.after_element ((p, c) ∷ next) → fits Hole.after_element c ≡ false
        → Due Want.right_bracket
    element_end_is_due d m = due d m (no_value bytes utf8 stands d m (brace (λ e. cc)) refl) (element_end_is_wanted bytes utf8 stands d m)

    pub field_end_is_due : HoleInText (folded bytes) Hole.after_field ((p, c) ∷ next) → fits Hole.after_field c ≡ false
        → Due Want.comma
    field_end_is_due d m = due d m (no_value bytes utf8 stands d m (brace (λ e. cc)) refl) (field_end_is_wanted bytes utf8 stands d m)

    pub line_end_is_due : HoleInText (folded bytes) Hole.after_line ((p, c) ∷ next) → fits Hole.after_line c ≡ false
        → Due Want.newline
    line_end_is_due d m = due d m (no_value bytes utf8 stands d m (brace (λ e. cc)) refl) (line_end_is_wanted bytes utf8 stands d m)

    pub key_is_due : HoleInText (folded bytes) Hole.key ((p, c) ∷ next) → fits Hole.key c ≡ false → Due Want.table_key
    key_is_due d m = due d m (no_value bytes utf8 stands d m (brace (λ e. cc)) refl) (key_is_wanted bytes utf8 stands d)

    -- where no value begins
    pub value_is_due : HoleInText (folded bytes) Hole.value ((p, c) ∷ next) → fits Hole.value c ≡ false → Due Want.value
    value_is_due d m = due d m (plain_sound (length bytes) refl plain) (viable.this (there bytes utf8 stands d m fillers.empty_table))
      where
        plain : (c == 43 || is_keylike c) ≡ false
        plain = let w = value_apart c m in or_from (c == 43) (is_keylike c) w.1 w.0
