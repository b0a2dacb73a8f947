-- The fault that a text outside the grammar is due, own. It is one, and goes by the text alone.
-- Tokens are taken from the start of the text, as long as each may stand where it stands: some text of the grammar has
-- the same characters up to its end, and this token there. So what is taken is a viable prefix. Where the first token
-- stands that may not, or none, or where the text ends, one of these is due:
--   no token stands there: the fault of the token, at its own place
--   a value may stand there, and a number begins that is at fault: an invalid number, where `NumberFaults` says; or the
--     fault of a token that is refused behind one of the number's own (`NumberTokens`)
--   else: what is wanted there, and what is found
-- A value is wanted where `{` may stand; else an equals where `=` may, a right bracket where `]` may, a comma where `,`
-- may, a table key where `[` may, a newline where the text may end; and else a table key. Where the text ends and a line
-- feed may be added, it is what may stand behind that line feed, since a comment takes in all else.
use Rattle.std.specs.Prelude.{◌⊎◌, ◌≡◌, ℕ, true, List, [], ◌∷◌, ◌++◌, codes, Option, Some, None, IsUtf8}
use Rattle.basic_toml_tokens.specs.Ascii as ascii
use Rattle.basic_toml_tokens.specs.declared.error.Error.{Error}
use Rattle.basic_toml_tokens.specs.Text.{Text, StartsWith, folded, offset_in}
use Rattle.basic_toml_tokens.specs.TokenAt.{Lexeme, keylike, string, IsToken}
use Rattle.basic_toml_tokens.specs.Faults.{IsFault}
use Rattle.basic_toml_grammar.specs.Sections.{Section}
use Rattle.basic_toml_grammar.specs.Faults.{FaultKind, wanted, unexpected_eof, multiline_string_key, number_invalid}
use Rattle.basic_toml_grammar.specs.Faults.{unquoted_string, Fault}
use Rattle.basic_toml_grammar.specs.Grammar.{IsSectionList}
use Rattle.basic_toml_grammar.specs.NumberFaults.{number_fault}
use Rattle.basic_toml_grammar.specs.NumberTokens.{behind_number}
use Rattle.basic_toml_grammar.specs.GrammarFaults.{Stands, fault_at, IsTokenFault}

-- a character stands at the front, or the text ends
pub record Begins (c : ℕ) (text : Text) : Type 0 where
  pub offset : ℕ
  pub rest : Text
  pub starts : StartsWith c text offset rest

abbrev pub HasSign : Option ℕ → Text → Type 0
HasSign (Some c) text = Begins c text
HasSign None text = text ≡ []

-- a line feed, and then such a sign
pub record HasSignAfterFeed (sign : Option ℕ) (text : Text) : Type 0 where
  pub offset : ℕ
  pub rest : Text
  pub feed : StartsWith ascii.line_feed text offset rest
  pub next : HasSign sign rest

-- the token that stands between `text` and `rest` stands at the front of another text too, in the same characters
pub record SameToken (text rest other : Text) : Type 0 where
  pub source : List ℕ
  pub lexeme : Lexeme
  pub chars : Text
  pub more : Text
  pub here : IsToken source text lexeme rest
  pub there : IsToken source other lexeme more
  pub split : text ≡ chars ++ rest
  pub other_split : other ≡ chars ++ more

-- no token stands at the front, for this fault
pub record RefusesToken (text : Text) (fault : Fault) : Type 0 where
  pub error : Error
  pub rest : Text
  pub is_fault : IsFault text error rest
  pub names : IsTokenFault error fault

-- the fault of the first of some texts that has one
pub data FirstRefusal : List Text → Fault → Type 0 where
  this : {text : Text} {texts : List Text} {fault : Fault} → RefusesToken text fault → FirstRefusal (text ∷ texts) fault
  later : {text : Text} {texts : List Text} {fault : Fault} → ((other : Fault) → RefusesToken text other → ⊥)
      → FirstRefusal texts fault → FirstRefusal (text ∷ texts) fault

-- some text of the grammar has the same characters before `at`, and goes on so there
pub record GoesOn (start at : Text) (Next : Text → Type 0) : Type 0 where
  pub front : Text
  pub before : start ≡ front ++ at
  pub bytes : List ℕ
  pub utf8 : IsUtf8 bytes
  pub sections : List Section
  pub grammar : IsSectionList (folded bytes) sections
  pub rest : Text
  pub same : folded bytes ≡ front ++ rest
  pub next : Next rest

-- what may be wanted, by the sign that may stand there, in this order; and else a table key
pub data Want : Type 0 where
  value : Want
  equals : Want
  right_bracket : Want
  comma : Want
  table_key : Want
  newline : Want

abbrev pub wants : List (Option ℕ × Want)
wants = (Some ascii.left_brace, Want.value) ∷ (Some ascii.equals, Want.equals)
    ∷ (Some ascii.right_bracket, Want.right_bracket) ∷ (Some ascii.comma, Want.comma)
    ∷ (Some ascii.left_bracket, Want.table_key) ∷ (None, Want.newline) ∷ []

abbrev pub want_word : Want → List ℕ
want_word Want.value = codes "a value"
want_word Want.equals = codes "an equals"
want_word Want.right_bracket = codes "a right bracket"
want_word Want.comma = codes "a comma"
want_word Want.table_key = codes "a table key"
want_word Want.newline = codes "newline"

-- by what is wanted and what is found, with its word
abbrev pub mismatch_kind : Want → Option Lexeme → List ℕ → FaultKind
mismatch_kind Want.value None word = unexpected_eof
mismatch_kind Want.value (Some (keylike _)) word = unquoted_string
mismatch_kind Want.table_key (Some (string _ _ true)) word = multiline_string_key
mismatch_kind want found word = wanted (want_word want) word

-- of a text that begins at `start` and ends at the offset `end`
module _ (start : Text) (end : ℕ) where
  -- a value may stand there, and a number begins whose fault has this offset
  pub record NumberFails (at : Text) (offset : ℕ) : Type 0 where
    pub value : GoesOn start at (Begins ascii.left_brace)
    pub fault : number_fault end at ≡ Some offset

  -- the token between `at` and `rest` may stand there; a number at fault may not, even where its first token may
  pub record MayStand (at rest : Text) : Type 0 where
    pub follows : GoesOn start at (SameToken at rest)
    pub number : (offset : ℕ) → NumberFails at offset → ⊥

  -- tokens lead there from the start, and each of them may stand where it stands
  pub data Viable : Text → Type 0 where
    at_start : Viable start
    after : {text rest : Text} → Viable text → MayStand text rest → Viable rest

  -- and lead no further
  pub record StopsAt (at : Text) : Type 0 where
    pub viable : Viable at
    pub stuck : (rest : Text) → MayStand at rest → ⊥

  abbrev pub SignMayStand : Option ℕ → Text → Type 0
  SignMayStand sign [] = GoesOn start [] (HasSignAfterFeed sign)
      ⊎ ((GoesOn start [] (Begins ascii.line_feed) → ⊥) × GoesOn start [] (HasSign sign))
  SignMayStand sign (x ∷ at) = GoesOn start (x ∷ at) (HasSign sign)

  -- the first of these that may stand there
  pub data IsWanted (at : Text) : List (Option ℕ × Want) → Want → Type 0 where
    this : {sign : Option ℕ} {want : Want} {others : List (Option ℕ × Want)} → SignMayStand sign at
        → IsWanted at ((sign, want) ∷ others) want
    later : {sign : Option ℕ} {want other : Want} {others : List (Option ℕ × Want)} → (SignMayStand sign at → ⊥)
        → IsWanted at others want → IsWanted at ((sign, other) ∷ others) want
    otherwise : IsWanted at [] Want.table_key

  -- the fault that is due where tokens lead no further
  pub data IsDueAt (at : Text) : Fault → Type 0 where
    no_token : {fault : Fault} → RefusesToken at fault → IsDueAt at fault
    number : {offset : ℕ} → NumberFails at offset → ((fault : Fault) → FirstRefusal (behind_number at) fault → ⊥)
        → IsDueAt at (fault_at number_invalid offset)
    token_of_number : {offset : ℕ} {fault : Fault} → NumberFails at offset → FirstRefusal (behind_number at) fault
        → IsDueAt at fault
    mismatch : {found : Option Lexeme} {word : List ℕ} {want : Want} → ((offset : ℕ) → NumberFails at offset → ⊥)
        → Stands at found word → IsWanted at wants want
        → IsDueAt at (fault_at (mismatch_kind want found word) (offset_in end at))

  pub record IsDue (fault : Fault) : Type 0 where
    pub outside : (sections : List Section) → IsSectionList start sections → ⊥
    pub at : Text
    pub stops : StopsAt at
    pub due : IsDueAt at fault
