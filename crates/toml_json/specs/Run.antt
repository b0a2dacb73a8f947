-- What the program writes for the bytes that it reads, and how a run ends. (own)
use Rattle.std.specs.Prelude.{◌≡◌, ℕ, IsUtf8, List, [], ◌++◌, codes, string_bytes, Option}
use Rattle.std.specs.Io.KnownBytes.{Appends, Keeps}
use Rattle.basic_toml.specs.tokens.Text.{folded}
use Rattle.basic_toml.specs.Data.{Data}
use Rattle.basic_toml.specs.Document.{IsDocument}
use Rattle.toml_findings.specs.declared.finding.Unread.{Unread}
use Rattle.toml_findings.specs.declared.finding.Unread.TheVariants as unread
use Rattle.toml_findings.specs.Findings.{Finding, IsFinding, finding_of, finding_text}
use Rattle.toml_json.specs.declared.run.Style.{Style}
use Rattle.toml_json_text.specs.Json.{json_in}
use Rattle.toml_streams.specs.Streams.{AppendsFront, TellsFailure}
use Rattle.toml_json.specs.declared.run.Answer.{Answer}
use Rattle.toml_json.specs.declared.run.Answer.TheVariants.{Json, Refused}

-- the JSON of a document, and a line feed
abbrev pub json_lines : Style → Data → List ℕ
json_lines style tree = json_in style.form style.layout tree ++ codes "\n"

-- what is wrong with the file of a name
abbrev pub refusal_text : List ℕ → Finding → List ℕ
refusal_text name finding = name ++ (codes ":" ++ finding_text finding)

-- The status, and what goes to standard output and to standard error: the JSON of the document, or what is wrong.
pub data IsDue (style : Style) (name input : List ℕ) : ℕ → List ℕ → List ℕ → Type 0 where
  written : {tree : Data} {text : List ℕ} → IsUtf8 input → IsDocument (folded input) tree → text ≡ json_lines style tree
      → IsDue style name input 0 text []
  refused : {finding : Finding} {text : List ℕ} → IsFinding input finding → text ≡ refusal_text name finding
      → IsDue style name input 1 [] text

-- an answer is due
abbrev pub IsAnswer : Style → List ℕ → List ℕ → Answer → Type 0
IsAnswer style name input (Json text) = IsDue style name input 0 (string_bytes text) []
IsAnswer style name input (Refused text) = IsDue style name input 1 [] (string_bytes text)

-- the answer is this JSON, or this of a refused text
abbrev pub IsJson : List ℕ → Answer → Type 0
IsJson bytes (Json text) = string_bytes text ≡ bytes
IsJson bytes (Refused text) = ⊥

abbrev pub IsText : List ℕ → Answer → Type 0
IsText bytes (Json text) = ⊥
IsText bytes (Refused text) = string_bytes text ≡ bytes

-- the answer is that of a text which was not read
abbrev pub IsRefusal : List ℕ → Unread → Answer → Type 0
IsRefusal name (unread.Refused finding) answer = IsText (refusal_text name (finding_of finding)) answer
IsRefusal name unread.OutOfMemory answer = ⊥

-- How a run ends that reads these bytes of the file of a name in messages, by what standard output and standard error
-- hold before and after it, with its status.
pub data Ends (style : Style) (name input : List ℕ) (output output' errors errors' : Option (List ℕ)) : ℕ → Type 0 where
  done : {status : ℕ} {text error : List ℕ} → IsDue style name input status text error → Appends output output' text
      → Appends errors errors' error → Ends style name input output output' errors errors' status
  -- reading or memory failed
  not_answered : Keeps output output' → TellsFailure name errors errors'
      → Ends style name input output output' errors errors' 3
  -- standard output failed
  not_written_all : {text : List ℕ} → IsDue style name input 0 text [] → AppendsFront output output' text
      → TellsFailure (codes "stdout") errors errors' → Ends style name input output output' errors errors' 3
  -- standard error failed
  not_told_all : {error : List ℕ} → IsDue style name input 1 [] error → Keeps output output'
      → AppendsFront errors errors' error → Ends style name input output output' errors errors' 3
