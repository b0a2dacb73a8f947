-- What the program writes for the bytes that it reads, and how a run ends. (own)
use Rattle.std.specs.Prelude.{◌≡◌, ◌≤◌, ◌<◌, ℕ, suc, ◌+◌, IsUtf8, Bool, true, false, List, ◌++◌, codes, decimal, Option, Some, None}
use Rattle.std.specs.Prelude.{Ok, Err}
use Rattle.std.specs.Io.KnownBytes.{Appends, Keeps}
use Rattle.json.specs.Json.{Json, document}
use Rattle.basic_toml.specs.Data.{Members, table}
use Rattle.basic_toml.specs.DataDepth.{depth}
use Rattle.basic_toml.specs.DocumentText.{plain, document_text}
use Rattle.basic_toml.specs.LineColumn.{line_at, column_at}
use Rattle.basic_toml.specs.Nesting.{nesting_limit}
use Rattle.toml_json_text.specs.declared.form.Form.{Form}
use Rattle.toml_from_json.specs.declared.refusal.Fault.{Fault}
use Rattle.toml_from_json.specs.Meaning.{members_in}
use Rattle.toml_from_json.specs.RefusalText.{refusal_text}
use Rattle.json_toml.specs.Levels.{nests_deeper}
use Rattle.toml_streams.specs.Streams.{AppendsFront, TellsFailure, failure_line}

-- why there is no JSON that is read
abbrev pub no_json_reason : Bool → List ℕ
no_json_reason true = codes "nested deeper than 128"
no_json_reason false = codes "no JSON"

-- the reason, with the file's name, and the line and the column from 1 of the place that the reader came to
abbrev pub no_json_text : List ℕ → ℕ → ℕ → Bool → List ℕ
no_json_text name line column deeper =
    name ++ (codes ":" ++ (decimal (line + 1) ++ (codes ":" ++ (decimal (column + 1)
    ++ (codes ": " ++ (no_json_reason deeper ++ codes "\n"))))))

-- The status and the text for a table: its text; or, where it is nested above the limit, that it is.
pub data IsTableDue (name : List ℕ) (members : Members) : ℕ → List ℕ → Type 0 where
  table_written : {text : List ℕ} → depth (table members) ≤ nesting_limit → text ≡ document_text plain members
      → IsTableDue name members 0 text
  too_deep : {text : List ℕ} → nesting_limit < depth (table members)
      → text ≡ failure_line name (codes "nested too deeply") → IsTableDue name members 2 text

-- for JSON: what is due for the table that it means; or what of it has no TOML
pub data IsJsonDue (form : Form) (name : List ℕ) (j : Json) : ℕ → List ℕ → Type 0 where
  meant : {members : Members} {status : ℕ} {text : List ℕ} → members_in form j ≡ Ok members
      → IsTableDue name members status text → IsJsonDue form name j status text
  without_toml : {fault : Fault} {path text : List ℕ} → members_in form j ≡ Err (fault, path)
      → text ≡ failure_line name (refusal_text fault path) → IsJsonDue form name j 1 text

-- For the bytes of the file of a name in messages: what is due for the JSON that they are (RFC 8259, at most 128
-- arrays and objects deep); or that they are none, or that their tokens nest deeper, where the place that is named is
-- not said; or that they are no text.
pub data IsDue (form : Form) (name input : List ℕ) : ℕ → List ℕ → Type 0 where
  json : {j : Json} {status : ℕ} {text : List ℕ} → IsUtf8 input → document input ≡ Some j
      → IsJsonDue form name j status text → IsDue form name input status text
  no_json : (offset : ℕ) {text : List ℕ} → IsUtf8 input → document input ≡ None
      → text ≡ no_json_text name (line_at input offset) (column_at input offset) (nests_deeper input)
      → IsDue form name input 1 text
  not_utf8 : {text : List ℕ} → (IsUtf8 input → ⊥) → text ≡ failure_line name (codes "input is not valid UTF-8")
      → IsDue form name input 1 text

-- How a run ends that reads these bytes of the file of a name in messages, by what standard output and standard error
-- hold before and after it, with its status. TOML goes to standard output, and all else to standard error.
pub data Ends (form : Form) (name input : List ℕ) (output output' errors errors' : Option (List ℕ)) : ℕ → Type 0 where
  written : {text : List ℕ} → IsDue form name input 0 text → Appends output output' text → Keeps errors errors'
      → Ends form name input output output' errors errors' 0
  refused : {status : ℕ} {text : List ℕ} → IsDue form name input (suc status) text → Keeps output output'
      → Appends errors errors' text → Ends form name input output output' errors errors' (suc status)
  -- reading or memory failed
  not_answered : Keeps output output' → TellsFailure name errors errors'
      → Ends form name input output output' errors errors' 3
  -- standard output failed
  not_written_all : {text : List ℕ} → IsDue form name input 0 text → AppendsFront output output' text
      → TellsFailure (codes "stdout") errors errors' → Ends form name input output output' errors errors' 3
  -- standard error failed
  not_told_all : {status : ℕ} {text : List ℕ} → IsDue form name input (suc status) text → Keeps output output'
      → AppendsFront errors errors' text → Ends form name input output output' errors errors' 3
