-- What is due, from what reading and writing answered.
use Rattle.std.proofs.Common.{◌≡◌, ◌≢◌, ◌⊎◌, ◌≤◌, inl, inr, ℕ, List, codes, ap, IsUtf8, Result, Ok, Err, Some, None, IfOk}
use Rattle.std.proofs.Common.{string_bytes}
use Rattle.json.specs.Json.{Json, document}
use Rattle.basic_toml.specs.Data.{Members, table}
use Rattle.basic_toml.specs.Nesting.{nesting_limit}
use Rattle.basic_toml.specs.Fault.{Fault, out_of_memory, want_of_memory}
use Rattle.basic_toml.specs.LineColumn.{line_at, column_at}
use Rattle.basic_toml.specs.DataDepth.{depth}
use Rattle.basic_toml.specs.DocumentText.{plain, document_text}
use Rattle.basic_toml.specs.TableText.{IsTooDeep}
use Rattle.toml_json_text.specs.declared.form.Form.{Form}
use Rattle.toml_from_json.specs.Meaning.{members_in}
use Rattle.toml_from_json.specs.declared.refusal.Fault as code
use Rattle.toml_from_json.specs.RefusalText.{refusal_text}
use Rattle.toml_streams.specs.Streams.{failure_line}
use Rattle.json_toml.specs.Levels.{nests_deeper}
use Rattle.json_toml.specs.declared.answer.Answer.{Answer}
use Rattle.json_toml.specs.Run.{IsTableDue, table_written, too_deep, IsJsonDue, meant, without_toml, IsDue, json, no_json}
use Rattle.json_toml.specs.Run.{no_json_text}

pub json_due : {E : Type 0} (form : Form) (name input : List ℕ) (j : Json) (result : Result Answer E) → IsUtf8 input
    → document input ≡ Some j → IfOk result (λ a. IsJsonDue form name j a.status (string_bytes a.text))
    → IfOk result (λ a. IsDue form name input a.status (string_bytes a.text))
json_due form name input j (Ok a) utf8 is due = json utf8 is due
json_due form name input j (Err e) utf8 is due = tt

pub no_json_due : (form : Form) (name input : List ℕ) (offset : ℕ) (text : List ℕ) → IsUtf8 input
    → document input ≡ None
    → text ≡ no_json_text name (line_at input offset) (column_at input offset) (nests_deeper input)
    → IsDue form name input 1 text
no_json_due form name input offset text utf8 none says = no_json offset utf8 none says

pub ruleset due_text = (json_due, no_json_due)

pub table_due : {E : Type 0} (form : Form) (name : List ℕ) (j : Json) (members : Members) (result : Result Answer E)
    → members_in form j ≡ Ok members → IfOk result (λ a. IsTableDue name members a.status (string_bytes a.text))
    → IfOk result (λ a. IsJsonDue form name j a.status (string_bytes a.text))
table_due form name j members (Ok a) is due = meant is due
table_due form name j members (Err e) is due = tt

pub refused_due : (form : Form) (name : List ℕ) (j : Json) (fault : code.Fault) (path text : List ℕ)
    → members_in form j ≡ Err (fault, path) → text ≡ failure_line name (refusal_text fault path)
    → IsJsonDue form name j 1 text
refused_due form name j fault path text is says = without_toml is says

pub ruleset due_json = (table_due, refused_due)

-- the text of a table is due, or that it is nested too deeply
pub text_due : (name : List ℕ) (members : Members) (text : List ℕ) → depth (table members) ≤ nesting_limit
    → text ≡ document_text plain members → IsTableDue name members 0 text
text_due name members text within is = table_written within is

pub too_deep_due : (name : List ℕ) (members : Members) (fault : Fault) (text : List ℕ)
    → (fault ≡ want_of_memory) ⊎ IsTooDeep (table members) fault → fault.kind ≢ out_of_memory
    → text ≡ failure_line name (codes "nested too deeply") → IsTableDue name members 2 text
too_deep_due name members fault text (inl memory) kind says = absurd (kind (ap (λ (f : Fault). f.kind) memory))
too_deep_due name members fault text (inr deep) kind says = too_deep deep.deep says
