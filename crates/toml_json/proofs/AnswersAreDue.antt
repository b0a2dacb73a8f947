-- What is due, from what reading answered.
use Rattle.std.proofs.Common.{◌≡◌, ℕ, List, Result, Ok, Err, IfOk, ap, ◌∙◌}
use Rattle.basic_toml.specs.Data.{Members, table}
use Rattle.basic_toml_tree.specs.declared.tree.Tree.{Tree}
use Rattle.basic_toml_tree.specs.Data.{table_data}
use Rattle.toml_findings.specs.declared.finding.Unread.{Unread}
use Rattle.toml_findings.specs.declared.finding.Unread.TheVariants as unread
use Rattle.toml_findings.specs.Findings.{Reads}
use Rattle.toml_json.specs.declared.run.Style.{Style}
use Rattle.toml_json.specs.declared.run.Answer.{Answer}
use Rattle.toml_json.specs.declared.run.Answer.TheVariants.{Json, Refused}
use Rattle.toml_json.specs.Run.{json_lines, IsAnswer, IsJson, IsRefusal, written, refused}

json_due : (style : Style) (name input : List ℕ) (tree : Tree) (ms : Members) (answer : Answer)
    → Reads input (Ok tree) → table ms ≡ table_data tree.root → IsJson (json_lines style (table ms)) answer
    → IsAnswer style name input answer
json_due style name input tree ms (Json text) (utf8, document) same says =
    written utf8 document (says ∙ ap (json_lines style) same)
json_due style name input tree ms (Refused text) is same says = absurd says

pub json_answered : {E : Type 0} (style : Style) (name input : List ℕ) (tree : Tree) (ms : Members)
    (result : Result Answer E) → Reads input (Ok tree) → table ms ≡ table_data tree.root
    → IfOk result (IsJson (json_lines style (table ms))) → IfOk result (IsAnswer style name input)
json_answered style name input tree ms (Ok answer) is same says = json_due style name input tree ms answer is same says
json_answered style name input tree ms (Err e) is same says = tt

refusal_due : (style : Style) (name input : List ℕ) (u : Unread) (answer : Answer) → Reads input (Err u)
    → IsRefusal name u answer → IsAnswer style name input answer
refusal_due style name input unread.OutOfMemory answer wrong says = absurd says
refusal_due style name input (unread.Refused finding) (Json text) wrong says = absurd says
refusal_due style name input (unread.Refused finding) (Refused text) wrong says = refused wrong says

pub refusal_answered : {E : Type 0} (style : Style) (name input : List ℕ) (u : Unread) (result : Result Answer E)
    → Reads input (Err u) → IfOk result (IsRefusal name u) → IfOk result (IsAnswer style name input)
refusal_answered style name input u (Ok answer) wrong says = refusal_due style name input u answer wrong says
refusal_answered style name input u (Err e) wrong says = tt
