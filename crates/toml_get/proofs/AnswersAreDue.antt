-- What is due, from what each step to it answered.
use Rattle.std.proofs.Common.{◌≡◌, ℕ, ◌≤◌, List, Option, Some, None, Result, Ok, Err, IfOk, IfSome, sym, subst, ap, ◌∙◌}
use Rattle.std.proofs.Common.{arith, string_bytes, option_map}
use Rattle.std.specs.Borrow.{Bor}
use Rattle.basic_toml_value.specs.Data.{Data, Members, table}
use Rattle.basic_toml_value.specs.Nesting.{nesting_limit}
use Rattle.basic_toml_value.specs.View.{view}
use Rattle.basic_toml_value.specs.declared.value.Value.{Value}
use Rattle.basic_toml_grammar.specs.Depth.{depth}
use Rattle.basic_toml_tree.specs.Data.{table_data}
use Rattle.basic_toml_tree.specs.declared.tree.Tree.{Tree}
use Rattle.basic_toml.proofs.DocumentsFit.{document_fits}
use Rattle.toml_findings.specs.Findings.{Reads, finding_of}
use Rattle.toml_findings.specs.declared.finding.Finding as code
use Rattle.toml_findings.specs.declared.finding.Unread.TheVariants.{Refused}
use Rattle.toml_get.proofs.ValuesFit.{along_below}
use Rattle.toml_get.specs.Fronts.{steps_seen, malformed_text}
use Rattle.toml_get.specs.Run.{IsDueOf, IsDueIn, stands, IsDue, read, refused, refusal_text, IsSaidAlong, due}
use Rattle.toml_get.specs.Run.{unread, IsSaid, along, malformed}
use Rattle.toml_get.specs.declared.answer.Answer.{Answer}
use Rattle.toml_get.specs.declared.format.Format.{Format}
use Rattle.toml_path.specs.Find.{data_at}
use Rattle.toml_path.specs.Path.{Step, IsPath}
use Rattle.toml_path.specs.declared.path.Step as path_code
use Rattle.toml_streams.specs.Streams.{failure_line}

-- along a path
module _ {E : Type 0} (format : Format) (name path : List ℕ) (known : Option (List ℕ)) where
  pub path_said : (items slice : List path_code.Step) (result : Result Answer E) → IsPath path (steps_seen items)
      → slice ≡ items
      → IfOk result (λ a. IsSaidAlong format name (steps_seen slice) known a.status (string_bytes a.text))
      → IfOk result (λ a. IsSaid format name path known a.status (string_bytes a.text))
  path_said items slice (Ok a) is same said =
      along (subst (λ (ss : List path_code.Step). IsPath path (steps_seen ss)) (sym same) is) said
  path_said items slice (Err e) is same said = tt

pub malformed_said : (format : Format) (name path : List ℕ) (known : Option (List ℕ)) (text : List ℕ)
    → ((steps : List Step) → IsPath path steps → ⊥) → text ≡ malformed_text path
    → IsSaid format name path known 3 text
malformed_said format name path known text never says = malformed never says

pub ruleset due_from = (path_said, malformed_said)

-- of a file
module _ {E : Type 0} (format : Format) (name : List ℕ) (steps : List Step) (known : Option (List ℕ)) where
  pub known_said : (label items slice : List ℕ) (result : Result Answer E) → label ≡ name
      → IfSome known (λ bytes. items ≡ bytes) → slice ≡ items
      → IfOk result (λ a. IsDue format label steps slice a.status (string_bytes a.text))
      → IfOk result (λ a. IsSaidAlong format name steps known a.status (string_bytes a.text))
  known_said label items slice (Ok a) named is same says = due (go known is)
    where
      go : (o : Option (List ℕ)) → IfSome o (λ bytes. items ≡ bytes)
          → IfSome o (λ input. IsDue format name steps input a.status (string_bytes a.text))
      go None all = tt
      go (Some input) all =
          subst (λ (l : List ℕ). IsDue format l steps input a.status (string_bytes a.text)) named
          (subst (λ (b : List ℕ). IsDue format label steps b a.status (string_bytes a.text)) (same ∙ all) says)
  known_said label items slice (Err e) named is same says = tt

pub unread_said : (format : Format) (name : List ℕ) (steps : List Step) (known : Option (List ℕ))
    (label reason text : List ℕ) → label ≡ name → text ≡ failure_line label reason
    → IsSaidAlong format name steps known 3 text
unread_said format name steps known label reason text named says =
    unread reason (says ∙ ap (λ (l : List ℕ). failure_line l reason) named)

pub ruleset due_along = (known_said, unread_said)

-- of bytes
module _ (input : List ℕ) (tree : Tree) (ms : Members) (is : Reads input (Ok tree))
    (moved : table ms ≡ table_data tree.root) where
  pub document_due : {E : Type 0} (format : Format) (name : List ℕ) (steps : List Step) (d : Data)
      (result : Result Answer E) → d ≡ table ms
      → IfOk result (λ a. IsDueIn format steps d a.status (string_bytes a.text))
      → IfOk result (λ a. IsDue format name steps input a.status (string_bytes a.text))
  document_due format name steps d (Ok a) same says =
      read is.0 is.1
      (subst (λ (x : Data). IsDueIn format steps x a.status (string_bytes a.text)) (same ∙ moved) says)
  document_due format name steps d (Err e) same says = tt

  pub document_within : (d : Data) → d ≡ table ms → depth d ≤ nesting_limit
  document_within d same =
      subst (λ (x : Data). depth x ≤ nesting_limit) (sym (same ∙ moved))
      (document_fits _ (table_data tree.root) is.1)

pub refused_due : (format : Format) (name : List ℕ) (steps : List Step) (input : List ℕ) (finding : code.Finding)
    (text : List ℕ) → Reads input (Err (Refused finding)) → text ≡ refusal_text name (finding_of finding)
    → IsDue format name steps input 1 text
refused_due format name steps input finding text wrong says = refused wrong says

pub ruleset due_to = (document_due, document_within, refused_due)

-- at the end of the steps
module _ (tree : Data) (steps : List Step) (found : Option (Bor Value))
    (is : option_map (λ v. view v.now) found ≡ data_at tree steps) where
  pub value_there : (value : Bor Value) → found ≡ Some value → data_at tree steps ≡ Some (view value.now)
  value_there value some = sym is ∙ ap (option_map (λ (v : Bor Value). view v.now)) some

  pub none_there : found ≡ None → data_at tree steps ≡ None
  none_there none = sym is ∙ ap (option_map (λ (v : Bor Value). view v.now)) none

  pub value_within : (value : Bor Value) → found ≡ Some value → depth tree ≤ nesting_limit
      → depth (view value.now) ≤ nesting_limit
  value_within value some within =
      let below : depth (view value.now) ≤ depth tree =
      along_below tree steps (view value.now) (value_there value some) in
      omega arith

  pub value_due : {E : Type 0} (format : Format) (value : Bor Value) (result : Result Answer E) → found ≡ Some value
      → IfOk result (λ a. IsDueOf format steps (view value.now) a.status (string_bytes a.text))
      → IfOk result (λ a. IsDueIn format steps tree a.status (string_bytes a.text))
  value_due format value (Ok a) some says = stands (value_there value some) says
  value_due format value (Err e) some says = tt

pub ruleset due_in = (value_there, none_there, value_within, value_due)
