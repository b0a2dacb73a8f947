-- What the program writes for a path and the bytes of a file, and how a run ends. (own)
use Rattle.std.specs.Prelude.{◌≡◌, ℕ, suc, IsUtf8, List, ◌++◌, codes, Option, Some, None, IfSome}
use Rattle.std.specs.Io.KnownBytes.{Appends, Keeps}
use Rattle.basic_toml.specs.Data.{Data}
use Rattle.basic_toml.specs.Document.{IsDocument}
use Rattle.basic_toml.specs.tokens.Text.{folded}
use Rattle.toml_findings.specs.Findings.{Finding, IsFinding, finding_of, finding_text}
use Rattle.toml_findings.specs.declared.finding.Finding as code
use Rattle.toml_get.specs.Fronts.{malformed_text, no_table_text, TellsNothing}
use Rattle.toml_get.specs.Printed.{printed}
use Rattle.toml_get.specs.declared.format.Format.{Format}
use Rattle.toml_path.specs.Find.{data_at}
use Rattle.toml_path.specs.Path.{Step, IsPath}
use Rattle.toml_streams.specs.Streams.{AppendsFront, TellsFailure, failure_line}

-- the code's value
abbrev pub finding_seen : code.Finding → Finding
finding_seen finding = finding_of finding

-- what is wrong with the file of a name
abbrev pub refusal_text : List ℕ → Finding → List ℕ
refusal_text name finding = name ++ (codes ":" ++ finding_text finding)

-- The status, and what goes to standard output where that is 0, and else to standard error. Of data at the end of the
-- steps: what is printed of it, or that it is no table.
pub data IsDueOf (format : Format) (steps : List Step) (d : Data) : ℕ → List ℕ → Type 0 where
  is_printed : {text : List ℕ} → printed format d ≡ Some text → IsDueOf format steps d 0 text
  no_table : {text : List ℕ} → printed format d ≡ None → text ≡ no_table_text steps → IsDueOf format steps d 1 text

-- of a document: the same of what stands at the end of the steps, or that nothing does
pub data IsDueIn (format : Format) (steps : List Step) (tree : Data) : ℕ → List ℕ → Type 0 where
  stands : {d : Data} {status : ℕ} {text : List ℕ} → data_at tree steps ≡ Some d → IsDueOf format steps d status text
      → IsDueIn format steps tree status text
  nothing : {text : List ℕ} → data_at tree steps ≡ None → TellsNothing tree steps text
      → IsDueIn format steps tree 1 text

-- of the bytes of the file that has a name in messages: the same of their document, or what is wrong with them
pub data IsDue (format : Format) (name : List ℕ) (steps : List Step) (input : List ℕ) : ℕ → List ℕ → Type 0 where
  read : {tree : Data} {status : ℕ} {text : List ℕ} → IsUtf8 input → IsDocument (folded input) tree
      → IsDueIn format steps tree status text → IsDue format name steps input status text
  refused : {finding : Finding} {text : List ℕ} → IsFinding input finding → text ≡ refusal_text name finding
      → IsDue format name steps input 1 text

-- of the file, by the bytes that are known of it: the same, or that it could not be read
pub data IsSaidAlong (format : Format) (name : List ℕ) (steps : List Step) (known : Option (List ℕ))
    : ℕ → List ℕ → Type 0 where
  due : {status : ℕ} {text : List ℕ} → IfSome known (λ input. IsDue format name steps input status text)
      → IsSaidAlong format name steps known status text
  unread : (reason : List ℕ) {text : List ℕ} → text ≡ failure_line name reason
      → IsSaidAlong format name steps known 3 text

-- along a path: the same along its steps, or that it is malformed, which comes before all that is wrong with the file
pub data IsSaid (format : Format) (name path : List ℕ) (known : Option (List ℕ)) : ℕ → List ℕ → Type 0 where
  along : {steps : List Step} {status : ℕ} {text : List ℕ} → IsPath path steps
      → IsSaidAlong format name steps known status text → IsSaid format name path known status text
  malformed : {text : List ℕ} → ((steps : List Step) → IsPath path steps → ⊥) → text ≡ malformed_text path
      → IsSaid format name path known 3 text

-- How a run ends, by what standard output and standard error hold before and after it, with its status.
pub data Ends (format : Format) (name path : List ℕ) (known output output' errors errors' : Option (List ℕ))
    : ℕ → Type 0 where
  done : {text : List ℕ} → IsSaid format name path known 0 text → Appends output output' text → Keeps errors errors'
      → Ends format name path known output output' errors errors' 0
  told : {status : ℕ} {text : List ℕ} → IsSaid format name path known (suc status) text → Keeps output output'
      → Appends errors errors' text → Ends format name path known output output' errors errors' (suc status)
  -- memory failed
  not_answered : Keeps output output' → TellsFailure name errors errors'
      → Ends format name path known output output' errors errors' 3
  -- standard output failed
  not_written_all : {text : List ℕ} → IsSaid format name path known 0 text → AppendsFront output output' text
      → TellsFailure (codes "stdout") errors errors' → Ends format name path known output output' errors errors' 3
  -- standard error failed
  not_told_all : {status : ℕ} {text : List ℕ} → IsSaid format name path known (suc status) text
      → Keeps output output' → AppendsFront errors errors' text
      → Ends format name path known output output' errors errors' 3
