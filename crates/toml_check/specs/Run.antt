-- What is said of files, and how a run over them ends. (own)
use Rattle.std.specs.Prelude.{◌≡◌, ◌⊎◌, ℕ, max, Bool, if◌then◌else◌, IsUtf8, List, [], ◌∷◌, ◌++◌, codes, Option, IfSome}
use Rattle.std.specs.Io.KnownBytes.{Appends, Keeps}
use Rattle.basic_toml.specs.tokens.Text.{folded}
use Rattle.basic_toml.specs.Data.{Data}
use Rattle.basic_toml.specs.Document.{IsDocument}
use Rattle.toml_findings.specs.Findings.{Finding, IsFinding, finding_text}
use Rattle.toml_streams.specs.Streams.{AppendsFront, display_name, failure_line}

abbrev pub refusal_text : Bool → List ℕ → Finding → List ℕ
refusal_text quiet name finding = if quiet then [] else display_name name ++ (codes ":" ++ finding_text finding)

-- What is said of the bytes of a file, and the status: nothing of a document, and else what is wrong with it.
pub data IsVerdict (quiet : Bool) (name bytes : List ℕ) : ℕ → List ℕ → Type 0 where
  toml : {tree : Data} → IsUtf8 bytes → IsDocument (folded bytes) tree → IsVerdict quiet name bytes 0 []
  refused : {finding : Finding} → IsFinding bytes finding
      → IsVerdict quiet name bytes 1 (refusal_text quiet name finding)

-- the file could not be read, for some reason
abbrev pub IsUnread : List ℕ → ℕ → List ℕ → Type 0
IsUnread name status text = (status ≡ 3) × ((reason : List ℕ) × (text ≡ failure_line (display_name name) reason))

-- either, by the bytes that are known of the file
abbrev pub IsSaid : Bool → List ℕ → Option (List ℕ) → ℕ → List ℕ → Type 0
IsSaid quiet name known status text =
    IsUnread name status text ⊎ IfSome known (λ bytes. IsVerdict quiet name bytes status text)

-- A run over files, by what a writer holds before and after it, and its status, the highest of theirs. It ends early
-- where the writer fails, with a front of what is said of a file, or where memory for that is refused.
pub data ChecksAll (quiet : Bool) (bytes : List ℕ → Option (List ℕ))
    : List (List ℕ) → Option (List ℕ) → Option (List ℕ) → ℕ → Type 0 where
  none : {old new : Option (List ℕ)} → Keeps old new → ChecksAll quiet bytes [] old new 0
  next : {name : List ℕ} {names : List (List ℕ)} {old mid new : Option (List ℕ)} {status others : ℕ} {text : List ℕ}
      → IsSaid quiet name (bytes name) status text → Appends old mid text
      → ChecksAll quiet bytes names mid new others → ChecksAll quiet bytes (name ∷ names) old new (max status others)
  not_written : {name : List ℕ} {names : List (List ℕ)} {old new : Option (List ℕ)} {status : ℕ} {text : List ℕ}
      → IsSaid quiet name (bytes name) status text → AppendsFront old new text
      → ChecksAll quiet bytes (name ∷ names) old new 3
  no_memory : {name : List ℕ} {names : List (List ℕ)} {old new : Option (List ℕ)} → Keeps old new
      → ChecksAll quiet bytes (name ∷ names) old new 3
