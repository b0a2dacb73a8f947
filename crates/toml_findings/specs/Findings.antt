-- What is wrong with the bytes of a text, and where, as it is told. (own)
use Rattle.std.specs.Prelude.{◌≡◌, ℕ, Bool, true, false, ◌&&◌, IsUtf8, List, [], ◌++◌, length, take, codes, decimal}
use Rattle.std.specs.Prelude.{string_bytes, Option, Some, None, Result, Ok, Err}
use Rattle.std.specs.Str.{bytes_eq}
use Rattle.std.specs.Str.Lossy.{utf8_valid_len}
use Rattle.basic_toml.specs.tokens.Text.{folded}
use Rattle.basic_toml.specs.Data.{Data}
use Rattle.basic_toml.specs.Document.{IsDocument}
use Rattle.basic_toml.specs.Fault.{Fault, FaultKind, reading}
use Rattle.basic_toml.specs.Faults as read
use Rattle.basic_toml.specs.FaultText.{message}
use Rattle.basic_toml.specs.ReadErrorText.{key_text}
use Rattle.basic_toml.specs.ReadFaults.{fault_in}
use Rattle.basic_toml.specs.Reading.{IsTextFault}
use Rattle.basic_toml_tree.specs.declared.tree.Tree.{Tree}
use Rattle.basic_toml_tree.specs.Data.{table_data}
use Rattle.toml_findings.specs.Dates.{is_date_or_time}
use Rattle.toml_findings.specs.OtherKeys.{OtherKey, IsOther, maybe_other, maybe_text}
use Rattle.toml_findings.specs.Places.{Place, place_at, place_of}
use Rattle.toml_findings.specs.declared.finding.Finding as code
use Rattle.toml_findings.specs.declared.finding.Unread.{Unread}
use Rattle.toml_findings.specs.declared.finding.Unread.TheVariants.{Refused, OutOfMemory}

pub record Finding : Type 0 where
  pub message : List ℕ
  pub place : Place
  pub is_date_or_time : Bool
  pub other : Option OtherKey

-- the code's value, its texts as bytes
abbrev pub finding_of : code.Finding → Finding
finding_of f = record {
  message = string_bytes f.message;
  place = place_of f.place;
  is_date_or_time = f.is_date_or_time;
  other = maybe_other f.other;
}

-- a number, or a colon where another thing is wanted: so a date or a time is refused
abbrev pub refuses_value : FaultKind → Bool
refuses_value (reading read.number_invalid) = true
refuses_value (reading (read.wanted expected found)) = bytes_eq found (codes "a colon")
refuses_value _ = false

-- what is told of a fault that stands at an offset, and of the other key, where it is one of a clash
abbrev pub refusal : List ℕ → Fault → ℕ → Option OtherKey → Finding
refusal text fault offset other = record {
  message = message fault.kind ++ key_text fault.key_path;
  place = place_at text offset;
  is_date_or_time = refuses_value fault.kind && is_date_or_time text offset;
  other = other;
}

pub record IsRefusal (text : List ℕ) (fault : Fault) (finding : Finding) : Type 0 where
  pub offset : ℕ
  pub stands : fault.offset ≡ Some offset
  pub other : IsOther text fault offset finding.other
  pub told : finding ≡ refusal text fault offset finding.other

-- the longest text that bytes begin with
abbrev pub valid_front : List ℕ → List ℕ
valid_front bytes = take (utf8_valid_len bytes) bytes

-- what is told of bytes that are not UTF-8: they are wrong where their text ends
abbrev pub not_utf8 : List ℕ → Finding
not_utf8 bytes = record {
  message = codes "input is not valid UTF-8";
  place = place_at (valid_front bytes) (length (valid_front bytes));
  is_date_or_time = false;
  other = None;
}

-- what is wrong with bytes that are no document: an error that their text allows, where it stands; or that they are no
-- text
pub data IsFinding (input : List ℕ) : Finding → Type 0 where
  refused : {error : read.Fault} {finding : Finding} → IsUtf8 input
      → ((tree : Data) → IsDocument (folded input) tree → ⊥) → IsTextFault input error
      → IsRefusal input (fault_in input error) finding → IsFinding input finding
  no_text : {finding : Finding} → (IsUtf8 input → ⊥) → finding ≡ not_utf8 input → IsFinding input finding

-- the tree of the document; or what is wrong, memory aside
abbrev pub Reads : List ℕ → Result Tree Unread → Type 0
Reads input (Ok tree) = IsUtf8 input × IsDocument (folded input) (table_data tree.root)
Reads input (Err (Refused finding)) = IsFinding input (finding_of finding)
Reads input (Err OutOfMemory) = Unit {0}

-- nothing is wrong with a document
abbrev pub Finds : List ℕ → Option code.Finding → Type 0
Finds input None = IsUtf8 input × ((tree : Data) × IsDocument (folded input) tree)
Finds input (Some finding) = IsFinding input (finding_of finding)

-- the last line of a finding at a date or a time
abbrev pub note : Bool → List ℕ
note true = codes "note: dates and times are not read\n"
note false = []

-- how a finding prints, behind the name of a file
abbrev pub finding_text : Finding → List ℕ
finding_text f =
    decimal f.place.line ++ (codes ":" ++ (decimal f.place.column ++ (codes ": " ++ (f.message ++ (codes "\n"
    ++ (f.place.source ++ (codes "\n" ++ (f.place.caret ++ (codes "\n" ++ (note f.is_date_or_time
    ++ maybe_text f.other))))))))))
