-- What a writer took of a text, and how a stream that fails is named. (own)
use Rattle.std.specs.Prelude.{ℕ, List, ◌++◌, codes, if◌then◌else◌, take, Option}
use Rattle.std.specs.Io.KnownBytes.{Appends}
use Rattle.std.specs.Str.{bytes_eq}

-- a front of the text was written
abbrev pub AppendsFront : Option (List ℕ) → Option (List ℕ) → List ℕ → Type 0
AppendsFront old new text = (n : ℕ) × Appends old new (take n text)

-- standard input has a name of its own
abbrev pub display_name : List ℕ → List ℕ
display_name name = if bytes_eq name (codes "-") then codes "stdin" else name

-- the line that says which stream failed, and why
abbrev pub failure_line : List ℕ → List ℕ → List ℕ
failure_line name reason = name ++ (codes ": " ++ (reason ++ codes "\n"))

-- a front of that line was written, for some reason
abbrev pub TellsFailure : List ℕ → Option (List ℕ) → Option (List ℕ) → Type 0
TellsFailure name old new = (reason : List ℕ) × AppendsFront old new (failure_line name reason)
