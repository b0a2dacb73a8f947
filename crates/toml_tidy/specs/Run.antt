-- What the program writes for the bytes that it reads, and how a run ends. (own)
use Rattle.std.specs.Prelude.{ℕ, suc, List, ◌++◌, codes, Option}
use Rattle.std.specs.Io.KnownBytes.{Appends, Keeps}
use Rattle.toml_answer.specs.Due as answer
use Rattle.toml_answer.specs.declared.Form.{Form}
use Rattle.toml_streams.specs.Streams.{AppendsFront, TellsFailure}

-- The status, and the text to write: the text that is due, with a line feed behind an error.
pub data IsDue (form : Form) (input : List ℕ) : ℕ → List ℕ → Type 0 where
  tidied : {text : List ℕ} {place : Option (ℕ × ℕ)} → answer.IsDue form input 0 text place → IsDue form input 0 text
  error : {status : ℕ} {text : List ℕ} {place : Option (ℕ × ℕ)} → answer.IsDue form input (suc status) text place
      → IsDue form input (suc status) (text ++ codes "\n")

-- How a run ends that reads these bytes of the file of a name in messages, and writes in this form, by what standard
-- output and standard error hold before and after it, with its status. What is due goes to standard output, and only
-- what failed to standard error.
pub data Ends (form : Form) (name input : List ℕ) (output output' errors errors' : Option (List ℕ)) : ℕ → Type 0 where
  done : {status : ℕ} {text : List ℕ} → IsDue form input status text → Appends output output' text
      → Keeps errors errors' → Ends form name input output output' errors errors' status
  -- reading or memory failed
  not_answered : Keeps output output' → TellsFailure name errors errors'
      → Ends form name input output output' errors errors' 3
  -- standard output failed
  not_written_all : {status : ℕ} {text : List ℕ} → IsDue form input status text → AppendsFront output output' text
      → TellsFailure (codes "stdout") errors errors' → Ends form name input output output' errors errors' 3
