-- What returns: of a value, of the elements of a list, and of a value that is written and then read as its own type. (own)
use Rattle.std.specs.Prelude.{◌≡◌, ◌⊎◌, false, List, Some, Result, IfOk, IfErr, MatchResult}
use Rattle.basic_toml_value.specs.Data.{Data}
use Rattle.basic_toml_value.specs.Nesting.{nesting_limit}
use Rattle.basic_toml_layout.specs.Written.{Written}
use Rattle.basic_toml_layout.specs.Trees.{tree_of}
use Rattle.basic_toml_emit.specs.Items.{Item}
use Rattle.basic_toml_write.specs.declared.error.WriteError.{WriteError}
use Rattle.basic_toml_write.specs.Kept.{kept}
use Rattle.basic_toml_write.specs.Shapes.{is_unsupported}
use Rattle.basic_toml_write.specs.Spelling.{Spells}
use Rattle.basic_toml_error.specs.Fault.{Fault, want_of_memory}
use Rattle.basic_toml.specs.Ser.{IsFirstFault, IsOwnFault}
use Rattle.basic_toml_returns.specs.Means.{Means}

-- What a value's calls mean is its data, it is read from them, and what is read from them means the same.
pub record Returned {A : Type 0} (calls : A → List Item) (reads : Data → A → Type 0) (meant : A → Data) (x : A)
    : Type 0 where
  pub means : Means (calls x) (Some (meant x))
  pub read : reads (meant x) x
  pub once : (y : A) → reads (meant x) y → meant y ≡ meant x

-- What a type writes, what holds of a value that was written, what the type reads, what a value means, and that each value
-- which was written returns.
pub record ReadBack (A : Type 0) : Type 1 where
  pub calls : A → List Item
  pub holds : A → Type 0
  pub reads : Data → A → Type 0
  pub meant : A → Data
  pub returns : (x : A) → holds x → Returned calls reads meant x

-- a value that is read from the data of the one that was written, means the same, and had a text: no unsupported shape
-- occurs in what the calls spell
pub record IsReturned {A : Type 0} (calls : List Item) (reads : Data → A → Type 0) (meant : A → Data) (x y : A)
    : Type 0 where
  pub value : Written
  pub spelled : Spells calls value
  pub supported : is_unsupported nesting_limit value ≡ false
  pub whole : tree_of (kept value) ≡ meant x
  pub read : reads (meant x) y
  pub same : meant y ≡ meant x

-- How a value that is written and then read as its own type ends, memory aside: with one that means exactly the same, where
-- no unsupported shape occurs in what its calls spell; else with the first error that the calls meet; or with an error of
-- the type's own, where it gives up before a call was refused. No error of reading comes.
pub record ReturnsIt {A : Type 0} (calls : A → List Item) (gives_up : A → List Item → WriteError → Type 0)
    (reads : Data → A → Type 0) (meant : A → Data) (x : A) (result : Result A Fault) : Type 0 where
  pub returned : IfOk result (IsReturned (calls x) reads meant x)
  pub succeeds : (w : Written) → Spells (calls x) w → is_unsupported nesting_limit w ≡ false
      → MatchResult result (λ y. meant y ≡ meant x) (λ f. IsOwnFault (gives_up x) f ⊎ (f ≡ want_of_memory))
  pub refused : IfErr result (λ f. (f ≡ want_of_memory) ⊎ (IsOwnFault (gives_up x) f ⊎ IsFirstFault (calls x) f))
