-- What a section says of a path, as a relation.
use Rattle.std.proofs.Common.{ℕ, List, [], ◌∷◌, Option, Some, None}
use Rattle.basic_toml_value.specs.Data.{Data}
use Rattle.basic_toml_grammar.specs.Sections.{Key, KeyTexts, texts, Rows, row, Raw}
use Rattle.basic_toml_grammar.specs.Steps.{Step, key, number, Path}
use Rattle.basic_toml_grammar.specs.Mentions.{finished}
use Rattle.basic_toml_grammar.specs.Marks.{MarkKind, passed, by_latest, named, added, dotted, valued}

pub data KeysSay (v : Data) : KeyTexts → Path → MarkKind → Type 0 where
  value_here : KeysSay v [] [] (valued v)
  dots_here : {k l : List ℕ} {ks : KeyTexts} → KeysSay v (k ∷ l ∷ ks) (key k ∷ []) dotted
  deeper : {k : List ℕ} {ks : KeyTexts} {q : Path} {m : MarkKind} → KeysSay v ks q m → KeysSay v (k ∷ ks) (key k ∷ q) m

pub data RowsSay : Rows → Path → MarkKind → Type 0 where
  this_row : {keys : List Key} {at : ℕ} {v : Raw} {rs : Rows} {q : Path} {m : MarkKind}
      → KeysSay (finished v) (texts keys) q m → RowsSay (row keys at v rs) q m
  later_row : {keys : List Key} {at : ℕ} {v : Raw} {rs : Rows} {q : Path} {m : MarkKind} → RowsSay rs q m
      → RowsSay (row keys at v rs) q m

-- by its element, its rows, and what is left of its target
pub data Says : Option ℕ → Rows → Path → Path → MarkKind → Type 0 where
  names : {rs : Rows} → Says None rs [] [] named
  rows_say : {rs : Rows} {q : Path} {m : MarkKind} → RowsSay rs q m → Says None rs [] q m
  adds : {n : ℕ} {rs : Rows} → Says (Some n) rs [] [] added
  into : {n : ℕ} {rs : Rows} {q : Path} {m : MarkKind} → Says None rs [] q m → Says (Some n) rs [] (number n ∷ q) m
  passes : {e : Option ℕ} {rs : Rows} {k : List ℕ} {t : Path} → Says e rs (key k ∷ t) [] passed
  goes_by : {e : Option ℕ} {rs : Rows} {n : ℕ} {t : Path} → Says e rs (number n ∷ t) [] by_latest
  on : {e : Option ℕ} {rs : Rows} {s : Step} {t q : Path} {m : MarkKind} → Says e rs t q m → Says e rs (s ∷ t) (s ∷ q) m
