-- What sections say of paths: marks, own. A header passes through a table, goes by an array's latest element, names a
-- table or the element that it adds, and adds an element to an array. A row passes through tables by its dots, and
-- gives a value. Two sections clash exactly where a mark of one and a mark of the other may not stand together.
use Rattle.std.specs.Prelude.{ℕ, Bool, true, false, ◌&&◌, List, [], ◌∷◌, ◌++◌, Option, Some, None}
use Rattle.std.specs.List.{list_any}
use Rattle.basic_toml_value.specs.Data.{Data}
use Rattle.basic_toml_grammar.specs.Sections.{KeyTexts, texts, Rows, no_rows, row}
use Rattle.basic_toml_grammar.specs.Steps.{Step, key, number, Path, path_eq}
use Rattle.basic_toml_grammar.specs.Mentions.{finished}
use Rattle.basic_toml_grammar.specs.Placed.{Placed}

pub data MarkKind : Type 0 where
  passed by_latest named added dotted : MarkKind
  valued : Data → MarkKind

-- what may not be said of one path
abbrev pub collide : MarkKind → MarkKind → Bool
collide (valued v) l = true
collide k (valued v) = true
collide named named = true
collide named added = true
collide added named = true
collide added passed = true
collide passed added = true
collide named dotted = true
collide dotted named = true
collide added dotted = true
collide dotted added = true
collide k l = false

pub record Mark : Type 0 where
  pub path : Path
  pub kind : MarkKind

abbrev pub mark : Path → MarkKind → Mark
mark p k = record { path = p; kind = k }

-- marks one step further down
abbrev pub after : Step → List Mark → List Mark
after s [] = []
after s (m ∷ ms) = mark (s ∷ m.path) m.kind ∷ after s ms

-- how a header takes a step on its way
abbrev pub passing : Step → MarkKind
passing (key k) = passed
passing (number n) = by_latest

-- of a row with these keys and this value
abbrev pub marks_of_keys : KeyTexts → Data → List Mark
marks_of_keys [] v = mark [] (valued v) ∷ []
marks_of_keys (k ∷ []) v = mark (key k ∷ []) (valued v) ∷ []
marks_of_keys (k ∷ l ∷ ks) v = mark (key k ∷ []) dotted ∷ after (key k) (marks_of_keys (l ∷ ks) v)

abbrev pub marks_of_rows : Rows → List Mark
marks_of_rows no_rows = []
marks_of_rows (row keys at value rows) = marks_of_keys (texts keys) (finished value) ++ marks_of_rows rows

-- of a section from its target on, and from each step before it
abbrev pub marks_there : Option ℕ → Rows → List Mark
marks_there None rows = mark [] named ∷ marks_of_rows rows
marks_there (Some n) rows = mark [] added ∷ after (number n) (mark [] named ∷ marks_of_rows rows)

abbrev pub marks_from : Option ℕ → Rows → Path → List Mark
marks_from e rows [] = marks_there e rows
marks_from e rows (s ∷ t) = mark [] (passing s) ∷ after s (marks_from e rows t)

abbrev pub marks : Placed → List Mark
marks l = marks_from l.element l.rows l.target

abbrev pub all_marks : List Placed → List Mark
all_marks [] = []
all_marks (l ∷ ls) = marks l ++ all_marks ls

-- two marks that may not stand together
abbrev pub hits : Mark → Mark → Bool
hits x m = path_eq x.path m.path && collide x.kind m.kind

-- some mark that stands hits this one; and some one of these
abbrev pub refuses : List Mark → Mark → Bool
refuses standing m = list_any (λ x. hits x m) standing

abbrev pub is_refused : List Mark → List Mark → Bool
is_refused standing ms = list_any (refuses standing) ms
