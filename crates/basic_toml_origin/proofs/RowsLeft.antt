-- What the rows that are left lead to.
use Rattle.std.proofs.Common.{◌≡◌, ℕ, ◌+◌, ◌<◌, List, [], ◌∷◌, ◌++◌, Option}
use Rattle.std.proofs.Common.{ap, drop, get_or, length, map, take}
use Rattle.std.specs.Option.{option_or}
use Rattle.basic_toml_grammar.specs.Steps.{Path}
use Rattle.basic_toml_read.specs.declared.section.Key as code
use Rattle.basic_toml_read.specs.declared.section.Row.{Row, out-Row}
use Rattle.basic_toml_read.specs.SectionView.{key_of, lined_of, rows_from}
use Rattle.basic_toml_read.proofs.NextRow.{next_row}
use Rattle.basic_toml_origin.specs.declared.origin.Origin.{Origin}
use Rattle.basic_toml_origin.specs.Origin.{by_row, in_rows, in_value}

-- where the first of them leads; else where the others do
pub by_first : (left own : List code.Key) (rows : List Row) (i : ℕ) (r : Row) (p : Path) (found : Option Origin)
    → i < length rows → r ≡ get_or rows i r → own ≡ take (out-Row r).parents left
    → found ≡ by_row (map key_of own ++ (lined_of r).key ∷ [])
    (λ k q. in_value k (lined_of r).start (lined_of r).value q) p
    → in_rows (rows_from (map key_of left) (map lined_of (drop i rows))) p
    ≡ option_or found (in_rows (rows_from (map key_of (drop (out-Row r).parents left))
    (map lined_of (drop (i + 1) rows))) p)
by_first left own rows i r p found within is owned led =
    rw (led, owned) (ap (λ rs. in_rows rs p) (next_row left rows i r within is))
