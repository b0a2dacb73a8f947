use Rattle.std.proofs.Common.{◌≡◌, ◌+◌, ◌≤◌, drop}
use Rattle.basic_toml_layout.specs.Pretty.{columns}
use Rattle.basic_toml_layout.proofs.data.pretty.fits_line.Given as goal

-- with what is left, the columns are all
abbrev pub invariant-loop-i : goal.invariant-loop-i
invariant-loop-i l = record {
  within : l.columns ≤ 80;
  all : l.columns + columns (drop l.i l.line) ≡ columns l.line;
}
