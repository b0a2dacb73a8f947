use Rattle.std.proofs.Common.{◌≡◌, ◌++◌, ℕ, ◌<◌, ◌≤◌, false, string_bytes, drop}
use Rattle.std.specs.Str.{IsCharBoundary}
use Rattle.basic_toml_layout.specs.Pretty.{line_bytes}
use Rattle.basic_toml_layout.specs.Parts.{needs_line_escape}
use Rattle.basic_toml_layout.proofs.lines.write_line_bytes.Given as goal

-- with what is left, the text is whole
abbrev pub invariant-loop-i : goal.invariant-loop-i
invariant-loop-i l = record {
  after : l.written ≤ l.i;
  cut : IsCharBoundary l.value l.written;
  plain : (k : ℕ) → l.written ≤ k → k < l.i → needs_line_escape (drop k l.value) ≡ false;
  text_is : string_bytes l.text ++ line_bytes (drop l.written l.value)
      ≡ string_bytes l.initial.text ++ line_bytes l.value;
}
