use Rattle.std.proofs.Common.{◌≡◌, ◌++◌, ℕ, ◌<◌, ◌≤◌, false, string_bytes, take, slice_index}
use Rattle.std.specs.Str.{IsCharBoundary}
use Rattle.basic_toml_layout.specs.Texts.{needs_escape, quoted_bytes}
use Rattle.basic_toml_layout.proofs.text.write_escaped.Given as goal

abbrev pub invariant-loop-i : goal.invariant-loop-i
invariant-loop-i l = record {
  after : l.written ≤ l.i;
  cut : IsCharBoundary l.value l.written;
  plain : (k : ℕ) → l.written ≤ k → k < l.i → needs_escape (slice_index l.bytes k) ≡ false;
  text_is : string_bytes l.text ≡ string_bytes l.initial.text ++ quoted_bytes (take l.written l.value);
}
