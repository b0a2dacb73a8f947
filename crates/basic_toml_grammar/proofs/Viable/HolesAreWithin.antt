-- A hole stands in what is left of its text; where it is not at the front, less is left.
use Rattle.std.proofs.Common.{◌≡◌, ◌<◌, ◌≤◌, Bool, true, false, length, refl, sym, arith}
use Rattle.std.proofs.lemmas.Bool.{false≢true}
use Rattle.basic_toml_tokens.specs.Text.{Text}
use Rattle.basic_toml_grammar.specs.Holes as holes
use Rattle.basic_toml_grammar.specs.Holes.{Hole, HoleInKeys, HoleInValue, HoleInElements, HoleInFields, HoleInFieldsOn}
use Rattle.basic_toml_grammar.specs.Holes.{HoleInRow}
use Rattle.basic_toml_grammar.proofs.Completion.HeadersFollow.{row_opens}
use Rattle.basic_toml_grammar.proofs.Grammar.ReaderIsComplete.{key_shorter, keys_shorter, value_shorter, row_shorter}
use Rattle.basic_toml_grammar.proofs.Grammar.ReaderIsComplete.{shorter_after_blanks, shorter_after_gap, blanks_length}
use Rattle.basic_toml_grammar.proofs.Grammar.ReaderIsComplete.{gap_length}
use Rattle.basic_toml_grammar.proofs.Grammar.StringsAreRead.{sign_length}

-- the hole stands at the front
abbrev pub keys_first : {h : Hole} {text at : Text} → HoleInKeys text h at → Bool
keys_first holes.this_key = true
keys_first (holes.later_key k s d) = false

pub keys_within : {h : Hole} {text at : Text} → HoleInKeys text h at → length at ≤ length text
keys_within holes.this_key = omega arith
keys_within (holes.later_key {mid = mid} {next = next} k s d) =
    omega (arith, key_shorter k, shorter_after_blanks mid s, blanks_length next, keys_within d)

pub keys_past : {h : Hole} {text at : Text} (d : HoleInKeys text h at) → keys_first d ≡ false
    → length at < length text
keys_past holes.this_key e = absurd (false≢true (sym e))
keys_past (holes.later_key {mid = mid} {next = next} k s d) e =
    omega (arith, key_shorter k, shorter_after_blanks mid s, blanks_length next, keys_within d)

mutual
  pub value_within : {h : Hole} {text at : Text} → HoleInValue text h at → length at ≤ length text
  value_within holes.this_value = omega arith
  value_within (holes.array {next = next} s d) = omega (arith, sign_length s, gap_length next, elements_within d)
  value_within (holes.inline {next = next} s d) = omega (arith, sign_length s, blanks_length next, fields_within d)

  pub elements_within : {h : Hole} {text at : Text} → HoleInElements text h at → length at ≤ length text
  elements_within (holes.in_element m d) = value_within d
  elements_within (holes.after_this {mid = mid} v) = omega (arith, value_shorter v, gap_length mid)
  elements_within (holes.later_element {mid = mid} {next = next} v s d) =
      omega (arith, value_shorter v, shorter_after_gap mid s, gap_length next, elements_within d)

  pub fields_within : {h : Hole} {text at : Text} → HoleInFields text h at → length at ≤ length text
  fields_within (holes.fields m d) = fields_on_within d

  pub fields_on_within : {h : Hole} {text at : Text} → HoleInFieldsOn text h at → length at ≤ length text
  fields_on_within (holes.in_row d) = row_within d
  fields_on_within (holes.after_row {mid = mid} w) = omega (arith, row_shorter w, blanks_length mid)
  fields_on_within (holes.later_row {mid = mid} {next = next} w s d) =
      omega (arith, row_shorter w, shorter_after_blanks mid s, blanks_length next, fields_on_within d)

  pub row_within : {h : Hole} {text at : Text} → HoleInRow text h at → length at ≤ length text
  row_within (holes.in_keys d) = keys_within d
  row_within (holes.after_keys {mid = mid} ks) = omega (arith, keys_shorter ks, blanks_length mid)
  row_within (holes.in_value {mid = mid} {next = next} ks s d) =
      omega (arith, keys_shorter ks, shorter_after_blanks mid s, blanks_length next, value_within d)

pub row_past : {h : Hole} {text at : Text} (d : HoleInRow text h at) → row_opens d ≡ false → length at < length text
row_past (holes.in_keys holes.this_key) e = absurd (false≢true (sym e))
row_past (holes.in_keys (holes.later_key k s d)) e = keys_past (holes.later_key k s d) refl
row_past (holes.after_keys {mid = mid} ks) e = omega (arith, keys_shorter ks, blanks_length mid)
row_past (holes.in_value {mid = mid} {next = next} ks s d) e =
    omega (arith, keys_shorter ks, shorter_after_blanks mid s, blanks_length next, value_within d)
