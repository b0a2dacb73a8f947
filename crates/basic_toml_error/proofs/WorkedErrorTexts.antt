-- The texts of faults, on rows.
use Rattle.std.proofs.Common.{◌≡◌, [], ◌∷◌, codes, refl, Some, None}
use Rattle.std.specs.Fmt.{digits}
use Rattle.basic_toml_grammar.specs.Faults.{unexpected, duplicate_table}
use Rattle.basic_toml_error.specs.Fault.{reading, duplicate_key, wanted, not_text}
use Rattle.basic_toml_error.specs.FaultText.{fault_text}

e_acute : fault_text
    (record { kind = reading (unexpected 0xE9); key_path = []; offset = Some 0; line_column = Some (0, 0); anchor = None })
    ≡ codes "unexpected character found: `\\u{e9}` at line 1 column 1"
unfolding digits
e_acute = refl

key_and_offset : fault_text
    (record { kind = duplicate_key (codes "b"); key_path = codes "a" ∷ []; offset = Some 18; line_column = Some (1, 11); anchor = None })
    ≡ codes "duplicate key: `b` for key `a` at line 2 column 12"
unfolding digits
key_and_offset = refl

long_key_path : fault_text (record {
  kind = reading (duplicate_table (codes "a.b"));
  key_path = codes "a" ∷ codes "b" ∷ [];
  offset = Some 8;
  line_column = Some (1, 0);
  anchor = None;
})
    ≡ codes "redefinition of table `a.b` for key `a.b` at line 2 column 1"
unfolding digits
long_key_path = refl

what_was_found : fault_text
    (record { kind = wanted (codes "an equals") (codes "eof"); key_path = []; offset = Some 2; line_column = Some (0, 2); anchor = None })
    ≡ codes "expected an equals, found eof at line 1 column 3"
unfolding digits
what_was_found = refl

no_offset : fault_text not_text ≡ codes "input is not valid UTF-8"
no_offset = refl
