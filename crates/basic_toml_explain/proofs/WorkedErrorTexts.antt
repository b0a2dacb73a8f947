-- The texts of errors of reading, on rows.
use Rattle.std.proofs.Common.{◌≡◌, [], ◌∷◌, codes, refl, Some}
use Rattle.std.specs.Fmt.{digits}
use Rattle.basic_toml_grammar.specs.Faults.{unexpected, duplicate_table, duplicate_key, wanted}
use Rattle.basic_toml_explain.specs.Error.{want_of_memory}
use Rattle.basic_toml_explain.specs.ReadErrorText.{escaped, read_text}

tab : escaped 9 ≡ 92 ∷ 116 ∷ []
tab = refl

quote : escaped 39 ≡ 92 ∷ 39 ∷ []
quote = refl

backslash : escaped 92 ≡ 92 ∷ 92 ∷ []
backslash = refl

-- U+007F and é are shown by their numbers
delete : escaped 127 ≡ codes "\\u{7f}"
unfolding digits
delete = refl

e_acute : read_text (record { kind = unexpected 0xE9; offset = Some 0; key_path = [] })
    ≡ codes "unexpected character found: `\\u{e9}`"
unfolding digits
e_acute = refl

carriage_return : read_text (record { kind = unexpected 13; offset = Some 5; key_path = [] })
    ≡ codes "unexpected character found: `\\r`"
carriage_return = refl

one_key : read_text (record { kind = duplicate_key (codes "b"); offset = Some 18; key_path = codes "a" ∷ [] })
    ≡ codes "duplicate key: `b` for key `a`"
one_key = refl

two_keys : read_text
    (record { kind = duplicate_table (codes "a.b"); offset = Some 8; key_path = codes "a" ∷ codes "b" ∷ [] })
    ≡ codes "redefinition of table `a.b` for key `a.b`"
two_keys = refl

what_was_found : read_text
    (record { kind = wanted (codes "an equals") (codes "eof"); offset = Some 2; key_path = [] })
    ≡ codes "expected an equals, found eof"
what_was_found = refl

no_offset : read_text want_of_memory ≡ codes "out of memory"
no_offset = refl
