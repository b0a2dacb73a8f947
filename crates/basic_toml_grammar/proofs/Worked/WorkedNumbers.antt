-- Worked texts: the offsets of invalid numbers.
use Rattle.std.proofs.Common.{◌≡◌, ℕ, List, [], ◌∷◌, Option, Some, None, refl, codes, length, drop}
use Rattle.std.specs.Prelude.{map}
use Rattle.std.specs.Str.{chars}
use Rattle.basic_toml_tokens.specs.Text.{folded}
use Rattle.basic_toml_grammar.specs.NumberFaults.{number_fault}

-- of the number after so many characters of a text
abbrev fault : ℕ → List ℕ → Option ℕ
fault n bytes = number_fault (length bytes) (drop n (folded bytes))

at_a : map (fault 4)
    (codes "a = 01" ∷ codes "a = 1__1" ∷ codes "a = 9223372036854775808" ∷ codes "a = +-5" ∷ codes "a = 0x-1"
    ∷ codes "a = -0x1" ∷ codes "a = +00"
    ∷ codes "a = 0." ∷ codes "a = 0.0E" ∷ codes "a = 0.0e-" ∷ codes "a = 01." ∷ codes "a = 1_." ∷ codes "a = 1x."
    ∷ codes "a = 00_"
    ∷ codes "a = +_1" ∷ codes "a = -9223372036854775808" ∷ codes "a = 9e99999" ∷ codes "a = +inf" ∷ codes "a = 0x00fF"
    ∷ codes "a = 1_0e+0_1" ∷ [])
    ≡ Some 5 ∷ Some 4 ∷ Some 4 ∷ Some 5 ∷ Some 6 ∷ Some 4 ∷ Some 6
    ∷ Some 6 ∷ Some 4 ∷ Some 8 ∷ Some 7 ∷ Some 7 ∷ Some 7 ∷ Some 5
    ∷ Some 5 ∷ None ∷ None ∷ None ∷ None ∷ None ∷ []
unfolding chars
at_a = refl

at_foo : map (fault 6)
    (codes "foo = 0__0" ∷ codes "foo = 1997-09-09" ∷ codes "foo = 09:09:09" ∷ codes "foo = 1_" ∷ codes "foo = 1_0_"
    ∷ codes "foo = 0_" ∷ codes "foo = 0.0e"
    ∷ codes "foo = 0.0e+" ∷ codes "foo = -9223372036854775809" ∷ codes "foo = 199-09-09"
    ∷ codes "foo = 1997-09-09T09:09:09Z" ∷ codes "foo = 1997-09-0909:09:09"
    ∷ codes "foo = 00" ∷ codes "foo = 00.0" ∷ codes "foo = 09:09:09.09" ∷ codes "foo = -00" ∷ codes "foo = -00.0"
    ∷ codes "foo = +00.0" ∷ codes "foo = 0.e" ∷ codes "foo = 0.E" ∷ [])
    ≡ Some 6 ∷ Some 6 ∷ Some 7 ∷ Some 6 ∷ Some 6 ∷ Some 6 ∷ Some 6
    ∷ Some 6 ∷ Some 6 ∷ Some 6 ∷ Some 6 ∷ Some 6
    ∷ Some 7 ∷ Some 7 ∷ Some 7 ∷ Some 8 ∷ Some 8 ∷ Some 8 ∷ Some 8 ∷ Some 8 ∷ []
unfolding chars
at_foo = refl

after_equals : fault 2 (codes "0=0r=false") ≡ Some 2
unfolding chars
after_equals = refl

-- what begins no number has no such fault
no_number : map (fault 4) (codes "a = !" ∷ codes "a = x" ∷ codes "a = _1" ∷ codes "a = true" ∷ codes "a = 1+2"
    ∷ codes "a = inf.x" ∷ []) ≡ None ∷ None ∷ None ∷ None ∷ None ∷ Some 4 ∷ []
unfolding chars
no_number = refl
