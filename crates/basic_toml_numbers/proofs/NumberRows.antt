-- Texts of numbers, and what they write: the definitions compute.
use Rattle.std.proofs.Common.{◌≡◌, pos, negsuc, [], Some, None, codes, refl}
use Rattle.basic_toml_numbers.specs.Numbers.{integer_of, float_of}

hexadecimal : integer_of (codes "0x00fF") ≡ Some (pos 255)
hexadecimal = refl

minus_zero : integer_of (codes "-0") ≡ Some (pos 0)
minus_zero = refl

binary : integer_of (codes "0b1_0") ≡ Some (pos 2)
binary = refl

octal : integer_of (codes "0o17") ≡ Some (pos 15)
octal = refl

thousand : integer_of (codes "+1_000") ≡ Some (pos 1000)
thousand = refl

capital_prefix : integer_of (codes "0X1") ≡ None
capital_prefix = refl

signed_prefix : integer_of (codes "+0x1") ≡ None
signed_prefix = refl

leading_zero : integer_of (codes "0_1") ≡ None
leading_zero = refl

trailing_underscore : integer_of (codes "1_") ≡ None
trailing_underscore = refl

double_underscore : integer_of (codes "1__0") ≡ None
double_underscore = refl

empty_text : integer_of [] ≡ None
empty_text = refl

greatest : integer_of (codes "9223372036854775807") ≡ Some (pos 9223372036854775807)
greatest = refl

above_greatest : integer_of (codes "9223372036854775808") ≡ None
above_greatest = refl

least : integer_of (codes "-9223372036854775808") ≡ Some (negsuc 9223372036854775807)
least = refl

below_least : integer_of (codes "-9223372036854775809") ≡ None
below_least = refl

no_float : float_of (codes "0x00fF") ≡ None
no_float = refl

all_signs : float_of (codes "+1_0.0_0e+0_5") ≡ Some (codes "10.00E05")
all_signs = refl

own_reading : float_of (codes "-1E-0") ≡ Some (codes "-1E-0")
own_reading = refl

plus_nan : float_of (codes "+nan") ≡ Some (codes "nan")
plus_nan = refl

minus_nan : float_of (codes "-nan") ≡ Some (codes "-nan")
minus_nan = refl

no_fraction : float_of (codes "1.") ≡ None
no_fraction = refl

no_whole : float_of (codes ".5") ≡ None
no_whole = refl

no_power : float_of (codes "1e") ≡ None
no_power = refl

two_signs : float_of (codes "+-inf") ≡ None
two_signs = refl

small_exponent : float_of (codes "1.001e-0") ≡ Some (codes "1.001E-0")
small_exponent = refl

underscores : float_of (codes "2_0.1_0e1_0") ≡ Some (codes "20.10E10")
underscores = refl
