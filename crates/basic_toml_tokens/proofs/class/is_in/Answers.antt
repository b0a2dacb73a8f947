use Rattle.std.proofs.Common.{◌≡◌, ℕ, ◌<◌, Bool, not, nat_eq, bit_and, get_or, true, refl, arith}
use Rattle.std.proofs.lemmas.Bool.{agree_below, agree_below_at}
use Rattle.basic_toml_tokens.specs.Ascii as ascii
use Rattle.basic_toml_tokens.specs.declared.class.TheConstants.{CLASSES}
use Rattle.basic_toml_tokens.specs.Text.{is_blank, is_keylike, is_comment}
use Rattle.basic_toml_tokens.specs.Strings.{is_plain}
use Rattle.basic_toml_tokens.proofs.class.is_in.Goals as goal
use Rattle.basic_toml_tokens.proofs.class.is_in.Goals.{in-Blank, in-Keylike, in-Comment, in-Literal, in-Basic}

-- the bit is set in the table's entry for a byte
abbrev has_bit : ℕ → ℕ → Bool
has_bit bit b = not (nat_eq (bit_and (get_or CLASSES b 0) bit) 0)

-- A class is held against a test at each of the 256 bytes, by computing.
bit_is : (bit : ℕ) (test : ℕ → Bool) → agree_below (has_bit bit) test 256 ≡ true → (b : ℕ) → b < 256
    → has_bit bit b ≡ test b
bit_is bit test h b lt = agree_below_at (has_bit bit) test 256 b h lt

pub returns : goal.returns
returns c = elim c.match-class.branch [
  | in-Blank w ↦ rw (w.bit-is, w.in-Blank.is) (bit_is 1 is_blank refl c.args.byte (omega arith))
  | in-Keylike w ↦ rw (w.bit-is, w.in-Keylike.is) (bit_is 2 is_keylike refl c.args.byte (omega arith))
  | in-Comment w ↦ rw (w.bit-is, w.in-Comment.is) (bit_is 4 is_comment refl c.args.byte (omega arith))
  | in-Literal w ↦ rw (w.bit-is, w.in-Literal.is) (bit_is 8 (is_plain ascii.single_quote) refl c.args.byte (omega arith))
  | in-Basic w ↦ rw (w.bit-is, w.in-Basic.is) (bit_is 16 (is_plain ascii.double_quote) refl c.args.byte (omega arith))
]
