-- The classes as tests of runs.
use Rattle.std.proofs.Common.{◌≡◌, ℕ, ◌≤◌, true, false, List, refl, sym, ◌∙◌, subst, arith}
use Rattle.std.specs.Str.{IsUtf8, IsCharBoundary}
use Rattle.std.proofs.lemmas.Bool.{or_from}
use Rattle.std.proofs.lemmas.Bool.Decides.{nat_tests}
use Rattle.basic_toml_tokens.specs.declared.class.Class.{Class}
use Rattle.basic_toml_tokens.specs.declared.class.Class.TheVariants.{Blank, Keylike, Comment, Literal, Basic}
use Rattle.basic_toml_tokens.specs.Class.{passes, run_end}
use Rattle.basic_toml_tokens.specs.Reading.{IsRun}
use Rattle.basic_toml_tokens.proofs.RunsAreFound.{IsRunTest, run_by_bytes}

blank_narrow : (c : ℕ) → 128 ≤ c → passes Blank c ≡ false
blank_narrow c h = grind (arith, nat_tests)

keylike_narrow : (c : ℕ) → 128 ≤ c → passes Keylike c ≡ false
keylike_narrow c h = grind (arith, nat_tests, or_from)

comment_wide : (c : ℕ) → 128 ≤ c → passes Comment c ≡ true
comment_wide c h = grind (arith, nat_tests)

literal_wide : (c : ℕ) → 128 ≤ c → passes Literal c ≡ true
literal_wide c h = grind (arith, nat_tests)

basic_wide : (c : ℕ) → 128 ≤ c → passes Basic c ≡ true
basic_wide c h = grind (arith, nat_tests)

pub run_test : (class : Class) → IsRunTest (passes class)
run_test Blank = record { feed = refl; return = refl; wide = λ c d h k. blank_narrow c h ∙ sym (blank_narrow d k) }
run_test Keylike = record {
  feed = refl;
  return = refl;
  wide = λ c d h k. keylike_narrow c h ∙
      sym (keylike_narrow d k);
}
run_test Comment = record { feed = refl; return = refl; wide = λ c d h k. comment_wide c h ∙ sym (comment_wide d k) }
run_test Literal = record { feed = refl; return = refl; wide = λ c d h k. literal_wide c h ∙ sym (literal_wide d k) }
run_test Basic = record { feed = refl; return = refl; wide = λ c d h k. basic_wide c h ∙ sym (basic_wide d k) }

-- where the bytes that pass end, the run does
pub run_to : (class : Class) (bytes : List ℕ) (at end : ℕ) → IsUtf8 bytes → IsCharBoundary bytes at
    → end ≡ run_end class bytes at → IsRun (passes class) bytes at end
run_to class bytes at end whole here e =
    subst (λ (n : ℕ). IsRun (passes class) bytes at n) (sym e)
    (run_by_bytes (passes class) (run_test class) bytes at whole here)
