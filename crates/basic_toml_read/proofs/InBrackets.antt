-- Arrays and inline tables as values, by what stands in their brackets.
use Rattle.basic_toml_read.proofs.Common.{◌≡◌, ℕ, ◌+◌, ◌<◌, ◌≤◌, List, ◌++◌, length, drop, take, refl, ◌∙◌, arith, Some}
use Rattle.basic_toml_read.proofs.Common.{None, Option, Result, Ok, Err, drop-append_seam, take-append_seam}
use Rattle.basic_toml_read.proofs.Common.{IsCharBoundary, nesting_limit, Text, text_at, after_blanks, IsPunctuationEnd}
use Rattle.basic_toml_read.proofs.Common.{Raw, value_level, and_then, DeepValue, array, inline, Hole, HoleInValue, Stop}
use Rattle.basic_toml_read.proofs.Common.{Why, Valued, Gathered, elements_of, fields_of, value_of, raw_of, IsValueRead}
use Rattle.basic_toml_read.proofs.Common.{ReadsValue, Misses, in_value, in_elements, in_fields, gap}
use Rattle.basic_toml_grammar.proofs.Nesting.WithinTheLimit as within
use Rattle.basic_toml_grammar.specs.DeepStops.{DeepArray, DeepInline}
use Rattle.basic_toml_read.specs.Gathers.{Keeps, ReadsArray, ReadsInline}
use Rattle.basic_toml_read.proofs.EnoughSteps.{value_is}
use Rattle.basic_toml_read.proofs.LeftAfter.{sign_there, sign_missing}
use Rattle.basic_toml_read.proofs.GoesOn.{found_from, misses_on, then_from}
use Rattle.basic_toml_read.proofs.StandsIn.{Answered, stop_in_whole, without_stop}

-- what stands in brackets at an offset, and the value that it makes
module _ (bytes : List ℕ) (at level : ℕ) {A : Type 0} (make : A → Raw) (o : Option (A × Text))
    (is : value_of (text_at bytes at)
    ≡ and_then o (λ r. Some (record { offset = at; value = make r.0; rest = r.1 }))) where
  made : {old new : Gathered} {v : Valued} (x : A) → raw_of v.value ≡ make x → o ≡ Some (x, text_at bytes v.end)
      → v.offset ≡ at → value_level level (make x) ≤ nesting_limit → Keeps old new → IsCharBoundary bytes v.end
      → at < v.end → IsValueRead bytes at level old new v
  made x seen found offset_is limit keeps boundary later = record {
    found = record {
      raw = make x;
      seen = seen;
      is = rw offset_is (is ∙ then_from _ found);
      boundary = boundary;
      later = later;
    };
    limit = limit;
    keeps = keeps;
  }

  none_made : (w : Why) (High : A → Type 0) → ((x : A) → High x → nesting_limit < value_level level (make x))
      → Misses w o (λ r. High r.0)
      → Misses w (value_of (text_at bytes at)) (λ v. nesting_limit < value_level level v.value)
  none_made w High high m =
      misses_on w o _ _ _ is
      (λ r v f h. grind (arith, high r.0 h)) m

module _ (bytes : List ℕ) (at next level : ℕ) (end : Hole) (old new : Gathered) where
  abbrev pub ValueAnswered : Result Valued Stop → Type 0
  ValueAnswered = Answered bytes (ReadsValue bytes at level old new) (DeepValue nesting_limit level (text_at bytes at))
      (in_value (text_at bytes at) end)

  -- an array
  module _ (sign : IsPunctuationEnd 91 bytes at (Some next)) where
    array_is : value_of (text_at bytes at) ≡ and_then (elements_of (gap (text_at bytes next)))
        (λ r. Some (record { offset = at; value = Raw.array r.0; rest = r.1 }))
    array_is = value_is (text_at bytes at) ∙ found_from _ _ (sign_there sign.0)

    pub array_answered : (result : Result Valued Stop) → Answered bytes (ReadsArray bytes at next (level + 1) old new)
        (DeepArray nesting_limit (level + 1) at (text_at bytes next)) (in_elements (gap (text_at bytes next))) result
        → ValueAnswered result
    array_answered (Ok v) e =
        let a = e.read in
        without_stop (made _ _ _ Raw.array _ array_is a.elements a.seen a.is a.offset_is (omega (arith, a.limit))
        a.keeps a.boundary (omega (arith, sign.2, a.later)))
    array_answered (Err stop) e =
        stop_in_whole {outer = in_value (text_at bytes at) end} _ _ _ _ stop e
        (none_made _ _ _ Raw.array _ array_is stop.why _ (λ es h. grind (arith, h)) e.read) (λ p d. array sign.0 d)
        (λ none p d. within.at_bracket sign.0 d)
        (record { on = λ h at d. HoleInValue.array sign.0 d; same = λ at d. refl })

  -- an inline table
  module _ (none : IsPunctuationEnd 91 bytes at None) (sign : IsPunctuationEnd 123 bytes at (Some next)) where
    inline_is : value_of (text_at bytes at) ≡ and_then (fields_of (after_blanks (text_at bytes next)))
        (λ r. Some (record { offset = at; value = Raw.inline r.0; rest = r.1 }))
    inline_is = value_is (text_at bytes at) ∙ found_from _ _ (sign_missing 91 (text_at bytes at) none)
        ∙ found_from _ _ (sign_there sign.0)

    pub inline_answered : (result : Result Valued Stop) → Answered bytes (ReadsInline bytes at next (level + 1) old new)
        (DeepInline nesting_limit (level + 1) at (text_at bytes next)) (in_fields (after_blanks (text_at bytes next)))
        result
        → ValueAnswered result
    inline_answered (Ok v) e =
        let a = e.read in
        without_stop (made _ _ _ Raw.inline _ inline_is a.rows a.seen a.is a.offset_is (omega (arith, a.limit)) a.keeps
        a.boundary (omega (arith, sign.2, a.later)))
    inline_answered (Err stop) e =
        stop_in_whole {outer = in_value (text_at bytes at) end} _ _ _ _ stop e
        (none_made _ _ _ Raw.inline _ inline_is stop.why _ (λ rs h. grind (arith, h)) e.read)
        (λ p d. inline sign.0 d) (λ none p d. within.at_brace sign.0 d)
        (record { on = λ h at d. HoleInValue.inline sign.0 d; same = λ at d. refl })

-- what was added to items stands behind the old ones
pub added_to : {A : Type 0} {new : List A} {n : ℕ} (old added : List A) → n ≡ length old → new ≡ old ++ added
    → (drop n new ≡ added) × (take n new ≡ old)
added_to old added counted pushed =
    (rw (counted, pushed) (drop-append_seam old added), rw (counted, pushed) (take-append_seam old added))
