-- Strings and words as values: a scalar has no level, and where neither stands, a value is wanted.
use Rattle.basic_toml_read.proofs.Common.{◌≡◌, ℕ, List, [], ◌∷◌, refl, ap, sym, ◌∙◌, arith, Option, Some, None, Result}
use Rattle.basic_toml_read.proofs.Common.{Ok, Err, IfErr, ℤ, Bool, true, false, cond, rules, option_or, nesting_limit}
use Rattle.basic_toml_read.proofs.Common.{Text, text_at, run, DeepValue, array, inline, is_wordlike, word_value}
use Rattle.basic_toml_read.proofs.Common.{HoleInValue, value_level, char_at, string_at, word_at, string_value_at, Raw}
use Rattle.basic_toml_read.proofs.Common.{hole_behind, StopsInside, Stop, Why, Valued, Gathered, value_of, IsValueRead}
use Rattle.basic_toml_read.proofs.Common.{ReadsValue, MissesString, in_value, then_some}
use Rattle.basic_toml_grammar.specs.Reader as reader
use Rattle.basic_toml_explain.specs.declared.stop.Why.TheVariants as why
use Rattle.basic_toml_grammar.proofs.Nesting.WithinTheLimit as within
use Rattle.basic_toml_grammar.specs.Grammar.{number_value}
use Rattle.basic_toml_read.specs.StopsAt.{IsValued, ReadsStringAt, ReadsWordAt, MissesWord, WantsEnd}
use Rattle.basic_toml_explain.specs.declared.stop.End.{End}
use Rattle.basic_toml_read.proofs.StandsIn.{Answered, without_stop}
use Rattle.basic_toml_read.proofs.EnoughSteps.{value_is}
use Rattle.basic_toml_read.proofs.GoesOn.{found_from, then_from}

string_level : (l : ℕ) (text : Text) (v : reader.Valued) → string_value_at text ≡ Some v → value_level l v.value ≡ 0
string_level l text v e =
    let (s, s_is, f) = then_some (string_at text) _ v e in grind (arith, f)

value_of_word : (l : ℕ) (a b : Bool) (z : Option ℤ) (t : Option (List ℕ)) (w : Raw)
    → cond a (Some (Raw.boolean true)) (cond b (Some (Raw.boolean false)) (number_value z t)) ≡ Some w
    → value_level l w ≡ 0
value_of_word l a b z t w e = grind (arith, e)

word_level : (l : ℕ) (text : Text) (v : reader.Valued) → word_at text ≡ Some v → value_level l v.value ≡ 0
word_level l [] v e = cc
word_level l (x ∷ text) v e =
    let (w, w_is, f) = then_some (word_value (run is_wordlike (x ∷ text))) _ v e in
    grind (arith, f, value_of_word l _ _ _ _ w w_is)

-- where no bracket stands
module _ (bytes : List ℕ) (at level : ℕ) (end : End) (old : Gathered) (bracket : char_at 91 (text_at bytes at) ≡ None)
    (brace : char_at 123 (text_at bytes at) ≡ None) where
  abbrev pub ScalarAnswered : Result Valued Stop → Type 0
  ScalarAnswered = Answered bytes (ReadsValue bytes at level old old) (DeepValue nesting_limit level (text_at bytes at))
      (in_value (text_at bytes at) (hole_behind end))

  scalar_by : (o : Option reader.Valued) → word_at (text_at bytes at) ≡ o
      → value_of (text_at bytes at) ≡ option_or o (string_value_at (text_at bytes at))
  scalar_by o e =
      value_is (text_at bytes at) ∙ found_from _ _ bracket ∙ found_from _ _ brace
      ∙ ap (λ o. option_or o (string_value_at (text_at bytes at))) e

  scalar_read : {v : Valued} {o : Option reader.Valued} (f : IsValued bytes at v o)
      → value_of (text_at bytes at) ≡ Some (record { offset = v.offset; value = f.raw; rest = text_at bytes v.end })
      → value_level level f.raw ≡ 0 → IsValueRead bytes at level old old v
  scalar_read f is low = record {
    found = record { raw = f.raw; seen = f.seen; is = is; boundary = f.boundary; later = f.later };
    limit = omega (arith, low);
    keeps = record { elements = refl; lines = refl };
  }

  nothing_deep : (p : ℕ) → DeepValue nesting_limit level (text_at bytes at) p → ⊥
  nothing_deep p (array s d) = within.no_such bracket s
  nothing_deep p (inline s d) = within.no_such brace s

  missed : word_at (text_at bytes at) ≡ None → string_at (text_at bytes at) ≡ None → value_of (text_at bytes at) ≡ None
  missed no_word no_string = scalar_by None no_word ∙ then_from _ no_string

  value_wanted : (p : ℕ) → p ≡ at → word_at (text_at bytes at) ≡ None → run is_wordlike (text_at bytes at) ≡ []
      → string_at (text_at bytes at) ≡ None → StopsInside bytes (record { at = p; why = why.Value })
      → ScalarAnswered (Err (record { at = p; why = why.Value }))
  value_wanted p same no_word empty no_string inside =
      let read = missed no_word no_string in
      search (rules, nothing_deep, HoleInValue.this_value)

  pub string_answered : (result : Result Valued Stop) → word_at (text_at bytes at) ≡ None
      → run is_wordlike (text_at bytes at) ≡ [] → ReadsStringAt bytes at result
      → IfErr result (λ stop. StopsInside bytes stop) → ScalarAnswered result
  string_answered (Ok v) no_word empty f inside =
      without_stop (scalar_read f (scalar_by None no_word ∙ f.is) (string_level level (text_at bytes at) _ f.is))
  string_answered (Err stop) no_word empty f inside = go stop.why stop.at f.0 f.1 inside
    where
      go : (w : Why) (p : ℕ) → MissesString w (text_at bytes at) → (w ≡ why.Value → p ≡ at)
          → StopsInside bytes (record { at = p; why = w }) → ScalarAnswered (Err (record { at = p; why = w }))
      go why.Memory p m same inside = record { read = tt; inside = inside; deep = tt; hole = tt }
      go why.Value p m same inside = value_wanted p (same refl) no_word empty m inside
      go _ p m same inside = absurd m

  pub word_answered : (result : Result Valued Stop) → string_at (text_at bytes at) ≡ None → ReadsWordAt bytes at result
      → IfErr result (WantsEnd end) → IfErr result (λ stop. StopsInside bytes stop) → ScalarAnswered result
  word_answered (Ok v) no_string f wants inside =
      without_stop (scalar_read f (scalar_by _ f.is) (word_level level (text_at bytes at) _ f.is))
  word_answered (Err stop) no_string f wants inside = go stop.why stop.at f.0 f.1 wants inside
    where
      go : (w : Why) (p : ℕ) → MissesWord w (text_at bytes at) → ((w ≡ why.Memory → ⊥) → p ≡ at)
          → ((other : End) → w ≡ why.Word other → other ≡ end) → StopsInside bytes (record { at = p; why = w })
          → ScalarAnswered (Err (record { at = p; why = w }))
      go why.Memory p m same wants inside = record { read = tt; inside = inside; deep = tt; hole = tt }
      go why.Value p m same wants inside = value_wanted p (same (λ e. cc)) m.0 m.1 no_string inside
      go (why.Word other) p m same wants inside = record {
        read = missed m.0 no_string;
        inside = inside;
        deep = nothing_deep;
        hole = rw (same (λ e. cc)) (record {
          hole = HoleInValue.this_value;
          behind_it = ap hole_behind (sym (wants other refl));
          none = m.0;
          some = m.1;
        });
      }
      go _ p m same wants inside = absurd m
