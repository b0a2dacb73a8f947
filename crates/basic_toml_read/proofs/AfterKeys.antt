-- A row after its keys: what is read of it, what is too deep in its value, and the holes of its value.
use Rattle.basic_toml_read.proofs.Common.{◌≡◌, ◌≤◌, ◌+◌, ◌-◌, ℕ, suc, List, [], ◌∷◌, ◌++◌, length, refl, ap, sym, ◌∙◌}
use Rattle.basic_toml_read.proofs.Common.{arith, inr, length-append, Some, None, ◌<◌, Option, Vec, Global, length-map}
use Rattle.basic_toml_read.proofs.Common.{nesting_limit, Text, text_at, after_blanks, IsPunctuationEnd, Key, IsKeys}
use Rattle.basic_toml_read.proofs.Common.{DeepRow, DeepValue, Hole, HoleInRow, char_at, and_then, value_level, Stop}
use Rattle.basic_toml_read.proofs.Common.{Why, Gathered, Leaves, keys_of, value_of, row_of, Lines, row_level, IsRowRead}
use Rattle.basic_toml_read.proofs.Common.{IsValueRead, key_text_bytes, LeadsTo, in_value, in_row, Row, roll-Row, Valued}
use Rattle.basic_toml_read.proofs.Common.{key_of, Misses, keys_read}
use Rattle.basic_toml_grammar.specs.Reader as reader
use Rattle.basic_toml_grammar.proofs.Nesting.WithinTheLimit as within
use Rattle.basic_toml_grammar.specs.DeepStops.{value}
use Rattle.basic_toml_read.specs.Gathers.{IsLastKey}
use Rattle.basic_toml_explain.specs.declared.stop.Why.TheVariants.{Equals}
use Rattle.basic_toml_read.specs.declared.values.LastKey.{LastKey}
use Rattle.basic_toml_read.proofs.StandsIn.{StopIn, nothing_fits, stop_in_whole}
use Rattle.basic_toml_read.proofs.LeftAfter.{sign_missing, sign_there}
use Rattle.basic_toml_read.proofs.EnoughSteps.{row_is}
use Rattle.basic_toml_read.proofs.ViewsSeen.{row_before}
use Rattle.basic_toml_read.proofs.GoesOn.{misses_on, then_from}

-- keys that are found stand there
pub keys_there : (text : Text) (r : List Key × Text) → keys_of text ≡ Some r → IsKeys text r.0 r.1
unfolding keys_of
keys_there text r e = keys_read (suc (length text)) text r e

-- a row by its keys and its value
abbrev pub assigned : List Key → reader.Valued → reader.Assigned
assigned keys v = record { keys = keys; offset = v.offset; value = v.value; rest = v.rest }

-- one without keys
pub keys_missed : (level : ℕ) (text : Text) (w : Why)
    → Misses w (keys_of text) (λ keys. nesting_limit < level + length keys.0 - 1)
    → Misses w (row_of text) (λ r. nesting_limit < row_level level r)
keys_missed level text w m =
    misses_on w (keys_of text) _ _ _ (row_is text)
    (λ keys y f h. grind (arith, f, h)) m

-- a row
abbrev row_of_value : LastKey → ℕ → Valued → Row
row_of_value last parents v = roll-Row (record {
  key = last.key;
  offset = last.offset;
  parents = parents;
  start = v.offset;
  value = v.value;
})

abbrev pub with_rows : Gathered → Vec Row Global → Gathered
with_rows g rows = record { alloc = g.alloc; elements = g.elements; parents = g.parents; rows = rows }

module _ {bytes : List ℕ} {at level : ℕ} {old new : Gathered} {last : LastKey}
    (k : IsLastKey bytes at level old new last) where
  -- its keys, and the level of the last
  abbrev pub all_keys : List Key
  all_keys = k.front ++ record { offset = last.offset; text = key_text_bytes last.key } ∷ []

  pub level_of_last : level + length all_keys - 1 ≡ last.level
  level_of_last = omega (arith, k.level_is, length-append {A = Key})

  keys_stand : IsKeys (text_at bytes at) all_keys k.mid
  keys_stand = keys_there (text_at bytes at) (all_keys, k.mid) k.is

  keys_within : level + length all_keys - 1 ≤ nesting_limit
  keys_within = omega (arith, level_of_last, k.limit)

  row_by : (o : Option (ℕ × Text)) → char_at 61 (text_at bytes last.end) ≡ o → row_of (text_at bytes at)
      ≡ and_then o (λ s. and_then (value_of (after_blanks s.1)) (λ v. Some (assigned all_keys v)))
  row_by o e = row_is (text_at bytes at) ∙ then_from _ k.is ∙ then_from _ (ap (char_at 61) (sym k.after) ∙ e)

  -- no equals sign
  pub no_equals : IsPunctuationEnd 61 bytes last.end None → (end : Hole)
      → StopIn bytes (row_of (text_at bytes at)) (λ r. nesting_limit < row_level level r)
      (DeepRow nesting_limit level (text_at bytes at)) (in_row (text_at bytes at) end)
      (record { at = last.end; why = Equals })
  no_equals sign end =
      let none = sign_missing 61 (text_at bytes last.end) sign in
      record {
        read = row_by None none;
        inside = inr k.boundary;
        deep = λ p d. within.no_equals keys_stand keys_within (ap (char_at 46) (sym k.after) ∙ k.over)
            (ap (char_at 61) (sym k.after) ∙ none) d;
        hole = record {
          hole = rw k.after (HoleInRow.after_keys keys_stand);
          missing = nothing_fits Hole.after_keys 61 46 (text_at bytes last.end) none k.over (λ c. refl);
        };
      }

  -- the value
  module _ {next start : ℕ} (left : Leaves bytes next start (after_blanks (text_at bytes next)))
      (sign : IsPunctuationEnd 61 bytes last.end (Some next)) where
    row_by_value : row_of (text_at bytes at)
        ≡ and_then (value_of (text_at bytes start)) (λ v. Some (assigned all_keys v))
    row_by_value = rw left.left (row_by (Some (last.end, text_at bytes next)) (sign_there sign.0))

    pub value_stop : (stop : Stop) (end : Hole)
        → StopIn bytes (value_of (text_at bytes start)) (λ v. nesting_limit < value_level last.level v.value)
        (DeepValue nesting_limit last.level (text_at bytes start)) (in_value (text_at bytes start) end) stop
        → StopIn bytes (row_of (text_at bytes at)) (λ r. nesting_limit < row_level level r)
        (DeepRow nesting_limit level (text_at bytes at)) (in_row (text_at bytes at) end) stop
    value_stop stop end e =
        let equals = sym k.after ∙ sign.0 in
        let on : LeadsTo (in_value (text_at bytes start) end) (in_row (text_at bytes at) end) =
        rw left.left (record { on = λ h at d. HoleInRow.in_value keys_stand equals d; same = λ at d. refl }) in
        stop_in_whole _ _ _ _ stop e
        (misses_on stop.why (value_of (text_at bytes start)) _ _ _ row_by_value
        (λ v y f h. grind (arith, f, h, level_of_last)) e.read)
        (λ p d. value keys_stand keys_within equals (rw (left.left, ← level_of_last) at d))
        (λ none p d. rw (left.left, ← level_of_last) (within.past_equals keys_stand keys_within equals d)) on

    pub row_there : {new' : Gathered} {v : Valued} → IsValueRead bytes start last.level new new' v
        → (rows : Vec Row Global) → rows.items ≡ new'.rows.items ++ row_of_value last (last.level - level) v ∷ []
        → IsRowRead bytes at level old (with_rows new' rows) v.end
    row_there {v = v} r rows pushed =
        let n = last.level - level in
        let made = row_of_value last n v in
        record {
          found = assigned all_keys (record { offset = v.offset; value = r.found.raw; rest = text_at bytes v.end });
          is = row_by_value ∙ then_from _ r.found.is;
          rest = refl;
          added = record { parents = k.parents; rows = made ∷ [] };
          pushed =
              let keys = ap (λ (l : Lines). l.parents) r.keeps.lines ∙ k.pushed in
              let rows = ap (λ (l : Lines). l.rows) r.keeps.lines ∙ k.rows in
              cc;
          seen =
              let count : n ≡ length k.parents =
              omega (arith, k.level_is, ap (λ (ks : List Key). length ks) k.seen, length-map k.parents key_of) in
              λ rest. rw (← k.seen)
              (row_before last.key last.offset n v.offset v.value r.found.raw k.parents rest r.found.seen count);
          elements = r.keeps.elements ∙ k.elements;
          limit = omega (arith, level_of_last, ap (λ n. value_level n r.found.raw) level_of_last);
          boundary = r.found.boundary;
          later = omega (arith, k.later, sign.2, left.forward, r.found.later);
        }
