-- With its rows first a table has the same keys, each once.
use Rattle.std.proofs.Common.{◌≡◌, ℕ, true, false, ◌||◌, List, [], ◌∷◌, ◌++◌, refl, ◌∙◌, arith}
use Rattle.std.proofs.Common.{cond, Bool, ap}
use Rattle.std.specs.Str.{bytes_eq}
use Rattle.basic_toml_value.specs.Data.{Members, no_members, member}
use Rattle.basic_toml_value.specs.Entries.{seen, texts_of}
use Rattle.basic_toml_value.specs.Text.{text_bytes}
use Rattle.basic_toml_index.specs.Keys.{is_among, are_distinct}
use Rattle.basic_toml_value.specs.View.{entries}
use Rattle.basic_toml_value.specs.declared.pairs.Pair.{Pair}
use Rattle.basic_toml_value.specs.declared.value.Value.{Value}
use Rattle.basic_toml_index.proofs.DistinctKeys.{is_among-insert, bytes_eq_other}
use Rattle.basic_toml_layout.specs.Sections.{is_section}
use Rattle.basic_toml_write.specs.DataFits.{member_keys}
use Rattle.basic_toml_order.specs.RowsFirst.{followed_by, rows_of, sections_of, members_rows_first, rows_first}

pub member_keys-seen : (ps : List (Pair Value)) → member_keys (entries (seen ps)) ≡ texts_of ps
member_keys-seen [] = refl
member_keys-seen (p ∷ ps) = ap (λ ks. text_bytes p.key ∷ ks) (member_keys-seen ps)

pub member_keys-followed : (ms ns : Members) → member_keys (followed_by ms ns) ≡ member_keys ms ++ member_keys ns
member_keys-followed no_members ns = refl
member_keys-followed (member k d ms) ns = ap (λ ks. k ∷ ks) (member_keys-followed ms ns)

-- a key more between others
distinct-insert : (xs ys : List (List ℕ)) (k : List ℕ) → is_among (xs ++ ys) k ≡ false
    → are_distinct (xs ++ ys) ≡ true → are_distinct (xs ++ k ∷ ys) ≡ true
distinct-insert [] ys k absent distinct = rw (absent, distinct) refl
distinct-insert (x ∷ xs) ys k absent distinct =
    grind (arith, is_among-insert xs ys k x, distinct-insert xs ys k, bytes_eq_other x k, absent, distinct)

-- the keys that stand after the split
abbrev split_keys : Members → List (List ℕ)
split_keys ms = member_keys (rows_of ms) ++ member_keys (sections_of ms)

split_among : (ms : Members) (key : List ℕ) → is_among (split_keys ms) key ≡ is_among (member_keys ms) key
split_among no_members key = refl
split_among (member k d ms) key = elim (is_section d) as (λ b. is_among (member_keys (cond b (rows_of ms)
    (member k (rows_first d) (rows_of ms))) ++ member_keys (cond b (member k (rows_first d) (sections_of ms))
    (sections_of ms))) key ≡ bytes_eq key k || is_among (member_keys ms) key) [
      | true ↦ is_among-insert (member_keys (rows_of ms)) (member_keys (sections_of ms)) k key
          ∙ rw (split_among ms key) (or_swap (is_among (member_keys ms) key) (bytes_eq key k))
      | false ↦ ap (λ b. bytes_eq key k || b) (split_among ms key)
    ]
  where
    or_swap : (a b : Bool) → a || b ≡ b || a
    or_swap true true = refl
    or_swap true false = refl
    or_swap false true = refl
    or_swap false false = refl

split_distinct : (ms : Members) → are_distinct (member_keys ms) ≡ true → are_distinct (split_keys ms) ≡ true
split_distinct no_members distinct = refl
split_distinct (member k d ms) distinct =
    let absent : is_among (split_keys ms) k ≡ false = split_among ms k ∙ grind (arith, distinct) in
    let rest : are_distinct (split_keys ms) ≡ true = split_distinct ms (grind (arith, distinct)) in
    elim (is_section d) as (λ b. are_distinct (member_keys (cond b (rows_of ms)
    (member k (rows_first d) (rows_of ms))) ++ member_keys (cond b (member k (rows_first d) (sections_of ms))
    (sections_of ms))) ≡ true) [
      | true ↦ distinct-insert (member_keys (rows_of ms)) (member_keys (sections_of ms)) k absent rest
      | false ↦ rw (absent, rest) refl
    ]

pub distinct-rows_first : (ms : Members) → are_distinct (member_keys ms) ≡ true
    → are_distinct (member_keys (members_rows_first ms)) ≡ true
distinct-rows_first ms distinct = rw (member_keys-followed (rows_of ms) (sections_of ms)) (split_distinct ms distinct)
