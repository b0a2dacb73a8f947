-- The values on the way of a path, and those that rows end with: the next row is followed, or goes on from a value.
use Rattle.std.proofs.Common.{◌≡◌, ◌⊎◌, inl, inr, ℕ, true, List, [], ◌∷◌, ◌++◌, map, refl, ◌∙◌, Option, Some, None, Ok}
use Rattle.std.proofs.Common.{Err, arith, take, drop, length, get_or, ◌<◌, ◌+◌}
use Rattle.std.specs.Option.{option_or}
use Rattle.std.proofs.Math.Path.{fun_ext}
use Rattle.std.proofs.lemmas.Bool.{and_parts}
use Rattle.std.proofs.lemmas.List.{map-append}
use Rattle.std.proofs.lemmas.Slice.Eq.{bytes_eq-Decides}
use Rattle.basic_toml_index.proofs.DistinctKeys.{bytes_eq-same}
use Rattle.basic_toml_grammar.specs.Sections.{Key, KeyTexts, texts}
use Rattle.basic_toml_grammar.specs.Steps.{properly_begins, steps_of}
use Rattle.basic_toml_read.specs.declared.section.Key as keys
use Rattle.basic_toml_read.specs.declared.section.Row.{Row, out-Row}
use Rattle.basic_toml_read.specs.SectionView.{header_texts, key_of, lined_of, rows_seen}
use Rattle.basic_toml_read.specs.KeyText.{key_text_bytes}
use Rattle.basic_toml_read.proofs.NextRow.{and_rows, lined_is, next_row}
use Rattle.basic_toml_grow.specs.declared.crossed.KeyTree.{KeyTree}
use Rattle.basic_toml_grow.specs.declared.crossed.Crossed.{Crossed}
use Rattle.basic_toml_grow.specs.declared.crossed.Crossed.TheVariants.{Memory, At}
use Rattle.basic_toml_grow.specs.Crossed.{same_keys, and_end, crossed_after, Looks}
use Rattle.basic_toml_grow.specs.KeyTree.{Ends, ends_of, value_on, Follows, FollowsTo}

pub none_left : {A : Type 0} (a b : Option A) → option_or a b ≡ None → a ≡ None
none_left a b e = grind arith

pub some_or_none : {A : Type 0} (a : Option A) → ((x : A) × (a ≡ Some x)) ⊎ (a ≡ None)
some_or_none None = inr refl
some_or_none (Some x) = inl (x, refl)

-- a path goes on from the value that begins there
pub goes_on_from : (ends : Ends) (path : KeyTexts) (at : ℕ) → value_on ends path ≡ Some at
    → (front : KeyTexts) × (ends front ≡ Some at) × (properly_begins (steps_of front) (steps_of path) ≡ true)
goes_on_from ends [] at e = absurd (cc)
goes_on_from ends (k ∷ path) at e = elim (some_or_none (ends [])) [
  | inl here ↦ ([], here.1 ∙ (rw here.1 at e), refl)
  | inr none ↦
      let x = goes_on_from (λ p. ends (k ∷ p)) path at (rw none at e) in
      (k ∷ x.0, x.1, rw (bytes_eq-same k) x.2)
]

pub none_on : (ends : Ends) (p path : KeyTexts) → value_on ends path ≡ None
    → properly_begins (steps_of p) (steps_of path) ≡ true → ends p ≡ None
none_on ends [] (k ∷ path) none begun = none_left (ends []) (value_on (λ q. ends (k ∷ q)) path) none
none_on ends (l ∷ p) (k ∷ path) none begun =
    grind (arith, none_left (ends []) _ none, bytes_eq-Decides l k, none_on (λ q. ends (k ∷ q)) p path)
none_on ends _ _ none begun = absurd (cc)

pub keys_same : (p : KeyTexts) → same_keys p p ≡ true
keys_same [] = refl
keys_same (k ∷ p) = rw (bytes_eq-same k) (keys_same p)

pub keys_are : (p q : KeyTexts) → same_keys p q ≡ true → p ≡ q
keys_are [] [] e = refl
keys_are (k ∷ p) (l ∷ q) e =
    grind (arith, and_parts, (bytes_eq-Decides k l).0, keys_are p q)
keys_are _ _ e = cc

module _ (ends : Ends) (path : KeyTexts) (at : ℕ) where
  -- a row that goes on from no value is followed
  pub row_ends : value_on ends path ≡ None → Follows ends (and_end ends path at) path at
  row_ends free = record {
    free = free;
    kept = λ p s e. rw e refl;
    stands = elim (some_or_none (ends path)) [
      | inl some ↦ (some.0, rw some.1 refl)
      | inr none ↦ (at, rw (none, keys_same path) refl)
    ];
    told = λ p s e. grind (arith, keys_are p path);
  }

  -- and what ends where is known by that
  pub follows_so : (after : Ends) → Follows ends after path at → (p : KeyTexts) → after p ≡ and_end ends path at p
  follows_so after follows p =
      let stands = follows.stands.1 in
      grind (arith, follows.kept p, follows.told p, follows.told path, keys_same path, keys_are p path)

-- the next row of the code's rows, with its own parents, where what all rows cross is what those that are left cross
module _ {all : Option ℕ} (parents own : List keys.Key) (rows : List Row) (i : ℕ) (r : Row) (last : List ℕ)
    (tree after : KeyTree) (within : i < length rows) (is : r ≡ get_or rows i r)
    (own_is : own ≡ take (out-Row r).parents parents) (last_is : last ≡ key_text_bytes (out-Row r).key)
    (passed : all ≡ crossed_after (ends_of tree) (rows_seen parents (drop i rows))) where
  abbrev path : KeyTexts
  path = header_texts own ++ last ∷ []

  abbrev start : ℕ
  start = (out-Row r).start

  next_is : all ≡ crossed_after (ends_of tree) (and_rows parents r (drop (i + 1) rows))
  next_is = passed ∙ rw (next_row parents rows i r within is) refl

  same_path : texts (map key_of (take (out-Row r).parents parents) ++ (lined_of r).key ∷ []) ≡ path
  same_path = rw (own_is, last_is, lined_is r) (map-append (λ (k : Key). k.text) _ _)

  pub gone_on : FollowsTo tree path start after (Ok tt)
      → all ≡ crossed_after (ends_of after) (rows_seen (drop (out-Row r).parents parents) (drop (i + 1) rows))
  gone_on follows =
      let ends = fun_ext (follows_so (ends_of tree) path start (ends_of after) follows) in
      next_is ∙ rw (same_path, lined_is r, follows.free, ← ends) refl

  pub stopped : (e : Crossed) → FollowsTo tree path start after (Err e) → Looks all (Err e)
  stopped Memory goes = tt
  stopped (At at) goes = next_is ∙ rw (same_path, goes) refl
