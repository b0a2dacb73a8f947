-- Pairs copied one by one, in order.
use Rattle.std.proofs.Common.{◌≡◌, ℕ, ◌+◌, ◌<◌, List, [], ◌∷◌, ◌++◌, length, take, get_or, refl, sym, ap, ◌∙◌}
use Rattle.std.proofs.lemmas.List.{take_more}
use Rattle.basic_toml_value.specs.Data.{Data, Members, no_members, member}
use Rattle.basic_toml_value.specs.Text.{text_bytes}
use Rattle.basic_toml_value.specs.Entries.{seen, texts_of}
use Rattle.basic_toml_value.specs.View.{view, entries}
use Rattle.basic_toml_value.specs.declared.pairs.Pair.{Pair}
use Rattle.basic_toml_value.specs.declared.value.Value.{Value}
use Rattle.basic_toml_value.proofs.SeenPairs.{texts_of-push}

abbrev with_last : Members → List ℕ → Data → Members
with_last no_members key value = member key value no_members
with_last (member k d ms) key value = member k d (with_last ms key value)

entries-push : (pairs : List (Pair Value)) (pair : Pair Value)
    → entries (seen (pairs ++ pair ∷ [])) ≡ with_last (entries (seen pairs)) (text_bytes pair.key) (view pair.value)
entries-push [] pair = refl
entries-push (p ∷ ps) pair = ap (λ ms. member (text_bytes p.key) (view p.value) ms) (entries-push ps pair)

module _ (copies next pairs : List (Pair Value)) (i : ℕ) (copy pair : Pair Value) (within : i < length pairs)
    (read : pair ≡ get_or pairs i pair) (next_is : next ≡ copies ++ copy ∷ []) where
  one_more : take (i + 1) pairs ≡ take i pairs ++ pair ∷ []
  one_more = take_more pairs i pair within ∙ ap (λ p. take i pairs ++ p ∷ []) (sym read)

  pub entries-copied : entries (seen copies) ≡ entries (seen (take i pairs))
      → text_bytes copy.key ≡ text_bytes pair.key → view copy.value ≡ view pair.value
      → entries (seen next) ≡ entries (seen (take (i + 1) pairs))
  entries-copied same key value =
      rw (next_is, one_more, entries-push copies copy, entries-push (take i pairs) pair, same, key, value) refl

  pub texts-copied : texts_of copies ≡ texts_of (take i pairs) → text_bytes copy.key ≡ text_bytes pair.key
      → texts_of next ≡ texts_of (take (i + 1) pairs)
  texts-copied same key = rw (
    next_is,
    one_more,
    texts_of-push copies copy,
    texts_of-push (take i pairs) pair,
    same,
    key,
  ) refl
