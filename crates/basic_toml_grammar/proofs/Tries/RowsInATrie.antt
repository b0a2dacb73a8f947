-- Rows alone: what they put stands below the node that they start from, they go through where they do not clash, and
-- the values there are the tree of their mentions.
use Rattle.std.proofs.Common.{◌≡◌, ℕ, true, false, List, [], ◌∷◌, Option, Some, None, refl, ap, sym, ◌∙◌}
use Rattle.std.specs.Prelude.{◌||◌, ◌&&◌, not, is_some, if◌then◌else◌}
use Rattle.basic_toml_value.specs.Data.{Data}
use Rattle.basic_toml_grammar.specs.Sections.{Raw, KeyTexts, texts, Rows, no_rows, row, Section}
use Rattle.basic_toml_grammar.specs.Steps.{key}
use Rattle.basic_toml_grammar.specs.RowClash.{rows_clash}
use Rattle.basic_toml_grammar.specs.Growth.{closed, tree_of}
use Rattle.basic_toml_grammar.specs.Mentions.{finished, row_mentions}
use Rattle.basic_toml_grammar.specs.Document.{tree_of_sections}
use Rattle.basic_toml_grammar.specs.Marks.{dotted, valued}
use Rattle.basic_toml_grammar.specs.Standing.{Standing, table}
use Rattle.basic_toml_grammar.specs.Entering.{and_then, rows_keyed}
use Rattle.basic_toml_grammar.specs.Trie.{Trie, trie, Tries, no_tries, nothing, with_tries, mark_here, among, put_row}
use Rattle.basic_toml_grammar.specs.Trie.{put_rows, put_sections, bare}
use Rattle.basic_toml_grammar.proofs.Tries.ChangesByPath.{then_map, map_then, then_some, then_alike}
use Rattle.basic_toml_grammar.proofs.Clash.PathsAgree.{append_none}
use Rattle.basic_toml_grammar.proofs.Tries.SectionsInATrie.{sections_put, sections_data}

-- rows, each with a key, below a node
abbrev pub row_in : KeyTexts → Data → Tries → Option Tries
row_in [] v ts = None
row_in (k ∷ []) v ts = among (key k) (λ t. mark_here (valued v) t) ts
row_in (k ∷ l ∷ ks) v ts = among (key k) (λ t. and_then (mark_here dotted t) (λ t. put_row (l ∷ ks) v t)) ts

abbrev pub rows_in : Rows → Tries → Option Tries
rows_in no_rows ts = Some ts
rows_in (row keys at v rows) ts = and_then (row_in (texts keys) (finished v) ts) (λ ts. rows_in rows ts)

row_goes_below : (k : List ℕ) (ks : KeyTexts) (v : Data) (s : Option Standing) (d : Option Data) (ts : Tries)
    → put_row (k ∷ ks) v (trie s d ts) ≡ with_tries s d (row_in (k ∷ ks) v ts)
row_goes_below k [] v s d ts = refl
row_goes_below k (l ∷ ks) v s d ts = refl

pub rows_go_below : (rows : Rows) (s : Option Standing) (d : Option Data) (ts : Tries) → rows_keyed rows ≡ true
    → put_rows rows (trie s d ts) ≡ with_tries s d (rows_in rows ts)
rows_go_below no_rows s d ts e = refl
rows_go_below (row [] at v rows) s d ts e = cc
rows_go_below (row (k ∷ keys) at v rows) s d ts e =
    ap (λ o. and_then o (λ t. put_rows rows t)) (row_goes_below k.text (texts keys) (finished v) s d ts)
    ∙ map_then (λ ts. trie s d ts) (λ t. put_rows rows t) first
    ∙ then_alike (λ ts. put_rows rows (trie s d ts)) (λ ts. with_tries s d (rows_in rows ts))
    (λ ts. rows_go_below rows s d ts e) first
    ∙ then_map (λ ts. trie s d ts) (λ ts. rows_in rows ts) first
  where
    first : Option Tries
    first = row_in (texts (k ∷ keys)) (finished v) ts

-- rows alone are those of one section without a header
abbrev alone : Rows → Section
alone rows = record { at = 0; header = []; is_array = false; rows = rows }

abbrev here : Option Standing
here = Some (table false true false)

alone_put : (rows : Rows) → rows_keyed rows ≡ true → rows_clash rows ≡ false
    → put_sections (alone rows ∷ []) nothing ≡ with_tries here None (rows_in rows no_tries)
alone_put rows k c =
    ap (λ b. and_then (if b then None else put_rows rows (trie here None no_tries)) (λ t. Some t)) c
    ∙ then_some (put_rows rows (trie here None no_tries)) ∙ rows_go_below rows here None no_tries k

alone_data : (rows : Rows) → tree_of_sections (alone rows ∷ []) ≡ tree_of (row_mentions [] rows)
alone_data rows = ap tree_of (append_none (row_mentions [] rows))

pub rows_put : (rows : Rows) (s : Option Standing) → rows_keyed rows ≡ true → rows_clash rows ≡ false
    → (after : Trie) × (put_rows rows (trie s None no_tries) ≡ Some after)
rows_put rows s k c = go (rows_in rows no_tries) refl
    (sym (ap is_some (alone_put rows k c)) ∙ sections_put (alone rows ∷ []) keyed
    ∙ ap (λ b. not ((b || false) || false)) c)
  where
    keyed : ((rows_keyed rows && true) && true) ≡ true
    keyed = rw k refl

    go : (o : Option Tries) → rows_in rows no_tries ≡ o → is_some (with_tries here None o) ≡ true
        → (after : Trie) × (put_rows rows (trie s None no_tries) ≡ Some after)
    go None h e = cc
    go (Some ts) h e = (trie s None ts, rows_go_below rows s None no_tries k ∙ ap (λ o. with_tries s None o) h)

pub inline_data : (rows : Rows) (s : Option Standing) (after : Trie) → rows_keyed rows ≡ true
    → rows_clash rows ≡ false → put_rows rows (trie s None no_tries) ≡ Some after
    → closed (bare after) ≡ finished (Raw.inline rows)
inline_data rows s after k c e =
    go (rows_in rows no_tries) refl (sym (rows_go_below rows s None no_tries k) ∙ e)
  where
    go : (o : Option Tries) → rows_in rows no_tries ≡ o → with_tries s None o ≡ Some after
        → closed (bare after) ≡ finished (Raw.inline rows)
    go None h e = cc
    go (Some ts) h e =
        let same : after ≡ trie s None ts = cc in
        ap (λ t. closed (bare t)) same
        ∙ sections_data (alone rows ∷ []) (trie here None ts)
        (alone_put rows k c ∙ ap (λ o. with_tries here None o) h)
        ∙ alone_data rows
