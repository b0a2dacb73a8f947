-- Rows that are put into a trie go on: what is tried gives what is put, and nothing stops values without clashes.
use Rattle.std.proofs.Common.{◌≡◌, Bool, true, false, List, [], ◌∷◌, ◌++◌, Option, Some, None, refl, ap, ◌∙◌}
use Rattle.std.specs.Prelude.{◌&&◌, ◌||◌}
use Rattle.basic_toml_value.specs.Data.{Data}
use Rattle.basic_toml_grammar.specs.Sections.{Key, KeyTexts, texts, Raw, Elements, no_elements, element, Rows}
use Rattle.basic_toml_grammar.specs.Sections.{no_rows, row}
use Rattle.basic_toml_grammar.specs.Steps.{key}
use Rattle.basic_toml_grammar.specs.Mentions.{finished}
use Rattle.basic_toml_grammar.specs.Marks.{dotted, valued}
use Rattle.basic_toml_grammar.specs.Standing.{Standing}
use Rattle.basic_toml_grammar.specs.NamedClash.{last_key}
use Rattle.basic_toml_grammar.specs.Entering.{and_then, rows_keyed, has_key, keyed_within, value_keyed}
use Rattle.basic_toml_grammar.specs.Entering.{elements_keyed}
use Rattle.basic_toml_grammar.specs.RowClash.{rows_clash, value_clashes, elements_clash, any_overlaps}
use Rattle.basic_toml_grammar.specs.Steps.{steps_of}
use Rattle.basic_toml_grammar.specs.Trie.{Trie, trie, Tries, nothing, mark_here}
use Rattle.basic_toml_grammar.specs.Trie.{put_row, put_rows}
use Rattle.basic_toml_grammar.specs.Stops.{Stop, at_row, last_stop, Outcome, goes_on, stops, and_on, held}
use Rattle.basic_toml_grammar.specs.TrieStops.{outcome_map, try_here, try_among, try_put_row, try_put_rows}
use Rattle.basic_toml_grammar.specs.TrieStops.{try_put_value, try_put_elements}
use Rattle.basic_toml_grammar.proofs.Tries.StopsForgotten.{left_of, goes, left_on, left_here, left_step}
use Rattle.basic_toml_grammar.proofs.Tries.RowsInATrie.{rows_put}

left_row : (before : KeyTexts) (ks : List Key) (v : Data) (t : Trie)
    → left_of (try_put_row before ks v t) ≡ put_row (texts ks) v t
left_row before [] v t = left_here (valued v) (last_stop before (last_key [])) t
left_row before (k ∷ []) v t =
    left_step (key k.text) (λ t. try_here (valued v) (last_stop before k) t) (λ t. mark_here (valued v) t) t
    (λ t. left_here (valued v) (last_stop before k) t)
left_row before (k ∷ l ∷ ks) v t =
    left_step (key k.text)
    (λ t. and_on (try_here dotted (λ m. at_row before k) t) (λ t. try_put_row (before ++ k.text ∷ []) (l ∷ ks) v t))
    (λ t. and_then (mark_here dotted t) (λ t. put_row (texts (l ∷ ks)) v t)) t
    (λ t. left_on (λ t. try_put_row (before ++ k.text ∷ []) (l ∷ ks) v t) (λ t. put_row (texts (l ∷ ks)) v t)
    (try_here dotted (λ m. at_row before k) t) (λ t. left_row (before ++ k.text ∷ []) (l ∷ ks) v t)
    ∙ ap (λ o. and_then o (λ t. put_row (texts (l ∷ ks)) v t)) (left_here dotted (λ m. at_row before k) t))

-- A ROW that is put goes on
pub row_goes : (before : KeyTexts) (ks : List Key) (v : Data) (t u : Trie) → put_row (texts ks) v t ≡ Some u
    → try_put_row before ks v t ≡ goes_on u
row_goes before ks v t u e = goes (try_put_row before ks v t) u (left_row before ks v t ∙ e)

-- what goes on, after what went on
abbrev pub Goes : {A : Type 0} → Outcome A → Type 0
Goes {A} o = (a : A) × (o ≡ goes_on a)

neither : (a b : Bool) → (a || b) ≡ false → (a ≡ false) × (b ≡ false)
neither true b e = absurd (cc)
neither false b e = (refl, e)

both : (a b : Bool) → (a && b) ≡ true → (a ≡ true) × (b ≡ true)
both true b e = (refl, e)
both false b e = absurd (cc)

keyed_rows : (rows : Rows) → keyed_within rows ≡ true → rows_keyed rows ≡ true
keyed_rows no_rows e = refl
keyed_rows (row [] at v rows) e = absurd (cc)
keyed_rows (row (k ∷ keys) at v rows) e = keyed_rows rows (both (value_keyed v) (keyed_within rows) e).1

some_then : {A B : Type 0} (o : Option A) (f : A → Option B) (b : B) → and_then o f ≡ Some b
    → (a : A) × ((o ≡ Some a) × (f a ≡ Some b))
some_then (Some a) f b e = (a, (refl, e))
some_then None f b e = absurd (cc)

one_goes : (keys : List Key) (o : Outcome Trie) (v : Data) (rows : Rows) (t u w : Trie) → Goes o
    → put_row (texts keys) v t ≡ Some w → try_put_rows rows w ≡ goes_on u
    → and_on (held keys o) (λ _. and_on (try_put_row [] keys v t) (λ t. try_put_rows rows t)) ≡ goes_on u
one_goes keys o v rows t u w g p h = rw (g.1, row_goes [] keys v t w p) h

two_go : (o p : Outcome Trie) → Goes o → Goes p → Goes (and_on o (λ _. p))
two_go o p g h = (h.0, rw g.1 h.1)

mutual
  -- ROWS that are put go on where they do not clash
  pub rows_go : (rows : Rows) (t u : Trie) → keyed_within rows ≡ true → rows_clash rows ≡ false
      → put_rows rows t ≡ Some u → try_put_rows rows t ≡ goes_on u
  rows_go no_rows t u k c e = goes (goes_on t) u e
  rows_go (row keys at v rows) t u k c e =
      let a = both (has_key keys && value_keyed v) (keyed_within rows) k in
      let b = both (has_key keys) (value_keyed v) a.0 in
      let d = neither (any_overlaps (steps_of (texts keys)) rows || value_clashes v) (rows_clash rows) c in
      let f = neither (any_overlaps (steps_of (texts keys)) rows) (value_clashes v) d.0 in
      let p = some_then (put_row (texts keys) (finished v) t) (λ t. put_rows rows t) u e in
      one_goes keys (try_put_value v) (finished v) rows t u p.0 (value_goes v b.1 f.1) p.1.0
      (rows_go rows p.0 u a.1 d.1 p.1.1)

  pub value_goes : (v : Raw) → value_keyed v ≡ true → value_clashes v ≡ false → Goes (try_put_value v)
  value_goes (Raw.integer z) k c = (nothing, refl)
  value_goes (Raw.float t) k c = (nothing, refl)
  value_goes (Raw.boolean b) k c = (nothing, refl)
  value_goes (Raw.string t _) k c = (nothing, refl)
  value_goes (Raw.array es) k c = elements_go es k c
  value_goes (Raw.inline rs) k c =
      let p = rows_put rs None (keyed_rows rs k) c in
      (p.0, rows_go rs nothing p.0 k c p.1)

  pub elements_go : (es : Elements) → elements_keyed es ≡ true → elements_clash es ≡ false
      → Goes (try_put_elements es)
  elements_go no_elements k c = (nothing, refl)
  elements_go (element at v es) k c =
      let a = both (value_keyed v) (elements_keyed es) k in
      let d = neither (value_clashes v) (elements_clash es) c in
      two_go (try_put_value v) (try_put_elements es) (value_goes v a.0 d.0) (elements_go es a.1 d.1)

-- what stops keyed rows does not depend on what stands above them
row_aside : (k : Key) (ks : List Key) (d : Data) (s : Option Standing) (v : Option Data) (ts : Tries)
    → (o : Outcome Tries)
    × ((u : Option Standing) (w : Option Data)
    → try_put_row [] (k ∷ ks) d (trie u w ts) ≡ outcome_map (λ ts. trie u w ts) o)
row_aside k [] d s v ts = (try_among (key k.text) (λ t. try_here (valued d) (last_stop [] k) t) ts, λ u w. refl)
row_aside k (l ∷ ks) d s v ts = (
  try_among (key k.text)
      (λ t. and_on (try_here dotted (λ m. at_row [] k) t) (λ t. try_put_row (k.text ∷ []) (l ∷ ks) d t)) ts,
  λ u w. refl,
)

pub rows_aside : (rows : Rows) (s u : Option Standing) (v w : Option Data) (ts : Tries) (x : Stop)
    → rows_keyed rows ≡ true → try_put_rows rows (trie s v ts) ≡ stops x → try_put_rows rows (trie u w ts) ≡ stops x
rows_aside no_rows s u v w ts x keyed stop = absurd (cc)
rows_aside (row [] at v rows) s u a w ts x keyed stop = absurd (cc)
rows_aside (row (k ∷ ks) at v rows) s u a w ts x keyed stop =
    let o = row_aside k ks (finished v) s a ts in
    rw (o.1 u w) (go (held (k ∷ ks) (try_put_value v)) o.0 (λ ts. rows_aside rows s u a w ts x keyed)
    (rw (← o.1 s a) stop))
  where
    go : (h : Outcome Trie) (o : Outcome Tries)
        → ((ts : Tries) → try_put_rows rows (trie s a ts) ≡ stops x → try_put_rows rows (trie u w ts) ≡ stops x)
        → and_on h (λ _. and_on (outcome_map (λ ts. trie s a ts) o) (λ t. try_put_rows rows t)) ≡ stops x
        → and_on h (λ _. and_on (outcome_map (λ ts. trie u w ts) o) (λ t. try_put_rows rows t)) ≡ stops x
    go (stops y) o more stop = stop
    go (goes_on t) (stops y) more stop = stop
    go (goes_on t) (goes_on ts) more stop = more ts stop
