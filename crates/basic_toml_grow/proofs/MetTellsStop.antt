-- What a row meets tells what stops it, key by key; and the clash that is answered for a row says what was met, or what
-- stops its value.
use Rattle.std.proofs.Common.{rules, ◌≡◌, ℕ, suc, ◌+◌, Bool, true, false, ◌||◌, List, [], ◌∷◌, ◌++◌, refl, ap, ◌∙◌}
use Rattle.std.proofs.Common.{Option, Some, None, Err, length, take, map, Box, Global, arith, append-nil, append_assoc}
use Rattle.std.proofs.Common.{length-append, slice_get, ◌-◌}
use Rattle.std.proofs.lemmas.List.{length-map}
use Rattle.basic_toml_value.specs.Data.{Data}
use Rattle.basic_toml_grammar.specs.Sections.{Key, KeyTexts, texts}
use Rattle.basic_toml_grammar.specs.Steps as steps
use Rattle.basic_toml_grammar.specs.Marks.{dotted, valued}
use Rattle.basic_toml_grammar.specs.Standing as standings
use Rattle.basic_toml_grammar.specs.Entering.{and_then}
use Rattle.basic_toml_grammar.specs.Trie.{Trie, trie, below, mark_here, put_row, standing}
use Rattle.basic_toml_grammar.specs.Stops.{Stop, at_row, last_stop, Outcome, goes_on, stops, and_on}
use Rattle.basic_toml_grammar.specs.TrieStops.{try_here, try_step, try_put_row}
use Rattle.basic_toml_grammar.proofs.Tries.StopsByPath.{path_here, path_stop}
use Rattle.basic_toml_grammar.proofs.Tries.StopsForgotten.{goes, left_here}
use Rattle.basic_toml_read.specs.declared.section.Key as code_keys
use Rattle.basic_toml_read.specs.SectionView.{header_texts, key_of}
use Rattle.basic_toml_grow.specs.declared.item.Item as items
use Rattle.basic_toml_grow.specs.declared.item.Child.{Child, out-Child}
use Rattle.basic_toml_grow.specs.declared.item.Item.TheOpen.{Item-F, Table-F}
use Rattle.basic_toml_grow.specs.declared.item.Item.TheViews.{out-roll-Table}
use Rattle.basic_toml_grow.specs.declared.item.Table.{Table, out-Table, roll-Table}
use Rattle.basic_toml_grow.specs.declared.met.Met.{Met}
use Rattle.basic_toml_grow.specs.declared.met.Met.TheVariants as mets
use Rattle.basic_toml_grow.specs.Item.{child_trie, table_trie, item_trie, empty_table, trie_before}
use Rattle.basic_toml_value.specs.Growth.{values_of, FindsOrAdds}
use Rattle.basic_toml_value.specs.declared.pairs.growth.Place.{Place}
use Rattle.basic_toml_grow.specs.RowStops.{key_at, StopsAtKey, TellsStop, TellsLast, TellsRow, TellsExtended, SaysMet}
use Rattle.basic_toml_grow.specs.Takes.{ExtendsBy}
use Rattle.basic_toml_grow.proofs.KeysInATrie.{at_entered}
use Rattle.basic_toml_grow.proofs.ItemTries.{child_item_trie, table_entries_trie}
use Rattle.basic_toml_grow.proofs.ItemsStand.{shape}
use Rattle.basic_toml_grow.proofs.TablesOpened.{table_item_trie}
use Rattle.basic_toml_grow.specs.declared.clash.Clash.{Clash}
use Rattle.basic_toml_grow.specs.declared.clash.Clash.TheVariants as clashes
use Rattle.basic_toml_grow.specs.Clash.{IsStop, NamesObstacle}
use Rattle.basic_toml_grow.specs.Obstacles.{and_behind}

-- some key stops
key_stops : {before : KeyTexts} {left : ℕ} {o : Outcome Trie} (front : List Key) (k : Key) (rest : List Key)
    → left ≡ suc (length rest) → o ≡ stops (at_row (before ++ texts front) k)
    → StopsAtKey before (front ++ k ∷ rest) left o
key_stops front k rest count stop =
    record { front = front; there = k; rest = rest; parts = refl; count = count; stop = stop }

-- what is told of a row, told with a key before it
told_further : (before : KeyTexts) (first : Key) (keys : List Key) (k : Key) (o : Outcome Trie) (met : Met)
    → TellsStop (before ++ first.text ∷ []) keys k o met → TellsStop before (first ∷ keys) k o met
told_further before first keys k o mets.Memory told = tt
told_further before first keys k o mets.Row told =
    told ∙ ap (λ b. stops (at_row (take 1 b) k)) (append_assoc before (first.text ∷ []) (texts keys))
told_further before first keys k o (mets.Header left) told =
    rw told.parts (key_stops (first ∷ told.front) told.there told.rest told.count
    (told.stop ∙ ap (λ b. stops (at_row b told.there)) (append_assoc before (first.text ∷ []) (texts told.front))))

-- what headers made stands at the last key
abbrev pub by_headers : Option standings.Standing → Bool
by_headers (Some (standings.table p n d)) = p || n
by_headers (Some (standings.array n)) = true
by_headers _ = false

trie_stands : (t : Trie) → by_headers (standing t) ≡ true → TellsLast t (mets.Header 1)
trie_stands (trie s v ts) made = λ before k d. key_stops [] k [] refl (rw (append-nil before) (grind arith))

pub headers_stand : (c : Child) (i : items.Item) → (out-Child c).item ≡ i
    → by_headers (standing (item_trie i)) ≡ true → TellsLast (child_trie c) (mets.Header 1)
headers_stand c i is made = trie_stands (child_trie c) (rw (child_item_trie c, is) made)

-- a row with a key more before its last one: what that key leads to
abbrev on_by_dots : KeyTexts → Key → List Key → Data → Trie → Outcome Trie
on_by_dots before first ks d t =
    and_on (try_here dotted (λ m. at_row before first) t) (λ t. try_put_row (before ++ first.text ∷ []) ks d t)

try_row_on : (before : KeyTexts) (first : Key) (ks : List Key) (k : Key) (d : Data) (t : Trie)
    → try_put_row before (first ∷ (ks ++ k ∷ [])) d t
    ≡ try_step (steps.key first.text) (λ t. on_by_dots before first (ks ++ k ∷ []) d t) t
try_row_on before first [] k d t = refl
try_row_on before first (l ∷ ks) k d t = refl

module _ {gives : Child → Type 0} (before : Table) (k : List ℕ) (new : List (List ℕ × Child)) (p : Place)
    (e : FindsOrAdds gives k (out-Table before).entries new p)
    (there : Child) (stands : slice_get (values_of new) p.position ≡ Some there) where
  abbrev stood : Trie
  stood = trie_before p.is_new (child_trie there)

  -- what is told of a change of it is told of the change at the key
  step_told : (g : Trie → Outcome Trie) (front : KeyTexts) (keys : List Key) (last : Key) (met : Met)
      → TellsStop front keys last (g stood) met
      → TellsStop front keys last (try_step (steps.key k) g (table_trie before)) met
  step_told g front keys last met told =
      let entries = ap (below (steps.key k)) (table_entries_trie before) in
      let is = entries ∙ (at_entered child_trie k (out-Table before).entries new p e there stands).0 in
      let on : (x : Stop) → g stood ≡ stops x → try_step (steps.key k) g (table_trie before) ≡ stops x = λ x stop.
      path_here (steps.key k ∷ []) g (λ t. stops x) (table_trie before) (ap g is ∙ stop)
      ∙ path_stop (steps.key k ∷ []) x (table_trie before) in
      grind (arith, on)

  pub last_told : (met : Met) (d : Data) → TellsLast stood met → TellsRow [] k d (table_trie before) met
  last_told met d told = λ front offset.
      let last = key_at offset k in
      step_told (λ t. try_here (valued d) (last_stop front last) t) front [] last met (told front last d)

  pub row_told : (met : Met) (at : ℕ) (ks : List Key) (last : List ℕ) (d : Data) → TellsExtended ks last d stood met
      → TellsRow (key_at at k ∷ ks) last d (table_trie before) met
  row_told met at ks last d told = λ front offset.
      let first = key_at at k in
      rw (try_row_on front first ks (key_at offset last) d (table_trie before))
      (step_told (λ t. on_by_dots front first (ks ++ key_at offset last ∷ []) d t) front (first ∷ ks)
      (key_at offset last) met (told front first offset))

-- what a key that a period follows leads to
pub extended_on : (ks : List Key) (last : List ℕ) (d : Data) (t u : Trie) (met : Met) → mark_here dotted t ≡ Some u
    → TellsRow ks last d u met → TellsExtended ks last d t met
extended_on ks last d t u met is told = λ before first offset.
    let on : try_here dotted (λ m. at_row before first) t ≡ goes_on u =
    goes (try_here dotted (λ m. at_row before first) t) u (left_here dotted (λ m. at_row before first) t ∙ is) in
    rw on (told_further before first ks (key_at offset last) _ met (told (before ++ first.text ∷ []) offset))

stopped_here : (before : KeyTexts) (first : Key) (t : Trie) → mark_here dotted t ≡ None
    → try_here dotted (λ m. at_row before first) t ≡ stops (at_row before first)
stopped_here before first (trie s v ts) none = grind arith

pub extended_refused : {now : Child} (parents : List code_keys.Key) (last : List ℕ) (child there : Child)
    → mark_here dotted (child_trie there) ≡ None
    → ExtendsBy parents last child there now (Err (mets.Header (length parents + 2)))
extended_refused parents last child there none = record {
  entered = λ d is_leaf. ap (λ m. and_then m (λ t. put_row (header_texts parents ++ last ∷ []) d t)) none;
  named = λ d is_leaf before first offset.
      let many = length-append (map key_of parents) (key_at offset last ∷ []) in
      rw (stopped_here before first (child_trie there) none)
      (key_stops [] first _ (omega (arith, many, length-map parents key_of)) (rw (append-nil before) refl));
  origins = tt;
}

-- a table that dots extend
abbrev pub dotted_fields : Table → Table-F items.Item Child Table
dotted_fields t = record (out-Table t) { dotted = true }

-- dots extend a new table as they do nothing
pub dotted_before : (is_new : Bool) (t : Trie) → (is_new ≡ true → t ≡ empty_table)
    → mark_here dotted (trie_before is_new t) ≡ mark_here dotted t
dotted_before is_new t fresh = grind arith

pub extended_before : (is_new : Bool) (ks : List Key) (last : List ℕ) (d : Data) (t : Trie) (met : Met)
    → (is_new ≡ true → t ≡ empty_table) → TellsExtended ks last d t met
    → TellsExtended ks last d (trie_before is_new t) met
extended_before true ks last d t met fresh told = rw (fresh refl) at told
extended_before false ks last d t met fresh told = told

pub dotted_table : (c : Child) (t : Box Table Global) (e : Table) → (out-Child c).item ≡ items.Table t → e ≡ t.value
    → (out-Table e).named ≡ false → mark_here dotted (child_trie c) ≡ Some (table_trie (roll-Table (dotted_fields e)))
dotted_table c t e is same named =
    let u = dotted_fields e in
    rw (child_item_trie c, is, table_item_trie t, ← same, table_entries_trie e)
    (rw (table_entries_trie (roll-Table u), out-roll-Table u, named) refl)

pub named_refuses : (c : Child) (t : Box Table Global) → (out-Child c).item ≡ items.Table t
    → (out-Table t.value).named ≡ true → mark_here dotted (child_trie c) ≡ None
named_refuses c t is named =
    rw (child_item_trie c, is, table_item_trie t, table_entries_trie t.value, named) refl

-- what is no table refuses dots
pub other_refuses : (c : Child) → ((t : Box Table Global) → (out-Child c).item ≡ items.Table t → ⊥)
    → mark_here dotted (child_trie c) ≡ None
other_refuses c no_table = ap (mark_here dotted) (child_item_trie c) ∙ go (items.out-Item i) refl
  where
    i : items.Item
    i = (out-Child c).item

    go : (x : Item-F items.Item Child Table) → items.out-Item i ≡ x → mark_here dotted (item_trie i) ≡ None
    go (Item-F.Table t) e = absurd (no_table t (shape i (Item-F.Table t) e ∙ search (rules, items.the_lemmas)))
    go x e = ap (λ i. mark_here dotted (item_trie i)) (shape i x e) ∙ search (rules, items.the_lemmas)

-- a clash that is a stop
names : (clash : Clash) (x : Stop) (o : Outcome Trie) → IsStop clash x → o ≡ stops x
    → NamesObstacle (and_behind o (λ _. None)) clash
names clashes.Memory x o is told = absurd is
names clashes.Deep x o is told = absurd is
names _ x o is told = (x, (is, ap (λ (o : Outcome Trie). and_behind o (λ _. None)) told))

-- where keys and one more fall into parts, a key that stands behind the front ones is the next
parts_there : (parents : List code_keys.Key) (last there : Key) (front rest : List Key) (r : code_keys.Key)
    → map key_of parents ++ last ∷ [] ≡ front ++ there ∷ rest → slice_get parents (length front) ≡ Some r
    → (header_texts (take (length front) parents) ≡ texts front) × (key_of r ≡ there)
parts_there [] last there front rest r parts at = absurd (cc)
parts_there (k ∷ parents) last there [] rest r parts at = (refl, cc)
parts_there (k ∷ parents) last there (f ∷ front) rest r parts at =
    let more = parts_there parents last there front rest r (cc) at in
    let same : key_of k ≡ f = cc in (rw (← same, more.0) refl, more.1)

module _ (parents : List code_keys.Key) (offset : ℕ) (last : List ℕ) (left number : ℕ)
    (is_number : number ≡ length parents + 1 - left)
    (path : KeyTexts) (is_path : path ≡ header_texts (take number parents)) (clash : Clash) where
  -- the clash names the key at the number
  pub key_said : (r : code_keys.Key) → slice_get parents number ≡ Some r → IsStop clash (at_row path (key_of r))
      → SaysMet (map key_of parents) (key_at offset last) (mets.Header left) clash
  key_said r at said = λ o told.
      let all = ap length told.parts in
      let front = length-append told.front (told.there ∷ told.rest) in
      let seen = length-append (map key_of parents) (key_at offset last ∷ []) in
      let n : number ≡ length told.front =
      omega (arith, is_number, told.count, all, front, seen, length-map parents key_of) in
      let next = parts_there parents (key_at offset last) told.there told.front told.rest r told.parts (rw (← n) at) in
      names clash (at_row path (key_of r)) o said (told.stop ∙ rw (is_path, n, next.0, next.1) refl)
