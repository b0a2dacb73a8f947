-- What a node keeps of the keys of headers and rows that lead to it.
use Rattle.std.proofs.Common.{arith, ◌≡◌, ◌⊎◌, inl, inr, ◌<◌, ℕ, true, false, List, [], ◌∷◌, ◌++◌, length, map, take}
use Rattle.std.proofs.Common.{Some, refl, ap, sym, ◌∙◌, get_or, slice_get, IfSome}
use Rattle.std.proofs.lemmas.List.{length-map, get_or-take}
use Rattle.std.proofs.lemmas.Option.{IfSome_then, get_or_from_slice_get}
use Rattle.basic_toml_grammar.specs.IndexedPath.{Located, located}
use Rattle.basic_toml_grammar.specs.Nodes.{is_made}
use Rattle.basic_toml_grammar.proofs.Clash.PathsAgree.{append_none, keys-append}
use Rattle.basic_toml_grammar.specs.Sections.{KeyTexts, Section}
use Rattle.basic_toml_grammar.specs.Steps.{Step, key, number, Path, begins, keys_of}
use Rattle.basic_toml_read.specs.declared.section.Key.{Key}
use Rattle.basic_toml_read.specs.SectionView.{header_texts, key_of}
use Rattle.basic_toml_tree.specs.declared.tree.Tree.{Tree}
use Rattle.basic_toml_tree.specs.Keys.{CountsKeys, KeysLead, KeepsRow, HandsOn, RowsLead}
use Rattle.basic_toml_tree.specs.Resolve.{IsResolved}
use Rattle.basic_toml_tree.specs.Stands.{StandsAt, IsBeside, tree_origins}
use Rattle.basic_toml_tree.specs.declared.node.Node.{Node}
use Rattle.basic_toml_tree.specs.declared.spot.Spot.{Spot}
use Rattle.basic_toml_tree.specs.declared.trail.Trail.TheVariants.{Header}
use Rattle.basic_toml_tree.proofs.HeadersMake.{any_of, of_any}
use Rattle.basic_toml_tree.proofs.Nodes.NodesInOrder.{mapped_read, read_mapped}
use Rattle.basic_toml_tree.proofs.Origins.RowsAreNodes.{begins_front}

-- as many texts as keys
pub text_count : (keys : List Key) → length (header_texts keys) ≡ length keys
text_count keys = length-map (map key_of keys) (λ k. k.text) ∙ length-map keys key_of

-- the text of the key at a number
pub key_there : (keys : List Key) (n : ℕ) (k : Key) → n < length keys → k ≡ get_or keys n k
    → slice_get (header_texts keys) n ≡ Some (key_of k).text
key_there keys n k within read =
    read_mapped (λ k. k.text) (map key_of keys) n (key_of k) (mapped_read key_of keys n k within read)

-- the key at a number of the first so many
pub among_first : (keys : KeyTexts) (count n : ℕ) (k found : List ℕ) → n < count → slice_get keys n ≡ Some found
    → found ≡ get_or (take count keys) n k
among_first keys count n k found within there =
    sym (get_or-take count keys n k within ∙ get_or_from_slice_get keys n found k there)

-- what headers made below a path, and at it
pub made_before : (ls : List Located) (p : Path) (s : Step) → is_made ls (p ++ s ∷ []) ≡ true → is_made ls p ≡ true
made_before ls [] s made = refl
made_before ls (r ∷ p) s made =
    let l = any_of (λ l. begins (r ∷ p ++ s ∷ []) l.path) ls made in
    of_any (λ l. begins (r ∷ p) l.path) l.1 (begins_front (r ∷ p) (s ∷ []) l.0.path l.2)

-- an element has the keys of its array
keys_more : (p : Path) (n : ℕ) → keys_of (p ++ number n ∷ []) ≡ keys_of p
keys_more p n = keys-append p (number n ∷ []) ∙ append_none (keys_of p)

-- Of two beginnings from which a path goes on, one goes on from the other.
abbrev pub Beyond : Path → Path → Path → Path → Type 0
Beyond w y v z = (b : Path) × (v ≡ w ++ b) × (y ≡ b ++ z)

pub compare : (w y v z : Path) → w ++ y ≡ v ++ z → Beyond w y v z ⊎ Beyond v z w y
compare [] y v z same = inl (v, refl, same)
compare (s ∷ w) y [] z same = inr (s ∷ w, refl, sym same)
compare (s ∷ w) y (t ∷ v) z same =
    let first : s ≡ t = cc in
    let rest : w ++ y ≡ v ++ z = cc in
    elim (compare w y v z rest) [
      | inl b ↦ inl (b.0, cc (first, b.1), b.2)
      | inr b ↦ inr (b.0, cc (first, b.1), b.2)
    ]

-- The last step of a path is this one, or stands further on.
abbrev EndsAt : Path → Step → Path → Step → Type 0
EndsAt p s q t = ((p ≡ q) × (s ≡ t)) ⊎ ((more : Path) × (p ≡ q ++ t ∷ more))

last_step : (p q : Path) (s t : Step) (r : Path) → p ++ s ∷ [] ≡ q ++ t ∷ r → EndsAt p s q t
last_step [] [] s t r same = inl (refl, cc)
last_step [] (u ∷ []) s t r same = absurd (cc)
last_step [] (u ∷ v ∷ q) s t r same = absurd (cc)
last_step (u ∷ p) [] s t r same = let one : u ≡ t = cc in inr (p, ap (λ u. u ∷ p) one)
last_step (u ∷ p) (v ∷ q) s t r same =
    let one : u ≡ v = cc in
    let rest : p ++ s ∷ [] ≡ q ++ t ∷ r = cc in
    elim (last_step p q s t r rest) [ inl e ↦ inl (cc (one, e.0), e.1) | inr e ↦ inr (e.0, cc (one, e.1)) ]

-- a node that hands on what is kept keeps the same row
row_on : (from node : Node) → HandsOn from node.trail → (tree : Tree) (n : ℕ) (keys : KeyTexts) (k : List ℕ)
    → KeepsRow tree n keys k from.trail → KeepsRow tree n keys k node.trail
row_on from node hands tree n keys k kept = grind arith

-- one step on from a table that headers made, the row is kept that put there what is there
abbrev pub BeginsAt : Tree → Path → Step → Node → Type 0
BeginsAt tree p s node =
    (sections : List Section) → IsResolved sections tree → (k : List ℕ) → s ≡ key k
    → is_made (located sections) p ≡ true
    → IfSome (tree_origins tree (p ++ s ∷ [])) (λ o. o.made ≡ false → KeepsRow tree o.section (keys_of p) k node.trail)

-- one step on from a node, whose row is handed on
pub rows_on : (from node : Node) (s : Step) → HandsOn from node.trail → (tree : Tree) (p : Path) → StandsAt tree p from
    → BeginsAt tree p s node → RowsLead tree (p ++ s ∷ []) node
rows_on from node s hands tree p stands begins sections resolved q k r same made =
    elim (last_step p q s (key k) r same) [
      | inl one ↦ rw (← (one.0), ← (one.1)) (begins sections resolved k one.1 (rw (one.0) made))
      | inr further ↦
          IfSome_then (tree_origins tree (q ++ key k ∷ [])) (stands.rows sections resolved q k further.0 further.1 made)
          (λ o kept apart. row_on from node hands tree o.section (keys_of q) k (kept apart))
    ]

-- what a node keeps of the keys that lead to it
abbrev pub KeepsKeys : Tree → Path → Node → Type 0
KeepsKeys tree p node = CountsKeys tree p node × KeysLead tree p node × RowsLead tree p node

-- an element keeps what its array keeps: it is below the key that its array is below
pub keys_beside : (from node : Node) (here : Spot) (n : ℕ) → IsBeside from here node → (tree : Tree) (p : Path)
    → StandsAt tree p from → KeepsKeys tree (p ++ number n ∷ []) node
keys_beside from node here n beside tree p stands = (
  λ sections resolved. beside.count ∙ stands.count sections resolved ∙ ap length (sym (keys_more p n)),
  λ sections resolved made.
      let before = stands.keys sections resolved (made_before (located sections) p (number n) made) in
      rw (keys_more p n, beside.trail) before,
  rows_on from node (number n) (λ m first is. beside.trail) tree p stands (λ sections resolved k is. absurd (cc)),
)

-- the root, to which no key leads
pub root_rows : (tree : Tree) (node : Node) → RowsLead tree [] node
root_rows tree node sections resolved [] k r same made = absurd (cc)
root_rows tree node sections resolved (s ∷ q) k r same made = absurd (cc)

pub root_keys : (tree : Tree) (node : Node) → node.trail ≡ Header 0 → KeysLead tree [] node
root_keys tree node kept sections resolved made = record { section = 0; trail = kept; leads = refl }

pub root_count : (tree : Tree) (node : Node) → node.count ≡ 0 → CountsKeys tree [] node
root_count tree node none sections resolved = none
