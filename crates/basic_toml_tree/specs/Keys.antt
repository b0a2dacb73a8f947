-- Which keys of headers and rows a node keeps, of those that lead to it.
use Rattle.std.specs.Prelude.{◌≡◌, ◌<◌, ◌^◌, ◌+◌, ℕ, true, false, List, [], ◌∷◌, ◌++◌, length, take, IfSome, get_or}
use Rattle.std.specs.Borrow.{Bor}
use Rattle.basic_toml_grammar.specs.Sections.{KeyTexts, Section}
use Rattle.basic_toml_grammar.specs.Steps.{key, Path, begins, steps_of, keys_of}
use Rattle.basic_toml_grammar.specs.IndexedPath.{located}
use Rattle.basic_toml_grammar.specs.Nodes.{is_made}
use Rattle.basic_toml_tree.specs.declared.tree.Tree.{Tree}
use Rattle.basic_toml_tree.specs.declared.node.Node.{Node}
use Rattle.basic_toml_tree.specs.declared.spot.Spot.{Spot}
use Rattle.basic_toml_tree.specs.declared.trail.Trail.{Trail}
use Rattle.basic_toml_tree.specs.declared.trail.Trail.TheVariants.{Header, Row}
use Rattle.basic_toml_tree.specs.Headers.{keys_at}
use Rattle.basic_toml_tree.specs.Origin.{header_of, spot_is_made, spot_section}
use Rattle.basic_toml_grow.specs.Origins.{table_within}
use Rattle.basic_toml_tree.specs.Resolve.{IsResolved}

-- the keys of the header of a section of a tree
abbrev pub header_at : Tree → ℕ → KeyTexts
header_at tree n = header_of (keys_at tree.headers n)

-- this header begins with these keys
abbrev pub Leads : Tree → KeyTexts → ℕ → Type 0
Leads tree keys n = begins (steps_of keys) (steps_of (header_at tree n)) ≡ true

-- the trail keeps a header that begins with these keys
pub record KeepsHeader (tree : Tree) (keys : KeyTexts) (kept : Trail) : Type 0 where
  pub section : ℕ
  pub trail : kept ≡ Header section
  pub leads : Leads tree keys section

-- so many keys lead to a node
abbrev pub CountsKeys : Tree → Path → Node → Type 0
CountsKeys tree p node = (sections : List Section) → IsResolved sections tree → node.count ≡ length (keys_of p)

-- Where headers made what is at a path, the keys that lead to it are the first so many of the header that is kept.
abbrev pub KeysLead : Tree → Path → Node → Type 0
KeysLead tree p node =
    (sections : List Section) → IsResolved sections tree → is_made (located sections) p ≡ true
    → KeepsHeader tree (keys_of p) node.trail

-- on from a node that keeps a header, to what headers made at a key: the latest one that leads there is kept
abbrev pub GoesOn : Node → Spot → Trail → Type 0
GoesOn from spot trail = (s : ℕ) → from.trail ≡ Header s → IfSome (spot_section spot) (λ n. trail ≡ Header n)

-- one key more leads there
abbrev pub CountsOn : Node → ℕ → Type 0
CountsOn from count = from.count + 1 < 2 ^ 64 → count ≡ from.count + 1

-- The trail keeps the section of this number, and then the key of the row that stands after those of its header: of
-- these keys, or else this one.
abbrev pub KeepsRow : Tree → ℕ → KeyTexts → List ℕ → Trail → Type 0
KeepsRow tree n keys k (Row m first) =
    (m ≡ n) × (first.now ≡ get_or keys (length (header_at tree n)) k)
KeepsRow tree n keys k (Header m) = ⊥

-- on from a node that keeps a header, to what a row of a section put at a key
abbrev pub BeginsRow : Node → List ℕ → ℕ → Spot → Trail → Type 0
BeginsRow from k n spot trail =
    (s : ℕ) → from.trail ≡ Header s → spot_is_made 1 spot ≡ false
    → KeepsRow from.tree.now n (take from.count (header_at from.tree.now s)) k trail

-- on from a node that keeps a row: the same row is kept
abbrev pub HandsOn : Node → Trail → Type 0
HandsOn from trail = (n : ℕ) (first : Bor (List ℕ)) → from.trail ≡ Row n first → trail ≡ from.trail

-- at a key of a table that headers made, where a row put what is there, and below it
abbrev pub RowsLead : Tree → Path → Node → Type 0
RowsLead tree p node =
    (sections : List Section) → IsResolved sections tree → (q : Path) (k : List ℕ) (r : Path) → p ≡ q ++ key k ∷ r
    → is_made (located sections) q ≡ true
    → IfSome ((table_within tree.root).below (q ++ key k ∷ []))
    (λ o. o.made ≡ false → KeepsRow tree o.section (keys_of q) k node.trail)
