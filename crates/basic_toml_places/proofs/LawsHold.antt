-- The laws, as their statements have them.
use Rattle.std.proofs.Common.{◌≡◌, ℕ, ◌∷◌, length, drop, false, [], List, Option, Some, IsSomeAnd, sym, subst}
use Rattle.std.specs.Str.{chars}
use Rattle.basic_toml_tokens.specs.Text.{start_of, is_comment}
use Rattle.basic_toml_grammar.specs.Sections.{Section}
use Rattle.basic_toml_grammar.specs.Steps.{Path, keys_of}
use Rattle.basic_toml_grammar.specs.IndexedPath.{Located, located}
use Rattle.basic_toml_grammar.specs.Nodes.{Node, last_at, node_of_sections}
use Rattle.basic_toml_places.specs.Places.{value_offsets, path_at, as_far_as}
use Rattle.basic_toml_places.specs.Statements.{ValuesBeginApart, NodesAreFoundByStart}
use Rattle.basic_toml_places.proofs.OffsetsRise.{folded_rises}
use Rattle.basic_toml_places.proofs.OffsetsInOrder.{between_increases}
use Rattle.basic_toml_places.proofs.ValuesInOrder.{list_in_order}
use Rattle.basic_toml_places.proofs.PathsLead.{leads_far}
use Rattle.basic_toml_places.proofs.ValuesFound.{Found}
use Rattle.basic_toml_places.proofs.NodesFound.{of_sections}

pub begin_apart : ValuesBeginApart
begin_apart text sections is =
    let start : ℕ = start_of text in
    let o = list_in_order is_comment start is (folded_rises false start (chars (drop start text))) in
    between_increases start o.0 (value_offsets sections) o.1

-- what was found, in the words of the statement
told : (sections : List Section) (n m : ℕ) (p : Path) (node : Node) → Found (path_at sections) n m p node
    → IsSomeAnd node.start (λ at. IsSomeAnd (path_at sections at) (λ q. as_far_as (length (keys_of p)) q ≡ p))
told sections n m p node r =
    subst (λ (start : Option ℕ). IsSomeAnd start
    (λ at. IsSomeAnd (path_at sections at) (λ q. as_far_as (length (keys_of p)) q ≡ p)))
    (sym r.start)
    (subst (λ (found : Option Path). IsSomeAnd found (λ q. as_far_as (length (keys_of p)) q ≡ p)) (sym r.found)
    (leads_far r.leads))

pub found_by_start : NodesAreFoundByStart
found_by_start text sections is [] node e made = cc
found_by_start text sections is (s ∷ p) node e made =
    let start : ℕ = start_of text in
    let o = list_in_order is_comment start is (folded_rises false start (chars (drop start text))) in
    let ls : List Located = located sections in
    let from_rows : node_of_sections ls (last_at sections) ls (s ∷ p) ≡ Some node = rw made at e in
    told sections start o.0 (s ∷ p) node
    (of_sections ls (last_at sections) [] sections start o.0 (s ∷ p) node made o.1 from_rows)
