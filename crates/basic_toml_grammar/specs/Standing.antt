-- What stands at a path after some marks, own: it tells which further mark fits (law `marks_fit`). A table can be
-- passed by a header, named by one and extended by dots; an array has so many elements, and none where only its latest
-- was asked for.
use Rattle.std.specs.Prelude.{ℕ, zero, suc, Bool, true, false, not, ◌&&◌, if◌then◌else◌, List, [], ◌∷◌, Option, Some}
use Rattle.std.specs.Prelude.{None}
use Rattle.basic_toml_value.specs.Data.{Data}
use Rattle.basic_toml_grammar.specs.Steps.{Path, path_eq}
use Rattle.basic_toml_grammar.specs.Growth.{Growth, nothing_grown, grow}
use Rattle.basic_toml_grammar.specs.Marks.{MarkKind, passed, by_latest, named, added, dotted, valued, Mark}

pub data Standing : Type 0 where
  -- a table: whether a header passes through it, a header names it, dots extend it
  table : Bool → Bool → Bool → Standing
  array : ℕ → Standing
  value : Standing

abbrev pub fits : MarkKind → Option Standing → Bool
fits by_latest (Some value) = false
fits by_latest _ = true
fits k None = true
fits (valued v) (Some s) = false
fits k (Some value) = false
fits k (Some (array zero)) = true
fits added (Some (array (suc n))) = true
fits k (Some (array (suc n))) = false
fits passed (Some (table p n d)) = true
fits named (Some (table p n d)) = not n && not d
fits dotted (Some (table p n d)) = not n
fits added (Some (table p n d)) = false

-- what stands after one more mark that fits
abbrev pub taken : MarkKind → Option Standing → Standing
taken passed (Some (table p n d)) = table true n d
taken named (Some (table p n d)) = table p true d
taken dotted (Some (table p n d)) = table p n true
taken added (Some (array n)) = array (suc n)
taken by_latest (Some s) = s
taken passed _ = table true false false
taken named _ = table false true false
taken dotted _ = table false false true
taken added _ = array 1
taken by_latest None = array 0
taken (valued v) _ = value

-- what stands at a path after some marks, the latest first
abbrev pub standing_at : List Mark → Path → Option Standing
standing_at [] p = None
standing_at (m ∷ ms) p = if path_eq m.path p then Some (taken m.kind (standing_at ms p)) else standing_at ms p

-- marks in order, where each fits
abbrev pub take_all : List Mark → List Mark → Option (List Mark)
take_all standing [] = Some standing
take_all standing (m ∷ ms) = if fits m.kind (standing_at standing m.path) then take_all (m ∷ standing) ms else None

-- the tree that marks make, the latest first
abbrev pub value_of : MarkKind → Option Data
value_of (valued v) = Some v
value_of k = None

abbrev pub growth_of : List Mark → Growth
growth_of [] = nothing_grown
growth_of (m ∷ ms) = grow (growth_of ms) m.path (value_of m.kind)
