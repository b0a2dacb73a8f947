-- A row is followed by a tree, one key after another.
use Rattle.std.proofs.Common.{◌≡◌, inl, inr, ℕ, List, [], ◌∷◌, ◌++◌, refl, sym, ◌∙◌, map, rules, Option, Some, None}
use Rattle.std.proofs.Common.{option_map, Result, Ok, Err, arith, slice_get, bytes_eq}
use Rattle.std.proofs.Math.Path.{fun_ext}
use Rattle.std.proofs.lemmas.Bool.{cases_Bool}
use Rattle.std.proofs.lemmas.Slice.Eq.{bytes_eq-Decides}
use Rattle.basic_toml_index.proofs.DistinctKeys.{bytes_eq-same}
use Rattle.basic_toml_value.specs.Pairs.{value_at}
use Rattle.basic_toml_grammar.specs.Sections.{KeyTexts}
use Rattle.basic_toml_grow.specs.declared.crossed.KeyTree.{KeyTree, out-KeyTree, roll-KeyTree, the_lemmas}
use Rattle.basic_toml_grow.specs.declared.crossed.Crossed.{Crossed}
use Rattle.basic_toml_grow.specs.declared.crossed.Crossed.TheVariants.{Memory, At}
use Rattle.basic_toml_grow.specs.KeyTree.{ends_below, ends_from, ends_of, no_key_tree, value_on, Follows, FollowsTo}
use Rattle.basic_toml_grow.specs.Crossed.{and_end}
use Rattle.basic_toml_grow.proofs.ValuesOnTheWay.{follows_so, row_ends}
use Rattle.basic_toml_value.specs.Growth.{with_value, values_of, FindsOrAdds}
use Rattle.basic_toml_value.specs.declared.pairs.growth.Place.{Place}
use Rattle.basic_toml_value.proofs.KeysChanged.{value_at-map, made_first, stood_or_fresh, put_at, kept_elsewhere}

-- a tree by its parts
pub key_tree_ends : (t : KeyTree)
    → ends_of t ≡ ends_from (out-KeyTree t).end (map (λ p. (p.0, ends_of p.1)) (out-KeyTree t).below)
key_tree_ends t = search (rules, the_lemmas)

pub rolled_below : (end : Option ℕ) (below : List (List ℕ × KeyTree))
    → (out-KeyTree (roll-KeyTree (record { end = end; below = below }))).below ≡ below
rolled_below end below = search (rules, the_lemmas)

-- nothing ends where no row is followed yet
pub nowhere : (path : KeyTexts) → ends_of no_key_tree path ≡ None
nowhere [] = search (rules, the_lemmas)
nowhere (k ∷ path) = search (rules, the_lemmas)

pub ends_at_key : (t : KeyTree) (k : List ℕ) (path : KeyTexts)
    → ends_of t (k ∷ path) ≡ ends_below (option_map ends_of (value_at (out-KeyTree t).below k)) path
ends_at_key t k path = rw (key_tree_ends t, value_at-map ends_of (out-KeyTree t).below k) refl

-- a path that goes on meets the value that ends here
pub met_here : (t : KeyTree) (end : ℕ) → (out-KeyTree t).end ≡ Some end → (front : KeyTexts) (k : List ℕ)
    → value_on (ends_of t) (front ++ k ∷ []) ≡ Some end
met_here t end is [] k = rw (key_tree_ends t, is) refl
met_here t end is (l ∷ front) k = rw (key_tree_ends t, is) refl

-- a tree where a key is entered
module _ {gives : KeyTree → Type 0} (t there : KeyTree) (k : List ℕ) (new : List (List ℕ × KeyTree)) (p : Place)
    (e : FindsOrAdds gives k (out-KeyTree t).below new p) (fresh : (u : KeyTree) → gives u → u ≡ no_key_tree)
    (stands : slice_get (values_of new) p.position ≡ Some there) where
  stood : (path : KeyTexts) → ends_of t (k ∷ path) ≡ ends_of there path
  stood path = elim (stood_or_fresh k e.there (out-KeyTree t).below new p.position e.entered there stands) [
    | inl at ↦ rw (ends_at_key t k path, at) refl
    | inr none ↦
        let new = fresh e.there (made_first gives k (out-KeyTree t).below new p e none.0) in
        rw (ends_at_key t k path, none.0, none.1, new) (sym (nowhere path))
  ]

  -- what has gone on stands there then
  module _ (gone : KeyTree) (t_end : (out-KeyTree t).end ≡ None) where
    abbrev u : KeyTree
    u =
        let mid = roll-KeyTree (record { end = (out-KeyTree t).end; below = new }) in
        let below = with_value (out-KeyTree mid).below p.position gone in
        roll-KeyTree (record { end = (out-KeyTree mid).end; below = below })

    u_is : out-KeyTree u ≡ record { end = (out-KeyTree t).end; below = with_value new p.position gone }
    u_is = search (rules, the_lemmas)

    -- the values on the way by the key, at which none ends
    on_is : (path : KeyTexts) → value_on (ends_of t) (k ∷ path) ≡ value_on (ends_of there) path
    on_is path =
        let none : ends_of t [] ≡ None = rw (key_tree_ends t) t_end in
        rw (none, fun_ext stood) refl

    -- where what ends there, what ends here
    ends : (path : KeyTexts) (start : ℕ) → Follows (ends_of there) (ends_of gone) path start → (q : KeyTexts)
        → ends_of u q ≡ and_end (ends_of t) (k ∷ path) start q
    ends path start deeper [] = rw (key_tree_ends u, u_is, key_tree_ends t, t_end) refl
    ends path start deeper (l ∷ q) = elim (cases_Bool (bytes_eq l k)) [
      | inl same ↦
          let put = put_at k e.there _ new p.position e.entered there stands gone in
          rw ((bytes_eq-Decides l k).0 same, ends_at_key u k q, u_is, put, stood q, bytes_eq-same k)
          (follows_so (ends_of there) path start (ends_of gone) deeper q)
      | inr other ↦
          let kept = kept_elsewhere k e.there _ new p.position e.entered there stands gone l other in
          rw (ends_at_key u l q, u_is, kept, ends_at_key t l q, other) (grind arith)
    ]

    -- what goes on below goes on here, and so does what goes wrong
    pub row_on : (path : KeyTexts) (start : ℕ) (r : Result (Unit {0}) Crossed) → FollowsTo there path start gone r
        → FollowsTo t (k ∷ path) start u r
    row_on path start (Ok x) goes =
        rw (fun_ext (ends path start goes)) (row_ends (ends_of t) (k ∷ path) start (on_is path ∙ goes.free))
    row_on path start (Err Memory) goes = tt
    row_on path start (Err (At there)) goes = on_is path ∙ goes
