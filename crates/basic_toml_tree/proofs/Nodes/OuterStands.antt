-- What a node keeps of where the table around it begins.
use Rattle.std.proofs.Common.{◌≡◌, ℕ, true, false, [], Option, None, refl, ap, sym, ◌∙◌}
use Rattle.basic_toml_grammar.specs.Steps.{Path}
use Rattle.std.proofs.lemmas.Option.{IfSome_then}
use Rattle.basic_toml_grammar.proofs.Clash.PathsAgree.{append_none}
use Rattle.basic_toml_tree.specs.declared.tree.Tree.{Tree}
use Rattle.basic_toml_tree.specs.declared.node.Node.{Node}
use Rattle.basic_toml_tree.specs.Origin.{spot_is_made}
use Rattle.basic_toml_tree.specs.Outer.{kept_below}
use Rattle.basic_toml_tree.specs.Stands.{tree_origins, StandsAt, StartIsKept}
use Rattle.basic_toml_tree.proofs.Nodes.MadeNodes.{root_at, table_at}
use Rattle.basic_toml_grow.proofs.Origins.OriginsSeen.{seen_at_none}

-- what is below a node, and where what rows made begins
pub keeps_below : (from node : Node) → node.outer ≡ kept_below from → (tree : Tree) (p : Path) → StandsAt tree p from
    → StartIsKept tree p node.outer
keeps_below from node same tree p stands =
    let made : spot_is_made from.count from.spot ≡ true → node.outer ≡ None = λ made. rw (same, made) refl in
    record {
      root = λ is. made (root_at tree from p stands is).0.made;
      made = λ there. made (table_at tree from p stands there).0.made;
      row = IfSome_then (tree_origins tree p) (rw (append_none p) at stands.comes.own) (λ o own apart.
          let not : spot_is_made from.count from.spot ≡ false = sym (ap (λ o. o.made) (own apart)) ∙ apart in
          rw (same, not, own apart) refl);
    }

-- the root keeps nothing
pub root_keeps : (tree : Tree) (kept : Option ℕ) → kept ≡ None → StartIsKept tree [] kept
root_keeps tree kept none =
    record { root = λ is. none; made = λ there. none; row = rw (seen_at_none tree.root) tt }
