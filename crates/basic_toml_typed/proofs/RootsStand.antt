-- A tree has a root; so want of memory needs no node to be said of one.
use Rattle.std.proofs.Common.{◌≡◌, inl, inr, [], None, refl, sym, subst, ap, ◌∙◌, Result, Ok, Err, IfErr}
use Rattle.std.specs.Result.{IsErrAnd}
use Rattle.std.proofs.lemmas.Result.{err_from_is_err_and}
use Rattle.basic_toml_tree.specs.declared.node.Node.{Node}
use Rattle.basic_toml_tree.specs.declared.spot.HeaderTable.TheVariants as header_tables
use Rattle.basic_toml_tree.specs.declared.spot.Spot.TheVariants as spots
use Rattle.basic_toml_tree.specs.declared.trail.Trail.TheVariants as trails
use Rattle.basic_toml_tree.specs.declared.tree.Tree.{Tree}
use Rattle.basic_toml_tree.specs.Stands.{StandsAt}
use Rattle.basic_toml_tree.proofs.Nodes.KeysLead.{root_count, root_keys, root_rows}
use Rattle.basic_toml_tree.proofs.Nodes.NodesCome.{root_comes}
use Rattle.basic_toml_tree.proofs.Nodes.OuterStands.{root_keeps}
use Rattle.basic_toml_error.specs.Fault.{Fault, want_of_memory}
use Rattle.basic_toml_typed.specs.TypeAnswers.{OrMemory, AtRoot}

abbrev pub root_of : Tree → Node
root_of tree = record {
  tree = record { ref_ptr = (0, 0); now = tree };
  spot = spots.Table (header_tables.Entries (record { ref_ptr = (0, 0); now = tree.root }));
  start = 0;
  outer = None;
  count = 0;
  trail = trails.Header 0;
}

pub root_stands : (tree : Tree) → StandsAt tree [] (root_of tree)
root_stands tree = record {
  within = refl;
  holds = refl;
  root = refl;
  there = inr (refl, refl);
  comes = root_comes tree (header_tables.Entries (record { ref_ptr = (0, 0); now = tree.root })) 0 refl;
  outer = root_keeps tree None refl;
  count = root_count tree (root_of tree) refl;
  keys = root_keys tree (root_of tree) refl;
  rows = root_rows tree (root_of tree);
}

pub only_memory : {T : Type 0} (faults : Node → Fault → Type 0) (tree : Tree) (result : Result T Fault)
    → IfErr result (λ fault. fault ≡ want_of_memory) → AtRoot (λ root. IfErr result (OrMemory (faults root))) tree
only_memory faults tree (Ok x) memory = (root_of tree, refl, root_stands tree, tt)
only_memory faults tree (Err e) memory = (root_of tree, refl, root_stands tree, inl memory)

-- an error that is passed on
pub passed_on : {T : Type 0} (faults : Node → Fault → Type 0) (tree : Tree) (fault : Fault) (result : Result T Fault)
    → AtRoot (λ root. OrMemory (faults root) fault) tree → IsErrAnd result (λ e. e ≡ fault)
    → AtRoot (λ root. IfErr result (OrMemory (faults root))) tree
passed_on {T} faults tree fault result (root, holds, stands, named) passed =
    let (e, is, same) = err_from_is_err_and result passed in (
      root,
      holds,
      stands,
      subst (λ (r : Result T Fault). IfErr r (OrMemory (faults root))) (sym (is ∙ ap (λ f. Err f) same)) named,
    )
