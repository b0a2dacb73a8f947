use Rattle.std.proofs.Common.{refl, arith}
use Rattle.basic_toml_tree.proofs.node.Node.plain_row.Goals as goal

pub returns : goal.returns
returns c = record {
  plain = _;
  spot = refl;
  value = refl;
  start = refl;
  tree = refl;
  outer = refl;
  count = λ few. grind (arith, c.saturating_add.ensures, few);
  nested = grind (arith, c.saturating_add.ensures);
  trail = refl;
}
