use Rattle.std.proofs.Common.{length, ap, arith}
use Rattle.basic_toml_tree.proofs.HeadersKept.{count_from}
use Rattle.basic_toml_tree.proofs.headers.Headers.len.Goals as goal

pub returns : goal.returns
returns c = omega (arith, c.len.ensures, c.self.inside.heads.ok.0, simp count_from at (ap length c.self.view_is))
