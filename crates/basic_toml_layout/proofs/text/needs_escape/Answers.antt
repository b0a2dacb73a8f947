use Rattle.std.proofs.Common.{refl, arith}
use Rattle.std.specs.Prelude.{nat_eq, get_or}
use Rattle.std.proofs.lemmas.Bool.{agree_below_at}
use Rattle.basic_toml_layout.specs.declared.text.TheConstants.{CLASSES}
use Rattle.basic_toml_layout.specs.Texts.{needs_escape}
use Rattle.basic_toml_layout.proofs.text.needs_escape.Goals as goal

pub returns : goal.returns
returns c = agree_below_at (λ b. nat_eq (get_or CLASSES b 0) 101) needs_escape 256 c.args.byte refl (omega arith)
