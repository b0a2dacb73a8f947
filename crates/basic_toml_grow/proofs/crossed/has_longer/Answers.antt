use Rattle.std.proofs.Common.{map, refl}
use Rattle.basic_toml_read.specs.SectionView.{key_of}
use Rattle.basic_toml_grow.specs.Crossed.{no_ends}
use Rattle.basic_toml_grow.proofs.CrossedIsFault.{none_crosses}
use Rattle.basic_toml_grow.proofs.crossed.has_longer.Goals as goal

pub loop-row-init : goal.loop-row-init
loop-row-init c = λ shrink parents.
    none_crosses _ no_ends (map key_of parents) c.args.rows.now shrink (λ p short. refl)
