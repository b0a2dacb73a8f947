use Rattle.std.proofs.Common.{refl}
use Rattle.std.proofs.lemmas.Simd.{zip2_splat, zip2_of_maps}
use Rattle.basic_toml_tokens.specs.declared.class.Class.TheVariants.{Basic}
use Rattle.basic_toml_tokens.proofs.LanesTellTheRun.{stops_told}
use Rattle.basic_toml_tokens.proofs.lanes.no_basic.Goals as goal

pub returns : goal.returns
returns c =
    let v = c.args.v in
    let long = c.fits-v.0 in
    stops_told Basic v _ _ long c.fits-v.1 _
    (zip2_of_maps _ _ _ v (zip2_of_maps _ _ _ v (zip2_of_maps _ _ _ v (zip2_splat _ v 16 32 long) (zip2_splat _ v 16 9 long))
    (zip2_splat _ v 16 127 long)) (zip2_of_maps _ _ _ v (zip2_splat _ v 16 34 long) (zip2_splat _ v 16 92 long))) refl refl
