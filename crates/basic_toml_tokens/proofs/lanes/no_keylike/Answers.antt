use Rattle.std.proofs.Common.{ℕ, leb, cond, bit_and, refl}
use Rattle.std.proofs.lemmas.Simd.{zip2_splat, zip2_of_maps, splat_is_map}
use Rattle.basic_toml_tokens.specs.declared.class.Class.TheVariants.{Keylike}
use Rattle.basic_toml_tokens.proofs.LanesTellTheRun.{stops_told}
use Rattle.basic_toml_tokens.proofs.lanes.no_keylike.Goals as goal

pub returns : goal.returns
returns c =
    let v = c.args.v in
    let long = c.fits-v.0 in
    stops_told Keylike v _ _ long c.fits-v.1 _
    (zip2_of_maps bit_and _ _ v
    (zip2_of_maps bit_and _ _ v
    (zip2_of_maps (λ a b. cond (leb a b) 255 0) _ _ v (splat_is_map v 16 26 long)
    (zip2_of_maps _ _ _ v (zip2_splat {Y = ℕ} _ v 16 32 long) (splat_is_map v 16 97 long)))
    (zip2_of_maps (λ a b. cond (leb a b) 255 0) _ _ v (splat_is_map v 16 10 long)
    (zip2_splat {Y = ℕ} _ v 16 48 long)))
    (zip2_of_maps bit_and _ _ v (zip2_splat {Y = ℕ} _ v 16 45 long) (zip2_splat {Y = ℕ} _ v 16 95 long))) refl refl
