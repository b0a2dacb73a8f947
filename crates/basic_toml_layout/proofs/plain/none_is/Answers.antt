use Rattle.std.proofs.Common.{◌≡◌, sym, ◌∙◌, eqb, map, arith, w8}
use Rattle.std.proofs.lemmas.Simd.{length-chunk, bitmask_splat, none_from_empty_mask}
use Rattle.std.specs.Simd.Lanes.{mask_l, chunk}
use Rattle.basic_toml_layout.proofs.PlainBytes.{zero_is}
use Rattle.basic_toml_layout.proofs.plain.none_is.Goals as goal

pub returns : goal.returns
returns c = λ yes k ge lt.
    let eight = chunk c.args.start 8 c.args.bytes.now in
    let long = length-chunk c.args.start 8 c.args.bytes.now c.requires in
    let none : mask_l (map (λ x. eqb x c.args.byte) eight) ≡ 0 =
    sym (bitmask_splat w8 eqb eight 8 c.args.byte long (omega arith)) ∙ zero_is _ yes in
    none_from_empty_mask (λ x. eqb x c.args.byte) c.args.bytes.now c.args.start 8 0 c.requires none k ge lt
