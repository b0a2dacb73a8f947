use Rattle.std.proofs.Common.{get_or, ap, sym, ◌∙◌, arith}
use lib.Dec.{ltb}
use Rattle.basic_toml_tokens.specs.declared.class.Class.{Class}
use Rattle.basic_toml_tokens.specs.Class.{passes}
use Rattle.basic_toml_tokens.specs.Lanes.{class_of}
use Rattle.basic_toml_tokens.proofs.RunsInBlocks.{first_told}
use Rattle.basic_toml_tokens.proofs.laws.table_and_block_agree.Goals as goal

pub returns : goal.returns
returns c =
    let block = c.args.block.now in
    c.is_in-by_table.ensures ∙ ap (λ (k : Class). passes k (get_or block 0 0)) c.class.ensures ∙
    sym (ap (ltb 0) c.run_in_block-by_block.ensures ∙
    first_told (passes (class_of c.args.class)) 16 block (omega arith) (omega (arith, c.fits-block)))
