use Rattle.std.proofs.Common.{true, false}
use Rattle.basic_toml_origin.proofs.StepsKept.{far_kept}
use Rattle.basic_toml_origin.proofs.anchor.len_as_far_as.Goals as goal

pub returns-then-has_no_key : goal.returns-then-has_no_key
returns-then-has_no_key c =
    far_kept c.args.path.now c.args.keys c.len_up_to_key-len.result true c.len_up_to_key-len.ensures.steps
    c.len_up_to_key-len.ensures.within c.if-has_no_key.ensures

pub returns-else-has_no_key : goal.returns-else-has_no_key
returns-else-has_no_key c =
    far_kept c.args.path.now c.args.keys c.len_up_to_key-len.result false c.len_up_to_key-len.ensures.steps
    c.len_up_to_key-len.ensures.within c.if-has_no_key.ensures
