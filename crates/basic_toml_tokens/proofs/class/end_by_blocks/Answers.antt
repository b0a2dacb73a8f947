use Rattle.std.proofs.Common.{◌≡◌, sym, ◌∙◌, arith}
use Rattle.std.proofs.lemmas.List.{length-drop}
use Rattle.basic_toml_tokens.specs.Class.{passes}
use Rattle.basic_toml_tokens.specs.Lanes.{class_of}
use Rattle.basic_toml_tokens.proofs.RunsInBlocks.{run_within, run_on, run_over}
use Rattle.basic_toml_tokens.proofs.class.end_by_blocks.Goals as goal

pub returns-then-run-lt-LANES : goal.returns-then-run-lt-LANES
returns-then-run-lt-LANES c =
    let p = passes (class_of c.args.class) in
    let bytes = c.args.bytes.now in
    let end = c.loop-end.end in
    let r = c.run_in_block-run.result in
    let over = run_over p bytes end r c.run_in_block-run.ensures
    (omega (arith, length-drop end bytes, c.loop-end-test.true, c.saturating_sub-behind.ensures)) c.if-run-lt-LANES.true in
    omega (arith, over, run_on p bytes end r c.run_in_block-run.ensures, c.loop-end.invariant.1)

pub loop-end-preserved : goal.loop-end-preserved
loop-end-preserved c =
    let p = passes (class_of c.args.class) in
    let bytes = c.args.bytes.now in
    let end = c.loop-end.end in
    let whole : c.run_in_block-run.result ≡ 16 =
    omega (arith, run_within p bytes end c.run_in_block-run.result c.run_in_block-run.ensures, c.if-run-lt-LANES.false) in (
      omega (arith, c.loop-end-test.true, c.saturating_sub-behind.ensures),
      sym (run_on p bytes end 16 (sym whole ∙ c.run_in_block-run.ensures)) ∙ c.loop-end.invariant.1,
    )
