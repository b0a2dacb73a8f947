use Rattle.std.proofs.Common.{ℕ, List, ap, ◌∙◌}
use Rattle.basic_toml_tokens.specs.Class.{passes, run_end}
use Rattle.basic_toml_tokens.specs.Lanes.{class_of}
use Rattle.basic_toml_tokens.proofs.ClassesAreTests.{run_to}
use Rattle.basic_toml_tokens.proofs.RunsInBlocks.{stops_at}
use Rattle.basic_toml_tokens.proofs.class.end_of_short_run.Goals as goal

pub returns-clause-run : goal.returns-clause-run
returns-clause-run c =
    run_to (class_of c.args.class) c.args.text.now c.args.at c.end_after_few.result c.utf8.text c.requires
    (c.end_after_few.ensures ∙ ap (λ (bs : List ℕ). run_end (class_of c.args.class) bs c.args.at) c.as_bytes.ensures.value)

pub returns-clause-stopped : goal.returns-clause-stopped
returns-clause-stopped c = λ within.
    stops_at (passes (class_of c.args.class)) c.args.text.now c.args.at c.end_after_few.result
    (c.end_after_few.ensures ∙ ap (λ (bs : List ℕ). run_end (class_of c.args.class) bs c.args.at) c.as_bytes.ensures.value) within
