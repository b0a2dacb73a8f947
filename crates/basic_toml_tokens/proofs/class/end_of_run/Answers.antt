use Rattle.std.proofs.Common.{ℕ, List, ap, ◌∙◌}
use Rattle.basic_toml_tokens.specs.Class.{passes, run_end}
use Rattle.basic_toml_tokens.proofs.ClassesAreTests.{run_to}
use Rattle.basic_toml_tokens.proofs.RunsInBlocks.{stops_at}
use Rattle.basic_toml_tokens.proofs.class.end_of_run.Goals as goal

pub returns-clause-run : goal.returns-clause-run
returns-clause-run c =
    run_to c.args.class c.args.text.now c.args.at c.end_by_class.result c.utf8.text c.requires
    (c.end_by_class.ensures ∙ ap (λ (bs : List ℕ). run_end c.args.class bs c.args.at) c.as_bytes.ensures.value)

pub returns-clause-stopped : goal.returns-clause-stopped
returns-clause-stopped c = λ within.
    stops_at (passes c.args.class) c.args.text.now c.args.at c.end_by_class.result
    (c.end_by_class.ensures ∙ ap (λ (bs : List ℕ). run_end c.args.class bs c.args.at) c.as_bytes.ensures.value) within
