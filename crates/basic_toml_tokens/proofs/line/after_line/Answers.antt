use Rattle.std.proofs.Common.{ap, sym, ◌∙◌}
use Rattle.basic_toml_tokens.specs.Text.{text_at, after_run, is_comment}
use Rattle.basic_toml_tokens.specs.Tokenizer.{after_line}
use Rattle.basic_toml_tokens.proofs.SpacesAreRuns.{after_twice}
use Rattle.basic_toml_tokens.proofs.CallsTakeTheToken.{line_past_comment, line_past_other}
use Rattle.basic_toml_tokens.proofs.line.after_line.Goals as goal

pub loop-c-init : goal.loop-c-init
loop-c-init c =
    let run = c.end_of_run-end.ensures.run in
    let text = text_at c.args.text.now c.args.at in
    record {
      rest = ap after_line run.rest ∙ line_past_comment text;
      stopped = ap (after_run is_comment) run.rest ∙ after_twice is_comment text ∙ sym run.rest;
      boundary = run.boundary;
    }

pub loop-c-preserved : goal.loop-c-preserved
loop-c-preserved c =
    let run = c.end_of_run-end-in-Some.ensures.run in
    let text = text_at c.args.text.now c.in-Some.next in
    record {
      rest = ap after_line run.rest ∙ line_past_comment text ∙
          sym (line_past_other (text_at c.args.text.now c.loop-c.end) text c.loop-c.end c.in-Some.c
          c.in-Some.ensures.text c.if-c-eq10.false) ∙ c.loop-c.invariant.rest;
      stopped = ap (after_run is_comment) run.rest ∙ after_twice is_comment text ∙ sym run.rest;
      boundary = run.boundary;
    }
