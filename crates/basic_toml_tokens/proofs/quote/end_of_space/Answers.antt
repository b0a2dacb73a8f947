use Rattle.std.proofs.Common.{ap, sym, ◌∙◌, arith}
use Rattle.basic_toml_tokens.specs.Text.{text_at, after_run, is_blank}
use Rattle.basic_toml_tokens.specs.Strings.{is_space}
use Rattle.basic_toml_tokens.proofs.SpacesAreRuns.{after_twice, space_stops, space_past_blanks, space_past_feed}
use Rattle.basic_toml_tokens.proofs.quote.end_of_space.Goals as goal

pub loop-next-init : goal.loop-next-init
loop-next-init c =
    let run = c.end_of_run-end.ensures.run in
    record {
      rest = ap (after_run is_space) run.rest ∙ space_past_blanks (text_at c.args.text.now c.args.at);
      blanks = ap (after_run is_blank) run.rest ∙ after_twice is_blank (text_at c.args.text.now c.args.at) ∙
          sym run.rest;
      boundary = run.boundary;
      forward = run.forward;
    }

pub loop-next-preserved : goal.loop-next-preserved
loop-next-preserved c =
    let run = c.end_of_run-end-in-Some.ensures.run in
    let text = text_at c.args.text.now c.in-Some.next in
    record {
      rest = ap (after_run is_space) run.rest ∙
          space_past_feed (text_at c.args.text.now c.loop-next.end) text c.loop-next.end c.in-Some.ensures.0 ∙
          c.loop-next.invariant.rest;
      blanks = ap (after_run is_blank) run.rest ∙ after_twice is_blank text ∙ sym run.rest;
      boundary = run.boundary;
      forward = omega (arith, run.forward, c.in-Some.ensures.2);
    }

pub returns : goal.returns
returns c =
    let text = text_at c.args.text.now c.loop-next.end in
    record {
      rest = sym (space_stops text c.loop-next.invariant.blanks c.in_default.ensures) ∙ c.loop-next.invariant.rest;
      boundary = c.loop-next.invariant.boundary;
      forward = c.loop-next.invariant.forward;
    }
