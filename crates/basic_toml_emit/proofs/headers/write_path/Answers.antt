use Rattle.std.proofs.Common.{◌++◌, string_bytes, take, sym, ap, ◌∙◌, append_assoc}
use Rattle.basic_toml_emit.specs.Frames.{frame_of, frames_of, path_part, first_after}
use Rattle.basic_toml_emit.specs.Calls.{path}
use Rattle.basic_toml_layout.specs.Texts.{joined}
use Rattle.basic_toml_emit.proofs.FramesOfStack.{is_first, path_more, first_more}
use Rattle.basic_toml_emit.proofs.headers.write_path.Goals as goal

pub loop-frame-preserved : goal.loop-frame-preserved
loop-frame-preserved c = record {
  text_is = c.in_ok-first.ensures.text
      ∙ ((λ i. c.loop-frame.invariant.text_is i
      ++ path_part (c.loop-frame.invariant.first_is i) (frame_of c.frame-item.result))
      ∙ (append_assoc (string_bytes c.args.text.now)
      (joined (path (frames_of (take c.loop-frame.frame-index c.args.frames.now))))
      (path_part (is_first (path (frames_of (take c.loop-frame.frame-index c.args.frames.now))))
      (frame_of c.frame-item.result)) ∙
      ap (λ z. string_bytes c.args.text.now ++ z)
      (sym (path_more c.args.frames.now c.loop-frame.frame-index c.frame-item.result c.loop-frame-test.true
      c.frame-item.is))));
  first_is = c.in_ok-first.ensures.first
      ∙ (ap (λ b. first_after b (frame_of c.frame-item.result)) c.loop-frame.invariant.first_is
      ∙ sym (first_more c.args.frames.now c.loop-frame.frame-index c.frame-item.result c.loop-frame-test.true
      c.frame-item.is));
}
