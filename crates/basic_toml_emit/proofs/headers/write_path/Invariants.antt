use Rattle.std.proofs.Common.{◌≡◌, ◌++◌, string_bytes, take}
use Rattle.basic_toml_layout.specs.Texts.{joined}
use Rattle.basic_toml_emit.specs.Calls.{path}
use Rattle.basic_toml_emit.specs.Frames.{frames_of}
use Rattle.basic_toml_emit.proofs.FramesOfStack.{is_first}
use Rattle.basic_toml_emit.proofs.headers.write_path.Given as goal

abbrev pub invariant-loop-frame : goal.invariant-loop-frame
invariant-loop-frame l =
    record {
      text_is : string_bytes l.text ≡ string_bytes l.initial.text
          ++ joined (path (frames_of (take l.frame-index l.frames)));
      first_is : l.first ≡ is_first (path (frames_of (take l.frame-index l.frames)));
    }
