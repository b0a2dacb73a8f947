use Rattle.std.proofs.Common.{◌≡◌, ◌++◌, drop, string_bytes}
use Rattle.toml_get.specs.Fronts.{steps_seen, path_text, steps_text}
use Rattle.toml_get.proofs.path_text.path_text.Given as goal

-- with what is left, the text is whole
abbrev pub invariant-loop-i : goal.invariant-loop-i
invariant-loop-i l =
    string_bytes l.text ++ steps_text l.is_later (steps_seen (drop l.i l.steps)) ≡ path_text (steps_seen l.steps)
