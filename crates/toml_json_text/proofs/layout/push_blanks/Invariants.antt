use Rattle.std.proofs.Common.{◌≡◌, ◌++◌, ◌-◌, string_bytes}
use Rattle.toml_json_text.specs.Json.{blanks}
use Rattle.toml_json_text.proofs.layout.push_blanks.Given as goal

-- with the blanks that are left, the text is whole
abbrev pub invariant-loop-i : goal.invariant-loop-i
invariant-loop-i l = string_bytes l.text ++ blanks (l.level - l._i) ≡ string_bytes l.initial.text ++ blanks l.level
