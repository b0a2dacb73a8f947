use Rattle.std.proofs.Common.{◌++◌, ◌∙◌, ap, arith, string_bytes}
use Rattle.std.proofs.lemmas.Str.{encode_ascii}
use Rattle.basic_toml_tokens.specs.Ascii as ascii
use Rattle.basic_toml_layout.proofs.DataIsLaidOut.{if_added}
use Rattle.basic_toml_layout.proofs.PrettyInTurn.{lines_end}
use Rattle.basic_toml_layout.proofs.data.pretty.write_array_lines.Goals as goal

pub returns : goal.returns
returns c = if_added c.push.result _ _ _ (λ last. lines_end c.args.values.now c.loop-i.i c.loop-i-test.false
    (string_bytes c.args.text.now) (string_bytes c.push_str.new.self) (string_bytes c.loop-i.text)
    (string_bytes c.push.new.self) c.in_ok-push_str.ensures.bytes c.loop-i.invariant
    (last ∙ ap (λ z. string_bytes c.loop-i.text ++ z) (encode_ascii ascii.right_bracket (omega arith))))
    c.push.ensures.bytes
