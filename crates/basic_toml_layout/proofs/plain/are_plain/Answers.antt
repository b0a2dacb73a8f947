use Rattle.std.proofs.Common.{◌∙◌, ◌-◌, ap, arith, length, drop, length-drop, not}
use Rattle.std.specs.List.{list_all}
use Rattle.std.proofs.lemmas.List.{take_all}
use Rattle.basic_toml_layout.specs.Texts.{needs_escape}
use Rattle.basic_toml_layout.proofs.PlainBytes.{plain_from}
use Rattle.basic_toml_layout.proofs.plain.are_plain.Goals as goal

pub returns : goal.returns
returns c =
    let bytes = c.args.bytes.now in
    let start = c.plain_start-start.result in
    c.are_plain_singly.ensures
    ∙ (ap (list_all (λ b. not (needs_escape b)))
    (take_all (length bytes - start) (drop start bytes) (omega (arith, length-drop start bytes)))
    ∙ plain_from bytes start c.plain_start-start.ensures.plain)
