use Rattle.std.proofs.Common.{◌∙◌, sym}
use Rattle.std.proofs.lemmas.Slice.Eq.{bytes_eq-Decides}
use Rattle.basic_toml_index.proofs.KeysOfSlots.{key_from}
use Rattle.basic_toml_index.proofs.leaves.is_at.Goals as goal

pub returns-then-slot-ending : goal.returns-then-slot-ending
returns-then-slot-ending g c =
    let is = key_from (g.T.Texts.texts c.args.texts.now) c.args.slot.position c.text.result.now c.text.ensures in
    let same = bytes_eq-Decides c.text.result.now c.args.key.now in
    (λ yes. is ∙ same.0 (sym c.eq.ensures ∙ yes), λ key. c.eq.ensures ∙ same.1 (sym is ∙ key))
