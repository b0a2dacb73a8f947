use Rattle.std.proofs.Common.{refl, ◌∙◌}
use Rattle.std.proofs.lemmas.List.{length-map, take-map}
use Rattle.basic_toml_grow.proofs.clash.header_key.Goals as goal

pub returns : goal.returns
returns c =
    let keys = c.as_slice-keys.ensures.value in
    let number = rw keys at c.saturating_sub-number.ensures in
    let key = rw keys at c.in_ok-key.ensures in
    let path = rw keys at c.in_ok-path.ensures in
    c.within.ensures ∙ rw (length-map, ← number, take-map, ← path, key) refl
