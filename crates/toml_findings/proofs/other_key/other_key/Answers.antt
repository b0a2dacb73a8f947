use Rattle.std.proofs.Common.{sym, ◌∙◌}
use Rattle.toml_findings.proofs.OtherKeysTold.{found_is_told, none_is_told}
use Rattle.toml_findings.proofs.other_key.other_key.Goals as goal

pub returns-in_ok-place-in-Some : goal.returns-in_ok-place-in-Some
returns-in_ok-place-in-Some c =
    found_is_told c.args.text.now c.args.error.now c.args.offset c.in-Ok.origins c.in-Ok.ensures.origins
    (c.in-Some.is_first, c.in-Some.at) c.in_ok-place-in-Some.place (sym c.in-Some.is ∙ c.other_of.ensures)
    c.in_ok-place-in-Some.ensures

pub returns-in-None : goal.returns-in-None
returns-in-None c =
    none_is_told c.args.text.now c.args.error.now c.args.offset c.in-Ok.origins c.in-Ok.ensures.origins
    (sym c.in-None.is ∙ c.other_of.ensures)
