use Rattle.std.proofs.Common.{◌∙◌, ℕ, List, [], ap, unwrap_or, Option}
use Rattle.std.specs.Borrow.{Bor}
use Rattle.std.proofs.lemmas.Iterator.Splits.{YieldsList-from_lines}
use Rattle.std.proofs.lemmas.Iterator.Consumers.{nth_from_yields_List}
use Rattle.toml_findings.proofs.FoundParts.{now_of_default}
use Rattle.toml_findings.proofs.excerpt.line_of.Goals as goal

pub returns : goal.returns
returns c =
    let found = nth_from_yields_List c.nth.result _ c.args.number c.nth.ensures.ran
    (YieldsList-from_lines c.args.text.now c.lines.ensures.rest) in
    ap (λ (line : Bor (List ℕ)). line.now) c.unwrap_or.ensures
    ∙ (now_of_default c.nth.result _ ∙ ap (λ (o : Option (List ℕ)). unwrap_or o []) found)
