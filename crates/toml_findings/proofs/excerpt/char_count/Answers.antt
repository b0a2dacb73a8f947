use Rattle.std.proofs.lemmas.Iterator.{YieldsList-from_chars}
use Rattle.std.proofs.lemmas.Iterator.Consumers.{count_from_yields_List}
use Rattle.toml_findings.proofs.excerpt.char_count.Goals as goal

pub returns : goal.returns
returns c =
    count_from_yields_List c.chars.result _ c.count.ensures.ran
    (YieldsList-from_chars c.args.line.now c.utf8.line c.chars.ensures.rest)
