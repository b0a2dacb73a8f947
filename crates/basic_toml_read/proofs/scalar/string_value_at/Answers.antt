use Rattle.basic_toml_read.proofs.Common.{sym, rules, the_lemmas}
use Rattle.basic_toml_read.proofs.scalar.string_value_at.Goals as goal
use Rattle.basic_toml_read.proofs.ScalarsRead.{string_to}

pub returns-in-Some-clause-read : goal.returns-in-Some-clause-read
returns-in-Some-clause-read c =
    let s = c.in-Some.ensures.found in
    let is = string_to c.args.text.now c.args.at c.utf8.text c.requires.boundary c.in-Some.end s.boundary s.string
    s.spelled (sym s.not_copied) in
    search (rules, the_lemmas)
