use Rattle.std.proofs.Common.{◌≡◌, ap, inl}
use Rattle.basic_toml_read.proofs.ListIsAnswered.{stop_answered}
use Rattle.basic_toml_tree.proofs.text.clash_error.Goals as goal

pub returns-in-Err : goal.returns-in-Err
returns-in-Err c = λ list behind.
    let text : c.at-reader.result.text.now ≡ c.args.text.now = ap (λ t. t.now) c.at-reader.ensures.text in
    inl (stop_answered _ _ c.explain.result c.utf8.text
    (rw text at (c.in-Err.ensures list (rw (text, c.at-reader.ensures.place) behind))) c.explain.ensures)
