use Rattle.std.proofs.Common.{sym, ap, ◌∙◌, option_map, string_bytes}
use Rattle.toml_get.specs.Run.{is_printed, no_table}
use Rattle.toml_get.proofs.answer.answer_with.Goals as goal

pub returns-in-Some : goal.returns-in-Some
returns-in-Some c = is_printed (sym c.in_ok-text.ensures ∙ ap (option_map string_bytes) c.in-Some.is)

pub returns-in_ok-no_table_text-in-None : goal.returns-in_ok-no_table_text-in-None
returns-in_ok-no_table_text-in-None c =
    no_table (sym c.in_ok-text.ensures ∙ ap (option_map string_bytes) c.in-None.is)
    c.in_ok-no_table_text-in-None.ensures
