use Rattle.std.proofs.Common.{List, [], ◌∷◌, ◌++◌, ap}
use Rattle.basic_toml.specs.Items.{Item, open_table, close}
use Rattle.basic_toml.specs.Data.{table}
use Rattle.basic_toml.specs.View.{view, entries}
use Rattle.toml_answer.specs.Due.{IsWriting}
use Rattle.toml_answer.proofs.AnswerIsDue.{pairs_calls, error_due, tidied_due, text_due, unwritable_due}
use Rattle.toml_answer.proofs.text_answer.Goals as goal

pub returns-in-Ok : goal.returns-in-Ok
returns-in-Ok c =
    let made = ap (λ (is : List Item). open_table ∷ (is ++ (close ∷ []))) (pairs_calls view c.args.table.now) in
    tidied_due (IsWriting (table (entries c.args.table.now))) _ c.tidied.result c.tidied.ensures
    (text_due (table (entries c.args.table.now)) _
    (c.in-Ok.ensures.of_data (table (entries c.args.table.now)) made))

pub returns-in-Err : goal.returns-in-Err
returns-in-Err c =
    let made = ap (λ (is : List Item). open_table ∷ (is ++ (close ∷ []))) (pairs_calls view c.args.table.now) in
    error_due (IsWriting (table (entries c.args.table.now))) 2 c.in-Err.fault c.error_answer.result c.error_answer.ensures.status
    c.error_answer.ensures.text c.error_answer.ensures.place c.error_answer.ensures.fault
    (unwritable_due (table (entries c.args.table.now)) c.in-Err.fault _ _ made (λ own. own.met.allowed)
    c.in-Err.ensures.written.refused)
