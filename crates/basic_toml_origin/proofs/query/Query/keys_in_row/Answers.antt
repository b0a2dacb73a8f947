use Rattle.basic_toml_origin.proofs.KeysNumbered.{number_in_row}
use Rattle.basic_toml_origin.proofs.query.Query.keys_in_row.Goals as goal

pub returns-in-Key : goal.returns-in-Key
returns-in-Key c =
    rw (c.in-Key.is, c.or.ensures, c.key_number.ensures, c.then_some-in-Key.ensures)
    (number_in_row c.in-Key.offset c.args.parents.now c.args.row.now)
