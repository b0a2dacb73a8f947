use Rattle.basic_toml_error.specs.WriteFaults.{write_kind}
use Rattle.basic_toml_serde.proofs.RefusalsHaveKeys.{item_led_to}
use Rattle.basic_toml_serde.proofs.ser.error_at.Goals as goal

pub returns-in-Ok : goal.returns-in-Ok
returns-in-Ok c =
    item_led_to c.args.items.now c.args.at (write_kind c.args.error) c.in-Ok.keys c.from.result c.with_keys.result
    c.in-Ok.ensures c.from.ensures c.with_keys.ensures
