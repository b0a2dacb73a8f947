use Rattle.basic_toml_numbers.specs.Numbers.{float_of}
use Rattle.basic_toml_serde.proofs.EventsAreSent.{float_sent}
use Rattle.basic_toml_serde.proofs.sender.Sender.float.Goals as goal

pub returns : goal.returns
returns g c =
    float_sent g.S.Sink.has_recorded (float_of c.as_str-2.result.now) c.args.self.now c.float_text.new.self c.float_text.result
    c.float_text.ensures
