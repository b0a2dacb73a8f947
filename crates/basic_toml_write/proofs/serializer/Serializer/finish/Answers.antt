use Rattle.basic_toml_write.specs.Serializer.{NoFault}
use Rattle.basic_toml_write.proofs.CallsAreWrittenOut.{recorded_out}
use Rattle.basic_toml_write.proofs.TextIsLayout.{is_layout, succeeds}
use Rattle.basic_toml_write.proofs.serializer.Serializer.finish.Goals as goal

pub returns : goal.returns
returns c = record {
  answer = c.hand_out.ensures;
  text = λ is h. is_layout is NoFault c.hand_out.result
      (recorded_out is c.args.self c.hand_out.result h c.hand_out.ensures);
  succeeds = λ is h. succeeds is NoFault c.hand_out.result
      (recorded_out is c.args.self c.hand_out.result h c.hand_out.ensures);
}
