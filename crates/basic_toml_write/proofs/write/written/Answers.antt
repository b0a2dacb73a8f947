use Rattle.basic_toml_write.proofs.TextIsLayout.{is_layout, succeeds}
use Rattle.basic_toml_write.proofs.write.written.Goals as goal

pub returns : goal.returns
returns g c = record {
  due = c.write_out.ensures.due;
  text = is_layout _ _ _ c.write_out.ensures.due;
  succeeds = succeeds _ _ _ c.write_out.ensures.due;
  holds = c.write_out.ensures.holds;
  memory = c.write_out.ensures.memory;
}
