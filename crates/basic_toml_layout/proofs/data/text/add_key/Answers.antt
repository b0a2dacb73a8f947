use Rattle.std.proofs.Common.{◌++◌, ◌∙◌, ap, string_bytes}
use Rattle.basic_toml_layout.specs.Texts.{written_key}
use Rattle.basic_toml_layout.proofs.DataIsLaidOut.{if_ok, extends_twice}
use Rattle.basic_toml_layout.proofs.data.text.add_key.Goals as goal
use Rattle.basic_toml_layout.proofs.data.text.add_key.Goals.{then-not-is_empty+in_ok-push, else-not-is_empty}

pub returns-clause-front : goal.returns-clause-front
returns-clause-front c = if_ok c.write_key.result (λ u is. elim c.if-not-is_empty.branch [
  | then-not-is_empty+in_ok-push w ↦ extends_twice (string_bytes c.args.path.now) (string_bytes w.push.new.self)
      (string_bytes c.write_key.new.text) _ (written_key c.args.key.now) w.in_ok-push.ensures.bytes
      (is ∙ ap (λ z. string_bytes z ++ written_key c.args.key.now) w.path-is)
  | else-not-is_empty w ↦
      (written_key c.args.key.now, is ∙ ap (λ z. string_bytes z ++ written_key c.args.key.now) w.path-is)
]) c.write_key.ensures
