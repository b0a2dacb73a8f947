use Rattle.std.proofs.Common.{subst}
use Rattle.std.specs.Cow.{cow_str_bytes}
use Rattle.basic_toml_tokens.specs.Tokenizer.{IsKeyTaken}
use Rattle.basic_toml_tokens.specs.String.{is_owned}
use Rattle.basic_toml_tokens.specs.Reading.{Reading}
use Rattle.basic_toml_explain.specs.Error.{token_fault}
use Rattle.basic_toml_explain.specs.Key.{ReadsKey}
use Rattle.basic_toml_explain.proofs.TakenTokenStands.{failed}
use Rattle.basic_toml_explain.proofs.KeyIsRead.{KeyMissing, key_there, key_missing}
use Rattle.basic_toml_explain.proofs.cursor.Cursor.key.Goals as goal

pub returns : goal.returns
returns c =
    key_there c.args.self.now c.table_key.new.self c.in_ok-span.span (cow_str_bytes c.in_ok-span.text)
    (is_owned c.in_ok-span.text)
    (subst (λ (old : Reading). IsKeyTaken old c.table_key.new.self c.in_ok-span.span (cow_str_bytes c.in_ok-span.text)
    (is_owned c.in_ok-span.text)) c.self.view_is c.in_ok-span.ensures.answers)

pub returns-in_err-span : goal.returns-in_err-span
returns-in_err-span c =
    let error = c.in_err-span.field-0.0 in
    failed (ReadsKey c.args.self.now c.table_key.new.self) c.from_residual.result (token_fault error)
    c.from_residual.ensures.1
    (subst (λ (old : Reading). KeyMissing old (token_fault error)) c.self.view_is
    (key_missing c.self.inside.tokens c.table_key.new.self error c.in_err-span.ensures.answers))
