use Rattle.std.proofs.Common.{◌≡◌, ◌++◌, sym, ap, ◌∙◌, arith, string_bytes, false, length}
use Rattle.std.specs.Prelude.{nat_le}
use Rattle.basic_toml_value.specs.Nesting.{nesting_limit}
use Rattle.basic_toml_emit.specs.Items.{a_scalar}
use Rattle.basic_toml_layout.specs.Scalar.{scalar_of}
use Rattle.basic_toml_emit.specs.Rules.{is_too_deep}
use Rattle.basic_toml_emit.specs.Frames.{frames_of}
use Rattle.basic_toml_emit.specs.Changes.{value_start}
use Rattle.basic_toml_emit.proofs.Taking.{row_taken, fits_with_room, fits_alone}
use Rattle.basic_toml_emit.proofs.emitter.rows.scalar_at_value.Goals as goal
use Rattle.basic_toml_emit.proofs.emitter.rows.scalar_at_value.Goals.{else-is_bytes-via-then-is_bytes+else-is_full}
use Rattle.basic_toml_emit.proofs.emitter.rows.scalar_at_value.Goals.{else-is_bytes-via-else-is_bytes}

pub returns : goal.returns
returns c =
    let old = c.args.emitter.now in
    let entered = c.in_ok-enter.ensures.ok in
    let started = c.in_ok-start_value.ensures.ok in
    let fits : is_too_deep nesting_limit (frames_of old.frames.items) (a_scalar (scalar_of c.args.scalar)) ≡ false =
    elim c.else-is_bytes.branch [
      | else-is_bytes-via-then-is_bytes+else-is_full w ↦
          fits_with_room (frames_of old.frames.items) (scalar_of c.args.scalar)
          (ap (λ fs. nat_le nesting_limit (length (frames_of fs))) (sym c.deref.ensures.value) ∙
          (sym c.is_full-is_full.ensures ∙ w.if-is_full.false))
      | else-is_bytes-via-else-is_bytes w ↦
          fits_alone (frames_of old.frames.items) (scalar_of c.args.scalar) (sym c.is_bytes.ensures ∙
          w.if-is_bytes.false)
    ] in
    row_taken (string_bytes old.text) _ _ _ (frames_of old.frames.items) _ _ old.is_done _ (scalar_of c.args.scalar)
    (started.done_is ∙ entered.done_is) c.requires (sym c.is_refused.ensures ∙ c.if-is_refused.false) fits
    entered.is_new entered.frames_are started.in_time
    (started.text_is ∙ ap (λ t. t ++ value_start (frames_of c.enter.new.emitter.frames.items)) entered.text_is)
    started.frames_are c.in_ok-write.ensures (c.in_ok-push.ensures.bytes ∙
    ap (λ end. string_bytes c.write.new.text ++ end) (c.in_ok-push.ensures.ascii (omega arith)))
