use Rattle.std.proofs.Common.{◌≡◌, false, sym, ◌∙◌, ap, drop, take, length, arith, string_bytes}
use Rattle.basic_toml_layout.specs.Pretty.{fits_line}
use Rattle.basic_toml_layout.proofs.DataIsLaidOut.{if_ok}
use Rattle.basic_toml_layout.proofs.PrettyInTurn.{array_wide, slice_from}
use Rattle.basic_toml_layout.proofs.data.pretty.write_pretty.Goals as goal

pub returns-else-fits_line : goal.returns-else-fits_line
returns-else-fits_line c =
    let wide : fits_line (drop c.args.line (string_bytes c.write_inline.new.text)) ≡ false =
    ap (λ z. fits_line (drop c.args.line z)) (sym c.as_bytes.ensures.value)
    ∙ ap fits_line (sym (slice_from c.as_bytes.result.now c.args.line)) ∙ sym c.if-fits_line.ensures in
    if_ok c.write_array_lines.result (λ u last. array_wide c.args.value.now c.in-Array.values c.as_slice-values.result.now
    c.in-Array.is c.as_slice-values.ensures.value (sym c.if-is_empty.ensures) c.args.line (string_bytes c.args.text.now)
    (string_bytes c.write_inline.new.text) (string_bytes c.truncate.new.self)
    (string_bytes c.write_array_lines.new.text) c.requires c.in_ok-write_inline-in-Array.ensures wide
    (c.truncate.ensures.bytes ∙ ap (λ n. take n (string_bytes c.write_inline.new.text)) {x = c.len-len.result}
    {y = length (string_bytes c.args.text.now)} (omega arith)) last)
    c.write_array_lines.ensures
