use Rattle.std.proofs.Common.{◌++◌, false, sym, ◌∙◌, ap, subst, arith, string_bytes, refl}
use Rattle.std.proofs.Common.{drop, get_or, inl, inr}
use Rattle.std.proofs.lemmas.Str.{IsCharBoundary-start}
use Rattle.std.proofs.lemmas.Bool.{cases_eq}
use Rattle.std.specs.Str.{IsCharBoundary}
use Rattle.basic_toml_layout.specs.Texts.{quoted_byte}
use Rattle.basic_toml_layout.specs.Pretty.{line_bytes}
use Rattle.basic_toml_layout.specs.Parts.{needs_line_escape}
use Rattle.basic_toml_layout.proofs.PrettyInTurn.{line_boundary, line_more, line_end}
use Rattle.basic_toml_layout.proofs.lines.write_line_bytes.Goals as goal
use Rattle.basic_toml_layout.proofs.lines.write_line_bytes.Goals.{then-needs_line_escape+in_ok-push_str+in_ok-write_escape}
use Rattle.basic_toml_layout.proofs.lines.write_line_bytes.Goals.{else-needs_line_escape}

pub loop-i-init : goal.loop-i-init
loop-i-init c = record {
  after = omega arith;
  cut = IsCharBoundary-start c.args.value.now c.utf8.value;
  plain = λ k le lt. absurd (omega arith);
  text_is = refl;
}

pub loop-i-preserved : goal.loop-i-preserved
loop-i-preserved c = elim c.if-needs_line_escape.branch [
  | then-needs_line_escape+in_ok-push_str+in_ok-write_escape w ↦ record {
    after = omega arith;
    cut = subst (λ z. IsCharBoundary c.args.value.now z) (sym w.written-is)
        (line_boundary c.args.value.now c.loop-i.i c.utf8.value (omega arith)
        (ap (λ z. needs_line_escape (drop c.loop-i.i z)) (sym c.as_bytes-bytes.ensures.value)
        ∙ sym c.needs_line_escape.ensures ∙ w.if-needs_line_escape.true));
    plain = λ k le lt. absurd (omega arith);
    text_is = ap (λ z. string_bytes z ++ line_bytes (drop c.if-needs_line_escape.written c.args.value.now)) w.text-is
        ∙ ap (λ z. string_bytes w.write_escape.new.text ++ line_bytes (drop z c.args.value.now)) w.written-is
        ∙ line_more (string_bytes c.loop-i.text) (string_bytes w.push_str.new.self) _ w.range.result.now
        c.args.value.now c.loop-i.written c.loop-i.i _ c.loop-i.invariant.after (omega arith)
        c.loop-i.invariant.plain
        (ap (λ z. needs_line_escape (drop c.loop-i.i z)) (sym c.as_bytes-bytes.ensures.value)
        ∙ sym c.needs_line_escape.ensures ∙ w.if-needs_line_escape.true)
        c.loop-i.invariant.text_is w.range.ensures.value w.in_ok-push_str.ensures.bytes
        (w.in_ok-write_escape.ensures ∙ ap (λ z. string_bytes w.push_str.new.self
        ++ quoted_byte (get_or z c.loop-i.i 0)) c.as_bytes-bytes.ensures.value);
  }
  | else-needs_line_escape w ↦ record {
    after = omega arith;
    cut = subst (λ z. IsCharBoundary c.args.value.now z) (sym w.written-is) c.loop-i.invariant.cut;
    plain = λ k le lt. elim (cases_eq k c.loop-i.i) [
      | inl same ↦ ap (λ z. needs_line_escape (drop z c.args.value.now)) same
          ∙ ap (λ z. needs_line_escape (drop c.loop-i.i z)) (sym c.as_bytes-bytes.ensures.value)
          ∙ sym c.needs_line_escape.ensures ∙ w.if-needs_line_escape.false
      | inr other ↦ c.loop-i.invariant.plain k (omega arith) (omega arith)
    ];
    text_is = ap (λ z. string_bytes z ++ line_bytes (drop c.if-needs_line_escape.written c.args.value.now)) w.text-is
        ∙ ap (λ z. string_bytes c.loop-i.text ++ line_bytes (drop z c.args.value.now)) w.written-is
        ∙ c.loop-i.invariant.text_is;
  }
]

pub returns : goal.returns
returns c = line_end (string_bytes c.loop-i.text) _ c.range_from.result.now c.args.value.now c.loop-i.written
    c.loop-i.i _ (omega arith) c.loop-i.invariant.plain c.loop-i.invariant.text_is c.range_from.ensures.value
    c.in_ok-push_str-2.ensures.bytes
