use Rattle.std.proofs.Common.{◌≡◌, ◌++◌, false, sym, ◌∙◌, ap, subst, arith, append-nil, string_bytes}
use Rattle.std.proofs.Common.{take, slice_index, inl, inr}
use Rattle.std.proofs.lemmas.Str.{IsCharBoundary-start}
use Rattle.std.proofs.lemmas.Bool.{cases_eq}
use Rattle.std.specs.Str.{IsCharBoundary}
use Rattle.basic_toml_layout.specs.Texts.{needs_escape, quoted_bytes}
use Rattle.basic_toml_layout.proofs.QuotedUpToEscape.{boundary_after, quoted_more, quoted_end}
use Rattle.basic_toml_layout.proofs.text.write_escaped.Goals as goal
use Rattle.basic_toml_layout.proofs.text.write_escaped.Goals.{then-needs_escape+in_ok-push_str+in_ok-write_escape}
use Rattle.basic_toml_layout.proofs.text.write_escaped.Goals.{else-needs_escape}

pub loop-i-init : goal.loop-i-init
loop-i-init c = record {
  after = omega arith;
  cut = IsCharBoundary-start c.args.value.now c.utf8.value;
  plain = λ k le lt. absurd (omega arith);
  text_is = sym (append-nil (string_bytes c.args.text.now));
}

pub loop-i-preserved : goal.loop-i-preserved
loop-i-preserved c = elim c.if-needs_escape.branch [
  | then-needs_escape+in_ok-push_str+in_ok-write_escape w ↦ record {
    after = omega arith;
    cut = subst (λ z. IsCharBoundary c.args.value.now z) (sym w.written-is)
        (boundary_after c.args.value.now c.as_bytes-bytes.result.now c.loop-i.i c.as_bytes-bytes.ensures.value
        c.utf8.value (omega arith) (sym c.needs_escape.ensures ∙ w.if-needs_escape.true));
    plain = λ k le lt. absurd (omega arith);
    text_is = ap string_bytes w.text-is
        ∙ (quoted_more (string_bytes c.args.text.now) (string_bytes c.loop-i.text) _ _ c.args.value.now
        c.as_bytes-bytes.result.now w.range.result.now c.loop-i.written c.loop-i.i c.as_bytes-bytes.ensures.value
        c.loop-i.invariant.after (omega arith) c.loop-i.invariant.plain c.loop-i.invariant.text_is
        w.range.ensures.value w.in_ok-push_str.ensures.bytes w.in_ok-write_escape.ensures
        ∙ ap (λ z. string_bytes c.args.text.now ++ quoted_bytes (take z c.args.value.now)) (sym w.written-is));
  }
  | else-needs_escape w ↦ record {
    after = omega arith;
    cut = subst (λ z. IsCharBoundary c.args.value.now z) (sym w.written-is) c.loop-i.invariant.cut;
    plain = λ k le lt. elim (cases_eq k c.loop-i.i) [
      | inl same ↦ subst (λ z. needs_escape (slice_index c.as_bytes-bytes.result.now z) ≡ false) (sym same)
          (sym c.needs_escape.ensures ∙ w.if-needs_escape.false)
      | inr other ↦ c.loop-i.invariant.plain k (omega arith) (omega arith)
    ];
    text_is = ap string_bytes w.text-is ∙
        (c.loop-i.invariant.text_is ∙
        ap (λ z. string_bytes c.args.text.now ++ quoted_bytes (take z c.args.value.now)) (sym w.written-is));
  }
]

pub returns : goal.returns
returns c = quoted_end (string_bytes c.args.text.now) (string_bytes c.loop-i.text) _
    c.args.value.now c.as_bytes-bytes.result.now c.range_from.result.now c.loop-i.written c.loop-i.i
    c.as_bytes-bytes.ensures.value (omega arith) c.loop-i.invariant.plain c.loop-i.invariant.text_is
    c.range_from.ensures.value c.in_ok-push_str-2.ensures.bytes
