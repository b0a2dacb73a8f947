use Rattle.std.proofs.Common.{◌≡◌, ◌++◌, ℕ, List, encode_utf8_all, true, false, inl, inr, refl, ap, ◌∙◌}
use Rattle.std.proofs.Common.{arith, is_some, Some, None}
use Rattle.std.proofs.lemmas.Bool.{true_from_ne_false}
use Rattle.basic_toml_tokens.specs.Quote.{kind_of, chars_of}
use Rattle.basic_toml_tokens.specs.String.{copied_of}
use Rattle.basic_toml_tokens.proofs.PiecesSoFar.{at_body, plain_run, verbatim_piece, replaced}
use Rattle.basic_toml_tokens.proofs.StringIsItsPieces.{needs_at_piece, needs_at_end, breaks_at, closes_at}
use Rattle.basic_toml_tokens.proofs.string.string.Goals as goal

pub loop-next-init : goal.loop-next-init
loop-next-init c =
    let k = kind_of c.open-body.result.0 in
    let bytes = c.args.text.now in
    let body = c.open-body.result.1 in (
      plain_run k bytes body body body c.end_of_plain-at.result None (at_body k bytes body c.open-body.ensures.boundary)
          c.end_of_plain-at.ensures.run,
      c.end_of_plain-at.ensures.stopped,
    )

pub loop-next-preserved-in-Verbatim : goal.loop-next-preserved-in-Verbatim
loop-next-preserved-in-Verbatim c =
    let (chars, p, v, later, none_special) = c.in-Verbatim.ensures in
    let k = kind_of c.open-body.result.0 in
    let bytes = c.args.text.now in
    let body = c.open-body.result.1 in
    let next = c.in-Verbatim.next in
    let so_far = verbatim_piece k bytes body c.loop-next.kept c.loop-next.at next c.loop-next.copy
    c.loop-next.invariant.0 chars p v none_special in (
      plain_run k bytes body c.loop-next.kept next c.end_of_few_plain-at.result c.loop-next.copy so_far
          c.end_of_few_plain-at.ensures.run,
      c.end_of_few_plain-at.ensures.stopped,
    )

pub returns-in-Err : goal.returns-in-Err
returns-in-Err c =
    let (p, g, later, special) = c.in-Replaced.ensures in
    inr (
      refl,
      refl,
      needs_at_piece c.args.text.now c.args.start c.open-body.result.1 c.loop-next.kept c.loop-next.at
          c.open-body.result.0 c.loop-next.copy c.utf8.text c.open-body.ensures
          c.loop-next.invariant.0 _ c.in-Replaced.next p g.boundary later special,
    )

pub loop-next-preserved : goal.loop-next-preserved
loop-next-preserved c =
    let (p, g, later, special) = c.in-Replaced.ensures in
    let k = kind_of c.open-body.result.0 in
    let bytes = c.args.text.now in
    let body = c.open-body.result.1 in
    let next = c.in-Replaced.next in
    let so_far = replaced k bytes body c.loop-next.kept c.loop-next.at next c.loop-next.copy
    c.loop-next.invariant.0 c.in-Replaced.c c.in-Ok.longer (omega (arith, later, g.boundary.0)) p g later special
    (c.in-Ok.ensures ∙ ap (λ (t : List ℕ). (copied_of c.loop-next.copy ++ t)
    ++ encode_utf8_all (chars_of c.in-Replaced.c)) c.range.ensures.value) in (
      plain_run k bytes body next next c.end_of_plain-at-in-Replaced.result (Some c.in-Ok.longer) so_far
          c.end_of_plain-at-in-Replaced.ensures.run,
      c.end_of_plain-at-in-Replaced.ensures.stopped,
    )

pub returns-in-Ok-finished : goal.returns-in-Ok-finished
returns-in-Ok-finished c =
    let (tail, closes, v, g, later, none_special) = c.in-Closed.ensures in
    closes_at c.args.text.now c.args.start c.open-body.result.1 c.loop-next.kept c.loop-next.at
    c.open-body.result.0 c.loop-next.copy c.utf8.text c.open-body.ensures
    c.loop-next.invariant.0 c.in-Ok-finished.val c.range-in-Ok-finished.result
    c.range-in-Closed.result.now tail c.in-Closed.last c.in-Closed.end closes v g none_special
    c.range-in-Closed.ensures.value c.in-Ok-finished.ensures.bytes c.in-Ok-finished.ensures.copied
    c.range-in-Ok-finished.ensures.value

pub returns-in-Err-finished : goal.returns-in-Err-finished
returns-in-Err-finished c =
    let some_copy : is_some c.loop-next.copy ≡ true =
    true_from_ne_false (is_some c.loop-next.copy) (λ e. let z : false ≡ true =
    c.in-Err-finished.ensures.memory e in cc) in
    inr (
      refl,
      refl,
      needs_at_end c.args.text.now c.args.start c.open-body.result.1 c.loop-next.kept c.loop-next.at
          c.open-body.result.0 c.loop-next.copy c.utf8.text c.open-body.ensures
          c.loop-next.invariant.0 some_copy,
    )

pub returns-in-Broken : goal.returns-in-Broken
returns-in-Broken c =
    inl (breaks_at c.args.text.now c.args.start c.open-body.result.1 c.loop-next.kept c.loop-next.at
    c.open-body.result.0 c.loop-next.copy c.utf8.text c.open-body.ensures
    c.loop-next.invariant.0 c.in-Broken.error c.in-Broken.next c.in-Broken.ensures.0
    c.in-Broken.ensures.1)
