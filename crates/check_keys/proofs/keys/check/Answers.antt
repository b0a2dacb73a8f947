use Rattle.std.proofs.Common.{[], Ok, option_map, refl, subst, sym, ◌∙◌}
use Rattle.basic_toml.specs.tokens.Tokenizer.{NextAnswers}
use Rattle.check_keys.specs.Findings.{AnswersFindings, seen_by}
use Rattle.check_keys.specs.Rows.{item_of, stand_of}
use Rattle.check_keys.proofs.FindingsSoFar.{begun, ended, not_err, stopped, stopped_at, went_on}
use Rattle.check_keys.proofs.KeysAreRemembered.{none_remembered}
use Rattle.check_keys.proofs.keys.check.Goals as goal

pub loop-findings-init : goal.loop-findings-init
loop-findings-init c = (
  [],
  none_remembered c.new-seen.result c.new-seen.ensures.empty,
  begun c.args.text.now c.new-findings.result.items c.new-tokens.result.offset c.new-findings.ensures.items
      c.new-tokens.ensures.offset,
  c.new-tokens.ensures.text,
)

pub returns-in_err-span : goal.returns-in_err-span
returns-in_err-span c =
    let l = c.loop-findings in
    stopped (AnswersFindings c.args.text.now) c.from_residual.result c.in_err-span.field-0.0 c.from_residual.ensures.1
    (stopped_at c.args.text.now (stand_of l.place) l.invariant.0 l.findings.items l.tokens c.next.new.self
    c.in_err-span.field-0.0 l.invariant.2 l.invariant.3 c.in_err-span.ensures.answers)

pub returns : goal.returns
returns c =
    let l = c.loop-findings in
    ended c.args.text.now (stand_of l.place) l.invariant.0 l.findings l.tokens l.invariant.2 l.invariant.3
    (subst (λ o. NextAnswers l.tokens c.next.new.self (Ok o)) c.in_default.is c.in_ok-span.ensures.answers).0

pub loop-findings-preserved : goal.loop-findings-preserved
loop-findings-preserved c =
    let l = c.loop-findings in
    let noted = not_err c.note.result _ (sym c.is_err.ensures.value ∙ c.if-is_err.false) c.note.ensures l.invariant.0
    l.invariant.1 in
    let taken = subst (λ o. NextAnswers l.tokens c.next.new.self (Ok o)) c.in-Some.is c.in_ok-span.ensures.answers in
    let went = went_on c.args.text.now (stand_of l.place) (stand_of c.in-Ok.next) l.invariant.0
    (seen_by l.invariant.0 (option_map item_of c.in-Ok.item)) l.findings.items c.note.new.findings.items l.tokens
    c.next.new.self c.in-Some.span c.in-Some.token (option_map item_of c.in-Ok.item) l.invariant.2 l.invariant.3
    taken c.in-Ok.ensures.after c.in-Ok.ensures.item refl noted.1 in
    (seen_by l.invariant.0 (option_map item_of c.in-Ok.item), noted.0, went.0, went.1)

pub loop-findings-preserved-else-is_err : goal.loop-findings-preserved-else-is_err
loop-findings-preserved-else-is_err c =
    let l = c.loop-findings in
    let noted = not_err c.note.result _ (sym c.is_err.ensures.value ∙ c.if-is_err.false) c.note.ensures l.invariant.0
    l.invariant.1 in
    let taken = subst (λ o. NextAnswers l.tokens c.next.new.self (Ok o)) c.in-Some.is c.in_ok-span.ensures.answers in
    let went = went_on c.args.text.now (stand_of l.place) (stand_of c.in-Ok.next) l.invariant.0
    (seen_by l.invariant.0 (option_map item_of c.in-Ok.item)) l.findings.items c.note.new.findings.items l.tokens
    c.next.new.self c.in-Some.span c.in-Some.token (option_map item_of c.in-Ok.item) l.invariant.2 l.invariant.3
    taken c.in-Ok.ensures.after c.in-Ok.ensures.item refl noted.1 in
    (seen_by l.invariant.0 (option_map item_of c.in-Ok.item), noted.0, went.0, went.1)

pub loop-findings-preserved-else-is_err-2 : goal.loop-findings-preserved-else-is_err-2
loop-findings-preserved-else-is_err-2 c =
    let l = c.loop-findings in
    let noted = not_err c.note.result _ (sym c.is_err.ensures.value ∙ c.if-is_err.false) c.note.ensures l.invariant.0
    l.invariant.1 in
    let taken = subst (λ o. NextAnswers l.tokens c.next.new.self (Ok o)) c.in-Some.is c.in_ok-span.ensures.answers in
    let went = went_on c.args.text.now (stand_of l.place) (stand_of c.in-Ok.next) l.invariant.0
    (seen_by l.invariant.0 (option_map item_of c.in-Ok.item)) l.findings.items c.note.new.findings.items l.tokens
    c.next.new.self c.in-Some.span c.in-Some.token (option_map item_of c.in-Ok.item) l.invariant.2 l.invariant.3
    taken c.in-Ok.ensures.after c.in-Ok.ensures.item refl noted.1 in
    (seen_by l.invariant.0 (option_map item_of c.in-Ok.item), noted.0, went.0, went.1)
