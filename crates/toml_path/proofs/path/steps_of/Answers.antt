use Rattle.std.proofs.Common.{◌≡◌, List, map, sym, subst, arith}
use Rattle.std.proofs.lemmas.Str.{IsCharBoundary-start}
use Rattle.toml_path.specs.Path.{Step, step_of, IsPath}
use Rattle.toml_path.specs.declared.path.Step as code
use Rattle.toml_path.proofs.StepsAreFound.{empty_path, nil_of, not_nil, first_at, step_at, not_begun, begun_with}
use Rattle.toml_path.proofs.StepsAreFound.{gone_with, stopped, ended}
use Rattle.toml_path.proofs.path.steps_of.Goals as goal

pub returns-then-is_empty : goal.returns-then-is_empty
returns-then-is_empty c =
    let is = nil_of c.args.path.now (sym c.if-is_empty.ensures) in
    subst (λ (steps : List code.Step). IsPath c.args.path.now (map step_of steps)
    × ((others : List Step) → IsPath c.args.path.now others → others ≡ map step_of steps))
    (sym c.new-steps.ensures.items)
    (empty_path c.args.path.now is)

pub at-tokens-requires : goal.at-tokens-requires
at-tokens-requires c = IsCharBoundary-start c.args.path.now c.utf8.path

pub returns-in_default : goal.returns-in_default
returns-in_default c =
    not_begun c.args.path.now c.key.new.tokens (not_nil c.args.path.now (sym c.if-is_empty.ensures))
    (first_at c.args.path.now _ _ c.key.new.tokens _ _ c.at-tokens.ensures.text c.at-tokens.ensures.offset
    c.in_default.is c.in_ok-first.ensures)

pub loop-tokens-init : goal.loop-tokens-init
loop-tokens-init c =
    begun_with c.args.path.now c.key.new.tokens c.new-steps.result.items c.push.new.steps.items c.in-Some.first
    c.new-steps.ensures.items c.in_ok-push.ensures
    (first_at c.args.path.now _ _ c.key.new.tokens _ _ c.at-tokens.ensures.text c.at-tokens.ensures.offset
    c.in-Some.is c.in_ok-first.ensures)

pub returns-in_default-2 : goal.returns-in_default-2
returns-in_default-2 c =
    let l = c.loop-tokens in
    stopped c.args.path.now (map step_of l.steps.items) l.tokens.offset c.next_step.new.tokens l.invariant.0
    (λ e. absurd (omega (arith, e, c.current.ensures.offset, c.loop-tokens-test.true)))
    (step_at c.args.path.now l.tokens _ c.next_step.new.tokens _ _ c.current.ensures.same l.invariant.1
    c.in_default-2.is c.in_ok-step.ensures)

pub loop-tokens-preserved : goal.loop-tokens-preserved
loop-tokens-preserved c =
    let l = c.loop-tokens in
    gone_with c.args.path.now l.tokens.offset c.next_step.new.tokens l.steps.items
    c.push-in-loop-tokens.new.steps.items c.in-Some-2.step l.invariant.0 c.in_ok-push-2.ensures
    (step_at c.args.path.now l.tokens _ c.next_step.new.tokens _ _ c.current.ensures.same l.invariant.1
    c.in-Some-2.is c.in_ok-step.ensures)

pub returns : goal.returns
returns c =
    let l = c.loop-tokens in
    ended c.args.path.now (map step_of l.steps.items) l.tokens.offset l.invariant.0
    (omega (arith, c.current.ensures.offset, c.loop-tokens-test.false))
