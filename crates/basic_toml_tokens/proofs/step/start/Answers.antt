use Rattle.std.proofs.Common.{sym}
use Rattle.std.proofs.lemmas.Str.{IsCharBoundary-start}
use Rattle.basic_toml_tokens.proofs.FoundIsAllThatStands.{start_after, boundary_after, start_at, start_of_nothing}
use Rattle.basic_toml_tokens.proofs.step.start.Goals as goal

pub char_at-requires : goal.char_at-requires
char_at-requires c = IsCharBoundary-start c.args.text.now c.utf8.text

pub returns-then-c-eq65279-clause-offset : goal.returns-then-c-eq65279-clause-offset
returns-then-c-eq65279-clause-offset c =
    sym (start_after c.args.text.now c.in-Some.field-0-1.now c.in-Some.c c.utf8.text c.in-Some.ensures
    c.if-c-eq65279.true)

pub returns-then-c-eq65279-clause-boundary : goal.returns-then-c-eq65279-clause-boundary
returns-then-c-eq65279-clause-boundary c =
    boundary_after c.args.text.now c.in-Some.field-0-1.now c.in-Some.c c.utf8.text c.in-Some.ensures c.if-c-eq65279.true

pub returns-else-c-eq65279-clause-offset : goal.returns-else-c-eq65279-clause-offset
returns-else-c-eq65279-clause-offset c =
    sym (start_at c.args.text.now c.in-Some.field-0-1.now c.in-Some.c c.utf8.text c.in-Some.ensures
    c.if-c-eq65279.false)

pub returns-else-c-eq65279-clause-boundary : goal.returns-else-c-eq65279-clause-boundary
returns-else-c-eq65279-clause-boundary c = IsCharBoundary-start c.args.text.now c.utf8.text

pub returns-in-None-clause-offset : goal.returns-in-None-clause-offset
returns-in-None-clause-offset c = sym (start_of_nothing c.args.text.now c.in-None.ensures)

pub returns-in-None-clause-boundary : goal.returns-in-None-clause-boundary
returns-in-None-clause-boundary c = IsCharBoundary-start c.args.text.now c.utf8.text
