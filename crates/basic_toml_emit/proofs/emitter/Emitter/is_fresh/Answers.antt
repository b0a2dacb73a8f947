use Rattle.std.proofs.Common.{sym, ◌∙◌, tests, arith}
use Rattle.std.proofs.lemmas.Bool.{true≢false}
use Rattle.basic_toml_emit.proofs.FramesOfStack.{fresh_leaves}
use Rattle.basic_toml_emit.proofs.emitter.Emitter.is_fresh.Goals as goal
use Rattle.basic_toml_emit.proofs.emitter.Emitter.is_fresh.Goals.{then-not-self, else-not-self}

pub returns-else-is_empty-clause-no : goal.returns-else-is_empty-clause-no
returns-else-is_empty-clause-no c = λ no at. let left = fresh_leaves _ c.args.self.now.frames.items _ at in
    elim c.if-not-self.branch [
      | then-not-self w ↦
          let none = left.1 in grind (arith, tests, none, w.value-is, w.is_empty.ensures, c.if-is_empty.false)
      | else-not-self w ↦ true≢false (sym w.if-not-self.false ∙ left.2)
    ]
