use Rattle.basic_toml_write.proofs.ListsAreSentInTurn.{passes_refused}
use Rattle.basic_toml_write.proofs.MemoryHasCause.{memory_refused}
use Rattle.basic_toml_write.proofs.serializer.Serializer.part.Goals as goal

pub returns-then-has_refused-clause-passes : goal.returns-then-has_refused-clause-passes
returns-then-has_refused-clause-passes g c =
    passes_refused (g.T.Serialize.calls c.args.value.now) (g.T.Serialize.gives_up c.args.value.now) c.args.self.now _
    c.refuse_again.ensures.takes

pub returns-then-has_refused-clause-memory : goal.returns-then-has_refused-clause-memory
returns-then-has_refused-clause-memory g c =
    λ _. memory_refused (g.T.Serialize.calls c.args.value.now) c.args.self.now _ c.refuse_again.ensures.takes
