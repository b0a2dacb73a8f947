use Rattle.std.proofs.Common.{◌∙◌, refl}
use Rattle.basic_toml_value.proofs.SeenPairs.{seen-drop}
use Rattle.basic_toml_value.proofs.pairs.IterIterator.next.Goals as goal

pub returns-clause-steps : goal.returns-clause-steps
returns-clause-steps g c =
    seen-drop c.args.self.now.entries.now c.args.self.now.at c.in-Some.pair.now c.in-Some.ensures.lookup.3.0
    c.in-Some.ensures.lookup.1 ∙ rw c.as_str.ensures.value refl
