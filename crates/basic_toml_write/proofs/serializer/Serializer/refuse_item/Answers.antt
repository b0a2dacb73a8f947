use Rattle.std.proofs.Common.{subst}
use Rattle.basic_toml_write.specs.Stops.{Stops}
use Rattle.basic_toml_write.proofs.StoppedCalls.{takes_again, takes_met}
use Rattle.basic_toml_write.proofs.serializer.Serializer.refuse_item.Goals as goal

pub returns-in-None-clause-takes : goal.returns-in-None-clause-takes
returns-in-None-clause-takes c = λ i before stops.
    takes_again i before c.args.self.now _ (subst (λ stop. Stops stop i before c.args.self.now) c.in-None.is stops)
    c.refuse_again.ensures.takes

pub returns-in-Some-clause-takes : goal.returns-in-Some-clause-takes
returns-in-Some-clause-takes c = λ i before stops.
    takes_met c.in-Some.error i before c.args.self.now c.refuse.new.self c.named.result c.refuse.result
    (subst (λ stop. Stops stop i before c.args.self.now) c.in-Some.is stops) c.named.ensures.names
    c.named.ensures.memory c.refuse.ensures
