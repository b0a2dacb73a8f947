use Rattle.std.proofs.Common.{◌≡◌, ◌++◌, map, string_bytes}
use Rattle.std.specs.List.{AllByRecursion}
use Rattle.std.specs.Map.Iter.{deref_pair}
use Rattle.basic_toml_emit.specs.Items.{open_table, field}
use Rattle.basic_toml_write.proofs.PartsAreSent.{Sent}
use Rattle.basic_toml_write.proofs.impls.BTreeMapStringSerialize.serialize.Given as goal

abbrev pub invariant-loop-name : goal.invariant-loop-name
invariant-loop-name g l =
    record {
      sent : Sent open_table (λ p. field (string_bytes p.0))
          (λ p. g.V.Serialize.calls p.1) (λ p. g.V.Serialize.gives_up p.1) (map deref_pair l.yielded) l.fn.ser l.ser;
      left : map deref_pair l.yielded
          ++ l.name-iterator ≡ l.self.entries;
      held : AllByRecursion (λ e. g.V.Serialize.holds e.1) (map deref_pair l.yielded);
    }
