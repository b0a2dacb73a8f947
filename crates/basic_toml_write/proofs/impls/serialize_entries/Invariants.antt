use Rattle.std.proofs.Common.{◌≡◌, ◌++◌, map}
use Rattle.basic_toml_value.specs.Iter.{rest, pair_of}
use Rattle.basic_toml_emit.specs.Items.{open_table, field}
use Rattle.basic_toml_write.proofs.PartsAreSent.{Sent}
use Rattle.basic_toml_write.proofs.impls.serialize_entries.Given as goal

abbrev pub invariant-loop-key : goal.invariant-loop-key
invariant-loop-key g l =
    record {
      sent : Sent open_table (λ p. field p.0)
          (λ p. g.V.Serialize.calls p.1) (λ p. g.V.Serialize.gives_up p.1)
          (map pair_of l.yielded) l.fn.ser l.ser;
      left : map pair_of l.yielded ++ rest l.key-iterator ≡ l.pairs;
    }
