use Rattle.std.proofs.Common.{take}
use Rattle.std.specs.List.{AllByRecursion}
use Rattle.basic_toml_emit.specs.Items.{open_array, element_prefix}
use Rattle.basic_toml_write.proofs.PartsAreSent.{Sent}
use Rattle.basic_toml_write.proofs.impls.serialize_elements.Given as goal

abbrev pub invariant-loop-element : goal.invariant-loop-element
invariant-loop-element g l =
    record {
      sent : Sent open_array (λ x. element_prefix) g.T.Serialize.calls g.T.Serialize.gives_up
          (take l.element-index l.elements) l.fn.ser l.ser;
      held : AllByRecursion g.T.Serialize.holds (take l.element-index l.elements);
    }
