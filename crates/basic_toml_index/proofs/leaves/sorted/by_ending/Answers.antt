use Rattle.std.proofs.Common.{List, Vec, sym, subst, reverse}
use Rattle.std.specs.List.Sorted.{IsPermutation}
use Rattle.std.specs.declared.alloc.Global.{Global}
use Rattle.std.proofs.lemmas.List.Sorted.{IsPermutation-trans, IsPermutation-reverse}
use Rattle.basic_toml_index.specs.declared.leaves.Slot.{Slot}
use Rattle.basic_toml_index.proofs.leaves.sorted.by_ending.Goals as goal
use Rattle.basic_toml_index.proofs.leaves.sorted.by_ending.Goals.{then-ends_before, else-ends_before}

pub returns : goal.returns
returns g c =
    let slots = c.args.slots.items in
    let sorted = c.sort_by_key.new.self.items in
    let moved = c.sort_by_key.ensures.permutation in
    record {
      moved = elim c.if-ends_before.branch [
        | then-ends_before w ↦
            subst (λ (v : Vec Slot Global). IsPermutation slots v.items) (sym w.slots-is)
            (subst (λ (ss : List Slot). IsPermutation slots ss) (sym w.reverse.ensures.items)
            (IsPermutation-trans slots sorted (reverse sorted) moved (IsPermutation-reverse sorted)))
        | else-ends_before w ↦ subst (λ (v : Vec Slot Global). IsPermutation slots v.items) (sym w.slots-is) moved
      ];
    }
