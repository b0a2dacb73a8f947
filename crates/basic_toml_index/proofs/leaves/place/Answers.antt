use Rattle.std.proofs.Common.{◌∙◌, Result, Ok, Err, OnErr, refl}
use Rattle.std.specs.declared.alloc.AllocError.{AllocError}
use Rattle.std.proofs.lemmas.List.{map-set}
use Rattle.basic_toml_index.proofs.SlotsInLeaves.{leaves_of-same, leaf_at-read}
use Rattle.basic_toml_index.proofs.leaves.place.Goals as goal

on_err : (result : Result (Unit {0}) AllocError) (P : Type 0) → P → OnErr result P
on_err (Ok v) P holds = tt
on_err (Err e) P holds = holds

pub returns-in_err-put-clause-err_unchanged : goal.returns-in_err-put-clause-err_unchanged
returns-in_err-put-clause-err_unchanged c =
    on_err c.from_residual.result _
    (leaves_of-same c.args.leaves.now.items c.args.at c.index_mut-leaf.result.now c.put.new.leaf
    c.index_mut-leaf.ensures.value c.in_err-put.ensures.err_unchanged)

pub returns-clause-ok : goal.returns-clause-ok
returns-clause-ok c =
    map-set (λ l. l.items) c.args.leaves.now.items c.args.at c.put.new.leaf
    ∙ rw (
      c.in_ok-put.ensures.ok,
      leaf_at-read c.args.leaves.now.items c.args.at c.index_mut-leaf.result.now c.requires.within
          c.index_mut-leaf.ensures.value,
    ) refl
