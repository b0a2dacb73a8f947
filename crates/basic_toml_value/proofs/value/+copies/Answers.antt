use Rattle.std.proofs.Common.{◌≡◌, ◌∙◌, sym, ap, arith}
use Rattle.basic_toml_value.specs.Entries.{texts_of}
use Rattle.basic_toml_value.specs.Pairs.{keys_of}
use Rattle.basic_toml_value.proofs.PairsAreCopied.{entries-copied, texts-copied}
use Rattle.basic_toml_value.proofs.SeenPairs.{keys_of-seen}
use Rattle.basic_toml_value.proofs.Sizes.{data_size-at, data_size-pair}
use Rattle.basic_toml_value.proofs.value.+copies.Goals as goal

pub Table::clone-from_parts-requires : goal.Table::clone-from_parts-requires
Table::clone-from_parts-requires t c =
    let keys : keys_of c.args.self.now ≡ texts_of c.in_ok-copies.copies.items = ap keys_of (sym c.entries.ensures.pairs) ∙
    keys_of-seen c.entries.result.now ∙ sym c.in_ok-copies.ensures.texts in
    c.in_ok-index.ensures (texts_of c.in_ok-copies.copies.items) (rw keys at c.index.ensures)

pub clone_elements-clone-requires : goal.clone_elements-clone-requires
clone_elements-clone-requires t c =
    let smaller = data_size-at c.args.values.now c.loop-value.value-index c.value-item.result c.loop-value-test.true
    c.value-item.is in
    (omega arith, tt)

pub clone_entries-clone-requires-in-loop-pair : goal.clone_entries-clone-requires-in-loop-pair
clone_entries-clone-requires-in-loop-pair t c =
    let smaller = data_size-pair c.args.pairs.now c.loop-pair.pair-index c.pair-item.result c.loop-pair-test.true
    c.pair-item.is in
    (omega arith, tt)

pub clone_entries-loop-pair-preserved : goal.clone_entries-loop-pair-preserved
clone_entries-loop-pair-preserved t c = record {
  same = entries-copied c.loop-pair.copies.items c.push.new.self.items c.args.pairs.now c.loop-pair.pair-index
      (record { key = c.in_ok-key.key; value = c.in_ok-value.value }) c.pair-item.result c.loop-pair-test.true
      c.pair-item.is
      c.in_ok-push.ensures.items c.loop-pair.invariant.same c.in_ok-key.ensures.cases c.in_ok-value.ensures;
  texts = texts-copied c.loop-pair.copies.items c.push.new.self.items c.args.pairs.now c.loop-pair.pair-index
      (record { key = c.in_ok-key.key; value = c.in_ok-value.value }) c.pair-item.result c.loop-pair-test.true
      c.pair-item.is
      c.in_ok-push.ensures.items c.loop-pair.invariant.texts c.in_ok-key.ensures.cases;
}
