use Rattle.std.proofs.Common.{◌≡◌, refl, ◌∙◌, rules}
use denote.Hole.Carrier.{out}
use Rattle.std.specs.Box as boxes
use Rattle.basic_toml_grow.specs.declared.item.Item as items
use Rattle.basic_toml_grow.specs.declared.item.Item.TheViews.{out-Item}
use Rattle.basic_toml_grow.proofs.headers.add_table.Goals as goal

pub returns-in_ok-try_reserve-in-Tables-clause-more : goal.returns-in_ok-try_reserve-in-Tables-clause-more
unfolding out-Item out
returns-in_ok-try_reserve-in-Tables-clause-more c =
    let array = c.in-Tables.tables in
    let here : c.deref_mut.result.now ≡ array.value =
    c.deref_mut.ensures.value ∙ rw c.in-Tables.is (search (rules, items.the_lemmas)) in
    record {
      before = array;
      after = boxes.with_value array (c.push_reserved.new.self, c.replace-last.new.dest);
      was = c.in-Tables.is;
      is = rw c.in-Tables.is (search (rules, items.the_lemmas));
      tables = rw (c.push_reserved.ensures.items, c.deref_mut-in-Tables-2.ensures.value, c.replace-last.ensures.value)
          (rw (c.deref_mut-in-Tables.ensures.value, c.try_reserve.ensures.items, here) refl);
      empty = rw (c.replace-last.ensures.after) c.empty.ensures;
    }
