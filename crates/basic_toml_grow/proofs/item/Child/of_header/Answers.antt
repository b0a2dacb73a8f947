use Rattle.basic_toml_grow.proofs.item.Child.of_header.Goals as goal

pub returns-then-is_array : goal.returns-then-is_array
returns-then-is_array c =
    rw c.if-is_array.true (record {
      array = c.in_ok-tables.tables;
      is = c.at.ensures.item;
      none = rw c.in_ok-tables.ensures.ok c.new.ensures.items;
      empty = rw c.in_ok-tables.ensures.ok c.empty.ensures;
    })

pub returns : goal.returns
returns c =
    rw c.if-is_array.false (record {
      table = c.in_ok-new.field-0;
      is = c.at-2.ensures.item;
      empty = c.in_ok-new.ensures;
    })
