use Rattle.basic_toml_grow.proofs.SimpleRows.{own_entries}
use Rattle.basic_toml_grow.proofs.Origins.OriginsSeen.{fresh_within, table_item_seen}
use Rattle.basic_toml_grow.proofs.item.Child.table.Goals as goal

pub returns-clause-origins : goal.returns-clause-origins
returns-clause-origins c =
    rw (c.at.ensures.origins, table_item_seen, c.reserve.ensures, own_entries, c.deref_mut.ensures.value)
    (rw (fresh_within c.in_ok-table.table.value c.in_ok-table.ensures))
