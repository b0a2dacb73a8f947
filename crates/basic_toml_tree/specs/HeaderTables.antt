-- The table that a node sees: that with its entries, or the one that the rows of a section stand for.
use Rattle.basic_toml_grow.specs.declared.item.Table.{Table}
use Rattle.basic_toml_grow.specs.Simple.{section_table}
use Rattle.basic_toml_tree.specs.declared.spot.HeaderTable.{HeaderTable}
use Rattle.basic_toml_tree.specs.declared.spot.HeaderTable.TheVariants.{Entries, Section}

abbrev pub table_of : HeaderTable → Table
table_of (Entries table) = table.now
table_of (Section table) = section_table table.section table.rows.now
