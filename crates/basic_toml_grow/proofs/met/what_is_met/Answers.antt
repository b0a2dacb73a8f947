use Rattle.std.proofs.Common.{◌≡◌, ◌||◌, ap, ◌∙◌, sym, rules}
use Rattle.basic_toml_grammar.specs.Trie.{standing}
use Rattle.basic_toml_grow.specs.Item.{item_trie}
use Rattle.basic_toml_grow.specs.declared.item.Item as items
use Rattle.basic_toml_grow.specs.declared.item.Table.{out-Table}
use Rattle.basic_toml_grow.proofs.MetTellsStop.{by_headers, headers_stand}
use Rattle.basic_toml_grow.proofs.met.what_is_met.Goals as goal

pub returns-then-is_made-clause-named : goal.returns-then-is_made-clause-named
returns-then-is_made-clause-named c =
    let t = c.in-Table.table in
    let here : by_headers (standing (item_trie (items.Table t)))
    ≡ ((out-Table t.value).passed || (out-Table t.value).named) = search (rules, items.the_lemmas) in
    headers_stand c.args.there.now _ c.in-Table.is
    (here ∙ ap (λ t. (out-Table t).passed || (out-Table t).named) (sym c.deref.ensures) ∙ sym c.is_made.ensures
    ∙ c.if-is_made.true)

pub returns-in-Section-clause-named : goal.returns-in-Section-clause-named
returns-in-Section-clause-named c =
    headers_stand c.args.there.now _ c.in-Section.is (search (rules, items.the_lemmas))

pub returns-in-Sections-clause-named : goal.returns-in-Sections-clause-named
returns-in-Sections-clause-named c =
    headers_stand c.args.there.now _ c.in-Sections.is (search (rules, items.the_lemmas))

pub returns-in-Tables-clause-named : goal.returns-in-Tables-clause-named
returns-in-Tables-clause-named c =
    headers_stand c.args.there.now _ c.in-Tables.is (search (rules, items.the_lemmas))
