-- A row put into a table: where what it makes comes from.
use Rattle.std.proofs.Common.{◌≡◌, ℕ, Bool, true, false, List, [], ◌∷◌, ◌++◌, Some, refl, ap, sym, ◌∙◌, rules}
use Rattle.std.proofs.Common.{slice_get, Box, Global, arith}
use Rattle.std.proofs.Math.Path.{fun_ext}
use Rattle.basic_toml_grammar.specs.Sections.{KeyTexts}
use Rattle.basic_toml_grammar.specs.Steps.{key}
use Rattle.basic_toml_grow.specs.declared.item.Item.{the_lemmas}
use Rattle.basic_toml_grow.specs.declared.item.Item as items
use Rattle.basic_toml_grow.specs.declared.item.Item.TheViews.{roll-Child, roll-Table, out-roll-Table}
use Rattle.basic_toml_grow.specs.declared.item.Child.{Child}
use Rattle.basic_toml_grow.specs.declared.item.Table.{Table, out-Table}
use Rattle.basic_toml_grow.specs.Simple.{with_entries}
use Rattle.basic_toml_value.specs.Growth.{with_value, values_of, FindsOrAdds}
use Rattle.basic_toml_value.specs.declared.pairs.growth.Place.{Place}
use Rattle.basic_toml_grow.specs.Origins.{Origin, Origins, no_origins, entry, Within, child_origins, of_table}
use Rattle.basic_toml_grow.specs.Origins.{table_within, with_more, or_else, origins_before, beyond, row_origins}
use Rattle.basic_toml_grow.proofs.Origins.OriginsSeen.{grows_at}
use Rattle.basic_toml_grow.proofs.MetTellsStop.{dotted_fields}

pub origins_on : (k : List ℕ) (ks : KeyTexts) (last : List ℕ) (o : Origin) (below : Origins)
    → row_origins (k ∷ (ks ++ last ∷ [])) o below ≡ beyond (key k) (entry o (row_origins (ks ++ last ∷ []) o below))
origins_on k [] last o below = refl
origins_on k (l ∷ ks) last o below = refl

abbrev pub within : Bool → ℕ → Origins → Within
within made section below = record { made = made; section = section; below = below }

-- a table in which a key is entered, and another child put in the place of what stands there then
pub origins_put : {gives : Child → Type 0} (t : Table) (k : List ℕ) (there now : Child) (new : List (List ℕ × Child))
    (p : Place) → FindsOrAdds gives k (out-Table t).entries new p → slice_get (values_of new) p.position ≡ Some there
    → (below : Origins) → child_origins now ≡ or_else (origins_before p.is_new (child_origins there)) below
    → table_within (with_entries t (with_value new p.position now)) ≡ with_more (table_within t) (beyond (key k) below)
origins_put t k there now new p e stands below comes =
    let put = with_value new p.position now in
    rw (← (fun_ext (λ q. grows_at t (with_entries t put) there now k new p e stands (rw out-roll-Table refl) below q
    (λ r is. ap (λ f. f r) comes)))) (search (rules, the_lemmas))

-- an origin here, and what comes below it beside what was there; and what comes below a new table
pub or_entry : (o u : Origin) (f g : Origins) → entry o (or_else f g) ≡ or_else (entry o f) (entry u g)
or_entry o u f g = fun_ext (λ p. grind arith)

pub comes_below : (is_new : Bool) (o : Origin) (f g row : Origins) → (is_new ≡ true → f ≡ entry o no_origins)
    → g ≡ or_else f (entry o row) → g ≡ or_else (origins_before is_new f) (entry o row)
comes_below true o f g row fresh comes =
    comes ∙ ap (λ f. or_else f (entry o row)) (fresh refl) ∙ sym (or_entry o o no_origins row)
comes_below false o f g row fresh comes = comes

-- a table that is now dotted
pub dotted_within : (d : Table) → table_within (roll-Table (dotted_fields d)) ≡ table_within d
dotted_within d = search (rules, the_lemmas)

pub child_of_table : (t : Box Table Global) (at s : ℕ)
    → child_origins (roll-Child (record { start = at; section = s; item = items.Table t }))
    ≡ of_table at s (table_within t.value)
child_of_table t at s = search (rules, the_lemmas)
