-- A row put into a table: its first key, and what that key leads to.
use Rattle.std.proofs.Common.{◌≡◌, ℕ, true, false, List, [], ◌∷◌, ◌++◌, ap, ◌∙◌, refl, sym, Option, Some, None, Result}
use Rattle.std.proofs.Common.{Ok, Err, arith, map, option_map, Box, Global}
use Rattle.std.specs.List.{slice_get}
use Rattle.std.proofs.lemmas.Result.{IfErr-weaker, IfOk-weaker}
use Rattle.basic_toml_value.specs.Data.{Data}
use Rattle.basic_toml_grammar.specs.Sections.{KeyTexts}
use Rattle.basic_toml_grammar.specs.Steps as steps
use Rattle.basic_toml_grammar.specs.Marks.{dotted, valued}
use Rattle.basic_toml_grammar.specs.Entering.{and_then}
use Rattle.basic_toml_grammar.specs.Trie.{Trie, trie, standing, mark_here, at_step, put_row}
use Rattle.basic_toml_read.specs.KeyText.{key_text_bytes}
use Rattle.basic_toml_read.specs.SectionView.{header_texts, key_of}
use Rattle.basic_toml_read.specs.declared.section.Key as keys
use Rattle.basic_toml_plain.specs.Tries.{by_keys}
use Rattle.basic_toml_grow.specs.declared.item.Item.TheViews.{out-roll-Table, roll-Table}
use Rattle.basic_toml_grow.specs.declared.item.Item as items
use Rattle.basic_toml_grow.specs.declared.item.Child.{Child, out-Child}
use Rattle.basic_toml_grow.specs.declared.item.Table.{Table, out-Table}
use Rattle.basic_toml_grow.specs.declared.met.Met.{Met}
use Rattle.basic_toml_grow.specs.Simple.{with_entries}
use Rattle.basic_toml_grow.specs.Item.{child_trie, empty_table, table_trie, trie_before}
use Rattle.basic_toml_value.specs.Growth.{with_value, values_of, FindsOrAdds}
use Rattle.basic_toml_value.specs.declared.pairs.growth.Place.{Place}
use Rattle.basic_toml_grow.specs.Origins.{child_origins, dotted_of, entry, no_origins, row_origins, table_within}
use Rattle.basic_toml_grow.specs.Origins.{of_table, section_in, table_origin, with_more}
use Rattle.basic_toml_grow.specs.Rows.{Enters}
use Rattle.basic_toml_grow.specs.RowStops.{TellsLast}
use Rattle.basic_toml_grow.specs.Takes.{ExtendsBy, TakesRow}
use Rattle.basic_toml_grow.proofs.KeysInATrie.{tries_of, at_entered, with_mapped, with_same}
use Rattle.basic_toml_grow.proofs.ItemTries.{table_entries_trie}
use Rattle.basic_toml_grow.proofs.LatestInATrie.{mapped_twice}
use Rattle.basic_toml_grow.proofs.MetTellsStop.{dotted_before, dotted_fields, dotted_table, extended_before}
use Rattle.basic_toml_grow.proofs.MetTellsStop.{extended_on, last_told, row_told}
use Rattle.basic_toml_grow.proofs.Origins.RowsPlaceOrigins.{comes_below, dotted_within, or_entry, origins_on}
use Rattle.basic_toml_grow.proofs.Origins.RowsPlaceOrigins.{origins_put}
use Rattle.basic_toml_grow.proofs.Origins.OriginsSeen.{child_seen, table_item_seen}

-- a change within another
within : (changed whole : Option Trie) (inner outer : Trie) (f : Trie → Trie) (r : Result (Unit {0}) Met)
    → whole ≡ option_map f changed → outer ≡ f inner → Enters changed inner r → Enters whole outer r
within changed whole inner outer f r same is entered = grind arith

-- a row with a key more before its last one
row_on : (k : List ℕ) (ks : KeyTexts) (last : List ℕ) (d : Data) (t : Trie)
    → put_row (k ∷ (ks ++ last ∷ [])) d t
    ≡ at_step (steps.key k) (λ t. and_then (mark_here dotted t) (λ t. put_row (ks ++ last ∷ []) d t)) t
row_on k [] last d t = refl
row_on k (l ∷ ks) last d t = refl

-- a key is entered into a table
module _ {gives : Child → Type 0} (t : Table) (k : List ℕ) (new : List (List ℕ × Child)) (p : Place)
    (e : FindsOrAdds gives k (out-Table t).entries new p)
    (there : Child) (stands : slice_get (values_of new) p.position ≡ Some there) where
  -- a change at the key, in the table
  step_enters : (g : Trie → Option Trie) (now : Child) (r : Result (Unit {0}) Met)
      → Enters (g (trie_before p.is_new (child_trie there))) (child_trie now) r
      → Enters (at_step (steps.key k) g (table_trie t)) (table_trie (with_entries t (with_value new p.position now))) r
  step_enters g now r entered =
      let put : Trie → Trie =
      λ u. trie (standing (table_trie t)) None (by_keys (with_value (tries_of child_trie new) p.position u)) in
      let at = (at_entered child_trie k (out-Table t).entries new p e there stands).1 g in
      within _ _ _ _ put r (rw (table_entries_trie t, at, mapped_twice) refl)
      (rw (table_entries_trie, out-roll-Table, with_mapped, table_entries_trie t) refl) entered

  -- it is a row's last key, which is new, or is met
  pub last_taken : {c : Child} → there ≡ c → p.is_new ≡ true → TakesRow [] k c t (with_entries t new) (Ok tt)
  last_taken {c} made is_new = record {
    entered = λ d is_leaf. rw (with_same new p.position there stands) at
        (step_enters (λ t. mark_here (valued d) t) there (Ok tt) (rw (is_new, made, is_leaf) refl));
    named = tt;
    origins = rw (with_same new p.position there stands, made) at (origins_put t k there there new p e stands
        (child_origins there) (rw is_new refl));
  }

  pub last_met : {c : Child} {met : Met} → ((d : Data) → mark_here (valued d) (child_trie there) ≡ None)
      → TellsLast (child_trie there) met → p.is_new ≡ false → TakesRow [] k c t (with_entries t new) (Err met)
  last_met {c} {met} refused told is_old = record {
    entered = λ d is_leaf. step_enters (λ t. mark_here (valued d) t) there (Err met) (grind (arith, refused d));
    named = λ d is_leaf. last_told t k new p e there stands met d (rw is_old told);
    origins = tt;
  }

-- a key that a period follows is entered, and the rest of the row goes into what stands there
pub dots_taken : {gives : Child → Type 0} {t : Table} {key : keys.Key} {rest : List keys.Key} {last : List ℕ}
    {child there now : Child} {k : List ℕ} {new : List (List ℕ × Child)} {p : Place} (r : Result (Unit {0}) Met)
    → k ≡ key_text_bytes key.text → FindsOrAdds gives k (out-Table t).entries new p
    → slice_get (values_of new) p.position ≡ Some there
    → (p.is_new ≡ true
    → (child_trie there ≡ empty_table) × (child_origins there ≡ entry (dotted_of child) no_origins))
    → ExtendsBy rest last child there now r
    → TakesRow (key ∷ rest) last child t (with_entries t (with_value new p.position now)) r
dots_taken {t = t} {key} {rest} {last} {child} {there} {now} {k} {new} {p} r same at_key stands fresh extends =
    let e = rw same at at_key in
    let k = key_text_bytes key.text in
    let texts = header_texts rest in
    let dots = dotted_of child in
    let more = row_origins (texts ++ last ∷ []) dots (child_origins child) in record {
      entered = λ d is_leaf. rw (row_on k texts last d (table_trie t)) (step_enters t k new p e there stands
          (λ t. and_then (mark_here dotted t) (λ t. put_row (texts ++ last ∷ []) d t)) now r
          (rw (dotted_before p.is_new (child_trie there) (λ is. (fresh is).0)) (extends.entered d is_leaf)));
      named = IfErr-weaker r _ _ (λ met told. λ d is_leaf. row_told t k new p e there stands met key.offset
          (map key_of rest) last d (extended_before p.is_new (map key_of rest) last d (child_trie there) met
          (λ is. (fresh is).0) (told d is_leaf))) extends.named;
      origins = IfOk-weaker r _ _ (λ x comes. origins_put t k there now new p e stands (entry dots more)
          (comes_below p.is_new dots (child_origins there) (child_origins now) more (λ is. (fresh is).1) comes)
          ∙ ap (with_more (table_within t)) (sym (origins_on k texts last dots (child_origins child)))) extends.origins;
    }

-- dots extend a table, and the rest of the row goes into it
pub dots_extend : {parents : List keys.Key} {last : List ℕ} {child there gone : Child} {old : Box Table Global}
    {u now : Table} (r : Result (Unit {0}) Met) → (out-Child there).item ≡ items.Table old
    → (out-Table old.value).named ≡ false → u ≡ roll-Table (dotted_fields old.value) → child_trie gone ≡ table_trie now
    → child_origins gone ≡ of_table (out-Child there).start (out-Child there).section (table_within now)
    → TakesRow parents last child u now r → ExtendsBy parents last child there gone r
dots_extend {parents} {last} {child} {there} {gone} {old} {u} {now} r is named dots same origins takes =
    let on = rw (← dots) at (dotted_table there old old.value is refl named) in
    let w = table_within old.value in
    let more = row_origins (header_texts parents ++ last ∷ []) (dotted_of child) (child_origins child) in
    let was : table_within u ≡ w = ap table_within dots ∙ dotted_within old.value in
    let own = table_origin w.made (out-Child there).start (section_in w (out-Child there).section) in record {
      entered = λ d is_leaf. rw (on, same) (takes.entered d is_leaf);
      named = IfErr-weaker r _ _ (λ met told. λ d is_leaf. extended_on (map key_of parents) last d (child_trie there)
          (table_trie u) met on (told d is_leaf)) takes.named;
      origins = IfOk-weaker r _ _ (λ (x : Unit {0}) (comes : table_within now ≡ with_more (table_within u) more).
          rw (origins, comes, was, child_seen there, is, table_item_seen) (or_entry own (dotted_of child) w.below more))
          takes.origins;
    }
