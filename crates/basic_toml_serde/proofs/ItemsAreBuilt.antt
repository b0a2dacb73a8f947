-- Values, elements and entries, by the items that spell them.
use Rattle.std.proofs.Common.{◌≡◌, ℕ, ℤ, pos, Bool, false, List, [], ◌∷◌, ◌++◌, map, Some, refl, ap, sym}
use Rattle.std.proofs.Common.{subst, ◌∙◌, String, Global, string_bytes, length, inl, inr, Vec, rules}
use Rattle.std.specs.Vec.Iter.{into_iter_items, into_iter_len}
use Rattle.std.specs.declared.vec.IntoIter.{IntoIter}
use Rattle.basic_toml_value.specs.Data as d
use Rattle.basic_toml_value.specs.Data.{Data, Items, no_items, item, Members, no_members, member}
use Rattle.basic_toml_value.specs.View.{view, entries, items_view}
use Rattle.basic_toml_value.specs.declared.value.Value.{Value, the_lemmas}
use Rattle.basic_toml_value.specs.declared.value.Value.TheVariants.{Integer, Float, Boolean, String as Words, Array, Table}
use Rattle.basic_toml_value.specs.Text.{text_bytes}
use Rattle.basic_toml_value.specs.declared.text.Text.{Text}
use Rattle.basic_toml_layout.specs.Trees.{number_items, scalar_tree, tree_of, element_trees, entry_trees}
use Rattle.basic_toml_layout.specs.Written.{Scalar, integer, boolean, float, text, other_text, bytes, Written, scalar}
use Rattle.basic_toml_layout.specs.Written.{absent, array, table, Elements, no_elements, element, Entries, no_entries}
use Rattle.basic_toml_layout.specs.Written.{entry, is_absent}
use Rattle.basic_toml_layout.proofs.ViewsOfValues.{view-String, view-Array, view-Table}
use Rattle.basic_toml_emit.specs.Items.{Item, a_scalar, an_absent, open_array, open_table, close, key}
use Rattle.basic_toml_write.specs.Spelling as s
use Rattle.basic_toml_write.specs.Spelling.{IsValue, one_scalar, none, an_array, a_table, AreElements, array_end}
use Rattle.basic_toml_write.specs.Spelling.{AreEntries, table_end, by_key, by_field, bare, root}
use Rattle.basic_toml_serde.specs.Listed.{item_of, listed}
use Rattle.basic_toml_serde.specs.Built.{left, IsBuilt, AreBuilt, EntriesBuilt, IsNextKey, IsTableOf}
use Rattle.basic_toml_serde.specs.declared.items.Item as code
use Rattle.basic_toml_serde.specs.declared.items.Item.TheVariants as it

-- ---- one value

built : (l : Scalar) (x : Data) (rest : List Item) → scalar_tree l ≡ x → IsBuilt (a_scalar l ∷ rest) x rest
built l x rest same = record { value = scalar l; spelled = one_scalar; present = refl; same = same }

pub integer_built : (z : ℤ) (rest : List Item) → IsBuilt (a_scalar (integer z) ∷ rest) (view (Integer z)) rest
integer_built z rest = built (integer z) _ rest (search (rules, the_lemmas))

pub boolean_built : (b : Bool) (rest : List Item) → IsBuilt (a_scalar (boolean b) ∷ rest) (view (Boolean b)) rest
boolean_built b rest = built (boolean b) _ rest (search (rules, the_lemmas))

pub float_built : (f : List ℕ) (rest : List Item) → IsBuilt (a_scalar (float f) ∷ rest) (view (Float f)) rest
float_built f rest = built (float f) _ rest (search (rules, the_lemmas))

string_built : (l : Scalar) (s : List ℕ) (t : Text) (rest : List Item) → scalar_tree l ≡ d.string s → text_bytes t ≡ s
    → IsBuilt (a_scalar l ∷ rest) (view (Words t)) rest
string_built l s t rest tree same = built l _ rest (tree ∙ ap d.string (sym same) ∙ sym (view-String t))

pub text_built : (s : String Global) (t : Text) (rest : List Item) → text_bytes t ≡ string_bytes s
    → IsBuilt (a_scalar (text (string_bytes s)) ∷ rest) (view (Words t)) rest
text_built s t rest same = string_built (text (string_bytes s)) (string_bytes s) t rest refl same

pub other_text_built : (s : String Global) (t : Text) (rest : List Item) → text_bytes t ≡ string_bytes s
    → IsBuilt (a_scalar (other_text (string_bytes s)) ∷ rest) (view (Words t)) rest
other_text_built s t rest same = string_built (other_text (string_bytes s)) (string_bytes s) t rest refl same

numbers_seen : (ns : List ℕ) → d.items_of (map (λ n. d.integer (pos n)) ns) ≡ number_items ns
numbers_seen [] = refl
numbers_seen (n ∷ ns) = ap (item (d.integer (pos n))) (numbers_seen ns)

pub octets_built : (ns : List ℕ) (vs : Vec Value Global) (rest : List Item)
    → map view vs.items ≡ map (λ n. d.integer (pos n)) ns → IsBuilt (a_scalar (bytes ns) ∷ rest) (view (Array vs)) rest
octets_built ns vs rest same =
    built (bytes ns) (view (Array vs)) rest
    (ap d.array (sym (ap d.items_of same ∙ numbers_seen ns)) ∙ sym (view-Array vs))

pub array_built : (is rest : List Item) (vs : Vec Value Global) → AreBuilt is (items_view vs.items) rest
    → IsBuilt (open_array ∷ is) (view (Array vs)) rest
array_built is rest vs built = record {
  value = array built.elements;
  spelled = an_array built.spelled;
  present = refl;
  same = ap d.array built.same ∙ sym (view-Array vs);
}

pub table_built : (is rest : List Item) (ps : List (List ℕ × Value)) → EntriesBuilt is (entries ps) rest
    → IsBuilt (open_table ∷ is) (view (Table ps)) rest
table_built is rest ps built = record {
  value = table built.entries;
  spelled = a_table built.spelled;
  present = refl;
  same = ap d.table built.same ∙ sym (view-Table ps);
}

pub ruleset value_built = (integer_built, boolean_built, float_built, text_built, other_text_built, octets_built, array_built, table_built)

-- ---- the next of them

pub value_next : (old mid : List code.Item) (first : code.Item) (x : Data) (rest : List Item) → old ≡ first ∷ mid
    → IsBuilt (item_of first ∷ listed mid) x rest → IsBuilt (listed old) x rest
value_next old mid first x rest next built = subst (λ is. IsBuilt is x rest) (sym (ap listed next)) built

pub end_next : (old new : List code.Item) → old ≡ it.Close ∷ new → listed old ≡ close ∷ listed new
end_next old new next = ap listed next

pub absent_next : (old new : List code.Item) → old ≡ it.Absent ∷ new → listed old ≡ an_absent ∷ listed new
absent_next old new next = ap listed next

pub field_next : (old new : List code.Item) (name : String Global) → old ≡ it.Field name ∷ new
    → IsNextKey (listed old) (Some name) (listed new)
field_next old new name next = inl (ap listed next)

pub key_next : (old mid new : List code.Item) (name : String Global) → old ≡ it.Key ∷ mid → mid ≡ it.Text name ∷ new
    → IsNextKey (listed old) (Some name) (listed new)
key_next old mid new name mark next = inr (ap listed mark ∙ ap (λ (is : List Item). key ∷ is) (ap listed next))

pub ruleset next_built = (value_next, end_next, absent_next, field_next, key_next)

-- ---- elements in turn

abbrev pub items_before : List Value → Items → Items
items_before [] rest = rest
items_before (v ∷ vs) rest = item (view v) (items_before vs rest)

items_before_none : (vs : List Value) → items_before vs no_items ≡ items_view vs
items_before_none [] = refl
items_before_none (v ∷ vs) = ap (item (view v)) (items_before_none vs)

items_before_last : (vs : List Value) (v : Value) (rest : Items)
    → items_before (vs ++ (v ∷ [])) rest ≡ items_before vs (item (view v) rest)
items_before_last [] v rest = refl
items_before_last (w ∷ vs) v rest = ap (item (view w)) (items_before_last vs v rest)

-- From the first list on these values were made, and with elements that come now they make up what all of it spells.
pub record ElementsSoFar (first now : List Item) (made : List Value) : Type 0 where
  pub more : (later : Elements) (rest : List Item) → AreElements now later rest
      → (es : Elements) × AreElements first es rest × (element_trees es ≡ items_before made (element_trees later))

pub no_elements_yet : (first : List Item) → ElementsSoFar first first []
no_elements_yet first = record { more = λ later rest spelled. (later, spelled, refl) }

pub one_element : (first now next : List Item) (made more : List Value) (v : Value) → ElementsSoFar first now made
    → IsBuilt now (view v) next → more ≡ made ++ v ∷ [] → ElementsSoFar first next more
one_element first now next made more v so_far built pushed = record {
  more = λ later rest spelled.
      let (es, all, same) = so_far.more (element built.value later) rest (s.member built.spelled spelled) in (
        es,
        all,
        same
            ∙ ap (λ x. items_before made (item x (element_trees later))) built.same
            ∙ sym (items_before_last made v (element_trees later))
            ∙ ap (λ l. items_before l (element_trees later)) (sym pushed),
      );
}

pub elements_end : (first now next : List Item) (made : List Value) → ElementsSoFar first now made
    → now ≡ close ∷ next → AreBuilt first (items_view made) next
elements_end first now next made so_far ends =
    let (es, all, same) =
    so_far.more no_elements next (subst (λ is. AreElements is no_elements next) (sym ends) array_end)
    in
    record { elements = es; spelled = all; same = same ∙ items_before_none made }

-- ---- entries in turn

abbrev pub members_before : List (List ℕ × Value) → Members → Members
members_before [] rest = rest
members_before (p ∷ ps) rest = member p.0 (view p.1) (members_before ps rest)

members_before_none : (ps : List (List ℕ × Value)) → members_before ps no_members ≡ entries ps
members_before_none [] = refl
members_before_none (p ∷ ps) = ap (member p.0 (view p.1)) (members_before_none ps)

members_before_last : (ps : List (List ℕ × Value)) (p : List ℕ × Value) (rest : Members)
    → members_before (ps ++ (p ∷ [])) rest ≡ members_before ps (member p.0 (view p.1) rest)
members_before_last [] p rest = refl
members_before_last (q ∷ ps) p rest = ap (member q.0 (view q.1)) (members_before_last ps p rest)

pub record EntriesSoFar (first now : List Item) (made : List (List ℕ × Value)) : Type 0 where
  pub more : (later : Entries) (rest : List Item) → AreEntries now later rest
      → (es : Entries) × AreEntries first es rest × (entry_trees es ≡ members_before made (entry_trees later))

pub no_entries_yet : (first : List Item) → EntriesSoFar first first []
no_entries_yet first = record { more = λ later rest spelled. (later, spelled, refl) }

-- an entry behind its key
keyed : (now mid : List Item) (name : String Global) (v : Written) (later : Entries) (next rest : List Item)
    → IsNextKey now (Some name) mid → IsValue mid v next → AreEntries next later rest
    → AreEntries now (entry (string_bytes name) v later) rest
keyed now mid name v later next rest (inl same) spelled more =
    subst (λ is. AreEntries is (entry (string_bytes name) v later) rest) (sym same) (by_field (bare spelled) more)
keyed now mid name v later next rest (inr same) spelled more =
    subst (λ is. AreEntries is (entry (string_bytes name) v later) rest) (sym same) (by_key (bare spelled) more)

-- one that is there has a place in the tree
entry_present : (k : List ℕ) (v : Written) (es : Entries) → is_absent v ≡ false
    → entry_trees (entry k v es) ≡ member k (tree_of v) (entry_trees es)
entry_present k (scalar l) es there = refl
entry_present k (array xs) es there = refl
entry_present k (table xs) es there = refl
entry_present k absent es there = absurd (cc)

pub absent_entry : (first now mid next : List Item) (made : List (List ℕ × Value)) (name : String Global)
    → EntriesSoFar first now made → IsNextKey now (Some name) mid → mid ≡ an_absent ∷ next
    → EntriesSoFar first next made
absent_entry first now mid next made name so_far named gone = record {
  more = λ later rest spelled.
      so_far.more (entry (string_bytes name) absent later) rest
      (keyed now mid name absent later next rest named (subst (λ is. IsValue is absent next) (sym gone) none) spelled);
}

pub one_entry : (first now mid next : List Item) (made more : List (List ℕ × Value)) (name : String Global) (v : Value)
    → EntriesSoFar first now made → IsNextKey now (Some name) mid → IsBuilt mid (view v) next
    → more ≡ made ++ (string_bytes name, v) ∷ [] → EntriesSoFar first next more
one_entry first now mid next made more name v so_far named built pushed = record {
  more = λ later rest spelled.
      let k : List ℕ = string_bytes name in
      let (es, all, same) =
      so_far.more (entry k built.value later) rest
      (keyed now mid name built.value later next rest named built.spelled spelled)
      in (
        es,
        all,
        same
            ∙ ap (members_before made) (entry_present k built.value later built.present
            ∙ ap (λ x. member k x (entry_trees later)) built.same)
            ∙ sym (members_before_last made (k, v) (entry_trees later))
            ∙ ap (λ l. members_before l (entry_trees later)) (sym pushed),
      );
}

pub entries_end : (first now next : List Item) (made : List (List ℕ × Value)) → EntriesSoFar first now made
    → now ≡ close ∷ next → EntriesBuilt first (entries made) next
entries_end first now next made so_far ends =
    let (es, all, same) =
    so_far.more no_entries next (subst (λ is. AreEntries is no_entries next) (sym ends) table_end)
    in
    record { entries = es; spelled = all; same = same ∙ members_before_none made }

-- ---- the whole list

nothing : {A : Type 0} (xs : List A) → length xs ≡ 0 → xs ≡ []
nothing [] empty = refl
nothing (x ∷ xs) empty = absurd (cc)

pub whole_table : (begun ended : IntoIter code.Item Global) (inside : List code.Item) (ms : Members)
    → into_iter_items begun ≡ it.OpenTable ∷ inside → EntriesBuilt (listed inside) ms (left ended)
    → into_iter_len ended ≡ 0 → IsTableOf (left begun) ms
whole_table begun ended inside ms opens built ends =
    let same : left begun ≡ open_table ∷ listed inside = ap listed opens in
    let nothing_left : left ended ≡ [] = ap listed (nothing (into_iter_items ended) (sym ended.rest.ok.0 ∙ ends)) in (
      table built.entries,
      root (subst (λ is. IsValue is (table built.entries) []) (sym same)
          (a_table (subst (AreEntries (listed inside) built.entries) nothing_left built.spelled))),
      ap d.table built.same,
    )
