-- What the calls of data record, by that of its parts.
use Rattle.std.proofs.Common.{◌≡◌, ℕ, ◌+◌, ◌<◌, List, [], ◌∷◌, ◌++◌, length, drop, get_or, subst, sym, ap, ◌∙◌}
use Rattle.std.proofs.Common.{rules, ℤ}
use Rattle.std.proofs.lemmas.List.Elements.{All-nil, All-cons, All-append}
use Rattle.basic_toml_value.specs.Data.{Data, integer, array, table, Items, Members}
use Rattle.basic_toml_value.specs.Text.{text_bytes}
use Rattle.basic_toml_value.specs.Entries.{seen}
use Rattle.basic_toml_value.specs.View.{view, entries, items_view}
use Rattle.basic_toml_value.specs.declared.pairs.Pair.{Pair}
use Rattle.basic_toml_value.specs.declared.value.Value.{Value, the_lemmas}
use Rattle.basic_toml_value.specs.declared.value.Value.TheVariants.{Integer as Whole, String as Words}
use Rattle.basic_toml_value.specs.declared.text.Text.{Text}
use Rattle.basic_toml_value.proofs.TextIsUtf8.{IsUtf8-text_bytes}
use Rattle.basic_toml_layout.specs.Written as w
use Rattle.basic_toml_layout.specs.Written.{text}
use Rattle.basic_toml_emit.specs.Items.{Item, a_scalar, open_array, open_table, close, field, element_prefix}
use Rattle.basic_toml_write.specs.Impls.{data_calls, items_calls, members_calls}
use Rattle.basic_toml_write.specs.Recordable.{IsRecordableScalar, IsRecordable, AreRecordable}
use Rattle.basic_toml_layout.proofs.DataIsLaidOut.{drop_at}
use Rattle.basic_toml_layout.proofs.ViewsOfValues.{view-String}

pub recordable_one : (i : Item) → IsRecordable i → AreRecordable (i ∷ [])
recordable_one i can = All-cons IsRecordable i [] can (All-nil IsRecordable)

view-Integer : (z : ℤ) → view (Whole z) ≡ integer z
view-Integer z = search (rules, the_lemmas)

pub recordable_string : (v : Value) (t : Text) → v ≡ Words t → AreRecordable (data_calls (view v))
recordable_string v t is = subst (λ z. AreRecordable (data_calls z)) (sym (ap view is ∙ view-String t))
    (recordable_one (a_scalar (text (text_bytes t))) (IsUtf8-text_bytes t))

pub recordable_integer : (v : Value) (z : ℤ) → v ≡ Whole z → IsRecordableScalar (w.integer z)
    → AreRecordable (data_calls (view v))
recordable_integer v z is can = subst (λ d. AreRecordable (data_calls d)) (sym (ap view is ∙ view-Integer z))
    (recordable_one (a_scalar (w.integer z)) can)

closed : (i : Item) (is : List Item) → IsRecordable i → AreRecordable is → AreRecordable (i ∷ (is ++ (close ∷ [])))
closed i is can more = All-cons IsRecordable i (is ++ (close ∷ [])) can
    (All-append IsRecordable is (close ∷ []) more (recordable_one close tt))

pub recordable_array : (d : Data) (xs : Items) → d ≡ array xs → AreRecordable (items_calls xs)
    → AreRecordable (data_calls d)
recordable_array d xs is more =
    subst (λ z. AreRecordable (data_calls z)) (sym is) (closed open_array (items_calls xs) tt more)

pub recordable_table : (d : Data) (ms : Members) → d ≡ table ms → AreRecordable (members_calls ms)
    → AreRecordable (data_calls d)
recordable_table d ms is more =
    subst (λ z. AreRecordable (data_calls z)) (sym is) (closed open_table (members_calls ms) tt more)

-- one more element, and what is left
pub recordable_item : (xs : List Value) (i : ℕ) (x : Value) → i < length xs → x ≡ get_or xs i x
    → AreRecordable (data_calls (view x)) → AreRecordable (items_calls (items_view (drop (i + 1) xs)))
    → AreRecordable (items_calls (items_view (drop i xs)))
recordable_item xs i x lt read one more =
    subst (λ z. AreRecordable (items_calls (items_view z))) (sym (drop_at xs i x lt read))
    (All-cons IsRecordable element_prefix (data_calls (view x) ++ items_calls (items_view (drop (i + 1) xs))) tt
    (All-append IsRecordable (data_calls (view x)) (items_calls (items_view (drop (i + 1) xs))) one more))

-- one more pair, and what is left
pub recordable_member : (ps : List (Pair Value)) (i : ℕ) (p : Pair Value) → i < length ps → p ≡ get_or ps i p
    → AreRecordable (data_calls (view p.value)) → AreRecordable (members_calls (entries (seen (drop (i + 1) ps))))
    → AreRecordable (members_calls (entries (seen (drop i ps))))
recordable_member ps i p lt read one more =
    subst (λ z. AreRecordable (members_calls (entries (seen z)))) (sym (drop_at ps i p lt read))
    (All-cons IsRecordable (field (text_bytes p.key))
    (data_calls (view p.value) ++ members_calls (entries (seen (drop (i + 1) ps)))) (IsUtf8-text_bytes p.key)
    (All-append IsRecordable (data_calls (view p.value)) (members_calls (entries (seen (drop (i + 1) ps)))) one more))
