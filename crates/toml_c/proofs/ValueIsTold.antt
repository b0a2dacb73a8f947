-- What is told of a value, from what was found.
use Rattle.std.proofs.Common.{◌≡◌, ℕ, ℤ, List, [], ◌∷◌, Some, None, length, refl, sym, ap, subst, ◌∙◌, arith, rules}
use Rattle.basic_toml.specs.Data.{Data, integer, float, boolean, string, array, table, Items, Members}
use Rattle.basic_toml.specs.Data.{array_in, table_in}
use Rattle.basic_toml.specs.Fault.{Fault}
use Rattle.basic_toml.specs.View.{view, entries, items_view}
use Rattle.basic_toml_value.specs.declared.value.Value.{Value, the_lemmas}
use Rattle.basic_toml_value.specs.declared.value.Value.TheVariants as in_code
use Rattle.toml_path.specs.Find.{data_at}
use Rattle.toml_path.specs.Path.{Step}
use Rattle.toml_c.specs.Answers.{with_front, Holds, IsRefusal}
use Rattle.toml_c.specs.declared.get.TomlValue.{TomlValue}
use Rattle.toml_c.specs.Gets.{kind_of, number_of, count_of, text_of, items_count, members_count, not_found}
use Rattle.toml_c.specs.Gets.{Tells, told, untold, FindsIn, stands, nothing, no_memory, Finds, read, refused, unread}
use Rattle.toml_c.specs.Gets.{Gets, malformed, no_steps, HasSteps}
use Rattle.toml_c.proofs.DocumentIsRead.{none_held}

items_counted : (values : List Value) → items_count (items_view values) ≡ length values
items_counted [] = refl
items_counted (v ∷ vs) = let rest = items_counted vs in omega (arith, rest)

members_counted : (pairs : List (List ℕ × Value)) → members_count (entries pairs) ≡ length pairs
members_counted [] = refl
members_counted (p ∷ ps) = let rest = members_counted ps in omega (arith, rest)

array_count : (d : Data) (items : Items) → Some items ≡ array_in d → items_count items ≡ count_of d
array_count (array other) items is = let same : items ≡ other = cc is in ap items_count same
array_count (integer _) items is = absurd (cc is)
array_count (float _) items is = absurd (cc is)
array_count (boolean _) items is = absurd (cc is)
array_count (string _) items is = absurd (cc is)
array_count (table _) items is = absurd (cc is)

table_count : (d : Data) (ms : Members) → Some ms ≡ table_in d → members_count ms ≡ count_of d
table_count (table other) ms is = let same : ms ≡ other = cc is in ap members_count same
table_count (integer _) ms is = absurd (cc is)
table_count (float _) ms is = absurd (cc is)
table_count (boolean _) ms is = absurd (cc is)
table_count (string _) ms is = absurd (cc is)
table_count (array _) ms is = absurd (cc is)

pub counts_items : (d : Data) (values : List Value) (n : ℕ) → Some (items_view values) ≡ array_in d → n ≡ length values
    → n ≡ count_of d
counts_items d values n is n-is = n-is ∙ sym (items_counted values) ∙ array_count d (items_view values) is

pub counts_members : (d : Data) (pairs : List (List ℕ × Value)) (n : ℕ) → Some (entries pairs) ≡ table_in d
    → n ≡ length pairs → n ≡ count_of d
counts_members d pairs n is n-is = n-is ∙ sym (members_counted pairs) ∙ table_count d (entries pairs) is

pub tells : (d : Data) (old new text : List ℕ) (kind count n : ℕ) (number : ℤ) (value : TomlValue) → text ≡ text_of d
    → new ≡ with_front old text → kind ≡ kind_of d → number ≡ number_of d → count ≡ count_of d → n ≡ length text
    → value ≡ record { status = 0; kind = kind; number = number; count = count; length = n }
    → Tells d old new value
tells d old new text kind count n number value text-is put kind-is number-is count-is n-is is =
    subst (Tells d old new)
    (sym (is
    ∙ ap (λ (k : ℕ). told_as k number count n) kind-is
    ∙ ap (λ (z : ℤ). told_as (kind_of d) z count n) number-is
    ∙ ap (λ (c : ℕ). told_as (kind_of d) (number_of d) c n) count-is
    ∙ ap (λ (l : ℕ). told_as (kind_of d) (number_of d) (count_of d) l) (n-is ∙ ap length text-is)))
    (told (put ∙ ap (with_front old) text-is))
  where
    told_as : ℕ → ℤ → ℕ → ℕ → TomlValue
    told_as k z c l = record { status = 0; kind = k; number = z; count = c; length = l }

pub tells_nothing : (d : Data) (old : List ℕ) (value : TomlValue) → value ≡ not_found 3 → Tells d old old value
tells_nothing d old value is = subst (Tells d old old) (sym is) (untold refl)

pub finds : (tree : Data) (steps : List Step) (old new : List ℕ) (d : Data) (value : TomlValue)
    → Some d ≡ data_at tree steps → Tells d old new value → FindsIn tree steps old new value
finds tree steps old new d _ is (told put) = stands (sym is) put
finds tree steps old new d _ is (untold same) = no_memory same

pub finds_nothing : (tree : Data) (steps : List Step) (old : List ℕ) (value : TomlValue)
    → None ≡ data_at tree steps → value ≡ not_found 2 → FindsIn tree steps old old value
finds_nothing tree steps old value is value-is =
    subst (FindsIn tree steps old old) (sym value-is) (nothing (sym is) refl)

-- the root of a document
root : (pairs : List (List ℕ × Value)) → view (in_code.Table pairs) ≡ table (entries pairs)
root pairs = search (rules, the_lemmas)

pub finds_in_document : (input : List ℕ) (pairs : List (List ℕ × Value)) (steps : List Step) (old new : List ℕ)
    (value : TomlValue) → Holds input (table (entries pairs)) → FindsIn (view (in_code.Table pairs)) steps old new value
    → Finds input steps old new value
finds_in_document input pairs steps old new value held finds =
    read held (subst (λ (d : Data). FindsIn d steps old new value) (root pairs) finds)

pub finds_no_document : (input : List ℕ) (steps : List Step) (old : List ℕ) (fault : Fault) (value : TomlValue)
    → IsRefusal input fault → value ≡ not_found 1 → Finds input steps old old value
finds_no_document input steps old fault value is_refusal is =
    subst (Finds input steps old old) (sym is) (refused (none_held input fault is_refusal) refl)

pub finds_no_memory : (input : List ℕ) (steps : List Step) (old : List ℕ) (value : TomlValue) → value ≡ not_found 3
    → Finds input steps old old value
finds_no_memory input steps old value is = subst (Finds input steps old old) (sym is) (unread refl)

pub gets_malformed : (input path old : List ℕ) (value : TomlValue) → ((steps : List Step) → HasSteps path steps → ⊥)
    → value ≡ not_found 4 → Gets input path old old value
gets_malformed input path old value none is = subst (Gets input path old old) (sym is) (malformed none refl)

pub gets_no_steps : (input path old : List ℕ) (value : TomlValue) → value ≡ not_found 3 → Gets input path old old value
gets_no_steps input path old value is = subst (Gets input path old old) (sym is) (no_steps refl)
