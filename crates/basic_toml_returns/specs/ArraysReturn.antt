-- A list of values that return returns.
use Rattle.std.proofs.Common.{◌≡◌, List, [], ◌∷◌, ◌++◌, refl, sym, subst, ap, map, append_assoc, Some, Vec, Global}
use Rattle.std.specs.List.{AllByRecursion, flat_map}
use Rattle.basic_toml_value.specs.Data.{Data, Items, array, item, items_of}
use Rattle.basic_toml_layout.specs.Written as w
use Rattle.basic_toml_layout.specs.Trees.{element_trees}
use Rattle.basic_toml_emit.specs.Items.{Item, close, element_prefix}
use Rattle.basic_toml_tree.specs.Nodes.{listed}
use Rattle.basic_toml_write.specs.Impls.{array_calls}
use Rattle.basic_toml_write.specs.Kept.{kept_elements}
use Rattle.basic_toml_write.specs.Spelling as spelling
use Rattle.basic_toml_write.specs.Spelling.{AreElements}
use Rattle.basic_toml_typed.specs.TypeReads.{are_read, array_reads}
use Rattle.basic_toml_returns.specs.Maps.{array_meant}
use Rattle.basic_toml_returns.specs.Means.{Means}
use Rattle.basic_toml_returns.specs.Returned.{ReadBack, Returned}
use Rattle.basic_toml_returns.specs.SpelledParts.{as_element, kept_tree}

-- the elements, and what is kept of them
record MeansElements (calls : List Item) (items : Items) : Type 0 where
  held : w.Elements
  spelled : AreElements calls held []
  whole : element_trees (kept_elements held) ≡ items

listed_items : (ds : List Data) → listed (items_of ds) ≡ ds
listed_items [] = refl
listed_items (d ∷ ds) = ap (λ (es : List Data). d ∷ es) (listed_items ds)

module _ {A : Type 0} (calls : A → List Item) (reads : Data → A → Type 0) (meant : A → Data) where
  abbrev each_returns : List A → Type 0
  each_returns xs = AllByRecursion (Returned calls reads meant) xs

  abbrev part_calls : A → List Item
  part_calls x = element_prefix ∷ calls x

  elements_mean : (xs : List A) → each_returns xs
      → MeansElements (flat_map part_calls xs ++ (close ∷ [])) (items_of (map meant xs))
  elements_mean [] all = record { held = w.no_elements; spelled = spelling.array_end; whole = refl }
  elements_mean (x ∷ xs) all =
      let part : Means (calls x) (Some (meant x)) = all.0.means in
      let more : MeansElements (flat_map part_calls xs ++ (close ∷ [])) (items_of (map meant xs)) =
      elements_mean xs all.1 in
      record {
        held = w.element part.value more.held;
        spelled = spelling.an_element (subst (λ (is : List Item). AreElements is (w.element part.value more.held) [])
            (sym (append_assoc (calls x) (flat_map part_calls xs) (close ∷ []))) (as_element part.spelled more.spelled));
        whole = (λ i. item (kept_tree part.value (meant x) part.whole i) (more.whole i));
      }

  pub array_means : (xs : List A) → each_returns xs → Means (array_calls calls xs) (Some (array (items_of (map meant xs))))
  array_means xs all =
      let more = elements_mean xs all in
      record {
        value = w.array more.held;
        spelled = spelling.root (spelling.an_array more.spelled);
        whole = ap (λ items. Some (array items)) more.whole;
      }

  elements_read : (xs : List A) → each_returns xs → are_read reads (map meant xs) xs
  elements_read [] all = tt
  elements_read (x ∷ xs) all = (all.0.read, elements_read xs all.1)

  pub array_read : (v : Vec A Global) → each_returns v.items → array_reads reads (array (items_of (map meant v.items))) v
  unfolding array_reads
  array_read v all =
      subst (λ ds. are_read reads ds v.items) (sym (listed_items (map meant v.items))) (elements_read v.items all)

  elements_once : (xs ys : List A) → each_returns xs → are_read reads (map meant xs) ys
      → items_of (map meant ys) ≡ items_of (map meant xs)
  elements_once [] [] all read = refl
  elements_once [] (y ∷ ys) all read = absurd read
  elements_once (x ∷ xs) [] all read = absurd read
  elements_once (x ∷ xs) (y ∷ ys) all read =
      let here : meant y ≡ meant x = all.0.once y read.0 in
      let rest : items_of (map meant ys) ≡ items_of (map meant xs) = elements_once xs ys all.1 read.1 in
      (λ i. item (here i) (rest i))

  pub array_once : (v other : Vec A Global) → each_returns v.items
      → array_reads reads (array (items_of (map meant v.items))) other
      → (array (items_of (map meant other.items))) ≡ (array (items_of (map meant v.items)))
  unfolding array_reads
  array_once v other all read =
      ap array (elements_once v.items other.items all
      (subst (λ ds. are_read reads ds other.items) (listed_items (map meant v.items)) read))

module _ {A : Type 0} {calls : A → List Item} {holds : A → Type 0} {reads : Data → A → Type 0} {meant : A → Data} where
  all_return : ((x : A) → holds x → Returned calls reads meant x) → (xs : List A) → AllByRecursion holds xs
      → AllByRecursion (Returned calls reads meant) xs
  all_return returns [] held = tt
  all_return returns (x ∷ xs) held = (returns x held.0, all_return returns xs held.1)

  pub array_returned : ((x : A) → holds x → Returned calls reads meant x) → (v : Vec A Global)
      → AllByRecursion holds v.items
      → Returned (λ v. array_calls calls v.items) (array_reads reads) (array_meant meant) v
  array_returned returns v held = let all = all_return returns v.items held in record {
    means = array_means calls reads meant v.items all;
    read = array_read calls reads meant v all;
    once = λ y read. array_once calls reads meant v y all read;
  }

-- Vec: each element in order
abbrev pub array_back : {A : Type 0} → ReadBack A → ReadBack (Vec A Global)
array_back back = record {
  calls = λ v. array_calls back.calls v.items;
  holds = λ v. AllByRecursion back.holds v.items;
  reads = array_reads back.reads;
  meant = array_meant back.meant;
  returns = array_returned back.returns;
}
