-- A map of values that return returns.
use Rattle.std.proofs.Common.{◌≡◌, ℕ, Bool, true, false, cond, ◌&&◌, List, [], ◌∷◌, ◌++◌, refl, sym, subst, ap, ◌∙◌, map}
use Rattle.std.proofs.Common.{append_assoc, Option, Some, None, option_map, String, Global, string_bytes, string_cmp}
use Rattle.std.proofs.Common.{Ordering, Less, is_eq, is_lt, nat_cmp, bytes_eq, T}
use Rattle.std.specs.BTreeMap.{BTreeMap, get_by_text, is_at, IsOrdered}
use Rattle.std.specs.Cmp.Lexicographic.{slice_cmp, nat_list_cmp_total}
use Rattle.std.specs.FinMap.{FinMap, IsAntisymmetric, entries, entries-from_sorted, find, from_entries, from_sorted, get}
use Rattle.std.specs.FinMap.{get-entries, get-from_entries, get-from_sorted, is_sorted, nat_cmp-IsAntisymmetric, same_map}
use Rattle.std.specs.FinMap.{slice_cmp-IsAntisymmetric}
use Rattle.std.specs.FinMap.Entries.{below_all}
use Rattle.std.specs.List.{AllByRecursion, flat_map}
use Rattle.std.specs.List.Sorted.{IsStrictlySortedBy}
use Rattle.std.specs.Map.{lookup}
use Rattle.std.proofs.lemmas.Map.Keys.{sorted_head, sorted_tail}
use Rattle.std.proofs.lemmas.Map.Text.{is_eq-slice_cmp}
use Rattle.basic_toml_value.specs.Data.{Data, Members, members_of, table}
use Rattle.basic_toml_layout.specs.Written as w
use Rattle.basic_toml_emit.specs.Items.{Item, close, field}
use Rattle.basic_toml_tree.specs.Nodes.{data_among}
use Rattle.basic_toml_layout.specs.Trees.{entry_trees}
use Rattle.basic_toml_write.specs.Impls.{map_calls}
use Rattle.basic_toml_write.specs.Kept.{kept_entries}
use Rattle.basic_toml_write.specs.Spelling as spelling
use Rattle.basic_toml_write.specs.Spelling.{AreEntries, IsPrefixed}
use Rattle.basic_toml_typed.specs.TypeReads.{map_reads, maybe_reads}
use Rattle.basic_toml_returns.specs.Maps.{map_meant, map_members, meant_entries}
use Rattle.basic_toml_returns.specs.Means.{Means, with_member}
use Rattle.basic_toml_returns.specs.Returned.{ReadBack, Returned}
use Rattle.basic_toml_returns.specs.SpelledParts.{as_entry, kept_entry}

abbrev order : List ℕ → List ℕ → Ordering
order = slice_cmp nat_cmp

exact : IsAntisymmetric order
exact = slice_cmp-IsAntisymmetric nat_cmp-IsAntisymmetric

-- the first value at a key, by texts and by the order
among_found : (ps : List (List ℕ × Data)) (key : List ℕ) → data_among (members_of ps) key ≡ find order key ps
among_found [] key = refl
among_found (p ∷ ps) key =
    let same : bytes_eq key p.0 ≡ is_eq (slice_cmp nat_cmp key p.0) = sym (is_eq-slice_cmp key p.0) in
    let rest : data_among (members_of ps) key ≡ find order key ps = among_found ps key in
    (λ i. cond (same i) (Some p.1) (rest i))

module _ {A : Type 0} (meant : A → Data) where
  abbrev pairs_of : List (String Global × A) → List (List ℕ × Data)
  pairs_of es = map (λ e. (string_bytes e.0, meant e.1)) es

  map_cond : (b : Bool) (v : A) (o : Option A) (rest : Option Data) → rest ≡ option_map meant o
      → cond b (Some (meant v)) rest ≡ option_map meant (cond b (Some v) o)
  map_cond true v o rest same = refl
  map_cond false v o rest same = same

  found_mapped : (es : List (String Global × A)) (key : List ℕ)
      → find order key (pairs_of es) ≡ option_map meant (lookup (is_at (λ k. slice_cmp nat_cmp key (string_bytes k))) es)
  found_mapped [] key = refl
  found_mapped (e ∷ es) key =
      map_cond (is_eq (slice_cmp nat_cmp key (string_bytes e.0))) e.1
      (lookup (is_at (λ k. slice_cmp nat_cmp key (string_bytes k))) es) (find order key (pairs_of es))
      (found_mapped es key)

  -- what a map means has at each key what the map has there
  got : (m : BTreeMap (String Global) A) (key : List ℕ)
      → get (from_entries {R = order} (pairs_of m.entries)) key ≡ option_map meant (get_by_text m key)
  got m key = get-from_entries nat_list_cmp_total (pairs_of m.entries) key ∙ found_mapped m.entries key

  there : (m : BTreeMap (String Global) A) (key : List ℕ)
      → data_among (map_members meant m.entries) key ≡ option_map meant (get_by_text m key)
  there m key =
      among_found (meant_entries meant m.entries) key
      ∙ sym (get-entries (from_entries {R = order} (pairs_of m.entries)) key) ∙ got m key

  -- the entries of a map are in order
  below_others : (k : String Global) (es : List (String Global × A))
      → AllByRecursion (λ y. string_cmp k y ≡ Less) (map (λ e. e.0) es)
      → below_all order (string_bytes k) (pairs_of es) ≡ true
  below_others k [] all = refl
  below_others k (e ∷ es) all =
      let rest : below_all order (string_bytes k) (pairs_of es) ≡ true = below_others k es all.1 in
      (λ i. is_lt (all.0 i) && rest i)

  in_order : (es : List (String Global × A)) → IsStrictlySortedBy string_cmp (map (λ e. e.0) es)
      → is_sorted order (pairs_of es) ≡ true
  in_order [] sorted = refl
  in_order (e ∷ es) sorted =
      let here : below_all order (string_bytes e.0) (pairs_of es) ≡ true =
      below_others e.0 es (sorted_head string_cmp e.0 (map (λ e. e.0) es) sorted) in
      let rest : is_sorted order (pairs_of es) ≡ true =
      in_order es (sorted_tail string_cmp e.0 (map (λ e. e.0) es) sorted) in
      (λ i. here i && rest i)

  as_they_stand : (es : List (String Global × A)) → IsStrictlySortedBy string_cmp (map (λ e. e.0) es)
      → meant_entries meant es ≡ pairs_of es
  as_they_stand es sorted =
      let is : T (is_sorted order (pairs_of es)) = subst T (sym (in_order es sorted)) tt in
      let alike : (key : List ℕ) → get (from_entries {R = order} (pairs_of es)) key
      ≡ get (from_sorted {R = order} (pairs_of es)) key =
      λ key. get-from_entries nat_list_cmp_total (pairs_of es) key ∙ sym (get-from_sorted order (pairs_of es) key is) in
      ap entries (same_map nat_list_cmp_total exact (from_entries {R = order} (pairs_of es))
      (from_sorted {R = order} (pairs_of es)) alike)
      ∙ entries-from_sorted order (pairs_of es) is

-- the entries of a table, and what is kept of them
record MeansEntries (calls : List Item) (members : Members) : Type 0 where
  held : w.Entries
  spelled : AreEntries calls held []
  whole : entry_trees (kept_entries held) ≡ members

module _ {A : Type 0} (calls : A → List Item) (reads : Data → A → Type 0) (meant : A → Data) where
  abbrev values_return : List (String Global × A) → Type 0
  values_return es = AllByRecursion (λ e. Returned calls reads meant e.1) es

  abbrev part_calls : String Global × A → List Item
  part_calls e = field (string_bytes e.0) ∷ calls e.1

  entries_mean : (es : List (String Global × A)) → values_return es
      → MeansEntries (flat_map part_calls es ++ (close ∷ [])) (members_of (pairs_of meant es))
  entries_mean [] all = record { held = w.no_entries; spelled = spelling.table_end; whole = refl }
  entries_mean (e ∷ es) all =
      let part : Means (calls e.1) (Some (meant e.1)) = all.0.means in
      let left : List Item = flat_map part_calls es ++ (close ∷ []) in
      let more : MeansEntries left (members_of (pairs_of meant es)) = entries_mean es all.1 in
      record {
        held = w.entry (string_bytes e.0) part.value more.held;
        spelled = spelling.by_field (subst (λ (is : List Item). IsPrefixed is part.value left)
            (sym (append_assoc (calls e.1) (flat_map part_calls es) (close ∷ []))) (as_entry part.spelled left))
            more.spelled;
        whole = kept_entry (string_bytes e.0) part.value more.held
            ∙ (λ i. with_member (string_bytes e.0) (part.whole i) (more.whole i));
      }

  pub map_means : (m : BTreeMap (String Global) A) → IsOrdered string_cmp m → values_return m.entries
      → Means (map_calls calls m.entries) (Some (table (map_members meant m.entries)))
  map_means m ordered all =
      let more = entries_mean m.entries all in
      record {
        value = w.table more.held;
        spelled = spelling.root (spelling.a_table more.spelled);
        whole = ap (λ members. Some (table members)) more.whole
            ∙ ap (λ ps. Some (table (members_of ps))) (sym (as_they_stand meant m.entries ordered));
      }

  read_by_test : (b : Bool) (x : A) (others : Option A) → reads (meant x) x
      → maybe_reads reads (option_map meant others) others
      → maybe_reads reads (option_map meant (cond b (Some x) others)) (cond b (Some x) others)
  read_by_test true x others here rest = here
  read_by_test false x others here rest = rest

  lookup_read : (test : String Global → Bool) (es : List (String Global × A)) → values_return es
      → maybe_reads reads (option_map meant (lookup test es)) (lookup test es)
  lookup_read test [] all = tt
  lookup_read test (e ∷ es) all =
      read_by_test (test e.0) e.1 (lookup test es) all.0.read (lookup_read test es all.1)

  pub map_read : (m : BTreeMap (String Global) A) → values_return m.entries
      → map_reads reads (table (map_members meant m.entries)) m
  unfolding map_reads
  map_read m all = λ key.
      subst (λ (o : Option Data). maybe_reads reads o (get_by_text m key)) (sym (there meant m key))
      (lookup_read (is_at (λ k. slice_cmp nat_cmp key (string_bytes k))) m.entries all)

  nothing_read : (o : Option A) → maybe_reads reads None o → option_map meant o ≡ None
  nothing_read None read = refl
  nothing_read (Some x) read = absurd read

  one_read : (x : A) (o : Option A) → Returned calls reads meant x → maybe_reads reads (Some (meant x)) o
      → option_map meant o ≡ Some (meant x)
  one_read x None is read = absurd read
  one_read x (Some y) is read = ap (λ d. Some d) (is.once y read)

  once_by_test : (b : Bool) (x : A) (others o : Option A) → Returned calls reads meant x
      → (maybe_reads reads (option_map meant others) o → option_map meant o ≡ option_map meant others)
      → maybe_reads reads (option_map meant (cond b (Some x) others)) o
      → option_map meant o ≡ option_map meant (cond b (Some x) others)
  once_by_test true x others o is rest read = one_read x o is read
  once_by_test false x others o is rest read = rest read

  lookup_once : (test : String Global → Bool) (es : List (String Global × A)) (o : Option A) → values_return es
      → maybe_reads reads (option_map meant (lookup test es)) o → option_map meant o ≡ option_map meant (lookup test es)
  lookup_once test [] o all read = nothing_read o read
  lookup_once test (e ∷ es) o all read =
      once_by_test (test e.0) e.1 (lookup test es) o all.0 (λ read. lookup_once test es o all.1 read) read

  pub map_once : (m other : BTreeMap (String Global) A) → values_return m.entries
      → map_reads reads (table (map_members meant m.entries)) other
      → (table (map_members meant other.entries)) ≡ (table (map_members meant m.entries))
  unfolding map_reads
  map_once m other all read =
      let alike : (key : List ℕ) → get (from_entries {R = order} (pairs_of meant other.entries)) key
      ≡ get (from_entries {R = order} (pairs_of meant m.entries)) key =
      λ key. got meant other key
      ∙ lookup_once (is_at (λ k. slice_cmp nat_cmp key (string_bytes k))) m.entries (get_by_text other key) all
      (subst (λ (o : Option Data). maybe_reads reads o (get_by_text other key)) (there meant m key) (read key))
      ∙ sym (got meant m key) in
      ap (λ (found : FinMap order Data). table (members_of (entries found)))
      (same_map nat_list_cmp_total exact (from_entries {R = order} (pairs_of meant other.entries))
      (from_entries {R = order} (pairs_of meant m.entries)) alike)

module _ {A : Type 0} {calls : A → List Item} {holds : A → Type 0} {reads : Data → A → Type 0} {meant : A → Data} where
  all_return : ((x : A) → holds x → Returned calls reads meant x) → (es : List (String Global × A))
      → AllByRecursion (λ e. holds e.1) es → AllByRecursion (λ e. Returned calls reads meant e.1) es
  all_return returns [] held = tt
  all_return returns (e ∷ es) held = (returns e.1 held.0, all_return returns es held.1)

  pub map_returned : ((x : A) → holds x → Returned calls reads meant x) → (m : BTreeMap (String Global) A)
      → IsOrdered string_cmp m × AllByRecursion (λ e. holds e.1) m.entries
      → Returned (λ m. map_calls calls m.entries) (map_reads reads) (map_meant meant) m
  map_returned returns m held = let all = all_return returns m.entries held.1 in record {
    means = map_means calls reads meant m held.0 all;
    read = map_read calls reads meant m all;
    once = λ y read. map_once calls reads meant m y all read;
  }

-- BTreeMap: each value at its key, in the order of the keys
abbrev pub map_back : {A : Type 0} → ReadBack A → ReadBack (BTreeMap (String Global) A)
map_back back = record {
  calls = λ m. map_calls back.calls m.entries;
  holds = λ m. IsOrdered string_cmp m × AllByRecursion (λ e. back.holds e.1) m.entries;
  reads = map_reads back.reads;
  meant = map_meant back.meant;
  returns = map_returned back.returns;
}
