-- Reading the entries of a table, one after another.
use Rattle.std.proofs.Common.{◌≡◌, inl, inr, ℕ, zero, suc, true, false, List, [], ◌∷◌, ◌++◌, Global, IsTrue}
use Rattle.std.proofs.Common.{Option, Some, None, String, refl, sym, subst, ap, ◌∙◌, arith, map, cond, Bool, Bor}
use Rattle.std.proofs.Common.{take, drop, length, length-drop, codes}
use Rattle.std.specs.Str.{bytes_eq}
use Rattle.std.specs.String.{string_bytes, string_cmp}
use Rattle.std.specs.BTreeMap.{BTreeMap, get_by_text, IsEmpty, Updates, is_at}
use Rattle.std.specs.Map.{lookup, update}
use Rattle.std.specs.Cmp.Lexicographic.{slice_cmp}
use Rattle.std.specs.Ordering.{nat_cmp}
use Rattle.std.proofs.lemmas.List.{map-append, take-append-drop}
use Rattle.std.proofs.lemmas.Map.Text.{btree_map_updates_text}
use Rattle.std.proofs.lemmas.Slice.Eq.{bytes_eq-Decides}
use Rattle.basic_toml_value.specs.Data.{Data, integer, float, boolean, string, array, table}
use Rattle.basic_toml_value.specs.Data.{Members, no_members, member}
use Rattle.basic_toml_index.specs.Keys.{is_among, are_distinct}
use Rattle.basic_toml_value.specs.Pairs.{keys_of, value_at}
use Rattle.basic_toml_tree.specs.declared.entries.Entries.{Entries}
use Rattle.basic_toml_tree.specs.declared.node.Node.{Node}
use Rattle.basic_toml_tree.specs.Nodes.{node_data, is_table, entries_in, entries_left, paired, data_among}
use Rattle.basic_toml_tree.specs.Stands.{AtKey, GivesEntry}
use Rattle.basic_toml_error.specs.Fault.{Fault}
use Rattle.basic_toml_error.specs.NodeFaults.{IsFault}
use Rattle.basic_toml_typed.specs.TypeAnswers.{OnlyMemory, OrMemory}
use Rattle.basic_toml_typed.specs.TypeFaults.{are_readable, map_faults, wrong_type}
use Rattle.basic_toml_typed.specs.TypeReads.{are_taken, maybe_reads, map_reads, map_takes}
use Rattle.basic_toml_typed.proofs.ArraysRead.{at_number, one_taken, all_taken, read_more}
use Rattle.basic_toml_typed.proofs.FieldsFail.{made_so}

-- ---- entries whose keys differ

among_them : (before : List (List ℕ × Data)) (k : List ℕ) (d : Data) (after : List (List ℕ × Data))
    → is_among (keys_of (before ++ (k, d) ∷ after)) k ≡ true
among_them [] k d after = grind (arith, bytes_eq-Decides k k)
among_them (p ∷ ps) k d after = grind (arith, among_them ps k d after)

-- a key is at none of the entries before its own
not_before : (before : List (List ℕ × Data)) (k : List ℕ) (d : Data) (after : List (List ℕ × Data))
    → IsTrue (are_distinct (keys_of (before ++ (k, d) ∷ after))) → value_at before k ≡ None
not_before [] k d after distinct = refl
not_before (p ∷ ps) k d after distinct =
    grind (arith, bytes_eq-Decides k p.0, among_them ps k d after, not_before ps k d after, distinct)

first_at : (before : List (List ℕ × Data)) (k : List ℕ) (d : Data) (after : List (List ℕ × Data))
    → value_at before k ≡ None → value_at (before ++ (k, d) ∷ after) k ≡ Some d
first_at [] k d after none = grind (arith, bytes_eq-Decides k k)
first_at (p ∷ ps) k d after none = grind (arith, first_at ps k d after, none)

other_at : (before : List (List ℕ × Data)) (k : List ℕ) (d : Data) (key : List ℕ) → bytes_eq key k ≡ false
    → value_at (before ++ (k, d) ∷ []) key ≡ value_at before key
other_at [] k d key other = rw other refl
other_at (p ∷ ps) k d key other =
    ap (λ (o : Option Data). cond (bytes_eq key p.0) (Some p.1) o) (other_at ps k d key other)

-- the data at a key is the value of the first entry that has it
among_paired : (members : Members) (key : List ℕ) → data_among members key ≡ value_at (paired members) key
among_paired no_members key = refl
among_paired (member k d members) key =
    ap (λ (o : Option Data). cond (bytes_eq key k) (Some d) o) (among_paired members key)

taken_at : (takes : Data → Type 0) (before : List (List ℕ × Data)) (k : List ℕ) (d : Data)
    → (after : List (List ℕ × Data)) → are_taken takes (map (λ p. p.1) (before ++ (k, d) ∷ after)) → takes d
taken_at takes [] k d after taken = taken.0
taken_at takes (p ∷ ps) k d after taken = taken_at takes ps k d after taken.1

-- nothing stands before all
all_left : {X : Type 0} (n : ℕ) (all : List X) → drop n all ≡ all → take n all ≡ []
all_left zero all same = refl
all_left (suc n) [] same = refl
all_left (suc n) (x ∷ xs) same =
    let longer : length (drop n xs) ≡ suc (length xs) = ap length same in
    absurd (omega (arith, longer, length-drop n xs))

-- the entries before the one that comes next, it, and those after it
split_at : {X : Type 0} (n : ℕ) (all rest : List X) (x : X) → drop n all ≡ x ∷ rest → all ≡ take n all ++ x ∷ rest
split_at n all rest x next = sym (take-append-drop n all) ∙ ap (λ l. take n all ++ l) next

-- ---- a map of entries

-- These entries of the table are left; the map has what was read of those before them, and the keys of all differ.
pub record IsReadSoFar {A : Type 0} (reads : Data → A → Type 0) (table : Node) (left : Entries)
    (read : BTreeMap (String Global) A) : Type 0 where
  pub of : left.table ≡ table
  pub distinct : IsTrue (are_distinct (keys_of (entries_in (node_data table))))
  pub held : (key : List ℕ)
      → maybe_reads reads (value_at (take left.at (entries_in (node_data table))) key) (get_by_text read key)
  pub readable : are_readable reads (map (λ p. p.1) (take left.at (entries_in (node_data table))))

module _ {A : Type 0} (reads : Data → A → Type 0) where
  -- what the map has at a key once one more entry was read
  held_after : (before : List (List ℕ × Data)) (k : List ℕ) (d : Data) (x : A) (old new : Option A) (key : List ℕ)
      → (same : Bool) → bytes_eq k key ≡ same → value_at before k ≡ None → new ≡ cond same (Some x) old → reads d x
      → maybe_reads reads (value_at before key) old
      → maybe_reads reads (value_at (before ++ (k, d) ∷ []) key) new
  held_after before k d x old new key true is fresh written read held =
      let same : k ≡ key = grind (arith, bytes_eq-Decides k key, is) in
      let here : value_at (before ++ (k, d) ∷ []) key ≡ Some d =
      subst (λ (l : List ℕ). value_at (before ++ (k, d) ∷ []) l ≡ Some d) same (first_at before k d [] fresh) in
      rw (here, written) read
  held_after before k d x old new key false is fresh written read held =
      let other : bytes_eq key k ≡ false = grind (arith, bytes_eq-Decides k key, bytes_eq-Decides key k, is) in
      rw (other_at before k d key other, written) held

  -- where the data at a key is read, it has a value
  some_read : (d : Data) (o : Option A) → maybe_reads reads (Some d) o → (x : A) × reads d x
  some_read d None h = absurd h
  some_read d (Some x) h = (x, h)

  -- a map is read from a table whose entries are all read
  map_read : (d : Data) (read : BTreeMap (String Global) A) → IsTrue (is_table d)
      → ((key : List ℕ) → maybe_reads reads (value_at (entries_in d) key) (get_by_text read key)) → map_reads reads d read
  unfolding map_reads
  map_read (integer _) read is held = absurd (cc)
  map_read (float _) read is held = absurd (cc)
  map_read (boolean _) read is held = absurd (cc)
  map_read (string _) read is held = absurd (cc)
  map_read (array _) read is held = absurd (cc)
  map_read (table members) read is held = λ key. rw (among_paired members key) (held key)

  -- an entry that is not read
  refused_at : (takes : Data → Type 0) (d : Data) (before after : List (List ℕ × Data)) (k : List ℕ) (below : Data)
      → (fault : Fault) → entries_in d ≡ before ++ (k, below) ∷ after → value_at before k ≡ None
      → OnlyMemory (takes below) (reads below) fault → OnlyMemory (map_takes takes d) (map_reads {A = A} reads d) fault
  unfolding map_takes map_reads
  refused_at takes (integer _) before after k below fault split fresh refused =
      record { taken = λ h. absurd h; held = λ whole h. absurd h }
  refused_at takes (float _) before after k below fault split fresh refused =
      record { taken = λ h. absurd h; held = λ whole h. absurd h }
  refused_at takes (boolean _) before after k below fault split fresh refused =
      record { taken = λ h. absurd h; held = λ whole h. absurd h }
  refused_at takes (string _) before after k below fault split fresh refused =
      record { taken = λ h. absurd h; held = λ whole h. absurd h }
  refused_at takes (array _) before after k below fault split fresh refused =
      record { taken = λ h. absurd h; held = λ whole h. absurd h }
  refused_at takes (table members) before after k below fault split fresh refused =
      let here : data_among members k ≡ Some below =
      among_paired members k ∙ ap (λ ps. value_at ps k) split ∙ first_at before k below after fresh in
      record {
        taken = λ h. refused.taken (taken_at takes before k below after
            (subst (λ (ps : List (List ℕ × Data)). are_taken takes (map (λ p. p.1) ps)) split h));
        held = λ whole h.
            let value = some_read below (get_by_text whole k)
            (subst (λ (o : Option Data). maybe_reads reads o (get_by_text whole k)) here (h k)) in
            refused.held value.0 value.1;
      }

  pub no_table : (takes : Data → Type 0) (d : Data) (fault : Fault) → is_table d ≡ false
      → OnlyMemory (map_takes takes d) (map_reads {A = A} reads d) fault
  unfolding map_takes map_reads
  no_table takes (integer _) fault other = record { taken = λ h. absurd h; held = λ whole h. absurd h }
  no_table takes (float _) fault other = record { taken = λ h. absurd h; held = λ whole h. absurd h }
  no_table takes (boolean _) fault other = record { taken = λ h. absurd h; held = λ whole h. absurd h }
  no_table takes (string _) fault other = record { taken = λ h. absurd h; held = λ whole h. absurd h }
  no_table takes (array _) fault other = record { taken = λ h. absurd h; held = λ whole h. absurd h }
  no_table takes (table _) fault other = absurd (cc)

module _ {A : Type 0} (reads : Data → A → Type 0) (table : Node) where
  pub none_read : (left : Entries) (read : BTreeMap (String Global) A) → left.table ≡ table
      → entries_left left ≡ entries_in (node_data table) → IsEmpty read
      → IsTrue (are_distinct (keys_of (entries_in (node_data table)))) → IsReadSoFar reads table left read
  none_read left read of whole empty distinct =
      let all : drop left.at (entries_in (node_data table)) ≡ entries_in (node_data table) =
      subst (λ (from : Node). drop left.at (entries_in (node_data from)) ≡ entries_in (node_data table)) of whole in
      let none : take left.at (entries_in (node_data table)) ≡ [] = all_left left.at (entries_in (node_data table)) all in
      record {
        of = of;
        distinct = distinct;
        held = λ key. rw none (subst (λ (es : List (String Global × A)). maybe_reads reads None
            (lookup (is_at (λ k. slice_cmp nat_cmp key (string_bytes k))) es)) (sym empty) tt);
        readable = rw none ([], tt);
      }

  -- what comes next: its key stands at none of the entries before it
  record IsNext (left rest : Entries) (k : List ℕ) (d : Data) : Type 0 where
    first : drop left.at (entries_in (node_data table)) ≡ (k, d) ∷ drop rest.at (entries_in (node_data table))
    split : entries_in (node_data table)
        ≡ take left.at (entries_in (node_data table)) ++ (k, d) ∷ drop rest.at (entries_in (node_data table))
    fresh : value_at (take left.at (entries_in (node_data table))) k ≡ None

  next_of : (left rest : Entries) (read : BTreeMap (String Global) A) (key : Bor (List ℕ)) (value : Node)
      → IsReadSoFar reads table left read → GivesEntry left (Some (key, value)) rest
      → IsNext left rest key.now (node_data value)
  next_of left rest read key value so_far gives =
      let all : List (List ℕ × Data) = entries_in (node_data table) in
      let first : drop left.at all ≡ (key.now, node_data value) ∷ drop rest.at all =
      subst (λ (from : Node). drop left.at all ≡ (key.now, node_data value) ∷ drop rest.at (entries_in (node_data from)))
      (gives.2 ∙ so_far.of)
      (subst (λ (from : Node). drop left.at (entries_in (node_data from)) ≡ (key.now, node_data value) ∷ entries_left rest)
      so_far.of gives.0) in
      let split : all ≡ take left.at all ++ (key.now, node_data value) ∷ drop rest.at all =
      split_at left.at all (drop rest.at all) (key.now, node_data value) first in
      record {
        first = first;
        split = split;
        fresh = not_before (take left.at all) key.now (node_data value) (drop rest.at all)
            (subst (λ (ps : List (List ℕ × Data)). IsTrue (are_distinct (keys_of ps))) split so_far.distinct);
      }

  pub entry_read : (left rest : Entries) (old new : BTreeMap (String Global) A) (key : Bor (List ℕ)) (value : Node)
      → (copy : String Global) (x : A) → IsReadSoFar reads table left old → GivesEntry left (Some (key, value)) rest
      → string_bytes copy ≡ key.now → Updates string_cmp old new copy (Some x) → reads (node_data value) x
      → IsReadSoFar reads table rest new
  entry_read left rest old new key value copy x so_far gives text updates read =
      let there = next_of left rest old key value so_far gives in
      let before : List (List ℕ × Data) = take left.at (entries_in (node_data table)) in
      let more : take rest.at (entries_in (node_data table)) ≡ before ++ (key.now, node_data value) ∷ [] =
      one_taken left.at rest.at (entries_in (node_data table)) (key.now, node_data value) there.first in
      record {
        of = gives.2 ∙ so_far.of;
        distinct = so_far.distinct;
        held = λ q.
            let written : get_by_text new q ≡ update bytes_eq (get_by_text old) (string_bytes copy) (Some x) q =
            btree_map_updates_text (string_bytes copy) old new (Some x) updates q in
            rw more (held_after reads before key.now (node_data value) x (get_by_text old q) (get_by_text new q) q
            (bytes_eq key.now q) refl there.fresh
            (subst (λ (bs : List ℕ). get_by_text new q ≡ cond (bytes_eq bs q) (Some x) (get_by_text old q)) text written)
            read (so_far.held q));
        readable =
            rw (more, map-append (λ p. p.1) before ((key.now, node_data value) ∷ [])) (
              so_far.readable.0 ++ x ∷ [],
              read_more reads (map (λ p. p.1) before) so_far.readable.0 (node_data value) x so_far.readable.1 read,
            );
      }

  pub all_read : (left : Entries) (read : BTreeMap (String Global) A) → IsTrue (is_table (node_data table))
      → IsReadSoFar reads table left read → entries_left left ≡ [] → map_reads reads (node_data table) read
  all_read left read is so_far none =
      let nothing : drop left.at (entries_in (node_data table)) ≡ [] =
      subst (λ (from : Node). drop left.at (entries_in (node_data from)) ≡ []) so_far.of none in
      map_read reads (node_data table) read is
      (λ key. subst (λ (ps : List (List ℕ × Data)). maybe_reads reads (value_at ps key) (get_by_text read key))
      (all_taken left.at (entries_in (node_data table)) nothing) (so_far.held key))

  pub entry_refused : (takes : Data → Type 0) (left rest : Entries) (read : BTreeMap (String Global) A)
      → (key : Bor (List ℕ)) (value : Node) (fault : Fault) → IsReadSoFar reads table left read
      → GivesEntry left (Some (key, value)) rest → OnlyMemory (takes (node_data value)) (reads (node_data value)) fault
      → OnlyMemory (map_takes takes (node_data table)) (map_reads {A = A} reads (node_data table)) fault
  entry_refused takes left rest read key value fault so_far gives refused =
      let there = next_of left rest read key value so_far gives in
      refused_at reads takes (node_data table) (take left.at (entries_in (node_data table)))
      (drop rest.at (entries_in (node_data table))) key.now (node_data value) fault there.split there.fresh refused

-- ---- which error

module _ {A : Type 0} (faults : Node → Fault → Type 0) (reads : Data → A → Type 0) (table : Node) (fault : Fault) where
  pub map_fails : is_table (node_data table) ≡ false → IsFault fault (wrong_type (codes "a map") table)
      → OrMemory (map_faults faults reads table) fault
  unfolding map_faults
  map_fails other made = made_so (map_faults faults reads table) fault _ made (inl (other, refl))

  pub entry_fails : (left rest : Entries) (read : BTreeMap (String Global) A) (key : Bor (List ℕ)) (value : Node)
      → IsReadSoFar reads table left read → GivesEntry left (Some (key, value)) rest → OrMemory (faults value) fault
      → OrMemory (map_faults faults reads table) fault
  unfolding map_faults
  entry_fails left rest read key value so_far gives (inl memory) = inl memory
  entry_fails left rest read key value so_far gives (inr own) =
      let there = next_of reads table left rest read key value so_far gives in
      inr (inr (
        left.at,
        key.now,
        value,
        record {
          holds = at_number left.at (entries_in (node_data table)) (drop rest.at (entries_in (node_data table)))
              (key.now, node_data value) there.first;
          stands = subst (λ (from : Node). AtKey from key.now value) so_far.of gives.1;
        },
        so_far.readable,
        own,
      ))

pub ruleset maps_read = (all_read, no_table, map_fails)
