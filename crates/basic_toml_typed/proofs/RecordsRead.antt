-- Fields one after another, and the record that has them.
use Rattle.std.proofs.Common.{◌≡◌, inl, inr, ℕ, List, [], ◌∷◌, ◌++◌, map, refl, sym, subst, Bor, Some, None}
use mathlib.Core.List.{map-map}
use Rattle.basic_toml_value.specs.Data.{Data}
use Rattle.basic_toml_tree.specs.declared.node.Node.{Node}
use Rattle.basic_toml_error.specs.Fault.{Fault, want_of_memory}
use Rattle.basic_toml_typed.specs.TypeAnswers.{OnlyMemory}
use Rattle.basic_toml_tree.specs.Nodes.{node_data}
use Rattle.basic_toml_typed.specs.FieldFaults.{FailsOr}
use Rattle.basic_toml_typed.specs.FieldKeys.{text_number}
use Rattle.basic_toml_typed.specs.TypeReads.{HasOnly, optional_reads}
use Rattle.basic_toml_typed.specs.Records.{Reading, FirstFails, OneReadsNone, AreRead}
use Rattle.basic_toml_typed.specs.Records.{IsRead, default_at, default_reads, only_at, Fields, done, field, only, readings, record_reads}

-- some fields and others behind them: one of the first fails, or they are read and one behind them fails
pub fails_first : (some others : List Reading) (node : Node) (fault : Fault) → FirstFails some node fault
    → FirstFails (some ++ others) node fault
unfolding FailsOr
fails_first [] others node fault fails = absurd fails
fails_first (r ∷ rs) others node fault (inl here) = inl here
fails_first (r ∷ rs) others node fault (inr behind) = inr (behind.0, fails_first rs others node fault behind.1)

pub fails_behind : (some others : List Reading) (node : Node) (fault : Fault) → AreRead some node
    → FirstFails others node fault → FirstFails (some ++ others) node fault
unfolding FailsOr
fails_behind [] others node fault read fails = fails
fails_behind (r ∷ rs) others node fault read fails = inr (read.0, fails_behind rs others node fault read.1 fails)

pub none_first : (some others : List Reading) (d : Data) (fault : Fault) → OneReadsNone some d fault
    → OneReadsNone (some ++ others) d fault
none_first [] others d fault none = absurd none
none_first (r ∷ rs) others d fault (inl here) = inl here
none_first (r ∷ rs) others d fault (inr behind) = inr (none_first rs others d fault behind)

pub none_behind : (some others : List Reading) (d : Data) (fault : Fault) → OneReadsNone others d fault
    → OneReadsNone (some ++ others) d fault
none_behind [] others d fault none = none
none_behind (r ∷ rs) others d fault none = inr (none_behind rs others d fault none)

pub all_read : (some others : List Reading) (node : Node) → AreRead some node → AreRead others node
    → AreRead (some ++ others) node
all_read [] others node first second = second
all_read (r ∷ rs) others node first second = (first.0, all_read rs others node first.1 second)

pub ruleset one_after_another = (fails_first, fails_behind, none_first, none_behind, all_read)

-- a field with a default: what stands there is read, or else the default
module _ {A : Type 0} (reads : Data → A → Type 0) (faults : Node → Fault → Type 0) (name : List ℕ) (IsDefault : A → Type 0)
    (node : Node) (x : A) where
  pub found_is_read : optional_reads reads (text_number name) (node_data node) (Some x)
      → IsRead (default_at reads faults name IsDefault) node
  unfolding IsRead default_reads
  found_is_read there = (x, (Some x, there, refl))

  pub default_is_read : optional_reads reads (text_number name) (node_data node) None → IsDefault x
      → IsRead (default_at reads faults name IsDefault) node
  unfolding IsRead default_reads
  default_is_read none is = (x, (None, none, is))

-- names by their numbers, as fields stand in a slice
module _ (keys : List (Bor (List ℕ))) where
  abbrev numbers : List ℕ
  numbers = map (λ key. text_number key.now) keys

  abbrev texts : List (List ℕ)
  texts = map (λ key. key.now) keys

  same_numbers : numbers ≡ map text_number texts
  same_numbers = sym (map-map text_number (λ key. key.now) keys)

  pub only_is : (d : Data) → HasOnly numbers d → HasOnly (map text_number texts) d
  only_is d has = subst (λ (ns : List ℕ). HasOnly ns d) same_numbers has

  pub only_is_read : (node : Node) → HasOnly numbers (node_data node) → IsRead (only_at texts) node
  unfolding IsRead
  only_is_read node has = (tt, only_is (node_data node) has)

  pub only_reads_none : (d : Data) (fault : Fault) → (HasOnly numbers d → ⊥) → OnlyMemory ⊥ ((only_at texts).reads d) fault
  only_reads_none d fault none = record {
    taken = λ no. absurd no;
    held = λ x has. absurd (none (subst (λ (ns : List ℕ). HasOnly ns d) (sym same_numbers) has));
  }

pub ruleset only_names = (only_is, only_is_read, only_reads_none)

-- where a field reads nothing, the record does not
held_back : {S : Type 0} (fields : Fields S) (d : Data) (fault : Fault) → OneReadsNone (readings fields) d fault → (s : S)
    → record_reads fields d s → fault ≡ want_of_memory
held_back done d fault none s read = absurd none
held_back (field name reading get rest) d fault (inl here) s read = here.held (get s) read.0
held_back (field name reading get rest) d fault (inr behind) s read = held_back rest d fault behind s read.1
held_back (only names rest) d fault (inl here) s read = here.held tt read.0
held_back (only names rest) d fault (inr behind) s read = held_back rest d fault behind s read.1

pub record_reads_none : {S : Type 0} (fields : Fields S) (d : Data) (fault : Fault)
    → OneReadsNone (readings fields) d fault → OnlyMemory ⊥ (record_reads fields d) fault
record_reads_none fields d fault none = record {
  taken = λ none. absurd none;
  held = held_back fields d fault none;
}
