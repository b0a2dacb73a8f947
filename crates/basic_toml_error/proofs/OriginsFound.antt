-- The origins of an error, by the section list of its text or without one.
use Rattle.std.proofs.Common.{◌≡◌, ◌≤◌, ℕ, List, Option, refl, ap, ◌∙◌, arith}
use Rattle.std.specs.Prelude.{option_map}
use Rattle.std.specs.Borrow.{Bor}
use Rattle.basic_toml_tokens.specs.Text.{folded}
use Rattle.basic_toml_value.specs.Nesting.{nesting_limit}
use Rattle.basic_toml_grammar.specs.Faults as read
use Rattle.basic_toml_grammar.specs.Grammar.{IsSectionList}
use Rattle.basic_toml_grammar.specs.Levels.{highest_level}
use Rattle.basic_toml_grammar.specs.Sections.{Section}
use Rattle.basic_toml_grammar.proofs.LawsHold.{unambiguous}
use Rattle.basic_toml_explain.specs.Error.{kind_of}
use Rattle.basic_toml_explain.specs.declared.error.ReadErrorKind.{ReadErrorKind}
use Rattle.basic_toml_explain.specs.declared.error.ReadErrorKind.TheVariants as kinds
use Rattle.basic_toml_read.specs.SectionsAnswer.{IsRefused, memory, deep, outside}
use Rattle.basic_toml_tree.specs.OfText.{IsListOf}
use Rattle.basic_toml_error.specs.Fault.{Fault}
use Rattle.basic_toml_error.specs.Origins.{AreOriginsIn, alone, origins_in}
use Rattle.basic_toml_error.specs.declared.origins.Origins.{Origins}

pub found_in_list : (text : List ℕ) (f : Fault) (list : List Section) (origins : Option Origins)
    → IsSectionList (folded text) list × (highest_level list ≤ nesting_limit) → origins ≡ origins_in list f
    → AreOriginsIn text f origins
found_in_list text f list origins is same = record {
  listed = λ sections has. same ∙ ap (λ ss. origins_in ss f) (unambiguous _ (folded text) list sections is.0 has.grammar);
  unlisted = λ none. absurd (none list (record { grammar = is.0; limit = is.1 }));
}

-- a text that is refused, but not for want of memory, has no list within the limit
no_list : (text : List ℕ) (sections : List Section) → IsListOf text sections → (fault : read.Fault) → IsRefused text fault
    → (fault.kind ≡ read.out_of_memory → ⊥) → ⊥
no_list text sections has _ (memory more) other = other refl
no_list text sections has _ (deep passes at met) other =
    let over = passes sections has.grammar in
    let low = has.limit in
    absurd (omega (arith, over, low))
no_list text sections has fault (outside due within) other = due.outside sections has.grammar

pub found_without_list : (text : List ℕ) (f : Fault) (fault : read.Fault) (origins : Option Origins) → IsRefused text fault
    → (fault.kind ≡ read.out_of_memory → ⊥) → origins ≡ option_map alone f.offset → AreOriginsIn text f origins
found_without_list text f fault origins refused other same = record {
  listed = λ sections has. absurd (no_list text sections has fault refused other);
  unlisted = λ none. same;
}

pub only_memory : (kind : ReadErrorKind (Bor (List ℕ))) → kind_of kind ≡ read.out_of_memory → kind ≡ kinds.OutOfMemory
only_memory kinds.OutOfMemory is = refl
only_memory (kinds.InvalidCharInString c) is = absurd (cc)
only_memory (kinds.InvalidEscape c) is = absurd (cc)
only_memory (kinds.InvalidHexEscape c) is = absurd (cc)
only_memory (kinds.InvalidEscapeValue n) is = absurd (cc)
only_memory kinds.NewlineInString is = absurd (cc)
only_memory (kinds.Unexpected c) is = absurd (cc)
only_memory kinds.UnterminatedString is = absurd (cc)
only_memory kinds.NewlineInTableKey is = absurd (cc)
only_memory kinds.MultilineStringKey is = absurd (cc)
only_memory (kinds.Wanted expected found) is = absurd (cc)
only_memory kinds.UnexpectedEof is = absurd (cc)
only_memory kinds.NumberInvalid is = absurd (cc)
only_memory kinds.UnquotedString is = absurd (cc)
only_memory kinds.DottedKeyInvalidType is = absurd (cc)
only_memory (kinds.DuplicateKey key) is = absurd (cc)
only_memory (kinds.DuplicateTable name) is = absurd (cc)
only_memory kinds.RedefineAsArray is = absurd (cc)
only_memory kinds.NestedTooDeeply is = absurd (cc)
only_memory (kinds.Custom message) is = absurd (cc)
