-- Worked texts that differ in blanks, comments and empty lines, and texts that differ in more; rows in another order.
use Rattle.std.proofs.Common.{◌≡◌, ℕ, false, List, [], ◌∷◌, Option, Some, None, refl, ap, ◌∙◌, codes}
use Rattle.std.specs.Str.{chars}
use lib.Utf8.{encode}
use Rattle.basic_toml_tokens.specs.Text.{Text}
use Rattle.basic_toml_value.specs.Data.{Data}
use Rattle.basic_toml_grammar.specs.Sections.{Raw, Rows, no_rows, row, Section}
use Rattle.basic_toml_grammar.specs.Document.{document_of, IsDocument}
use Rattle.basic_toml_grammar.specs.Entering.{and_then}
use Rattle.basic_toml_grammar.specs.Reader.{section_list_of}
use Rattle.basic_toml_grammar.specs.Respaced.{Token, newline, characters, Respaced, no_more, feeds, signs}
use Rattle.basic_toml_grammar.specs.RowOrder.{RowsReordered, none, section}
use Rattle.basic_toml_grammar.specs.Statements.{turned}
use Rattle.basic_toml_grammar.proofs.Grammar.ReaderIsSound.{list_read}
use Rattle.basic_toml_grammar.proofs.Grammar.ReaderIsComplete.{list_found}
use Rattle.basic_toml_grammar.proofs.Spacing.TokensAlike.{respaced_means_nothing}
use Rattle.basic_toml_grammar.proofs.Worked.WorkedDocuments.{table, int}
use Rattle.basic_toml_grammar.proofs.Worked.WorkedGrammar.{text, k}
use Rattle.basic_toml_grammar.proofs.Worked.WorkedGrammar as worked

abbrev word : List ℕ → Token
word t = characters t

header_and_row : Respaced (text (codes "[a]\n\n# c\nb = 1 # d\n")) (text (codes "[a]\nb=1\n"))
unfolding chars
header_and_row = record {
  tokens = word (codes "[") ∷ word (codes "a") ∷ word (codes "]") ∷ newline ∷ word (codes "b") ∷ word (codes "=")
      ∷ word (codes "1") ∷ [];
  its = signs refl refl refl (signs refl refl refl (signs refl refl refl (feeds refl
      (signs refl refl refl (signs refl refl refl (signs refl refl refl (no_more refl)))))));
  others = signs refl refl refl (signs refl refl refl (signs refl refl refl (feeds refl
      (signs refl refl refl (signs refl refl refl (signs refl refl refl (no_more refl)))))));
}

-- brackets of an array may stand apart
nested_arrays : Respaced (text (codes "a=[[1]]")) (text (codes "\n a = [ [ 1 ] ]"))
unfolding chars
nested_arrays = record {
  tokens = word (codes "a") ∷ word (codes "=") ∷ word (codes "[") ∷ word (codes "[") ∷ word (codes "1")
      ∷ word (codes "]") ∷ word (codes "]") ∷ [];
  its = signs refl refl refl (signs refl refl refl (signs refl refl refl (signs refl refl refl
      (signs refl refl refl (signs refl refl refl (signs refl refl refl (no_more refl)))))));
  others = signs refl refl refl (signs refl refl refl (signs refl refl refl (signs refl refl refl
      (signs refl refl refl (signs refl refl refl (signs refl refl refl (no_more refl)))))));
}

-- what a text means, if anything
abbrev meaning : Text → Option Data
meaning t = and_then (section_list_of t) document_of

means : (t : Text) (tree : Data) → IsDocument t tree → meaning t ≡ Some tree
means t tree d = ap (λ o. and_then o document_of) (list_found t d.sections d.grammar) ∙ d.means

is_document : (t : Text) (sections : List Section) (tree : Data) → section_list_of t ≡ Some sections
    → document_of sections ≡ Some tree → IsDocument t tree
is_document t sections tree e m = record { sections = sections; grammar = list_read t sections e; means = m }

respaced_meaning : (t other : Text) (sections : List Section) (tree : Data) → section_list_of t ≡ Some sections
    → document_of sections ≡ Some tree → Respaced t other → meaning other ≡ Some tree
respaced_meaning t other sections tree e m r =
    means other tree ((respaced_means_nothing t other tree r).0 (is_document t sections tree e m))

abbrev root : Rows → List Section
root rows = record { at = 0; header = []; is_array = false; rows = rows } ∷ []

-- a blank in a string is part of it
blank_in_a_string : Respaced (text (codes "a = 'x y'")) (text (codes "a = 'xy'")) → ⊥
unfolding chars encode
blank_in_a_string r =
    let e : Some (table ((codes "a", Data.string (codes "xy")) ∷ []))
    ≡ Some (table ((codes "a", Data.string (codes "x y")) ∷ [])) =
    respaced_meaning (text (codes "a = 'x y'")) (text (codes "a = 'xy'"))
    (root (row (k 0 (codes "a") ∷ []) 4 (Raw.string (codes "x y") false) no_rows))
    (table ((codes "a", Data.string (codes "x y")) ∷ [])) refl refl r in
    cc

-- a blank between two words keeps them two
blank_between_words : Respaced (text (codes "a = 12")) (text (codes "a = 1 2")) → ⊥
unfolding chars
blank_between_words r =
    let e : None ≡ Some (table ((codes "a", int 12) ∷ [])) =
    respaced_meaning (text (codes "a = 12")) (text (codes "a = 1 2"))
    (root (row (k 0 (codes "a") ∷ []) 4 (worked.int 12) no_rows)) (table ((codes "a", int 12) ∷ [])) refl refl r in
    cc

-- rows a = 1, b = 2; and b first, further on
rows_turned : RowsReordered
    (root (row (k 0 (codes "a") ∷ []) 4 (worked.int 1) (row (k 6 (codes "b") ∷ []) 10 (worked.int 2) no_rows)))
    (root (row (k 1 (codes "b") ∷ []) 5 (worked.int 2) (row (k 7 (codes "a") ∷ []) 11 (worked.int 1) no_rows)))
rows_turned = section refl refl turned none
