-- A text has at most one document, since it has at most one section list.
use Rattle.std.proofs.Common.{◌≡◌, ℕ, List, Some, sym, ap, ◌∙◌, Option}
use Rattle.basic_toml_tokens.specs.Text.{folded}
use Rattle.basic_toml_value.specs.Data.{Data}
use Rattle.basic_toml_grammar.specs.Document.{document_of, IsDocument}
use Rattle.basic_toml_grammar.proofs.LawsHold.{unambiguous}

same_some : (a b : Data) → ◌≡◌ {A = Option Data} (Some a) (Some b) → a ≡ b
same_some a b e = cc

pub one_document : (text : List ℕ) (tree other : Data) → IsDocument (folded text) tree → IsDocument (folded text) other
    → tree ≡ other
one_document text tree other d e =
    let same : d.sections ≡ e.sections = unambiguous _ (folded text) d.sections e.sections d.grammar e.grammar in
    same_some tree other (sym d.means ∙ ap document_of same ∙ e.means)
