-- Worked texts: nesting, at a limit of 4.
use Rattle.std.proofs.Common.{◌≡◌, ℕ, suc, ◌≤◌, ◌==◌, cond, List, [], ◌∷◌, Option, Some, Bool, true, false, refl}
use Rattle.std.proofs.Common.{codes, arith}
use Rattle.std.specs.Prelude.{is_some}
use Rattle.std.specs.Str.{chars}
use Rattle.basic_toml_tokens.specs.Text.{Text, folded}
use Rattle.basic_toml_grammar.specs.Entering.{and_then}
use Rattle.basic_toml_grammar.specs.DeepStops as deep
use Rattle.basic_toml_grammar.specs.DeepStops.{DeepStop}
use Rattle.basic_toml_grammar.specs.Grammar.{one, bare}
use Rattle.basic_toml_grammar.specs.IndexedPath.{located}
use Rattle.basic_toml_grammar.specs.Levels.{highest_level, deep_offsets}
use Rattle.basic_toml_grammar.specs.NestingFaults.{deep_sections, leads_deeper, openers, before}
use Rattle.basic_toml_grammar.specs.Document.{document_within}
use Rattle.basic_toml_grammar.specs.Reader.{sections_of_bytes}
use Rattle.basic_toml_grammar.specs.Statements.{ShallowTextIsFree}
use Rattle.basic_toml_grammar.proofs.Nesting.DeepOffsetsAreOpened.{deep_offsets_are_opened}

-- the highest level, the offsets above the limit, the sections that make the tree deeper, and whether there is a document
abbrev Outcome : Type 0
Outcome = Option (ℕ × List ℕ × List ℕ × Bool)

abbrev outcome : List ℕ → Outcome
outcome bytes = and_then (sections_of_bytes bytes)
    (λ s. Some (highest_level s, deep_offsets 4 s, deep_sections 4 (located s), is_some (document_within 4 s)))

arrays : outcome (codes "a = [[[]]]") ≡ Some (4, [], [], true)
unfolding chars
arrays = refl

one_array_more : outcome (codes "a = [[[[]]]]") ≡ Some (5, 7 ∷ [], 0 ∷ [], false)
unfolding chars
one_array_more = refl

header : outcome (codes "[a.a.a]") ≡ Some (4, [], [], true)
unfolding chars
header = refl

one_key_more : outcome (codes "[a.a.a.a]") ≡ Some (5, 7 ∷ [], 0 ∷ [], false)
unfolding chars
one_key_more = refl

row_key : outcome (codes "[a]\nb.c.d = 1") ≡ Some (4, [], [], true)
unfolding chars
row_key = refl

row_key_more : outcome (codes "[a]\nb.c.d.e = 1") ≡ Some (5, 10 ∷ [], 0 ∷ [], false)
unfolding chars
row_key_more = refl

inline : outcome (codes "a = {b.c = [1]}") ≡ Some (4, [], [], true)
unfolding chars
inline = refl

inline_more : outcome (codes "a = {b.c = [[]]}") ≡ Some (5, 12 ∷ [], 0 ∷ [], false)
unfolding chars
inline_more = refl

-- numbers of elements count in the tree, and are no levels
elements : outcome (codes "[[a]]") ≡ Some (2, [], [], true)
unfolding chars
elements = refl

elements_more : outcome (codes "[[a]]\n[[a.a]]") ≡ Some (3, [], 6 ∷ [], false)
unfolding chars
elements_more = refl

-- a text outside the grammar that is too deep as well, at a limit of 2: at the second bracket, before what is wrong
deep_and_wrong : DeepStop 2 (folded (codes "a = [[!")) 5
unfolding chars
deep_and_wrong =
    deep.root (deep.this_row (deep.value (one (bare refl refl)) (omega arith) refl
    (deep.array refl (deep.elements (omega arith) (deep.this_element
    (deep.array refl (deep.this_bracket (omega arith))))))))

-- nothing is too deep in a text with one sign that leads deeper
few_openers : (p : ℕ) (text : Text) → openers (before p text) ≤ openers text
few_openers p [] = omega arith
few_openers p (x ∷ text) = go (x.0 == p) (leads_deeper x.1) refl (few_openers p text)
  where
    go : (a b : Bool) → leads_deeper x.1 ≡ b → openers (before p text) ≤ openers text
        → openers (cond a [] (x ∷ before p text)) ≤ cond b (suc (openers text)) (openers text)
    go true b e h = omega arith
    go false true e h = rw e (omega arith)
    go false false e h = rw e h

pub shallow_text : ShallowTextIsFree
unfolding chars
shallow_text p d = omega
    (arith, deep_offsets_are_opened 4 p (folded (codes "a = !")) d, few_openers p (folded (codes "a = !")))
