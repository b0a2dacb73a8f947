-- The sections of a text go into a tree as they are read: what is known on the way, and how it ends.
use Rattle.std.proofs.Common.{◌≡◌, inl, inr, ℕ, List, [], ◌∷◌, ◌++◌, refl, ap, sym, ◌∙◌, append_assoc, Bool, true}
use Rattle.std.proofs.Common.{false, Option, MatchOption, Some, None, Result, Ok, Err, arith, length, length-append}
use Rattle.std.specs.Option.{option_or}
use Rattle.std.specs.Result.{IsErrAnd}
use Rattle.std.proofs.lemmas.List.{append_cancel_left}
use Rattle.basic_toml_tokens.specs.Text.{folded}
use Rattle.basic_toml_grammar.specs.Faults.{Fault}
use Rattle.basic_toml_grammar.specs.NamedClash.{dotted_fault}
use Rattle.basic_toml_grammar.specs.Sections.{Key, Section}
use Rattle.basic_toml_grammar.proofs.LawsHold.{keyed}
use Rattle.basic_toml_grammar.proofs.Grammar.ReaderIsSound.{list_read}
use Rattle.basic_toml_grammar.proofs.Nesting.LevelsAreWithinDepth.{list_keys}
use Rattle.basic_toml_explain.specs.Error.{want_of_memory}
use Rattle.basic_toml_explain.specs.Stop.{no_memory}
use Rattle.basic_toml_read.specs.declared.reader.SectionReader.{SectionReader}
use Rattle.basic_toml_read.specs.declared.section.Section as code
use Rattle.basic_toml_read.specs.SectionView.{section_of}
use Rattle.basic_toml_read.specs.SectionsAnswer.{memory}
use Rattle.basic_toml_read.specs.FrontOf.{sections_of}
use Rattle.basic_toml_read.specs.SectionsRead.{onto, IsBehind, SoFar, IsReady, IsList, ReadsOn}
use Rattle.basic_toml_read.specs.declared.reader.Place.{Place}
use Rattle.basic_toml_read.specs.declared.reader.Place.TheVariants.{Start, Behind}
use Rattle.basic_toml_read.proofs.SectionsHandedOut.{refused_after}
use Rattle.basic_toml_grow.specs.declared.clash.Clash.{Clash}
use Rattle.basic_toml_grow.specs.Clash.{NamesClash, NamesObstacle}
use Rattle.basic_toml_grow.specs.Crossed.{crossed_in, first_crossed}
use Rattle.basic_toml_grow.specs.Obstacles.{first_obstacle}
use Rattle.basic_toml_grow.specs.Item.{table_trie}
use Rattle.basic_toml_grow.specs.declared.item.Table.{Table}
use Rattle.basic_toml_tree.specs.declared.tree.Tree.{Tree}
use Rattle.basic_toml_tree.specs.FirstStop.{value}
use Rattle.basic_toml_tree.specs.OfText.{IsListOf, IsTreeOf, AnswersText, Takes}
use Rattle.basic_toml_tree.specs.Resolve.{refused}
use Rattle.basic_toml_tree.specs.Rest.{TellsClash}
use Rattle.basic_toml_tree.proofs.SectionsGrown.{HaveEntered, entered_resolved, kept_out, none_crossed}
use Rattle.basic_toml_tree.proofs.SectionsStopped.{crossed_joined, keyed_parts}

-- what is known before the next section is read
pub record Grows (bytes : List ℕ) (reader : SectionReader) (headers : List (ℕ × List Key)) (root : Table) : Type 0 where
  pub list : List Section
  pub text : reader.text.now ≡ bytes
  pub ready : IsReady reader
  pub so_far : SoFar reader list
  pub have : HaveEntered list headers root

-- the sections after a list so far, and the first value in them that a row goes on from
pub record IsRestSoFar (reader : SectionReader) (list : List Section) (found : Option ℕ) : Type 0 where
  pub later : List Section
  pub so_far : SoFar reader (list ++ later)
  pub first : found ≡ first_crossed later

pub rest_goes_on : {old reader : SectionReader} {list : List Section} {found here : Option ℕ} (s : Section)
    (rest : IsRestSoFar old list found) → SoFar reader ((list ++ rest.later) ++ s ∷ []) → here ≡ crossed_in s.rows
    → IsRestSoFar reader list (option_or found here)
rest_goes_on s rest so_far is = record {
  later = rest.later ++ s ∷ [];
  so_far = rw append_assoc at so_far;
  first = grind (arith, rest.first, is, crossed_joined rest.later (s ∷ []));
}

-- how it ends
list_of : (bytes : List ℕ) (list : List Section) → IsList bytes list → IsListOf bytes list
list_of bytes list is = record { grammar = list_read (folded bytes) list is.is; limit = is.limit }

-- a section that was handed out is the first of those that come after the sections before it
next_is_first : (reader : SectionReader) (list : List Section) (s : Section) (later : List Section)
    → SoFar reader (list ++ s ∷ []) → IsList reader.text.now (list ++ later)
    → (more : List Section) × (later ≡ s ∷ more)
unfolding onto
next_is_first reader list s later so_far is = at_place reader.place so_far
  where
    joined : (o : Option (List Section)) → onto (list ++ s ∷ []) o ≡ Some (list ++ later)
        → (more : List Section) × (later ≡ s ∷ more)
    joined None e = absurd (cc)
    joined (Some more) e =
        let same : (list ++ s ∷ []) ++ more ≡ list ++ later = cc in
        (more, append_cancel_left list later (s ∷ more) (sym (rw append_assoc at same)))

    at_place : (p : Place) → IsBehind reader.text.now p (list ++ s ∷ []) → (more : List Section) × (later ≡ s ∷ more)
    at_place Start so_far = absurd (omega (arith, simp length-append at (ap length so_far)))
    at_place (Behind next) so_far = joined (sections_of so_far.rest) (sym so_far.told ∙ is.is)

-- it is read whether there is a next section
module _ {bytes : List ℕ} {old reader : SectionReader} {headers : List (ℕ × List Key)} {root : Table}
    {s : code.Section} {b : Bool} (grows : Grows bytes old headers root) (on : ReadsOn old reader s (Ok b)) where
  pub text_is : reader.text.now ≡ bytes
  text_is = ap (λ t. t.now) on.text ∙ grows.text

  -- there is none
  pub ends_well : b ≡ false → IsTreeOf bytes (record { headers = headers; root = root })
  ends_well none =
      let here = list_of bytes grows.list (rw (none, text_is) at (on.read grows.list grows.so_far)) in record {
        sections = grows.list;
        list = here;
        resolved = entered_resolved grows.list _ grows.have (keyed (folded bytes) grows.list here.grammar)
            (list_keys here.grammar);
      }

  -- there is one
  pub so_far_on : b ≡ true → SoFar reader (grows.list ++ section_of s ∷ [])
  so_far_on is = rw is at (on.read grows.list grows.so_far)

  -- memory is refused to it
  pub wants_memory : b ≡ true → (tree : Tree) (result : Result (Unit {0}) Fault)
      → IsErrAnd result (λ f. f ≡ want_of_memory) → Takes bytes tree result
  wants_memory is tree (Ok x) want = absurd want
  wants_memory is tree (Err fault) want =
      rw want (inl (memory (rw text_is at
      (refused_after reader grows.list (section_of s) no_memory (so_far_on is) refl)).more))

  -- it does not go into the tree
  pub clashes : b ≡ true → (c : Clash) (fault : Fault)
      → NamesObstacle (first_obstacle (section_of s) (table_trie root)) c → (now : code.Section) → now.at ≡ s.at
      → now.header ≡ s.header → TellsClash bytes grows.list now c fault → AnswersText bytes (Err fault)
  clashes is c fault met now same header (inl refused_text) = inl refused_text
  clashes is c fault met now same header (inr told) =
      let all = grows.list ++ told.later in
      let here = list_of bytes all told.is in
      let keys = (keyed_parts grows.list told.later (keyed (folded bytes) all here.grammar)).0 in
      let all_crossed = rw (none_crossed grows.have keys) at (crossed_joined grows.list told.later) in
      let first = next_is_first reader grows.list (section_of s) told.later (so_far_on is) (rw text_is told.is) in
      (elim (first_crossed told.later) as (λ o. first_crossed told.later ≡ o
      → MatchOption o (NamesClash now c fault) (λ at. fault ≡ dotted_fault at) → AnswersText bytes (Err fault)) [
        | Some at ↦ λ crossed is.
            let unresolved = refused (value (all_crossed ∙ crossed)) in
            rw is (inr (record { sections = all; list = here; unresolved = unresolved }))
        | None ↦ λ crossed names. inr (record {
          sections = grows.list ++ section_of s ∷ first.0;
          list = rw first.1 at here;
          unresolved = kept_out grows.have s first.0 (rw first.1 at (all_crossed ∙ crossed)) c fault met now same
              header names;
        })
      ]) refl told.told
