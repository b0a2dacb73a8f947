-- At a hole its sign may stand, and what fills it: some text of the grammar has the same characters before it, and goes
-- on so. After a gap of an array, where a comment may end the text, it may stand behind a line feed.
use Rattle.std.proofs.Common.{◌≡◌, ℕ, suc, Bool, true, false, List, length}
use Rattle.std.proofs.Common.{refl, ap, sym, ◌∙◌, subst, Option, Some, None}
use Rattle.std.specs.Prelude.{IsUtf8}
use Rattle.basic_toml_tokens.specs.Text.{Text, offset_in, folded}
use Rattle.basic_toml_grammar.specs.Sections.{Section}
use Rattle.basic_toml_grammar.specs.Grammar.{IsSectionList}
use Rattle.basic_toml_grammar.specs.Holes.{Hole, HoleInText}
use Rattle.basic_toml_grammar.specs.Viable.{GoesOn, HasSign, HasSignAfterFeed}
use Rattle.basic_toml_grammar.proofs.Grammar.GrammarCarried.{Seen}
use Rattle.basic_toml_grammar.proofs.Completion.Fillers.{Filler, fill_text, text_gap}
use Rattle.basic_toml_grammar.proofs.Completion.ValuesCompleted.{placed, spot, there, Goes, Leads}
use Rattle.basic_toml_grammar.proofs.Completion.TextsCompleted.{text_filled, text_fed}
use Rattle.basic_toml_grammar.proofs.Completion.CompletedBytes.{bytes_of}
use Rattle.basic_toml_grammar.proofs.Grammar.FrontsOfTexts.{front_of}

sign_placed : (s : Option ℕ) (o : ℕ) (cs : List ℕ) → Leads s cs → HasSign s (placed o cs)
sign_placed (Some c) o cs e = record { offset = o; rest = placed (suc o) e.0; starts = ap (placed o) e.1 }
sign_placed None o cs e = ap (placed o) e

-- a text of the grammar that goes on as said
goes_on : (bytes : List ℕ) → IsUtf8 bytes → {at : Text} {s : Option ℕ} (fed : Bool) (ss : List Section)
    (Next : Text → Type 0)
    → (g : Goes (offset_in (length bytes) at) fed s at (folded bytes) (λ t. IsSectionList t ss))
    → Next (there (offset_in (length bytes) at) fed g.total) → GoesOn (folded bytes) at Next
goes_on bytes utf8 {at = at} fed ss Next g next =
    let b = bytes_of fed g.total g.visible bytes utf8 g.parts in
    let f = front_of g.parts in
    record {
      front = f.chars;
      before = f.text_is;
      bytes = b.bytes;
      utf8 = b.utf8;
      sections = ss;
      grammar = subst (λ (t : Text). IsSectionList t ss) (sym b.same) g.holds;
      rest = there (offset_in (length bytes) at) fed g.total;
      same = b.same ∙ f.other_is;
      next = next;
    }

pub sign_follows : (bytes : List ℕ) → IsUtf8 bytes → {h : Hole} {s : Option ℕ} {at : Text}
    (d : HoleInText (folded bytes) h at) → Filler h s → (text_gap d ≡ true → Seen at)
    → GoesOn (folded bytes) at (HasSign s)
sign_follows bytes utf8 {s = s} {at = at} d x seen =
    let o = offset_in (length bytes) at in
    let g = text_filled o d x seen in
    goes_on bytes utf8 false (fill_text o d x) (HasSign s) g (sign_placed s o g.total g.leads)

pub sign_follows_feed : (bytes : List ℕ) → IsUtf8 bytes → {h : Hole} {s : Option ℕ} {at : Text}
    (d : HoleInText (folded bytes) h at) → Filler h s → text_gap d ≡ true
    → GoesOn (folded bytes) at (HasSignAfterFeed s)
sign_follows_feed bytes utf8 {s = s} {at = at} d x e =
    let o = offset_in (length bytes) at in
    let g = subst (λ b. Goes o b s at (folded bytes) (λ t. IsSectionList t (fill_text (spot o b) d x))) e
    (text_fed o d x) in
    goes_on bytes utf8 true (fill_text (suc (suc o)) d x) (HasSignAfterFeed s) g (record {
      offset = o;
      rest = placed (suc (suc o)) g.total;
      feed = refl;
      next = sign_placed s (suc (suc o)) g.total g.leads;
    })
