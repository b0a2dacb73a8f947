-- What the reader goes by is what is promised: a text up to a key or a bracket that is too deep goes on to the bytes of
-- a text of the grammar.
use Rattle.std.proofs.Common.{◌≡◌, ℕ, suc, false, ◌∷◌, length}
use Rattle.std.proofs.Common.{ap, sym, ◌∙◌, subst}
use Rattle.std.specs.Prelude.{not}
use Rattle.basic_toml_tokens.specs.Text.{Text, StartsWith, is_comment, offset_in, folded}
use Rattle.basic_toml_grammar.specs.NestingFaults.{first_offset, AgreeTo, here, further}
use Rattle.basic_toml_grammar.specs.Grammar.{IsSectionList}
use Rattle.basic_toml_grammar.specs.Levels.{deep_offsets}
use Rattle.basic_toml_grammar.specs.Statements.{DeepStopsAreTooDeep}
use Rattle.basic_toml_grammar.proofs.Grammar.EndChangesNothing.{Parts, at_end, past, stops}
use Rattle.basic_toml_grammar.proofs.Completion.Fillers.{fill_text, filler_seen}
use Rattle.basic_toml_grammar.proofs.Completion.ValuesCompleted.{placed}
use Rattle.basic_toml_grammar.proofs.Completion.TextsCompleted.{text_filled}
use Rattle.basic_toml_grammar.proofs.Completion.CompletedBytes.{bytes_of}
use Rattle.basic_toml_grammar.proofs.Nesting.DeepStopsAreHoles.{in_text}

agree : {p c : ℕ} {at there n n' text other : Text} → Parts at there text other → StartsWith c at p n
    → StartsWith c there p n' → AgreeTo p text other
agree {p = p} {c = c} {n = n} {n' = n'} {other = other} (at_end t o) s r =
    subst (λ (t : Text). AgreeTo p t other) (sym (t ∙ s))
    (subst (λ (u : Text). AgreeTo p ((p, c) ∷ n) u) (sym (o ∙ r)) (here {text = n} {other = n'}))
agree (past k) s r = further (agree k s r)

pub deep_stops_are_too_deep : DeepStopsAreTooDeep
deep_stops_are_too_deep limit p bytes utf8 d =
    let i = in_text limit d in
    let e = i.deepest in
    let o = offset_in (length bytes) e.at in
    let same : o ≡ p = ap (offset_in (length bytes)) e.sign in
    let seen : stops is_comment e.at ≡ false = ap (stops is_comment) e.sign ∙ ap not (filler_seen e.filler) in
    let g = text_filled o i.hole e.filler (λ n. seen) in
    let b = bytes_of false g.total g.visible bytes utf8 g.parts in
    let first : StartsWith e.char (placed o g.total) p (placed (suc o) g.leads.0) =
    ap (placed o) g.leads.1 ∙ ap (λ (n : ℕ). (n, e.char) ∷ placed (suc o) g.leads.0) same in
    record {
      bytes = b.bytes;
      utf8 = b.utf8;
      sections = fill_text o i.hole e.filler;
      agree = subst (λ (t : Text). AgreeTo p (folded bytes) t) (sym b.same) (agree g.parts e.sign first);
      grammar = subst (λ (t : Text). IsSectionList t (fill_text o i.hole e.filler)) (sym b.same) g.holds;
      first = ap (λ (n : ℕ). first_offset (deep_offsets limit (fill_text n i.hole e.filler))) same ∙ i.first;
    }
