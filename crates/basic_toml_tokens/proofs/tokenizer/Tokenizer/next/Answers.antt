use Rattle.std.proofs.Common.{◌≡◌, ℕ, List, ap, sym, subst, ◌∙◌}
use Rattle.std.specs.Str.{IsUtf8}
use Rattle.basic_toml_tokens.specs.declared.span.Span.{Span}
use Rattle.basic_toml_tokens.specs.Reading.{Reading}
use Rattle.basic_toml_tokens.specs.declared.token.Token.{Token}
use Rattle.basic_toml_tokens.specs.TokenAt.{Lexeme}
use Rattle.basic_toml_tokens.specs.Token.{TokenAt, IsTaken, lexeme_of}
use Rattle.basic_toml_tokens.specs.Tokenizer.{Stops}
use Rattle.basic_toml_tokens.proofs.FoundIsAllThatStands.{tokens_same, token_or_stop, stops_found}
use Rattle.basic_toml_tokens.proofs.tokenizer.Tokenizer.next.Goals as goal

abbrev the_span : ℕ → ℕ → Span
the_span start end = record { start = start; end = end }

-- only the token that is taken stands there
taken_only : (text : List ℕ) (at : ℕ) → IsUtf8 text → (old : Reading) → record { text = text; offset = at } ≡ old
    → (found : Token) (next : ℕ) → IsTaken text at found next → (span : Span) → span ≡ the_span old.offset next
    → (l : Lexeme) (end : ℕ) → TokenAt old.text old.offset l end
    → (lexeme_of found ≡ l) × (span ≡ the_span old.offset end)
taken_only text at whole old same found next taken span is l end t =
    let there = subst (λ (r : Reading). TokenAt r.text r.offset l end) (sym same) t in
    let (same_token, same_end) = tokens_same text at whole _ _ _ _ taken.stands there in
    (same_token, is ∙ ap (the_span old.offset) same_end)

pub returns-in-Some-clause-only : goal.returns-in-Some-clause-only
returns-in-Some-clause-only c =
    taken_only c.self.inside.text.now c.self.inside.at c.in-Some.ensures.utf8 c.args.self.now c.self.view_is
    c.in-Some.token c.in-Some.end c.in-Some.ensures.found c.pass.result
    c.pass.ensures.span

pub returns-in-Ok-Some-clause-only : goal.returns-in-Ok-Some-clause-only
returns-in-Ok-Some-clause-only c =
    let taken : IsTaken c.self.inside.text.now c.self.inside.at c.in-Ok-Some.token c.in-Ok-Some.end =
    rw c.in-Ok-Some.field-0-is at c.in-Ok-Some.ensures.found in
    taken_only c.self.inside.text.now c.self.inside.at c.in-Ok-Some.ensures.utf8 c.args.self.now c.self.view_is
    c.in-Ok-Some.token c.in-Ok-Some.end taken c.pass-in-Ok-Some.result
    c.pass-in-Ok-Some.ensures.span

pub returns-in-Err-clause-answers : goal.returns-in-Err-clause-answers
returns-in-Err-clause-answers c =
    subst (λ (old : Reading). Stops old (record { text = c.self.inside.text.now; offset = c.in-Err.stop.at })
    c.in-Err.stop.error) c.self.view_is
    (stops_found c.self.inside.text.now c.self.inside.at c.in-Err.stop c.in-Err.ensures.found)

pub returns-in-Err-clause-only : goal.returns-in-Err-clause-only
returns-in-Err-clause-only c = λ l end t.
    let there = subst (λ (r : Reading). TokenAt r.text r.offset l end) (sym c.self.view_is) t in
    token_or_stop c.self.inside.text.now c.self.inside.at c.in-Err.ensures.utf8 l end c.in-Err.stop there
    c.in-Err.ensures.found
