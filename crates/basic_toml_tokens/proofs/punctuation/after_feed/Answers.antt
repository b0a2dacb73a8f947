use Rattle.std.proofs.Common.{◌+◌, List, ℕ, length, get_or, ap, sym, ◌∙◌, arith}
use Rattle.std.proofs.lemmas.List.{get_or_past}
use Rattle.basic_toml_tokens.proofs.PunctuationIsFound.{feed_there, return_there, no_feed, over}
use Rattle.basic_toml_tokens.proofs.punctuation.after_feed.Goals as goal

pub returns-then-at-bytes : goal.returns-then-at-bytes
returns-then-at-bytes c =
    over c.args.text.now c.args.at c.utf8.text c.requires
    (omega (arith, ap length c.as_bytes-bytes.ensures.value, c.if-at-bytes.true))

pub returns-then-byte-eq10 : goal.returns-then-byte-eq10
returns-then-byte-eq10 c =
    let same = c.as_bytes-bytes.ensures.value in
    feed_there c.args.text.now c.args.at c.utf8.text c.requires
    (ap (λ (t : List ℕ). get_or t c.args.at 0) (sym same) ∙ c.if-byte-eq10.true)
    (omega (arith, ap length same, c.requires.0, c.if-at-bytes.false))

pub returns-then-byte-ne13 : goal.returns-then-byte-ne13
returns-then-byte-ne13 c =
    let here = ap (λ (t : List ℕ). get_or t c.args.at 0) c.as_bytes-bytes.ensures.value in
    no_feed c.args.text.now c.args.at c.utf8.text c.requires (λ e. c.if-byte-eq10.false (here ∙ e))
    (λ e. absurd (c.if-byte-ne13.true (here ∙ e)))

pub returns-then-at-bytes-2 : goal.returns-then-at-bytes-2
returns-then-at-bytes-2 c =
    let same = c.as_bytes-bytes.ensures.value in
    let here = ap (λ (t : List ℕ). get_or t c.args.at 0) same in
    no_feed c.args.text.now c.args.at c.utf8.text c.requires (λ e. c.if-byte-eq10.false (here ∙ e))
    (λ _ e. absurd (omega (
      arith,
      get_or_past c.args.text.now (c.args.at + 1) 0 (omega (arith, ap length same, c.if-at-bytes-2.true)),
    )))

pub returns-then-bytes-at-eq10 : goal.returns-then-bytes-at-eq10
returns-then-bytes-at-eq10 c =
    let same = c.as_bytes-bytes.ensures.value in
    return_there c.args.text.now c.args.at c.utf8.text c.requires
    (ap (λ (t : List ℕ). get_or t c.args.at 0) (sym same) ∙ c.if-byte-ne13.false)
    (ap (λ (t : List ℕ). get_or t (c.args.at + 1) 0) (sym same) ∙ c.if-bytes-at-eq10.true)
    (omega (arith, ap length same, c.requires.0, c.if-at-bytes.false))

pub returns-else-bytes-at-eq10 : goal.returns-else-bytes-at-eq10
returns-else-bytes-at-eq10 c =
    let same = c.as_bytes-bytes.ensures.value in
    no_feed c.args.text.now c.args.at c.utf8.text c.requires
    (λ e. c.if-byte-eq10.false (ap (λ (t : List ℕ). get_or t c.args.at 0) same ∙ e))
    (λ _ e. c.if-bytes-at-eq10.false (ap (λ (t : List ℕ). get_or t (c.args.at + 1) 0) same ∙ e))
