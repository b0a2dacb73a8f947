use Rattle.std.proofs.Common.{◌≡◌, ◌<◌, ◌+◌, ℕ, length, get_or, ap, sym, subst, ◌∙◌, arith}
use Rattle.std.proofs.lemmas.Bool.{not-true, not-false}
use Rattle.basic_toml_tokens.specs.declared.error.Error.TheVariants.{InvalidCharInString}
use Rattle.basic_toml_tokens.specs.declared.quote.Piece.TheVariants.{Broken}
use Rattle.basic_toml_tokens.specs.Quote.{kind_of, IsAhead}
use Rattle.basic_toml_tokens.proofs.BytesTellThePiece.{over_ahead, one_ahead, few_ahead, several_ahead}
use Rattle.basic_toml_tokens.proofs.BytesTellThePiece.{escape_boundary, escape_ahead, feed_ahead, return_ahead}
use Rattle.basic_toml_tokens.proofs.BytesTellThePiece.{newline_ahead, control_ahead}
use Rattle.basic_toml_tokens.proofs.quote.piece_at.Goals as goal

pub returns-then-at-bytes : goal.returns-then-at-bytes
returns-then-at-bytes c =
    over_ahead (kind_of c.args.quote) c.args.start c.args.text.now c.args.at c.requires.quote c.utf8.text
    c.requires.boundary (omega (arith, ap length c.as_bytes-bytes.ensures.value, c.if-at-bytes.true))

pub returns-then-not-quote : goal.returns-then-not-quote
returns-then-not-quote c =
    let same = c.as_bytes-bytes.ensures.value in
    let within : c.args.at < length c.args.text.now =
    omega (arith, ap length same, c.requires.boundary.0, c.if-at-bytes.false) in
    let byte : get_or c.args.text.now c.args.at 0 ≡ get_or c.as_bytes-bytes.result.now c.args.at 0 =
    ap (λ bs. get_or bs c.args.at 0) (sym same) in
    one_ahead (kind_of c.args.quote) c.args.start c.args.text.now c.args.at c.requires.quote c.utf8.text
    c.requires.boundary within (byte ∙ c.if-byte-quote.true) (not-true c.args.quote.multiline c.if-not-quote.true)

pub returns-then-n-lt3 : goal.returns-then-n-lt3
returns-then-n-lt3 c =
    let same = c.as_bytes-bytes.ensures.value in
    let within : c.args.at < length c.args.text.now =
    omega (arith, ap length same, c.requires.boundary.0, c.if-at-bytes.false) in
    let byte : get_or c.args.text.now c.args.at 0 ≡ get_or c.as_bytes-bytes.result.now c.args.at 0 =
    ap (λ bs. get_or bs c.args.at 0) (sym same) in
    few_ahead (kind_of c.args.quote) c.args.start c.args.text.now c.args.at c.requires.quote c.utf8.text
    c.requires.boundary within c.delimiters-n.result (byte ∙ c.if-byte-quote.true)
    (not-false c.args.quote.multiline c.if-not-quote.false) c.delimiters-n.ensures c.if-n-lt3.true

pub returns-else-n-lt3 : goal.returns-else-n-lt3
returns-else-n-lt3 c =
    let same = c.as_bytes-bytes.ensures.value in
    let within : c.args.at < length c.args.text.now =
    omega (arith, ap length same, c.requires.boundary.0, c.if-at-bytes.false) in
    let byte : get_or c.args.text.now c.args.at 0 ≡ get_or c.as_bytes-bytes.result.now c.args.at 0 =
    ap (λ bs. get_or bs c.args.at 0) (sym same) in
    several_ahead (kind_of c.args.quote) c.args.start c.args.text.now c.args.at c.requires.quote c.utf8.text
    c.requires.boundary within c.delimiters-n.result (byte ∙ c.if-byte-quote.true)
    (not-false c.args.quote.multiline c.if-not-quote.false) c.delimiters-n.ensures c.if-n-lt3.false

pub escape-requires : goal.escape-requires
escape-requires c =
    let same = c.as_bytes-bytes.ensures.value in
    let within : c.args.at < length c.args.text.now =
    omega (arith, ap length same, c.requires.boundary.0, c.if-at-bytes.false) in
    let byte : get_or c.args.text.now c.args.at 0 ≡ get_or c.as_bytes-bytes.result.now c.args.at 0 =
    ap (λ bs. get_or bs c.args.at 0) (sym same) in
    record {
      boundary = escape_boundary (kind_of c.args.quote) c.args.start c.args.text.now c.args.at c.requires.quote
          c.utf8.text c.requires.boundary within (c.requires.not_plain within)
          (λ e. c.if-byte-quote.false (sym byte ∙ e)) (byte ∙ c.if-byte-eq92.true);
    }

pub returns-then-byte-eq92 : goal.returns-then-byte-eq92
returns-then-byte-eq92 c =
    let same = c.as_bytes-bytes.ensures.value in
    let within : c.args.at < length c.args.text.now =
    omega (arith, ap length same, c.requires.boundary.0, c.if-at-bytes.false) in
    let byte : get_or c.args.text.now c.args.at 0 ≡ get_or c.as_bytes-bytes.result.now c.args.at 0 =
    ap (λ bs. get_or bs c.args.at 0) (sym same) in
    escape_ahead (kind_of c.args.quote) c.args.start c.args.text.now c.args.at c.requires.quote c.utf8.text
    c.requires.boundary within (c.requires.not_plain within) (λ e. c.if-byte-quote.false (sym byte ∙ e)) (byte ∙
    c.if-byte-eq92.true) c.escape.result c.escape.ensures

pub returns-in-Some : goal.returns-in-Some
returns-in-Some c =
    let same = c.as_bytes-bytes.ensures.value in
    let within : c.args.at < length c.args.text.now =
    omega (arith, ap length same, c.requires.boundary.0, c.if-at-bytes.false) in
    let byte : get_or c.args.text.now c.args.at 0 ≡ get_or c.as_bytes-bytes.result.now c.args.at 0 =
    ap (λ bs. get_or bs c.args.at 0) (sym same) in
    newline_ahead (kind_of c.args.quote) c.args.start c.args.text.now c.args.at c.requires.quote c.utf8.text
    c.requires.boundary within (c.requires.not_plain within) (λ e. c.if-byte-quote.false (sym byte ∙ e))
    c.in-Some.next c.in-Some.ensures (not-true c.args.quote.multiline c.if-not-quote-2.true)

pub returns-in-Some-2 : goal.returns-in-Some-2
returns-in-Some-2 c =
    let same = c.as_bytes-bytes.ensures.value in
    let within : c.args.at < length c.args.text.now =
    omega (arith, ap length same, c.requires.boundary.0, c.if-at-bytes.false) in
    let byte : get_or c.args.text.now c.args.at 0 ≡ get_or c.as_bytes-bytes.result.now c.args.at 0 =
    ap (λ bs. get_or bs c.args.at 0) (sym same) in
    return_ahead (kind_of c.args.quote) c.args.start c.args.text.now c.args.at c.requires.quote c.utf8.text
    c.requires.boundary within (c.requires.not_plain within) (λ e. c.if-byte-quote.false (sym byte ∙ e))
    c.in-Some.next c.in-Some.ensures (byte ∙ c.if-byte-eq13.true)
    (not-false c.args.quote.multiline c.if-not-quote-2.false)

pub returns-in-Some-3 : goal.returns-in-Some-3
returns-in-Some-3 c =
    let same = c.as_bytes-bytes.ensures.value in
    let within : c.args.at < length c.args.text.now =
    omega (arith, ap length same, c.requires.boundary.0, c.if-at-bytes.false) in
    let byte : get_or c.args.text.now c.args.at 0 ≡ get_or c.as_bytes-bytes.result.now c.args.at 0 =
    ap (λ bs. get_or bs c.args.at 0) (sym same) in
    feed_ahead (kind_of c.args.quote) c.args.start c.args.text.now c.args.at c.requires.quote c.utf8.text
    c.requires.boundary within (c.requires.not_plain within) (λ e. c.if-byte-quote.false (sym byte ∙ e))
    c.in-Some.next c.in-Some.ensures (λ e. c.if-byte-eq13.false (sym byte ∙ e))
    (not-false c.args.quote.multiline c.if-not-quote-2.false)

pub returns-in-None : goal.returns-in-None
returns-in-None c =
    let same = c.as_bytes-bytes.ensures.value in
    let within : c.args.at < length c.args.text.now =
    omega (arith, ap length same, c.requires.boundary.0, c.if-at-bytes.false) in
    let byte : get_or c.args.text.now c.args.at 0 ≡ get_or c.as_bytes-bytes.result.now c.args.at 0 =
    ap (λ bs. get_or bs c.args.at 0) (sym same) in
    subst (λ (b : ℕ). IsAhead (kind_of c.args.quote) c.args.start c.args.text.now c.args.at
    (Broken (InvalidCharInString c.args.at b) (c.args.at + 1))) (byte ∙ sym c.from.ensures)
    (control_ahead (kind_of c.args.quote) c.args.start c.args.text.now c.args.at c.requires.quote c.utf8.text
    c.requires.boundary within (c.requires.not_plain within) (λ e. c.if-byte-quote.false (sym byte ∙ e))
    c.in-None.ensures (λ e. c.if-byte-eq92.false (sym byte ∙ e)))
