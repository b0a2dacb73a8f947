use Rattle.std.proofs.Common.{◌≡◌, ◌+◌, true, false, None, get_or, ap, sym, ◌∙◌, arith}
use Rattle.basic_toml_tokens.specs.Quote.{kind_of}
use Rattle.basic_toml_tokens.proofs.PiecesSoFar.{at_body, plain_run}
use Rattle.basic_toml_tokens.proofs.BytesTellThePiece.{one_ahead}
use Rattle.basic_toml_tokens.proofs.StringIsItsPieces.{simple_closes}
use Rattle.basic_toml_tokens.proofs.SimpleStrings.{verbatim_closes, no_lines, not_at_the_end, not_elsewhere}
use Rattle.basic_toml_tokens.proofs.string.simple_string.Goals as goal
use Rattle.basic_toml_tokens.proofs.string.simple_string.Goals.{else-last-text-via-then-last-text+else-as_bytes-last, else-last-text-via-else-last-text}

pub returns-then-as_bytes-last-clause-found : goal.returns-then-as_bytes-last-clause-found
returns-then-as_bytes-last-clause-found c =
    let (quote, body) = c.open-body.result in
    let bytes = c.args.text.now in
    let last = c.end_of_plain-last.result in
    let run = c.end_of_plain-last.ensures.run in
    let so_far = plain_run (kind_of quote) bytes body body body last None
    (at_body (kind_of quote) bytes body c.open-body.ensures.boundary) run in
    let byte : get_or bytes last 0 ≡ quote.delimiter =
    ap (λ bs. get_or bs last 0) (sym c.as_bytes.ensures.value) ∙ c.if-as_bytes-last.true in
    let (tail, closes, v, g, later, none_special) = one_ahead (kind_of quote) c.args.start bytes last
    c.open-body.ensures.quoted c.utf8.text so_far.boundary (omega (arith, c.if-last-text.true)) byte c.if-quote.false in
    simple_closes bytes c.args.start body last (last + 1) quote c.range.result.now tail c.open-body.ensures so_far
    c.if-quote.false closes v g none_special c.range.ensures.value
    (verbatim_closes bytes c.args.start body last quote c.open-body.ensures run (last + 1) tail c.if-quote.false closes)

pub returns-then-quote-clause-none : goal.returns-then-quote-clause-none
returns-then-quote-clause-none c = λ rest v.
    let (quote, body) = c.open-body.result in
    let lines : true ≡ false = sym c.if-quote.true ∙
    no_lines c.args.text.now c.args.start body quote c.open-body.ensures rest v in cc

pub returns-else-last-text-clause-none : goal.returns-else-last-text-clause-none
returns-else-last-text-clause-none c =
    let (quote, body) = c.open-body.result in
    let bytes = c.args.text.now in
    let last = c.end_of_plain-last.result in
    let run = c.end_of_plain-last.ensures.run in
    elim c.else-last-text.branch [
      | else-last-text-via-then-last-text+else-as_bytes-last w ↦
          not_elsewhere bytes c.args.start body last quote c.open-body.ensures run c.utf8.text
          (λ e. w.if-as_bytes-last.false (ap (λ bs. get_or bs last 0) w.as_bytes.ensures.value ∙ e))
      | else-last-text-via-else-last-text w ↦
          not_at_the_end bytes c.args.start body last quote c.open-body.ensures run w.if-last-text.false
    ]
