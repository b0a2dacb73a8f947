use Rattle.std.proofs.Common.{◌≡◌, ℕ, List, get_or, true, ap, sym, ◌∙◌, arith}
use Rattle.basic_toml_tokens.specs.Strings.{is_quote}
use Rattle.basic_toml_tokens.proofs.OpeningIsFound.{open_one, open_feed, open_bare}
use Rattle.basic_toml_tokens.proofs.string.open.Goals as goal

pub returns-then-delimiters-lt3 : goal.returns-then-delimiters-lt3
returns-then-delimiters-lt3 c =
    let d = get_or c.as_bytes.result.now c.args.start 0 in
    let first : get_or c.args.text.now c.args.start 0 ≡ d =
    ap (λ (t : List ℕ). get_or t c.args.start 0) (sym c.as_bytes.ensures.value) in
    let quoted : is_quote d ≡ true = ap is_quote (sym first) ∙ c.requires.quote in
    open_one c.args.text.now c.args.start d c.utf8.text c.requires.boundary c.requires.within first quoted
    (omega (arith, c.delimiters.ensures.counted, c.if-delimiters-lt3.true))

pub returns-in-Some : goal.returns-in-Some
returns-in-Some c =
    let d = get_or c.as_bytes.result.now c.args.start 0 in
    let first : get_or c.args.text.now c.args.start 0 ≡ d =
    ap (λ (t : List ℕ). get_or t c.args.start 0) (sym c.as_bytes.ensures.value) in
    let quoted : is_quote d ≡ true = ap is_quote (sym first) ∙ c.requires.quote in
    open_feed c.args.text.now c.args.start d c.utf8.text c.requires.boundary c.requires.within first quoted
    c.delimiters.result c.delimiters.ensures c.if-delimiters-lt3.false c.in-Some.body c.in-Some.ensures

pub returns-in-None : goal.returns-in-None
returns-in-None c =
    let d = get_or c.as_bytes.result.now c.args.start 0 in
    let first : get_or c.args.text.now c.args.start 0 ≡ d =
    ap (λ (t : List ℕ). get_or t c.args.start 0) (sym c.as_bytes.ensures.value) in
    let quoted : is_quote d ≡ true = ap is_quote (sym first) ∙ c.requires.quote in
    open_bare c.args.text.now c.args.start d c.utf8.text c.requires.boundary c.requires.within first quoted
    c.delimiters.result c.delimiters.ensures c.if-delimiters-lt3.false c.in-None.ensures
